use Rattle.keyed_channel.proofs.Noting.{no_frames}
use Rattle.keyed_channel.proofs.laws.notes_are_no_frames.Goals as goal

pub returns : goal.returns
returns c = no_frames
