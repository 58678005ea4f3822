use Rattle.keyed_channel.proofs.RowsSending.{rows_are_no_frames_holds}
use Rattle.keyed_channel.proofs.laws.rows_are_no_frames.Goals as goal

pub returns : goal.returns
returns c = rows_are_no_frames_holds
