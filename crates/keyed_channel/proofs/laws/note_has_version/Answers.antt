use Rattle.keyed_channel.proofs.Noting.{has_version}
use Rattle.keyed_channel.proofs.laws.note_has_version.Goals as goal

pub returns : goal.returns
returns c = has_version
