use Rattle.echo_bcast.proofs.Reading.{senders_are}
use Rattle.echo_bcast.proofs.laws.senders_are.Goals as goal

pub returns : goal.returns
returns c = senders_are
