use Rattle.echo_bcast.proofs.Reading.{good_is}
use Rattle.echo_bcast.proofs.laws.good_is.Goals as goal

pub returns : goal.returns
returns c = good_is
