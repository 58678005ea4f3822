use Rattle.echo_bcast.proofs.Reading.{hashes_carry}
use Rattle.echo_bcast.proofs.laws.hashes_carry.Goals as goal

pub returns : goal.returns
returns c = hashes_carry
