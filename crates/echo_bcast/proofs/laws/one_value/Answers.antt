use Rattle.echo_bcast.specs.Laws.OneValue.{one_value_of_echo}
use Rattle.echo_bcast.proofs.laws.one_value.Goals as goal

pub returns : goal.returns
returns c = one_value_of_echo
