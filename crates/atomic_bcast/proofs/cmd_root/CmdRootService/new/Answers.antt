use Rattle.std.proofs.Common.{sym, refl}
use Rattle.ordered_rounds.specs.Laws.EarlyCommands.{new_known, new_tight}
use Rattle.atomic_bcast.proofs.cmd_root.CmdRootService.new.Goals as goal

pub returns : goal.returns
returns c = λ seat numbers mode me. record {
  numbers = sym numbers;
  me = sym me;
  inputs = refl;
  heard = λ o k within. new_known 31 c.new.result o k c.new.ensures.empty;
  tight = new_tight seat.numbers.n 31 c.new.result c.new.ensures.empty;
  live = refl;
}
