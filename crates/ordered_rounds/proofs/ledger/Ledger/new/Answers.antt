use Rattle.std.proofs.Common.{ap, reverse, List}
use Rattle.std.specs.List.{list_any}
use Rattle.std.specs.BTreeMap.{is_at}
use Rattle.ritas_base.specs.declared.id.Id.{Id}
use Rattle.ordered_rounds.specs.Early.{id_cmp}
use Rattle.ordered_rounds.specs.Laws.EarlyCommands.{new_known, new_tight}
use Rattle.ordered_rounds.proofs.ledger.Ledger.new.Goals as goal

pub returns : goal.returns
returns c = record {
  pending = λ x. ap (λ (ids : List Id). list_any (is_at (id_cmp x)) ids) c.new.ensures.empty;
  listed = ap reverse c.new-3.ensures.items;
  known = λ o k within. new_known 31 c.new-2.result o k c.new-2.ensures.empty;
  tight = new_tight 31 31 c.new-2.result c.new-2.ensures.empty;
  origins = tt;
  heard = λ x h. h;
}
