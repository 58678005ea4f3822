use Rattle.std.proofs.Common.{◌≡◌, Bool}
use Rattle.std.specs.List.{list_any}
use Rattle.std.specs.Map.{values_of}
use Rattle.ritas_base.specs.declared.item.Item.{Item}
use Rattle.ooc_buffers.specs.Closures.{Computes}
use Rattle.ooc_buffers.proofs.firsts.any_passes.Given as goal

abbrev pub invariant-loop-first : goal.invariant-loop-first
invariant-loop-first g l = record {
  can : (goal.iterator-loop-first g).can_next l.first-iterator;
  finite : (goal.iterator-loop-first g).is_finite l.first-iterator;
  same : (t : Item → Bool) → Computes g.F.Fn l.test t → list_any t l.first-iterator ≡ list_any t (values_of l.firsts.entries);
}
