use Rattle.std.proofs.Common.{true, false, refl, sym, ◌∙◌}
use Rattle.node_loop.specs.Serving.{kept_bytes, is_overfull}
use Rattle.node_loop.specs.Standing.{is_before_other}
use Rattle.node_loop.proofs.Overfull.{lesser_over}
use Rattle.node_loop.proofs.house.House.lesser_overfull.Goals as goal
use Rattle.node_loop.proofs.house.House.lesser_overfull.Goals.{else-is_some-via-then-is_some+else-is_less, else-is_some-via-else-is_some}

pub returns-then-is_less : goal.returns-then-is_less
returns-then-is_less g c = record {
  least = λ w es numbers ws p at stands number.
      lesser_over c.args.number (kept_bytes w p at) c.overfull_at.result c.args.least (is_overfull w p at) true true (c.overfull_at.ensures.over w es numbers ws p at stands number) c.if-is_some.ensures c.if-is_less.ensures.value;
}

pub returns-else-is_some : goal.returns-else-is_some
returns-else-is_some g c = record {
  least = λ w es numbers ws p at stands number. elim c.else-is_some.branch [
    | else-is_some-via-then-is_some+else-is_less b ↦
        lesser_over c.args.number (kept_bytes w p at) c.overfull_at.result c.args.least (is_overfull w p at) true false (c.overfull_at.ensures.over w es numbers ws p at stands number)
        (sym b.if-is_some.true ∙ c.is_some.ensures) (sym b.if-is_less.false ∙ b.is_less.ensures.value)
    | else-is_some-via-else-is_some b ↦
        lesser_over c.args.number (kept_bytes w p at) c.overfull_at.result c.args.least (is_overfull w p at) false (is_before_other c.args.number c.args.least) (c.overfull_at.ensures.over w es numbers ws p at stands number)
        (sym b.if-is_some.false ∙ c.is_some.ensures) refl
  ];
}
