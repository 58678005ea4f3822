use Rattle.std.proofs.Common.{true, false, refl, sym, ◌∙◌}
use Rattle.node_loop.specs.Resending.{peers_due}
use Rattle.node_loop.specs.Standing.{is_before_other}
use Rattle.node_loop.proofs.Wishing.{lesser_is}
use Rattle.node_loop.proofs.house.House.lesser_wishing.Goals as goal
use Rattle.node_loop.proofs.house.House.lesser_wishing.Goals.{else-is_some-via-then-is_some+else-is_less, else-is_some-via-else-is_some}

pub returns-then-is_less : goal.returns-then-is_less
returns-then-is_less g c = record {
  least = λ w es numbers ws p at stands number.
      lesser_is at c.args.number (peers_due w es p at) c.due_at.result c.args.least true true (c.due_at.ensures.first w es numbers ws p at stands number) c.if-is_some.ensures c.if-is_less.ensures.value;
}

pub returns-else-is_some : goal.returns-else-is_some
returns-else-is_some g c = record {
  least = λ w es numbers ws p at stands number. elim c.else-is_some.branch [
    | else-is_some-via-then-is_some+else-is_less b ↦
        lesser_is at c.args.number (peers_due w es p at) c.due_at.result c.args.least true false (c.due_at.ensures.first w es numbers ws p at stands number)
        (sym b.if-is_some.true ∙ c.is_some.ensures) (sym b.if-is_less.false ∙ b.is_less.ensures.value)
    | else-is_some-via-else-is_some b ↦
        lesser_is at c.args.number (peers_due w es p at) c.due_at.result c.args.least false (is_before_other c.args.number c.args.least) (c.due_at.ensures.first w es numbers ws p at stands number)
        (sym b.if-is_some.false ∙ c.is_some.ensures) refl
  ];
}
