use Rattle.std.proofs.Common.{true, false, refl, sym, ◌∙◌}
use Rattle.node_loop.specs.Standing.{is_before_other}
use Rattle.node_loop.proofs.Chaining.{lesser_by}
use Rattle.node_loop.proofs.house.House.lesser_closing.Goals as goal
use Rattle.node_loop.proofs.house.House.lesser_closing.Goals.{else-wishes_at-via-then-wishes_at+else-is_less, else-wishes_at-via-else-wishes_at}

pub returns-then-is_less : goal.returns-then-is_less
returns-then-is_less g c = record {
  least = λ w es numbers ws p stands number.
      lesser_by c.args.number c.args.least true true _ _ (c.if-wishes_at.ensures.wishes w es numbers ws p stands number) c.if-is_less.ensures.value;
}

pub returns-else-wishes_at : goal.returns-else-wishes_at
returns-else-wishes_at g c = record {
  least = λ w es numbers ws p stands number. elim c.else-wishes_at.branch [
    | else-wishes_at-via-then-wishes_at+else-is_less b ↦
        lesser_by c.args.number c.args.least true false _ _ (sym b.if-wishes_at.true ∙ c.wishes_at.ensures.wishes w es numbers ws p stands number)
        (sym b.if-is_less.false ∙ b.is_less.ensures.value)
    | else-wishes_at-via-else-wishes_at b ↦
        lesser_by c.args.number c.args.least false (is_before_other c.args.number c.args.least) _ _ (sym b.if-wishes_at.false ∙ c.wishes_at.ensures.wishes w es numbers ws p stands number)
        refl
  ];
}
