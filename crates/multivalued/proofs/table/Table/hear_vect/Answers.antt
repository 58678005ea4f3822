use Rattle.std.proofs.Common.{subst, sym, arith, List, ℕ, inl, inr}
use Rattle.multivalued.specs.Tables.{HearsVect}
use Rattle.multivalued.proofs.table.Table.hear_vect.Goals as goal

pub returns-then-value-lt4-clause-ok : goal.returns-then-value-lt4-clause-ok
returns-then-value-lt4-clause-ok c =
    let short = c.if-value-lt4.true in
    λ long. elim long [
      | inl e ↦ subst (λ (x : List ℕ). HearsVect c.args.k x c.args.self.now c.hear_none.new.self) (sym e) c.hear_none.ensures.ok
      | inr l ↦ absurd (omega (arith, l, short))
    ]
