use Rattle.std.proofs.Common.{◌≡◌, ◌∙◌, sym, ap, arith, ℕ, inl, inr}
use Rattle.std.specs.Prelude.{cond, unwrap_or, Option}
use Rattle.std.proofs.lemmas.Bool.{cases_Bool}
use Rattle.ooc_buffers.specs.Keys.{key_eq, count_at}
use Rattle.ooc_buffers.proofs.KeyLaws.{key_exact, key_other}
use Rattle.ooc_buffers.proofs.key.count_out.Goals as goal

pub returns-else-count-gt1 : goal.returns-else-count-gt1
returns-else-count-gt1 c = λ q.
    let key = c.args.key.now in
    elim (cases_Bool (key_eq q key)) [
      | inl same ↦
          let is = key_exact q key same in
          let gone = ap (λ (o : Option ℕ). unwrap_or o 0) c.swap_remove.ensures.updates.1 in
          let here : count_at c.swap_remove.new.self q ≡ 0 = ap (count_at c.swap_remove.new.self) is ∙ gone in
          let was : count_at c.args.index.now q ≡ c.count_of-count.result = ap (count_at c.args.index.now) is ∙ sym c.count_of-count.ensures in
          let one : cond {A = ℕ} (key_eq q key) 1 0 ≡ 1 = ap (λ b. cond b 1 0) same in
          omega (arith, here, was, one, c.if-count-gt1.false)
      | inr other ↦
          let stays = ap (λ (o : Option ℕ). unwrap_or o 0) (c.swap_remove.ensures.updates.2 q (key_other q key other)) in
          let none : cond {A = ℕ} (key_eq q key) 1 0 ≡ 0 = ap (λ b. cond b 1 0) other in
          omega (arith, stays, none)
    ]
