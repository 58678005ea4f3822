use Rattle.std.proofs.Common.{◌<◌, ◌^◌, ap, ◌∙◌, sym, ℕ, arith}
use Rattle.std.specs.Prelude.{◌==◌}
use Rattle.std.proofs.lemmas.Bool.{le-ltb}
use Rattle.std.proofs.lemmas.Nat.Bits.{shr_and_one, bit_at_above}
use Rattle.ritas_base.specs.Members.{has_member}
use Rattle.ritas_base.proofs.sender_set.SenderSet.has.Goals as goal

pub returns-then-k-lt32 : goal.returns-then-k-lt32
unfolding has_member
returns-then-k-lt32 c =
    ap (λ (b : ℕ). b == 1) (shr_and_one c.self.inside.mask c.args.k) ∙ ap (λ (m : ℕ). has_member m c.args.k) c.self.view_is

-- no mask has a bit from 32 on
pub returns-else-k-lt32 : goal.returns-else-k-lt32
unfolding has_member
returns-else-k-lt32 c =
    let fits : c.self.inside.mask < 2 ^ 32 = omega arith in
    le-ltb c.args.k 32 c.if-k-lt32.false ∙ sym (ap (λ (b : ℕ). b == 1) (bit_at_above c.self.inside.mask 32 c.args.k fits c.if-k-lt32.false)) ∙ ap (λ (m : ℕ). has_member m c.args.k) c.self.view_is
