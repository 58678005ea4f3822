-- A box's own numbers and slots, and those of its bench.
use Rattle.std.proofs.Common.{◌≡◌, ℕ, ◌<◌, ◌==◌, Bool, List, Option, Some, None, if◌then◌else◌, ne_eqb, refl, sym, ◌∙◌, ap, subst, arith}
use Rattle.std.specs.Option.{option_or}
use Rattle.ritas_base.specs.declared.slot.Slot.{Slot}
use Rattle.ritas_base.specs.Numbers.{Numbers, wait_of}
use Rattle.layer_api.specs.Words.{Word}
use Rattle.layer_api.specs.Binary.{Bench}
use Rattle.layer_api.specs.Calls.{IsCoin}
use Rattle.bracha_validation.specs.declared.tally.Tally.{Tally}
use Rattle.bracha_validation.specs.Tallies.{IsTally}
use Rattle.binary_consensus.specs.Steps.{line_slot, heard, accepted}
use Rattle.binary_consensus.specs.Consensus.{decides, next_said}
use Rattle.binary_consensus.specs.Counts.{HeardRows, row_votes}
use Rattle.binary_consensus.specs.Going.{own_step_slot, IsBinaryPart, AreRowsHeard, Leaves}
use Rattle.binary_consensus.specs.declared.part.Part.{Part}
use Rattle.binary_consensus.specs.declared.leaving.Left.{Left}
use Rattle.binary_consensus.proofs.Hearing.{same_accepted}

pub own_is : (part : Part) (p : Numbers) (at : Bench) (t : ℕ) → IsBinaryPart part p at → own_step_slot part t ≡ line_slot at t at.me
own_is part p at t is = rw (is.me, is.a, is.attempt) refl

-- the counts of what is accepted at a step
pub tally_now : (part : Part) (line : HeardRows) (at : Bench) (w : List Word) (t : ℕ) (votes : Tally) → IsBinaryPart part line.numbers at → AreRowsHeard at line.rows w → t < 600
    → IsTally votes (accepted line.numbers (row_votes line.rows) t) → IsTally votes (accepted at.numbers (heard at w) t)
tally_now part line at w t votes is are l tally =
    subst (λ (vs : List ℕ). IsTally votes vs)
    (ap (λ (p : Numbers). accepted p (row_votes line.rows) t) is.numbers
    ∙ same_accepted at.numbers (row_votes line.rows) (heard at w) t (λ s k below within. are s k (omega (arith, l, below)) within)) tally

pub wait_is : (part : Part) (line : HeardRows) (at : Bench) (p : Numbers) (wait : ℕ) → IsBinaryPart part line.numbers at → p ≡ line.numbers → wait ≡ wait_of p → wait ≡ wait_of at.numbers
wait_is part line at p wait is e q = q ∙ (ap wait_of e ∙ ap wait_of is.numbers)

pub leaves_at : (part : Part) (line : HeardRows) (p : Numbers) (at : Bench) (bits : Slot → Bool) (t : ℕ) (votes : Tally) (known : Option Bool) (left : Left) (vs : List ℕ)
    → Leaves part p bits t votes known left → p ≡ line.numbers → IsBinaryPart part line.numbers at → IsCoin at.coin bits → IsTally votes vs
    → (left.decided ≡ option_or known (decides at.numbers t (Some vs))) × (left.next ≡ (if t == 599 then None else next_said at t known (Some vs)))
leaves_at part line p at bits t votes known left vs leaves e is tosses tally =
    let h = leaves at vs (subst (λ (q : Numbers). IsBinaryPart part q at) (sym e) is) tosses tally in
    (h.0 ∙ ap (λ (q : Numbers). option_or known (decides q t (Some vs))) (e ∙ is.numbers), h.1)

-- a vote follows a step that is not the last
pub next_at : (at : Bench) (t : ℕ) (known : Option Bool) (vs : List ℕ) (v : ℕ) → t < 599 → Some v ≡ (if t == 599 then None else next_said at t known (Some vs))
    → Some v ≡ next_said at t known (Some vs)
next_at at t known vs v l e = e ∙ ap (λ (b : Bool). if b then None else next_said at t known (Some vs)) (ne_eqb t 599 (λ q. omega (arith, q, l)))
