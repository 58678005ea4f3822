-- The slots that open go by class, number, attempt and round alone.
use Rattle.std.specs.Prelude.{◌≡◌, ℕ, ◌+◌, ◌≤◌, Bool, true, false, ◌==◌, ◌&&◌, nat_le, List, is_some, if◌then◌else◌}
use Rattle.std.proofs.Common.{◌∙◌, ap, arith}
use Rattle.std.proofs.lemmas.Bool.{and_parts, and_from, leb-true, le-leb}
use Rattle.layer_api.specs.Service.{Seat}
use Rattle.layer_api.specs.Words.{Word}
use Rattle.layer_api.specs.Part.{proposed}
use Rattle.layer_api.specs.Binary.{BinaryRules}
use Rattle.layer_api.specs.Multi.{Scope, Desk, MultiRules, is_multi_slot}
use Rattle.layer_api.specs.OpeningLaws.{OpensDown, no_later_of}
use Rattle.multivalued.specs.Consensus.{is_step, bit_asked, bit_words, bench_of, multi_opens, multivalued}
use Rattle.multivalued.specs.Root.{multi_root_desk, multi_root}

-- what of a slot inside the instance is asked, by whether it is of a step
abbrev allowed : Scope → List Word → ℕ → Bool → ℕ → Bool
allowed at w round step bround = if step then is_some (bit_asked at w) && nat_le bround (round + 1) else is_some (proposed w)

allowed_down : (at : Scope) (w : List Word) (round : ℕ) (step : Bool) (low high : ℕ) → low ≤ high → allowed at w round step high ≡ true → allowed at w round step low ≡ true
allowed_down at w round false low high less e = e
allowed_down at w round true low high less e =
    let x = and_parts (is_some (bit_asked at w)) _ e in
    let last = leb-true _ _ x.1 in
    and_from (is_some (bit_asked at w)) _ x.0 (le-leb low (round + 1) (omega (arith, last, less)))

slots_open_down : (at : Scope) (w : List Word) (round : ℕ) → OpensDown (multi_opens at w round)
slots_open_down at w round s t near e =
    let x = and_parts (is_multi_slot at t) _ e in
    let same : is_step s ≡ is_step t = ap (λ (c : ℕ). c == 5) near.class in
    and_from (is_multi_slot at s) _ (no_later_of at.a at.attempt s t near x.0)
    (ap (λ (b : Bool). allowed at w round b s.bround) same ∙ allowed_down at w round (is_step t) s.bround t.bround near.bround x.1)

pub multi_opens_down : (b : BinaryRules) (at : Desk) (w : List Word) → OpensDown ((multivalued b).opens at w)
multi_opens_down b at w = slots_open_down at.scope w (b.round (bench_of at) (bit_words at.scope w))

pub root_opens_down : (m : MultiRules) → ((at : Desk) (w : List Word) → OpensDown (m.opens at w)) → (seat : Seat) (w : List Word) → OpensDown ((multi_root m).opens seat w)
root_opens_down m down seat w s t near e =
    let at = multi_root_desk seat in
    let x = and_parts (is_multi_slot at.scope t) _ e in
    and_from (is_multi_slot at.scope s) _ (no_later_of 0 0 s t near x.0) (down at w s t near x.1)
