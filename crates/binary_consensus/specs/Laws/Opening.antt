-- The steps that open go by their round alone.
use Rattle.std.specs.Prelude.{◌≡◌, ℕ, ◌+◌, Bool, true, ◌==◌, List, if◌then◌else◌}
use Rattle.std.proofs.Common.{sym, ◌∙◌, ap, arith}
use Rattle.std.proofs.lemmas.Bool.{and_parts, and_from, leb-true, le-leb}
use Rattle.ritas_base.specs.declared.slot.Slot.{Slot}
use Rattle.ritas_base.specs.Slots.{within}
use Rattle.layer_api.specs.Service.{Seat}
use Rattle.layer_api.specs.Words.{Word}
use Rattle.layer_api.specs.Binary.{BinaryRules}
use Rattle.layer_api.specs.OneInstance.{is_given}
use Rattle.layer_api.specs.OpeningLaws.{IsNoLater, OpensDown}
use Rattle.binary_consensus.specs.Root.{root_bench, is_root_step, step_opens, binary_root}

-- a slot that is no later than a step's is one of a step
no_later_step : (s t : Slot) → IsNoLater s t → is_root_step t ≡ true → is_root_step s ≡ true
no_later_step s t near e =
    let x = and_parts (t.class == 5) _ e in
    let y = and_parts (t.a == 0) _ x.1 in
    let z = and_parts (t.attempt == 0) _ y.1 in
    let five : (s.class == 5) ≡ true = ap (λ (c : ℕ). c == 5) near.class ∙ x.0 in
    and_from (s.class == 5) _ five
    (and_from (s.a == 0) _ (ap (λ (k : ℕ). k == 0) near.number ∙ y.0)
    (and_from (s.attempt == 0) _ (ap (λ (k : ℕ). k == 0) near.attempt ∙ z.0)
    (and_from (within 1 200 s.bround) _
    (sym (ap (λ (b : Bool). if b then within 1 200 s.bround else s.bround == 0) five) ∙ near.round)
    (sym (ap (λ (b : Bool). if b then within 1 3 s.step else s.step == 0) five) ∙ near.step))))

steps_open_down : (given : Bool) (round : ℕ) → OpensDown (step_opens given round)
steps_open_down given round s t near e =
    let x = and_parts given _ e in
    let y = and_parts (is_root_step t) _ x.1 in
    let last = leb-true _ _ y.1 in
    let low = near.bround in
    and_from given _ x.0 (and_from (is_root_step s) _ (no_later_step s t near y.0) (le-leb s.bround (round + 1) (omega (arith, last, low))))

pub root_opens_down : (b : BinaryRules) (seat : Seat) (w : List Word) → OpensDown ((binary_root b).opens seat w)
root_opens_down b seat w = steps_open_down (is_given w) (b.round (root_bench seat) w)
