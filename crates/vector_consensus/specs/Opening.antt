-- Which slots are open, as the code tells it.
use Rattle.std.specs.Prelude.{◌≡◌, ◌≤◌, Bool, true, false, ◌==◌, ◌&&◌, nat_lt, nat_le, if◌then◌else◌, List, Option, Some, None}
use Rattle.std.specs.List.{slice_get}
use Rattle.std.proofs.Common.{sym, ◌∙◌, ap}
use Rattle.std.proofs.lemmas.Bool.{and_parts, leb-true}
use Rattle.ritas_base.specs.declared.slot.Slot.{Slot}
use Rattle.ritas_base.specs.Slots.{within}
use Rattle.layer_api.specs.Multi.{Scope}
use Rattle.layer_api.specs.MultiCalls.{MultiShown}
use Rattle.layer_api.specs.Vectors.{is_slot_in, is_vector_slot}
use Rattle.vector_consensus.specs.declared.part.Part.{Part}
use Rattle.vector_consensus.specs.declared.going.Progress.{Progress}

-- an attempt takes items of a slot, if it is there
abbrev pub attempt_opens : {M : Type 0} → (M → MultiShown) → Option M → Slot → Bool
attempt_opens shown None s = false
attempt_opens shown (Some b) s = (shown b).opens s

-- items of it may be taken: of a proposal once something is proposed, and of an attempt that began where that takes them
abbrev pub is_slot_allowed : {M : Type 0} → (M → MultiShown) → Progress → List M → Slot → Bool
is_slot_allowed shown now ts s = if s.class == 2 then now.own else nat_lt s.attempt now.begun && attempt_opens shown (slice_get ts s.attempt) s

-- whether items of the slot may be taken
abbrev pub attempts_open : {M : Type 0} → (M → MultiShown) → Part → Progress → List M → Slot → Bool
attempts_open shown part now ts s = is_slot_in part.last part.a s && is_slot_allowed shown now ts s

-- a slot of the instance that isn't of a proposal is of an attempt
pub attempt_few : (at : Scope) (s : Slot) → is_vector_slot at s ≡ true → (s.class == 2) ≡ false → s.attempt ≤ at.numbers.f
attempt_few at s e other =
    let x = and_parts (within 2 5 s.class) _ e in
    let y = and_parts (s.a == at.a) _ x.1 in
    let z = and_parts (if s.class == 2 then s.attempt == 0 else nat_le s.attempt at.numbers.f) _ y.1 in
    leb-true s.attempt at.numbers.f (sym (ap (λ (b : Bool). if b then s.attempt == 0 else nat_le s.attempt at.numbers.f) other) ∙ z.0)
