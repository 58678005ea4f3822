-- The slots that open go by class, number, attempt and round alone.
use Rattle.std.specs.Prelude.{◌≡◌, ℕ, Bool, true, false, ◌==◌, List, is_some, if◌then◌else◌}
use Rattle.std.proofs.Common.{◌∙◌, ap}
use Rattle.std.proofs.lemmas.Bool.{and_parts, and_from}
use Rattle.ritas_base.specs.declared.slot.Slot.{Slot}
use Rattle.layer_api.specs.Service.{Seat}
use Rattle.layer_api.specs.Words.{Word}
use Rattle.layer_api.specs.Part.{proposed}
use Rattle.layer_api.specs.Multi.{Desk, MultiRules}
use Rattle.layer_api.specs.Vectors.{VectorRules, is_vector_slot}
use Rattle.layer_api.specs.OpeningLaws.{IsNoLater, OpensDown, no_later_in}
use Rattle.vector_consensus.specs.Consensus.{try_desk, try_words, vectors}
use Rattle.vector_consensus.specs.Root.{vector_root_desk, vector_root}

-- whether a proposal's slot may be taken, or one of an attempt
abbrev allowed : MultiRules → Desk → List Word → Bool → ℕ → Slot → Bool
allowed m at w own k s = if own then is_some (proposed w) else m.opens (try_desk at k) (try_words m at k w) s

allowed_down : (m : MultiRules) (down : (at : Desk) (w : List Word) → OpensDown (m.opens at w)) (at : Desk) (w : List Word) (own : Bool) (k : ℕ)
    (s t : Slot) → IsNoLater s t → allowed m at w own k t ≡ true → allowed m at w own k s ≡ true
allowed_down m down at w true k s t near e = e
allowed_down m down at w false k s t near e = down (try_desk at k) (try_words m at k w) s t near e

pub vector_opens_down : (m : MultiRules) → ((at : Desk) (w : List Word) → OpensDown (m.opens at w)) → (at : Desk) (w : List Word) → OpensDown ((vectors m).opens at w)
vector_opens_down m down at w s t near e =
    let x = and_parts (is_vector_slot at.scope t) _ e in
    let same : (s.class == 2) ≡ (t.class == 2) = ap (λ (c : ℕ). c == 2) near.class in
    let there = allowed_down m down at w (t.class == 2) t.attempt s t near x.1 in
    and_from (is_vector_slot at.scope s) _ (no_later_in at.scope.numbers.f at.scope.a s t near x.0)
    (ap (λ (b : Bool). allowed m at w b s.attempt s) same ∙ ap (λ (k : ℕ). allowed m at w (t.class == 2) k s) near.attempt ∙ there)

pub root_opens_down : (v : VectorRules) → ((at : Desk) (w : List Word) → OpensDown (v.opens at w)) → (seat : Seat) (w : List Word) → OpensDown ((vector_root v).opens seat w)
root_opens_down v down seat w s t near e =
    let at = vector_root_desk seat in
    let x = and_parts (is_vector_slot at.scope t) _ e in
    and_from (is_vector_slot at.scope s) _ (no_later_in seat.numbers.f 0 s t near x.0) (down at w s t near x.1)
