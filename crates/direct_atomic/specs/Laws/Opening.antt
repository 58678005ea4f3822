-- The slots that open go by class, number, attempt and round alone.
use Rattle.std.specs.Prelude.{◌≡◌, ℕ, Bool, true, false, ◌==◌, List, is_some, if◌then◌else◌}
use Rattle.std.proofs.Common.{◌∙◌, ap}
use Rattle.std.proofs.lemmas.Bool.{and_parts, and_from}
use Rattle.ritas_base.specs.declared.slot.Slot.{Slot}
use Rattle.layer_api.specs.Words.{Word}
use Rattle.layer_api.specs.Part.{proposed}
use Rattle.layer_api.specs.Multi.{Desk, MultiRules}
use Rattle.layer_api.specs.Vectors.{is_slot_in}
use Rattle.layer_api.specs.OpeningLaws.{IsNoLater, OpensDown, no_later_in}
use Rattle.direct_atomic.specs.Lists.{inner_desk, inner_words, lists}

-- whether a list's slot may be taken, or one of the instance
abbrev allowed : MultiRules → Desk → List Word → Bool → Slot → Bool
allowed m at w own s = if own then is_some (proposed w) else m.opens (inner_desk at) (inner_words at.scope w) s

module _ (m : MultiRules) (down : (at : Desk) (w : List Word) → OpensDown (m.opens at w)) (at : Desk) (w : List Word) where
  allowed_down : (own : Bool) (s t : Slot) → IsNoLater s t → allowed m at w own t ≡ true → allowed m at w own s ≡ true
  allowed_down true s t near e = e
  allowed_down false s t near e = down (inner_desk at) (inner_words at.scope w) s t near e

  pub lists_open_down : OpensDown ((lists m).opens at w)
  lists_open_down s t near e =
      let x = and_parts (is_slot_in 0 at.scope.a t) _ e in
      let same : (s.class == 2) ≡ (t.class == 2) = ap (λ (c : ℕ). c == 2) near.class in
      let there = allowed_down (t.class == 2) s t near x.1 in
      and_from (is_slot_in 0 at.scope.a s) _ (no_later_in 0 at.scope.a s t near x.0)
      (ap (λ (b : Bool). allowed m at w b s) same ∙ there)
