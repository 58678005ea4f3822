-- What a word does to the proposals.
use Rattle.std.specs.Prelude.{◌≡◌, ℕ, ◌<◌, ◌^◌, List, ◌∷◌, length, Option, Some, None, slice_set}
use Rattle.std.specs.List.{slice_get}
use Rattle.std.proofs.Common.{sym, ◌∙◌, ap, subst, inl, inr, arith, get_or}
use Rattle.std.proofs.lemmas.Bool.{cases_eq}
use Rattle.std.proofs.lemmas.List.{get_or-set_same, get_or-set_other, length-set}
use Rattle.std.proofs.lemmas.List.FromFn.{fill_by_all, length-map-range_with_len, get_or-map-range_with_len}
use Rattle.std.proofs.lemmas.Option.{slice_get-get_or}
use Rattle.ritas_base.specs.declared.slot.Slot.{Slot}
use Rattle.frame_codec.specs.Format.{Format, Is}
use Rattle.frame_codec.specs.Grammar.{value}
use Rattle.frame_codec.specs.VectorLaws.{class2_short}
use Rattle.layer_api.specs.Words.{Word, Hear, value_at}
use Rattle.layer_api.specs.PartLaws.{unheard}
use Rattle.layer_api.specs.Multi.{Scope, Desk}
use Rattle.layer_api.specs.RoundListLaws.{prop_slot_is, other_value, its_value}
use Rattle.layer_api.specs.Vectors.{VectorRules, MayVectorHear}
use Rattle.vector_consensus.specs.Consensus.{prop_slot, props}
use Rattle.vector_consensus.specs.Laws.Proposals.{prop_value}

module _ (at : Scope) (w : List Word) where
  abbrev there : ℕ → Option (List ℕ)
  there k = value_at w (prop_slot at k)

  pub props_length : length (props at w) ≡ at.numbers.n
  props_length = length-map-range_with_len there 0 at.numbers.n

  props_at : (k : ℕ) → k < at.numbers.n → slice_get (props at w) k ≡ Some (there k)
  props_at k l =
      slice_get-get_or (props at w) k None (let size = props_length in omega (arith, size, l)) ∙ ap Some (get_or-map-range_with_len there 0 at.numbers.n k k None l (omega arith))

  -- ---- one proposal more

  module _ (k : ℕ) (v : List ℕ) (inside : k < at.numbers.n) (none : there k ≡ None) where
    now_there : (j : ℕ) → j < at.numbers.n → get_or (slice_set (props at w) k (Some v)) j None ≡ value_at (Hear (prop_slot at k) v ∷ w) (prop_slot at j)
    now_there j l =
        elim (cases_eq j k) [
          | inl same ↦
              let size = props_length in
              ap (λ (i : ℕ). get_or (slice_set (props at w) k (Some v)) i None) same
              ∙ (get_or-set_same (props at w) k (Some v) None (omega (arith, size, inside))
              ∙ sym (ap (λ (i : ℕ). value_at (Hear (prop_slot at k) v ∷ w) (prop_slot at i)) same ∙ its_value at w k v none))
          | inr other ↦
              get_or-set_other (props at w) k j (Some v) None other
              ∙ (get_or-map-range_with_len there 0 at.numbers.n j j None l (omega arith) ∙ sym (other_value at w k v j other))
        ]

    props_more : props at (Hear (prop_slot at k) v ∷ w) ≡ slice_set (props at w) k (Some v)
    props_more =
        sym (fill_by_all (λ j. value_at (Hear (prop_slot at k) v ∷ w) (prop_slot at j)) (slice_set (props at w) k (Some v)) at.numbers.n None
        (length-set (props at w) k (Some v) ∙ props_length) now_there)

-- what a slot of class 2 delivered is a proposal more
pub record IsProposal (at : Scope) (w : List Word) (s : Slot) (v : List ℕ) : Type 0 where
  pub slot : s ≡ prop_slot at s.origin
  pub none : slice_get (props at w) s.origin ≡ Some None
  pub short : length v < 2 ^ 16
  pub more : props at (Hear s v ∷ w) ≡ slice_set (props at w) s.origin (Some v)

pub is_proposal : (r : VectorRules) (at : Desk) (w : List Word) (s : Slot) (v : List ℕ) → MayVectorHear r at w s v → s.class ≡ 2 → IsProposal at.scope w s v
is_proposal r at w s v may two =
    let slot = prop_slot_is at.scope.numbers.f at.scope s may.slot two in
    let none = ap (value_at w) (sym slot) ∙ unheard w s may.first in
    let format = ap (λ (q : Slot). value at.scope.numbers at.scope.root q) slot ∙ prop_value at.scope.numbers at.scope.root at.scope s.origin in
    let most = (class2_short at.scope.numbers at.scope.root v (subst (λ (f : Format). Is f v) format may.good)).1 in
    record {
      slot = slot;
      none = props_at at.scope w s.origin may.origin ∙ ap Some none;
      short = omega (arith, most);
      more = ap (λ (q : Slot). props at.scope (Hear q v ∷ w)) slot ∙ props_more at.scope w s.origin v may.origin none;
    }
