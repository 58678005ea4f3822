-- What is kept of the proposals as one more comes.
use Rattle.std.specs.Prelude.{◌≡◌, ℕ, zero, suc, ◌<◌, ◌≤◌, ◌+◌, ◌^◌, Bool, true, false, ◌==◌, ◌||◌, List, [], ◌∷◌, map, length, count_by, Option, Some, None, is_some, refl, slice_set}
use Rattle.std.specs.List.{slice_get, All, insert}
use Rattle.std.specs.Int.RustNames.{count_ones}
use Rattle.std.specs.Simd.Lanes.{mask_l}
use Rattle.std.proofs.Common.{sym, ◌∙◌, ap, subst, arith, inl, inr, get_or, take, drop, replicate}
use Rattle.std.proofs.lemmas.Bool.{both_ways, cases_eq, eq-eqb, ne_eqb, or_right}
use Rattle.std.proofs.lemmas.List.{get_or-set_same, get_or-set_other, length-set, length-replicate}
use Rattle.std.proofs.lemmas.List.Elements.{All-nil, All-append, All-cons, All-take, All-drop}
use Rattle.std.proofs.lemmas.List.Sums.{count_by-le-length}
use Rattle.std.proofs.lemmas.Option.{slice_get_within, slice_get-get_or, get_or_from_slice_get}
use Rattle.std.proofs.lemmas.Nat.{zero_from_ones}
use Rattle.std.proofs.lemmas.Simd.{ones-mask_l}
use Rattle.ritas_base.specs.Members.{has_member, member_count}
use Rattle.ritas_base.specs.MemberLaws.{same_mask, places_there, rank_there}
use Rattle.ritas_base.specs.Quorums.{count_yes, count_no}
use Rattle.ritas_base.specs.Shortest.{not_there}
use Rattle.vector_consensus.specs.Consensus.{present}
use Rattle.vector_consensus.specs.Laws.Proposals.{present_length}
use Rattle.vector_consensus.specs.Kept.{KeptProposals, AreKeptProposals, AreSome}

abbrev there : List (Option (List ℕ)) → ℕ → Bool
there os k = is_some (get_or os k None)

-- ---- nothing

none_present : (os : List (Option (List ℕ))) → count_by is_some os ≡ 0 → present os ≡ []
none_present [] e = refl
none_present (None ∷ os) e = none_present os (sym (count_no is_some None os refl) ∙ e)
none_present (Some v ∷ os) e = absurd (let y = count_yes is_some (Some v) os refl in omega (arith, y, e))

-- where nothing is there, nothing is kept
pub kept_nothing : (os : List (Option (List ℕ))) (t : KeptProposals) → length os ≤ 32 → count_by is_some os ≡ 0 → t.places ≡ 0 → t.entries ≡ [] → AreKeptProposals os t
kept_nothing os t most none empty e = record {
  most = most;
  places = empty ∙ sym (zero_from_ones (mask_l (map is_some os)) (ones-mask_l is_some os ∙ none));
  entries = e ∙ sym (none_present os none);
}

-- ---- one more

-- it is at its place
present_more : (os : List (Option (List ℕ))) (k : ℕ) (v : List ℕ) → slice_get os k ≡ Some None
    → present (slice_set os k (Some v)) ≡ insert (present os) (count_by is_some (take k os)) v
present_more [] k v e = absurd cc
present_more (None ∷ os) zero v e = refl
present_more (Some u ∷ os) zero v e = absurd cc
present_more (None ∷ os) (suc k) v e = present_more os k v e ∙ ap (λ (i : ℕ). insert (present os) i v) (sym (count_no is_some None (take k os) refl))
present_more (Some u ∷ os) (suc k) v e =
    let many : count_by is_some (Some u ∷ take k os) ≡ suc (count_by is_some (take k os)) = count_yes is_some (Some u) (take k os) refl ∙ one_more (count_by is_some (take k os)) in
    ap (λ (vs : List (List ℕ)). u ∷ vs) (present_more os k v e) ∙ ap (λ (i : ℕ). insert (u ∷ present os) i v) (sym many)
  where
    one_more : (c : ℕ) → 1 + c ≡ suc c
    one_more c = omega arith

-- what is there then
there_more : (os : List (Option (List ℕ))) (k j : ℕ) (v : List ℕ) → k < length os → there (slice_set os k (Some v)) j ≡ (there os j || (j == k))
there_more os k j v l =
    elim (cases_eq j k) [
      | inl same ↦
          ap (λ (i : ℕ). there (slice_set os k (Some v)) i) same
          ∙ (ap is_some (get_or-set_same os k (Some v) None l) ∙ sym (or_right (there os j) (j == k) (eq-eqb j k same)))
      | inr other ↦
          ap is_some (get_or-set_other os k j (Some v) None other)
          ∙ (sym (or_false (there os j)) ∙ ap (λ (b : Bool). there os j || b) (sym (ne_eqb j k other)))
    ]
  where
    or_false : (b : Bool) → (b || false) ≡ b
    or_false true = refl
    or_false false = refl

-- the new proposal, as the code keeps it
pub record IsPut (k : ℕ) (v : List ℕ) (old new : KeptProposals) : Type 0 where
  pub places : (j : ℕ) → has_member new.places j ≡ (has_member old.places j || (j == k))
  pub entries : new.entries ≡ insert old.entries (member_count k old.places) v

pub kept_more : (os : List (Option (List ℕ))) (k : ℕ) (v : List ℕ) (old new : KeptProposals) → AreKeptProposals os old → slice_get os k ≡ Some None → IsPut k v old new
    → AreKeptProposals (slice_set os k (Some v)) new
kept_more os k v old new kept none put =
    let within : k < length os = slice_get_within os k None none in
    let most = kept.most in
    let size = length-set os k (Some v) in
    let small : length (slice_set os k (Some v)) ≤ 32 = omega (arith, size, most) in
    let rank = ap (member_count k) kept.places ∙ rank_there os k (omega (arith, within)) in
    record {
      most = small;
      places = same_mask new.places (mask_l (map is_some (slice_set os k (Some v)))) (λ j.
          put.places j
          ∙ (ap (λ (b : Bool). b || (j == k)) (ap (λ (m : ℕ). has_member m j) kept.places ∙ places_there os j) ∙ (sym (there_more os k j v within) ∙ sym (places_there (slice_set os k (Some v)) j))));
      entries = put.entries ∙ (ap (λ (vs : List (List ℕ)). insert vs (member_count k old.places) v) kept.entries ∙ (ap (λ (i : ℕ). insert (present os) i v) rank ∙ sym (present_more os k v none)));
    }

-- ---- what a table has in any case

abbrev no_value : Option (List ℕ)
no_value = None

abbrev nobody : ℕ → List (Option (List ℕ))
nobody n = replicate n no_value

pub some_more : (k : ℕ) (v : List ℕ) (old new : KeptProposals) → AreSome old → k < 32 → has_member old.places k ≡ false → length v < 2 ^ 16 → IsPut k v old new → AreSome new
some_more k v old new some l none short put =
    let os = some.proposed in
    let all = some.all in
    let absent : there os k ≡ false = sym (ap (λ (m : ℕ). has_member m k) some.kept.places ∙ places_there os k) ∙ none in
    let free : slice_get os k ≡ Some None = slice_get-get_or os k None (omega (arith, l, all)) ∙ ap Some (not_there (get_or os k None) absent) in
    let at = member_count k old.places in
    record {
      proposed = slice_set os k (Some v);
      all = length-set os k (Some v) ∙ all;
      kept = kept_more os k v old new some.kept free put;
      short = subst (λ (vs : List (List ℕ)). All (λ u. length u < 2 ^ 16) vs) (sym put.entries)
          (All-append (λ u. length u < 2 ^ 16) (take at old.entries) (v ∷ drop at old.entries) (All-take (λ u. length u < 2 ^ 16) at old.entries some.short)
          (All-cons (λ u. length u < 2 ^ 16) v (drop at old.entries) short (All-drop (λ u. length u < 2 ^ 16) at old.entries some.short)));
    }

-- ---- how many are kept

count_take : (os : List (Option (List ℕ))) (k : ℕ) → count_by is_some (take k os) ≤ count_by is_some os
count_take os zero = omega arith
count_take [] (suc k) = omega arith
count_take (None ∷ os) (suc k) = let ih = count_take os k in let a = count_no is_some None (take k os) refl in let b = count_no is_some None os refl in omega (arith, ih, a, b)
count_take (Some v ∷ os) (suc k) =
    let ih = count_take os k in let a = count_yes is_some (Some v) (take k os) refl in let b = count_yes is_some (Some v) os refl in omega (arith, ih, a, b)

pub kept_count : (os : List (Option (List ℕ))) (t : KeptProposals) → AreKeptProposals os t → length t.entries ≡ count_by is_some os
kept_count os t kept = ap length kept.entries ∙ present_length os

module _ (t : KeptProposals) (some : AreSome t) where
  pub few : length t.entries ≤ 32
  few =
      let e = kept_count some.proposed t some.kept in
      let l = count_by-le-length is_some some.proposed in
      let a = some.all in
      omega (arith, e, l, a)

  pub one_each : length t.entries ≡ count_ones t.places
  one_each = kept_count some.proposed t some.kept ∙ sym (ap count_ones some.kept.places ∙ ones-mask_l is_some some.proposed)

  pub rank_within : (k : ℕ) → k < 32 → member_count k t.places ≤ length t.entries
  rank_within k l =
      let a = some.all in
      let rank = ap (member_count k) some.kept.places ∙ rank_there some.proposed k (omega (arith, l, a)) in
      let less = count_take some.proposed k in
      let e = kept_count some.proposed t some.kept in
      omega (arith, rank, less, e)

-- of whom something is there, not nothing is
pub kept_there : (os : List (Option (List ℕ))) (t : KeptProposals) (k : ℕ) → AreKeptProposals os t → has_member t.places k ≡ true → slice_get os k ≡ Some None → ⊥
kept_there os t k kept has none =
    let x : there os k ≡ true = sym (places_there os k) ∙ (ap (λ (m : ℕ). has_member m k) (sym kept.places) ∙ has) in
    let y : there os k ≡ false = ap is_some (get_or_from_slice_get os k None None none) in
    both_ways (there os k) y x

pub kept_within : (os : List (Option (List ℕ))) (t : KeptProposals) (k : ℕ) → AreKeptProposals os t → slice_get os k ≡ Some None → k < 32
kept_within os t k kept none = let l = slice_get_within os k None none in let m = kept.most in omega (arith, l, m)

-- ---- a new table

pub nothing_kept : (t : KeptProposals) → t.places ≡ 0 → t.entries ≡ [] → AreSome t
nothing_kept t empty e = record {
  proposed = nobody 32;
  all = length-replicate 32 no_value;
  kept = kept_nothing (nobody 32) t (let l : length (nobody 32) ≡ 32 = length-replicate 32 no_value in omega (arith, l)) (none_of 32) empty e;
  short = subst (λ (vs : List (List ℕ)). All (λ v. length v < 2 ^ 16) vs) (sym e) (All-nil (λ v. length v < 2 ^ 16));
}
  where
    none_of : (n : ℕ) → count_by is_some (nobody n) ≡ 0
    none_of zero = refl
    none_of (suc n) = count_no is_some None (nobody n) refl ∙ none_of n
