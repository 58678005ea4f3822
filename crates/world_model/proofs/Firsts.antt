-- The replicas of a world before any event.
use Rattle.std.proofs.Common.{◌≡◌, ℕ, zero, suc, ◌+◌, ◌<◌, List, [], ◌∷◌, ◌++◌, length, Option, Some, refl, sym, ◌∙◌, ap, subst, arith, ◌⊎◌, inl, inr, slice_index_or}
use Rattle.std.specs.List.{slice_get}
use Rattle.std.proofs.lemmas.List.{length-append}
use Rattle.std.proofs.lemmas.Option.{slice_get-get_or, same_Some}
use Rattle.ritas_base.specs.declared.mode.Mode.{Mode}
use Rattle.ritas_base.specs.declared.mode.FrameVersion.{FrameVersion}
use Rattle.ritas_base.specs.Numbers.{Numbers}
use Rattle.keyed_channel.specs.KeyRow.{KeyRow}
use Rattle.ritas_core.specs.Stands.{Meaning}
use Rattle.replica.specs.declared.replica.Replica.{Replica}
use Rattle.world_model.specs.Stands.{AreKeys, AreOfVersion}
use Rattle.world_model.specs.Steps.{IsFirstReplica, AreFirstReplicas}

-- an element of a list with one more at its back
pub get_more : {X : Type 0} (xs : List X) (x : X) (i : ℕ) (y : X) → slice_get (xs ++ x ∷ []) i ≡ Some y → ((i < length xs) × (slice_get xs i ≡ Some y)) ⊎ ((i ≡ length xs) × (x ≡ y))
get_more [] x zero y e = inr (refl, same_Some x y e)
get_more [] x (suc i) y e = absurd (cc)
get_more (z ∷ zs) x zero y e = inl (omega arith, e)
get_more (z ∷ zs) x (suc i) y e = elim (get_more zs x i y e) [
  | inl before ↦ inl (omega (arith, before.0), before.1)
  | inr last ↦ inr (ap suc last.0, last.1)
]

-- one place more
pub first_more : {S E C : Type 0} (m : Meaning S E C KeyRow) (p : Numbers) (root : Mode) (members : ℕ) (rows : List KeyRow) (coins : List C) (places : List (Option (Replica S E C))) (keys : KeyRow) (coin : C) (place : Option (Replica S E C)) →
    AreFirstReplicas m p root members rows coins places → length places < length rows → keys ≡ slice_index_or rows (length places) keys → IsFirstReplica m p root members keys coin place
    → AreFirstReplicas m p root members rows (coins ++ coin ∷ []) (places ++ place ∷ [])
first_more {S = S} {E = E} {C = C} m p root members rows coins places keys coin place are within read is =
    let many = are.many in
    let there : slice_get rows (length places) ≡ Some keys = slice_get-get_or rows (length places) keys within ∙ ap (λ k. Some k) (sym read) in
    record {
      many = length-append places (place ∷ []) ∙ ap (λ n. n + 1) are.many ∙ sym (length-append coins (coin ∷ []));
      each = λ i k c x row_is coin_is place_is. elim (get_more coins coin i c coin_is) [
        | inl before ↦ elim (get_more places place i x place_is) [
          | inl here ↦ are.each i k c x row_is before.1 here.1
          | inr last ↦ absurd (omega (arith, before.0, last.0))
        ]
        | inr last ↦ elim (get_more places place i x place_is) [
          | inl here ↦ absurd (omega (arith, here.0, last.0))
          | inr end ↦
              let same_row : keys ≡ k = same_Some keys k (sym there ∙ ap (slice_get rows) (sym end.0) ∙ row_is) in
              let P : KeyRow → Type 0 = λ z. IsFirstReplica m p root members z c x in
              let Q : C → Type 0 = λ z. IsFirstReplica m p root members keys z x in
              let R : Option (Replica S E C) → Type 0 = λ z. IsFirstReplica m p root members keys coin z in
              subst P same_row (subst Q last.1 (subst R end.1 is))
        ]
      ];
    }

-- ---- as the code has it

pub none_first : {S E C : Type 0} (m : Meaning S E C KeyRow) (p : Numbers) (root : Mode) (members : ℕ) (rows : List KeyRow) (places : List (Option (Replica S E C))) →
    places ≡ [] → AreFirstReplicas m p root members rows [] places
none_first m p root members rows places none = record { many = ap length none; each = λ i k coin place row_is coin_is place_is. absurd (cc) }

pub first_by : {S E C : Type 0} (m : Meaning S E C KeyRow) (p : Numbers) (root : Mode) (members : ℕ) (rows : List KeyRow) (coins : List C) (places new : List (Option (Replica S E C))) (at : ℕ) (keys : KeyRow) (coin : C) (place : Option (Replica S E C)) →
    AreFirstReplicas m p root members rows coins places → at ≡ length places → at < length rows → keys ≡ slice_index_or rows at keys → IsFirstReplica m p root members keys coin place
    → new ≡ places ++ place ∷ [] → AreFirstReplicas m p root members rows (coins ++ coin ∷ []) new
first_by {S = S} {E = E} {C = C} m p root members rows coins places new at keys coin place are number within read is pushed =
    let P : List (Option (Replica S E C)) → Type 0 = λ xs. AreFirstReplicas m p root members rows (coins ++ coin ∷ []) xs in
    let Q : ℕ → Type 0 = λ k. k < length rows → keys ≡ slice_index_or rows k keys → AreFirstReplicas m p root members rows (coins ++ coin ∷ []) (places ++ place ∷ []) in
    subst P (sym pushed) (subst Q (sym number) (λ here row. first_more m p root members rows coins places keys coin place are here row is) within read)

pub same_first : {S E C : Type 0} (m : Meaning S E C KeyRow) (p : Numbers) (root : Mode) (members : ℕ) (rows : List KeyRow) (coins all : List C) (places : List (Option (Replica S E C))) →
    coins ≡ all → AreFirstReplicas m p root members rows coins places → AreFirstReplicas m p root members rows all places
same_first {C = C} m p root members rows coins all places same are =
    let P : List C → Type 0 = λ xs. AreFirstReplicas m p root members rows xs places in
    subst P same are

pub within_rows : {S E C : Type 0} (m : Meaning S E C KeyRow) (p : Numbers) (root : Mode) (members : ℕ) (rows : List KeyRow) (coins so_far : List C) (places : List (Option (Replica S E C))) (at : ℕ) →
    at ≡ length places → AreFirstReplicas m p root members rows so_far places → length rows ≡ length coins → length so_far < length coins → at < length rows
within_rows m p root members rows coins so_far places at number are same less = let many = are.many in omega arith

-- the keys at a place were made for as many replicas
pub keys_of : (n : ℕ) (rows : List KeyRow) (at : ℕ) (keys : KeyRow) → AreKeys n rows → at < length rows → keys ≡ slice_index_or rows at keys → keys.n ≡ n
keys_of n rows at keys are within read = (are at keys (slice_get-get_or rows at keys within ∙ ap (λ k. Some k) (sym read))).1

-- and are of this version
pub version_of : (version : FrameVersion) (rows : List KeyRow) (at : ℕ) (keys : KeyRow) → AreOfVersion version rows → at < length rows → keys ≡ slice_index_or rows at keys → keys.version ≡ version
version_of version rows at keys are within read = are at keys (slice_get-get_or rows at keys within ∙ ap (λ k. Some k) (sym read))
