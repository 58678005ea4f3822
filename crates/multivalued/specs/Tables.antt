-- What the code's table of proposals and VECTs tells, and what a call on it does.
use Rattle.std.specs.Prelude.{◌≡◌, ◌⊎◌, ℕ, ◌≤◌, ◌<◌, Bool, true, false, not, ◌==◌, ◌&&◌, nat_le, if◌then◌else◌, List, [], ◌∷◌, length, map, drop, count_by, slice_set, Option, Some, None, is_some}
use Rattle.std.specs.List.{slice_get, list_any}
use Rattle.std.specs.Str.{bytes_eq}
use Rattle.ritas_base.specs.History.{replicas, is_value}
use Rattle.frame_codec.specs.Values.{mask_of, vect_bytes}
use Rattle.std.specs.Simd.Lanes.{mask_l}
use Rattle.ritas_base.specs.Members.{has_member}
use Rattle.multivalued.specs.Entries.{passes, Proposed, Claims, put, is_valid_vect, AreEntries}
use Rattle.ritas_base.specs.Places.{listed}
use Rattle.multivalued.specs.Consensus.{least}
use Rattle.multivalued.specs.declared.entry.Entry.{Entry}
use Rattle.multivalued.specs.declared.table.Table.{Table}

-- replicas from n on have nothing
abbrev pub IsInside : ℕ → (ℕ → Option (List ℕ)) → Type 0
IsInside n f = (k : ℕ) → n ≤ k → f k ≡ None

pub record IsTable (n support : ℕ) (init vect : ℕ → Option (List ℕ)) (t : Table) : Type 0 where
  pub support_is : t.support ≡ support
  pub inits_inside : IsInside n init
  pub vects_inside : IsInside n vect
  pub entries : AreEntries n support init vect t.entries.items
  pub inits : (j : ℕ) → has_member t.inits j ≡ is_some (init j)
  pub valids : (j : ℕ) → has_member t.valids j ≡ is_valid_vect n support init true (vect j)
  pub valued : (j : ℕ) → has_member t.valued j ≡ is_valid_vect n support init false (vect j)

-- one more replica proposes the value of an entry
pub record ProposedAt (support who i : ℕ) (old new : List Entry) (backs : ℕ) : Type 0 where
  pub entry : Entry
  pub here : (e : Entry) → slice_get old i ≡ Some e → Proposed support who e entry
  pub set : new ≡ slice_set old i entry
  pub backs_are : backs ≡ entry.backs

-- one more VECT has the value of an entry
pub record ClaimedAt (support who places i : ℕ) (old new : List Entry) (backs : ℕ) : Type 0 where
  pub entry : Entry
  pub here : (e : Entry) → slice_get old i ≡ Some e → Claims support who places e entry
  pub set : new ≡ slice_set old i entry
  pub backs_are : backs ≡ entry.backs

-- replica k's proposal v is heard
abbrev pub HearsProposal : ℕ → List ℕ → Table → Table → Type 0
HearsProposal k v old new =
    (n support : ℕ) (init vect : ℕ → Option (List ℕ)) → n ≤ 31 → k < n → init k ≡ None
    → IsTable n support init vect old → IsTable n support (put init k v) vect new

-- replica k's VECT x is heard
abbrev pub HearsVect : ℕ → List ℕ → Table → Table → Type 0
HearsVect k x old new =
    (n support : ℕ) (init vect : ℕ → Option (List ℕ)) → n ≤ 31 → k < n → vect k ≡ None
    → IsTable n support init vect old → IsTable n support init (put vect k x) new

-- a VECT is of none, or has its places in front
abbrev pub IsLong : List ℕ → Type 0
IsLong v = (v ≡ []) ⊎ (4 ≤ length v)

-- ---- what is asked of it

-- the value of a valid VECT
abbrev pub valid_value : ℕ → ℕ → (ℕ → Option (List ℕ)) → Option (List ℕ) → Option (List ℕ)
valid_value n support init None = None
valid_value n support init (Some []) = None
valid_value n support init (Some (b ∷ bs)) = if passes n support init (drop 4 (b ∷ bs)) (mask_of (b ∷ bs)) then Some (drop 4 (b ∷ bs)) else None

-- the least value that so many replicas have
abbrev pub least_with : ℕ → ℕ → (ℕ → Option (List ℕ)) → Option (List ℕ)
least_with n support f = least (λ v. nat_le support (count_by (λ k. is_value v (f k)) (replicas n))) (listed f (replicas n))

abbrev pub has_other : List ℕ → Option (List ℕ) → Bool
has_other v None = false
has_other v (Some u) = not (bytes_eq u v)

-- some value is had by so many, and no other is had
abbrev pub one_clear : ℕ → ℕ → (ℕ → Option (List ℕ)) → Bool
one_clear n support f =
    list_any (λ v. nat_le support (count_by (λ k. is_value v (f k)) (replicas n)) && (count_by (λ k. has_other v (f k)) (replicas n) == 0)) (listed f (replicas n))

-- the table answers of all that it may tell
abbrev pub Asked : Table → (ℕ → ℕ → (ℕ → Option (List ℕ)) → (ℕ → Option (List ℕ)) → Type 0) → Type 0
Asked t P = (n support : ℕ) (init vect : ℕ → Option (List ℕ)) → n ≤ 31 → 1 ≤ support → IsTable n support init vect t → P n support init vect

-- a value is told with all that proposed it; that there is none is told by no bytes
abbrev pub table_told_by : ℕ → (ℕ → Option (List ℕ)) → Option (List ℕ) → List ℕ
table_told_by n init None = []
table_told_by n init (Some v) = vect_bytes (mask_l (map (λ k. is_value v (init k)) (replicas n))) v
