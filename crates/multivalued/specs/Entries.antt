-- What the code's table of values tells, and how an INIT or a VECT changes it. What the replicas proposed and what their VECTs
-- are stand as functions of the replica.
use Rattle.std.specs.Prelude.{◌≡◌, ℕ, ◌<◌, Bool, true, false, ◌&&◌, ◌||◌, ◌==◌, nat_le, List, [], ◌∷◌, drop, count_by, Option, Some, None, option_map, if◌then◌else◌, length}
use Rattle.std.specs.List.{list_any, slice_get}
use Rattle.std.specs.Str.{bytes_eq}
use Rattle.ritas_base.specs.Members.{has_member}
use Rattle.ritas_base.specs.History.{replicas, is_value}
use Rattle.frame_codec.specs.Values.{mask_of}
use Rattle.multivalued.specs.Places.{are_places_backed}
use Rattle.multivalued.specs.declared.entry.Claim.{Claim}
use Rattle.multivalued.specs.declared.entry.Entry.{Entry}

-- the sender of one of these VECTs, whose places pass
abbrev pub has_claim : (ℕ → Bool) → ℕ → List Claim → Bool
has_claim p k cs = list_any (λ c. has_member c.who k && p c.places) cs

-- one more replica proposes the value
pub record Proposed (support who : ℕ) (old new : Entry) : Type 0 where
  pub value : new.value ≡ old.value
  pub claims : new.claims ≡ old.claims
  pub inits : (j : ℕ) → has_member new.inits j ≡ (has_member old.inits j || has_member who j)
  pub backs : (j : ℕ) → has_member new.backs j ≡ (has_member old.backs j || has_claim (λ places. are_places_backed support places new.inits) j old.claims.items)

-- one more VECT has the value, with these places
pub record Claims (support who places : ℕ) (old new : Entry) : Type 0 where
  pub value : new.value ≡ old.value
  pub inits : new.inits ≡ old.inits
  pub claims : (p : ℕ → Bool) (j : ℕ) → has_claim p j new.claims.items ≡ (has_claim p j old.claims.items || (has_member who j && p places))
  pub backs : (j : ℕ) → has_member new.backs j ≡ (has_member old.backs j || (has_member who j && are_places_backed support places old.inits))

-- ---- what is known of the replicas

abbrev pub put : (ℕ → Option (List ℕ)) → ℕ → List ℕ → ℕ → Option (List ℕ)
put f k v = λ j. if j == k then Some v else f j

-- so many of a VECT's places proposed v
abbrev pub passes : ℕ → ℕ → (ℕ → Option (List ℕ)) → List ℕ → ℕ → Bool
passes n support init v mask = nat_le support (count_by (λ k. has_member mask k && is_value v (init k)) (replicas n))

-- the VECT has v, and its places pass
abbrev pub claimed : List ℕ → (ℕ → Bool) → Option (List ℕ) → Bool
claimed v p None = false
claimed v p (Some []) = false
claimed v p (Some (b ∷ bs)) = bytes_eq (drop 4 (b ∷ bs)) v && p (mask_of (b ∷ bs))

-- the VECT is valid; one of none counts as q says
abbrev pub is_valid_vect : ℕ → ℕ → (ℕ → Option (List ℕ)) → Bool → Option (List ℕ) → Bool
is_valid_vect n support init q None = false
is_valid_vect n support init q (Some []) = q
is_valid_vect n support init q (Some (b ∷ bs)) = passes n support init (drop 4 (b ∷ bs)) (mask_of (b ∷ bs))

-- an entry tells what is known
pub record IsEntry (n support : ℕ) (init vect : ℕ → Option (List ℕ)) (e : Entry) : Type 0 where
  pub inits : (k : ℕ) → has_member e.inits k ≡ is_value e.value (init k)
  pub claims : (p : ℕ → Bool) (k : ℕ) → has_claim p k e.claims.items ≡ claimed e.value p (vect k)
  pub backs : (k : ℕ) → has_member e.backs k ≡ claimed e.value (passes n support init e.value) (vect k)

-- ---- the entries

abbrev pub HasAt : List Entry → ℕ → List ℕ → Type 0
HasAt es i v = (e : Entry) × (slice_get es i ≡ Some e) × (e.value ≡ v)

abbrev pub HasEntry : List Entry → List ℕ → Type 0
HasEntry es v = (i : ℕ) × HasAt es i v

-- each tells what is known, no two are of one value, and each value has one
pub record AreEntries (n support : ℕ) (init vect : ℕ → Option (List ℕ)) (es : List Entry) : Type 0 where
  pub each : (i : ℕ) (e : Entry) → slice_get es i ≡ Some e → IsEntry n support init vect e
  pub apart : (i j : ℕ) (d e : Entry) → slice_get es i ≡ Some d → slice_get es j ≡ Some e → d.value ≡ e.value → i ≡ j
  pub proposed : (v : List ℕ) (k : ℕ) → is_value v (init k) ≡ true → HasEntry es v
  pub claims : (v : List ℕ) (k : ℕ) → claimed v (λ m. true) (vect k) ≡ true → HasEntry es v

-- the value of the entry there
abbrev pub value_there : List Entry → ℕ → Option (List ℕ)
value_there es i = option_map (λ e. e.value) (slice_get es i)

-- where an entry stands, its value stays
abbrev pub KeepsValues : List Entry → List Entry → Type 0
KeepsValues old new = (j : ℕ) (e : Entry) → slice_get old j ≡ Some e → HasAt new j e.value

-- the value has an entry at this place
pub record HasEntryPlace (v : List ℕ) (i : ℕ) (old new : List Entry) : Type 0 where
  pub here : HasAt new i v
  pub within : i < length new
  pub keeps : KeepsValues old new
  pub grows : (n support : ℕ) (init vect : ℕ → Option (List ℕ)) → AreEntries n support init vect old → AreEntries n support init vect new
