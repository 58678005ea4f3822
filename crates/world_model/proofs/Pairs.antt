-- The entries that two replicas have of each other, and what a replica met of them.
use Rattle.std.proofs.Common.{◌≡◌, ℕ, ◌<◌, Bool, true, false, ◌==◌, ◌||◌, List, ◌∷◌, [], map, Option, Some, None, refl, sym, ◌∙◌, ap, ap₂, arith, if◌then◌else◌}
use Rattle.std.specs.List.{slice_get, list_any}
use Rattle.std.specs.Str.{bytes_eq}
use Rattle.std.proofs.lemmas.Bool.{and_parts, eq-eqb, eqb-true}
use Rattle.std.proofs.lemmas.List.FromFn.{length-map-range_with_len, get_or-map-range_with_len}
use Rattle.std.proofs.lemmas.Option.{slice_get-get_or, slice_get_within, same_Some, none-some, get_or_from_slice_get}
use Rattle.std.proofs.lemmas.List.Folds.{list_any_at}
use Rattle.std.proofs.lemmas.Simd.{map-map}
use Rattle.std.proofs.lemmas.Slice.Eq.{bytes_eq-Decides}
use Rattle.ritas_base.specs.declared.slot.Slot.{Slot}
use Rattle.ritas_base.specs.History.{replicas}
use Rattle.ritas_base.specs.Messages.{Place}
use Rattle.layer_api.specs.Entries as entries
use Rattle.keyed_channel.specs.KeyRow.{KeyRow, key_with, shares_key}
use Rattle.keyed_channel.specs.Keyed.{keyed_entry, other_of_two, tags_of}
use Rattle.world_model.specs.declared.met.EntryPair.{EntryPair}
use Rattle.world_model.specs.Audit.{is_among}
use Rattle.world_model.specs.Met.{MetEntries, pair_of, turned_pair, met_with, met_for, entries_given}

-- ---- the entries with one replica

pub pair_at : (k : KeyRow) (s : Slot) (d : List ℕ) (other : ℕ) → other < k.n → slice_get (met_with k s d).pairs other ≡ Some (pair_of k s d other)
pair_at k s d other below =
    slice_get-get_or (map (pair_of k s d) (replicas k.n)) other (pair_of k s d other) (omega (arith, length-map-range_with_len (pair_of k s d) 0 k.n))
    ∙ ap (λ (x : EntryPair). Some x) (get_or-map-range_with_len (pair_of k s d) 0 k.n other other (pair_of k s d other) below (omega arith))

-- those that are there
pub pair_is : (k : KeyRow) (s : Slot) (d : List ℕ) (other : ℕ) (pair : EntryPair) → slice_get (met_with k s d).pairs other ≡ Some pair → pair ≡ pair_of k s d other
pair_is k s d other pair there =
    let within = slice_get_within (map (pair_of k s d) (replicas k.n)) other pair there in
    same_Some pair (pair_of k s d other) (sym there ∙ pair_at k s d other (omega (arith, within, length-map-range_with_len (pair_of k s d) 0 k.n)))

-- by the number of the replica
pub given_is : (k : KeyRow) (s : Slot) (d : List ℕ) (other me : ℕ) (pair : EntryPair) → me ≡ k.me → pair ≡ pair_of k s d other → pair.given ≡ (tags_of k).entry s me other d
given_is k s d other me pair own is = ap (λ (x : EntryPair). x.given) is ∙ ap (λ (i : ℕ). (tags_of k).entry s i other d) (sym own)

pub expected_is : (k : KeyRow) (s : Slot) (d : List ℕ) (other me : ℕ) (pair : EntryPair) → me ≡ k.me → pair ≡ pair_of k s d other → pair.expected ≡ (tags_of k).entry s other me d
expected_is k s d other me pair own is = ap (λ (x : EntryPair). x.expected) is ∙ ap (λ (i : ℕ). (tags_of k).entry s other i d) (sym own)

-- of what the replica met at a message
pub met_pair : (k : KeyRow) (s : Slot) (m d : List ℕ) (met : MetEntries) (other : ℕ) (pair : EntryPair) → d ≡ (tags_of k).digest m → met ≡ met_with k s ((tags_of k).digest m) →
    slice_get met.pairs other ≡ Some pair → pair ≡ pair_of k s d other
met_pair k s m d met other pair digest is there =
    pair_is k s ((tags_of k).digest m) other pair (sym (ap (λ (x : MetEntries). slice_get x.pairs other) is) ∙ there)
    ∙ ap (λ (x : List ℕ). pair_of k s x other) (sym digest)

pub met_pair_there : (k : KeyRow) (s : Slot) (d : List ℕ) (met : MetEntries) (other : ℕ) → other < k.n → met ≡ met_with k s d → slice_get met.pairs other ≡ None → ⊥
met_pair_there k s d met other below is none =
    none-some (pair_of k s d other) (sym none ∙ (ap (λ (x : MetEntries). slice_get x.pairs other) is ∙ pair_at k s d other below))

-- ---- two that have one key

other_of_mine : (me other : ℕ) → other_of_two me me other ≡ other
other_of_mine me other = ap (λ (b : Bool). if b then other else me) (eq-eqb me me refl)

other_of_theirs_at : (me other : ℕ) (b : Bool) → (other == me) ≡ b → (if b then me else other) ≡ other
other_of_theirs_at me other true same = sym (eqb-true other me same)
other_of_theirs_at me other false apart = refl

other_of_theirs : (me other : ℕ) → other_of_two me other me ≡ other
other_of_theirs me other = other_of_theirs_at me other (other == me) refl

entry_by : (k : KeyRow) (s : Slot) (echoer verifier other : ℕ) (d : List ℕ) → other_of_two k.me echoer verifier ≡ other →
    (tags_of k).entry s echoer verifier d ≡ keyed_entry (key_with k other) k.session s echoer verifier d
entry_by k s echoer verifier other d is = ap (λ (i : ℕ). keyed_entry (key_with k i) k.session s echoer verifier d) is

same_entry : (a b : KeyRow) (s : Slot) (echoer verifier : ℕ) (d : List ℕ) → shares_key a b ≡ true → other_of_two a.me echoer verifier ≡ b.me → other_of_two b.me echoer verifier ≡ a.me →
    (tags_of b).entry s echoer verifier d ≡ (tags_of a).entry s echoer verifier d
same_entry a b s echoer verifier d shares by_a by_b =
    let parts = and_parts (a.session == b.session) (bytes_eq (key_with a b.me) (key_with b a.me)) shares in
    let session = eqb-true a.session b.session parts.0 in
    let key = (bytes_eq-Decides (key_with a b.me) (key_with b a.me)).0 parts.1 in
    entry_by b s echoer verifier a.me d by_b
    ∙ ap₂ (λ (x : List ℕ) (y : ℕ). keyed_entry x y s echoer verifier d) (sym key) (sym session)
    ∙ sym (entry_by a s echoer verifier b.me d by_a)

-- what one gives is what the other expects
shared : (a b : KeyRow) (s : Slot) (d : List ℕ) → shares_key a b ≡ true → turned_pair (pair_of b s d a.me) ≡ pair_of a s d b.me
shared a b s d shares =
    ap₂ (λ (x y : List ℕ). record { given = x; expected = y })
    (same_entry a b s a.me b.me d shares (other_of_mine a.me b.me) (other_of_theirs b.me a.me))
    (same_entry a b s b.me a.me d shares (other_of_theirs a.me b.me) (other_of_mine b.me a.me))

pub pair_shared : (a b : KeyRow) (s : Slot) (d : List ℕ) (met : MetEntries) (pair : EntryPair) → shares_key a b ≡ true → met.digest ≡ d → met ≡ met_with b s met.digest →
    slice_get met.pairs a.me ≡ Some pair → turned_pair pair ≡ pair_of a s d b.me
pair_shared a b s d met pair shares same is there =
    let found : slice_get (met_with b s met.digest).pairs a.me ≡ Some pair = sym (ap (λ (x : MetEntries). slice_get x.pairs a.me) is) ∙ there in
    ap turned_pair (pair_is b s met.digest a.me pair found) ∙ shared a b s met.digest shares ∙ ap (λ (x : List ℕ). pair_of a s x b.me) same

-- ---- what was given

any_mapped : {X Y : Type 0} (test : Y → Bool) (f : X → Y) (xs : List X) → list_any test (map f xs) ≡ list_any (λ x. test (f x)) xs
any_mapped test f [] = refl
any_mapped test f (x ∷ xs) = ap (λ b. test (f x) || b) (any_mapped test f xs)

-- the entry for one verifier
pub gives_one : (met : MetEntries) (other : ℕ) (pair : EntryPair) (entry : List ℕ) → slice_get met.pairs other ≡ Some pair → bytes_eq entry pair.given ≡ true →
    is_among (entries_given (Some met)) (Some entry) ≡ true
gives_one met other pair entry there same =
    any_mapped (bytes_eq entry) (λ (x : EntryPair). x.given) met.pairs
    ∙ list_any_at (λ (x : EntryPair). bytes_eq entry x.given) met.pairs other pair (slice_get_within met.pairs other pair there)
    (ap (λ (x : EntryPair). bytes_eq entry x.given) (get_or_from_slice_get met.pairs other pair pair there) ∙ same)

pub gives_some : (met : MetEntries) (pairs : List EntryPair) (entry : List ℕ) → pairs ≡ met.pairs →
    list_any (λ (x : EntryPair). bytes_eq entry x.given) pairs ≡ is_among (entries_given (Some met)) (Some entry)
gives_some met pairs entry is =
    ap (list_any (λ (x : EntryPair). bytes_eq entry x.given)) is ∙ sym (any_mapped (bytes_eq entry) (λ (x : EntryPair). x.given) met.pairs)

-- the entries that were met are those that the replica gives
pub given_same : (k : KeyRow) (at : Place) → at.me ≡ k.me → at.numbers.n ≡ k.n → (o : Option (List ℕ)) → entries_given (met_for k at.slot o) ≡ entries.entries_for at (tags_of k) o
given_same k at me n None = refl
given_same k at me n (Some m) =
    map-map (λ (pair : EntryPair). pair.given) (pair_of k at.slot ((tags_of k).digest m)) (replicas k.n)
    ∙ ap₂ (λ x y. map (λ v. (tags_of k).entry at.slot x v ((tags_of k).digest m)) (replicas y)) (sym me) (sym n)

-- ---- what is in a table

met_some : (k : KeyRow) (s : Slot) (o : Option (List ℕ)) (met : MetEntries) → met_for k s o ≡ Some met → met ≡ met_with k s met.digest
met_some k s None met e = absurd (cc)
met_some k s (Some m) met e =
    let is : met_with k s ((tags_of k).digest m) ≡ met = same_Some (met_with k s ((tags_of k).digest m)) met e in
    sym is ∙ ap (λ (x : MetEntries). met_with k s x.digest) is

pub met_as_made : (k : KeyRow) (s : Slot) (o : Option (List ℕ)) (found : Option MetEntries) (met : MetEntries) → found ≡ met_for k s o → found ≡ Some met → met ≡ met_with k s met.digest
met_as_made k s o found met is there = met_some k s o met (sym is ∙ there)
