-- What one list more does to the lists that identifiers are noted for.
use Rattle.std.specs.Prelude.{◌≡◌, ℕ, zero, suc, ◌+◌, ◌-◌, ◌<◌, ◌≤◌, Bool, true, false, ◌==◌, ◌&&◌, ◌||◌, List, [], ◌∷◌, length, drop, refl}
use Rattle.std.specs.BTreeMap.{BTreeMap}
use Rattle.std.proofs.Common.{sym, ◌∙◌, ap, subst, arith}
use Rattle.std.proofs.lemmas.Bool.{ne_eqb}
use Rattle.std.proofs.lemmas.List.{drop_all}
use Rattle.ritas_base.specs.declared.id.Id.{Id}
use Rattle.layer_api.specs.Service.{has_id}
use Rattle.frame_codec.specs.Values.{ids_in, ids_of, entry_in_front, after_entry, entries_in, len_in}
use Rattle.layer_api.specs.Proposals.{backers}
use Rattle.ordered_rounds.specs.Backing.{is_noted, lists_with, NotesList}
use Rattle.ordered_rounds.specs.Laws.NotedLists.{as_one, count_cons, lists_more, none_marked, none_noted}

-- ---- a list is noted

-- the lists below this one are noted, and so many are left
pub record IsNoting (noted : BTreeMap Id ℕ) (k left : ℕ) (rest : List ℕ) (lists : List (List ℕ)) : Type 0 where
  pub fresh : (x : Id) (j : ℕ) → k ≤ j → is_noted noted x j ≡ false
  pub sums : (x : Id) → lists_with noted x + backers (entries_in left rest) x ≡ backers lists x

other_list : (b : Bool) (j k : ℕ) → k < j → (b && j == k) ≡ false
other_list true j k less = ne_eqb j k (λ e. omega (arith, e, less))
other_list false j k less = refl

noting_next : (noted noted' : BTreeMap Id ℕ) (k left : ℕ) (rest : List ℕ) (lists : List (List ℕ)) → k < 32
    → NotesList noted noted' (ids_of (entry_in_front rest)) k → IsNoting noted k (suc left) rest lists → IsNoting noted' (k + 1) left (after_entry rest) lists
unfolding entries_in
noting_next noted noted' k left rest lists small notes before = record {
  fresh = λ x j above.
      notes x j
      ∙ (ap (λ (b : Bool). b || is_noted noted x j) (other_list (has_id (ids_of (entry_in_front rest)) x) j k (omega (arith, above)))
      ∙ before.fresh x j (omega (arith, above)));
  sums = λ x.
      let more = lists_more noted noted' (ids_of (entry_in_front rest)) k x small (before.fresh x k (omega arith)) notes in
      let split = count_cons (λ (e : List ℕ). has_id (ids_of e) x) (entry_in_front rest) (entries_in left (after_entry rest)) in
      let sum = before.sums x in
      omega (arith, more, split, sum);
}

pub noting_step : (noted noted' : BTreeMap Id ℕ) (k count : ℕ) (rest list after : List ℕ) (lists : List (List ℕ)) → k < count → count ≤ 32
    → list ≡ entry_in_front rest → after ≡ after_entry rest → NotesList noted noted' (ids_of list) k
    → IsNoting noted k (count - k) rest lists → IsNoting noted' (k + 1) (count - (k + 1)) after lists
noting_step noted noted' k count rest list after lists within few front behind notes before =
    let left : count - k ≡ suc (count - (k + 1)) = omega (arith, within) in
    subst (λ (bytes : List ℕ). IsNoting noted' (k + 1) (count - (k + 1)) bytes lists) (sym behind)
    (noting_next noted noted' k (count - (k + 1)) rest lists (omega (arith, within, few))
    (subst (λ (bytes : List ℕ). NotesList noted noted' (ids_of bytes) k) front notes)
    (subst (λ (n : ℕ). IsNoting noted k n rest lists) left before))

pub noting_done : (noted : BTreeMap Id ℕ) (k left : ℕ) (rest : List ℕ) (lists : List (List ℕ)) (x : Id) → left ≡ 0
    → IsNoting noted k left rest lists → lists_with noted x ≡ backers lists x
unfolding entries_in
noting_done noted k left rest lists x done noting =
    let none : backers (entries_in left rest) x ≡ 0 = ap (λ (n : ℕ). backers (entries_in n rest) x) done in omega (arith, none, noting.sums x)

pub noting_first : (noted : BTreeMap Id ℕ) (count : ℕ) (rest : List ℕ) (lists : List (List ℕ)) → noted.entries ≡ [] → entries_in count rest ≡ lists
    → IsNoting noted 0 count rest lists
noting_first noted count rest lists none is = record {
  fresh = λ x j above. none_marked noted x j none;
  sums = λ x.
      let z = none_noted noted x none in
      let same = ap (λ (es : List (List ℕ)). backers es x) is in
      omega (arith, z, same);
}

-- nothing stands in the lists of no bytes
pub nothing_in : (count : ℕ) (x : Id) → backers (entries_in count []) x ≡ 0
unfolding entries_in len_in ids_in
nothing_in zero x = refl
nothing_in (suc count) x =
    let split = count_cons (λ (e : List ℕ). has_id (ids_of e) x) (entry_in_front []) (entries_in count []) in
    let none : has_id (ids_of (entry_in_front [])) x ≡ false = refl in
    omega (arith, split, ap as_one none, nothing_in count x)

pub nothing_noted : (noted : BTreeMap Id ℕ) (bytes : List ℕ) (count : ℕ) (x : Id) → noted.entries ≡ [] → length bytes ≤ 4
    → lists_with noted x ≡ backers (entries_in count (drop 4 bytes)) x
nothing_noted noted bytes count x none short =
    none_noted noted x none
    ∙ (sym (nothing_in count x) ∙ ap (λ (rest : List ℕ). backers (entries_in count rest) x) (sym (drop_all 4 bytes short)))

-- ---- an identifier of a list is noted

pub ids_many : (count : ℕ) (bytes : List ℕ) → length (ids_in count bytes) ≡ count
unfolding ids_in
ids_many zero bytes = refl
ids_many (suc count) bytes = omega (arith, ids_many count (drop 5 bytes))

-- once those that are left are noted, all of the list are
abbrev pub NotesRest : BTreeMap Id ℕ → BTreeMap Id ℕ → List Id → List Id → ℕ → Type 0
NotesRest before now ids rest k =
    (x : Id) (j : ℕ) → (has_id rest x && j == k || is_noted now x j) ≡ (has_id ids x && j == k || is_noted before x j)

moved : (s r e n : Bool) → (r && e || ((s || false) && e || n)) ≡ ((s || r) && e || n)
moved true true true n = refl
moved true true false n = refl
moved true false e n = refl
moved false r e n = refl

pub rest_next : (before now now' : BTreeMap Id ℕ) (ids rest rest' : List Id) (y : Id) (k : ℕ) → rest ≡ y ∷ rest'
    → NotesList now now' (y ∷ []) k → NotesRest before now ids rest k → NotesRest before now' ids rest' k
rest_next before now now' ids rest rest' y k is notes noted x j =
    ap (λ (b : Bool). has_id rest' x && j == k || b) (notes x j)
    ∙ (moved (y.origin == x.origin && y.num == x.num) (has_id rest' x) (j == k) (is_noted now x j)
    ∙ (ap (λ (r : List Id). has_id r x && j == k || is_noted now x j) (sym is) ∙ noted x j))

pub rest_done : (before now : BTreeMap Id ℕ) (ids rest : List Id) (k : ℕ) → rest ≡ [] → NotesRest before now ids rest k → NotesList before now ids k
rest_done before now ids rest k none noted x j = ap (λ (r : List Id). has_id r x && j == k || is_noted now x j) (sym none) ∙ noted x j
