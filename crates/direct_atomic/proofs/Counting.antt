-- How many lists name an identifier, as one list more is heard.
use Rattle.std.specs.Prelude.{◌≡◌, ℕ, zero, suc, ◌+◌, ◌<◌, ◌≤◌, Bool, true, false, ◌==◌, ◌&&◌, ◌||◌, List, [], ◌∷◌, count_by, ◌++◌, nat_le, length, take, Option, Some, None, is_some, if◌then◌else◌, refl}
use Rattle.std.specs.List.{AllByRecursion}
use Rattle.std.specs.BTreeMap.{BTreeMap}
use Rattle.std.proofs.Common.{sym, ◌∙◌, ap, inl, inr, arith}
use Rattle.std.proofs.lemmas.Bool.{cases_eq, eq-eqb, ne_eqb, le-leb, and_from, or_left, or_right}
use Rattle.ritas_base.specs.declared.id.Id.{Id}
use Rattle.ritas_base.specs.History.{replicas}
use Rattle.ritas_base.specs.Quorums.{count_by-map, count_same}
use Rattle.frame_codec.specs.Values.{ids_of, is_passed}
use Rattle.layer_api.specs.Service.{has_id}
use Rattle.layer_api.specs.Words.{Word, Hear, value_at}
use Rattle.layer_api.specs.Multi.{Scope}
use Rattle.layer_api.specs.RoundLists.{prop_slot, props, present}
use Rattle.layer_api.specs.RoundListLaws.{present_counted, other_value, its_value}
use Rattle.ordered_rounds.specs.Backing.{is_noted, lists_with, NotesList}
use Rattle.ordered_rounds.specs.Identifiers.{in_order, passing_ids}
use Rattle.ordered_rounds.specs.Laws.Ordered.{in_order_all}
use Rattle.ordered_rounds.specs.Laws.NotedLists.{as_one, count_cons, count_maybe, lists_more, none_marked, none_noted}
use Rattle.layer_api.specs.Proposals.{backers}
use Rattle.ordered_rounds.specs.Rounds.{entry_ids}

-- ---- one list more

and_false : (b : Bool) → (b && false) ≡ false
and_false true = refl
and_false false = refl

or_false : (b : Bool) → (b || false) ≡ b
or_false true = refl
or_false false = refl

and_true : (b : Bool) → (b && true) ≡ b
and_true true = refl
and_true false = refl

module _ (at : Scope) (w : List Word) (k : ℕ) (v : List ℕ) (none : value_at w (prop_slot at k) ≡ None) where
  abbrev there : ℕ → Option (List ℕ)
  there j = value_at w (prop_slot at j)

  abbrev now : ℕ → Option (List ℕ)
  now j = value_at (Hear (prop_slot at k) v ∷ w) (prop_slot at j)

  passes : (t : List ℕ → Bool) (j : ℕ) → is_passed t (now j) ≡ (t v && j == k || is_passed t (there j))
  passes t j =
      elim (cases_eq j k) [
        | inl same ↦
            ap (λ (i : ℕ). is_passed t (now i)) same
            ∙ (ap (is_passed t) (its_value at w k v none)
            ∙ (sym (or_false (t v))
            ∙ (ap (λ (b : Bool). b || false) (sym (and_true (t v)) ∙ ap (λ (b : Bool). t v && b) (sym (eq-eqb j k same)))
            ∙ ap (λ (b : Bool). t v && j == k || b) (sym (ap (λ (i : ℕ). is_passed t (there i)) same ∙ ap (is_passed t) none)))))
        | inr other ↦
            ap (is_passed t) (other_value at w k v j other)
            ∙ ap (λ (b : Bool). b || is_passed t (there j)) (sym (ap (λ (b : Bool). t v && b) (ne_eqb j k other) ∙ and_false (t v)))
      ]

  one_more : (t : List ℕ → Bool) → k < at.numbers.n
      → count_by (λ j. is_passed t (now j)) (replicas at.numbers.n) ≡ as_one (t v) + count_by (λ j. is_passed t (there j)) (replicas at.numbers.n)
  one_more t within = count_maybe (λ j. is_passed t (there j)) (λ j. is_passed t (now j)) k at.numbers.n (t v) (ap (is_passed t) none) (passes t) within

  pub backers_more : (x : Id) → k < at.numbers.n
      → backers (present (props at (Hear (prop_slot at k) v ∷ w))) x ≡ as_one (has_id (ids_of v) x) + backers (present (props at w)) x
  backers_more x within =
      let t : List ℕ → Bool = λ e. has_id (ids_of e) x in
      let after = present_counted t now (replicas at.numbers.n) in
      let before = present_counted t there (replicas at.numbers.n) in
      let more = one_more t within in
      omega (arith, after, before, more)

  pub count_more : k < at.numbers.n → count_by is_some (props at (Hear (prop_slot at k) v ∷ w)) ≡ 1 + count_by is_some (props at w)
  count_more within =
      let all : List ℕ → Bool = λ e. true in
      let after = count_by-map is_some now (replicas at.numbers.n) ∙ count_same (λ j. is_some (now j)) (λ j. is_passed all (now j)) (λ j. there_passes (now j)) (replicas at.numbers.n) in
      let before = count_by-map is_some there (replicas at.numbers.n) ∙ count_same (λ j. is_some (there j)) (λ j. is_passed all (there j)) (λ j. there_passes (there j)) (replicas at.numbers.n) in
      let more = one_more all within in
      omega (arith, after, before, more)
    where
      there_passes : (o : Option (List ℕ)) → is_some o ≡ is_passed (λ e. true) o
      there_passes None = refl
      there_passes (Some e) = refl

  -- whose list isn't there, none of its identifiers is noted
  pub fresh_more : (noted noted' : BTreeMap Id ℕ) → NotesList noted noted' (ids_of v) k → ((x : Id) (j : ℕ) → there j ≡ None → is_noted noted x j ≡ false)
      → (x : Id) (j : ℕ) → now j ≡ None → is_noted noted' x j ≡ false
  fresh_more noted noted' notes fresh x j gone =
      elim (cases_eq j k) [
        | inl same ↦ absurd (let z : Some v ≡ None = sym (its_value at w k v none) ∙ (ap now (sym same) ∙ gone) in cc)
        | inr other ↦
            notes x j
            ∙ (ap (λ (b : Bool). b || is_noted noted x j) (ap (λ (b : Bool). has_id (ids_of v) x && b) (ne_eqb j k other) ∙ and_false (has_id (ids_of v) x))
            ∙ fresh x j (sym (other_value at w k v j other) ∙ gone))
      ]

-- ---- one list alone

abbrev alone : List ℕ → List (List ℕ)
alone v = v ∷ []

pub alone_noted : (noted noted' : BTreeMap Id ℕ) (v : List ℕ) → noted.entries ≡ [] → NotesList noted noted' (ids_of v) 0 → (x : Id) → lists_with noted' x ≡ backers (alone v) x
alone_noted noted noted' v none notes x =
    let more = lists_more noted noted' (ids_of v) 0 x (omega arith) (none_marked noted x 0 none) notes in
    let zero = none_noted noted x none in
    let split = count_cons (λ (e : List ℕ). has_id (ids_of e) x) v [] in
    omega (arith, more, zero, split)

append_nil : (xs : List Id) → xs ++ [] ≡ xs
append_nil [] = refl
append_nil (x ∷ xs) = ap (λ (ys : List Id). x ∷ ys) (append_nil xs)

each_has : (all xs : List Id) → ((z : Id) → has_id xs z ≡ true → has_id all z ≡ true) → AllByRecursion (λ z. has_id all z ≡ true) xs
each_has all [] more = tt
each_has all (x ∷ xs) more = (
  more x (or_left (x.origin == x.origin && x.num == x.num) (has_id xs x) (and_from (x.origin == x.origin) (x.num == x.num) (eq-eqb x.origin x.origin refl) (eq-eqb x.num x.num refl))),
  each_has all xs (λ z h. more z (or_right (x.origin == z.origin && x.num == z.num) (has_id xs z) h)),
)

all_kept : (t : Id → Bool) (xs : List Id) → AllByRecursion (λ z. t z ≡ true) xs → passing_ids t xs ≡ xs
all_kept t [] all = refl
all_kept t (x ∷ xs) all = ap (λ (b : Bool). if b then x ∷ passing_ids t xs else passing_ids t xs) all.0 ∙ ap (λ (ys : List Id). x ∷ ys) (all_kept t xs all.1)

weaker : (P Q : Id → Type 0) → ((z : Id) → P z → Q z) → (xs : List Id) → AllByRecursion P xs → AllByRecursion Q xs
weaker P Q more [] all = tt
weaker P Q more (x ∷ xs) all = (more x all.0, weaker P Q more xs all.1)

pub alone_backed : (v : List ℕ) → passing_ids (λ x. nat_le 1 (backers (alone v) x)) (in_order (entry_ids (alone v))) ≡ in_order (ids_of v)
alone_backed v =
    let t : Id → Bool = λ x. nat_le 1 (backers (alone v) x) in
    ap (λ (xs : List Id). passing_ids t (in_order xs)) (append_nil (ids_of v))
    ∙ all_kept t (in_order (ids_of v))
    (in_order_all (λ z. t z ≡ true) (ids_of v)
    (weaker (λ z. has_id (ids_of v) z ≡ true) (λ z. t z ≡ true) stands (ids_of v) (each_has (ids_of v) (ids_of v) (λ z h. h))))
  where
    stands : (z : Id) → has_id (ids_of v) z ≡ true → nat_le 1 (backers (alone v) z) ≡ true
    stands z h =
        let split = count_cons (λ (e : List ℕ). has_id (ids_of e) z) v [] in
        let one = ap as_one h in
        le-leb 1 (backers (alone v) z) (omega (arith, split, one))

-- ---- the front of a list

pub take_few : (k j : ℕ) (xs : List Id) → j ≤ k → (j < k → length xs ≤ j) → take j xs ≡ take k xs
take_few zero zero xs small all = refl
take_few zero (suc j) xs small all = absurd (omega (arith, small))
take_few (suc k) zero [] small all = refl
take_few (suc k) zero (x ∷ xs) small all = absurd (let l = all (omega arith) in omega (arith, l))
take_few (suc k) (suc j) [] small all = refl
take_few (suc k) (suc j) (x ∷ xs) small all =
    ap (λ (ys : List Id). x ∷ ys) (take_few k j xs (omega (arith, small)) (λ less. let l = all (omega (arith, less)) in omega (arith, l)))
