-- Identifiers that are admitted one after the other are an identifier list in words, and the other way round.
use Rattle.std.proofs.Common.{◌≡◌, ℕ, zero, suc, ◌-◌, ◌+◌, ◌*◌, ◌++◌, take, drop, ◌/◌, ◌^◌, ◌<◌, ◌≤◌, ◌&&◌, Bool, true, false, cond, ltb, eqb, List, [], ◌∷◌, length, Option, Some, None, refl, sym, ap, subst, ◌∙◌, arith, inl, inr, ◌⊎◌}
use Rattle.std.specs.List.{AllByRecursion}
use Rattle.std.proofs.lemmas.List.Concat.{flat_map-cons}
use Rattle.std.proofs.lemmas.List.Sums.{sum_by-cons}
use Rattle.std.proofs.lemmas.Nat.{be_bytes_4, div-add-mod', mod_below, from_be_bytes-to_be_bytes_4}
use Rattle.std.specs.Int.{w32, from_be_bytes}
use Rattle.std.proofs.lemmas.List.{take_at, drop_at, length-append}
use Rattle.ritas_base.specs.Limits.{number_limit}
use Rattle.frame_codec.specs.Limits.{most_ids, share_of}
use Rattle.frame_codec.specs.VectorLaws.{IsBytes-drop, IsBytes-take}
use Rattle.frame_codec.specs.Format.{Is}
use Rattle.ritas_base.specs.Bytes.{IsBytes}
use Rattle.frame_codec.specs.Values.{id_bytes, ids_bytes, ids_in, ids_of}
use Rattle.frame_codec.specs.PartLaws.{ids_length, ids_length_in}
use Rattle.std.proofs.lemmas.Bool.{ltb-true, lt-ltb, eqb-true, eq-eqb, ne_eqb, and_parts, and_from, or_left, or_right, or_cases, cases_eq, cases_lt, cond-true, cond-false}
use Rattle.ritas_base.specs.declared.id.Id.{Id}
use Rattle.frame_codec.specs.declared.ids.Run.{Run}
use Rattle.frame_codec.specs.Grammar.{id_of, run_of, no_ids, with_id, has_origin, comes_after, admits, ids_from, ids, any_ids}
use Rattle.frame_codec.specs.Ids.{IsBelow, Ascends, of_origin, AreIds, AreAnyIds}

abbrev pub AreAdmitted : ℕ → Run → List Id → Type 0
AreAdmitted n run [] = Unit {0}
AreAdmitted n run (x ∷ xs) = (admits n run x ≡ true) × AreAdmitted n (with_id run x) xs

abbrev AscendsAfter : Option Id → List Id → Type 0
AscendsAfter None xs = Ascends xs
AscendsAfter (Some last) xs = Ascends (last ∷ xs)

-- how many identifiers so far are known to have the origin k: those of the last one's origin
abbrev carried_by : Option Id → ℕ → ℕ → ℕ
carried_by None same k = 0
carried_by (Some last) same k = cond (eqb last.origin k) same 0

abbrev carried : Run → ℕ → ℕ
carried run k = carried_by run.last run.same k

record RestIs (n : ℕ) (run : Run) (xs : List Id) : Type 0 where
  most : (0 < length xs → run.total + length xs ≤ most_ids)
  in_range : AllByRecursion (λ x. (x.origin < n) × (x.num < number_limit)) xs
  ascending : AscendsAfter run.last xs
  few : (k : ℕ) → of_origin k xs + carried run k ≤ run.share

below_cases : (x y : Id) → IsBelow x y → (x.origin < y.origin) ⊎ (y.origin ≡ x.origin)
below_cases x y h =
    elim (or_cases (ltb x.origin y.origin) (eqb y.origin x.origin && ltb x.num y.num) h) [
      | inl a ↦ inl (ltb-true x.origin y.origin a)
      | inr b ↦ inr (eqb-true y.origin x.origin (and_parts (eqb y.origin x.origin) (ltb x.num y.num) b).0)
    ]

is_one : (a b : ℕ) (x y : ℕ) → a ≡ b → cond (eqb a b) x y ≡ x
is_one a b x y e = cond-true (eqb a b) x y (eq-eqb a b e)

is_none : (a b : ℕ) (x y : ℕ) → (a ≡ b → ⊥) → cond (eqb a b) x y ≡ y
is_none a b x y ne = cond-false (eqb a b) x y (ne_eqb a b ne)

of_cons : (k : ℕ) (x : Id) (xs : List Id) → of_origin k (x ∷ xs) ≡ cond (eqb x.origin k) 1 0 + of_origin k xs
of_cons k x xs = sum_by-cons (λ (y : Id). cond (eqb y.origin k) 1 0) x xs

-- no identifier above x has an origin below that of x
none_below : (x : Id) (xs : List Id) (k : ℕ) → Ascends (x ∷ xs) → k < x.origin → of_origin k xs ≡ 0
none_below x [] k up lt = refl
none_below x (y ∷ xs) k up lt =
    let le : k < y.origin = elim (below_cases x y up.0) [ inl h ↦ omega (arith, h, lt) | inr e ↦ omega (arith, e, lt) ] in
    let other : y.origin ≡ k → ⊥ = λ e. absurd (omega (arith, e, le)) in
    omega (arith, of_cons k y xs, is_none y.origin k 1 0 other, none_below y xs k up.1 le)

-- one identifier more, counted
more_few : (share : ℕ) (last : Option Id) (same : ℕ) (x : Id) (xs : List Id) (k : ℕ) → comes_after share last same x ≡ true → Ascends (x ∷ xs) → carried_by last same k ≤ share
    → of_origin k xs + cond (eqb x.origin k) (cond (has_origin last x) (same + 1) 1) 0 ≤ share
    → of_origin k (x ∷ xs) + carried_by last same k ≤ share
more_few share None same x xs k after up within few = omega (arith, of_cons k x xs, few)
more_few share (Some last) same x xs k after up within few =
    elim (cases_eq x.origin k) [
      | inl here ↦
          let one = is_one x.origin k 1 0 here in
          let next = is_one x.origin k (cond (eqb x.origin last.origin) (same + 1) 1) 0 here in
          elim (cases_eq x.origin last.origin) [
            | inl again ↦
                let a = is_one x.origin last.origin (same + 1) 1 again in
                let b = is_one last.origin k same 0 (sym again ∙ here) in
                omega (arith, of_cons k x xs, one, next, a, b, few)
            | inr other ↦
                let a = is_none x.origin last.origin (same + 1) 1 other in
                let not_k : last.origin ≡ k → ⊥ = λ e. other (here ∙ sym e) in
                let b = is_none last.origin k same 0 not_k in
                omega (arith, of_cons k x xs, one, next, a, b, few)
          ]
      | inr there ↦
          let one = is_none x.origin k 1 0 there in
          let next = is_none x.origin k (cond (eqb x.origin last.origin) (same + 1) 1) 0 there in
          elim (cases_eq last.origin k) [
            | inl was ↦
                let above : k < x.origin = elim (or_cases (ltb last.origin x.origin) (eqb x.origin last.origin && (ltb last.num x.num && ltb same (share))) after) [
                  | inl a ↦ omega (arith, ltb-true last.origin x.origin a, was)
                  | inr b ↦ absurd (there (eqb-true x.origin last.origin (and_parts (eqb x.origin last.origin) (ltb last.num x.num && ltb same (share)) b).0 ∙ was))
                ] in
                omega (arith, of_cons k x xs, one, none_below x xs k up above, within)
            | inr other ↦
                let b = is_none last.origin k same 0 other in
                omega (arith, of_cons k x xs, one, next, b, few)
          ]
    ]

-- what the next one carries stays within the limit
next_within : (share : ℕ) (last : Option Id) (same : ℕ) (x : Id) → 0 < share → comes_after share last same x ≡ true → cond (has_origin last x) (same + 1) 1 ≤ share
next_within share None same x some after = omega (arith, some)
next_within share (Some last) same x some after =
    elim (or_cases (ltb last.origin x.origin) (eqb x.origin last.origin && (ltb last.num x.num && ltb same (share))) after) [
      | inl a ↦
          let other : x.origin ≡ last.origin → ⊥ = λ e. absurd (omega (arith, e, ltb-true last.origin x.origin a)) in
          omega (arith, is_none x.origin last.origin (same + 1) 1 other, some)
      | inr b ↦
          let c = and_parts (eqb x.origin last.origin) (ltb last.num x.num && ltb same (share)) b in
          let room = ltb-true same (share) (and_parts (ltb last.num x.num) (ltb same (share)) c.1).1 in
          omega (arith, is_one x.origin last.origin (same + 1) 1 (eqb-true x.origin last.origin c.0), room)
    ]

carries : (t : Bool) (x limit : ℕ) → x ≤ limit → cond t x 0 ≤ limit
carries true x limit le = le
carries false x limit le = omega arith

ascends_nil : (o : Option Id) → AscendsAfter o []
ascends_nil None = tt
ascends_nil (Some last) = tt

ascends_cons : (share : ℕ) (last : Option Id) (same : ℕ) (x : Id) (xs : List Id) → comes_after share last same x ≡ true → Ascends (x ∷ xs) → AscendsAfter last (x ∷ xs)
ascends_cons share None same x xs after up = up
ascends_cons share (Some last) same x xs after up =
    let below : IsBelow last x = elim (or_cases (ltb last.origin x.origin) (eqb x.origin last.origin && (ltb last.num x.num && ltb same (share))) after) [
      | inl a ↦ or_left (ltb last.origin x.origin) (eqb x.origin last.origin && ltb last.num x.num) a
      | inr b ↦
          let c = and_parts (eqb x.origin last.origin) (ltb last.num x.num && ltb same (share)) b in
          or_right (ltb last.origin x.origin) (eqb x.origin last.origin && ltb last.num x.num)
          (and_from (eqb x.origin last.origin) (ltb last.num x.num) c.0 (and_parts (ltb last.num x.num) (ltb same (share)) c.1).0)
    ] in
    (below, up)

to_words : (n : ℕ) (run : Run) (xs : List Id) → 0 < run.share → ((k : ℕ) → carried run k ≤ run.share) → AreAdmitted n run xs → RestIs n run xs
to_words n run [] some within ad = record { most = λ h. absurd (omega (arith, h)); in_range = tt; ascending = ascends_nil run.last; few = λ k. omega (arith, within k) }
to_words n run (x ∷ xs) some within ad =
    let a = and_parts (ltb x.origin n) (ltb x.num number_limit && (ltb run.total most_ids && comes_after run.share run.last run.same x)) ad.0 in
    let b = and_parts (ltb x.num number_limit) (ltb run.total most_ids && comes_after run.share run.last run.same x) a.1 in
    let c = and_parts (ltb run.total most_ids) (comes_after run.share run.last run.same x) b.1 in
    let room : run.total < most_ids = ltb-true run.total most_ids c.0 in
    let next = next_within run.share run.last run.same x some c.1 in
    let rest = to_words n (with_id run x) xs some (λ k. carries (eqb x.origin k) (cond (has_origin run.last x) (run.same + 1) 1) (run.share) next) ad.1 in
    record {
      most = λ h. elim (cases_lt 0 (length xs)) [ inl more ↦ omega (arith, rest.most more) | inr none ↦ omega (arith, room, none) ];
      in_range = ((ltb-true x.origin n a.0, ltb-true x.num number_limit b.0), rest.in_range);
      ascending = ascends_cons run.share run.last run.same x xs c.1 rest.ascending;
      few = λ k. more_few run.share run.last run.same x xs k c.1 rest.ascending (within k) (rest.few k);
    }

-- ---- and the other way round

after_from : (share : ℕ) (last : Option Id) (same : ℕ) (x : Id) (xs : List Id) → AscendsAfter last (x ∷ xs) → of_origin x.origin (x ∷ xs) + carried_by last same x.origin ≤ share → comes_after share last same x ≡ true
after_from share None same x xs up few = refl
after_from share (Some last) same x xs up few =
    elim (or_cases (ltb last.origin x.origin) (eqb x.origin last.origin && ltb last.num x.num) up.0) [
      | inl a ↦ or_left (ltb last.origin x.origin) (eqb x.origin last.origin && (ltb last.num x.num && ltb same (share))) a
      | inr b ↦
          let c = and_parts (eqb x.origin last.origin) (ltb last.num x.num) b in
          let is = eqb-true x.origin last.origin c.0 in
          let room : same < share = omega (arith, of_cons x.origin x xs, is_one x.origin x.origin 1 0 refl, is_one last.origin x.origin same 0 (sym is), few) in
          or_right (ltb last.origin x.origin) (eqb x.origin last.origin && (ltb last.num x.num && ltb same (share)))
          (and_from (eqb x.origin last.origin) (ltb last.num x.num && ltb same (share)) c.0 (and_from (ltb last.num x.num) (ltb same (share)) c.1 (lt-ltb same (share) room)))
    ]

next_few : (share : ℕ) (last : Option Id) (same : ℕ) (x : Id) (xs : List Id) (k : ℕ) → of_origin k (x ∷ xs) + carried_by last same k ≤ share
    → of_origin k xs + cond (eqb x.origin k) (cond (has_origin last x) (same + 1) 1) 0 ≤ share
next_few share None same x xs k few = omega (arith, of_cons k x xs, few)
next_few share (Some last) same x xs k few =
    elim (cases_eq x.origin k) [
      | inl here ↦
          let one = is_one x.origin k 1 0 here in
          let next = is_one x.origin k (cond (eqb x.origin last.origin) (same + 1) 1) 0 here in
          elim (cases_eq x.origin last.origin) [
            | inl again ↦ omega (arith, of_cons k x xs, one, next, is_one x.origin last.origin (same + 1) 1 again, is_one last.origin k same 0 (sym again ∙ here), few)
            | inr other ↦ omega (arith, of_cons k x xs, one, next, is_none x.origin last.origin (same + 1) 1 other, few)
          ]
      | inr there ↦ omega (arith, of_cons k x xs, is_none x.origin k 1 0 there, is_none x.origin k (cond (eqb x.origin last.origin) (same + 1) 1) 0 there, few)
    ]

ascends_tail : (last : Option Id) (x : Id) (xs : List Id) → AscendsAfter last (x ∷ xs) → Ascends (x ∷ xs)
ascends_tail None x xs up = up
ascends_tail (Some last) x xs up = up.1

from_words : (n : ℕ) (run : Run) (xs : List Id) → RestIs n run xs → AreAdmitted n run xs
from_words n run [] is = tt
from_words n run (x ∷ xs) is =
    let most = is.most (omega arith) in
    let room : run.total < most_ids = omega (arith, most) in
    let after = after_from run.share run.last run.same x xs is.ascending (is.few x.origin) in
    let rest : RestIs n (with_id run x) xs = record {
      most = λ h. omega (arith, most);
      in_range = is.in_range.1;
      ascending = ascends_tail run.last x xs is.ascending;
      few = λ k. next_few run.share run.last run.same x xs k (is.few k);
    } in
    (and_from (ltb x.origin n) _ (lt-ltb _ _ is.in_range.0.0) (and_from (ltb x.num number_limit) _ (lt-ltb _ _ is.in_range.0.1) (and_from (ltb run.total most_ids) _ (lt-ltb _ _ room) after)), from_words n (with_id run x) xs rest)

-- an identifier list in words, where so many may have one origin
pub record AreListed (n share : ℕ) (xs : List Id) : Type 0 where
  pub most : length xs ≤ most_ids
  pub in_range : AllByRecursion (λ x. (x.origin < n) × (x.num < number_limit)) xs
  pub ascending : Ascends xs
  pub few : (k : ℕ) → of_origin k xs ≤ share

-- the two readings of an identifier list are one
pub words_from_admitted : (n share : ℕ) (xs : List Id) → 0 < share → AreAdmitted n (run_of share) xs → AreListed n share xs
words_from_admitted n share xs some ad =
    let is = to_words n (run_of share) xs some (λ k. omega arith) ad in
    record {
      most = elim (cases_lt 0 (length xs)) [ inl more ↦ omega (arith, is.most more) | inr none ↦ omega (arith, none) ];
      in_range = is.in_range;
      ascending = is.ascending;
      few = λ k. omega (arith, is.few k);
    }

pub admitted_from_words : (n share : ℕ) (xs : List Id) → AreListed n share xs → AreAdmitted n (run_of share) xs
admitted_from_words n share xs is =
    from_words n (run_of share) xs
    (record { most = λ h. omega (arith, is.most); in_range = is.in_range; ascending = is.ascending; few = λ k. omega (arith, is.few k) })

shared_ids : (n : ℕ) (xs : List Id) → AreIds n xs → AreListed n (share_of n) xs
shared_ids n xs is = record { most = is.most; in_range = is.in_range; ascending = is.ascending; few = is.few }

ids_shared : (n : ℕ) (xs : List Id) → AreListed n (share_of n) xs → AreIds n xs
ids_shared n xs is = record { most = is.most; in_range = is.in_range; ascending = is.ascending; few = is.few }

-- no more have one origin than there are
of_most : (k : ℕ) (xs : List Id) → of_origin k xs ≤ length xs
of_most k [] = omega arith
of_most k (x ∷ xs) = omega (arith, of_cons k x xs, of_most k xs, one_most (eqb x.origin k))
  where
    one_most : (t : Bool) → cond t 1 0 ≤ 1
    one_most true = omega arith
    one_most false = omega arith

any_shares : (n : ℕ) (xs : List Id) → AreAnyIds n xs → AreListed n most_ids xs
any_shares n xs is = record { most = is.most; in_range = is.in_range; ascending = is.ascending; few = λ k. omega (arith, is.most, of_most k xs) }

-- ---- the bytes

pub id_again : (x : Id) → x.num < 2 ^ 32 → id_of (id_bytes x) ≡ x
id_again x lt = ap (λ (num : ℕ). let y : Id = record x { num = num } in y) (from_be_bytes-to_be_bytes_4 x.num lt)

pub ids_written : (n : ℕ) (run : Run) (xs : List Id) → AreAdmitted n run xs → Is (ids_from n (length xs) run) (ids_bytes xs)
unfolding ids_from
ids_written n run [] ad = refl
ids_written n run (x ∷ xs) ad =
    let a = and_parts (ltb x.origin n) (ltb x.num number_limit && (ltb run.total most_ids && comes_after run.share run.last run.same x)) ad.0 in
    let small : x.num < 2 ^ 32 = omega (arith, ltb-true x.num number_limit (and_parts (ltb x.num number_limit) (ltb run.total most_ids && comes_after run.share run.last run.same x) a.1).0) in
    let again = id_again x small in (
      id_bytes x,
      ids_bytes xs,
      flat_map-cons id_bytes x xs,
      refl,
      ap (admits n run) again ∙ ad.0,
      subst (λ (y : Id). Is (ids_from n (length xs) (with_id run y)) (ids_bytes xs)) (sym again) (ids_written n (with_id run x) xs ad.1),
    )

-- a list in words, written, is of the grammar
pub list_written : (n : ℕ) (xs : List Id) → 0 < length xs → AreIds n xs → Is (ids n) (ids_bytes xs)
unfolding ids
list_written n xs some is =
    let text = ids_written n (no_ids n) xs (admitted_from_words n (share_of n) xs (shared_ids n xs is)) in
    let len : length (ids_bytes xs) ≡ 5 * length xs = ids_length n (length xs) (no_ids n) (ids_bytes xs) text in
    let count : length xs ≡ (length (ids_bytes xs) - 1) / 5 + 1 = omega arith in
    subst (λ (c : ℕ). Is (ids_from n c (no_ids n)) (ids_bytes xs)) count text

-- ---- every list of the grammar is one in words

id_back : (f : List ℕ) → IsBytes f → length f ≡ 5 → id_bytes (id_of f) ≡ f
id_back [] fits len = absurd (omega (arith, len))
id_back (a ∷ rest) fits len =
    let four : length rest ≡ 4 = omega (arith, len) in
    ap (λ (l : List ℕ). a ∷ l) (be_bytes_4 rest (from_be_bytes w32 rest) four (λ i. fits (suc i)) refl)

ids_are : (n count : ℕ) (run : Run) (text : List ℕ) → IsBytes text → Is (ids_from n count run) text → (text ≡ ids_bytes (ids_in count text)) × AreAdmitted n run (ids_in count text)
unfolding ids_from ids_in
ids_are n zero run text fits is = (is, tt)
ids_are n (suc count) run text fits (f, r, parts, len, ok, more) =
    let first : take 5 text ≡ f = ap (take 5) parts ∙ take_at f r 5 len in
    let tail : drop 5 text ≡ r = ap (drop 5) parts ∙ drop_at f r 5 len in
    let f_fits : IsBytes f = subst IsBytes first (IsBytes-take 5 text fits) in
    let r_fits : IsBytes r = subst IsBytes tail (IsBytes-drop 5 text fits) in
    let others = ids_are n count (with_id run (id_of f)) r r_fits more in
    let made : ids_in (suc count) text ≡ id_of f ∷ ids_in count r = rw (first, tail) refl in
    let spelled : text ≡ ids_bytes (id_of f ∷ ids_in count r) =
    parts ∙ ap (λ (l : List ℕ). l ++ r) (sym (id_back f f_fits len)) ∙ ap (λ (l : List ℕ). id_bytes (id_of f) ++ l) others.0 ∙ sym (flat_map-cons id_bytes (id_of f) (ids_in count r)) in
    let P : List Id → Type 0 = λ xs. (text ≡ ids_bytes xs) × AreAdmitted n run xs in
    subst P (sym made) (spelled, (ok, others.1))

share_some : (n : ℕ) → 1 ≤ n → n ≤ most_ids → 0 < share_of n
share_some n some most =
    elim (cases_lt 0 (share_of n)) [
      | inl lt ↦ lt
      | inr le ↦
          let none : share_of n ≡ 0 = omega (arith, le) in
          let product : share_of n * n ≡ 0 * n = ap (λ (q : ℕ). q * n) none in
          absurd (omega (arith, div-add-mod' most_ids n, mod_below most_ids n some, product, most))
    ]

pub list_is : (n : ℕ) (text : List ℕ) → 1 ≤ n → n ≤ most_ids → IsBytes text → Is (ids n) text
    → (0 < length (ids_of text)) × (text ≡ ids_bytes (ids_of text)) × AreIds n (ids_of text)
unfolding ids
list_is n text some most fits is =
    let count = (length text - 1) / 5 + 1 in
    let len : length text ≡ 5 * count = ids_length n count (no_ids n) text is in
    let same : count ≡ length text / 5 = omega arith in
    let are = ids_are n (length text / 5) (no_ids n) text fits (subst (λ (c : ℕ). Is (ids_from n c (no_ids n)) text) same is) in
    let long : 0 < length (ids_of text) = omega (arith, ids_length_in (length text / 5) text) in
    (long, are.0, ids_shared n (ids_of text) (words_from_admitted n (share_of n) (ids_of text) (share_some n some most) are.1))

-- ---- the same of lists of any shares

pub any_written : (n : ℕ) (xs : List Id) → AreAnyIds n xs → Is (any_ids n) (ids_bytes xs)
unfolding any_ids
any_written n xs is =
    let text = ids_written n (run_of most_ids) xs (admitted_from_words n most_ids xs (any_shares n xs is)) in
    let len : length (ids_bytes xs) ≡ 5 * length xs = ids_length n (length xs) (run_of most_ids) (ids_bytes xs) text in
    let count : length xs ≡ (length (ids_bytes xs) + 4) / 5 = omega arith in
    subst (λ (c : ℕ). Is (ids_from n c (run_of most_ids)) (ids_bytes xs)) count text

pub any_is : (n : ℕ) (text : List ℕ) → IsBytes text → Is (any_ids n) text → (text ≡ ids_bytes (ids_of text)) × AreAnyIds n (ids_of text)
unfolding any_ids
any_is n text fits is =
    let count = (length text + 4) / 5 in
    let len : length text ≡ 5 * count = ids_length n count (run_of most_ids) text is in
    let same : count ≡ length text / 5 = omega arith in
    let are = ids_are n (length text / 5) (run_of most_ids) text fits (subst (λ (c : ℕ). Is (ids_from n c (run_of most_ids)) text) same is) in
    let listed = words_from_admitted n most_ids (ids_of text) (omega arith) are.1 in
    (are.0, record { most = listed.most; in_range = listed.in_range; ascending = listed.ascending })

-- ---- and what is so of lists of any numbers, bytes or not

ids_admitted : (n count : ℕ) (run : Run) (text : List ℕ) → Is (ids_from n count run) text → AreAdmitted n run (ids_in count text)
unfolding ids_from ids_in
ids_admitted n zero run text is = tt
ids_admitted n (suc count) run text (f, r, parts, len, ok, more) =
    let first : take 5 text ≡ f = ap (take 5) parts ∙ take_at f r 5 len in
    let tail : drop 5 text ≡ r = ap (drop 5) parts ∙ drop_at f r 5 len in
    let made : ids_in (suc count) text ≡ id_of f ∷ ids_in count r = rw (first, tail) refl in
    subst (AreAdmitted n run) (sym made) (ok, ids_admitted n count (with_id run (id_of f)) r more)

pub list_words : (n : ℕ) (text : List ℕ) → 1 ≤ n → n ≤ most_ids → Is (ids n) text → AreIds n (ids_of text)
unfolding ids
list_words n text some most is =
    let count = (length text - 1) / 5 + 1 in
    let len : length text ≡ 5 * count = ids_length n count (no_ids n) text is in
    let same : count ≡ length text / 5 = omega arith in
    let are = ids_admitted n (length text / 5) (no_ids n) text (subst (λ (c : ℕ). Is (ids_from n c (no_ids n)) text) same is) in
    ids_shared n (ids_of text) (words_from_admitted n (share_of n) (ids_of text) (share_some n some most) are)

pub any_words : (n : ℕ) (text : List ℕ) → Is (any_ids n) text → AreAnyIds n (ids_of text)
unfolding any_ids
any_words n text is =
    let count = (length text + 4) / 5 in
    let len : length text ≡ 5 * count = ids_length n count (run_of most_ids) text is in
    let same : count ≡ length text / 5 = omega arith in
    let are = ids_admitted n (length text / 5) (run_of most_ids) text (subst (λ (c : ℕ). Is (ids_from n c (run_of most_ids)) text) same is) in
    let listed = words_from_admitted n most_ids (ids_of text) (omega arith) are in
    record { most = listed.most; in_range = listed.in_range; ascending = listed.ascending }

-- ---- a list that was written is read again

ids_bytes_length : (xs : List Id) → length (ids_bytes xs) ≡ 5 * length xs
ids_bytes_length [] = refl
ids_bytes_length (x ∷ xs) =
    ap length (flat_map-cons id_bytes x xs) ∙ omega (arith, length-append (id_bytes x) (ids_bytes xs), ids_bytes_length xs)

ids_in_again : (xs : List Id) → AllByRecursion (λ x. x.num < 2 ^ 32) xs → ids_in (length xs) (ids_bytes xs) ≡ xs
unfolding ids_in
ids_in_again [] all = refl
ids_in_again (x ∷ xs) all =
    ap (ids_in (suc (length xs))) (flat_map-cons id_bytes x xs) ∙ rw (id_again x all.0, ids_in_again xs all.1) refl

pub list_again : (xs : List Id) → AllByRecursion (λ x. x.num < 2 ^ 32) xs → ids_of (ids_bytes xs) ≡ xs
list_again xs all =
    let count : length (ids_bytes xs) / 5 ≡ length xs = omega (arith, ids_bytes_length xs) in
    ap (λ (c : ℕ). ids_in c (ids_bytes xs)) count ∙ ids_in_again xs all
