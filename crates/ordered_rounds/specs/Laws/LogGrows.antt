-- The identifier log of atomic broadcast grows by commands that were delivered and are not past, and each origin's base never
-- falls.
use Rattle.std.specs.Prelude.{◌≡◌, ℕ, zero, suc, ◌+◌, ◌<◌, ◌≤◌, Bool, true, false, ◌==◌, ◌&&◌, nat_lt, if◌then◌else◌, List, [], ◌∷◌, ◌++◌, length, Option, Some, None, MatchOption, unwrap_or, refl}
use Rattle.std.specs.List.{list_any, AllByRecursion}
use Rattle.std.proofs.Common.{sym, ◌∙◌, ap, subst, inl, inr, arith}
use Rattle.std.proofs.lemmas.Bool.{cases_order, and_right, and_parts, or_cases, or_parts, or_left, or_right, not-true, not-false, eqb-true, eq-eqb, ltb-true, ltb-false, leb-false, both_ways, false_from_ne_true}
use Rattle.std.proofs.lemmas.Map.Steps.{le-length_from_below}
use Rattle.ritas_base.specs.declared.slot.Slot.{Slot}
use Rattle.ritas_base.specs.declared.id.Id.{Id}
use Rattle.ritas_base.specs.Numbers.{Numbers}
use Rattle.ritas_base.specs.Slots.{command_slot}
use Rattle.ritas_base.specs.SlotLaws.{right_command}
use Rattle.ritas_base.specs.Versions.{has_past}
use Rattle.ritas_base.specs.SlotOrder.{is_slot, same_slot}
use Rattle.layer_api.specs.Words.{Word, Ask, Hear, is_heard}
use Rattle.layer_api.specs.Service.{Seat, is_past, is_ahead, MayHear, AreProper, AreDistinct, AreHeard, AreRecent, Appends, IsPart, IsBase, has_id}
use Rattle.layer_api.specs.FedLaws.{some_if, shortest_at}
use Rattle.ordered_rounds.specs.Box.{RoundRules}
use Rattle.ordered_rounds.specs.Laws.Searching.{IsLeastFrom, NonePasses, find_is, heard_stays}
use Rattle.ordered_rounds.specs.Identifiers.{IsSorted, passing_ids, is_without, all_pass, append_ids}
use Rattle.ordered_rounds.specs.Rounds.{has_command, appended, completes_with, completes_at, log_below, complete_of, round_decides, least_without, rounds, ordered}
use Rattle.ordered_rounds.specs.Laws.LogsByRound.{log_complete, log_grows, done_distinct}

-- ---- the least number that isn't in a log

-- an origin's identifier of this number
abbrev id : ℕ → ℕ → Id
id origin num = record { origin = origin; num = num }

-- whether an origin's number is in the log
abbrev pub is_in : List Id → ℕ → ℕ → Bool
is_in xs o k = has_id xs (id o k)

-- the numbers of identifiers
abbrev numbers_in : List Id → List ℕ
numbers_in [] = []
numbers_in (x ∷ xs) = x.num ∷ numbers_in xs

as_many : (xs : List Id) → length (numbers_in xs) ≡ length xs
as_many [] = refl
as_many (x ∷ xs) = let ih = as_many xs in omega (arith, ih)

-- the number of an identifier in the list is among them
number_in : (xs : List Id) (o k : ℕ) → is_in xs o k ≡ true → list_any (λ (x : ℕ). k == x) (numbers_in xs) ≡ true
number_in [] o k h = h
number_in (y ∷ xs) o k h =
    elim (or_cases (y.origin == o && y.num == k) (is_in xs o k) h) [
      | inl here ↦
          let same : k ≡ y.num = sym (eqb-true y.num k (and_parts (y.origin == o) _ here).1) in
          or_left (k == y.num) (list_any (λ (x : ℕ). k == x) (numbers_in xs)) (eq-eqb k y.num same)
      | inr there ↦ or_right (k == y.num) (list_any (λ (x : ℕ). k == x) (numbers_in xs)) (number_in xs o k there)
    ]

-- of so many numbers not all are in it
not_all_in : (xs : List Id) (o n : ℕ) → ((k : ℕ) → k < n → is_in xs o k ≡ true) → n ≤ length xs
not_all_in xs o n all =
    let few = le-length_from_below (numbers_in xs) n (λ k below. number_in xs o k (all k below)) in let m = as_many xs in omega (arith, few, m)

-- what the search for the least number gives
found_least : (xs : List Id) (o : ℕ) (found : Option ℕ)
    → MatchOption found (NonePasses (λ k. is_without xs (id o k)) 0 (length xs + 1)) (IsLeastFrom (λ k. is_without xs (id o k)) 0)
    → IsBase (is_in xs o) (unwrap_or found (length xs))
found_least xs o None none =
    let all = not_all_in xs o (length xs + 1) (λ k within. not-false (is_in xs o k) (none k (omega arith) (omega arith))) in
    absurd (omega (arith, all))
found_least xs o (Some b) first = record {
  missing = not-true (is_in xs o b) first.passes;
  below = λ k before. not-false (is_in xs o k) (first.none_before k (omega arith) before);
}

-- the base is the least of an origin's numbers that is not in the log
pub least_is : (xs : List Id) (o : ℕ) → IsBase (is_in xs o) (least_without xs o)
least_is xs o = found_least xs o _ (find_is (λ k. is_without xs (id o k)) 0 (length xs + 1))

-- what is in a list is in one that it is a part of
has_more : (ms xs : List Id) (x : Id) → has_id xs x ≡ true → has_id (ms ++ xs) x ≡ true
has_more [] xs x h = h
has_more (m ∷ ms) xs x h = or_right (m.origin == x.origin && m.num == x.num) (has_id (ms ++ xs) x) (has_more ms xs x h)

has_part : (xs ys : List Id) → IsPart xs ys → (x : Id) → has_id xs x ≡ true → has_id ys x ≡ true
has_part xs ys part x h = subst (λ (t : List Id). has_id t x ≡ true) part.1 (has_more part.0 xs x h)

-- it never falls as the log grows
pub least_stays : (xs ys : List Id) (o : ℕ) → IsPart xs ys → least_without xs o ≤ least_without ys o
least_stays xs ys o part =
    let a = least_is xs o in
    let b = least_is ys o in
    elim (cases_order (least_without xs o) (least_without ys o)) [
      | inl same ↦ let e = same in omega (arith, e)
      | inr (inl less) ↦ omega (arith, less)
      | inr (inr more) ↦ absurd (both_ways _ b.missing (has_part xs ys part (id o (least_without ys o)) (a.below (least_without ys o) more)))
    ]

-- ---- what is appended was delivered

-- where each command that is wanted is delivered, each one of those kept was heard
heard_each : (w : List Word) (test : Id → Bool) (xs : List Id) → all_pass (has_command w) xs ≡ true → AreHeard w (passing_ids test xs)
heard_each w test [] h = tt
heard_each w test (x ∷ xs) h = let p = and_parts (has_command w x) _ h in go (test x) p.0 (heard_each w test xs p.1)
  where
    go : (b : Bool) → has_command w x ≡ true → AreHeard w (passing_ids test xs) → AreHeard w (if b then x ∷ passing_ids test xs else passing_ids test xs)
    go true here rest = (here, rest)
    go false here rest = rest

-- with these appended each in the log was heard, where that is so of both
heard_appended : (w : List Word) (xs log : List Id) → AreHeard w xs → AreHeard w log → AreHeard w (append_ids xs log)
heard_appended w [] log a b = b
heard_appended w (x ∷ xs) log a b = heard_appended w xs (x ∷ log) a.1 (a.0, b)

-- what was heard earlier is heard
heard_later : (w u : List Word) → ((s : Slot) → is_heard w s ≡ true → is_heard u s ≡ true) → (xs : List Id) → AreHeard w xs → AreHeard u xs
heard_later w u more [] h = tt
heard_later w u more (x ∷ xs) h = (more (command_slot x.origin x.num) h.0, heard_later w u more xs h.1)

-- so each in the log of a complete round was heard, where that is so of the log before it
heard_completes : (v : RoundRules) (seat : Seat) (before : Option (List Id)) (decision : Option (List ℕ)) (h : List Word) (log : List Id)
    → ((old : List Id) → before ≡ Some old → AreHeard h old) → completes_with v seat before decision h ≡ Some log → AreHeard h log
heard_completes v seat None decision h log old q = absurd cc
heard_completes v seat (Some x) None h log old q = absurd cc
heard_completes v seat (Some x) (Some vector) h log old q =
    let i = some_if (all_pass (has_command h) (v.wanted seat.numbers vector)) (appended v seat.numbers vector x) log q in
    let new = heard_each h (is_without x) (v.wanted seat.numbers vector) i.0 in
    subst (AreHeard h) i.1 (heard_appended h (passing_ids (is_without x) (v.wanted seat.numbers vector)) x new (old x refl))

-- before any word nothing is appended: an identifier that is wanted waits for its command
none_wanted : (xs : List Id) → all_pass (has_command []) xs ≡ true → xs ≡ []
none_wanted [] h = refl
none_wanted (x ∷ xs) h = absurd cc

-- where nothing is wanted the log stays
nothing_appended : (log xs : List Id) → xs ≡ [] → append_ids (passing_ids (is_without log) xs) log ≡ log
nothing_appended log xs e = subst (λ (ys : List Id). append_ids (passing_ids (is_without log) ys) log ≡ log) (sym e) refl

nothing_completes : (v : RoundRules) (seat : Seat) (before : Option (List Id)) (decision : Option (List ℕ)) (log : List Id)
    → ((old : List Id) → before ≡ Some old → old ≡ []) → completes_with v seat before decision [] ≡ Some log → log ≡ []
nothing_completes v seat None decision log old q = absurd cc
nothing_completes v seat (Some x) None log old q = absurd cc
nothing_completes v seat (Some x) (Some vector) log old q =
    let i = some_if (all_pass (has_command []) (v.wanted seat.numbers vector)) (appended v seat.numbers vector x) log q in
    sym i.1 ∙ (nothing_appended x (v.wanted seat.numbers vector) (none_wanted (v.wanted seat.numbers vector) i.0) ∙ old x refl)

-- the command of an identifier in such a log was heard
heard_of : (w : List Word) (xs : List Id) (o k : ℕ) → AreHeard w xs → is_in xs o k ≡ true → is_heard w (command_slot o k) ≡ true
heard_of w [] o k all h = absurd cc
heard_of w (x ∷ xs) o k all h =
    elim (or_cases (x.origin == o && x.num == k) (is_in xs o k) h) [
      | inl here ↦
          let p = and_parts (x.origin == o) _ here in
          let a : x.origin ≡ o = eqb-true x.origin o p.0 in
          let n : x.num ≡ k = eqb-true x.num k p.1 in
          subst (λ (i : ℕ). is_heard w (command_slot i k) ≡ true) a (subst (λ (j : ℕ). is_heard w (command_slot x.origin j) ≡ true) n all.0)
      | inr there ↦ heard_of w xs o k all.1 there
    ]

module _ (v : RoundRules) (seat : Seat) where
  -- each in the log after so many rounds was heard
  log_heard : (a : ℕ) (w : List Word) (log : List Id) → log_below v seat a w ≡ Some log → AreHeard w log
  log_heard zero w log q = let e : [] ≡ log = cc in subst (AreHeard w) e tt
  log_heard (suc a) w log q =
      let t = shortest_at (λ (h : List Word). (s : Slot) → is_heard h s ≡ true → is_heard w s ≡ true) (λ c h keep s e. keep s (heard_stays c h s e))
      (completes_at v seat a (log_below v seat a)) w log (λ s e. e) q in
      heard_later t.0 w t.1 log
      (heard_completes v seat (log_below v seat a t.0) (round_decides v seat a t.0) t.0 log (λ old r. log_heard a t.0 old r) t.2)

  -- before any word it is empty
  log_nothing : (a : ℕ) (log : List Id) → log_below v seat a [] ≡ Some log → log ≡ []
  log_nothing zero log q = cc
  log_nothing (suc a) log q = nothing_completes v seat (log_below v seat a []) (round_decides v seat a []) log (λ old r. log_nothing a old r) q

  -- the service's log and bases
  abbrev done : List Word → List Id
  done w = (ordered v).done seat w

  abbrev base : List Word → ℕ → ℕ
  base w o = (ordered v).base seat w o

  -- each in the service's log was heard
  pub done_heard : (w : List Word) → AreHeard w (done w)
  done_heard w = log_heard (complete_of v seat rounds w) w (done w) (log_complete v seat rounds w)

  -- before any word it is empty
  pub done_nothing : done [] ≡ []
  done_nothing = log_nothing (complete_of v seat rounds []) (done []) (log_complete v seat rounds [])

  -- ---- what was heard lies near the base

  -- a base never falls
  pub base_stays : (c : Word) (w : List Word) (o : ℕ) → base w o ≤ base (c ∷ w) o
  base_stays c w o = least_stays (done w) (done (c ∷ w)) o (log_grows v seat rounds c w)

  -- a number that isn't in the log isn't below the base
  pub without_above : (w : List Word) (o k : ℕ) → is_in (done w) o k ≡ false → base w o ≤ k
  without_above w o k none = go (nat_lt k (base w o)) refl
    where
      go : (b : Bool) → nat_lt k (base w o) ≡ b → base w o ≤ k
      go false e = ltb-false _ _ e
      go true e = absurd (both_ways _ none ((least_is (done w) o).below k (ltb-true _ _ e)))

  -- what is heard now lies less than 64 above the base
  near_now : (w : List Word) (s : Slot) (x : List ℕ) (o k : ℕ) → MayHear (ordered v) seat w s x → is_slot s (command_slot o k) ≡ true → k < base w o + 64
  near_now w s x o k may here =
      let same = same_slot s (command_slot o k) here in
      let ahead = subst (λ (q : Slot). is_ahead (ordered v) seat w q ≡ false) same may.not_ahead in
      leb-false (base w o + 64) k ahead

  -- each number that was heard is less than 64 above the base
  pub heard_near : (w : List Word) (o k : ℕ) → AreProper (ordered v) seat w → is_heard w (command_slot o k) ≡ true → k < base w o + 64
  heard_near [] o k proper h = absurd cc
  heard_near (Ask x ∷ w) o k proper h =
      let ih = heard_near w o k proper.1 h in let l = base_stays (Ask x) w o in omega (arith, ih, l)
  heard_near (Hear s x ∷ w) o k proper h =
      let l = base_stays (Hear s x) w o in
      elim (or_cases (is_slot s (command_slot o k)) (is_heard w (command_slot o k)) h) [
        | inl here ↦ let n = near_now w s x o k proper.0 here in omega (arith, n, l)
        | inr there ↦ let ih = heard_near w o k proper.1 there in omega (arith, ih, l)
      ]

  -- and less than 64 above the base before the last word
  heard_before : (c : Word) (w : List Word) (o k : ℕ) → AreProper (ordered v) seat (c ∷ w) → is_heard (c ∷ w) (command_slot o k) ≡ true → k < base w o + 64
  heard_before (Ask x) w o k proper h = heard_near w o k proper.1 h
  heard_before (Hear s x) w o k proper h =
      elim (or_cases (is_slot s (command_slot o k)) (is_heard w (command_slot o k)) h) [
        | inl here ↦ near_now w s x o k proper.0 here
        | inr there ↦ heard_near w o k proper.1 there
      ]

  -- the base rises by at most 64 in a call
  pub base_near : (c : Word) (w : List Word) (o : ℕ) → AreProper (ordered v) seat (c ∷ w) → base (c ∷ w) o ≤ base w o + 64
  base_near c w o proper = go (nat_lt (base w o + 64) (base (c ∷ w) o)) refl
    where
      go : (b : Bool) → nat_lt (base w o + 64) (base (c ∷ w) o) ≡ b → base (c ∷ w) o ≤ base w o + 64
      go false e = ltb-false _ _ e
      go true e =
          let there = (least_is (done (c ∷ w)) o).below (base w o + 64) (ltb-true _ _ e) in
          let l = heard_before c w o (base w o + 64) proper (heard_of (c ∷ w) (done (c ∷ w)) o (base w o + 64) (done_heard (c ∷ w)) there) in
          absurd (omega (arith, l))

  -- the command of an identifier that isn't in the log isn't past after the next word
  not_past : (c : Word) (w : List Word) (x : Id) → AreProper (ordered v) seat (c ∷ w) → has_id (done w) x ≡ false
      → is_past (ordered v) seat (c ∷ w) (command_slot x.origin x.num) ≡ false
  not_past c w x proper none =
      let near = base_near c w x.origin proper in
      let low = without_above w x.origin x.num none in
      and_right (has_past seat.mode.version) _
      (false_from_ne_true _ (λ e. let l = ltb-true (x.num + 64) (base (c ∷ w) x.origin) e in omega (arith, near, low, l)))

  -- a command slot isn't past after the word that hears it
  pub command_recent : (s : Slot) (x : List ℕ) (w : List Word) → (s.class == 1) ≡ true → AreProper (ordered v) seat (Hear s x ∷ w)
      → is_past (ordered v) seat (Hear s x ∷ w) s ≡ false
  command_recent s x w command proper =
      let own = right_command seat.numbers seat.mode s proper.0.right command in
      let unheard : is_heard w (command_slot s.origin s.a) ≡ false = ap (is_heard w) (sym own) ∙ proper.0.first in
      let none : is_in (done w) s.origin s.a ≡ false =
      false_from_ne_true _ (λ e. both_ways _ unheard (heard_of w (done w) s.origin s.a (done_heard w) e)) in
      ap (is_past (ordered v) seat (Hear s x ∷ w)) own ∙ not_past (Hear s x) w (id s.origin s.a) proper none

  -- ---- what is appended

  -- it wasn't in the log before
  distinct_more : (ms xs : List Id) → AreDistinct (ms ++ xs) → AllByRecursion (λ x. has_id xs x ≡ false) ms
  distinct_more [] xs d = tt
  distinct_more (m ∷ ms) xs d = (parts ms d.0, distinct_more ms xs d.1)
    where
      parts : (ys : List Id) → has_id (ys ++ xs) m ≡ false → has_id xs m ≡ false
      parts [] h = h
      parts (y ∷ ys) h = parts ys (or_parts (y.origin == m.origin && y.num == m.num) (has_id (ys ++ xs) m) h).1

  -- nor are those of several such identifiers
  all_recent : (c : Word) (w : List Word) → AreProper (ordered v) seat (c ∷ w) → (ms : List Id) → AllByRecursion (λ x. has_id (done w) x ≡ false) ms
      → AreRecent (ordered v) seat (c ∷ w) ms
  all_recent c w proper [] all = tt
  all_recent c w proper (m ∷ ms) all = (not_past c w m proper all.0, all_recent c w proper ms all.1)

  -- the log grows at its end alone, by commands that are not past
  pub done_grows : ((p : Numbers) (x : List ℕ) → IsSorted (v.wanted p x)) → (c : Word) (w : List Word) → AreProper (ordered v) seat (c ∷ w) → Appends (ordered v) seat c w
  done_grows sorted c w proper =
      let g = log_grows v seat rounds c w in
      record {
        more = g.0;
        whole = g.1;
        recent = all_recent c w proper g.0 (distinct_more g.0 (done w) (subst AreDistinct (sym g.1) (done_distinct v seat sorted (c ∷ w))));
      }
