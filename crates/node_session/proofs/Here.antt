-- The replicas that a session begins with.
use Rattle.std.proofs.Common.{◌≡◌, ℕ, zero, suc, ◌+◌, ◌<◌, ◌≤◌, ◌==◌, ◌||◌, Bool, true, false, List, ◌∷◌, Some, inl, inr, refl, sym, ◌∙◌, ap, subst, arith, if◌then◌else◌}
use Rattle.std.specs.Prelude.{filter}
use Rattle.std.specs.List.{range_with_len, slice_get, list_any}
use Rattle.std.proofs.lemmas.Bool.{eqb-true, eq-eqb, ne_eqb, both_ways, cases_lt}
use Rattle.std.proofs.lemmas.Option.{same_Some}
use Rattle.ritas_base.specs.Slots.{is_atomic}
use Rattle.ritas_base.specs.declared.event.Event.{Event}
use Rattle.ritas_core.specs.Stands.{Meaning}
use Rattle.keyed_channel.specs.KeyRow.{KeyRow}
use Rattle.replica.specs.declared.replica.Replica.{Replica}
use Rattle.world_model.specs.World.{Setting, states_of}
use Rattle.world_model.specs.EveryWorld.{IsWorld}
use Rattle.world_model.specs.Stands.{NoneStops, AreMembers, members}
use Rattle.node_loop.specs.Served.{AreHere}

module _ (test : ℕ → Bool) where
  -- of the numbers from k on those that pass
  abbrev passing : ℕ → ℕ → List ℕ
  passing k n = filter test (range_with_len k n)

  front_passes : (k n : ℕ) → test k ≡ true → passing k (suc n) ≡ k ∷ passing (k + 1) n
  front_passes k n e = ap (λ b. if b then k ∷ passing (k + 1) n else passing (k + 1) n) e

  front_fails : (k n : ℕ) → test k ≡ false → passing k (suc n) ≡ passing (k + 1) n
  front_fails k n e = ap (λ b. if b then k ∷ passing (k + 1) n else passing (k + 1) n) e

  at_front : (k n j : ℕ) → test k ≡ true → slice_get (passing k (suc n)) j ≡ slice_get (k ∷ passing (k + 1) n) j
  at_front k n j right = ap (λ (l : List ℕ). slice_get l j) (front_passes k n right)

  at_behind : (k n j : ℕ) → test k ≡ false → slice_get (passing k (suc n)) j ≡ slice_get (passing (k + 1) n) j
  at_behind k n j wrong = ap (λ (l : List ℕ). slice_get l j) (front_fails k n wrong)

  -- each is at least k
  least_by : (k n i : ℕ) → ((j : ℕ) → slice_get (passing (k + 1) n) j ≡ Some i → k + 1 ≤ i) → (b : Bool) → test k ≡ b → (j : ℕ) → slice_get (passing k (suc n)) j ≡ Some i → k ≤ i
  least_by k n i more true right zero e = let same : k ≡ i = same_Some k i (sym (at_front k n 0 right) ∙ e) in omega (arith, same)
  least_by k n i more true right (suc j) e = let behind : k + 1 ≤ i = more j (sym (at_front k n (suc j) right) ∙ e) in omega (arith, behind)
  least_by k n i more false wrong j e = let behind : k + 1 ≤ i = more j (sym (at_behind k n j wrong) ∙ e) in omega (arith, behind)

  at_least : (k n i j : ℕ) → slice_get (passing k n) j ≡ Some i → k ≤ i
  at_least k zero i j e = absurd (cc)
  at_least k (suc n) i j e = least_by k n i (at_least (k + 1) n i) (test k) refl j e

  -- no number stands at two places
  once_by : (k n i : ℕ) → ((j l : ℕ) → slice_get (passing (k + 1) n) j ≡ Some i → slice_get (passing (k + 1) n) l ≡ Some i → j ≡ l) → (b : Bool) → test k ≡ b
      → (j l : ℕ) → slice_get (passing k (suc n)) j ≡ Some i → slice_get (passing k (suc n)) l ≡ Some i → j ≡ l
  once_by k n i more true right zero zero e f = refl
  once_by k n i more true right zero (suc l) e f =
      let same : k ≡ i = same_Some k i (sym (at_front k n 0 right) ∙ e) in
      let behind : k + 1 ≤ i = at_least (k + 1) n i l (sym (at_front k n (suc l) right) ∙ f) in
      absurd (omega (arith, same, behind))
  once_by k n i more true right (suc j) zero e f =
      let same : k ≡ i = same_Some k i (sym (at_front k n 0 right) ∙ f) in
      let behind : k + 1 ≤ i = at_least (k + 1) n i j (sym (at_front k n (suc j) right) ∙ e) in
      absurd (omega (arith, same, behind))
  once_by k n i more true right (suc j) (suc l) e f = ap suc (more j l (sym (at_front k n (suc j) right) ∙ e) (sym (at_front k n (suc l) right) ∙ f))
  once_by k n i more false wrong j l e f = more j l (sym (at_behind k n j wrong) ∙ e) (sym (at_behind k n l wrong) ∙ f)

  once : (k n i j l : ℕ) → slice_get (passing k n) j ≡ Some i → slice_get (passing k n) l ≡ Some i → j ≡ l
  once k zero i j l e f = absurd (cc)
  once k (suc n) i j l e f = once_by k n i (once (k + 1) n i) (test k) refl j l e f

  -- those that pass are there, and no others
  abbrev is_in : ℕ → List ℕ → Bool
  is_in i = list_any (λ j. j == i)

  in_front : (k n i : ℕ) → test k ≡ true → is_in i (passing k (suc n)) ≡ ((k == i) || is_in i (passing (k + 1) n))
  in_front k n i right = ap (is_in i) (front_passes k n right)

  in_rest : (k n i : ℕ) → test k ≡ false → is_in i (passing k (suc n)) ≡ is_in i (passing (k + 1) n)
  in_rest k n i wrong = ap (is_in i) (front_fails k n wrong)

  outside_by : (k n i : ℕ) → (k ≡ i → ⊥) → is_in i (passing (k + 1) n) ≡ false → (b : Bool) → test k ≡ b → is_in i (passing k (suc n)) ≡ false
  outside_by k n i apart more true right = in_front k n i right ∙ ap (λ b. b || is_in i (passing (k + 1) n)) (ne_eqb k i apart) ∙ more
  outside_by k n i apart more false wrong = in_rest k n i wrong ∙ more

  below_none : (k n i : ℕ) → i < k → is_in i (passing k n) ≡ false
  below_none k zero i lt = refl
  below_none k (suc n) i lt = outside_by k n i (λ e. omega (arith, e, lt)) (below_none (k + 1) n i (omega arith)) (test k) refl

  above_none : (k n i : ℕ) → k + n ≤ i → is_in i (passing k n) ≡ false
  above_none k zero i le = refl
  above_none k (suc n) i le = outside_by k n i (λ e. omega (arith, e, le)) (above_none (k + 1) n i (omega arith)) (test k) refl

  found_here : (k n i : ℕ) → k ≡ i → (b : Bool) → test k ≡ b → test i ≡ is_in i (passing k (suc n))
  found_here k n i same true right =
      subst (λ (x : ℕ). test x ≡ true) same right ∙ sym (in_front k n i right ∙ ap (λ b. b || is_in i (passing (k + 1) n)) (eq-eqb k i same))
  found_here k n i same false wrong =
      subst (λ (x : ℕ). test x ≡ false) same wrong ∙ sym (in_rest k n i wrong ∙ below_none (k + 1) n i (omega (arith, same)))

  found_behind : (k n i : ℕ) → (k == i) ≡ false → test i ≡ is_in i (passing (k + 1) n) → (b : Bool) → test k ≡ b → test i ≡ is_in i (passing k (suc n))
  found_behind k n i other more true right = more ∙ sym (in_front k n i right ∙ ap (λ b. b || is_in i (passing (k + 1) n)) other)
  found_behind k n i other more false wrong = more ∙ sym (in_rest k n i wrong)

  found_by : (k n i : ℕ) → k ≤ i → (k + 1 ≤ i → test i ≡ is_in i (passing (k + 1) n)) → (b : Bool) → (k == i) ≡ b → test i ≡ is_in i (passing k (suc n))
  found_by k n i low more true same = found_here k n i (eqb-true k i same) (test k) refl
  found_by k n i low more false other = elim (cases_lt k i) [
    | inl lt ↦ found_behind k n i other (more (omega (arith, lt))) (test k) refl
    | inr le ↦ let same : k ≡ i = omega (arith, le, low) in absurd (both_ways (k == i) other (eq-eqb k i same))
  ]

  found : (k n i : ℕ) → k ≤ i → i < k + n → test i ≡ is_in i (passing k n)
  found k zero i low high = absurd (omega (arith, low, high))
  found k (suc n) i low high = found_by k n i low (λ above. found (k + 1) n i above (omega arith)) (k == i) refl

-- the members of a world are here
pub are_here : {S E C : Type 0} (m : Meaning S E C KeyRow) (w : Setting) (es : List Event) (here : List (Replica S E C)) → IsWorld m.service m.cast w → NoneStops w → is_atomic w.mode.root ≡ true
    → AreMembers m w (states_of w es) here → AreHere m w es (members w) here
are_here m w es here kind going atomic stand = record {
  kind = kind;
  going = going;
  atomic = atomic;
  many = stand.many;
  apart = λ j k i e f. once w.is_correct 0 w.numbers.n i j k e f;
  named = λ i. named i (w.is_correct i) refl;
  each = stand.each;
}
  where
    named : (i : ℕ) (b : Bool) → w.is_correct i ≡ b → w.is_correct i ≡ list_any (λ j. j == i) (members w)
    named i true right = found w.is_correct 0 w.numbers.n i (omega arith) (omega (arith, kind.within i right))
    named i false wrong = elim (cases_lt i w.numbers.n) [
      | inl lt ↦ found w.is_correct 0 w.numbers.n i (omega arith) (omega (arith, lt))
      | inr le ↦ wrong ∙ sym (above_none w.is_correct 0 w.numbers.n i (omega (arith, le)))
    ]
