-- Of distinct identifiers that were heard there are at most 31,000,000: each has the number of an origin and of a command.
use Rattle.std.specs.Prelude.{◌≡◌, ℕ, ◌+◌, ◌*◌, ◌<◌, ◌≤◌, true, false, ◌==◌, ◌&&◌, List, [], ◌∷◌, map, length}
use Rattle.std.specs.List.{list_any, IsDistinct, AllByRecursion}
use Rattle.std.proofs.Common.{ap, inl, inr, eqb, eqb-true, arith}
use Rattle.std.proofs.lemmas.Bool.{and_from, eq-eqb, or_cases, or_parts, false_from_ne_true, both_ways}
use Rattle.std.proofs.lemmas.List.{length-map}
use Rattle.std.proofs.lemmas.Map.Steps.{length-le_from_distinct_below}
use Rattle.ritas_base.specs.Limits.{number_limit}
use Rattle.ritas_base.specs.declared.id.Id.{Id}
use Rattle.ritas_base.specs.declared.slot.Slot.{Slot}
use Rattle.ritas_base.specs.SlotOrder.{is_slot, same_slot}
use Rattle.ritas_base.specs.Slots.{command_slot}
use Rattle.layer_api.specs.Words.{Word, Ask, Hear, is_heard}
use Rattle.layer_api.specs.Service.{ServiceRules, Seat, has_id, AreProper, AreDistinct, AreHeard}

-- ---- what was heard has a number of the session

pub record IsFitting (x : Id) : Type 0 where
  pub origin : x.origin < 31
  pub number : x.num < number_limit

pub heard_fits : (r : ServiceRules) (seat : Seat) (w : List Word) (x : Id) → AreProper r seat w → is_heard w (command_slot x.origin x.num) ≡ true → IsFitting x
heard_fits r seat [] x proper h = absurd (cc)
heard_fits r seat (Ask v ∷ w) x proper h = heard_fits r seat w x proper.1 h
heard_fits r seat (Hear s v ∷ w) x proper h =
    elim (or_cases (is_slot s (command_slot x.origin x.num)) (is_heard w (command_slot x.origin x.num)) h) [
      | inl here ↦
          let same = same_slot s (command_slot x.origin x.num) here in
          let origin : s.origin ≡ x.origin = ap (λ (q : Slot). q.origin) same in
          let number : s.a ≡ x.num = ap (λ (q : Slot). q.a) same in
          record {
            origin = omega (arith, origin, proper.0.origin, proper.0.session.most);
            number = omega (arith, number, proper.0.number);
          }
      | inr before ↦ heard_fits r seat w x proper.1 before
    ]

abbrev AllFit : List Id → Type 0
AllFit [] = Unit {0}
AllFit (x ∷ xs) = IsFitting x × AllFit xs

all_fit : (r : ServiceRules) (seat : Seat) (w : List Word) (xs : List Id) → AreProper r seat w → AreHeard w xs → AllFit xs
all_fit r seat w [] proper h = tt
all_fit r seat w (x ∷ xs) proper h = (heard_fits r seat w x proper h.0, all_fit r seat w xs proper h.1)

-- ---- distinct identifiers are as many as their numbers

abbrev number_of : Id → ℕ
number_of x = x.origin * number_limit + x.num

below_all : (xs : List Id) (q : ℕ) → AllFit xs → list_any (eqb q) (map number_of xs) ≡ true → q < 31 * number_limit
below_all [] q fit h = absurd (cc)
below_all (x ∷ xs) q fit h =
    elim (or_cases (eqb q (number_of x)) (list_any (eqb q) (map number_of xs)) h) [
      | inl here ↦ let is : q ≡ x.origin * number_limit + x.num = eqb-true q (number_of x) here in omega (arith, is, fit.0.origin, fit.0.number)
      | inr there ↦ below_all xs q fit.1 there
    ]

one_id : (x y : Id) → IsFitting x → IsFitting y → number_of x ≡ number_of y → (y.origin == x.origin && y.num == x.num) ≡ true
one_id x y fx fy e =
    let origin : y.origin ≡ x.origin = omega (arith, e, fx.number, fy.number) in
    let number : y.num ≡ x.num = omega (arith, e, fx.number, fy.number) in
    and_from (y.origin == x.origin) (y.num == x.num) (eq-eqb y.origin x.origin origin) (eq-eqb y.num x.num number)

apart : (x : Id) (ys : List Id) → IsFitting x → AllFit ys → has_id ys x ≡ false → AllByRecursion (λ n. eqb (number_of x) n ≡ false) (map number_of ys)
apart x [] fit all none = tt
apart x (y ∷ ys) fit all none =
    let parts = or_parts (y.origin == x.origin && y.num == x.num) (has_id ys x) none in (
      false_from_ne_true (eqb (number_of x) (number_of y)) (λ same. both_ways _ parts.0 (one_id x y fit all.0 (eqb-true (number_of x) (number_of y) same))),
      apart x ys fit all.1 parts.1,
    )

distinct_numbers : (xs : List Id) → AllFit xs → AreDistinct xs → IsDistinct eqb (map number_of xs)
unfolding IsDistinct
distinct_numbers [] all once = tt
distinct_numbers (x ∷ xs) all once = (apart x xs all.0 all.1 once.0, distinct_numbers xs all.1 once.1)

-- of distinct identifiers that were heard there are at most 31,000,000
pub ids_fit : (r : ServiceRules) (seat : Seat) (w : List Word) (xs : List Id) → AreProper r seat w → AreHeard w xs → AreDistinct xs → length xs ≤ 31 * number_limit
ids_fit r seat w xs proper heard once =
    let fit = all_fit r seat w xs proper heard in
    let most = length-le_from_distinct_below (map number_of xs) (31 * number_limit) (distinct_numbers xs fit once) (λ q h. below_all xs q fit h) in
    omega (arith, most, length-map xs number_of)
