-- When a slot is right, test by test.
use Rattle.std.specs.Prelude.{◌≡◌, ℕ, Bool, true, false, ◌==◌, ◌&&◌, nat_lt, nat_le, List, [], ◌∷◌, None, if◌then◌else◌, refl}
use Rattle.std.specs.List.{AllByRecursion}
use Rattle.std.proofs.Common.{sym, ◌∙◌, ap}
use Rattle.std.proofs.lemmas.Bool.{eqb-true}
use Rattle.ritas_base.specs.declared.slot.Slot.{Slot}
use Rattle.ritas_base.specs.declared.slot.SlotFault.{SlotFault}
use Rattle.ritas_base.specs.declared.mode.Mode.{Mode}
use Rattle.ritas_base.specs.Numbers.{Numbers}
use Rattle.ritas_base.specs.Places.{first_failed}
use Rattle.ritas_base.specs.Slots.{within, has_class, has_number, has_tries, has_attempt, has_count, slot_tests, slot_fault, command_slot}

-- where each test passes there is no fault
pub slot_is_right : (p : Numbers) (mode : Mode) (s : Slot) → within 1 5 s.class ≡ true → has_class mode.root s.class ≡ true → has_number mode.root s.a ≡ true
    → has_attempt mode.root p.f s.class s.attempt ≡ true → has_count 200 s.class s.bround ≡ true → has_count 3 s.class s.step ≡ true → nat_lt s.origin p.n ≡ true
    → slot_fault p mode s ≡ None
unfolding slot_fault
slot_is_right p mode s a b c d e f g = rw (a, b, c, d, e, f, g) refl

-- where none fails each test passes
all_pass : (tests : List (Bool × SlotFault)) → first_failed tests ≡ None → AllByRecursion (λ (t : Bool × SlotFault). t.0 ≡ true) tests
all_pass [] e = tt
all_pass ((true, fault) ∷ tests) e = (refl, all_pass tests e)
all_pass ((false, fault) ∷ tests) e = absurd cc

-- what the tests of a right slot say
pub record IsRight (p : Numbers) (mode : Mode) (s : Slot) : Type 0 where
  pub class : within 1 5 s.class ≡ true
  pub has : has_class mode.root s.class ≡ true
  pub number : has_number mode.root s.a ≡ true
  pub attempt : has_attempt mode.root p.f s.class s.attempt ≡ true
  pub round : has_count 200 s.class s.bround ≡ true
  pub step : has_count 3 s.class s.step ≡ true
  pub origin : nat_lt s.origin p.n ≡ true

pub right_is : (p : Numbers) (mode : Mode) (s : Slot) → slot_fault p mode s ≡ None → IsRight p mode s
unfolding slot_fault
right_is p mode s e =
    let x = all_pass (slot_tests p mode s) e in
    record { class = x.0; has = x.1.0; number = x.1.1.0; attempt = x.1.1.1.0; round = x.1.1.1.1.0; step = x.1.1.1.1.1.0; origin = x.1.1.1.1.1.1.0 }

-- a right slot of class 1 is that of its origin's command of its number
zero_attempt : (root f attempt : ℕ) → has_attempt root f 1 attempt ≡ true → attempt ≡ 0
zero_attempt root f attempt e = eqb-true attempt 0 (sym (plain (has_tries root)) ∙ e)
  where
    plain : (b : Bool) → (if b && false then nat_le attempt f else attempt == 0) ≡ (attempt == 0)
    plain true = refl
    plain false = refl

pub right_command : (p : Numbers) (mode : Mode) (s : Slot) → slot_fault p mode s ≡ None → (s.class == 1) ≡ true → s ≡ command_slot s.origin s.a
right_command p mode s e one =
    let r = right_is p mode s e in
    let class : s.class ≡ 1 = eqb-true s.class 1 one in
    let attempt : s.attempt ≡ 0 = zero_attempt mode.root p.f s.attempt (ap (λ (k : ℕ). has_attempt mode.root p.f k s.attempt) (sym class) ∙ r.attempt) in
    let bround : s.bround ≡ 0 = eqb-true s.bround 0 (ap (λ (k : ℕ). has_count 200 k s.bround) (sym class) ∙ r.round) in
    let step : s.step ≡ 0 = eqb-true s.step 0 (ap (λ (k : ℕ). has_count 3 k s.step) (sym class) ∙ r.step) in
    same s class attempt bround step
  where
    same : (q : Slot) → q.class ≡ 1 → q.attempt ≡ 0 → q.bround ≡ 0 → q.step ≡ 0 → q ≡ command_slot q.origin q.a
    same q a b c d =
        ap (λ (k : ℕ). record { class = k; a = q.a; attempt = q.attempt; bround = q.bround; step = q.step; origin = q.origin }) a
        ∙ (ap (λ (k : ℕ). record { class = 1; a = q.a; attempt = k; bround = q.bround; step = q.step; origin = q.origin }) b
        ∙ (ap (λ (k : ℕ). record { class = 1; a = q.a; attempt = 0; bround = k; step = q.step; origin = q.origin }) c
        ∙ ap (λ (k : ℕ). record { class = 1; a = q.a; attempt = 0; bround = 0; step = k; origin = q.origin }) d))
