-- Slots of the rounds of consensus in the root services that have them.
use Rattle.std.specs.Prelude.{◌≡◌, ℕ, Bool, zero, suc, ◌<◌, ◌≤◌, true, false, ◌==◌, ◌||◌, nat_le, None, if◌then◌else◌, refl}
use Rattle.std.proofs.Common.{sym, subst, inl, inr, arith}
use Rattle.std.proofs.lemmas.Bool.{and_parts, or_cases, leb-true, le-leb, lt-ltb, eqb-true, eq-eqb}
use Rattle.ritas_base.specs.declared.slot.Slot.{Slot}
use Rattle.ritas_base.specs.declared.mode.Mode.{Mode}
use Rattle.ritas_base.specs.Numbers.{Numbers}
use Rattle.ritas_base.specs.Slots.{slot_fault, within, is_atomic, has_tries, has_class, has_number, has_attempt, has_count}
use Rattle.ritas_base.specs.SlotLaws.{slot_is_right}
use Rattle.layer_api.specs.Vectors.{is_slot_in}

-- what holds of the classes from 2 to 5 holds of each number between
pub of_class : (P : ℕ → Type 0) → P 2 → P 3 → P 4 → P 5 → (c : ℕ) → within 2 5 c ≡ true → P c
of_class P two three four five c e = let x = and_parts (nat_le 2 c) (nat_le c 5) e in go c (leb-true 2 c x.0) (leb-true c 5 x.1)
  where
    go : (c : ℕ) → 2 ≤ c → c ≤ 5 → P c
    go zero l m = absurd (omega (arith, l))
    go (suc zero) l m = absurd (omega (arith, l))
    go (suc (suc zero)) l m = two
    go (suc (suc (suc zero))) l m = three
    go (suc (suc (suc (suc zero)))) l m = four
    go (suc (suc (suc (suc (suc zero))))) l m = five
    go (suc (suc (suc (suc (suc (suc c)))))) l m = absurd (omega (arith, m))

-- none is that of a command
pub no_command : (c : ℕ) → within 2 5 c ≡ true → (c == 1) ≡ false
no_command c e = of_class (λ k. (k == 1) ≡ false) refl refl refl refl c e

-- what the root services with these classes have of one
record HasClass (f c t : ℕ) : Type 0 where
  class : within 1 5 c ≡ true
  has_5 : has_class 5 c ≡ true
  has_6 : has_class 6 c ≡ true
  has_7 : has_class 7 c ≡ true
  attempt : (if nat_le 3 c then nat_le t f else t == 0) ≡ true

has_vectors : (f c t : ℕ) → within 2 5 c ≡ true → (if c == 2 then t == 0 else nat_le t f) ≡ true → HasClass f c t
unfolding has_class
has_vectors f c t e h =
    of_class (λ k. (if k == 2 then t == 0 else nat_le t f) ≡ true → HasClass f k t)
    (λ x. record { class = refl; has_5 = refl; has_6 = refl; has_7 = refl; attempt = x }) (λ x. record { class = refl; has_5 = refl; has_6 = refl; has_7 = refl; attempt = x })
    (λ x. record { class = refl; has_5 = refl; has_6 = refl; has_7 = refl; attempt = x }) (λ x. record { class = refl; has_5 = refl; has_6 = refl; has_7 = refl; attempt = x }) c e h

-- what holds of two numbers holds of one that is either
either : (P : ℕ → Type 0) (k l root : ℕ) → (root == k || root == l) ≡ true → P k → P l → P root
either P k l root is one other =
    elim (or_cases (root == k) (root == l) is) [
      | inl e ↦ subst P (sym (eqb-true root k e)) one
      | inr e ↦ subst P (sym (eqb-true root l e)) other
    ]

-- a slot of an instance with attempts is one of the session, where its number is
pub vector_slot_right : (p : Numbers) (mode : Mode) (a : ℕ) (s : Slot) → has_tries mode.root ≡ true → has_number mode.root a ≡ true
    → is_slot_in p.f a s ≡ true → s.origin < p.n → slot_fault p mode s ≡ None
vector_slot_right p mode a s root number e below =
    let x = and_parts (within 2 5 s.class) _ e in
    let y = and_parts (s.a == a) _ x.1 in
    let z = and_parts (if s.class == 2 then s.attempt == 0 else nat_le s.attempt p.f) _ y.1 in
    let t = and_parts (has_count 200 s.class s.bround) _ z.1 in
    let k = has_vectors p.f s.class s.attempt x.0 z.0 in
    slot_is_right p mode s k.class (either (λ r. has_class r s.class ≡ true) 5 6 mode.root root k.has_5 k.has_6)
    (subst (λ (b : ℕ). has_number mode.root b ≡ true) (sym (eqb-true s.a a y.0)) number)
    (either (λ r. has_attempt r p.f s.class s.attempt ≡ true) 5 6 mode.root root k.attempt k.attempt) t.0 t.1 (lt-ltb s.origin p.n below)

-- so is one of the first attempt, where commands are put in one order
pub round_slot_right : (p : Numbers) (mode : Mode) (a : ℕ) (s : Slot) → is_atomic mode.root ≡ true → has_number mode.root a ≡ true
    → is_slot_in 0 a s ≡ true → s.origin < p.n → slot_fault p mode s ≡ None
round_slot_right p mode a s root number e below =
    let x = and_parts (within 2 5 s.class) _ e in
    let y = and_parts (s.a == a) _ x.1 in
    let z = and_parts (if s.class == 2 then s.attempt == 0 else nat_le s.attempt 0) _ y.1 in
    let t = and_parts (has_count 200 s.class s.bround) _ z.1 in
    let k = has_vectors 0 s.class s.attempt x.0 z.0 in
    let first = first_attempt (nat_le 3 s.class) s.attempt k.attempt in
    slot_is_right p mode s k.class (either (λ r. has_class r s.class ≡ true) 6 7 mode.root root k.has_6 k.has_7)
    (subst (λ (b : ℕ). has_number mode.root b ≡ true) (sym (eqb-true s.a a y.0)) number)
    (either (λ r. has_attempt r p.f s.class s.attempt ≡ true) 6 7 mode.root root (few (nat_le 3 s.class) s.attempt first) first) t.0 t.1 (lt-ltb s.origin p.n below)
  where
    first_attempt : (b : Bool) (t : ℕ) → (if b then nat_le t 0 else t == 0) ≡ true → (t == 0) ≡ true
    first_attempt true t q = let l = leb-true t 0 q in eq-eqb t 0 (omega (arith, l))
    first_attempt false t q = q

    few : (b : Bool) (t : ℕ) → (t == 0) ≡ true → (if b then nat_le t p.f else t == 0) ≡ true
    few true t q = let l = eqb-true t 0 q in le-leb t p.f (omega (arith, l))
    few false t q = q
