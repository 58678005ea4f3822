-- Keys: equal ones are one, and items held as one have one key.
use Rattle.std.specs.Prelude.{◌≡◌, ℕ, true, false, ◌==◌, refl}
use Rattle.std.proofs.Common.{sym, subst}
use Rattle.std.proofs.lemmas.Bool.{and_parts, and_from, eqb-true, eq-eqb, false_from_ne_true, both_ways}
use Rattle.ooc_buffers.specs.declared.key.Key.{Key}
use Rattle.ooc_buffers.specs.Keys.{key_eq}

abbrev make : ℕ → ℕ → ℕ → ℕ → ℕ → ℕ → ℕ → ℕ → Key
make kind class a attempt bround step origin mark =
    record { kind = kind; class = class; a = a; attempt = attempt; bround = bround; step = step; origin = origin; mark = mark }

same_key : (k c a t b s o m k' c' a' t' b' s' o' m' : ℕ) → k ≡ k' → c ≡ c' → a ≡ a' → t ≡ t' → b ≡ b' → s ≡ s' → o ≡ o' → m ≡ m'
    → make k c a t b s o m ≡ make k' c' a' t' b' s' o' m'
same_key k c a t b s o m k' c' a' t' b' s' o' m' e1 e2 e3 e4 e5 e6 e7 e8 = cc

pub key_exact : (x y : Key) → key_eq x y ≡ true → x ≡ y
key_exact x y h =
    let p1 = and_parts (x.kind == y.kind) _ h in
    let p2 = and_parts (x.class == y.class) _ p1.1 in
    let p3 = and_parts (x.a == y.a) _ p2.1 in
    let p4 = and_parts (x.attempt == y.attempt) _ p3.1 in
    let p5 = and_parts (x.bround == y.bround) _ p4.1 in
    let p6 = and_parts (x.step == y.step) _ p5.1 in
    let p7 = and_parts (x.origin == y.origin) (x.mark == y.mark) p6.1 in
    same_key x.kind x.class x.a x.attempt x.bround x.step x.origin x.mark y.kind y.class y.a y.attempt y.bround y.step y.origin y.mark
    (eqb-true _ _ p1.0) (eqb-true _ _ p2.0) (eqb-true _ _ p3.0) (eqb-true _ _ p4.0) (eqb-true _ _ p5.0) (eqb-true _ _ p6.0) (eqb-true _ _ p7.0) (eqb-true _ _ p7.1)

eqb_self : (n : ℕ) → (n == n) ≡ true
eqb_self n = eq-eqb n n refl

pub key_itself : (x : Key) → key_eq x x ≡ true
key_itself x =
    and_from _ _ (eqb_self x.kind)
    (and_from _ _ (eqb_self x.class)
    (and_from _ _ (eqb_self x.a)
    (and_from _ _ (eqb_self x.attempt)
    (and_from _ _ (eqb_self x.bround) (and_from _ _ (eqb_self x.step) (and_from _ _ (eqb_self x.origin) (eqb_self x.mark)))))))

pub key_other : (x y : Key) → key_eq x y ≡ false → key_eq y x ≡ false
key_other x y h =
    false_from_ne_true (key_eq y x) (λ same. both_ways (key_eq x y) h (subst (λ (k : Key). key_eq x k ≡ true) (sym (key_exact y x same)) (key_itself x)))
