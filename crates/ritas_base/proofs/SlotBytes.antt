-- The order of slots is that of their nine bytes.
use Rattle.std.specs.Prelude.{◌≡◌, ℕ, ◌+◌, ◌*◌, ◌/◌, ◌%◌, ◌<◌, ◌^◌, refl}
use Rattle.std.proofs.Common.{sym, ◌∙◌, ap, arith}
use Rattle.std.specs.declared.cmp.Ordering.{Ordering}
use Rattle.std.specs.declared.cmp.Ordering.TheVariants.{Less, Equal, Greater}
use Rattle.std.specs.Ordering.{nat_cmp, ordering_then}
use Rattle.std.specs.Cmp.Lexicographic.{slice_cmp}
use Rattle.std.proofs.lemmas.Bool.Decides.{nat_tests}
use Rattle.ritas_base.specs.declared.slot.Slot.{Slot}
use Rattle.ritas_base.specs.Slots.{HasFields, slot_bytes}
use Rattle.ritas_base.specs.SlotOrder.{slot_cmp}

then_assoc : (a b c : Ordering) → ordering_then (ordering_then a b) c ≡ ordering_then a (ordering_then b c)
then_assoc Less b c = refl
then_assoc Equal b c = refl
then_assoc Greater b c = refl

then_equal : (a : Ordering) → ordering_then a Equal ≡ a
then_equal Less = refl
then_equal Equal = refl
then_equal Greater = refl

-- numbers are compared by their upper part and then by their last digit
digit_last : (a b x y u v : ℕ) → a ≡ x * 256 + y → b ≡ u * 256 + v → y < 256 → v < 256
    → nat_cmp a b ≡ ordering_then (nat_cmp x u) (nat_cmp y v)
digit_last a b x y u v ea eb yl vl = grind (arith, nat_tests)

parts : (n : ℕ) → n ≡ n / 256 * 256 + n % 256
parts n = omega arith

parts1 : (n : ℕ) → n / 256 ≡ n / 65536 * 256 + n / 256 % 256
parts1 n = omega arith

parts2 : (n : ℕ) → n / 65536 ≡ n / 16777216 * 256 + n / 65536 % 256
parts2 n = omega arith

last_byte : (n : ℕ) → n % 256 < 256
last_byte n = omega arith

top_byte : (n : ℕ) → n < 2 ^ 32 → n / 16777216 ≡ n / 16777216 % 256
top_byte n small = omega (arith, small)

-- the bytes of a number, the highest first
abbrev byte3 : ℕ → ℕ
byte3 a = a / 16777216 % 256

abbrev byte2 : ℕ → ℕ
byte2 a = a / 65536 % 256

abbrev byte1 : ℕ → ℕ
byte1 a = a / 256 % 256

abbrev byte0 : ℕ → ℕ
byte0 a = a % 256

-- numbers below 2 ^ 32 are compared as their bytes
number_order : (a b : ℕ) → a < 2 ^ 32 → b < 2 ^ 32
    → nat_cmp a b ≡ ordering_then (nat_cmp (byte3 a) (byte3 b))
    (ordering_then (nat_cmp (byte2 a) (byte2 b)) (ordering_then (nat_cmp (byte1 a) (byte1 b)) (nat_cmp (byte0 a) (byte0 b))))
number_order a b la lb =
    let low = digit_last a b (a / 256) (a % 256) (b / 256) (b % 256) (parts a) (parts b) (last_byte a) (last_byte b) in
    let mid = digit_last (a / 256) (b / 256) (a / 65536) (a / 256 % 256) (b / 65536) (b / 256 % 256) (parts1 a) (parts1 b) (last_byte (a / 256)) (last_byte (b / 256)) in
    let high = digit_last (a / 65536) (b / 65536) (a / 16777216) (a / 65536 % 256) (b / 16777216) (b / 65536 % 256) (parts2 a) (parts2 b) (last_byte (a / 65536)) (last_byte (b / 65536)) in
    let top_a = top_byte a la in
    let top_b = top_byte b lb in
    let c3 = nat_cmp (byte3 a) (byte3 b) in
    let c2 = nat_cmp (byte2 a) (byte2 b) in
    let c1 = nat_cmp (byte1 a) (byte1 b) in
    let c0 = nat_cmp (byte0 a) (byte0 b) in
    let top : nat_cmp (a / 16777216) (b / 16777216) ≡ c3 = λ i. nat_cmp (top_a i) (top_b i) in
    low ∙ (ap (λ (o : Ordering). ordering_then o c0) (mid ∙ ap (λ (o : Ordering). ordering_then o c1) (high ∙ ap (λ (o : Ordering). ordering_then o c2) top))
    ∙ (then_assoc (ordering_then c3 c2) c1 c0 ∙ then_assoc c3 c2 (ordering_then c1 c0)))

then_assoc4 : (c3 c2 c1 c0 d : Ordering)
    → ordering_then (ordering_then c3 (ordering_then c2 (ordering_then c1 c0))) d
    ≡ ordering_then c3 (ordering_then c2 (ordering_then c1 (ordering_then c0 d)))
then_assoc4 c3 c2 c1 c0 d =
    then_assoc c3 (ordering_then c2 (ordering_then c1 c0)) d
    ∙ ap (ordering_then c3) (then_assoc c2 (ordering_then c1 c0) d ∙ ap (ordering_then c2) (then_assoc c1 c0 d))

pub as_bytes : (s q : Slot) → HasFields s → HasFields q → slot_cmp s q ≡ slice_cmp nat_cmp (slot_bytes s) (slot_bytes q)
as_bytes s q hs hq =
    let tail = ordering_then (nat_cmp s.attempt q.attempt) (ordering_then (nat_cmp s.bround q.bround) (ordering_then (nat_cmp s.step q.step) (nat_cmp s.origin q.origin))) in
    let last : nat_cmp s.origin q.origin ≡ ordering_then (nat_cmp s.origin q.origin) Equal = sym (then_equal (nat_cmp s.origin q.origin)) in
    let number = ap (λ (o : Ordering). ordering_then o tail) (number_order s.a q.a hs.number hq.number)
    ∙ then_assoc4 (nat_cmp (byte3 s.a) (byte3 q.a)) (nat_cmp (byte2 s.a) (byte2 q.a)) (nat_cmp (byte1 s.a) (byte1 q.a)) (nat_cmp (byte0 s.a) (byte0 q.a)) tail in
    ap (ordering_then (nat_cmp s.class q.class)) number
    ∙ ap (λ (o : Ordering). ordering_then (nat_cmp s.class q.class) (ordering_then (nat_cmp (byte3 s.a) (byte3 q.a))
    (ordering_then (nat_cmp (byte2 s.a) (byte2 q.a)) (ordering_then (nat_cmp (byte1 s.a) (byte1 q.a)) (ordering_then (nat_cmp (byte0 s.a) (byte0 q.a))
    (ordering_then (nat_cmp s.attempt q.attempt) (ordering_then (nat_cmp s.bround q.bround) (ordering_then (nat_cmp s.step q.step) o)))))))) last
