-- The readers of bytes, numbers and texts of a file.
use Rattle.std.proofs.Common.{◌≡◌, ℕ, zero, suc, ◌+◌, ◌≤◌, ◌<◌, Bool, true, false, cond, ltb, ◌^◌, List, [], ◌∷◌, ◌++◌, length, Ok, Err, refl, sym, ap, subst, ◌∙◌, arith}
use Rattle.std.proofs.lemmas.Bool.{ltb-true, lt-ltb}
use Rattle.std.proofs.lemmas.List.{nil_from_length, append-nil}
use Rattle.std.proofs.lemmas.Nat.{be_bytes_2, be_bytes_4, be_bytes_8, from_be_bytes-to_be_bytes_2, from_be_bytes-to_be_bytes_4, from_be_bytes-to_be_bytes_8}
use Rattle.std.specs.Int.{Width, w16, w32, w64, byte_len, to_be_bytes, from_be_bytes}
use Rattle.schedule_file.specs.declared.fault.FileFault.{FileFault}
use Rattle.schedule_file.specs.declared.fault.FileFault.TheVariants.{TooLong}
use Rattle.ritas_base.specs.Bytes.{IsBytes}
use Rattle.schedule_file.specs.Reading.{◌>>=◌, Spot}
use Rattle.schedule_file.specs.FileBytes.{limit, byte_from, byte_at, bytes_at, u16_at, u32_at, u64_at, text_at}
use Rattle.schedule_file.specs.Spelling.{sized}
use Rattle.schedule_file.proofs.Spells.{Reads, Spells, Both, Nothing, as_spells, then_spells, done_spells}

-- ---- a byte

if_ok : {A : Type 0} (b : Bool) (d : FileFault) (x y : A) → cond b (Ok x) (Err d) ≡ Ok y → (b ≡ true) × (x ≡ y)
if_ok true d x y e = (refl, cc)
if_ok false d x y e = absurd cc

abbrev pub IsByte : ℕ → List ℕ → Type 0
IsByte b text = text ≡ b ∷ []

byte_takes : (at : ℕ) (bytes : List ℕ) (b : ℕ) (next : Spot) → byte_from at bytes ≡ Ok (b, next) → Reads limit IsByte (record { at = at; rest = bytes }) b next
byte_takes at [] b next e = absurd cc
byte_takes at (a ∷ rest) b next e =
    let g = if_ok (ltb at limit) TooLong (a, record { at = at + 1; rest = rest }) (b, next) e in
    let below : at < limit = ltb-true at limit g.0 in
    let made : Reads limit IsByte (record { at = at; rest = a ∷ rest }) a (record { at = at + 1; rest = rest }) = record { text = a ∷ []; is = refl; took = record { bytes = refl; at = omega arith; below = λ _. omega arith } } in
    subst (λ (p : ℕ × Spot). Reads limit IsByte (record { at = at; rest = a ∷ rest }) p.0 p.1) g.1 made

byte_again : (at b : ℕ) (text rest : List ℕ) → text ≡ b ∷ [] → at + length text ≤ limit → byte_from at (text ++ rest) ≡ Ok (b, record { at = at + length text; rest = rest })
byte_again at b text rest r le =
    let below : at < limit = omega (arith, ap length r) in
    rw (r, lt-ltb at limit below) refl

pub byte_spells : Spells limit byte_at IsByte
unfolding byte_at
byte_spells = record {
  takes = λ s b next fits e. byte_takes s.at s.rest b next e;
  again = λ at b text rest r le. byte_again at b text rest r le;
}

-- ---- many bytes

abbrev pub AreBytes : ℕ → List ℕ → List ℕ → Type 0
AreBytes n bs text = (text ≡ bs) × (length bs ≡ n)

bytes_to : (n : ℕ) (bs text : List ℕ) → Both IsByte (λ b. Both (AreBytes n) (λ more. Nothing (b ∷ more))) bs text → AreBytes (suc n) bs text
bytes_to n bs text r = (
  rw (r.parts, r.first, r.second.parts, r.second.first.0, r.second.second.1, append-nil r.second.value) r.second.second.0,
  rw (← r.second.second.0) (ap (λ (k : ℕ). suc k) r.second.first.1),
)

bytes_from : (n : ℕ) (bs text : List ℕ) → AreBytes (suc n) bs text → Both IsByte (λ b. Both (AreBytes n) (λ more. Nothing (b ∷ more))) bs text
bytes_from n [] text r = absurd (omega (arith, r.1))
bytes_from n (b ∷ bs) text r = record { value = b; front = b ∷ []; back = bs; first = refl; second = record { value = bs; front = bs; back = []; first = (refl, omega (arith, r.1)); second = (refl, refl); parts = sym (append-nil bs) }; parts = r.0 }

pub bytes_spells : (n : ℕ) → Spells limit (bytes_at n) (AreBytes n)
unfolding bytes_at
bytes_spells zero = as_spells (AreBytes zero) (done_spells []) (λ bs text fits r. (r.1 ∙ r.0, rw (← r.0) refl)) (λ bs text r. (sym (nil_from_length bs r.1), r.0 ∙ nil_from_length bs r.1))
bytes_spells (suc n) = as_spells (AreBytes (suc n)) (then_spells byte_at (λ b. bytes_at n b.1 >>= λ more. Ok (b.0 ∷ more.0, more.1)) byte_spells (λ b. then_spells (bytes_at n) (λ more. Ok (b ∷ more.0, more.1)) (bytes_spells n) (λ more. done_spells (b ∷ more)))) (λ bs text fits r. bytes_to n bs text r) (bytes_from n)

-- ---- numbers

pub record IsWide (w : Width) (bound : ℕ) : Type 0 where
  pub len : (n : ℕ) → length (to_be_bytes w n) ≡ byte_len w
  pub back : (bytes : List ℕ) → length bytes ≡ byte_len w → IsBytes bytes → to_be_bytes w (from_be_bytes w bytes) ≡ bytes
  pub again : (n : ℕ) → n < bound → from_be_bytes w (to_be_bytes w n) ≡ n
  pub below : (bytes : List ℕ) → IsBytes bytes → from_be_bytes w bytes < bound

wide16 : IsWide w16 (2 ^ 16)
wide16 = record {
  len = λ n. refl;
  back = λ bytes len fits. be_bytes_2 bytes _ len fits refl;
  again = λ n lt. from_be_bytes-to_be_bytes_2 n lt;
  below = λ bytes fits. omega (arith, fits 0, fits 1);
}

wide32 : IsWide w32 (2 ^ 32)
wide32 = record {
  len = λ n. refl;
  back = λ bytes len fits. be_bytes_4 bytes _ len fits refl;
  again = λ n lt. from_be_bytes-to_be_bytes_4 n lt;
  below = λ bytes fits. omega (arith, fits 0, fits 1, fits 2, fits 3);
}

wide64 : IsWide w64 (2 ^ 64)
wide64 = record {
  len = λ n. refl;
  back = λ bytes len fits. be_bytes_8 bytes _ len fits refl;
  again = λ n lt. from_be_bytes-to_be_bytes_8 n lt;
  below = λ bytes fits. omega (arith, fits 0, fits 1, fits 2, fits 3, fits 4, fits 5, fits 6, fits 7);
}

abbrev pub IsNumber : Width → ℕ → ℕ → List ℕ → Type 0
IsNumber w bound n text = (text ≡ to_be_bytes w n) × (n < bound)

number_spells : (w : Width) (bound : ℕ) → IsWide w bound → Spells limit (λ s. bytes_at (byte_len w) s >>= λ b. Ok (from_be_bytes w b.0, b.1)) (IsNumber w bound)
number_spells w bound wide = as_spells (IsNumber w bound) (then_spells (bytes_at (byte_len w)) (λ b. Ok (from_be_bytes w b.0, b.1)) (bytes_spells (byte_len w)) (λ b. done_spells (from_be_bytes w b)))
    (λ n text fits r.
    let same : text ≡ r.value = rw (r.parts, r.first.0, r.second.1) (append-nil r.value) in
    let value_fits : IsBytes r.value = subst IsBytes same fits in
    (rw (same, ← r.second.0) (sym (wide.back r.value r.first.1 value_fits)), rw (← r.second.0) (wide.below r.value value_fits)))
    (λ n text r. record { value = text; front = text; back = []; first = (refl, rw r.0 (wide.len n)); second = (rw r.0 (wide.again n r.1), refl); parts = sym (append-nil text) })

pub u16_spells : Spells limit u16_at (IsNumber w16 (2 ^ 16))
unfolding u16_at
u16_spells = number_spells w16 (2 ^ 16) wide16

pub u32_spells : Spells limit u32_at (IsNumber w32 (2 ^ 32))
unfolding u32_at
u32_spells = number_spells w32 (2 ^ 32) wide32

pub u64_spells : Spells limit u64_at (IsNumber w64 (2 ^ 64))
unfolding u64_at
u64_spells = number_spells w64 (2 ^ 64) wide64

-- ---- a text behind its length

abbrev pub IsSized : List ℕ → List ℕ → Type 0
IsSized bytes text = (text ≡ sized bytes) × (length bytes < 2 ^ 16)

pub text_spells : Spells limit text_at IsSized
unfolding text_at
text_spells = as_spells IsSized (then_spells u16_at (λ len. bytes_at len.0 len.1) u16_spells (λ len. bytes_spells len))
    (λ bytes text fits r. (rw (r.parts, r.first.0, r.second.0, r.second.1) refl, rw r.second.1 r.first.1))
    (λ bytes text r. record { value = length bytes; front = to_be_bytes w16 (length bytes); back = bytes; first = (refl, r.1); second = (refl, refl); parts = r.0 })
