-- A frame is among those that a replica made for another exactly where the one of its number is the same.
use Rattle.std.proofs.Common.{◌≡◌, ◌≢◌, ℕ, zero, suc, ◌+◌, ◌%◌, ◌^◌, ◌<◌, ◌≤◌, Bool, true, false, ◌||◌, length, List, [], ◌∷◌, ◌++◌, reverse, Some, inl, inr, refl, sym, ◌∙◌, ap, arith}
use Rattle.std.specs.List.{list_any, slice_get}
use Rattle.std.specs.Str.{bytes_eq}
use Rattle.std.proofs.Math.Nat.{eq-or-lt_of_le}
use Rattle.std.proofs.lemmas.Bool.{cases_lt}
use Rattle.std.proofs.lemmas.List.{length-reverse, length-append, reverse-append}
use Rattle.std.proofs.lemmas.Nat.{from_be_bytes-to_be_bytes_8}
use Rattle.std.proofs.lemmas.Option.{slice_get_past}
use Rattle.std.proofs.lemmas.Slice.Eq.{bytes_eq-Decides}
use Rattle.ritas_base.specs.declared.item.Msg.{Msg}
use Rattle.keyed_channel.specs.KeyRow.{KeyRow}
use Rattle.keyed_channel.specs.Frames.{sealed, seq_of}
use Rattle.ritas_core.specs.Rules.{Rules}
use Rattle.ritas_core.specs.Parts.{Entry}
use Rattle.ritas_core.specs.Order.{new_messages, sent_to}
use Rattle.replica.specs.Frames.{made_for, sealed_onto, body_of}
use Rattle.world_model.specs.Steps.{is_numbered, is_frame}

-- each of these frames, the newest first, has its place as its number
abbrev AreNumbered : List (List ℕ) → Type 0
AreNumbered [] = Unit {0}
AreNumbered (x ∷ xs) = (seq_of x ≡ length xs % 2 ^ 64) × AreNumbered xs

seq-sealed : (k : KeyRow) (to seq : ℕ) (body : List ℕ) → seq < 2 ^ 64 → seq_of (sealed k to seq body) ≡ seq
seq-sealed k to seq body small = from_be_bytes-to_be_bytes_8 seq small

onto_numbered : (k : KeyRow) (j : ℕ) (ms : List Msg) (frames : List (List ℕ)) → AreNumbered frames → AreNumbered (sealed_onto k j ms frames)
onto_numbered k j [] frames are = are
onto_numbered k j (m ∷ ms) frames are =
    onto_numbered k j ms (sealed k j (length frames % 2 ^ 64) (body_of k.me m) ∷ frames) (seq-sealed k j (length frames % 2 ^ 64) (body_of k.me m) (omega arith), are)

made_numbered : (r : Rules) (k : KeyRow) (h : List Entry) (j : ℕ) → AreNumbered (made_for r k h j)
made_numbered r k [] j = tt
made_numbered r k (e ∷ h) j = onto_numbered k j (sent_to j (new_messages r h e)) (made_for r k h j) (made_numbered r k h j)

-- ---- one element more at the back

pub get_before : (xs : List (List ℕ)) (x : List ℕ) (k : ℕ) → k < length xs → slice_get (xs ++ x ∷ []) k ≡ slice_get xs k
get_before [] x k within = absurd (omega arith)
get_before (y ∷ ys) x zero within = refl
get_before (y ∷ ys) x (suc k) within = get_before ys x k (omega arith)

pub get_last : (xs : List (List ℕ)) (x : List ℕ) → slice_get (xs ++ x ∷ []) (length xs) ≡ Some x
get_last [] x = refl
get_last (y ∷ ys) x = get_last ys x

-- ---- by number

other_number : (x bytes : List ℕ) (n : ℕ) → seq_of x ≡ n → seq_of bytes ≢ n → bytes_eq bytes x ≡ false
other_number x bytes n e other = elim (bytes_eq bytes x) as (λ b. bytes_eq bytes x ≡ b → bytes_eq bytes x ≡ false) [
  | true ↦ λ same. absurd (other (ap seq_of ((bytes_eq-Decides bytes x).0 same) ∙ e))
  | false ↦ λ differ. differ
] refl

or_none : (b c : Bool) → c ≡ false → b ≡ (b || c)
or_none true c e = refl
or_none false c e = sym e

or_first : (b c : Bool) → b ≡ false → c ≡ (b || c)
or_first true c e = absurd (cc)
or_first false c e = refl

long_as : (xs : List (List ℕ)) (x : List ℕ) → length (reverse xs ++ x ∷ []) ≡ length xs + 1
long_as xs x = omega (arith, length-append (reverse xs) (x ∷ []), length-reverse xs)

before_last : (xs : List (List ℕ)) (x bytes : List ℕ) → seq_of x ≡ length xs → seq_of bytes < length xs
    → is_numbered (reverse xs) (seq_of bytes) bytes ≡ list_any (bytes_eq bytes) xs
    → is_numbered (reverse xs ++ x ∷ []) (seq_of bytes) bytes ≡ list_any (bytes_eq bytes) (x ∷ xs)
before_last xs x bytes e less was =
    ap (λ o. is_frame o bytes) (get_before (reverse xs) x (seq_of bytes) (omega (arith, length-reverse xs)))
    ∙ was ∙ or_first (bytes_eq bytes x) (list_any (bytes_eq bytes) xs) (other_number x bytes (length xs) e (λ same. omega arith))

at_last : (xs : List (List ℕ)) (x bytes : List ℕ) → seq_of bytes ≡ length xs
    → is_numbered (reverse xs) (seq_of bytes) bytes ≡ list_any (bytes_eq bytes) xs
    → is_numbered (reverse xs ++ x ∷ []) (seq_of bytes) bytes ≡ list_any (bytes_eq bytes) (x ∷ xs)
at_last xs x bytes same was =
    let place : seq_of bytes ≡ length (reverse xs) = same ∙ sym (length-reverse xs) in
    ap (λ o. is_frame o bytes) (ap (slice_get (reverse xs ++ x ∷ [])) place ∙ get_last (reverse xs) x)
    ∙ or_none (bytes_eq bytes x) (list_any (bytes_eq bytes) xs)
    (sym was ∙ ap (λ o. is_frame o bytes) (slice_get_past (reverse xs) (seq_of bytes) (omega (arith, length-reverse xs))))

past_last : (xs : List (List ℕ)) (x bytes : List ℕ) → seq_of x ≡ length xs → length xs < seq_of bytes
    → is_numbered (reverse xs) (seq_of bytes) bytes ≡ list_any (bytes_eq bytes) xs
    → is_numbered (reverse xs ++ x ∷ []) (seq_of bytes) bytes ≡ list_any (bytes_eq bytes) (x ∷ xs)
past_last xs x bytes e more was =
    ap (λ o. is_frame o bytes) (slice_get_past (reverse xs ++ x ∷ []) (seq_of bytes) (omega (arith, long_as xs x))
    ∙ sym (slice_get_past (reverse xs) (seq_of bytes) (omega (arith, length-reverse xs))))
    ∙ was ∙ or_first (bytes_eq bytes x) (list_any (bytes_eq bytes) xs) (other_number x bytes (length xs) e (λ same. omega arith))

pub numbered_any : (bytes : List ℕ) (xs : List (List ℕ)) → AreNumbered xs → length xs ≤ 2 ^ 64
    → is_numbered (reverse xs) (seq_of bytes) bytes ≡ list_any (bytes_eq bytes) xs
numbered_any bytes [] are few = refl
numbered_any bytes (x ∷ xs) are few =
    let was = numbered_any bytes xs are.1 (omega arith) in
    let number : seq_of x ≡ length xs = omega (arith, are.0) in
    ap (λ frames. is_numbered frames (seq_of bytes) bytes) (reverse-append (x ∷ []) xs)
    ∙ elim (cases_lt (seq_of bytes) (length xs)) [
      | inl less ↦ before_last xs x bytes number less was
      | inr most ↦ elim (eq-or-lt_of_le most) [
        | inl same ↦ at_last xs x bytes (sym same) was
        | inr more ↦ past_last xs x bytes number more was
      ]
    ]

-- a frame is among those that were made for j where the one of its number is the same
pub made_by_number : (r : Rules) (k : KeyRow) (h : List Entry) (j : ℕ) (bytes : List ℕ) → length (made_for r k h j) ≤ 2 ^ 64
    → is_numbered (reverse (made_for r k h j)) (seq_of bytes) bytes ≡ list_any (bytes_eq bytes) (made_for r k h j)
made_by_number r k h j bytes few = numbered_any bytes (made_for r k h j) (made_numbered r k h j) few
