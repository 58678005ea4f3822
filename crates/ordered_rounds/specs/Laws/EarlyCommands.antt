-- What one command more does to the commands that came early.
use Rattle.std.specs.Prelude.{◌≡◌, ℕ, ◌<◌, nat_lt, Bool, true, false, ◌==◌, ◌&&◌, ◌||◌, List, [], slice_index, replicate, refl}
use Rattle.std.proofs.Common.{sym, ◌∙◌, ap, inl, inr, arith, zero, suc}
use Rattle.std.specs.BTreeSet.{BTreeSet}
use Rattle.std.specs.BTreeMap.{is_at}
use Rattle.std.specs.List.{list_any}
use Rattle.std.proofs.lemmas.Bool.{both_ways, or_cases, or_from, and_parts, eqb-true, le-ltb, false_from_ne_true}
use Rattle.ritas_base.specs.declared.id.Id.{Id}
use Rattle.ordered_rounds.specs.Early.{id_cmp, has_early, is_known, IsTight, Notes}

or_swap : (a b c : Bool) → (a || (b || c)) ≡ (b || (a || c))
or_swap true true c = refl
or_swap true false c = refl
or_swap false b c = refl

is_another : (bases : List ℕ) (origin num o : ℕ) → slice_index bases origin < num → (o == origin && slice_index bases o == num) ≡ false
is_another bases origin num o above =
    false_from_ne_true _ (λ both.
    let parts = and_parts (o == origin) (slice_index bases o == num) both in
    let base : slice_index bases origin ≡ slice_index bases o = ap (slice_index bases) (sym (eqb-true o origin parts.0)) in
    omega (arith, above, base, eqb-true (slice_index bases o) num parts.1))

small_with : (b : Bool) (k num : ℕ) (before : Bool) → (b && k == num || before) ≡ true → num < 1000000 → (before ≡ true → k < 1000000) → k < 1000000
small_with b k num before h small later =
    elim (or_cases (b && k == num) before h) [
      | inl both ↦ omega (arith, small, eqb-true k num (and_parts b (k == num) both).1)
      | inr there ↦ later there
    ]

-- a command came early
pub notes_early : (n origin num : ℕ) (bases : List ℕ) (early early' : BTreeSet Id)
    → ((o k : ℕ) → has_early early' o k ≡ (o == origin && k == num || has_early early o k))
    → slice_index bases origin < num → num < 1000000 → Notes n origin num bases bases early early'
notes_early n origin num bases early early' put above small = record {
  known = λ o k within own few.
      ap (λ (b : Bool). nat_lt k (slice_index bases o) || b) (put o k)
      ∙ or_swap (nat_lt k (slice_index bases o)) (o == origin && k == num) (has_early early o k);
  tight = λ tight. record {
    missing = λ o within. put o (slice_index bases o) ∙ or_from _ _ (is_another bases origin num o above) (tight.missing o within);
    small = λ o k has. small_with (o == origin) k num (has_early early o k) (sym (put o k) ∙ has) small (tight.small o k);
  };
}

-- ---- before any word

zeros : (n o : ℕ) → slice_index (replicate n 0) o ≡ 0
zeros zero o = refl
zeros (suc n) zero = refl
zeros (suc n) (suc o) = zeros n o

none_early : (early : BTreeSet Id) (o k : ℕ) → early.keys ≡ [] → has_early early o k ≡ false
none_early early o k empty = ap (λ (ids : List Id). list_any (is_at (id_cmp (record { origin = o; num = k }))) ids) empty

pub new_known : (n : ℕ) (early : BTreeSet Id) (o k : ℕ) → early.keys ≡ [] → is_known (slice_index (replicate n 0) o) early o k ≡ false
new_known n early o k empty =
    ap (λ (base : ℕ). is_known base early o k) (zeros n o) ∙ or_from _ _ (le-ltb k 0 (omega arith)) (none_early early o k empty)

pub new_tight : (n m : ℕ) (early : BTreeSet Id) → early.keys ≡ [] → IsTight n (replicate m 0) early
new_tight n m early empty = record {
  missing = λ o within. none_early early o (slice_index (replicate m 0) o) empty;
  small = λ o k has. absurd (both_ways _ (none_early early o k empty) has);
}
