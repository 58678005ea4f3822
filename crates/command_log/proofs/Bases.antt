-- Where the base of a log ends.
use Rattle.std.specs.Prelude.{◌≡◌, ℕ, suc, ◌-◌, ◌≤◌, Bool, List, ◌∷◌, ◌++◌, length, take, drop}
use Rattle.std.proofs.Common.{◌∙◌, ap, arith, length-append}
use Rattle.std.proofs.Math.Seq.{take-append_seam}
use Rattle.command_log.specs.declared.waiting.Waiting.{Waiting}
use Rattle.command_log.specs.Rows.{CommandEntry, Row, own_rows}
use Rattle.command_log.specs.Standing.{Ledger, ledger_of, own_of, StandsFor}

-- ---- the rows above the base

above_base : (own base : List Row) → take (length (own ++ base) - length base) (own ++ base) ≡ own
above_base own base =
    let whole = length-append own base in
    let many : length (own ++ base) - length base ≡ length own = omega (arith, whole) in
    ap (λ (n : ℕ). take n (own ++ base)) many ∙ take-append_seam own base

-- are those of the entries for which the log stands
pub own_of_stands : (l : Ledger) (es : List CommandEntry) → StandsFor l es → own_of l ≡ own_rows l.start l.f es
own_of_stands l es s =
    ap (λ (rs : List Row). take (length rs - length l.start.base) rs) s.rows ∙ above_base (own_rows l.start l.f es) l.start.base

-- ---- the base

-- is all rows of which there are as many
pub whole_base : (rs : List Row) (n : ℕ) → n ≡ length rs → drop (length rs - n) rs ≡ rs
whole_base rs n all = let none : length rs - n ≡ 0 = omega (arith, all) in ap (λ (k : ℕ). drop k rs) none

-- one row more leaves the base
base_stays : (r : Row) (rs : List Row) (n : ℕ) → n ≤ length rs → drop (length (r ∷ rs) - n) (r ∷ rs) ≡ drop (length rs - n) rs
base_stays r rs n within =
    let more : length (r ∷ rs) - n ≡ suc (length rs - n) = omega (arith, within) in ap (λ (k : ℕ). drop k (r ∷ rs)) more

pub start_stays : (l : Ledger) (f : ℕ) (rs new : List Row) (n : ℕ) (chained : Bool) (w : Waiting) (r : Row) → ledger_of f rs n chained w ≡ l → n ≤ length rs
    → new ≡ r ∷ rs → record { base = drop (length new - n) new; chained = chained } ≡ l.start
start_stays l f rs new n chained w r view within is =
    ap (λ (qs : List Row). record { base = drop (length qs - n) qs; chained = chained }) is
    ∙ (ap (λ (base : List Row). record { base = base; chained = chained }) (base_stays r rs n within) ∙ ap (λ (k : Ledger). k.start) view)
