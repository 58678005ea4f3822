use Rattle.std.proofs.Common.{rules, ◌≡◌, List, [], ◌∷◌, length, take, drop, reverse, Some, None, ap, ◌∙◌, subst, sym, arith}
use Rattle.std.specs.List.{AllByRecursion}
use Rattle.std.proofs.lemmas.List.{append-nil}
use Rattle.command_log.specs.Rows.{Row, row_at}
use Rattle.command_log.specs.Pieces.{row_bytes, row_size, rows_bytes}
use Rattle.chain_file.specs.Epochs.{FitsRow}
use Rattle.chain_file.proofs.Lists.{row_here, no_row_here, match_leads}
use Rattle.chain_file.proofs.length.row_len_at.Goals as goal

size_is : (r : Row) → row_size r ≡ length (rows_bytes (r ∷ []))
size_is r = let same = ap length (append-nil (row_bytes r)) in omega (arith, same)

pub returns-in-Some : goal.returns-in-Some
returns-in-Some c =
    let r = c.in-Some.row.now in
    let is : row_at c.args.rows.now c.args.position ≡ Some r = search rules in
    let one : take 1 (drop c.args.position (reverse c.args.rows.now)) ≡ r ∷ [] = ap (λ (l : List Row). take 1 l) (row_here c.args.rows.now c.args.position r is) in
    match_leads c.row_len.result
    (λ no all. let fits : AllByRecursion FitsRow (r ∷ []) = subst (AllByRecursion FitsRow) one all in no fits.0)
    (λ len fits. (
      subst (AllByRecursion FitsRow) (sym one) (fits.0, tt),
      fits.1 ∙ (size_is r ∙ ap (λ (l : List Row). length (rows_bytes l)) (sym one)),
      fits.2,
    ))
    c.row_len.ensures

pub returns-in-None : goal.returns-in-None
returns-in-None c =
    let none : row_at c.args.rows.now c.args.position ≡ None = search rules in
    let one : take 1 (drop c.args.position (reverse c.args.rows.now)) ≡ [] = ap (λ (l : List Row). take 1 l) (no_row_here c.args.rows.now c.args.position none) in
    (subst (AllByRecursion FitsRow) (sym one) tt, sym (ap (λ (l : List Row). length (rows_bytes l)) one), omega arith)
