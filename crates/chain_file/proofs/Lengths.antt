-- How long the text of an epoch is, and when it has one.
use Rattle.std.specs.Prelude.{◌≡◌, ℕ, ◌+◌, ◌<◌, ◌^◌, List, length, drop, reverse}
use Rattle.std.specs.List.{AllByRecursion}
use Rattle.std.proofs.Common.{sym, ◌∙◌, ap, subst, arith, length-append}
use Rattle.std.proofs.lemmas.List.{length-reverse, reverse-reverse}
use Rattle.command_log.specs.Rows.{Row}
use Rattle.command_log.specs.Pieces.{rows_bytes}
use Rattle.chain_file.specs.Epochs.{FitsRow, IsEpoch, IsRequest, epoch_from, epoch_text, requests_text, rows_from, rows_text, waiting_text}
use Rattle.chain_file.proofs.Lists.{all_reversed, rows_since}

module _ (log : List Row) (first : ℕ) (waiting : List (List ℕ)) where
  pub rows_fit : IsEpoch (epoch_from log first waiting) → AllByRecursion FitsRow (drop first (reverse log))
  rows_fit is = subst (AllByRecursion FitsRow) (rows_since log first) (all_reversed FitsRow (rows_from log first) is.rows)

  pub is_epoch : AllByRecursion FitsRow (drop first (reverse log)) → length (drop first (reverse log)) < 2 ^ 32 → AllByRecursion IsRequest waiting → length waiting < 2 ^ 16
      → IsEpoch (epoch_from log first waiting)
  is_epoch rows few each few_waiting =
      let same = rows_since log first in
      let back : reverse (drop first (reverse log)) ≡ rows_from log first = ap reverse (sym same) ∙ reverse-reverse (rows_from log first) in
      let long = ap length same in
      let turned = length-reverse (rows_from log first) in
      record {
        few_rows = omega (arith, few, long, turned);
        rows = subst (AllByRecursion FitsRow) back (all_reversed FitsRow (drop first (reverse log)) rows);
        few_waiting = few_waiting;
        waiting = each;
      }

  pub text_long : (rows requests : ℕ) → rows ≡ length (rows_bytes (drop first (reverse log))) → requests ≡ length (requests_text waiting)
      → (6 + rows) + requests ≡ length (epoch_text (epoch_from log first waiting))
  text_long rows requests rows_are requests_are =
      let both = length-append (rows_text (rows_from log first)) (waiting_text waiting) in
      let same = ap (λ (l : List Row). length (rows_bytes l)) (rows_since log first) in
      let front : length (rows_text (rows_from log first)) ≡ 4 + length (rows_bytes (reverse (rows_from log first))) = omega arith in
      let back : length (waiting_text waiting) ≡ 2 + length (requests_text waiting) = omega arith in
      omega (arith, both, same, front, back, rows_are, requests_are)
