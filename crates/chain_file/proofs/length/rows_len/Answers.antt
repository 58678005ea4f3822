use Rattle.std.proofs.Common.{◌≡◌, ℕ, zero, suc, List, [], ◌-◌, ◌≤◌, ◌<◌, ◌^◌, ◌∙◌, inl, inr, refl, length, take, drop, reverse, ap, subst, sym, arith, length-append}
use Rattle.std.specs.List.{AllByRecursion}
use Rattle.chain_file.specs.Epochs.{FitsRow}
use Rattle.chain_file.proofs.Lists.{all_joined, all_behind, all_front, drop_on, take_on}
use Rattle.chain_file.proofs.Texts.{rows_until, row_there, rows_more, rows_all}
use Rattle.std.proofs.lemmas.List.{length-reverse, length-drop, take_all, drop_all}
use Rattle.std.proofs.lemmas.Bool.{cases_lt}
use Rattle.command_log.specs.Rows.{Row}
use Rattle.command_log.specs.Pieces.{rows_bytes}
use Rattle.chain_file.proofs.length.rows_len.Goals as goal

pub returns-in-None : goal.returns-in-None
returns-in-None c = λ all.
    let log = reverse c.args.rows.now in
    let at = c.loop-position.position in
    let first = c.args.first in
    c.in-None.ensures
    (all_front FitsRow 1 (drop at log)
    (subst (AllByRecursion FitsRow) (drop_on log first at c.loop-position.invariant.from) (all_behind FitsRow (at - first) (drop first log) all)))

pub loop-position-preserved : goal.loop-position-preserved
loop-position-preserved c =
    let log = reverse c.args.rows.now in
    let at = c.loop-position.position in
    let first = c.args.first in
    let inv = c.loop-position.invariant in
    let le = inv.from in
    let more = ap length (rows_more log first at le) in
    let both = length-append (rows_until log first at le) (row_there log first at le) in
    let size = c.in-Some.ensures.1 in
    let low = c.in-Some.ensures.2 in
    let len = inv.len in
    let most = inv.most in
    record {
      from = omega (arith, le);
      fit = subst (AllByRecursion FitsRow) (sym (take_on log first at le))
          (all_joined FitsRow (take (at - first) (drop first log)) (take 1 (drop at log)) inv.fit c.in-Some.ensures.0);
      len = omega (arith, len, size, more, both);
      most = omega (arith, most, low, le);
    }

take_none : (n : ℕ) → take {A = Row} n [] ≡ []
take_none zero = refl
take_none (suc n) = refl

pub returns : goal.returns
returns c =
    let log = reverse c.args.rows.now in
    let at = c.loop-position.position in
    let first = c.args.first in
    let inv = c.loop-position.invariant in
    let many = length-reverse c.args.rows.now in
    let count = c.len-position-end.ensures in
    let past : length log ≤ at = omega (arith, c.loop-position-test.false, count, many) in
    let whole : take (at - first) (drop first log) ≡ drop first log = take_all (at - first) (drop first log) (omega (arith, past, length-drop first log)) in (
      subst (AllByRecursion FitsRow) whole inv.fit,
      inv.len ∙ ap length (rows_all log first at past),
      low c.len-position-end.result refl,
      omega (arith, count, many, length-drop first log),
    )
  where
    low : (end : ℕ) → end ≡ c.len-position-end.result → c.loop-position.len < 2 ^ 49
    low end is = elim (cases_lt end c.args.first) [
      | inl past ↦
          let log = reverse c.args.rows.now in
          let many = length-reverse c.args.rows.now in
          let count = c.len-position-end.ensures in
          let none = drop_all c.args.first log (omega (arith, past, is, count, many)) in
          let len = c.loop-position.invariant.len in
          let size = ap (λ (l : List Row). length (rows_bytes l)) (ap (take (c.loop-position.position - c.args.first)) none ∙ take_none (c.loop-position.position - c.args.first)) in
          omega (arith, len, size)
      | inr within ↦
          let most = c.loop-position.invariant.most in
          let inside = c.loop-position.auto.position-end (omega (arith, within, is)) in
          omega (arith, most, inside)
    ]
