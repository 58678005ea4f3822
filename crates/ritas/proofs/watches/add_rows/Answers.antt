use Rattle.std.proofs.Common.{◌≡◌, ℕ, length, ◌++◌, ◌∙◌, ap, arith, string_bytes}
use Rattle.schedule_replay.specs.Report.{row_lines_below}
use Rattle.ritas.proofs.watches.add_rows.Goals as goal

pub loop-position-preserved : goal.loop-position-preserved
loop-position-preserved c = c.in_ok-add_row.ensures.next (string_bytes c.args.text.now) c.args.observer.now.rows c.row.ensures c.loop-position.invariant

pub returns : goal.returns
returns c =
    let all : c.loop-position.position ≡ length c.args.observer.now.rows =
    omega (arith, c.loop-position-test.false, c.loop-position.auto.position-end, c.len-position-end.ensures) in
    c.loop-position.invariant ∙ ap (λ (n : ℕ). string_bytes c.args.text.now ++ row_lines_below c.args.observer.now.rows n) all
