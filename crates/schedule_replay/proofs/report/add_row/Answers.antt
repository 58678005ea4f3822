use Rattle.std.proofs.Common.{◌≡◌, ℕ, List, ◌++◌, None, option_copied, string_bytes, refl, sym, ◌∙◌, ap}
use Rattle.std.proofs.lemmas.List.{append-nil}
use Rattle.command_log.specs.Rows.{row_at}
use Rattle.schedule_replay.specs.Report.{row_line}
use Rattle.schedule_replay.proofs.Written.{written_next}
use Rattle.schedule_replay.proofs.report.add_row.Goals as goal

pub returns-in-None-clause-next : goal.returns-in-None-clause-next
returns-in-None-clause-next c = λ old rows is so_far.
    let text = string_bytes c.args.text.now in
    let position = c.args.position in
    let empty : option_copied c.args.row ≡ None = rw c.in-None.is refl in
    let none : row_at rows position ≡ None = sym is ∙ empty in
    written_next old text text (λ k. row_line k (row_at rows k)) position so_far
    (sym (ap (λ o. text ++ row_line position o) none ∙ append-nil text))
