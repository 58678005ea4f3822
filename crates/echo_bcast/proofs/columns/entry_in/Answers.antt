use Rattle.std.proofs.Common.{◌∙◌, ◌-◌, ◌*◌, ℕ, ap, arith, length, drop}
use Rattle.std.specs.Prelude.{min}
use Rattle.std.proofs.lemmas.List.{length-take-le, length-drop}
use Rattle.echo_bcast.proofs.ColumnSteps.{entry_sliced}
use Rattle.echo_bcast.proofs.columns.entry_in.Goals as goal

pub returns : goal.returns
returns c =
    let value = c.args.value.now in
    let start = c.min-start.result in
    let rest = length-take-le (length value - start) (drop start value) (omega (arith, length-drop start value)) in
    entry_sliced c.args.k start c.min.result value
    (c.min-start.ensures ∙ ap (λ (n : ℕ). min (32 * n) (length value)) c.from.ensures)
    (c.min.ensures ∙ ap (λ (n : ℕ). min n 32) rest)
