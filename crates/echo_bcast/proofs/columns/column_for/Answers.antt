use Rattle.std.proofs.Common.{◌∙◌, ℕ, ap, ◌++◌, List}
use Rattle.std.specs.Prelude.{Option}
use Rattle.std.specs.Int.{w32, to_be_bytes}
use Rattle.std.specs.List.{flat_map}
use Rattle.std.proofs.lemmas.List.{take_all}
use Rattle.echo_bcast.proofs.ColumnSteps.{row_bytes, rows_bytes}
use Rattle.echo_bcast.proofs.columns.column_for.Goals as goal

pub returns : goal.returns
returns c =
    let hs = c.args.hashes.now in
    c.from_vec.ensures
    ∙ (c.loop-value.invariant
    ∙ ap (λ (l : List ℕ). to_be_bytes w32 c.args.senders ++ l)
    (ap (λ (l : List (Option (List ℕ))). flat_map (row_bytes c.args.k) l) (take_all c.loop-value.value-index hs c.loop-value-test.false) ∙ rows_bytes c.args.k hs))
