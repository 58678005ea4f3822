use Rattle.std.proofs.Common.{rules, ◌≡◌, ◌+◌, ℕ, List, ◌∷◌, take, drop, reverse, Some, None, ap, ◌∙◌, subst, sym, IsErr}
use Rattle.std.specs.List.{AllByRecursion}
use Rattle.std.proofs.lemmas.List.{append-nil}
use Rattle.outside.specs.Writing.{Writes}
use Rattle.outside.specs.declared.source.Failed.{Failed}
use Rattle.command_log.specs.Rows.{Row, row_at}
use Rattle.command_log.specs.Pieces.{row_bytes, rows_bytes}
use Rattle.chain_file.specs.Epochs.{FitsRow}
use Rattle.chain_file.proofs.Lists.{row_here, no_row_here}
use Rattle.chain_file.proofs.Written.{begun}
use Rattle.chain_file.proofs.writing.write_row_at.Goals as goal

pub write_row-requires : goal.write_row-requires
write_row-requires g c =
    let is : row_at c.args.rows.now c.args.position ≡ Some c.in-Some.row.now = search rules in
    let all : AllByRecursion FitsRow (c.in-Some.row.now ∷ drop (c.args.position + 1) (reverse c.args.rows.now)) =
    subst (AllByRecursion FitsRow) (row_here c.args.rows.now c.args.position c.in-Some.row.now is) c.requires in
    all.0.payload

pub returns-in-Some : goal.returns-in-Some
returns-in-Some g c =
    let is : row_at c.args.rows.now c.args.position ≡ Some c.in-Some.row.now = search rules in
    let text : row_bytes c.in-Some.row.now ≡ rows_bytes (take 1 (drop c.args.position (reverse c.args.rows.now))) =
    sym (ap (λ (l : List Row). rows_bytes (take 1 l)) (row_here c.args.rows.now c.args.position c.in-Some.row.now is) ∙ append-nil (row_bytes c.in-Some.row.now)) in
    subst (λ (t : List ℕ). Writes {E = Failed} t g.K.Sink.tells (g.K.Sink.taken c.args.sink.now) (g.K.Sink.taken c.write_row.new.sink)
    (g.K.Sink.faults c.args.sink.now) (g.K.Sink.faults c.write_row.new.sink) c.write_row.result (IsErr c.write_row.result)) text c.write_row.ensures

pub returns-in-None : goal.returns-in-None
returns-in-None g c =
    let none : row_at c.args.rows.now c.args.position ≡ None = search rules in
    begun _ (ap (λ (l : List Row). rows_bytes (take 1 l)) (no_row_here c.args.rows.now c.args.position none)) _ _ _
