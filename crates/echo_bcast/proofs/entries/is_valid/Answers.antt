use Rattle.std.proofs.Common.{◌≡◌, ◌∙◌, ℕ, List, ap, sym}
use Rattle.std.specs.Prelude.{Some, ◌==◌}
use Rattle.std.specs.Str.{bytes_eq}
use Rattle.ritas_base.specs.History.{is_value}
use Rattle.frame_codec.specs.Values.{column_row}
use Rattle.vote_lanes.specs.Plain.{is_equal_row}
use Rattle.echo_bcast.proofs.EntrySteps.{one_row}
use Rattle.echo_bcast.proofs.entries.is_valid.Goals as goal

pub returns : goal.returns
returns g c =
    let row : List ℕ = c.in-Some-as_array.row.now in
    let entry : List ℕ = c.entry-entry.result in
    let is_row : (c.rows_equal.result == 1) ≡ bytes_eq row entry =
    one_row row entry c.rows_equal.result (λ i. c.rows_equal.ensures i ∙ ap (λ (rows : List (List ℕ)). is_equal_row rows 1 entry i) c.from_ref.ensures.value) in
    let there : column_row c.args.value.now c.args.echoer ≡ Some row =
    sym c.in-Some.ensures ∙ ap (λ (r : List ℕ). Some r) (sym c.in-Some-as_array.ensures.cases.same) in
    let found : entry ≡ (g.T.Tagger.tags c.args.t.now).entry c.args.slot.now c.args.echoer (g.T.Tagger.me c.args.t.now) c.args.digest.now =
    c.entry-entry.ensures ∙ ap (λ (me : ℕ). (g.T.Tagger.tags c.args.t.now).entry c.args.slot.now c.args.echoer me c.args.digest.now) c.me.ensures in
    is_row ∙ (ap (is_value entry) (sym there) ∙ ap (λ (e : List ℕ). is_value e (column_row c.args.value.now c.args.echoer)) found)
