use Rattle.std.proofs.Common.{◌<◌, sym, ◌∙◌, length, arith}
use Rattle.std.proofs.lemmas.Result.{err_from_is_err_and}
use Rattle.schedule_file.specs.Place.{spot}
use Rattle.schedule_file.proofs.KeyRows.{row_more, key_came, key_failed, row_failed, row_came}
use Rattle.schedule_file.proofs.read_header.read_row.Goals as goal

pub returns-in_err-row-clause-exact : goal.returns-in_err-row-clause-exact
returns-in_err-row-clause-exact g c = λ tells.
    let p = err_from_is_err_and c.from_residual.result c.from_residual.ensures.1 in
    let s = spot c.loop-j.pieces (g.S.Source.left c.loop-j.source) in
    rw (p.1, p.2) (λ own. row_failed c.args.n _ _ (sym (c.loop-j.invariant.read tells) ∙ key_failed c.args.n c.loop-j.j c.loop-j.row s _ c.loop-j-test.true (c.in_err-row.ensures.exact tells own)))

pub loop-j-preserved : goal.loop-j-preserved
loop-j-preserved g c =
    let row = c.loop-j.row in
    let j = c.loop-j.j in
    let is = c.loop-j.invariant.row in
    let low : j < 31 = omega arith in
    let within : j < length row = omega (arith, is.places, low) in
    record {
      row = row_more j row c.in_ok-row.field-0 low c.in_ok-row.ensures.len is;
      stands = c.in_ok-row.ensures.counts ∙ c.loop-j.invariant.stands;
      read = λ tells.
          key_came c.args.n j row c.in_ok-row.field-0 (spot c.loop-j.pieces (g.S.Source.left c.loop-j.source)) (spot c.read_key.new.pieces (g.S.Source.left c.read_key.new.source))
          c.loop-j-test.true within (c.in_ok-row.ensures.exact tells)
          ∙ c.loop-j.invariant.read tells;
    }

pub returns-clause-exact : goal.returns-clause-exact
returns-clause-exact g c = λ tells.
    row_came c.args.n c.loop-j.j c.loop-j.row _ (spot c.loop-j.pieces (g.S.Source.left c.loop-j.source)) (omega arith) (omega arith) c.loop-j.invariant.row (c.loop-j.invariant.read tells)
