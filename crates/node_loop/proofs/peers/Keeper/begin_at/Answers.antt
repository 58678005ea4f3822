use Rattle.std.proofs.Common.{◌<◌, ℕ, Option, ap, ap₂, ◌∙◌, arith}
use Rattle.node_loop.specs.Resending.{newest_in, sends_batch}
use Rattle.node_loop.proofs.Sending.{both_of, answers_as}
use Rattle.node_loop.proofs.peers.Keeper.begin_at.Goals as goal

pub returns : goal.returns
returns c = record {
  begins = λ w i p is.
      let below : c.args.peer < w.numbers.n = omega (arith, c.requires, is.kept.many) in
      let end = c.newest-end.ensures ∙ ap newest_in (is.kept.each c.args.peer below) in
      let said = c.send_batch.ensures.batch w i p is in
      both_of w i _ _ _ (answers_as w i _ _ _ _
      (ap₂ (λ (after : Option ℕ) (e : ℕ). sends_batch i c.args.peer after e 0 p) c.before-2.ensures.before end)
      (record { stands = said.0; more = said.1 }));
}
