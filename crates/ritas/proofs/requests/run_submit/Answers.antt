use Rattle.std.proofs.Common.{◌≡◌, [], false}
use Rattle.ritas.proofs.Answering.{of_payload}
use Rattle.ritas.proofs.Counts.{submit_counts}
use Rattle.ritas.proofs.requests.run_submit.Goals as goal

pub returns-clause-answers : goal.returns-clause-answers
returns-clause-answers g c =
    of_payload _ g.K.Sink.taken c.args.output.now c.write_end.new.output _ _ (record { tells = false; before = []; now = []; few = 0; many = 0 }) (Unit {0}) (Unit {0}) c.write_end.result c.args.config.now c.submit-end.result c.as_slice.result.now _ c.as_slice.ensures c.submit-end.ensures.submits
    c.write_end.ensures.replies

pub returns-clause-runs : goal.returns-clause-runs
returns-clause-runs g c = record {
  ends = c.write_end.ensures.ends;
  link_counts = submit_counts _ _ c.write_end.result c.submit-end.result c.write_end.ensures.link c.write_end.ensures.memory c.submit-end.ensures.submits.cause;
  words_are_right = c.write_end.ensures.others.0;
}
