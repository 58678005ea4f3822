use Rattle.std.proofs.Common.{refl, subst}
use Rattle.ritas.specs.Configs.{RefusesJournal}
use Rattle.node_loop.specs.Outs.{tells_of}
use Rattle.ritas.proofs.Lived.{both_served, both_run, both_refused, served_count, refused_count}
use Rattle.ritas.proofs.sessions.run_node.Goals as goal

pub returns-in-Ok-clause-answers : goal.returns-in-Ok-clause-answers
returns-in-Ok-clause-answers g c =
    let e = c.in-Ok.ensures in
    both_served c.args.config (tells_of g.K.Sink g.L.Link) g.K.Sink.taken c.args.output.now c.serve_node.new.output _ _ _ _ _ c.in-Ok.end c.end_status.result
    c.end_status.ensures.status e.served (λ none. (e.undisked none).0) e.kept

pub returns-in-Ok-clause-runs : goal.returns-in-Ok-clause-runs
returns-in-Ok-clause-runs g c =
    let e = c.in-Ok.ensures in
    rw c.end_status.ensures.status (both_run g.K.Sink.faults c.args.output.now c.serve_node.new.output c.args.config (tells_of g.K.Sink g.L.Link) _ _ _ c.in-Ok.end refl refl
    e.served e.kept)

pub returns-in-Ok-clause-disk_counts : goal.returns-in-Ok-clause-disk_counts
returns-in-Ok-clause-disk_counts g c =
    rw c.end_status.ensures.status (served_count _ _ c.in-Ok.end c.in-Ok.ensures.disk_counts)

pub returns-in-Err-clause-answers : goal.returns-in-Err-clause-answers
returns-in-Err-clause-answers g c =
    let e = c.in-Err.ensures in
    both_refused c.args.config (tells_of g.K.Sink g.L.Link) g.K.Sink.taken c.args.output.now c.refuse_journal.new.output _ _ _ _ _ c.in-Err.fault c.refuse_journal.result
    (subst (λ o. RefusesJournal g.K.Sink.tells g.K.Sink.taken o c.refuse_journal.new.output c.refuse_journal.result c.in-Err.fault) e.unserved.0 c.refuse_journal.ensures.refuses)
    (e.unserved.1, c.refuse_journal.ensures.others.3) (λ none. (e.undisked none).0) (λ none. (e.undisked none).1) e.unopened

pub returns-in-Err-clause-disk_counts : goal.returns-in-Err-clause-disk_counts
returns-in-Err-clause-disk_counts g c =
    refused_count _ _ c.refuse_journal.result c.in-Err.fault c.refuse_journal.ensures.disk c.in-Err.ensures.disk_counts
