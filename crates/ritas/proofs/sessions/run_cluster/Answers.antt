use Rattle.std.proofs.Common.{refl}
use Rattle.ritas.specs.Configs.{Served}
use Rattle.ritas.proofs.Lived.{no_disk}
use Rattle.ritas.proofs.Served.{session_runs}
use Rattle.ritas.proofs.sessions.run_cluster.Goals as goal

pub returns-in-Ok-clause-answers : goal.returns-in-Ok-clause-answers
returns-in-Ok-clause-answers g c = Served c.in-Ok.end c.end_status.ensures.status c.in-Ok.ensures.served

pub returns-in-Ok-clause-runs : goal.returns-in-Ok-clause-runs
returns-in-Ok-clause-runs g c =
    rw c.end_status.ensures.status (session_runs g.K.Sink.faults c.args.output.now c.serve_cluster.new.output _ _ _ _ _ _ c.in-Ok.end refl refl c.in-Ok.ensures.served)

pub returns-in-Ok-clause-nine : goal.returns-in-Ok-clause-nine
returns-in-Ok-clause-nine g c = rw c.end_status.ensures.status (no_disk _ _ _ _ _ _ c.in-Ok.end c.in-Ok.ensures.served)
