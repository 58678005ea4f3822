use Rattle.std.proofs.lemmas.Result.{on_ok_weaker, on_err_weaker}
use Rattle.ritas_core.proofs.DropSteps.{dropped_by}
use Rattle.ritas_core.proofs.layers.Layers.start_said.Goals as goal

pub returns-clause-ok : goal.returns-clause-ok
returns-clause-ok g c =
    let old = c.args.self.now in
    on_ok_weaker c.start_casts.result (λ starts. record {
      left = c.drop_past.new.casts;
      drops = dropped_by old.mode.version (g.S.Service.shown old.service) old.casts c.drop_past.new.casts c.n.result old.params.n c.n.ensures.value c.drop_past.ensures;
      starts = starts;
    }) c.start_casts.ensures.ok

pub returns-clause-err : goal.returns-clause-err
returns-clause-err g c =
    let old = c.args.self.now in
    on_err_weaker c.start_casts.result (λ starts. record {
      left = c.drop_past.new.casts;
      drops = dropped_by old.mode.version (g.S.Service.shown old.service) old.casts c.drop_past.new.casts c.n.result old.params.n c.n.ensures.value c.drop_past.ensures;
      starts = starts;
    }) c.start_casts.ensures.err
