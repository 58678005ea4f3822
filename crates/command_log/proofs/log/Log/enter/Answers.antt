use Rattle.std.proofs.Common.{rules}
use Rattle.command_log.proofs.Bases.{start_stays}
use Rattle.command_log.proofs.log.Log.enter.Goals as goal

pub returns-clause-ok : goal.returns-clause-ok
returns-clause-ok c = record {
  f = search rules;
  start =
      start_stays c.args.self.now c.self.inside.f c.self.inside.rows c.enter.new.self c.self.inside.base_len c.self.inside.chained c.self.inside.waiting _
      c.self.view_is c.self.invariant.within c.in_ok-position.ensures.ok;
  rows = search rules;
  waiting = search rules;
}
