use Rattle.std.proofs.Common.{rules}
use Rattle.ritas_base.specs.Numbers.{IsSession}
use Rattle.schedule_stage.proofs.Heads.{mask_within}
use Rattle.schedule_stage.proofs.first.first_header.Goals as goal

pub returns-clause-right : goal.returns-clause-right
returns-clause-right c =
    let session : IsSession c.header_of.result.p = search rules in
    record {
      session = search rules;
      numbers = session;
      root = search rules;
      correct = mask_within c.args.plan.now c.header_of.result c.header_of.ensures;
      keys = search rules;
    }
