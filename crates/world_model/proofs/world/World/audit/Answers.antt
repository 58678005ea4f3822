use Rattle.std.proofs.Common.{arith, sym, ◌∙◌}
use Rattle.world_model.proofs.Audits.{too_many_is, enough_is, going_audited, stopped_audited}
use Rattle.world_model.proofs.world.World.audit.Goals as goal

pub returns-then-len-wait-clause-is : goal.returns-then-len-wait-clause-is
returns-then-len-wait-clause-is g c = λ w es stand.
    too_many_is c.args.self.now w es c.len.result c.wait.result (going_audited _ c.args.self.now w es stand) c.len.ensures c.wait.ensures (omega arith)

pub returns-then-len-wait-clause-agree : goal.returns-then-len-wait-clause-agree
returns-then-len-wait-clause-agree g c = λ w es stand holds. absurd (cc)

pub returns-then-len-wait-clause-stopped : goal.returns-then-len-wait-clause-stopped
returns-then-len-wait-clause-stopped g c = λ w es e stand.
    too_many_is c.args.self.now w es c.len.result c.wait.result (stopped_audited _ c.args.self.now w es e stand) c.len.ensures c.wait.ensures (omega arith)

pub returns-then-len-wait-clause-stopped_agree : goal.returns-then-len-wait-clause-stopped_agree
returns-then-len-wait-clause-stopped_agree g c = λ w es e stand holds. absurd (cc)

pub returns-clause-is : goal.returns-clause-is
returns-clause-is g c = λ w es stand.
    enough_is c.args.self.now w es c.len.result c.wait.result c.verdict.result (going_audited _ c.args.self.now w es stand) c.len.ensures c.wait.ensures (omega arith) c.verdict.ensures

pub returns-clause-agree : goal.returns-clause-agree
returns-clause-agree g c = λ w es stand holds.
    let is = enough_is c.args.self.now w es c.len.result c.wait.result c.verdict.result (going_audited _ c.args.self.now w es stand) c.len.ensures c.wait.ensures (omega arith) c.verdict.ensures in
    c.agreement.ensures w es stand.kind (sym is ∙ holds)

pub returns-clause-stopped : goal.returns-clause-stopped
returns-clause-stopped g c = λ w es e stand.
    enough_is c.args.self.now w es c.len.result c.wait.result c.verdict.result (stopped_audited _ c.args.self.now w es e stand) c.len.ensures c.wait.ensures (omega arith) c.verdict.ensures

pub returns-clause-stopped_agree : goal.returns-clause-stopped_agree
returns-clause-stopped_agree g c = λ w es e stand holds.
    let is = enough_is c.args.self.now w es c.len.result c.wait.result c.verdict.result (stopped_audited _ c.args.self.now w es e stand) c.len.ensures c.wait.ensures (omega arith) c.verdict.ensures in
    c.agreement.ensures w es stand.kind (sym is ∙ holds)
