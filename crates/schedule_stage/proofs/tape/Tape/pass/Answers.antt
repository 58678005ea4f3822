use Rattle.schedule_stage.proofs.Taping.{passes_so}
use Rattle.schedule_stage.proofs.tape.Tape.pass.Goals as goal

pub returns-clause-tapes : goal.returns-clause-tapes
returns-clause-tapes c = λ w p what steps step stands events.
    passes_so w p what c.args.self.now c.step.new.self step steps c.step.result stands events c.step.ensures.ok c.step.ensures.err c.step.ensures.same
