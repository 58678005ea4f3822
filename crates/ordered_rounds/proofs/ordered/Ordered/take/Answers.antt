use Rattle.ordered_rounds.specs.Turning.{TakesCommand, LosesCommand}
use Rattle.std.proofs.lemmas.Result.{on_ok_weaker, on_err_weaker}
use Rattle.ordered_rounds.proofs.ordered.Ordered.take.Goals as goal

pub returns-in-1-clause-ok : goal.returns-in-1-clause-ok
returns-in-1-clause-ok g c =
    on_ok_weaker {P = TakesCommand g.V.RoundBox.stands g.V.RoundBox.rules g.V.RoundBox.shown c.args.self.now c.take_command.new.self c.args.slot.now c.args.made.now.items c.take_command.new.made.items} c.take_command.result
    (λ takes seat w h coin may. takes seat w c.args.value.now h may c.in-1.is) c.take_command.ensures.ok

pub returns-in-1-clause-err : goal.returns-in-1-clause-err
returns-in-1-clause-err g c =
    on_err_weaker {P = LosesCommand g.V.RoundBox.stands g.V.RoundBox.rules g.V.RoundBox.shown c.args.self.now c.take_command.new.self c.args.slot.now} c.take_command.result
    (λ loses seat w h coin may. loses seat w c.args.value.now h may c.in-1.is) c.take_command.ensures.err
