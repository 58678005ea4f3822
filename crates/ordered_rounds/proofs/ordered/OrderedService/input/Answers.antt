use Rattle.std.proofs.Common.{refl}
use Rattle.layer_api.specs.Words.{Ask}
use Rattle.ordered_rounds.proofs.Near.{shows_before}
use Rattle.ordered_rounds.proofs.Taking.{input_done}
use Rattle.ordered_rounds.proofs.ordered.OrderedService.input.Goals as goal

pub returns-in-Ok : goal.returns-in-Ok
returns-in-Ok g c =
    input_done g.V.RoundBox.stands g.V.RoundBox.rules g.met.V.RoundBox.round_laws g.V.RoundBox.live g.V.RoundBox.shown g.met.V.RoundBox.shows
    c.args.self.now (record c.args.self.now { inputs = c.saturating_add-self.result }) c.args.value.now c.me.result c.args.says.now.items c.say_command.new.says.items
    c.me.ensures refl c.saturating_add-self.ensures c.in-Ok.ensures.said

pub returns-in-Err : goal.returns-in-Err
returns-in-Err g c = record {
  out = c.in-Err.ensures.err;
  dead = refl;
  shows = λ seat w stands may.
      shows_before g.V.RoundBox.stands g.V.RoundBox.rules g.met.V.RoundBox.round_laws g.V.RoundBox.live g.V.RoundBox.shown g.met.V.RoundBox.shows
      c.args.self.now seat w (Ask c.args.value.now) stands;
}
