use Rattle.std.proofs.Common.{◌∙◌}
use Rattle.ordered_rounds.specs.Laws.Getters.{shows_rules}
use Rattle.ordered_rounds.proofs.ordered.OrderedService.last_vector.Goals as goal

pub returns-clause-rules : goal.returns-clause-rules
returns-clause-rules g c = λ seat w stands.
    c.last_vector.ensures
    ∙ (shows_rules g.V.RoundBox.stands g.V.RoundBox.rules g.met.V.RoundBox.round_laws g.V.RoundBox.live g.V.RoundBox.shown g.met.V.RoundBox.shows
    c.args.self.now seat w stands).last
