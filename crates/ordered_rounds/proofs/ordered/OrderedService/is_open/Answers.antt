use Rattle.std.proofs.Common.{◌≡◌, ◌∙◌, rules}
use Rattle.ordered_rounds.specs.OrderedGetters.{ordered_shown}
use Rattle.ordered_rounds.specs.Laws.Getters.{shows_rules}
use Rattle.ordered_rounds.proofs.ordered.OrderedService.is_open.Goals as goal

pub returns-else-slot-eq1-clause-rules : goal.returns-else-slot-eq1-clause-rules
returns-else-slot-eq1-clause-rules g c = λ seat w stands.
    let told : c.is_round_open.result ≡ (ordered_shown g.V.RoundBox.shown c.args.self.now).opens c.args.slot.now = search rules in
    told
    ∙ (shows_rules g.V.RoundBox.stands g.V.RoundBox.rules g.met.V.RoundBox.round_laws g.V.RoundBox.live g.V.RoundBox.shown g.met.V.RoundBox.shows
    c.args.self.now seat w stands).opens c.args.slot.now
