use Rattle.std.proofs.Common.{◌≡◌, ◌∙◌, sym, ap, rules}
use Rattle.std.specs.Prelude.{Bool, true, false, if◌then◌else◌}
use Rattle.layer_api.specs.Service.{Decided, Undecided, Spent}
use Rattle.ordered_rounds.specs.Boxes.{spent_in}
use Rattle.ordered_rounds.specs.Laws.Getters.{shows_rules}
use Rattle.ordered_rounds.proofs.ordered.OrderedService.outcome.Goals as goal

pub returns-then-is_spent-clause-rules : goal.returns-then-is_spent-clause-rules
returns-then-is_spent-clause-rules g c = λ seat w stands.
    let spent : spent_in g.V.RoundBox.shown c.args.self.now.boxes.current ≡ true = search rules in
    sym (ap (λ (b : Bool). if b then Decided Spent else Undecided) spent)
    ∙ (shows_rules g.V.RoundBox.stands g.V.RoundBox.rules g.met.V.RoundBox.round_laws g.V.RoundBox.live g.V.RoundBox.shown g.met.V.RoundBox.shows
    c.args.self.now seat w stands).outcome

pub returns-else-is_spent-clause-rules : goal.returns-else-is_spent-clause-rules
returns-else-is_spent-clause-rules g c = λ seat w stands.
    let spent : spent_in g.V.RoundBox.shown c.args.self.now.boxes.current ≡ false = search rules in
    sym (ap (λ (b : Bool). if b then Decided Spent else Undecided) spent)
    ∙ (shows_rules g.V.RoundBox.stands g.V.RoundBox.rules g.met.V.RoundBox.round_laws g.V.RoundBox.live g.V.RoundBox.shown g.met.V.RoundBox.shows
    c.args.self.now seat w stands).outcome
