use Rattle.std.proofs.Common.{refl, ◌≡◌, sym, subst}
use Rattle.layer_api.specs.Words.{Hear}
use Rattle.ordered_rounds.specs.Turning.{IsNear, RoundBegins}
use Rattle.ordered_rounds.specs.declared.ordered.Ordered.{Ordered}
use Rattle.ordered_rounds.proofs.Completing.{on_err_any}
use Rattle.ordered_rounds.proofs.Near.{near_before, mid_before, poised_near}
use Rattle.std.proofs.lemmas.Result.{on_ok_weaker, on_err_weaker}
use Rattle.ordered_rounds.proofs.Taking.{learned}
use Rattle.ordered_rounds.proofs.ordered.Ordered.settle.Goals as goal

pub returns-in_err-learn-clause-err : goal.returns-in_err-learn-clause-err
returns-in_err-learn-clause-err g c = on_err_any c.from_residual.result _ (λ seat w s u m.
    near_before g.V.RoundBox.stands g.V.RoundBox.rules g.met.V.RoundBox.round_laws g.V.RoundBox.live g.V.RoundBox.shown g.met.V.RoundBox.shows
    c.args.self.now seat w (Hear s u)
    (mid_before g.V.RoundBox.stands g.V.RoundBox.rules g.met.V.RoundBox.round_laws g.V.RoundBox.live g.V.RoundBox.shown g.met.V.RoundBox.shows
    c.args.self.now seat w (Hear s u) m))

pub returns-in_err-complete-clause-err : goal.returns-in_err-complete-clause-err
returns-in_err-complete-clause-err g c = on_err_any c.from_residual-in_err-complete.result _ (λ seat w s u m.
    c.in_err-complete.ensures.err seat w s u
    (learned g.V.RoundBox.stands g.V.RoundBox.rules g.met.V.RoundBox.round_laws g.V.RoundBox.live g.V.RoundBox.shown g.met.V.RoundBox.shows
    c.args.self.now (record c.args.self.now { waits = c.learn.new.waits }) seat w (Hear s u) m refl c.in_ok-learn.ensures))

pub returns-clause-err : goal.returns-clause-err
returns-clause-err g c =
    on_err_weaker {P = c.begin.new.self ≡ c.complete.new.self} c.begin.result
    (λ same seat w s u m.
    subst (λ (y : Ordered _). IsNear g.V.RoundBox.stands g.V.RoundBox.rules g.V.RoundBox.shown y seat w (Hear s u)) (sym same)
    (poised_near g.V.RoundBox.stands g.V.RoundBox.rules g.met.V.RoundBox.round_laws g.V.RoundBox.live g.V.RoundBox.shown g.met.V.RoundBox.shows
    c.complete.new.self seat w (Hear s u)
    (c.in_ok-complete.ensures.ok seat w (Hear s u)
    (learned g.V.RoundBox.stands g.V.RoundBox.rules g.met.V.RoundBox.round_laws g.V.RoundBox.live g.V.RoundBox.shown g.met.V.RoundBox.shows
    c.args.self.now (record c.args.self.now { waits = c.learn.new.waits }) seat w (Hear s u) m refl c.in_ok-learn.ensures)))) c.begin.ensures.err

pub returns-clause-ok : goal.returns-clause-ok
returns-clause-ok g c =
    on_ok_weaker {P = RoundBegins g.V.RoundBox.stands g.V.RoundBox.rules g.V.RoundBox.shown c.complete.new.self c.begin.new.self c.args.made.now.items c.begin.new.made.items} c.begin.result
    (λ begins seat w d m.
    begins seat w d (c.in_ok-complete.ensures.ok seat w d
    (learned g.V.RoundBox.stands g.V.RoundBox.rules g.met.V.RoundBox.round_laws g.V.RoundBox.live g.V.RoundBox.shown g.met.V.RoundBox.shows
    c.args.self.now (record c.args.self.now { waits = c.learn.new.waits }) seat w d m refl c.in_ok-learn.ensures))) c.begin.ensures.ok
