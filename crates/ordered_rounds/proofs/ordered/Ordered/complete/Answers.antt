use Rattle.std.proofs.Common.{refl, ◌∷◌, ◌∙◌, ap}
use Rattle.layer_api.specs.Service.{has_id}
use Rattle.layer_api.specs.Words.{Hear}
use Rattle.ordered_rounds.specs.Identifiers.{all_pass}
use Rattle.ordered_rounds.specs.Rounds.{delivered_ids}
use Rattle.ordered_rounds.specs.Stepping.{log_now}
use Rattle.ordered_rounds.proofs.Completing.{on_err_any, regained, lost_room, waits_none, are_wanted, waits_more, completed, not_completed}
use Rattle.ordered_rounds.proofs.ordered.Ordered.complete.Goals as goal

pub returns-in_default-clause-ok : goal.returns-in_default-clause-ok
returns-in_default-clause-ok g c = λ seat w d k.
    waits_none g.V.RoundBox.stands g.V.RoundBox.rules g.met.V.RoundBox.round_laws g.V.RoundBox.live g.V.RoundBox.shown g.met.V.RoundBox.shows
    c.args.self.now seat w d k c.in_default.is

pub returns-else-has_all-clause-ok : goal.returns-else-has_all-clause-ok
returns-else-has_all-clause-ok g c = λ seat w d k.
    let x = c.args.self.now in
    let are = are_wanted g.V.RoundBox.stands g.V.RoundBox.rules g.met.V.RoundBox.round_laws g.V.RoundBox.live g.V.RoundBox.shown g.met.V.RoundBox.shows
    x seat w d k x.waits c.in-Some.ids c.in-Some.is k.knows in
    waits_more g.V.RoundBox.stands g.V.RoundBox.rules g.met.V.RoundBox.round_laws g.V.RoundBox.live g.V.RoundBox.shown g.met.V.RoundBox.shows
    x seat w d k c.in-Some.ids.items are c.has_all.result
    (c.has_all.ensures (delivered_ids (d ∷ w)) (log_now g.V.RoundBox.rules seat w) k.mid.ledger ∙ ap (all_pass (has_id (delivered_ids (d ∷ w)))) c.deref.ensures.value)
    c.if-has_all.false

pub returns-in_err-reserve-clause-err : goal.returns-in_err-reserve-clause-err
returns-in_err-reserve-clause-err g c = on_err_any c.from_residual.result _ (λ seat w s u k.
    let x = record c.args.self.now { boxes = c.reserve.new.self } in
    lost_room g.V.RoundBox.stands g.V.RoundBox.rules g.met.V.RoundBox.round_laws g.V.RoundBox.live g.V.RoundBox.shown g.met.V.RoundBox.shows
    x seat w (Hear s u)
    (regained g.V.RoundBox.stands g.V.RoundBox.rules g.met.V.RoundBox.round_laws g.V.RoundBox.live g.V.RoundBox.shown g.met.V.RoundBox.shows
    c.args.self.now c.reserve.new.self seat w (Hear s u) c.in_err-reserve.ensures.current c.in_err-reserve.ensures.older k))

pub returns-in_ok-append_new-clause-ok : goal.returns-in_ok-append_new-clause-ok
returns-in_ok-append_new-clause-ok g c = λ seat w d known.
    let x = record c.args.self.now { boxes = c.reserve.new.self } in
    let k = regained g.V.RoundBox.stands g.V.RoundBox.rules g.met.V.RoundBox.round_laws g.V.RoundBox.live g.V.RoundBox.shown g.met.V.RoundBox.shows
    c.args.self.now c.reserve.new.self seat w d c.in_ok-reserve.ensures.current c.in_ok-reserve.ensures.older known in
    let are = are_wanted g.V.RoundBox.stands g.V.RoundBox.rules g.met.V.RoundBox.round_laws g.V.RoundBox.live g.V.RoundBox.shown g.met.V.RoundBox.shows
    x seat w d k x.waits c.in-Some.ids c.in-Some.is k.knows in
    completed g.V.RoundBox.stands g.V.RoundBox.rules g.met.V.RoundBox.round_laws g.V.RoundBox.live g.V.RoundBox.shown g.met.V.RoundBox.shows
    x seat w d k c.in-Some.ids.items are c.has_all.result
    (c.has_all.ensures (delivered_ids (d ∷ w)) (log_now g.V.RoundBox.rules seat w) k.mid.ledger ∙ ap (all_pass (has_id (delivered_ids (d ∷ w)))) c.deref.ensures.value)
    c.if-has_all.true _ c.deref-then-has_all.result.now c.deref-then-has_all.ensures.value refl refl refl c.in_ok-append_new.ensures.ok
    c.saturating_add-self.ensures c.shift.ensures.current c.shift.ensures.older refl

pub returns-in_err-append_new-clause-err : goal.returns-in_err-append_new-clause-err
returns-in_err-append_new-clause-err g c = on_err_any c.from_residual-in_err-append_new.result _ (λ seat w s u known.
    let d = Hear s u in
    let x = record c.args.self.now { boxes = c.reserve.new.self } in
    let k = regained g.V.RoundBox.stands g.V.RoundBox.rules g.met.V.RoundBox.round_laws g.V.RoundBox.live g.V.RoundBox.shown g.met.V.RoundBox.shows
    c.args.self.now c.reserve.new.self seat w d c.in_ok-reserve.ensures.current c.in_ok-reserve.ensures.older known in
    let are = are_wanted g.V.RoundBox.stands g.V.RoundBox.rules g.met.V.RoundBox.round_laws g.V.RoundBox.live g.V.RoundBox.shown g.met.V.RoundBox.shows
    x seat w d k x.waits c.in-Some.ids c.in-Some.is k.knows in
    not_completed g.V.RoundBox.stands g.V.RoundBox.rules g.met.V.RoundBox.round_laws g.V.RoundBox.live g.V.RoundBox.shown g.met.V.RoundBox.shows
    x seat w d k c.in-Some.ids.items are c.has_all.result
    (c.has_all.ensures (delivered_ids (d ∷ w)) (log_now g.V.RoundBox.rules seat w) k.mid.ledger ∙ ap (all_pass (has_id (delivered_ids (d ∷ w)))) c.deref.ensures.value)
    c.if-has_all.true c.append_new.new.self c.deref-then-has_all.result.now c.deref-then-has_all.ensures.value c.in_err-append_new.ensures.err)
