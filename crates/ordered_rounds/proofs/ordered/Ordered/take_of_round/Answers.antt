use Rattle.layer_api.specs.Words.{Hear}
use Rattle.ordered_rounds.specs.Turning.{RoundSettles, SettlesNot}
use Rattle.ordered_rounds.proofs.Completing.{on_err_any}
use Rattle.ordered_rounds.proofs.RoundHearing.{mid_heard, made_heard, took_other, near_heard}
use Rattle.std.proofs.lemmas.Result.{on_ok_weaker, on_err_weaker}
use Rattle.ordered_rounds.proofs.Taking.{took}
use Rattle.ordered_rounds.proofs.ordered.Ordered.take_of_round.Goals as goal

pub returns-in_err-heard-clause-err : goal.returns-in_err-heard-clause-err
returns-in_err-heard-clause-err g c = on_err_any c.from_residual.result _ (λ seat w h coin may other.
    near_heard g.V.RoundBox.stands g.V.RoundBox.rules g.met.V.RoundBox.round_laws g.V.RoundBox.live g.V.RoundBox.shown g.met.V.RoundBox.shows
    c.args.self.now seat w c.args.slot.now c.args.value.now h may other (g.C.Coin.bits c.args.coin.now) coin c.heard.new.self c.args.made.now.items c.heard.new.made.items
    c.saturating_sub-before.result c.saturating_sub-before.ensures c.in_err-heard.field-0.0 c.in_err-heard.ensures)

pub returns-then-before-ne0-clause-ok : goal.returns-then-before-ne0-clause-ok
returns-then-before-ne0-clause-ok g c = λ seat w h coin may other.
    took_other g.V.RoundBox.stands g.V.RoundBox.rules g.met.V.RoundBox.round_laws g.V.RoundBox.live g.V.RoundBox.shown g.met.V.RoundBox.shows
    c.args.self.now seat w c.args.slot.now c.args.value.now h may other (g.C.Coin.bits c.args.coin.now) coin c.heard.new.self c.args.made.now.items c.heard.new.made.items
    c.saturating_sub-before.result c.saturating_sub-before.ensures c.if-before-ne0.true c.in_ok-heard.ensures

pub returns-clause-ok : goal.returns-clause-ok
returns-clause-ok g c =
    on_ok_weaker {P = RoundSettles g.V.RoundBox.stands g.V.RoundBox.rules g.V.RoundBox.shown (record c.args.self.now { boxes = c.heard.new.self }) c.settle.new.self c.heard.new.made.items c.settle.new.made.items} c.settle.result
    (λ settles seat w h coin may other.
    let x = c.args.self.now in
    let s = c.args.slot.now in
    let u = c.args.value.now in
    let m = mid_heard g.V.RoundBox.stands g.V.RoundBox.rules g.met.V.RoundBox.round_laws g.V.RoundBox.live g.V.RoundBox.shown g.met.V.RoundBox.shows
    x seat w s u h may other (g.C.Coin.bits c.args.coin.now) coin c.heard.new.self c.args.made.now.items c.heard.new.made.items
    c.saturating_sub-before.result c.saturating_sub-before.ensures c.in_ok-heard.ensures in
    took g.V.RoundBox.stands g.V.RoundBox.rules g.met.V.RoundBox.round_laws g.V.RoundBox.live g.V.RoundBox.shown g.met.V.RoundBox.shows
    c.settle.new.self seat w (Hear s u) c.args.made.now.items c.heard.new.made.items c.settle.new.made.items (settles seat w (Hear s u) m)
    (made_heard g.V.RoundBox.stands g.V.RoundBox.rules g.met.V.RoundBox.round_laws g.V.RoundBox.live g.V.RoundBox.shown g.met.V.RoundBox.shows
    x seat w s u h may other (g.C.Coin.bits c.args.coin.now) coin c.heard.new.self c.args.made.now.items c.heard.new.made.items
    c.saturating_sub-before.result c.saturating_sub-before.ensures c.in_ok-heard.ensures))
    c.settle.ensures.ok

pub returns-clause-err : goal.returns-clause-err
returns-clause-err g c =
    on_err_weaker {P = SettlesNot g.V.RoundBox.stands g.V.RoundBox.rules g.V.RoundBox.shown (record c.args.self.now { boxes = c.heard.new.self }) c.settle.new.self} c.settle.result
    (λ settles seat w h coin may other.
    let x = c.args.self.now in
    let s = c.args.slot.now in
    let u = c.args.value.now in
    settles seat w s u (mid_heard g.V.RoundBox.stands g.V.RoundBox.rules g.met.V.RoundBox.round_laws g.V.RoundBox.live g.V.RoundBox.shown g.met.V.RoundBox.shows
    x seat w s u h may other (g.C.Coin.bits c.args.coin.now) coin c.heard.new.self c.args.made.now.items c.heard.new.made.items
    c.saturating_sub-before.result c.saturating_sub-before.ensures c.in_ok-heard.ensures))
    c.settle.ensures.err
