use Rattle.std.proofs.Common.{sym, ap, List, ◌++◌, ◌∙◌, append-nil}
use Rattle.ritas_base.specs.declared.item.Say.{Say}
use Rattle.layer_api.specs.Words.{Hear}
use Rattle.ordered_rounds.specs.Rounds.{delivered_ids}
use Rattle.ordered_rounds.specs.Stepping.{log_now}
use Rattle.ordered_rounds.specs.Turning.{RoundSettles, SettlesNot}
use Rattle.ordered_rounds.proofs.Completing.{on_err_any}
use Rattle.ordered_rounds.proofs.Hearing.{is_new, mid_command, command_says, lost_command, within}
use Rattle.std.proofs.lemmas.Result.{on_ok_weaker, on_err_weaker}
use Rattle.ordered_rounds.proofs.Taking.{took}
use Rattle.ordered_rounds.proofs.ordered.Ordered.take_command.Goals as goal

pub returns-in_err-note_command-clause-err : goal.returns-in_err-note_command-clause-err
returns-in_err-note_command-clause-err g c = on_err_any c.from_residual.result _ (λ seat w u h may one.
    lost_command g.V.RoundBox.stands g.V.RoundBox.rules g.met.V.RoundBox.round_laws g.V.RoundBox.live g.V.RoundBox.shown g.met.V.RoundBox.shows
    c.args.self.now seat w c.args.slot.now u h may one c.note_command.new.ledger
    (c.in_err-note_command.ensures.err (delivered_ids w) (log_now g.V.RoundBox.rules seat w) h.ledger))

pub returns-clause-ok : goal.returns-clause-ok
returns-clause-ok g c =
    on_ok_weaker {P = RoundSettles g.V.RoundBox.stands g.V.RoundBox.rules g.V.RoundBox.shown (record c.args.self.now { ledger = c.note_command.new.ledger }) c.settle.new.self c.args.made.now.items c.settle.new.made.items} c.settle.result
    (λ settles seat w u h may one.
    let x = c.args.self.now in
    let s = c.args.slot.now in
    let m = mid_command g.V.RoundBox.stands g.V.RoundBox.rules g.met.V.RoundBox.round_laws g.V.RoundBox.live g.V.RoundBox.shown g.met.V.RoundBox.shows
    x seat w s u h may one c.note_command.new.ledger
    (c.in_ok-note_command.ensures.ok (delivered_ids w) (log_now g.V.RoundBox.rules seat w)
    (within g.V.RoundBox.stands g.V.RoundBox.rules g.met.V.RoundBox.round_laws g.V.RoundBox.live g.V.RoundBox.shown g.met.V.RoundBox.shows x seat w s u h may one)
    (is_new g.V.RoundBox.stands g.V.RoundBox.rules g.met.V.RoundBox.round_laws g.V.RoundBox.live g.V.RoundBox.shown g.met.V.RoundBox.shows x seat w s u h may one) h.ledger) in
    took g.V.RoundBox.stands g.V.RoundBox.rules g.met.V.RoundBox.round_laws g.V.RoundBox.live g.V.RoundBox.shown g.met.V.RoundBox.shows
    c.settle.new.self seat w (Hear s u) c.args.made.now.items c.args.made.now.items c.settle.new.made.items (settles seat w (Hear s u) m)
    (sym (append-nil c.args.made.now.items) ∙ ap (λ (ys : List Say). c.args.made.now.items ++ ys) (sym (command_says g.V.RoundBox.stands g.V.RoundBox.rules g.met.V.RoundBox.round_laws g.V.RoundBox.live g.V.RoundBox.shown g.met.V.RoundBox.shows x seat w s u h may one))))
    c.settle.ensures.ok

pub returns-clause-err : goal.returns-clause-err
returns-clause-err g c =
    on_err_weaker {P = SettlesNot g.V.RoundBox.stands g.V.RoundBox.rules g.V.RoundBox.shown (record c.args.self.now { ledger = c.note_command.new.ledger }) c.settle.new.self} c.settle.result
    (λ settles seat w u h may one.
    let x = c.args.self.now in
    let s = c.args.slot.now in
    settles seat w s u (mid_command g.V.RoundBox.stands g.V.RoundBox.rules g.met.V.RoundBox.round_laws g.V.RoundBox.live g.V.RoundBox.shown g.met.V.RoundBox.shows
    x seat w s u h may one c.note_command.new.ledger
    (c.in_ok-note_command.ensures.ok (delivered_ids w) (log_now g.V.RoundBox.rules seat w)
    (within g.V.RoundBox.stands g.V.RoundBox.rules g.met.V.RoundBox.round_laws g.V.RoundBox.live g.V.RoundBox.shown g.met.V.RoundBox.shows x seat w s u h may one)
    (is_new g.V.RoundBox.stands g.V.RoundBox.rules g.met.V.RoundBox.round_laws g.V.RoundBox.live g.V.RoundBox.shown g.met.V.RoundBox.shows x seat w s u h may one) h.ledger)))
    c.settle.ensures.err
