use Rattle.std.proofs.Common.{◌+◌, [], ◌∷◌, map, refl, ap}
use Rattle.std.proofs.lemmas.Result.{err_from_is_err_and}
use Rattle.schedule_replay.specs.Layers.{layers_by}
use Rattle.world_model.specs.Players.{Carry}
use Rattle.schedule_drive.proofs.Toward.{up_to, next_up, none_up, sets_out, arrives, comes_nearer, halts_on_way}
use Rattle.schedule_drive.proofs.runs.take_frames.Goals as goal

pub loop-number-init : goal.loop-number-init
loop-number-init g c = λ p what steps stands is.
    let m = layers_by g.S.Service.stands g.S.Service.rules g.S.Service.shown g.E.Broadcast.stands g.E.Broadcast.rules g.E.Broadcast.shown in
    sets_out m p what c.args.stage.now _ _ steps refl stands

pub loop-number-preserved : goal.loop-number-preserved
loop-number-preserved g c = λ p what steps stands is.
    let m = layers_by g.S.Service.stands g.S.Service.rules g.S.Service.shown g.E.Broadcast.stands g.E.Broadcast.rules g.E.Broadcast.shown in
    let toward = c.loop-number.invariant p what steps stands is in
    comes_nearer m p what c.loop-number.stage _ (Carry c.args.x c.args.y c.loop-number.number ∷ []) _ _ _
    (ap (map (Carry c.args.x c.args.y)) (next_up c.loop-number.number c.args.end c.loop-number-test.true)) toward
    (c.in_ok-carry.ensures p what toward.steps toward.stands is.0 is.1 is.2)

pub returns-in_err-carry : goal.returns-in_err-carry
returns-in_err-carry g c = λ p what steps stands is.
    let m = layers_by g.S.Service.stands g.S.Service.rules g.S.Service.shown g.E.Broadcast.stands g.E.Broadcast.rules g.E.Broadcast.shown in
    let toward = c.loop-number.invariant p what steps stands is in
    let q = err_from_is_err_and c.from_residual.result c.from_residual.ensures.1 in
    rw (q.1, q.2) (halts_on_way m p what c.loop-number.stage (Carry c.args.x c.args.y c.loop-number.number ∷ [])
    (map (Carry c.args.x c.args.y) (up_to (c.loop-number.number + 1) c.args.end)) _ _ _
    (ap (map (Carry c.args.x c.args.y)) (next_up c.loop-number.number c.args.end c.loop-number-test.true)) toward
    (c.in_err-carry.ensures p what toward.steps toward.stands is.0 is.1 is.2))

pub returns : goal.returns
returns g c = λ p what steps stands is.
    let m = layers_by g.S.Service.stands g.S.Service.rules g.S.Service.shown g.E.Broadcast.stands g.E.Broadcast.rules g.E.Broadcast.shown in
    arrives m p what c.loop-number.stage _ _ (ap (map (Carry c.args.x c.args.y)) (none_up c.loop-number.number c.args.end c.loop-number-test.false))
    (c.loop-number.invariant p what steps stands is)
