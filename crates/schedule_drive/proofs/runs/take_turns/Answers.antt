use Rattle.std.proofs.Common.{◌+◌, [], ◌∷◌, map, ap}
use Rattle.std.proofs.lemmas.Result.{err_from_is_err_and}
use Rattle.schedule_replay.specs.Layers.{layers_by}
use Rattle.world_model.specs.Players.{Go}
use Rattle.schedule_drive.proofs.Toward.{up_to, next_up, none_up, all_up, sets_out, arrives, comes_nearer, halts_on_way}
use Rattle.schedule_drive.proofs.runs.take_turns.Goals as goal

pub loop-init : goal.loop-init
loop-init g c = λ p what steps stands is.
    let m = layers_by g.S.Service.stands g.S.Service.rules g.S.Service.shown g.E.Broadcast.stands g.E.Broadcast.rules g.E.Broadcast.shown in
    sets_out m p what c.args.stage.now _ _ steps (ap (map (λ _. Go c.args.y)) (all_up c.args.count)) stands

pub loop-preserved : goal.loop-preserved
loop-preserved g c = λ p what steps stands is.
    let m = layers_by g.S.Service.stands g.S.Service.rules g.S.Service.shown g.E.Broadcast.stands g.E.Broadcast.rules g.E.Broadcast.shown in
    let toward = c.loop.invariant p what steps stands is in
    comes_nearer m p what c.loop.stage _ (Go c.args.y ∷ []) _ _ _ (ap (map (λ _. Go c.args.y)) (next_up c.loop.counter c.args.count c.loop-test.true)) toward
    (c.in_ok-go.ensures p what toward.steps toward.stands is)

pub returns-in_err-go : goal.returns-in_err-go
returns-in_err-go g c = λ p what steps stands is.
    let m = layers_by g.S.Service.stands g.S.Service.rules g.S.Service.shown g.E.Broadcast.stands g.E.Broadcast.rules g.E.Broadcast.shown in
    let toward = c.loop.invariant p what steps stands is in
    let q = err_from_is_err_and c.from_residual.result c.from_residual.ensures.1 in
    rw (q.1, q.2) (halts_on_way m p what c.loop.stage (Go c.args.y ∷ []) (map (λ _. Go c.args.y) (up_to (c.loop.counter + 1) c.args.count)) _ _ _
    (ap (map (λ _. Go c.args.y)) (next_up c.loop.counter c.args.count c.loop-test.true)) toward (c.in_err-go.ensures p what toward.steps toward.stands is))

pub returns : goal.returns
returns g c = λ p what steps stands is.
    let m = layers_by g.S.Service.stands g.S.Service.rules g.S.Service.shown g.E.Broadcast.stands g.E.Broadcast.rules g.E.Broadcast.shown in
    arrives m p what c.loop.stage _ _ (ap (map (λ _. Go c.args.y)) (none_up c.loop.counter c.args.count c.loop-test.false)) (c.loop.invariant p what steps stands is)
