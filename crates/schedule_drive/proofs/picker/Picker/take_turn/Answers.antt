use Rattle.std.proofs.Common.{◌≡◌, ◌∷◌, refl, sym, subst, arith}
use Rattle.schedule_replay.specs.Layers.{layers_by}
use Rattle.world_model.specs.declared.player.Player.{Player}
use Rattle.world_model.specs.Players.{Go, IsPlayer}
use Rattle.world_model.proofs.Members.{got_listed}
use Rattle.schedule_plan.specs.Plans.{cast_of, players_of}
use Rattle.schedule_plan.proofs.Planned.{is_planned, player_is}
use Rattle.schedule_stage.specs.Stage.{IsStage}
use Rattle.schedule_stage.specs.Worlds.{world_in, HaltsBy}
use Rattle.schedule_drive.specs.Pickers.{counts_in, waits_in}
use Rattle.schedule_drive.proofs.Refreshing.{sender_at, sender_there, sender_player}
use Rattle.schedule_drive.proofs.Taking.{goes_halt}
use Rattle.schedule_drive.proofs.picker.Picker.take_turn.Goals as goal

pub returns-in_err-go : goal.returns-in_err-go
returns-in_err-go g c = λ p what q y session stands there.
    let m = layers_by g.S.Service.stands g.S.Service.rules g.S.Service.shown g.E.Broadcast.stands g.E.Broadcast.rules g.E.Broadcast.shown in
    let w = world_in m p in
    let s = c.index.result.now in
    let here = sender_at c.args.self.now c.args.place s (omega (arith, c.if-place-len.true, c.len.ensures)) c.index.ensures in
    let own : s.player ≡ y = sender_player p (waits_in w p q.steps) (counts_in w p q.steps) q.passed c.args.self.now stands.picker_is c.args.place y s there here in
    let player = player_is w p (is_planned g.S.Service.rules g.E.Broadcast.rules p session) y (got_listed (players_of p) c.args.place y there) in
    goes_halt m p what c.go.new.self _ _ c.from_residual.result c.in_err-go.field-0.0 c.from_residual.ensures.1
    (subst (λ (x : Player). HaltsBy w p (Go x ∷ q.steps) c.in_err-go.field-0.0) own
    (c.in_err-go.ensures p what q.steps stands.stage_is (subst (IsPlayer w (cast_of p.attack)) (sym own) player)))

pub returns-in_ok-go : goal.returns-in_ok-go
returns-in_ok-go g c = λ p what q y session stands there.
    let m = layers_by g.S.Service.stands g.S.Service.rules g.S.Service.shown g.E.Broadcast.stands g.E.Broadcast.rules g.E.Broadcast.shown in
    let w = world_in m p in
    let s = c.index.result.now in
    let here = sender_at c.args.self.now c.args.place s (omega (arith, c.if-place-len.true, c.len.ensures)) c.index.ensures in
    let own : s.player ≡ y = sender_player p (waits_in w p q.steps) (counts_in w p q.steps) q.passed c.args.self.now stands.picker_is c.args.place y s there here in
    let player = player_is w p (is_planned g.S.Service.rules g.E.Broadcast.rules p session) y (got_listed (players_of p) c.args.place y there) in
    let stage_is = subst (λ (x : Player). IsStage m p what c.go.new.self (Go x ∷ q.steps)) own
    (c.in_ok-go.ensures p what q.steps stands.stage_is (subst (IsPlayer w (cast_of p.attack)) (sym own) player)) in
    record {
      stage_is = stage_is;
      picker_is = c.refresh_after.ensures p what q.steps (Go y) q.passed y stage_is session (player, stands.steps_are) stands.picker_is there refl (c.frames-before.ensures p what q.steps stands.stage_is);
      steps_are = (player, stands.steps_are);
    }

pub returns-else-place-len : goal.returns-else-place-len
returns-else-place-len g c = λ p what q y session stands there.
    let m = layers_by g.S.Service.stands g.S.Service.rules g.S.Service.shown g.E.Broadcast.stands g.E.Broadcast.rules g.E.Broadcast.shown in
    let w = world_in m p in
    let below = sender_there p (waits_in w p q.steps) (counts_in w p q.steps) q.passed c.args.self.now stands.picker_is c.args.place y there in
    absurd (omega (arith, below, c.if-place-len.false, c.len.ensures))
