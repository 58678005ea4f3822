use Rattle.std.proofs.Common.{◌≡◌, ◌<◌, List, Some, length, refl, sym, ◌∙◌, ap, arith}
use Rattle.std.specs.List.{slice_get}
use Rattle.schedule_replay.specs.Layers.{layers_by}
use Rattle.world_model.specs.declared.player.Player.{Player}
use Rattle.schedule_plan.specs.Plans.{players_of}
use Rattle.schedule_stage.specs.Worlds.{world_in}
use Rattle.schedule_drive.specs.declared.sender.Sender.{Sender}
use Rattle.schedule_drive.proofs.Lists.{got_at, mapped_at}
use Rattle.schedule_drive.proofs.Refreshing.{partly_none, partly_next, partly_all}
use Rattle.schedule_drive.proofs.picker.Picker.refresh_all.Goals as goal

pub loop-place-init : goal.loop-place-init
loop-place-init g c = record {
  many = refl;
  part = λ p what steps old passed stands session is grown. partly_none _ p steps old passed c.args.self.now is grown;
}

pub loop-place-preserved : goal.loop-place-preserved
loop-place-preserved g c = record {
  many = c.refresh.ensures.many ∙ c.loop-place.invariant.many;
  part = λ p what steps old passed stands session is grown.
      let m = layers_by g.S.Service.stands g.S.Service.rules g.S.Service.shown g.E.Broadcast.stands g.E.Broadcast.rules g.E.Broadcast.shown in
      let part = c.loop-place.invariant.part p what steps old passed stands session is grown in
      let picker = c.loop-place.self in
      let at = c.loop-place.place in
      let below : at < length picker.senders.items = omega (arith, c.loop-place-test.true, c.loop-place.invariant.many, c.len-place-end.ensures) in
      let s = got_at picker.senders.items at below in
      let y = s.0.player in
      let there : slice_get (players_of p) at ≡ Some y = ap (λ (xs : List Player). slice_get xs at) (sym part.is.players) ∙ mapped_at (λ (s : Sender). s.player) picker.senders.items at s.0 s.1 in
      partly_next (world_in m p) p steps passed picker c.refresh.new.self at y part there
      (λ known next is_known update. c.refresh.ensures.picker p what steps known next passed y stands session is_known there update);
}

pub returns : goal.returns
returns g c = λ p what steps old passed stands session is grown.
    partly_all _ p steps passed c.loop-place.self c.loop-place.place (omega (arith, c.loop-place-test.false, c.loop-place.invariant.many, c.len-place-end.ensures))
    (c.loop-place.invariant.part p what steps old passed stands session is grown)
