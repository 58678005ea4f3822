use Rattle.std.proofs.Common.{◌≡◌, ◌<◌, ◌≤◌, ℕ, refl, sym, ◌∙◌, ap, ap₂, subst, slice_set, arith}
use Rattle.layer_api.specs.Runs.{Has}
use Rattle.schedule_replay.specs.Layers.{layers_by}
use Rattle.world_model.specs.declared.player.Player.{Player}
use Rattle.schedule_plan.specs.Plans.{players_of}
use Rattle.schedule_plan.proofs.Planned.{is_planned}
use Rattle.schedule_stage.specs.Worlds.{world_in, count_made_for}
use Rattle.schedule_drive.specs.Pickers.{is_left, counts_in}
use Rattle.schedule_drive.specs.Lanes.{IsLane}
use Rattle.schedule_drive.proofs.Lists.{set_length}
use Rattle.schedule_drive.proofs.Senders.{part_none, part_next, part_all, link_at, link_there, are_apart}
use Rattle.schedule_drive.proofs.sender.Sender.refresh.Goals as goal

pub loop-at-init : goal.loop-at-init
loop-at-init g c = record {
  player = refl;
  many = refl;
  part = λ p what steps count passed stands session there is grown. part_none p count _ passed c.args.self.now is;
}

pub loop-at-preserved : goal.loop-at-preserved
loop-at-preserved g c =
    let s = c.loop-at.self in
    let at = c.loop-at.at in
    let link = c.index_mut-link.result.now in
    record {
      player = c.loop-at.invariant.player;
      many = set_length s.links.items at _ ∙ c.loop-at.invariant.many;
      part = λ p what steps count passed stands session there is grown.
          let m = layers_by g.S.Service.stands g.S.Service.rules g.S.Service.shown g.E.Broadcast.stands g.E.Broadcast.rules g.E.Broadcast.shown in
          let w = world_in m p in
          let x = s.player in
          let own = c.loop-at.invariant.player in
          let now : Player → ℕ = counts_in w p steps c.args.self.now.player in
          let part = c.loop-at.invariant.part p what steps count passed stands session there is grown in
          let here = link_at s at link (omega (arith, c.loop-at-test.true, c.loop-at.invariant.many, c.len-at-end.ensures)) c.index_mut-link.ensures.value in
          let apart = are_apart w p (is_planned g.S.Service.rules g.E.Broadcast.rules p session) x link.player
          (subst (Has (players_of p)) (sym own) there) (link_there p s at link part.linked here) in
          let number = c.number_of.ensures p.attack in
          let made : c.made.result ≡ now link.player =
          c.made.ensures p what steps stands apart.from (subst (λ (j : ℕ). j < p.p.n) (sym number) apart.below) (λ same. apart.differ (same ∙ number))
          ∙ ap₂ (λ (v : Player) (j : ℕ). count_made_for w p steps v j) own number in
          let lane = c.grow.ensures (count link.player) (is_left passed x link.player) (part.rest at link (omega arith) here).lane (subst (λ (k : ℕ). count link.player ≤ k) (sym made) (grown link.player)) in
          let lane_now = subst (λ (k : ℕ). IsLane c.grow.new.self k (is_left passed x link.player)) made lane in
          let flag = c.is_open-is_open.ensures (now link.player) (is_left passed x link.player) lane_now in
          part_next p count now passed s _ at link _ part here refl refl refl refl lane_now (c.set.ensures ∙ ap (λ b. slice_set s.row at b) flag);
    }

pub returns-clause-sender : goal.returns-clause-sender
returns-clause-sender g c = λ p what steps count passed stands session there is grown.
    let m = layers_by g.S.Service.stands g.S.Service.rules g.S.Service.shown g.E.Broadcast.stands g.E.Broadcast.rules g.E.Broadcast.shown in
    part_all p count (counts_in (world_in m p) p steps c.args.self.now.player) passed c.loop-at.self c.loop-at.at
    (omega (arith, c.loop-at-test.false, c.loop-at.invariant.many, c.len-at-end.ensures)) (c.loop-at.invariant.part p what steps count passed stands session there is grown)
