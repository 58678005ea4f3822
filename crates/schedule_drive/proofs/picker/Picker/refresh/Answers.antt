use Rattle.std.proofs.Common.{◌≡◌, ◌≤◌, ◌==◌, ℕ, not, set, refl, sym, ◌∙◌, ap, subst, arith}
use Rattle.layer_api.specs.Runs.{Has}
use Rattle.schedule_replay.specs.Layers.{layers_by}
use Rattle.world_model.specs.declared.player.Player.{Player}
use Rattle.world_model.proofs.Members.{got_listed}
use Rattle.schedule_plan.specs.Plans.{players_of}
use Rattle.schedule_plan.proofs.Planned.{is_planned, player_is}
use Rattle.schedule_stage.specs.Worlds.{world_in}
use Rattle.schedule_drive.specs.Pickers.{counts_in, waits_in}
use Rattle.schedule_drive.proofs.Refreshing.{sender_at, sender_there, sender_player, picker_updated}
use Rattle.schedule_drive.proofs.picker.Picker.refresh.Goals as goal

pub returns-then-place-len-clause-picker : goal.returns-then-place-len-clause-picker
returns-then-place-len-clause-picker g c = λ p what steps old new passed y stands session is there update.
    let m = layers_by g.S.Service.stands g.S.Service.rules g.S.Service.shown g.E.Broadcast.stands g.E.Broadcast.rules g.E.Broadcast.shown in
    let w = world_in m p in
    let picker = c.args.self.now in
    let s = c.index_mut-sender.result.now in
    let here = sender_at picker c.args.place s (omega (arith, c.if-place-len.true, c.len.ensures)) c.index_mut-sender.ensures.value in
    let own : s.player ≡ y = sender_player p old.waits old.counts passed picker is c.args.place y s there here in
    let listed : Has (players_of p) y = got_listed (players_of p) c.args.place y there in
    let listed_s : Has (players_of p) s.player = subst (Has (players_of p)) (sym own) listed in
    let grown : (z : Player) → old.counts s.player z ≤ counts_in w p steps s.player z =
    λ z. subst (λ (x : Player). old.counts x z ≤ counts_in w p steps x z) (sym own) (update.grown z) in
    let sender = c.refresh.ensures.sender p what steps (old.counts s.player) passed stands session listed_s (is.senders c.args.place s here) grown in
    let now : c.refresh.new.self.player ≡ y = c.refresh.ensures.player ∙ own in
    let planned = is_planned g.S.Service.rules g.E.Broadcast.rules p session in
    let many = c.waiting-waits.ensures p what steps stands (player_is w p planned c.refresh.new.self.player (subst (Has (players_of p)) (sym now) listed)) in
    let flag : not (c.waiting-waits.result == 0) ≡ waits_in w p steps y = ap (λ (k : ℕ). not (k == 0)) many ∙ ap (waits_in w p steps) now in
    picker_updated w p steps old new passed picker _ is c.args.place y s c.refresh.new.self there here update refl (c.set.ensures ∙ ap (set picker.turns c.args.place) flag) c.refresh.ensures.player sender

pub returns-else-place-len-clause-picker : goal.returns-else-place-len-clause-picker
returns-else-place-len-clause-picker g c = λ p what steps old new passed y stands session is there update.
    let below = sender_there p old.waits old.counts passed c.args.self.now is c.args.place y there in
    absurd (omega (arith, below, c.if-place-len.false, c.len.ensures))
