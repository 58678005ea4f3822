use Rattle.std.proofs.Common.{◌≡◌, ◌==◌, ℕ, not, set, refl, sym, ◌∙◌, ap, subst, arith}
use Rattle.layer_api.specs.Runs.{Has}
use Rattle.schedule_replay.specs.Layers.{layers_by}
use Rattle.world_model.specs.declared.player.Player.{Player}
use Rattle.world_model.proofs.Members.{got_listed}
use Rattle.schedule_plan.specs.Plans.{players_of, linked_from}
use Rattle.schedule_plan.proofs.Planned.{is_planned, player_is}
use Rattle.schedule_stage.specs.Worlds.{world_in}
use Rattle.schedule_drive.specs.Pickers.{counts_in, waits_in}
use Rattle.schedule_drive.proofs.Lists.{set_itself}
use Rattle.schedule_drive.proofs.Senders.{sender_same}
use Rattle.schedule_drive.proofs.Refreshing.{sender_at, sender_there, sender_player, picker_updated}
use Rattle.schedule_drive.proofs.picker.Picker.refresh_turn.Goals as goal

pub returns-then-place-len : goal.returns-then-place-len
returns-then-place-len g c = λ p what steps old new passed y stands session is there update same.
    let m = layers_by g.S.Service.stands g.S.Service.rules g.S.Service.shown g.E.Broadcast.stands g.E.Broadcast.rules g.E.Broadcast.shown in
    let w = world_in m p in
    let picker = c.args.self.now in
    let s = c.index.result.now in
    let here = sender_at picker c.args.place s (omega (arith, c.if-place-len.true, c.len.ensures)) c.index.ensures in
    let own : s.player ≡ y = sender_player p old.waits old.counts passed picker is c.args.place y s there here in
    let listed : Has (players_of p) y = got_listed (players_of p) c.args.place y there in
    let sender = sender_same p (old.counts s.player) (counts_in w p steps s.player) passed s
    (subst (λ (x : Player). (z : Player) → Has (linked_from p x) z → old.counts x z ≡ counts_in w p steps x z) (sym own) same) (is.senders c.args.place s here) in
    let many = c.waiting-waits.ensures p what steps stands (player_is w p (is_planned g.S.Service.rules g.E.Broadcast.rules p session) s.player (subst (Has (players_of p)) (sym own) listed)) in
    let flag : not (c.waiting-waits.result == 0) ≡ waits_in w p steps y = ap (λ (k : ℕ). not (k == 0)) many ∙ ap (waits_in w p steps) own in
    picker_updated w p steps old new passed picker _ is c.args.place y s s there here update (sym (set_itself picker.senders.items c.args.place s here))
    (c.set.ensures ∙ ap (set picker.turns c.args.place) flag) refl sender

pub returns-else-place-len : goal.returns-else-place-len
returns-else-place-len g c = λ p what steps old new passed y stands session is there update same.
    let below = sender_there p old.waits old.counts passed c.args.self.now is c.args.place y there in
    absurd (omega (arith, below, c.if-place-len.false, c.len.ensures))
