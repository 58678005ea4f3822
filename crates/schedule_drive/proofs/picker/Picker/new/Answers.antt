use Rattle.std.proofs.Common.{◌≡◌, ◌<◌, ◌+◌, ◌∷◌, ◌++◌, [], Bool, false, List, length, get_or, sym, ◌∙◌, ap, subst, arith}
use Rattle.std.proofs.lemmas.List.{get_or_default}
use Rattle.world_model.specs.declared.player.Player.{Player}
use Rattle.world_model.specs.declared.player.Player.TheVariants.{Correct}
use Rattle.schedule_plan.specs.Plans.{players_of}
use Rattle.schedule_drive.specs.declared.sender.Sender.{Sender}
use Rattle.schedule_drive.proofs.Refreshing.{IsFirst, first_none, first_next, first_all}
use Rattle.schedule_drive.proofs.picker.Picker.new.Goals as goal

pub loop-player-init : goal.loop-player-init
loop-player-init c =
    subst (λ (bs : List Bool). IsFirst c.args.plan.now 0 c.new-senders.result.items bs) (sym c.new-turns.ensures)
    (subst (λ (ss : List Sender). IsFirst c.args.plan.now 0 ss []) (sym c.new-senders.ensures.items) (first_none c.args.plan.now))

pub loop-player-preserved : goal.loop-player-preserved
loop-player-preserved c =
    let p = c.args.plan.now in
    let at = c.loop-player.player-index in
    let items = c.deref-player-items.result.now in
    let y = get_or items at (Correct 0) in
    let are : items ≡ players_of p = c.deref-player-items.ensures.value ∙ c.in_ok-players.ensures in
    let below : at < length (players_of p) = (let many = ap length are in omega (arith, many, c.loop-player-test.true)) in
    let read : y ≡ get_or (players_of p) at y = ap (λ (ys : List Player). get_or ys at (Correct 0)) are ∙ get_or_default (players_of p) at (Correct 0) y below in
    let s = c.in_ok-new.field-0 in
    let next : IsFirst p (at + 1) (c.loop-player.senders.items ++ s ∷ []) (c.loop-player.turns ++ false ∷ []) =
    first_next p at c.loop-player.senders.items c.loop-player.turns y s c.loop-player.invariant below read c.in_ok-new.ensures.player
    (c.in_ok-new.ensures.sender (c.as_slice.ensures.value ∙ c.in_ok-players.ensures)) in
    subst (λ (bs : List Bool). IsFirst p (at + 1) c.push.new.self.items bs) (sym c.in_ok-push-2.ensures)
    (subst (λ (ss : List Sender). IsFirst p (at + 1) ss (c.loop-player.turns ++ false ∷ [])) (sym c.in_ok-push.ensures.items) next)

pub returns : goal.returns
returns c =
    let are = c.deref-player-items.ensures.value ∙ c.in_ok-players.ensures in
    first_all c.args.plan.now c.loop-player.player-index _ (let many = ap length are in omega (arith, many, c.loop-player-test.false)) c.loop-player.invariant
