use Rattle.std.proofs.Common.{◌≡◌, ◌+◌, ◌%◌, ◌<◌, ◌∷◌, ℕ, sym, ◌∙◌, ap, subst, arith}
use Rattle.std.proofs.lemmas.Nat.{mod_below}
use Rattle.world_model.specs.Players.{Step}
use Rattle.schedule_replay.specs.Layers.{layers_by}
use Rattle.schedule_plan.specs.Plans.{correct_of}
use Rattle.schedule_plan.proofs.Planned.{is_planned, some_correct}
use Rattle.schedule_stage.specs.Stage.{Reaches}
use Rattle.schedule_stage.specs.Worlds.{world_in}
use Rattle.schedule_drive.proofs.Giving.{first_is, copy_is}
use Rattle.schedule_drive.proofs.inputs.give_copy.Goals as goal

pub returns : goal.returns
returns g c = λ what steps stands.
    let m = layers_by g.S.Service.stands g.S.Service.rules g.S.Service.shown g.E.Broadcast.stands g.E.Broadcast.rules g.E.Broadcast.shown in
    let p = c.args.plan.now in
    let k = c.args.k in
    let at = c.turn_of-at in
    let planned = is_planned g.S.Service.rules g.E.Broadcast.rules p c.requires in
    let first : c.turn_of-client.result ≡ k % correct_of p = c.turn_of-client.ensures ∙ ap (λ (x : ℕ). x % correct_of p) (let same : k + 0 ≡ k = omega arith in same) in
    let below = mod_below (k + c.args.behind) (correct_of p) (some_correct p planned.session).0 in
    let player = first_is (world_in m p) p planned at.result (subst (λ (i : ℕ). i < correct_of p) (sym at.ensures) below) in
    subst (λ (s : Step). Reaches m p what c.give.new.self (s ∷ steps) c.give.result)
    (copy_is p k c.args.behind c.turn_of-client.result at.result c.in_ok-text.text first at.ensures c.in_ok-text.ensures.text) (c.give.ensures p what steps stands player)
