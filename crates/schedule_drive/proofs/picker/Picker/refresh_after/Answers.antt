use Rattle.std.proofs.Common.{◌≡◌, ◌∷◌, refl, sym, ◌∙◌}
use Rattle.std.proofs.lemmas.Slice.Eq.{bytes_eq-Decides}
use Rattle.schedule_replay.specs.Layers.{layers_by}
use Rattle.world_model.proofs.Members.{got_listed}
use Rattle.schedule_plan.specs.Plans.{players_of}
use Rattle.schedule_plan.proofs.Planned.{is_planned}
use Rattle.schedule_stage.specs.Worlds.{world_in, all_frames}
use Rattle.schedule_drive.proofs.Senders.{are_apart}
use Rattle.schedule_drive.proofs.Refreshing.{known_in, step_updates}
use Rattle.schedule_drive.proofs.Quietly.{quiet_counts}
use Rattle.schedule_drive.proofs.picker.Picker.refresh_after.Goals as goal

pub returns-then-eq : goal.returns-then-eq
returns-then-eq g c = λ p what steps step passed y stands session are is there comes many.
    let m = layers_by g.S.Service.stands g.S.Service.rules g.S.Service.shown g.E.Broadcast.stands g.E.Broadcast.rules g.E.Broadcast.shown in
    let w = world_in m p in
    let equal : c.frames.result ≡ c.args.before = (bytes_eq-Decides c.frames.result c.args.before).0 (sym c.eq.ensures ∙ c.if-eq.true) in
    let same : all_frames w p (step ∷ steps) ≡ all_frames w p steps = sym (c.frames.ensures p what (step ∷ steps) stands) ∙ equal ∙ many in
    c.refresh_turn.ensures p what (step ∷ steps) (known_in w p steps) (known_in w p (step ∷ steps)) passed y stands session is there (step_updates w p steps step y comes)
    (λ z linked.
    let apart = are_apart w p (is_planned g.S.Service.rules g.E.Broadcast.rules p session) y z (got_listed (players_of p) c.args.place y there) linked in
    sym (quiet_counts c.quiet.ensures.none c.faces_are_replicas.ensures.states w p (λ i. (refl, refl)) steps step y z comes are same apart.below apart.differ))

pub returns-else-eq : goal.returns-else-eq
returns-else-eq g c = λ p what steps step passed y stands session are is there comes many.
    let m = layers_by g.S.Service.stands g.S.Service.rules g.S.Service.shown g.E.Broadcast.stands g.E.Broadcast.rules g.E.Broadcast.shown in
    let w = world_in m p in
    c.refresh.ensures.picker p what (step ∷ steps) (known_in w p steps) (known_in w p (step ∷ steps)) passed y stands session is there (step_updates w p steps step y comes)
