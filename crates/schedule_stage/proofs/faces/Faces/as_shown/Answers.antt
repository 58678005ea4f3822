use Rattle.std.proofs.Common.{◌≡◌, ◌/◌, Some, List, ℕ, sym, ◌∙◌, ap, subst}
use Rattle.std.specs.Prelude.{IfOk}
use Rattle.std.specs.List.{slice_get}
use Rattle.keyed_channel.specs.KeyRow.{KeyRow}
use Rattle.schedule_replay.specs.Layers.{layers_by}
use Rattle.schedule_plan.specs.Plans.{header_of}
use Rattle.schedule_stage.specs.Worlds.{world_in}
use Rattle.schedule_stage.proofs.Letters.{key_at}
use Rattle.schedule_stage.proofs.Showing.{plain_is, flipped_is}
use Rattle.schedule_stage.proofs.faces.Faces.as_shown.Goals as goal

pub returns-in-Flip : goal.returns-in-Flip
returns-in-Flip g c = λ p steps is below to_below shown shows.
    let m = layers_by g.S.Service.stands g.S.Service.rules g.S.Service.shown g.E.Broadcast.stands g.E.Broadcast.rules g.E.Broadcast.shown in
    let w = world_in m p in
    let i = c.args.a / 2 in
    let there : slice_get c.args.self.now.keys.items i ≡ Some (w.keys i) = ap (λ (keys : List KeyRow). slice_get keys i) is.keys ∙ key_at (header_of p) i below in
    let one = flipped_is w p.attack i c.args.to c.args.number c.args.made.now shown (sym is.attack ∙ c.in-Flip.is) c.ranges.number.fits shows in
    subst (λ (x : List ℕ). IfOk c.flipped.result (λ frame. frame ≡ x)) (sym one.shown_is) (c.flipped.ensures (w.keys i) one.body there to_below one.made_is)

pub returns-in_default : goal.returns-in_default
returns-in_default g c = λ p steps is below to_below shown shows.
    let m = layers_by g.S.Service.stands g.S.Service.rules g.S.Service.shown g.E.Broadcast.stands g.E.Broadcast.rules g.E.Broadcast.shown in
    let same = plain_is (world_in m p) p.attack (c.args.a / 2) c.args.to c.args.number c.args.made.now shown (λ flip. absurd (c.in_default.not-Flip (is.attack ∙ flip))) shows in
    subst (λ (x : List ℕ). IfOk c.from_slice.result (λ frame. frame ≡ x)) same c.from_slice.ensures
