use Rattle.std.proofs.Common.{[], map, refl, ◌∙◌, ap, subst}
use Rattle.std.specs.List.{range_with_len}
use Rattle.schedule_file.specs.declared.header.Header.{Header}
use Rattle.schedule_replay.specs.Layers.{dealt_to, layers_by, setting_by}
use Rattle.world_model.specs.FaceWorlds.{faces_world}
use Rattle.world_model.specs.Stands.{WorldStands}
use Rattle.world_model.specs.World.{Setting}
use Rattle.schedule_stage.proofs.faces.Faces.new.Goals as goal

pub returns : goal.returns
returns g c =
    let m = layers_by g.S.Service.stands g.S.Service.rules g.S.Service.shown g.E.Broadcast.stands g.E.Broadcast.rules g.E.Broadcast.shown in
    let same = c.header_of-header.ensures in
    let faces_of : Header → Setting = λ h. faces_world (setting_by g.S.Service.rules g.E.Broadcast.rules h) in
    record {
      attack = refl;
      keys = c.in_ok-keys.ensures ∙ ap (λ (h : Header). map (dealt_to h) (range_with_len 0 h.p.n)) same;
      a = subst (λ (h : Header). WorldStands m c.in_ok-a.a (faces_of h) []) same c.in_ok-a.ensures;
      b = subst (λ (h : Header). WorldStands m c.in_ok-b.b (faces_of h) []) same c.in_ok-b.ensures;
    }
