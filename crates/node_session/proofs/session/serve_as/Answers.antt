use Rattle.std.proofs.Common.{[], refl, ap, ◌∙◌}
use Rattle.schedule_replay.specs.Layers.{setting_by}
use Rattle.world_model.specs.Stands.{members}
use Rattle.node_session.proofs.Sessions.{is_world, sound_base, is_session, fails, serves}
use Rattle.node_session.proofs.session.serve_as.Goals as goal

pub returns-in-Err-clause-served : goal.returns-in-Err-clause-served
returns-in-Err-clause-served g c =
    let session = c.args.session.now in
    let h = session.header in
    let service = g.S.Service.rules in
    let other = g.E.Broadcast.rules in
    let w = setting_by service other h in
    let kind = is_world service other h c.requires.servable.heading c.requires.serves (g.met.E.Broadcast.form ∙ c.requires.form) in
    fails session c.args.first.now.items w _
    (λ groups are queries. is_session h w c.requires.servable.heading service other kind (sound_base w refl) refl (λ i right. right) c.acts_are_deeds.ensures.deeds c.acts_are_deeds.ensures.behind c.frames_are_made.ensures.made c.resends_are_open.ensures.unacknowledged c.acks_are_earned.ensures.earned c.events_fit.ensures.fit c.replies_are_true.ensures.replies c.pieces_are_of_logs.ensures.pieces c.agreement.ensures
    session.limits c.args.first.now.items groups c.requires.servable.firsts are queries)
    _ _ c.in-Err.end c.in-Err.ensures.opens

pub returns-clause-served : goal.returns-clause-served
returns-clause-served g c =
    let session = c.args.session.now in
    let h = session.header in
    let service = g.S.Service.rules in
    let other = g.E.Broadcast.rules in
    let w = setting_by service other h in
    let here = c.in_ok-replicas.ensures.here in
    let run = c.serve-end.ensures.serves w [] (members w) here in
    serves session c.args.first.now.items w _
    (λ groups are queries. is_session h w c.requires.servable.heading service other here.kind (sound_base w refl) refl (λ i right. right) c.acts_are_deeds.ensures.deeds c.acts_are_deeds.ensures.behind c.frames_are_made.ensures.made c.resends_are_open.ensures.unacknowledged c.acks_are_earned.ensures.earned c.events_fit.ensures.fit c.replies_are_true.ensures.replies c.pieces_are_of_logs.ensures.pieces c.agreement.ensures
    session.limits c.args.first.now.items groups c.requires.servable.firsts are queries)
    _ (members w) c.serve-end.new.replicas.items _ _ _ _ c.in-Ok.ensures.opens c.serve-end.result c.close.result run refl
    refl c.close.ensures.reason
    (λ fault.
    let kept = c.close.ensures.fault fault in
    (kept.0, ap (λ o. record { taken = g.K.Sink.taken o; tape_faults = g.K.Sink.faults o; told = g.L.Link.told c.serve-end.new.link; link_faults = g.L.Link.faults c.serve-end.new.link }) kept.1))
