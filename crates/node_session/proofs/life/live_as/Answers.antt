use Rattle.std.proofs.Common.{refl, ap, ◌∙◌, reverse}
use Rattle.schedule_replay.specs.Layers.{setting_by}
use Rattle.world_model.specs.Stands.{members}
use Rattle.node_loop.proofs.AfterPast.{kept_past}
use Rattle.node_session.proofs.Lives.{is_life, life_fails, lives}
use Rattle.node_session.proofs.Sessions.{is_world, sound_base}
use Rattle.node_session.proofs.life.live_as.Goals as goal

pub returns-in-Err-clause-served : goal.returns-in-Err-clause-served
returns-in-Err-clause-served g c = λ head stands.
    let session = c.args.life.now.session in
    let h = session.header in
    let service = g.S.Service.rules in
    let other = g.E.Broadcast.rules in
    let w = setting_by service other h in
    let kind = is_world service other h c.requires.servable.heading c.requires.serves (g.met.E.Broadcast.form ∙ c.requires.form) in
    let events = c.args.recovered.items in
    life_fails session (reverse events) w _ _ _
    (λ groups are queries. is_life h w c.requires.servable.heading service other kind (sound_base w refl) refl (λ i right. right) c.acts_are_deeds.ensures.deeds c.acts_are_deeds.ensures.behind c.frames_are_made.ensures.made
    c.resends_are_open.ensures.unacknowledged c.acks_are_earned.ensures.earned c.events_fit.ensures.fit c.replies_are_true.ensures.replies c.pieces_are_of_logs.ensures.pieces c.agreement.ensures
    c.recalled_are_sent.ensures.sent c.recalled_are_sent.ensures.again session.limits c.args.life.now.journal.me events c.requires.member c.requires.own groups are queries)
    _ _ c.in-Err.end c.in-Err.ensures.opens (refl, kept_past head (reverse events) c.args.life.now.journal g.D.Disk.tells (g.D.Disk.told c.args.disk.now) (g.D.Disk.faults c.args.disk.now) stands)

pub returns-clause-served : goal.returns-clause-served
returns-clause-served g c = λ head stands.
    let session = c.args.life.now.session in
    let h = session.header in
    let service = g.S.Service.rules in
    let other = g.E.Broadcast.rules in
    let w = setting_by service other h in
    let here = c.in_ok-replicas.ensures.here in
    let events = c.args.recovered.items in
    let run = c.serve_recovered-end.ensures.serves head w (members w) here c.requires.member stands in
    lives session (reverse events) w _ _ _
    (λ groups are queries. is_life h w c.requires.servable.heading service other here.kind (sound_base w refl) refl (λ i right. right) c.acts_are_deeds.ensures.deeds c.acts_are_deeds.ensures.behind c.frames_are_made.ensures.made
    c.resends_are_open.ensures.unacknowledged c.acks_are_earned.ensures.earned c.events_fit.ensures.fit c.replies_are_true.ensures.replies c.pieces_are_of_logs.ensures.pieces c.agreement.ensures
    c.recalled_are_sent.ensures.sent c.recalled_are_sent.ensures.again session.limits c.args.life.now.journal.me events c.requires.member c.requires.own groups are queries)
    _ (members w) c.serve_recovered-end.new.replicas.items _ _ _ _ c.in-Ok.ensures.opens c.serve_recovered-end.result c.close.result run refl
    refl c.close.ensures.reason
    (λ fault.
    let kept = c.close.ensures.fault fault in
    (kept.0, ap (λ o. record { taken = g.K.Sink.taken o; tape_faults = g.K.Sink.faults o; told = g.L.Link.told c.serve_recovered-end.new.link; link_faults = g.L.Link.faults c.serve_recovered-end.new.link }) kept.1))
