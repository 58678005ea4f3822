use Rattle.std.proofs.Common.{◌≡◌, ◌<◌, arith, length, map, sym, ◌∙◌, ap}
use Rattle.ooc_buffers.specs.Lists.{busy_peers, failing}
use Rattle.ooc_buffers.specs.Groups.{AreAllRight}
use Rattle.ooc_buffers.proofs.Peers.{forget_list, idle_remaining, right_next, all_mapped, all_kept}
use Rattle.ooc_buffers.proofs.held.Held.clear.Goals as goal

pub returns-then-self-eq0 : goal.returns-then-self-eq0
returns-then-self-eq0 g c = λ t right computes ends rights.
    sym (idle_remaining t c.args.self.now (sym (ap busy_peers c.self.view_is) ∙ (sym c.self.invariant ∙ c.if-self-eq0.true)))

pub loop-peer-preserved : goal.loop-peer-preserved
loop-peer-preserved g c = λ t right computes goes rights.
    let within : c.loop-peer.peer-index < length c.deref_mut-peer-items.result.now = omega arith in
    let before = c.loop-peer.invariant t right computes goes rights in
    let fine = right_next right (failing t) c.deref_mut-peer-items.result.now c.loop-peer.peer-items c.loop-peer.peer-index c.peer-item.result within c.peer-item.is before rights in
    forget_list t _ _ _ c.peer-item.result _ within c.peer-item.is (c.forget.ensures t right computes goes fine) before

pub returns : goal.returns
returns g c = λ t right computes goes rights.
    let here : c.deref_mut-peer-items.result.now ≡ c.args.self.now = c.deref_mut-peer-items.ensures.value ∙ c.self.view_is in
    let fine : AreAllRight right c.deref_mut-peer-items.result.now = rw here rights in
    let now : c.loop-peer.peer-items ≡ map (failing t) c.deref_mut-peer-items.result.now =
    all_mapped (failing t) c.loop-peer.peer-index c.deref_mut-peer-items.result.now c.loop-peer.peer-items (c.loop-peer.invariant t right computes goes fine) c.loop-peer-test.false in
    let many : length c.deref_mut-peer-items.result.now ≡ c.self.inside.peers.len = omega arith in
    all_kept (failing t) c.self.inside.peers.len c.deref_mut-peer-items.result.now c.loop-peer.peer-items _ now many
    ∙ ap (map (failing t)) here
