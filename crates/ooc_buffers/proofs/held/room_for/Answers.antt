use Rattle.std.proofs.Common.{◌≡◌, ◌<◌, ◌+◌, ◌∙◌, ap, arith, length, rules, List}
use Rattle.std.proofs.lemmas.List.{take_all}
use Rattle.ooc_buffers.specs.Lists.{HeldItem, passing, released}
use Rattle.ooc_buffers.proofs.Peers.{count_more, right_at}
use Rattle.ooc_buffers.proofs.held.room_for.Goals as goal

pub loop-peer-preserved : goal.loop-peer-preserved
loop-peer-preserved g c = λ t right computes goes rights.
    let within : c.loop-peer.peer-index < length c.args.peers.now = omega arith in
    let sum : c.in_ok-room.room ≡ c.loop-peer.room + c.in_ok-count.field-0 = search rules in
    let here = ap (λ l. length (passing t l)) c.peer-item.is in
    let more = count_more t c.args.peers.now c.loop-peer.peer-index c.peer-item.result c.loop-peer.room within (c.loop-peer.invariant t right computes goes rights) in
    omega (arith, sum, here, more, c.in_ok-count.ensures t right computes goes (right_at right c.args.peers.now c.loop-peer.peer-index c.peer-item.result within c.peer-item.is rights))

pub returns : goal.returns
returns g c = λ t right computes goes rights.
    c.loop-peer.invariant t right computes goes rights
    ∙ ap (λ (l : List (List HeldItem)). length (released t l)) (take_all c.loop-peer.peer-index c.args.peers.now c.loop-peer-test.false)
