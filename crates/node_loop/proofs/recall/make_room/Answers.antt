use Rattle.std.proofs.Common.{◌<◌, arith}
use Rattle.node_loop.proofs.Recalling.{room_made}
use Rattle.node_loop.proofs.recall.make_room.Goals as goal

pub returns-then-from-peers : goal.returns-then-from-peers
returns-then-from-peers c = record {
  room = λ v n i p kept.
      let here : c.args.peer < n = omega (arith, c.if-from-peers.true, c.peers.ensures, c.from.ensures, kept.many) in
      room_made v n i c.args.peer c.args.size c.args.resume.now c.make_room.new.self p kept here c.make_room.ensures;
}
