use Rattle.std.proofs.Common.{[]}
use Rattle.node_loop.specs.Groups.{IsEmpty}
use Rattle.node_loop.specs.Meanings.{senses_of}
use Rattle.node_loop.specs.Servers.{Outset, IsSameServer, IsAtWork}
use Rattle.node_loop.proofs.server.Server.go_on.Given as goal

abbrev pub invariant-loop : goal.invariant-loop
invariant-loop g l = record {
  next : (goal.iterator-loop g).can_next l.iterator';
  finite : (goal.iterator-loop g).is_finite l.iterator';
  same : IsSameServer l.initial.self l.self;
  empty : IsEmpty l.self.group.now;
  serves : (let t = senses_of g.S.Service g.E.Broadcast g.C.Coin g.L.Link g.K.Sink g.A.Archive in
      (o : Outset _) → IsAtWork t o l.initial.house l.initial.self [] → IsAtWork t o l.house l.self []);
}
