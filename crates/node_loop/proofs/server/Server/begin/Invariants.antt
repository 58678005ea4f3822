use Rattle.std.proofs.Common.{drop}
use Rattle.node_loop.specs.Groups.{IsEmpty}
use Rattle.node_loop.specs.Meanings.{senses_of}
use Rattle.node_loop.specs.Servers.{Outset, IsSameServer, IsAtWork}
use Rattle.node_loop.proofs.server.Server.begin.Given as goal

abbrev pub invariant-loop-item : goal.invariant-loop-item
invariant-loop-item g l = record {
  same : IsSameServer l.initial.self l.self;
  empty : IsEmpty l.self.group.now;
  begins : (let t = senses_of g.S.Service g.E.Broadcast g.C.Coin g.L.Link g.K.Sink g.A.Archive in
      (o : Outset _) → IsAtWork t o l.initial.house l.initial.self l.first → IsAtWork t o l.house l.self (drop l.item-index l.first));
}
