use Rattle.std.proofs.Common.{[]}
use Rattle.node_loop.specs.Meanings.{senses_of}
use Rattle.node_loop.specs.Servers.{Outset, IsSameServer, HasGathered}
use Rattle.node_loop.proofs.server.Server.gather_more.Given as goal

abbrev pub invariant-loop : goal.invariant-loop
invariant-loop g l = record {
  same : IsSameServer l.initial.self l.self;
  gathers : (let t = senses_of g.S.Service g.E.Broadcast g.C.Coin g.L.Link g.K.Sink g.A.Archive in
      (o : Outset _) → HasGathered t o l.initial.house l.initial.self [] 1 → HasGathered t o l.house l.self [] l.counter);
}
