use Rattle.std.specs.Prelude.{All}
use Rattle.outside.specs.MemoryLink.{IsShort}
use Rattle.node_loop.specs.Served.{MayBegin}
use Rattle.stack_tests.proofs.nodes.crowd.Given as goal

abbrev pub invariant-loop-conn : goal.invariant-loop-conn
invariant-loop-conn l = All MayBegin l.items.items × All IsShort l.items.items
