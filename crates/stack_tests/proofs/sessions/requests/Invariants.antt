use Rattle.std.specs.Prelude.{All}
use Rattle.outside.specs.MemoryLink.{IsShort}
use Rattle.stack_tests.proofs.sessions.requests.Given as goal

abbrev pub invariant-loop-request : goal.invariant-loop-request
invariant-loop-request l = All IsShort l.items.items
