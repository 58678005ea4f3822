use Rattle.node_loop.specs.Waiting.{Waiting}
use Rattle.node_loop.specs.WaitersStanding.{IsWaiting, listed_count}
use Rattle.node_loop.proofs.Indexing.{IsLeaving}
use Rattle.node_loop.proofs.waiting.Waiters.leave.Given as goal

abbrev pub invariant-loop-asked : goal.invariant-loop-asked
invariant-loop-asked l = (ws : Waiting) → IsWaiting l.initial.self ws → IsLeaving l.at l.conn l.self ws

abbrev pub decreases-loop-asked : goal.decreases-loop-asked
decreases-loop-asked l = listed_count l.self.index l.caller
