use Rattle.std.proofs.Common.{map}
use Rattle.node_loop.specs.Waiting.{Waiting}
use Rattle.node_loop.specs.Standing.{reply_by}
use Rattle.node_loop.specs.WaitersStanding.{IsWaiting}
use Rattle.node_loop.proofs.Rows.{Entered}
use Rattle.node_loop.proofs.enter.enter_rows.Given as goal

abbrev pub invariant-loop-position : goal.invariant-loop-position
invariant-loop-position l =
    (ws : Waiting) → IsWaiting l.initial.waiting ws → Entered l.at l.count l.log.rows l.position l.waiting (map (reply_by l.at) l.initial.replies.items) (map (reply_by l.at) l.replies.items) ws
