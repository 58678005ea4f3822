use Rattle.std.proofs.Common.{◌≡◌, ◌++◌, map, take, ℕ}
use Rattle.node_loop.specs.Calls.{reply_each}
use Rattle.node_loop.specs.Standing.{reply_by}
use Rattle.node_loop.proofs.enter.reply_each.Given as goal

abbrev pub invariant-loop-conn : goal.invariant-loop-conn
invariant-loop-conn l =
    (at : ℕ) → map (reply_by at) l.replies.items ≡ map (reply_by at) l.initial.replies.items ++ reply_each at l.bytes (take l.conn-index l.conns)
