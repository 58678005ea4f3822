use Rattle.std.proofs.Common.{◌≡◌, ◌++◌, take}
use Rattle.ritas_core.specs.Order.{own_items}
use Rattle.ritas_core.proofs.send.keep_own.Given as goal

abbrev pub invariant-loop-m : goal.invariant-loop-m
invariant-loop-m l = l.inbox.items ≡ l.fn.inbox.items ++ own_items l.fn.me (take l.m-index l.sent)
