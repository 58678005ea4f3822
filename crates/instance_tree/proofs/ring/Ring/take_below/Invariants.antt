use Rattle.std.proofs.Common.{◌≡◌}
use Rattle.instance_tree.proofs.Walk.{IsWalked}
use Rattle.instance_tree.proofs.ring.Ring.take_below.Given as goal

abbrev pub invariant-loop-step : goal.invariant-loop-step
invariant-loop-step l = record {
  walked : IsWalked l.fn.self l.self-inside.width l.initial.self-inside.low l.bound l._step l.self-inside.low l.self-inside.buckets.items;
  width : l.self-inside.width ≡ l.width;
}
