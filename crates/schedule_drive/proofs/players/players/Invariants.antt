use Rattle.std.proofs.Common.{◌≡◌}
use Rattle.std.specs.List.{flat_map}
use Rattle.ritas_base.specs.History.{replicas}
use Rattle.schedule_plan.specs.Plans.{players_at}
use Rattle.schedule_drive.proofs.players.players.Given as goal

abbrev pub invariant-loop-i : goal.invariant-loop-i
invariant-loop-i l = l.out.items ≡ flat_map (players_at l.plan) (replicas l.i)
