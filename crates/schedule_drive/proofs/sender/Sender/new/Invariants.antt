use Rattle.std.proofs.Common.{◌≡◌}
use Rattle.schedule_plan.specs.Plans.{players_of}
use Rattle.schedule_drive.proofs.Senders.{IsNew}
use Rattle.schedule_drive.proofs.sender.Sender.new.Given as goal

abbrev pub invariant-loop-place : goal.invariant-loop-place
invariant-loop-place l = l.players ≡ players_of l.plan → IsNew l.plan l.player l.place l.links.items l.row
