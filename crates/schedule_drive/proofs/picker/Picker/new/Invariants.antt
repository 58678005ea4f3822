use Rattle.schedule_drive.proofs.Refreshing.{IsFirst}
use Rattle.schedule_drive.proofs.picker.Picker.new.Given as goal

abbrev pub invariant-loop-player : goal.invariant-loop-player
invariant-loop-player l = IsFirst l.plan l.player-index l.senders.items l.turns
