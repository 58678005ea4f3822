use Rattle.std.proofs.Common.{◌≡◌, ◌+◌, take}
use Rattle.schedule_drive.specs.Choices.{open_in}
use Rattle.schedule_drive.proofs.row.Row.nth.Given as goal

abbrev pub invariant-loop-place : goal.invariant-loop-place
invariant-loop-place l = l.left + open_in (take l.place l.flag-items) ≡ l.fn.number
