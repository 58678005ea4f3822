use Rattle.std.proofs.Common.{◌≡◌, ◌+◌, map, take}
use Rattle.schedule_drive.specs.Choices.{open_all}
use Rattle.schedule_drive.proofs.picker.Picker.choose_frame.Given as goal

abbrev pub invariant-loop-place : goal.invariant-loop-place
invariant-loop-place l = l.number ≡ open_all (take l.place (map (λ s. s.row) l.sender-items)) + l.left
