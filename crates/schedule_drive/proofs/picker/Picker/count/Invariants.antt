use Rattle.std.proofs.Common.{◌≡◌, ◌+◌, ◌-◌, ◌^◌, map, take}
use Rattle.std.specs.Prelude.{min}
use Rattle.schedule_drive.specs.Choices.{open_in, open_all}
use Rattle.schedule_drive.proofs.picker.Picker.count.Given as goal

abbrev pub invariant-loop-sender : goal.invariant-loop-sender
invariant-loop-sender l = l.count ≡ min (2 ^ 64 - 1) (open_in l.self.turns + open_all (take l.sender-index (map (λ s. s.row) l.sender-items)))
