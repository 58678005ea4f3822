use Rattle.std.proofs.Common.{◌≡◌, ◌+◌, false, take, arith}
use Rattle.schedule_drive.specs.Choices.{open_in}
use Rattle.schedule_drive.proofs.Choosing.{take_open, take_shut}
use Rattle.schedule_drive.proofs.row.Row.nth.Goals as goal
use Rattle.schedule_drive.proofs.row.Row.nth.Goals.{then-flag+else-left-eq0, else-flag}

pub loop-place-preserved : goal.loop-place-preserved
loop-place-preserved c = elim c.if-flag.branch [
  | then-flag+else-left-eq0 w ↦
      let more = take_open c.deref-flag-items.result.now c.loop-place.place false (omega arith) w.if-flag.true in
      let sum : c.if-flag.left + open_in (take (c.loop-place.place + 1) c.deref-flag-items.result.now) ≡ c.args.number = omega (arith, more, w.if-left-eq0.false, w.left-is, c.loop-place.invariant) in
      sum
  | else-flag w ↦
      let more = take_shut c.deref-flag-items.result.now c.loop-place.place false (omega arith) w.if-flag.false in
      let sum : c.if-flag.left + open_in (take (c.loop-place.place + 1) c.deref-flag-items.result.now) ≡ c.args.number = omega (arith, more, w.left-is, c.loop-place.invariant) in
      sum
]
