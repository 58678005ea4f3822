use Rattle.std.proofs.Common.{map, refl, arith}
use Rattle.std.proofs.lemmas.Option.{slice_get_read}
use Rattle.schedule_drive.proofs.Lists.{mapped_at}
use Rattle.schedule_drive.proofs.Choosing.{take_all_open}
use Rattle.schedule_drive.proofs.picker.Picker.count.Goals as goal

pub loop-sender-preserved : goal.loop-sender-preserved
loop-sender-preserved c =
    let s = c.sender-item.result in
    let items = c.deref-sender-items.result.now in
    let at = slice_get_read items _ c.loop-sender.sender-index s refl c.loop-sender-test.true c.sender-item.is in
    let more = take_all_open (map (λ s. s.row) items) c.loop-sender.sender-index s.row (mapped_at (λ s. s.row) items c.loop-sender.sender-index s at) in
    let one = c.count.ensures in
    let sum = c.saturating_add-count.ensures in
    omega (arith, more, one, sum, c.loop-sender.invariant)
