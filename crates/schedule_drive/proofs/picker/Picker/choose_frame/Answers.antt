use Rattle.std.proofs.Common.{map, refl, arith}
use Rattle.std.proofs.lemmas.Option.{slice_get_read}
use Rattle.schedule_drive.proofs.Lists.{mapped_at}
use Rattle.schedule_drive.proofs.Choosing.{take_all_open}
use Rattle.schedule_drive.proofs.picker.Picker.choose_frame.Goals as goal

pub loop-place-preserved : goal.loop-place-preserved
loop-place-preserved c =
    let s = c.sender-item.result in
    let items = c.deref-sender-items.result.now in
    let at = slice_get_read items _ c.loop-place.place s refl c.loop-place-test.true c.sender-item.is in
    let more = take_all_open (map (λ s. s.row) items) c.loop-place.place s.row (mapped_at (λ s. s.row) items c.loop-place.place s at) in
    let one = c.count-left.ensures in
    let none = c.in-None.ensures in
    omega (arith, more, one, none, c.loop-place.invariant)
