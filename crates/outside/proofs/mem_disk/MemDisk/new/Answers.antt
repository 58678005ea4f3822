use Rattle.std.proofs.Common.{refl, arith}
use Rattle.outside.proofs.DiskSteps.{no_acts, fits_new, keeps_new}
use Rattle.outside.proofs.mem_disk.MemDisk.new.Goals as goal

pub invariant_of-result : goal.invariant_of-result
invariant_of-result c = (
  rw (c.in_ok-from_slice.ensures.items, c.in_ok-copied.ensures.items, c.in_ok-with_capacity.ensures.items, c.in_ok-with_capacity-2.ensures.items) (fits_new c.args.bytes.now c.args.room _ c.requires),
  rw (c.in_ok-from_slice.ensures.items, c.in_ok-copied-2.ensures.items, c.in_ok-with_capacity.ensures.items, c.in_ok-with_capacity-2.ensures.items, c.in_ok-with_capacity-3.ensures.items)
      (keeps_new c.args.bytes.now c.args.room c.requires),
  c.in_ok-copied.ensures.room,
  omega (arith, c.in_ok-with_capacity.ensures.exact),
  c.in_ok-copied-2.ensures.room,
  omega (arith, c.in_ok-with_capacity-2.ensures.exact),
  omega (arith, c.in_ok-with_capacity-3.ensures.exact),
)

pub returns : goal.returns
returns c = rw (c.in_ok-from_slice.ensures.items, c.in_ok-with_capacity.ensures.items, c.in_ok-with_capacity-2.ensures.items, no_acts, c.in_ok-new.ensures) refl
