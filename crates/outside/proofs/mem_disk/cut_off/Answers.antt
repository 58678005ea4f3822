use Rattle.std.proofs.Common.{arith, ◌%◌, ap, List, ℕ, length, ◌≡◌}
use Rattle.outside.specs.MemoryDisk.{ranges_of}
use Rattle.outside.specs.Stops.{fills}
use Rattle.outside.proofs.StopsLaws.{fills_long}
use Rattle.outside.proofs.mem_disk.cut_off.Goals as goal

pub ended-end-requires : goal.ended-end-requires
ended-end-requires c =
    let file = fills (c.args.pick % 256) (ranges_of c.args.spans.now) c.args.synced.now in
    let long : length c.in_ok-file.file.items ≡ length file = ap (λ (x : List ℕ). length x) c.in_ok-file.ensures.value in
    omega (arith, long, c.len.ensures, fills_long (c.args.pick % 256) (ranges_of c.args.spans.now) c.args.synced.now)
