use Rattle.std.proofs.Common.{◌≡◌, ◌≤◌, ◌*◌, sum_by, take}
use Rattle.link_resume.specs.Lists.{bytes_in}
use Rattle.link_resume.proofs.resume.Resume.all_bytes.Given as goal

-- so far the bytes of the first lanes are counted
abbrev pub invariant-loop-lane : goal.invariant-loop-lane
invariant-loop-lane l =
    (l.bytes ≡ sum_by bytes_in (take l.lane-index l.self.lists)) × (l.bytes ≤ 18446744073709551615 * l.lane-index)
