use Rattle.std.proofs.Common.{◌≡◌, [], replicate}
use Rattle.link_resume.proofs.resume.Resume.new.Given as goal

abbrev pub invariant-loop-peer : goal.invariant-loop-peer
invariant-loop-peer l = l.lanes.items ≡ replicate l._peer []
