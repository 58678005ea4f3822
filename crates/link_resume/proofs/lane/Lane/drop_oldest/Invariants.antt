use Rattle.std.proofs.Common.{◌≡◌, length}
use Rattle.std.specs.BTreeMap.{values}
use Rattle.link_resume.specs.Lanes.{IsPeerLane}
use Rattle.link_resume.specs.Lists.{room_within}
use Rattle.link_resume.proofs.lane.Lane.drop_oldest.Given as goal

abbrev pub invariant-loop-self : goal.invariant-loop-self
invariant-loop-self l = IsPeerLane l.self-inside.bytes l.self-inside.by_number l.self-inside.kept.entries
    × (room_within l.most l.size (values l.self-inside.kept) ≡ room_within l.most l.size (values l.initial.self-inside.kept))

abbrev pub decreases-loop-self : goal.decreases-loop-self
decreases-loop-self l = length l.self-inside.kept.entries
