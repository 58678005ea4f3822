use Rattle.std.proofs.Common.{refl}
use Rattle.ritas_base.specs.Members.{has_member}
use Rattle.schedule_replay.proofs.Deals.{member_within}
use Rattle.schedule_replay.proofs.first.first_world.Goals as goal

pub world_with-requires-clause-within : goal.world_with-requires-clause-within
world_with-requires-clause-within g c = member_within c.args.header.now c.requires.heading

pub returns : goal.returns
returns g c = c.world_with.ensures (has_member c.args.header.now.correct) (λ i. refl)
