use Rattle.schedule_replay.proofs.played.Played.new.Goals as goal
use Rattle.world_model.specs.Counts.{counts_of}

pub returns-clause-stands : goal.returns-clause-stands
unfolding counts_of
returns-clause-stands g c = record {
  header = c.requires.heading;
  world = c.in_ok-world.ensures;
  counts = c.new.ensures;
}
