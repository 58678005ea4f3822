use Rattle.std.proofs.Common.{◌≡◌, map}
use Rattle.ritas_base.specs.History.{replicas}
use Rattle.world_model.specs.World.{Setting}
use Rattle.world_model.specs.Stands.{SeatsStand}
use Rattle.world_model.specs.Met.{pair_of}
use Rattle.world_model.specs.Hashed.{AreMet}
use Rattle.world_model.proofs.met.meet.Given as goal

-- the entries so far
abbrev pub invariant-loop-other : goal.invariant-loop-other
invariant-loop-other l =
    (w : Setting) → SeatsStand w l.fn.seats → AreMet w l.fn.sent.table → l.fn.keys.n ≡ w.numbers.n
    → l.pairs.items ≡ map (pair_of l.fn.keys l.fn.slot l.fn.digest) (replicas l.other)
