-- The laws of the core and of inputs, with those of the layers and of a world.
use Rattle.std.proofs.Common.{ℕ, ◌<◌}
use Rattle.ritas_core.specs.Rules.{Rules}
use Rattle.ritas_core.specs.Laws.{LayerLaws}
use Rattle.world_model.specs.World.{Setting, rules_at}
use Rattle.world_model.specs.OneValueEach.{IsSound}
use Rattle.world_model.specs.CoreLaws.{CoreLaws}

-- with those of one replica's layers
pub record IsFounded (r : Rules) : Type 0 where
  pub layers : LayerLaws r
  pub core : CoreLaws

-- and with what a world keeps to
pub record IsSoundOver (w : Setting) : Type 0 where
  pub world : IsSound w
  pub core : CoreLaws

-- the laws of the layers of each replica, whether it is correct or not
pub founded_at : (w : Setting) → IsSoundOver w → (i : ℕ) → i < w.numbers.n → IsFounded (rules_at w i)
founded_at w sound i below = record {
  layers = record {
    casts = sound.world.casts;
    words = sound.world.words;
    session = sound.world.session;
    me = below;
    serves = sound.world.serves;
    kinds = sound.world.kinds i;
  };
  core = sound.core;
}
