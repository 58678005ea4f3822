-- The layers that a core stands for keep their laws.
use Rattle.std.proofs.Common.{subst}
use Rattle.layer_api.specs.Service.{WordLaws}
use Rattle.layer_api.specs.OneValue.{ValueLaws}
use Rattle.ritas_core.specs.declared.kernel.Core.{Core}
use Rattle.ritas_core.specs.Rules.{Rules}
use Rattle.ritas_core.specs.RulesLaws.{laws_at}
use Rattle.ritas_core.specs.Machine.{CoreState}
use Rattle.ritas_core.specs.Stands.{Meaning, rules_of, CoreStands}
use Rattle.ritas_core.specs.Laws.{LayerLaws}

-- by the laws of its service and of its other broadcast
pub layer_laws : {S E C T : Type 0} (m : Meaning S E C T) → ValueLaws m.cast → WordLaws m.service → (core : Core S E C T) (r : Rules) (st : CoreState) →
    CoreStands m core r st → LayerLaws r
layer_laws m values words core r st stands = subst (λ (q : Rules). CoreStands m core q st → LayerLaws q) stands.rules here stands
  where
    here : CoreStands m core (rules_of m core.layers) st → LayerLaws (rules_of m core.layers)
    here stands = record {
      casts = laws_at core.layers.mode m.cast values;
      words = words;
      session = stands.session;
      me = stands.me;
      serves = stands.serves;
      kinds = stands.kinds;
    }
