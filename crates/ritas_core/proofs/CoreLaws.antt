-- The laws of a core's layers, from those of their traits.
use Rattle.std.proofs.Common.{sym, ◌∙◌, ap, subst}
use Rattle.layer_api.specs.Broadcast.{BroadcastRules}
use Rattle.layer_api.specs.Service.{ServiceRules, WordLaws}
use Rattle.layer_api.specs.OneValue.{ValueLaws}
use Rattle.ritas_core.specs.Rules.{Rules}
use Rattle.ritas_core.specs.RulesLaws.{laws_at}
use Rattle.ritas_core.specs.Laws.{LayerLaws}
use Rattle.ritas_core.specs.CoreOf.{IsCoreOf}

pub core_laws : (service : ServiceRules) (other : BroadcastRules) (r : Rules) → IsCoreOf service other r → WordLaws service → ValueLaws other → LayerLaws r
core_laws service other r is words values = record {
  casts = λ s. subst (λ (b : BroadcastRules). ValueLaws b) (sym (is.casts s)) (laws_at r.mode other values s);
  words = subst (λ (x : ServiceRules). WordLaws x) (sym is.words) words;
  session = is.session;
  me = is.me;
  serves = ap (λ (x : ServiceRules). x.serves r.mode.root) is.words ∙ is.serves;
  kinds = is.kinds;
}
