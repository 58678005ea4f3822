-- Every world of one service and one broadcast keeps to what the law of agreement rests on.
use Rattle.std.proofs.Common.{◌≡◌, ℕ, ◌<◌, true, sym, ◌∙◌, ap, subst}
use Rattle.layer_api.specs.Broadcast.{BroadcastRules}
use Rattle.layer_api.specs.EntryLaws.{EntryLaws}
use Rattle.layer_api.specs.OneValue.{OneValue, ValueLaws}
use Rattle.layer_api.specs.OneLog.{OneLog}
use Rattle.layer_api.specs.Service.{ServiceRules, WordLaws}
use Rattle.sha2.proofs.Facts256.{length-sha256}
use Rattle.keyed_channel.specs.Keyed.{tags_of}
use Rattle.keyed_channel.specs.Laws.{OpensAsSealed, OpenedFromPeer}
use Rattle.reliable_bcast.specs.Bracha.{bracha}
use Rattle.reliable_bcast.specs.Laws.Bracha.{value_laws_of_bracha, entry_laws_of_bracha}
use Rattle.reliable_bcast.specs.Laws.ByDigest.{value_laws_by_digest, entry_laws_by_digest}
use Rattle.reliable_bcast.specs.Laws.DigestOneValue.{one_value_by_digest}
use Rattle.ritas_core.specs.declared.route.Route.{Route}
use Rattle.ritas_core.specs.declared.route.Route.TheVariants as routes
use Rattle.ritas_core.specs.Rules.{FormsFit, route_of, rules_by}
use Rattle.ritas_core.specs.RulesLaws.{kinds_fit}
use Rattle.world_model.specs.World.{Setting, rules_at}
use Rattle.world_model.specs.OneValueEach.{Channel, Codec, IsSound}
use Rattle.world_model.specs.Agree.{AgreeLaw}
use Rattle.world_model.specs.EveryWorld.{IsWorld, AgreementLaw}

-- ---- the channel
pub channel_of : (service : ServiceRules) (other : BroadcastRules) (w : Setting) → IsWorld service other w → OpensAsSealed → OpenedFromPeer → Channel w
channel_of service other w is opens_as_sealed opened_from_peer = record {
  opens = λ i j seq body o from_below to_below differ fits opens.
      opens_as_sealed (w.keys i) (w.keys j) j seq body o fits opens
      ∙ ap (λ (k : ℕ). record { from = k; seq = seq; body = body }) (is.own i from_below).0;
  opened = λ j bytes o below opens.
      let from = opened_from_peer (w.keys j) bytes o opens in
      let own = is.own j below in
      (subst (λ (n : ℕ). o.from < n) own.1 from.0, λ same. from.1 (same ∙ sym own.0));
  own = is.own;
}

-- ---- the world
-- each slot has one of the two reliable broadcasts, or the other one
pub values_at : (route : Route) (other : BroadcastRules) → ValueLaws other → ValueLaws (rules_by route other)
values_at routes.Values other values = value_laws_of_bracha
values_at routes.Digests other values = value_laws_by_digest
values_at routes.Other other values = values

one_at : (route : Route) (other : BroadcastRules) → OneValue other → OneValue bracha → OneValue (rules_by route other)
one_at routes.Values other one one_of_bracha = one_of_bracha
one_at routes.Digests other one one_of_bracha = one_value_by_digest
one_at routes.Other other one one_of_bracha = one

entries_at : (route : Route) (other : BroadcastRules) → EntryLaws other → EntryLaws (rules_by route other)
entries_at routes.Values other entries = entry_laws_of_bracha
entries_at routes.Digests other entries = entry_laws_by_digest
entries_at routes.Other other entries = entries

-- and the form that the grammar gives to it
pub forms_at : (service : ServiceRules) (other : BroadcastRules) (w : Setting) → IsWorld service other w → (i : ℕ) → FormsFit w.mode (rules_at w i).casts
forms_at service other w is i =
    let fit = kinds_fit w.numbers w.mode i (tags_of (w.keys i)) other is.form length-sha256 in
    record { forms = λ s right. ap (λ (x : BroadcastRules). x.form) (is.casts s) ∙ fit.forms s right; digests = fit.digests }

pub world_sound : (service : ServiceRules) (other : BroadcastRules) (w : Setting) → IsWorld service other w → ValueLaws other → OneValue other → EntryLaws other → OneValue bracha → WordLaws service →
    OpensAsSealed → OpenedFromPeer → Codec w → IsSound w
world_sound service other w is values one entries one_of_bracha words opens_as_sealed opened_from_peer codec = record {
  session = is.session;
  within = is.within;
  casts = λ s. subst (λ (x : BroadcastRules). ValueLaws x) (sym (is.casts s)) (values_at (route_of w.mode s) other values);
  one_value = λ s. subst (λ (x : BroadcastRules). OneValue x) (sym (is.casts s)) (one_at (route_of w.mode s) other one one_of_bracha);
  entries = λ s. subst (λ (x : BroadcastRules). EntryLaws x) (sym (is.casts s)) (entries_at (route_of w.mode s) other entries);
  words = subst (λ (x : ServiceRules). WordLaws x) (sym is.words) words;
  serves = subst (λ (x : ServiceRules). x.serves w.mode.root ≡ true) (sym is.words) is.serves;
  kinds = forms_at service other w is;
  channel = channel_of service other w is opens_as_sealed opened_from_peer;
  codec = codec;
}

pub agreement_law : (service : ServiceRules) (other : BroadcastRules) → ValueLaws other → OneValue other → EntryLaws other → OneValue bracha → WordLaws service → OneLog service →
    OpensAsSealed → OpenedFromPeer → ((w : Setting) → IsWorld service other w → Codec w) → AgreeLaw → AgreementLaw service other
agreement_law service other values one entries one_of_bracha words log opens_as_sealed opened_from_peer codec law w es is holds =
    law w es (world_sound service other w is values one entries one_of_bracha words opens_as_sealed opened_from_peer (codec w is))
    (subst (λ (x : ServiceRules). OneLog x) (sym is.words) log) holds
