-- The keys and coins that are dealt in order are those of the replicas.
use Rattle.std.proofs.Common.{◌≡◌, ℕ, ◌<◌, Bool, List, Some, get_or, length, map, refl, sym, ap, ◌∙◌, arith}
use Rattle.std.specs.List.{range_with_len, slice_get}
use Rattle.std.proofs.lemmas.List.FromFn.{length-map-range_with_len, get_or-map-range_with_len}
use Rattle.std.proofs.lemmas.Option.{slice_get_within, slice_get-get_or, same_Some}
use Rattle.keyed_channel.specs.KeyRow.{KeyRow}
use Rattle.keyed_channel.specs.Keyed.{coin_bit}
use Rattle.schedule_file.specs.declared.header.Header.{Header}
use Rattle.schedule_file.specs.declared.header.HeaderKeys.{HeaderKeys}
use Rattle.schedule_file.specs.declared.header.HeaderKeys.TheVariants.{Master, Row}
use Rattle.world_model.specs.Stands.{IsWorldOf, AreKeys, AreOfVersion}
use Rattle.ritas_base.specs.History.{Call}
use Rattle.ritas_base.specs.declared.mode.FrameVersion.{FrameVersion}
use Rattle.ritas_base.specs.Members.{has_member}
use Rattle.ritas_base.specs.Messages.{Place}
use Rattle.ritas_base.specs.Tags.{Tags}
use Rattle.layer_api.specs.Broadcast.{BroadcastRules}
use Rattle.layer_api.specs.BroadcastCalls.{CastShown}
use Rattle.layer_api.specs.Service.{ServiceRules, Seat}
use Rattle.layer_api.specs.Words.{Word}
use Rattle.layer_api.specs.ServiceCalls.{ServiceShown}
use Rattle.schedule_replay.specs.Layers.{keys_with, dealt_to, coin_to, setting_with, layers_by}

at_number : {X : Type 0} (f : ℕ → X) (n i : ℕ) (x : X) → slice_get (map f (range_with_len 0 n)) i ≡ Some x → x ≡ f i
at_number {X = X} f n i x e =
    let xs : List X = map f (range_with_len 0 n) in
    let within : i < length xs = slice_get_within xs i x e in
    let below : i < n = omega (arith, within, length-map-range_with_len f 0 n) in
    let there = slice_get-get_or xs i x within in
    sym (same_Some (get_or xs i x) x (sym there ∙ e)) ∙ get_or-map-range_with_len f 0 n i i x below (omega arith)

-- whatever a header's keys, those of each replica are its own
keys_own : (keys : HeaderKeys) (version : FrameVersion) (session n i : ℕ)
    → ((keys_with keys version session n i).me ≡ i) × ((keys_with keys version session n i).n ≡ n) × ((keys_with keys version session n i).version ≡ version)
keys_own (Master master) version session n i = (refl, refl, refl)
keys_own (Row me row coin) version session n i = (refl, refl, refl)

pub own_keys : (h : Header) → AreKeys h.p.n (map (dealt_to h) (range_with_len 0 h.p.n))
own_keys h i k e =
    let same = at_number (dealt_to h) h.p.n i k e in
    let own = keys_own h.keys h.mode.version h.session h.p.n i in
    (ap (λ (r : KeyRow). r.me) same ∙ own.0, ap (λ (r : KeyRow). r.n) same ∙ own.1)

pub version_keys : (h : Header) → AreOfVersion h.mode.version (map (dealt_to h) (range_with_len 0 h.p.n))
version_keys h i k e =
    let same = at_number (dealt_to h) h.p.n i k e in
    ap (λ (r : KeyRow). r.version) same ∙ (keys_own h.keys h.mode.version h.session h.p.n i).2

pub world_dealt : {S E : Type 0} (service_stands : S → Seat → List Word → Type 0) (service : ServiceRules) (service_shown : S → ServiceShown)
    (other_stands : E → Place → Tags → List Call → Type 0) (other : BroadcastRules) (other_shown : E → CastShown) (h : Header) (is_correct : ℕ → Bool) (members : ℕ)
    → ((i : ℕ) → is_correct i ≡ has_member members i)
    → IsWorldOf (layers_by service_stands service service_shown other_stands other other_shown) h.p h.mode members (map (dealt_to h) (range_with_len 0 h.p.n))
    (map (coin_to h) (range_with_len 0 h.p.n)) (setting_with is_correct service other h)
world_dealt service_stands service service_shown other_stands other other_shown h is_correct members same = record {
  numbers = refl;
  mode = refl;
  correct = same;
  casts = refl;
  service = refl;
  keys = λ i k e. sym (at_number (dealt_to h) h.p.n i k e);
  coins = λ i coin e. ap coin_bit (sym (at_number (coin_to h) h.p.n i coin e));
  going = λ k i. refl;
  start = refl;
}
