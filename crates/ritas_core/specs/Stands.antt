-- What the values of a core stand for.
use Rattle.std.specs.Prelude.{◌≡◌, ℕ, ◌<◌, Bool, true, false, not, ◌||◌, None, List, [], ◌∷◌, length}
use Rattle.std.specs.List.{AllByRecursion}
use Rattle.ritas_base.specs.declared.slot.Slot.{Slot}
use Rattle.ritas_base.specs.declared.item.Item.{Item}
use Rattle.ritas_base.specs.Messages.{Place}
use Rattle.ritas_base.specs.Numbers.{IsSession}
use Rattle.ritas_base.specs.Tags.{Tags}
use Rattle.ritas_base.specs.History.{Call}
use Rattle.layer_api.specs.Broadcast.{BroadcastRules}
use Rattle.layer_api.specs.BroadcastCalls.{CastShown}
use Rattle.layer_api.specs.Service.{ServiceRules, Seat}
use Rattle.layer_api.specs.Words.{Word}
use Rattle.layer_api.specs.ServiceCalls.{ServiceShown, ShowsBetween}
use Rattle.ooc_buffers.specs.Lists.{HeldItem}
use Rattle.ritas_core.specs.declared.layers.Layers.{Layers}
use Rattle.ritas_core.specs.declared.kernel.Core.{Core}
use Rattle.ritas_core.specs.Rules.{Rules, casts_by, seat_of, FormsFit}
use Rattle.ritas_core.specs.SlotCast.{CastStandsAt, shown_by_cast}
use Rattle.ritas_core.specs.Drops.{is_dropped, is_dropped_shown}
use Rattle.ritas_core.specs.Casts.{CastsStand, CastsShow, OutputsStand, OutputsShow}
use Rattle.ritas_core.specs.Parts.{Parts, parts}
use Rattle.ritas_core.specs.Checks.{is_open, is_item_past, IsHistory, IsGood}
use Rattle.ritas_core.specs.Machine.{CoreState, with_lost, AreGood}

-- what the traits say of a service, of the broadcast beside the reliable one, of a coin and a tagger
pub record Meaning (S E C T : Type 0) : Type 1 where
  pub service_stands : S → Seat → List Word → Type 0
  pub service : ServiceRules
  pub service_shown : S → ServiceShown
  pub cast_stands : E → Place → Tags → List Call → Type 0
  pub cast : BroadcastRules
  pub cast_shown : E → CastShown
  pub bits : C → Slot → Bool
  pub me : T → ℕ
  pub tags : T → Tags

abbrev pub meaning : {S E C T : Type 0} → (S → Seat → List Word → Type 0) → ServiceRules → (S → ServiceShown)
    → (E → Place → Tags → List Call → Type 0) → BroadcastRules → (E → CastShown) → (C → Slot → Bool) → (T → ℕ) → (T → Tags) → Meaning S E C T
meaning service_stands service service_shown cast_stands cast cast_shown bits me tags = record {
  service_stands = service_stands;
  service = service;
  service_shown = service_shown;
  cast_stands = cast_stands;
  cast = cast;
  cast_shown = cast_shown;
  bits = bits;
  me = me;
  tags = tags;
}

-- what the layers mean
abbrev pub rules_of : {S E C T : Type 0} → Meaning S E C T → Layers S E C T → Rules
rules_of m layers = record {
  mode = layers.mode;
  casts = casts_by layers.mode layers.params layers.me (m.tags layers.tagger) m.cast;
  coin = m.bits layers.coin;
  service = m.service;
}

-- the service and the broadcasts stand for these parts, where the broadcasts of past slots are dropped
pub record LayersStand {S E C T : Type 0} (m : Meaning S E C T) (layers : Layers S E C T) (p : Parts) : Type 0 where
  pub service : m.service_stands layers.service (seat_of (rules_of m layers)) p.words
  pub casts : CastsStand (CastStandsAt layers.mode m.cast_stands) (rules_of m layers).casts (is_dropped (rules_of m layers) p.words) layers.casts p.calls

-- what the layers show lies between two parts: the service shows what it does by the words of the one or of the other, and
-- each slot whose broadcast isn't dropped, by what the service shows, that it delivered what it did by the calls of the one or
-- of the other
pub record LayersShow {S E C T : Type 0} (m : Meaning S E C T) (layers : Layers S E C T) (r : Rules) (p later : Parts) : Type 0 where
  pub service : ShowsBetween r.service (seat_of r) p.words later.words (m.service_shown layers.service)
  pub casts : CastsShow (shown_by_cast m.cast_shown) r.casts (is_dropped_shown r.mode.version (m.service_shown layers.service) r.casts.numbers.n) layers.casts p.calls later.calls

-- the held items may be given
abbrev pub AreGoodKept : Rules → List HeldItem → Type 0
AreGoodKept r [] = Unit {0}
AreGoodKept r (x ∷ xs) = IsGood r x.item × AreGoodKept r xs

abbrev pub AreGoodLists : Rules → List (List HeldItem) → Type 0
AreGoodLists r [] = Unit {0}
AreGoodLists r (kept ∷ held) = AreGoodKept r kept × AreGoodLists r held

-- an item waits: it is neither open nor past
abbrev pub Waits : Rules → Parts → Item → Type 0
Waits r p x = (is_open r p x || is_item_past r p x) ≡ false

-- what is said of an item, of each that is held
abbrev pub Each : (Item → Type 0) → List (List HeldItem) → Type 0
Each P held = AllByRecursion (λ kept. AllByRecursion (λ k. P k.item) kept) held

abbrev pub AreWaiting : Rules → Parts → List (List HeldItem) → Type 0
AreWaiting r p held = Each (Waits r p) held

-- The core stands for this state, by these rules; of the held items none is open or past. A stopped core keeps what waits and
-- what is held, what the stop lost met its conditions, and what its layers show lies between its history and that with what the
-- stop lost; so do the outputs, in which they keep what slots delivered.
pub record CoreStands {S E C T : Type 0} (m : Meaning S E C T) (core : Core S E C T) (r : Rules) (st : CoreState) : Type 0 where
  pub rules : rules_of m core.layers ≡ r
  pub own : m.me core.layers.tagger ≡ r.casts.me
  pub kinds : FormsFit r.mode r.casts
  pub session : IsSession r.casts.numbers
  pub me : r.casts.me < r.casts.numbers.n
  pub serves : r.service.serves r.mode.root ≡ true
  pub live : core.stopped ≡ not st.live
  pub history : IsHistory r st.history
  pub whole : IsHistory r (with_lost st)
  pub layers : st.live ≡ true → LayersStand m core.layers (parts r st.history)
  pub lost : st.live ≡ true → st.lost ≡ None
  pub shows : LayersShow m core.layers r (parts r st.history) (parts r (with_lost st))
  pub outputs : st.live ≡ true → OutputsStand r.mode.root r.casts core.layers.outputs (parts r st.history).calls
  pub shows_outputs : OutputsShow r.mode.root r.casts core.layers.outputs (parts r st.history).calls (parts r (with_lost st)).calls
  pub inbox : core.inbox.items ≡ st.inbox
  pub held : core.held ≡ st.held
  pub peers : length st.held ≡ r.casts.numbers.n
  pub good_inbox : AreGood r st.inbox
  pub good_held : AreGoodLists r st.held
  pub waiting : AreWaiting r (parts r st.history) st.held
