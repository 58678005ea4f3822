-- What the getters of a core show.
use Rattle.std.proofs.Common.{◌≡◌, ℕ, zero, suc, ◌+◌, Bool, true, false, cond, ◌&&◌, Option, Some, None, ◌⊎◌, inl, inr, List, [], ◌∷◌, take, refl, sym, ◌∙◌, ap, subst, add_assoc, arith}
use Rattle.std.proofs.Math.Seq.{take-length}
use Rattle.std.proofs.lemmas.List.Sums.{sum_by-cons}
use Rattle.std.specs.Prelude.{IfSome}
use Rattle.std.specs.Option.{is_some}
use Rattle.std.specs.FinMap.{get}
use Rattle.std.specs.BTreeMap as map
use Rattle.std.proofs.Math.Dec.{leb}
use Rattle.ritas_base.specs.declared.slot.Slot.{Slot}
use Rattle.ritas_base.specs.SlotOrder.{slot_cmp}
use Rattle.ritas_base.specs.Slots.{within}
use Rattle.ooc_buffers.specs.Lists.{HeldItem, held_bytes}
use Rattle.ritas_core.specs.declared.kernel.Core.{Core}
use Rattle.ritas_core.specs.declared.cast.Cast.{Cast}
use Rattle.ritas_core.specs.declared.cast.Cast.TheVariants.{Plain, Digest, Other}
use Rattle.ritas_core.specs.declared.route.Route.{Route}
use Rattle.ritas_core.specs.Rules.{Rules, route_of, place_at}
use Rattle.ritas_base.specs.Messages.{Place}
use Rattle.ritas_base.specs.History.{Call}
use Rattle.ritas_base.specs.Tags.{Tags}
use Rattle.ritas_core.specs.SlotCast.{CastStands, shown_by_cast, route_of_cast}
use Rattle.ritas_core.specs.Casts.{shown_out}
use Rattle.ritas_core.specs.Parts.{Entry, parts}
use Rattle.ritas_core.specs.Machine.{CoreState, with_entry, with_lost}
use Rattle.ritas_core.specs.Stands.{Meaning, rules_of, CoreStands}
use Rattle.ritas_core.specs.Drops.{is_past_shown, hides_shown}
use Rattle.ritas_core.specs.Laws.{LayerLaws}
use Rattle.ritas_core.proofs.ShownLayers.{MeansWell}
use Rattle.ritas_core.specs.StandsLaws.{layer_laws}
use Rattle.ritas_core.proofs.ShownSlots.{shown_either}
use Rattle.ritas_core.specs.Shown.{held_bytes_in, all_bytes, layers_out, delivered_at, shown_at, keeps_broadcast}
use Rattle.ritas_core.proofs.TestLaws.{and_false}
use Rattle.ritas_core.proofs.OneCast.{shows_at}
use Rattle.ritas_core.proofs.Keeping.{kept_by_call}

-- the bytes of one peer more
pub bytes_more : (held : List (List HeldItem)) (i : ℕ) → all_bytes (take (suc i) held) ≡ all_bytes (take i held) + held_bytes held i
bytes_more [] zero = refl
bytes_more [] (suc i) = refl
bytes_more (kept ∷ held) zero = sum_by-cons held_bytes_in kept [] ∙ omega arith
bytes_more (kept ∷ held) (suc i) =
    let long = sum_by-cons held_bytes_in kept (take (suc i) held) in
    let short = sum_by-cons held_bytes_in kept (take i held) in
    let more = bytes_more held i in
    long ∙ ap (λ (n : ℕ). held_bytes_in kept + n) more ∙ sym (add_assoc (held_bytes_in kept) (all_bytes (take i held)) (held_bytes held i))
    ∙ ap (λ (n : ℕ). n + held_bytes held i) (sym short)

-- where what a slot delivered isn't hidden, its broadcast isn't dropped
shown_near : (inside high past : Bool) → high ≡ true → (high && past) ≡ false → (inside && past) ≡ false
shown_near inside true past e near = ap (λ (b : Bool). inside && b) near ∙ and_false inside
shown_near inside false past e near = absurd (cc)

-- what a slot shows is what it delivered and isn't hidden, before what a stop lost or with it
module _ {S E C T : Type 0} (m : Meaning S E C T) (well : MeansWell m) (core : Core S E C T) (slot : Slot) (hidden : Bool)
    (hides : hidden ≡ hides_shown core.layers.mode (m.service_shown core.layers.service) core.layers.params.n slot)
    (r : Rules) (st : CoreState) (stands : CoreStands m core r st) where
  abbrev Out : Option (List ℕ)
  Out = layers_out (shown_by_cast m.cast_shown) core.layers slot

  abbrev Shown : Option (List ℕ)
  Shown = cond hidden None Out

  abbrev Hides : Bool
  Hides = hides_shown r.mode (m.service_shown core.layers.service) r.casts.numbers.n slot

  laws : LayerLaws r
  laws = layer_laws m well.values well.words core r st stands

  shown_is : Shown ≡ cond Hides None Out
  shown_is =
      ap (λ (b : Bool). cond b None Out)
      (hides ∙ ap (λ (q : Rules). hides_shown q.mode (m.service_shown core.layers.service) q.casts.numbers.n slot) stands.rules)

  root_is : core.layers.mode.root ≡ r.mode.root
  root_is = ap (λ (q : Rules). q.mode.root) stands.rules

  -- by its broadcast, or by what is kept
  out_by : (high : Bool) → leb 3 r.mode.root ≡ high → Hides ≡ false → (Out ≡ delivered_at r st.history slot) ⊎ (Out ≡ delivered_at r (with_lost st) slot)
  out_by true is near =
      let from = ap (λ (n : ℕ). cond (leb 3 n) (shown_out (shown_by_cast m.cast_shown) (get core.layers.casts slot)) (map.get slot_cmp core.layers.outputs slot)) root_is
      ∙ ap (λ (b : Bool). cond b (shown_out (shown_by_cast m.cast_shown) (get core.layers.casts slot)) (map.get slot_cmp core.layers.outputs slot)) is in
      elim (stands.shows.casts slot
      (shown_near (within 1 5 slot.class) (leb 3 r.mode.root) (is_past_shown r.mode.version (m.service_shown core.layers.service) r.casts.numbers.n slot) is near)) [
        | inl e ↦ inl (from ∙ e)
        | inr e ↦ inr (from ∙ e)
      ]
  out_by false is near =
      let from = ap (λ (n : ℕ). cond (leb 3 n) (shown_out (shown_by_cast m.cast_shown) (get core.layers.casts slot)) (map.get slot_cmp core.layers.outputs slot)) root_is
      ∙ ap (λ (b : Bool). cond b (shown_out (shown_by_cast m.cast_shown) (get core.layers.casts slot)) (map.get slot_cmp core.layers.outputs slot)) is in
      elim (stands.shows_outputs is slot) [ inl e ↦ inl (from ∙ e) | inr e ↦ inr (from ∙ e) ]

  pub delivered_either : (Shown ≡ shown_at r st.history slot) ⊎ (Shown ≡ shown_at r (with_lost st) slot)
  delivered_either =
      elim (shown_either r laws slot st.lost st.history stands.history stands.whole (m.service_shown core.layers.service) stands.shows.service
      Out (out_by (leb 3 r.mode.root) refl)) [
        | inl e ↦ inl (shown_is ∙ e)
        | inr e ↦ inr (shown_is ∙ e)
      ]

  pub delivered_live : st.live ≡ true → Shown ≡ shown_at r st.history slot
  delivered_live live = elim delivered_either [
    | inl e ↦ e
    | inr e ↦ e ∙ ap (λ (x : Option Entry). shown_at r (with_entry x st.history) slot) (stands.lost live)
  ]

-- ---- the broadcasts
module _ {S E C T : Type 0} (m : Meaning S E C T) (well : MeansWell m) (core : Core S E C T) (st : CoreState) (s : Slot) where
  -- exactly those are there that had a call, and whose slots aren't past
  keeps_here : CoreStands m core (rules_of m core.layers) st → st.live ≡ true → is_some (get core.layers.casts s) ≡ keeps_broadcast (rules_of m core.layers) st.history s
  keeps_here stands live =
      let r = rules_of m core.layers in
      let all = (stands.layers live).casts in
      kept_by_call r (layer_laws m well.values well.words core r st stands) st.history stands.history s (get core.layers.casts s)
      (all.gone s) (all.unmade s) (all.used s)

  pub keeps_called : (r : Rules) → CoreStands m core r st → st.live ≡ true → is_some (get core.layers.casts s) ≡ keeps_broadcast r st.history s
  keeps_called r stands live =
      subst (λ (q : Rules). CoreStands m core q st → is_some (get core.layers.casts s) ≡ keeps_broadcast q st.history s) stands.rules
      (λ here. keeps_here here live) stands

  -- and each has delivered what its slot has
  delivers_here : CoreStands m core (rules_of m core.layers) st → st.live ≡ true → (b : Cast E) → get core.layers.casts s ≡ Some b →
      (shown_by_cast m.cast_shown b).out ≡ delivered_at (rules_of m core.layers) st.history s
  delivers_here stands live b found =
      let layers = core.layers in
      let r = rules_of m layers in
      (shows_at m.cast_stands m.cast well.live m.cast_shown well.cast_shows (route_of layers.mode s) b (place_at r.casts s) r.casts.tags ((parts r st.history).calls s)
      ((stands.layers live).casts.made s b found)).out

  some_by : (P : Cast E → Type 0) (o : Option (Cast E)) → ((b : Cast E) → o ≡ Some b → P b) → IfSome o P
  some_by P None is = tt
  some_by P (Some b) is = is b refl

  pub delivers_there : (r : Rules) → CoreStands m core r st → st.live ≡ true →
      IfSome (get core.layers.casts s) (λ b. (shown_by_cast m.cast_shown b).out ≡ delivered_at r st.history s)
  delivers_there r stands live =
      subst (λ (q : Rules). CoreStands m core q st → IfSome (get core.layers.casts s) (λ b. (shown_by_cast m.cast_shown b).out ≡ delivered_at q st.history s)) stands.rules
      (λ here. some_by (λ b. (shown_by_cast m.cast_shown b).out ≡ delivered_at (rules_of m core.layers) st.history s) (get core.layers.casts s)
      (delivers_here here live)) stands

  -- and it goes as the mode says
  goes_by : (route : Route) (b : Cast E) (at : Place) (tags : Tags) (h : List Call) → CastStands route m.cast_stands b at tags h → route_of_cast b ≡ route
  goes_by route (Plain b) at tags h by = sym by.0
  goes_by route (Digest b) at tags h by = sym by.0
  goes_by route (Other e) at tags h by = sym by.0

  pub goes_there : (r : Rules) → CoreStands m core r st → st.live ≡ true → IfSome (get core.layers.casts s) (λ b. route_of_cast b ≡ route_of r.mode s)
  goes_there r stands live =
      let c = rules_of m core.layers in
      subst (λ (q : Rules). IfSome (get core.layers.casts s) (λ b. route_of_cast b ≡ route_of q.mode s)) stands.rules
      (some_by (λ b. route_of_cast b ≡ route_of core.layers.mode s) (get core.layers.casts s)
      (λ b found. goes_by (route_of core.layers.mode s) b (place_at c.casts s) c.casts.tags ((parts r st.history).calls s)
      ((stands.layers live).casts.made s b found)))

-- the bytes of all peers
pub bytes_all : {S E C T : Type 0} (m : Meaning S E C T) (core : Core S E C T) (n : ℕ) → core.layers.params.n ≡ n →
    (r : Rules) (st : CoreState) → CoreStands m core r st → all_bytes (take n core.held) ≡ all_bytes st.held
bytes_all m core n is r st stands =
    ap (λ (hs : List (List HeldItem)). all_bytes (take n hs)) stands.held
    ∙ ap all_bytes (ap (λ (k : ℕ). take k st.held) (sym is ∙ ap (λ (q : Rules). q.casts.numbers.n) stands.rules ∙ sym stands.peers) ∙ take-length st.held)
