-- What the steps of a call make of a core.
use Rattle.std.proofs.Common.{◌≡◌, ℕ, true, not, ◌||◌, Option, Some, None, List, [], ◌∷◌, ◌++◌, refl, sym, ◌∙◌, ap, subst, inl, inr}
use Rattle.std.proofs.lemmas.List.{length-map}
use Rattle.ritas_base.specs.declared.item.Item.{Item}
use Rattle.ritas_base.specs.declared.item.Msg.{Msg}
use Rattle.ritas_base.specs.declared.mode.Mode.{Mode}
use Rattle.ritas_base.specs.Numbers.{Numbers}
use Rattle.layer_api.specs.Words.{Ask, Hear}
use Rattle.ooc_buffers.specs.Lists.{HeldItem, failing, released, remaining}
use Rattle.ritas_core.specs.declared.change.Change.{Change}
use Rattle.ritas_core.specs.declared.change.Change.TheVariants as changes
use Rattle.ritas_core.specs.declared.layers.Layers.{Layers}
use Rattle.ritas_core.specs.declared.kernel.Core.{Core}
use Rattle.ritas_core.specs.Rules.{Rules, casts_by, seat_of}
use Rattle.ritas_core.specs.Casts.{OutputsStand, OutputsShow}
use Rattle.ritas_core.specs.StandsLaws.{layer_laws}
use Rattle.ritas_core.specs.Parts.{Parts, Entry, Took, Given, parts, taken_at, item_delivers, parts_after, made_by}
use Rattle.ritas_core.specs.Order.{ordered, own_items, new_messages}
use Rattle.ritas_core.specs.Checks.{is_open, is_item_past, IsTakable, IsGivable, MayEnter, IsHistory}
use Rattle.ritas_core.specs.Machine.{CoreState, What, with_entry, state_after_entry}
use Rattle.ritas_core.specs.Stands.{Meaning, rules_of, LayersStand, LayersShow, CoreStands}
use Rattle.ritas_core.specs.LayerCalls.{SameSeat, KeepsOutputs, MayTell, MayFollow, CanTakeItem, CanTell, TellsLayers, TakesSo, is_past_in, is_open_in}
use Rattle.ritas_core.specs.Calls.{entry_of_call, stopped}
use Rattle.ritas_core.specs.Waiting.{MayLeave}
use Rattle.ritas_core.specs.CoreCalls.{rules_in, IsLive, Finishes, Withdraws, StopsCore, EntersCore}
use Rattle.ritas_core.specs.Laws.{LayerLaws}
use Rattle.ritas_core.proofs.GoodSlots.{slot_origin}
use Rattle.ritas_core.proofs.ShownLayers.{MeansWell, layers_show, layers_later, entry_part}
use Rattle.ritas_core.proofs.Conditions.{words_proper, may_start_given, may_hear, may_start_heard}
use Rattle.ritas_core.proofs.ShownCasts.{out_started}
use Rattle.ritas_core.proofs.Keeping.{outputs_same}
use Rattle.ritas_core.proofs.HeldSteps.{open_near}
use Rattle.ritas_core.proofs.Waiting.{OpensWell, HeldChange, each_fails, may_leave, held_by}
use Rattle.ritas_core.proofs.Goodness.{good_remaining, entered_inbox_good, entered_held_good}
use Rattle.ritas_core.proofs.HeldSteps.{released_same, remaining_same, remaining_twice, past_same, open_same}

-- the service may hear what an item's slot newly delivers by it
follow_by : (r : Rules) (p : Parts) (item : Item) (d : Option (List ℕ)) →
    ((v : List ℕ) → d ≡ Some v → MayTell r (Hear item.slot v) (taken_at item p)) → MayFollow r item.slot d (taken_at item p)
follow_by r p item None tell = tt
follow_by r p item (Some v) tell = tell v refl

pub may_follow : (r : Rules) → LayerLaws r → (h : List Entry) → IsHistory r h → (item : Item) → IsTakable r (parts r h) item →
    MayFollow r item.slot (item_delivers r item (parts r h)) (taken_at item (parts r h))
may_follow r laws h met item may =
    follow_by r (parts r h) item (item_delivers r item (parts r h))
    (λ v delivers. (may_hear r laws h met item may v delivers, may_start_heard r laws h met item may v delivers))

module _ {S E C T : Type 0} (m : Meaning S E C T) where
  rules_from : Numbers → Mode → ℕ → T → C → Rules
  rules_from p mode me t coin = record { mode = mode; casts = casts_by mode p me (m.tags t) m.cast; coin = m.bits coin; service = m.service }

  pub same_rules : (old new : Layers S E C T) → SameSeat old new → rules_of m new ≡ rules_of m old
  unfolding rules_from
  same_rules old new seat =
      ap (λ (p : Numbers). rules_from p new.mode new.me new.tagger new.coin) seat.params
      ∙ ap (λ (mode : Mode). rules_from old.params mode new.me new.tagger new.coin) seat.mode
      ∙ ap (λ (me : ℕ). rules_from old.params old.mode me new.tagger new.coin) seat.me
      ∙ ap (λ (t : T). rules_from old.params old.mode old.me t new.coin) seat.tagger
      ∙ ap (λ (coin : C). rules_from old.params old.mode old.me old.tagger coin) seat.coin

  -- a stopped core stands for its last state, stopped
  pub stops_core : (old new : Core S E C T) (e : Entry) (before after_it : List Msg) (st : CoreState) (what : What) → entry_of_call st what ≡ Some e →
      StopsCore m old new e before after_it → IsLive m old st → MayEnter (rules_in m old) (parts (rules_in m old) st.history) e →
      CoreStands m (record new { stopped = true }) (rules_in m old) (stopped st what)
  stops_core old new e before after_it st what given stops is may =
      let r = rules_in m old in
      let stands = is.stands in
      record {
        rules = same_rules old.layers new.layers stops.seat;
        own = ap (λ (t : T). m.me t) stops.seat.tagger ∙ stands.own;
        kinds = stands.kinds;
        session = stands.session;
        me = stands.me;
        serves = stands.serves;
        live = refl;
        history = stands.history;
        whole = subst (λ (o : Option Entry). IsHistory r (with_entry o st.history)) (sym given) (may, stands.history);
        layers = λ live. absurd (cc);
        lost = λ live. absurd (cc);
        shows = subst (λ (o : Option Entry). LayersShow m new.layers r (parts r st.history) (parts r (with_entry o st.history))) (sym given) (stops.shows st is may);
        outputs = λ live. absurd (cc);
        shows_outputs = subst (λ (o : Option Entry). OutputsShow r.mode.root r.casts new.layers.outputs (parts r st.history).calls (parts r (with_entry o st.history)).calls)
            (sym given) (stops.outputs st is may);
        inbox = stops.inbox ∙ stands.inbox;
        held = stops.held ∙ stands.held;
        peers = stands.peers;
        good_inbox = stands.good_inbox;
        good_held = stands.good_held;
        waiting = stands.waiting;
      }

module _ {S E C T : Type 0} (m : Meaning S E C T) (well : MeansWell m) where
  pub laws_of : (layers : Layers S E C T) (core : Core S E C T) (st : CoreState) → CoreStands m core (rules_of m layers) st → LayerLaws (rules_of m layers)
  laws_of layers core st = layer_laws m well.values well.words core (rules_of m layers) st

  -- an entry of the layers, sent in order, is an entry of the core
  module _ (opening : OpensWell m) (old new : Core S E C T) (mid : Layers S E C T) (change : Change) (e : Entry) (made before after_it : List Msg) (st : CoreState)
      (fin : Finishes m change (record old { layers = mid }) new made before after_it)
      (tagger : mid.tagger ≡ old.layers.tagger)
      (stands : CoreStands m old (rules_of m mid) st) (live : st.live ≡ true)
      (may : MayEnter (rules_of m mid) (parts (rules_of m mid) st.history) e)
      (stood : LayersStand m mid (parts_after (rules_of m mid) e (parts (rules_of m mid) st.history)))
      (puts : OutputsStand (rules_of m mid).mode.root (rules_of m mid).casts mid.outputs (parts_after (rules_of m mid) e (parts (rules_of m mid) st.history)).calls)
      (made_is : made ≡ made_by (rules_of m mid) e (parts (rules_of m mid) st.history))
      (only : HeldChange change e (rules_of m mid) (parts (rules_of m mid) st.history)) where
    leaves : MayLeave m change mid (parts (rules_of m mid) (e ∷ st.history)) old.held
    leaves =
        subst (λ (hs : List (List HeldItem)). MayLeave m change mid (parts (rules_of m mid) (e ∷ st.history)) hs) (sym stands.held)
        (may_leave m opening mid (laws_of mid old st stands) st.history e change may only stood st.held stands.good_held stands.waiting)

    new_inbox : new.inbox.items ≡ (state_after_entry (rules_of m mid) st e st.inbox).inbox
    new_inbox =
        let r = rules_of m mid in
        let p = parts r (e ∷ st.history) in
        fin.inbox p stood leaves
        ∙ ap (λ (xs : List Item). (xs ++ own_items mid.me (ordered made)) ++ released (is_open_in m mid p) old.held) stands.inbox
        ∙ ap (λ (ms : List Msg). (st.inbox ++ own_items mid.me (ordered ms)) ++ released (is_open_in m mid p) old.held) made_is
        ∙ ap (λ (hs : List (List HeldItem)). (st.inbox ++ own_items mid.me (new_messages r st.history e)) ++ released (is_open_in m mid p) hs) stands.held
        ∙ ap (λ (xs : List Item). (st.inbox ++ own_items mid.me (new_messages r st.history e)) ++ xs)
        (released_same r (is_open_in m mid p) (is_open r p) (open_same m mid (laws_of mid old st stands) p stood) st.held stands.good_held)

    new_held : new.held ≡ (state_after_entry (rules_of m mid) st e st.inbox).held
    new_held =
        let r = rules_of m mid in
        let p = parts r (e ∷ st.history) in
        let laws = laws_of mid old st stands in
        fin.held p stood leaves
        ∙ ap (λ (hs : List (List HeldItem)). remaining (λ x. is_past_in m mid p x.slot) (remaining (is_open_in m mid p) hs)) stands.held
        ∙ ap (λ (hs : List (List HeldItem)). remaining (λ x. is_past_in m mid p x.slot) hs)
        (remaining_same r (is_open_in m mid p) (is_open r p) (open_same m mid laws p stood) st.held stands.good_held)
        ∙ remaining_same r (λ x. is_past_in m mid p x.slot) (is_item_past r p) (past_same m mid laws p stood) (remaining (is_open r p) st.held)
        (good_remaining r (is_open r p) st.held stands.good_held)
        ∙ remaining_twice (is_open r p) (is_item_past r p) st.held

    new_outputs : OutputsStand (rules_of m mid).mode.root (rules_of m mid).casts new.layers.outputs (parts (rules_of m mid) (e ∷ st.history)).calls
    new_outputs =
        subst (λ (layers : Layers S E C T). OutputsStand (rules_of m mid).mode.root (rules_of m mid).casts layers.outputs (parts (rules_of m mid) (e ∷ st.history)).calls)
        (sym fin.layers) puts

    pub enters_at : CoreStands m new (rules_of m mid) (state_after_entry (rules_of m mid) st e st.inbox)
        × (after_it ≡ before ++ new_messages (rules_of m mid) st.history e)
    enters_at =
        let r = rules_of m mid in
        let laws = laws_of mid old st stands in (
          record {
            rules = ap (λ (layers : Layers S E C T). rules_of m layers) fin.layers;
            own = ap (λ (layers : Layers S E C T). m.me layers.tagger) fin.layers ∙ ap (λ (t : T). m.me t) tagger ∙ stands.own;
            kinds = stands.kinds;
            session = stands.session;
            me = stands.me;
            serves = stands.serves;
            live = fin.stopped ∙ stands.live ∙ ap not live;
            history = (may, stands.history);
            whole = (may, stands.history);
            layers = λ _. subst (λ (layers : Layers S E C T). LayersStand m layers (parts r (e ∷ st.history))) (sym fin.layers) stood;
            lost = λ _. refl;
            shows = subst (λ (layers : Layers S E C T). LayersShow m layers r (parts r (e ∷ st.history)) (parts r (e ∷ st.history))) (sym fin.layers)
                (layers_show m well mid r refl (parts r (e ∷ st.history)) stood);
            outputs = λ _. new_outputs;
            shows_outputs = λ low s. inl (new_outputs low s);
            inbox = new_inbox;
            held = new_held;
            peers = length-map st.held (failing (λ x. is_open r (parts r (e ∷ st.history)) x || is_item_past r (parts r (e ∷ st.history)) x)) ∙ stands.peers;
            good_inbox = entered_inbox_good r laws st e st.inbox (may, stands.history) stands.good_inbox stands.good_held;
            good_held = entered_held_good r st e st.inbox stands.good_held;
            waiting = each_fails (λ x. is_open r (parts r (e ∷ st.history)) x || is_item_past r (parts r (e ∷ st.history)) x) st.held;
          },
          fin.out ∙ ap (λ (ms : List Msg). before ++ ordered ms) made_is,
        )

  -- the same for the rules that the layers had before
  module _ (opening : OpensWell m) (old new : Core S E C T) (mid : Layers S E C T) (seat : SameSeat old.layers mid) (change : Change) (e : Entry) (made before after_it : List Msg)
      (fin : Finishes m change (record old { layers = mid }) new made before after_it) where
    abbrev Enough : CoreState → Rules → Type 0
    Enough st r = CoreStands m old r st × MayEnter r (parts r st.history) e × LayersStand m mid (parts_after r e (parts r st.history))
        × OutputsStand r.mode.root r.casts mid.outputs (parts_after r e (parts r st.history)).calls
        × (made ≡ made_by r e (parts r st.history)) × HeldChange change e r (parts r st.history)

    abbrev Done : CoreState → Rules → Type 0
    Done st r = CoreStands m new r (state_after_entry r st e st.inbox) × (after_it ≡ before ++ new_messages r st.history e)

    pub enters_from : (st : CoreState) → st.live ≡ true → Enough st (rules_of m old.layers) → Done st (rules_of m old.layers)
    enters_from st live enough =
        let there = subst (λ (r : Rules). Enough st r) (sym (same_rules m old.layers mid seat)) enough in
        subst (λ (r : Rules). Done st r) (same_rules m old.layers mid seat)
        (enters_at opening old new mid change e made before after_it st fin seat.tagger there.0 live there.1 there.2 there.3 there.4 there.5)

  pub can_take : (old : Core S E C T) (item : Item) (st : CoreState) → IsLive m old st → IsTakable (rules_in m old) (parts (rules_in m old) st.history) item →
      CanTakeItem m old.layers item (parts (rules_in m old) st.history)
  can_take old item st is may = record {
    is_own = record { own = is.stands.own; below = is.stands.me };
    origin = slot_origin old.layers.params old.layers.mode item.slot may.good.in_grammar.slot;
    near = open_near (rules_in m old) (parts (rules_in m old) st.history) item may.is_open;
    may = may.may;
    stood = is.stands.layers is.live;
  }

  -- an entry of the layers, where there was no memory for what it makes due
  pub stops_after : (old new : Core S E C T) (mid : Layers S E C T) (e : Entry) (before after_it : List Msg) → SameSeat old.layers mid →
      Withdraws (record old { layers = mid }) new before after_it →
      ((st : CoreState) → IsLive m old st → MayEnter (rules_in m old) (parts (rules_in m old) st.history) e →
      LayersStand m mid (parts (rules_in m old) (e ∷ st.history))) →
      ((st : CoreState) → IsLive m old st → MayEnter (rules_in m old) (parts (rules_in m old) st.history) e →
      OutputsStand old.layers.mode.root (rules_in m old).casts mid.outputs (parts (rules_in m old) (e ∷ st.history)).calls) → StopsCore m old new e before after_it
  stops_after old new mid e before after_it seat back stood puts =
      let r = rules_in m old in
      record {
        seat = subst (λ (layers : Layers S E C T). SameSeat old.layers layers) (sym back.layers) seat;
        shows = λ st is may.
            subst (λ (layers : Layers S E C T). LayersShow m layers r (parts r st.history) (parts r (e ∷ st.history))) (sym back.layers)
            (layers_later m well mid r (same_rules m old.layers mid seat) (parts r st.history) (parts r (e ∷ st.history)) (stood st is may)
            (entry_part r (laws_of old.layers old st is.stands) st.history e (may, is.stands.history)));
        outputs = λ st is may.
            subst (λ (layers : Layers S E C T). OutputsShow old.layers.mode.root r.casts layers.outputs (parts r st.history).calls (parts r (e ∷ st.history)).calls)
            (sym back.layers) (λ low s. inr (puts st is may low s));
        inbox = back.inbox;
        held = back.held;
        out = back.out;
      }

  -- an item that was taken
  pub enters_item : OpensWell m → (old new : Core S E C T) (mid : Layers S E C T) (item : Item) (change : Change) (start made before after_it : List Msg) → start ≡ [] →
      SameSeat old.layers mid → TakesSo m old.layers mid item start made change → Finishes m change (record old { layers = mid }) new made before after_it →
      EntersCore m old new (Took item) before after_it
  enters_item opening old new mid item change start made before after_it none seat so fin =
      let r = rules_in m old in
      let takes = so.takes in
      let done : (st : CoreState) → IsLive m old st → IsTakable r (parts r st.history) item → Done opening old new mid seat change (Took item) made before after_it fin st r = λ st is may.
      let follow = may_follow r (laws_of old.layers old st is.stands) st.history is.stands.history item may in
      let can = can_take old item st is may in
      let proper = words_proper r (laws_of old.layers old st is.stands) st.history is.stands.history in
      enters_from opening old new mid seat change (Took item) made before after_it fin st is.live (
        is.stands,
        may,
        takes.grows (parts r st.history) can follow proper,
        takes.outputs (parts r st.history) can (is.stands.outputs is.live),
        takes.made (parts r st.history) can follow proper ∙ ap (λ (ms : List Msg). ms ++ made_by r (Took item) (parts r st.history)) none,
        held_by m old.layers item change (parts r st.history) can so.only,
      ) in
      record { state = λ st is may. (done st is may).0; out = λ st is may. (done st is may).1 }

  pub can_tell : (old : Core S E C T) (value : List ℕ) (st : CoreState) → IsLive m old st → IsGivable (rules_in m old) (parts (rules_in m old) st.history) value →
      CanTell m old.layers (Ask value) (parts (rules_in m old) st.history)
  can_tell old value st is may = record {
    is_own = record { own = is.stands.own; below = is.stands.me };
    may = (may.may, may_start_given (rules_in m old) (laws_of old.layers old st is.stands) st.history is.stands.history value may);
    stood = is.stands.layers is.live;
  }

  -- to give an input puts nothing out at a slot
  pub input_outputs : (old : Core S E C T) (mid : Layers S E C T) (value : List ℕ) (st : CoreState) → IsLive m old st → KeepsOutputs old.layers mid →
      OutputsStand old.layers.mode.root (rules_in m old).casts mid.outputs (parts (rules_in m old) (Given value ∷ st.history)).calls
  input_outputs old mid value st is kept =
      let r = rules_in m old in
      let p = parts r st.history in
      let layers = old.layers in
      outputs_same layers.mode.root r.casts layers.outputs mid.outputs p.calls (parts r (Given value ∷ st.history)).calls kept
      (λ s. out_started layers.mode m.cast_stands m.cast well.live m.cast_shown well.cast_shows well.values layers.params layers.me (m.tags layers.tagger)
      (r.service.says (seat_of r) p.words (Ask value)) p.calls s)
      (is.stands.outputs is.live)

  -- an input that was taken
  pub enters_input : OpensWell m → (old new : Core S E C T) (mid : Layers S E C T) (value : List ℕ) (start made before after_it : List Msg) → start ≡ [] →
      SameSeat old.layers mid → KeepsOutputs old.layers mid → TellsLayers m old.layers mid (Ask value) start made →
      Finishes m changes.Service (record old { layers = mid }) new made before after_it → EntersCore m old new (Given value) before after_it
  enters_input opening old new mid value start made before after_it none seat kept tells fin =
      let r = rules_in m old in
      let done : (st : CoreState) → IsLive m old st → IsGivable r (parts r st.history) value → Done opening old new mid seat changes.Service (Given value) made before after_it fin st r = λ st is may.
      let can = can_tell old value st is may in
      let proper = words_proper r (laws_of old.layers old st is.stands) st.history is.stands.history in
      enters_from opening old new mid seat changes.Service (Given value) made before after_it fin st is.live (
        is.stands,
        may,
        tells.grows (parts r st.history) can proper,
        input_outputs old mid value st is kept,
        tells.made (parts r st.history) can proper ∙ ap (λ (ms : List Msg). ms ++ made_by r (Given value) (parts r st.history)) none,
        tt,
      ) in
      record { state = λ st is may. (done st is may).0; out = λ st is may. (done st is may).1 }
