-- Whatever comes to a replica, correct or not: its history met its conditions, and each item that it stores may be given.
use Rattle.std.proofs.Common.{◌≡◌, ℕ, ◌<◌, ◌==◌, Bool, true, false, ◌||◌, if◌then◌else◌, Option, Some, None, Result, Ok, Err, List, [], ◌∷◌, ◌++◌, sym, subst, refl}
use Rattle.std.proofs.lemmas.Bool.{eqb-true}
use Rattle.ritas_base.specs.declared.event.Event.{Event}
use Rattle.ritas_base.specs.declared.item.Item.{Item}
use Rattle.frame_codec.specs.declared.fault.BodyFault.{BodyFault}
use Rattle.frame_codec.specs.Body.{body_answer}
use Rattle.keyed_channel.specs.Frames.{Opening, opening}
use Rattle.keyed_channel.specs.declared.frame.OpenFault.{OpenFault}
use Rattle.ooc_buffers.specs.Lists.{released}
use Rattle.ritas_core.specs.declared.fault.CoreFault.{CoreFault}
use Rattle.ritas_core.specs.declared.verdict.Verdict.{Verdict}
use Rattle.ritas_core.specs.declared.verdict.Verdict.TheVariants as verdicts
use Rattle.ritas_core.specs.declared.fault.CoreFault.TheVariants as faults
use Rattle.ritas_core.specs.Rules.{Rules}
use Rattle.ritas_core.specs.Parts.{Entry, Took, Given, parts}
use Rattle.ritas_core.specs.Order.{new_messages, own_items}
use Rattle.ritas_core.specs.Checks.{is_open, is_item_past, body_length, verdict_on, input_check, IsGood, IsHistory, MayEnter}
use Rattle.ritas_core.specs.Machine as core
use Rattle.ritas_core.specs.Machine.{CoreState, What, MayGive, state_after_entry, gives_item, given_input, turned, moved_live, moved}
use Rattle.replica.specs.Handling.{ReplicaCall, Frame, Input, Turn, given_body, given_frame, handled}
use Rattle.world_model.specs.World.{Setting, rules_at, CallAt, call_of, handled_at, after_call, states_of, states_before}
use Rattle.world_model.specs.OneValueEach.{Codec}
use Rattle.world_model.proofs.Below.{IsFounded}
use Rattle.world_model.proofs.Stored.{AreAll, AreAllHeld, all_append, all_own, all_released, all_remaining, all_with_kept, none_held}
use Rattle.world_model.proofs.Worlds.{input_good}

pub record IsWell (r : Rules) (st : CoreState) : Type 0 where
  pub met : IsHistory r st.history
  pub waiting : AreAll (IsGood r) st.inbox
  pub held : AreAllHeld (IsGood r) st.held

-- ---- calls on the core

-- an entry more
well_enters : (r : Rules) → IsFounded r → (st : CoreState) → IsWell r st → (e : Entry) (waiting : List Item) → MayEnter r (parts r st.history) e → AreAll (IsGood r) waiting
    → IsWell r (state_after_entry r st e waiting)
well_enters r laws st well e waiting may all =
    let me = r.casts.me in
    let new = new_messages r st.history e in
    let open_now : Item → Bool = is_open r (parts r (e ∷ st.history)) in
    let met : IsHistory r (e ∷ st.history) = (may, well.met) in
    record {
      met = met;
      waiting =
          all_append (IsGood r) (waiting ++ own_items me new) (released open_now st.held)
          (all_append (IsGood r) waiting (own_items me new) all
          (all_own (IsGood r) me new (λ m here reached. record { in_grammar = laws.core.sent r laws.layers st.history e met m here; sender = laws.layers.me })))
          (all_released (IsGood r) open_now st.held well.held);
      held = all_remaining (IsGood r) (λ x. open_now x || is_item_past r (parts r (e ∷ st.history)) x) st.held well.held;
    }

well_item : (r : Rules) → IsFounded r → (st : CoreState) → IsWell r st → (item : Item) (waiting : List Item) → IsGood r item → AreAll (IsGood r) waiting → (v : Verdict)
    → verdict_on r (parts r st.history) st.held item ≡ v → IsWell r (gives_item r st item waiting v).state
well_item r laws st well item waiting good all (verdicts.Refuse fault) is = record { met = well.met; waiting = all; held = well.held }
well_item r laws st well item waiting good all verdicts.Again is = record { met = well.met; waiting = all; held = well.held }
well_item r laws st well item waiting good all verdicts.Hold is =
    record { met = well.met; waiting = all; held = all_with_kept (IsGood r) st.held item (body_length item) well.held good }
well_item r laws st well item waiting good all verdicts.Take is =
    well_enters r laws st well (Took item) waiting (laws.core.takable r laws.layers st.history well.met st.held item good is) all

well_input : (r : Rules) → IsFounded r → (st : CoreState) → IsWell r st → (v : List ℕ) (fault : Option CoreFault) → input_check r (parts r st.history) v ≡ fault
    → IsWell r (given_input r st v fault).state
well_input r laws st well v (Some fault) is = record { met = well.met; waiting = well.waiting; held = well.held }
well_input r laws st well v None is =
    let p = parts r st.history in
    well_enters r laws st well (Given v) st.inbox (laws.core.givable r p v laws.layers.session laws.layers.serves (input_good laws.core.faultless r p v is) is) well.waiting

well_turn : (r : Rules) → IsFounded r → (st : CoreState) → IsWell r st → (inbox : List Item) → AreAll (IsGood r) inbox → IsWell r (turned r st inbox).state
well_turn r laws st well [] all = record { met = well.met; waiting = tt; held = well.held }
well_turn r laws st well (item ∷ waiting) all = well_item r laws st well item waiting all.0 all.1 (verdict_on r (parts r st.history) st.held item) refl

well_live : (r : Rules) → IsFounded r → (st : CoreState) → IsWell r st → (what : What) → MayGive r what → IsWell r (moved_live r st what).state
well_live r laws st well (core.Frame item) good = well_item r laws st well item st.inbox good well.waiting (verdict_on r (parts r st.history) st.held item) refl
well_live r laws st well (core.Input v) good = well_input r laws st well v (input_check r (parts r st.history) v) refl
well_live r laws st well core.Turn good = well_turn r laws st well st.inbox well.waiting

well_moved : (r : Rules) → IsFounded r → (st : CoreState) → IsWell r st → (what : What) → MayGive r what → IsWell r (moved r st what).state
well_moved r laws st well what good = as_live st.live
  where
    as_live : (live : Bool) → IsWell r (if live then moved_live r st what else core.stays st st.inbox (Err faults.Stopped)).state
    as_live true = well_live r laws st well what good
    as_live false = record { met = well.met; waiting = well.waiting; held = well.held }

-- ---- calls on the replicas of a world

-- what its replicas rest on, correct or not
pub record IsLaid (w : Setting) : Type 0 where
  pub founded : (i : ℕ) → i < w.numbers.n → IsFounded (rules_at w i)
  pub sender : (i : ℕ) (bytes : List ℕ) (o : Opening) → i < w.numbers.n → opening (w.keys i) bytes ≡ Ok o → o.from < w.numbers.n
  pub codec : Codec w

-- what opens and is read may be given
opened_good : (w : Setting) → IsLaid w → (i : ℕ) → i < w.numbers.n → (bytes : List ℕ) (o : Opening) (item : Item) → opening (w.keys i) bytes ≡ Ok o
    → body_answer w.numbers w.mode o.from o.body ≡ Ok item → IsGood (rules_at w i) item
opened_good w laid i below bytes o item opens reads =
    let good = laid.codec.good o.from o.body item reads in
    record { in_grammar = good.0; sender = subst (λ (k : ℕ). k < w.numbers.n) (sym good.1) (laid.sender i bytes o below opens) }

well_frame : (w : Setting) → IsLaid w → (i : ℕ) → i < w.numbers.n → (st : CoreState) → IsWell (rules_at w i) st → (bytes : List ℕ)
    → IsWell (rules_at w i) (given_frame (rules_at w i) (w.keys i) st (opening (w.keys i) bytes)).state
well_frame w laid i below st well bytes = opened (opening (w.keys i) bytes) refl
  where
    read : (o : Opening) → opening (w.keys i) bytes ≡ Ok o → (b : Result Item BodyFault) → body_answer w.numbers w.mode o.from o.body ≡ b
        → IsWell (rules_at w i) (given_body (rules_at w i) (w.keys i) st b).state
    read o opens (Ok item) reads = well_moved (rules_at w i) (laid.founded i below) st well (core.Frame item) (opened_good w laid i below bytes o item opens reads)
    read o opens (Err fault) reads = well

    opened : (a : Result Opening OpenFault) → opening (w.keys i) bytes ≡ a → IsWell (rules_at w i) (given_frame (rules_at w i) (w.keys i) st a).state
    opened (Ok o) opens = read o opens (body_answer w.numbers w.mode o.from o.body) refl
    opened (Err fault) opens = well

well_handled : (w : Setting) → IsLaid w → (i : ℕ) → i < w.numbers.n → (st : CoreState) → IsWell (rules_at w i) st → (call : ReplicaCall)
    → IsWell (rules_at w i) (handled (rules_at w i) (w.keys i) st call).state
well_handled w laid i below st well (Frame bytes) = well_frame w laid i below st well bytes
well_handled w laid i below st well (Input v) = well_moved (rules_at w i) (laid.founded i below) st well (core.Input v) tt
well_handled w laid i below st well Turn = well_moved (rules_at w i) (laid.founded i below) st well core.Turn tt

-- ---- events

abbrev AreWell : Setting → (ℕ → CoreState) → Type 0
AreWell w states = (i : ℕ) → i < w.numbers.n → IsWell (rules_at w i) (states i)

well_called : (w : Setting) → IsLaid w → (states : ℕ → CoreState) → AreWell w states → (c : Option CallAt) → AreWell w (after_call w states c)
well_called w laid states well None i below = well i below
well_called w laid states well (Some c) i below = there (c.at == i) refl
  where
    there : (b : Bool) → (c.at == i) ≡ b → IsWell (rules_at w i) (if b then (handled_at w states c).state else states i)
    there true here =
        let same : c.at ≡ i = eqb-true c.at i here in
        let at_below : c.at < w.numbers.n = subst (λ (k : ℕ). k < w.numbers.n) (sym same) below in
        subst (λ (k : ℕ). IsWell (rules_at w k) (handled_at w states c).state) same (well_handled w laid c.at at_below (states c.at) (well c.at at_below) c.call)
    there false here = well i below

-- nothing of this hangs on whether a replica is stopped
well_before : (w : Setting) (es : List Event) → AreWell w (states_of w es) → AreWell w (states_before w es)
well_before w es well i below = let at = well i below in record { met = at.met; waiting = at.waiting; held = at.held }

pub well_after : (w : Setting) → IsLaid w → (es : List Event) → AreWell w (states_of w es)
unfolding states_of
well_after w laid [] i below = record { met = tt; waiting = tt; held = none_held (IsGood (rules_at w i)) w.numbers.n }
well_after w laid (e ∷ es) i below =
    well_called w laid (states_before w es) (well_before w es (well_after w laid es)) (call_of w (states_before w es) e) i below
