-- The log of each replica of a world only grows, whatever comes.
use Rattle.std.proofs.Common.{◌≡◌, ℕ, ◌<◌, ◌==◌, Bool, true, false, List, [], ◌∷◌, ◌++◌, Option, Some, None, refl, sym, subst, inl, inr, if◌then◌else◌}
use Rattle.std.proofs.lemmas.Bool.{eqb-true, both_ways}
use Rattle.ritas_base.specs.declared.event.Event.{Event}
use Rattle.layer_api.specs.Broadcast.{BroadcastRules}
use Rattle.layer_api.specs.OneValue.{ValueLaws}
use Rattle.layer_api.specs.Service.{ServiceRules, WordLaws, IsPart}
use Rattle.keyed_channel.specs.Laws.{OpenedFromPeer}
use Rattle.ritas_core.specs.Rules.{Rules, route_of}
use Rattle.ritas_core.specs.Checks.{IsHistory}
use Rattle.ritas_core.specs.Machine.{CoreState}
use Rattle.ritas_core.specs.Parts.{Entry}
use Rattle.command_log.specs.Rows.{Start}
use Rattle.replica.specs.CommandRows as replica
use Rattle.replica.proofs.Growing.{rows_grow, part_itself}
use Rattle.world_model.specs.World.{Setting, rules_at, CallAt, call_of, handled_at, after_call, states_of, states_before}
use Rattle.world_model.specs.OneValueEach.{Codec, history_of}
use Rattle.world_model.specs.Agree.{rows_at}
use Rattle.world_model.specs.CoreLaws.{CoreLaws}
use Rattle.world_model.specs.EveryWorld.{IsWorld, LogsGrow}
use Rattle.world_model.proofs.Below.{IsFounded}
use Rattle.world_model.proofs.Conditions.{IsLaid, well_after}
use Rattle.world_model.proofs.EveryWorld.{values_at, forms_at}
use Rattle.world_model.proofs.Histories.{Grew, grew}
use Rattle.world_model.proofs.Positions.{part_of_part}
use Rattle.world_model.proofs.Worlds.{IsAtCorrect, event_at}

-- ---- what the replicas of a world rest on

pub laid : (service : ServiceRules) (other : BroadcastRules) (w : Setting) → IsWorld service other w → ValueLaws other → WordLaws service
    → OpenedFromPeer → Codec w → CoreLaws → IsLaid w
laid service other w is values words opened_from_peer codec core = record {
  founded = λ i below. record {
    layers = record {
      casts = λ s. subst (λ (x : BroadcastRules). ValueLaws x) (sym (is.casts s)) (values_at (route_of w.mode s) other values);
      words = subst (λ (x : ServiceRules). WordLaws x) (sym is.words) words;
      session = is.session;
      me = below;
      serves = subst (λ (x : ServiceRules). x.serves w.mode.root ≡ true) (sym is.words) is.serves;
      kinds = forms_at service other w is i;
    };
    core = core;
  };
  sender = λ i bytes o below opens. subst (λ (n : ℕ). o.from < n) (is.own i below).1 (opened_from_peer (w.keys i) bytes o opens).0;
  codec = codec;
}

-- ---- histories

called_grew : (w : Setting) (states : ℕ → CoreState) (c : Option CallAt) (i : ℕ) → Grew (states i).history (after_call w states c i).history
called_grew w states None i = inl refl
called_grew w states (Some c) i = here (c.at == i) refl
  where
    here : (b : Bool) → (c.at == i) ≡ b → Grew (states i).history (if b then (handled_at w states c).state else states i).history
    here true same =
        subst (λ (k : ℕ). Grew (states k).history (handled_at w states c).state.history) (eqb-true c.at i same)
        (grew (rules_at w c.at) (w.keys c.at) (states c.at) c.call)
    here false other = inl refl

-- a faulty replica stays as it is
called_other : (w : Setting) (states : ℕ → CoreState) (c : Option CallAt) (i : ℕ) → IsAtCorrect w c → w.is_correct i ≡ false
    → (after_call w states c i).history ≡ (states i).history
called_other w states None i correct faulty = refl
called_other w states (Some c) i correct faulty = here (c.at == i) refl
  where
    here : (b : Bool) → (c.at == i) ≡ b → (if b then (handled_at w states c).state else states i).history ≡ (states i).history
    here true same = absurd (both_ways (w.is_correct i) faulty (subst (λ (k : ℕ). w.is_correct k ≡ true) (eqb-true c.at i same) correct))
    here false other = refl

rows_grew : (s : Start) (r : Rules) → IsFounded r → (h now : List Entry) → IsHistory r h → IsHistory r now → Grew h now → IsPart (replica.history_rows s r h) (replica.history_rows s r now)
rows_grew s r laws h now met later (inl same) =
    subst (λ (x : List Entry). IsPart (replica.history_rows s r h) (replica.history_rows s r x)) (sym same) (part_itself (replica.history_rows s r h))
rows_grew s r laws h now met later (inr more) =
    let proper = laws.core.proper r laws.layers h met in
    let after = laws.core.proper r laws.layers (more.0 ∷ h) (subst (λ (x : List Entry). IsHistory r x) more.1 later) in
    subst (λ (x : List Entry). IsPart (replica.history_rows s r h) (replica.history_rows s r x)) (sym more.1) (rows_grow r laws.layers more.0 h proper after s)

-- ---- logs

module _ (w : Setting) (founds : IsLaid w) (within : (i : ℕ) → w.is_correct i ≡ true → i < w.numbers.n) where
  rows_next : (es : List Event) (e : Event) (i : ℕ) → IsPart (rows_at w es i) (rows_at w (e ∷ es) i)
  unfolding states_of
  rows_next es e i = here (w.is_correct i) refl
    where
      here : (b : Bool) → w.is_correct i ≡ b → IsPart (rows_at w es i) (rows_at w (e ∷ es) i)
      here true correct =
          let below = within i correct in
          rows_grew w.start (rules_at w i) (founds.founded i below) (history_of w es i) (history_of w (e ∷ es) i)
          (well_after w founds es i below).met (well_after w founds (e ∷ es) i below).met
          (called_grew w (states_before w es) (call_of w (states_before w es) e) i)
      here false faulty =
          let same : history_of w (e ∷ es) i ≡ history_of w es i = called_other w (states_before w es) (call_of w (states_before w es) e) i (event_at w (states_before w es) e) faulty in
          subst (λ (h : List Entry). IsPart (rows_at w es i) (replica.history_rows w.start (rules_at w i) h)) (sym same) (part_itself (rows_at w es i))

  rows_later : (more es : List Event) (i : ℕ) → IsPart (rows_at w es i) (rows_at w (more ++ es) i)
  rows_later [] es i = part_itself (rows_at w es i)
  rows_later (e ∷ more) es i =
      part_of_part (rows_at w es i) (rows_at w (more ++ es) i) (rows_at w (e ∷ more ++ es) i) (rows_later more es i) (rows_next (more ++ es) e i)

pub logs_grow_law : (service : ServiceRules) (other : BroadcastRules) → ValueLaws other → WordLaws service → OpenedFromPeer
    → ((w : Setting) → IsWorld service other w → Codec w) → CoreLaws → LogsGrow service other
logs_grow_law service other values words opened_from_peer codec core w more es i is =
    rows_later w (laid service other w is values words opened_from_peer (codec w is) core) is.within more es i
