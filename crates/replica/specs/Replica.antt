-- What the value of a replica stands for.
use Rattle.std.specs.Prelude.{◌≡◌, ℕ, ◌%◌, ◌^◌, Bool, true, false, List, None, ◌⊎◌}
use Rattle.ritas_base.specs.declared.slot.Slot.{Slot}
use Rattle.ritas_base.specs.Messages.{Place}
use Rattle.ritas_base.specs.Tags.{Tags}
use Rattle.ritas_base.specs.History.{Call}
use Rattle.layer_api.specs.Broadcast.{BroadcastRules}
use Rattle.layer_api.specs.BroadcastCalls.{CastShown}
use Rattle.layer_api.specs.Service.{ServiceRules, Seat}
use Rattle.layer_api.specs.Words.{Word}
use Rattle.layer_api.specs.ServiceCalls.{ServiceShown}
use Rattle.keyed_channel.specs.Keyed.{tags_of}
use Rattle.keyed_channel.specs.KeyRow.{KeyRow}
use Rattle.command_log.specs.Rows.{Start}
use Rattle.ritas_core.specs.Rules.{Rules}
use Rattle.ritas_core.specs.Parts.{Entry}
use Rattle.ritas_core.specs.Machine.{CoreState, What, with_lost, moved}
use Rattle.ritas_core.specs.Calls.{IsCoreStep, entry_of_call}
use Rattle.ritas_core.specs.declared.kernel.Core.{Core}
use Rattle.ritas_core.specs.Shown.{tagger_of}
use Rattle.ritas_core.specs.Stands.{Meaning, meaning, CoreStands}
use Rattle.replica.specs.declared.replica.Replica.{Replica}
use Rattle.replica.specs.Frames.{count_for}
use Rattle.replica.specs.Stands.{frames_made}
use Rattle.replica.specs.Sending.{AreCounts}
use Rattle.replica.specs.CommandRows.{Follows, LiesBetween}

-- what the traits say of a service, of the broadcast beside the reliable one and of a coin, with a replica's keys as the tagger
abbrev pub with_keys : {S E C : Type 0} → (S → Seat → List Word → Type 0) → ServiceRules → (S → ServiceShown)
    → (E → Place → Tags → List Call → Type 0) → BroadcastRules → (E → CastShown) → (C → Slot → Bool) → Meaning S E C KeyRow
with_keys service_stands service service_shown cast_stands cast cast_shown bits =
    meaning service_stands service service_shown cast_stands cast cast_shown bits (λ k. k.me) tags_of

-- the frames made are counted, modulo 2^64, for each receiver and all together
pub record AreCounted (r : Rules) (k : KeyRow) (h : List Entry) (counts : List ℕ) (sent : ℕ) : Type 0 where
  pub each : AreCounts k.n counts (count_for r h)
  pub all : sent ≡ frames_made r k h % 2 ^ 64

-- the replica goes on as its core does, and its log, which begins so, follows
pub record StandsGoing {S E C : Type 0} (s : Start) (m : Meaning S E C KeyRow) (rep : Replica S E C) (r : Rules) (k : KeyRow) (st : CoreState) : Type 0 where
  pub going : rep.stopped ≡ false
  pub core : CoreStands m rep.core r st
  pub counted : AreCounted r k st.history rep.counts rep.sent
  pub log : Follows s r st.history rep.log rep.fed

-- the state before the call that stopped it
abbrev pub revived : CoreState → CoreState
revived st = record st { live = true; lost = None }

-- the core did what the replica lost: a call on it that took an entry
pub record StandsAhead {S E C : Type 0} (m : Meaning S E C KeyRow) (core : Core S E C KeyRow) (r : Rules) (st : CoreState) : Type 0 where
  pub what : What
  pub step : IsCoreStep r (revived st) what
  pub lost : st.lost ≡ entry_of_call (revived st) what
  pub stands : CoreStands m core r (moved r (revived st) what).state

-- it was without memory to feed its log or to seal a frame: it keeps its state and made no frame, its core is ahead of it, and its
-- log lies between
pub record StandsStopped {S E C : Type 0} (s : Start) (m : Meaning S E C KeyRow) (rep : Replica S E C) (r : Rules) (k : KeyRow) (st : CoreState) : Type 0 where
  pub halted : rep.stopped ≡ true
  pub dead : st.live ≡ false
  pub ahead : StandsAhead m rep.core r st
  pub sent : rep.sent ≡ frames_made r k st.history % 2 ^ 64
  pub start : rep.log.start ≡ s
  pub log : LiesBetween s r st.history (with_lost st) rep.log.rows

-- the replica stands for this state, by these rules and keys, and its log begins so
pub record ReplicaStands {S E C : Type 0} (s : Start) (m : Meaning S E C KeyRow) (rep : Replica S E C) (r : Rules) (k : KeyRow) (st : CoreState) : Type 0 where
  pub keys : tagger_of rep.core ≡ k
  pub own : k.me ≡ r.casts.me
  pub many : k.n ≡ r.casts.numbers.n
  pub state : StandsGoing s m rep r k st ⊎ StandsStopped s m rep r k st
