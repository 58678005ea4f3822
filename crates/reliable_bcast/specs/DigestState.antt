-- What a replica's part in one reliable broadcast by digests keeps, and what a call does to it.
use Rattle.std.specs.Prelude.{◌≡◌, ◌⊎◌, ℕ, ◌==◌, ◌≤◌, ◌<◌, Bool, true, false, not, ◌&&◌, ◌||◌, List, [], ◌∷◌, ◌++◌, Option, Some, None, is_some, is_none, nat_le, nat_lt, count_by, if◌then◌else◌, slice_set, slice_index_or, length, replicate, Result, Ok, Err}
use Rattle.std.specs.List.{flat_map}
use Rattle.std.specs.Option.{option_or}
use Rattle.std.specs.Str.{bytes_eq}
use Rattle.ritas_base.specs.declared.bytes.Mem.{Mem}
use Rattle.ritas_base.specs.declared.item.Kind.{Kind}
use Rattle.ritas_base.specs.declared.item.Kind.TheVariants as kinds
use Rattle.ritas_base.specs.declared.item.Item.{Item}
use Rattle.ritas_base.specs.declared.item.Msg.{Msg}
use Rattle.ritas_base.specs.declared.slot.Slot.{Slot}
use Rattle.ritas_base.specs.Numbers.{Numbers, quorum_of, ready_of, deliver_of}
use Rattle.ritas_base.specs.Members.{has_member}
use Rattle.ritas_base.specs.History.{Call, first, firsts, is_value, replicas}
use Rattle.ritas_base.specs.Messages.{Place, to_all}
use Rattle.ritas_base.specs.Tags.{Tags}
use Rattle.layer_api.specs.declared.broadcast.Heard.{Heard}
use Rattle.layer_api.specs.declared.broadcast.Heard.TheVariants.{Took, Repeat}
use Rattle.layer_api.specs.Broadcast.{Tagging}
use Rattle.layer_api.specs.BroadcastCalls.{CastShown}
use Rattle.reliable_bcast.specs.declared.digest_rb.Known.{Known}
use Rattle.reliable_bcast.specs.declared.digest_rb.DigestRb.{DigestRb}
use Rattle.reliable_bcast.specs.Bracha.{ready_value, out_by_value as carried_of}
use Rattle.reliable_bcast.specs.Digests.{known, to_one}
use Rattle.reliable_bcast.specs.VoteRows.{dropped_if, kept_value}
use Rattle.ritas_base.specs.Places.{is_awaited}

-- the value with this digest
abbrev pub value_with_digest : List Known → List ℕ → Option (List ℕ)
value_with_digest [] d = None
value_with_digest (k ∷ ks) d = if bytes_eq k.digest d then Some k.value else value_with_digest ks d

-- the value keeps what these calls tell at this place: of ECHO and READY no more than who said them, once a digest is
-- carried
pub record KeepsDigests (b : DigestRb) (at : Place) (tags : Tags) (h : List Call) : Type 0 where
  pub small : at.numbers.n ≤ 31
  pub params : b.params ≡ at.numbers
  pub me : b.me ≡ at.me
  pub slot : b.slot ≡ at.slot
  pub inited : b.inited ≡ is_some (first h at.slot.origin kinds.Init)
  pub readied : b.readied ≡ is_some (ready_value at.numbers h)
  pub echoes : b.echoes ≡ dropped_if (is_some b.full) (firsts at.numbers.n h kinds.Echo)
  pub readies : b.readies ≡ dropped_if (is_some b.full) (firsts at.numbers.n h kinds.Ready)
  pub wants : b.wants ≡ firsts at.numbers.n h kinds.Want
  pub given : (k : ℕ) → k < at.numbers.n → has_member b.given k ≡ is_some (first h k kinds.Value)
  pub values : (d : List ℕ) → value_with_digest b.values.items d ≡ known at tags h d
  pub full : b.full ≡ carried_of at h
  pub live : b.live ≡ true

-- before any call
pub record IsNew (p : Numbers) (replica : ℕ) (s : Slot) (b : DigestRb) : Type 0 where
  pub small : p.n ≤ 31
  pub params : b.params ≡ p
  pub me : b.me ≡ replica
  pub slot : b.slot ≡ s
  pub inited : b.inited ≡ false
  pub readied : b.readied ≡ false
  pub echoes : b.echoes ≡ replicate p.n None
  pub readies : b.readies ≡ replicate p.n None
  pub wants : b.wants ≡ replicate p.n None
  pub given : (k : ℕ) → has_member b.given k ≡ false
  pub values : b.values.items ≡ []
  pub full : b.full ≡ None
  pub live : b.live ≡ true

abbrev pub value_for_full : List Known → Option (List ℕ) → Option (List ℕ)
value_for_full ks None = None
value_for_full ks (Some d) = value_with_digest ks d

-- what is delivered
abbrev pub delivered_of : DigestRb → Option (List ℕ)
delivered_of b = value_for_full b.values.items b.full

abbrev pub digest_shown : DigestRb → CastShown
digest_shown b = record { out = delivered_of b; ready = λ i. true }

-- ---- a value

-- VALUE to a replica, where it is another one and among those who asked
abbrev pub answer_in : ℕ → ℕ → List ℕ → ℕ → Option (List ℕ)
answer_in me asked m k = if not (k == me) && has_member asked k then Some m else None

-- VALUE to each other replica that asked for its digest
abbrev pub answer_for : DigestRb → List ℕ → List ℕ → ℕ → Option (List ℕ)
answer_for b d m k = if not (k == b.me) && (nat_lt k (length b.wants) && is_value d (slice_index_or b.wants k None)) then Some m else None

abbrev pub answers_to : DigestRb → List ℕ → List ℕ → List Msg
answers_to b d m = flat_map (λ k. to_one b.slot k (answer_for b d m k)) (replicas b.params.n)

-- it is kept, where none with its digest is known, and those who asked are answered
abbrev pub with_known : List Known → List ℕ → List ℕ → List Known
with_known ks d m = if is_some (value_with_digest ks d) then ks else ks ++ record { digest = d; value = m } ∷ []

abbrev pub answers : DigestRb → List ℕ → List ℕ → List Msg
answers b d m = if is_some (value_with_digest b.values.items d) then [] else answers_to b d m

pub record LearnsValue (old new : DigestRb) (d m : List ℕ) (before after : List Msg) : Type 0 where
  pub state : new ≡ record old { values = new.values }
  pub values : new.values.items ≡ with_known old.values.items d m
  pub said : after ≡ before ++ answers old d m

-- nothing that is kept changes
pub record IsSameState (old new : DigestRb) : Type 0 where
  pub state : new ≡ record old { values = new.values }
  pub values : new.values.items ≡ old.values.items

-- nothing changes
pub record DigestsUnchanged (old new : DigestRb) (before after : List Msg) : Type 0 where
  pub state : new ≡ old
  pub out : after ≡ before

-- ---- INIT

pub record AfterInit (t : Tagging) (old new : DigestRb) (i : Item) : Type 0 where
  pub state : new ≡ record old { inited = true; values = new.values }
  pub values : new.values.items ≡ with_known old.values.items (t.tags.digest i.value) i.value

abbrev pub HearsInit : Tagging → DigestRb → DigestRb → Item → List Msg → List Msg → Result Heard Mem → Type 0
HearsInit t old new i before after (Ok Took) =
    (old.inited ≡ false) × AfterInit t old new i
    × (after ≡ before ++ (to_all old.slot kinds.Echo (Some (t.tags.digest i.value)) ++ answers old (t.tags.digest i.value) i.value))
HearsInit t old new i before after (Ok Repeat) = (old.inited ≡ true) × DigestsUnchanged old new before after
HearsInit t old new i before after (Err e) = (old.inited ≡ false) × (after ≡ before) × (IsSameState old new ⊎ AfterInit t old new i)

-- ---- VALUE

pub record AfterValue (t : Tagging) (old new : DigestRb) (i : Item) : Type 0 where
  pub state : new ≡ record old { given = new.given; values = new.values }
  pub values : new.values.items ≡ with_known old.values.items (t.tags.digest i.value) i.value
  pub given : (k : ℕ) → has_member new.given k ≡ (has_member old.given k || (k == i.from))

abbrev pub HearsValue : Tagging → DigestRb → DigestRb → Item → List Msg → List Msg → Result Heard Mem → Type 0
HearsValue t old new i before after (Ok Took) =
    (has_member old.given i.from ≡ false) × AfterValue t old new i × (after ≡ before ++ answers old (t.tags.digest i.value) i.value)
HearsValue t old new i before after (Ok Repeat) = (i.from < 32 → has_member old.given i.from ≡ true) × DigestsUnchanged old new before after
HearsValue t old new i before after (Err e) = (has_member old.given i.from ≡ false) × (after ≡ before) × (IsSameState old new ⊎ AfterValue t old new i)

-- ---- votes

abbrev pub has_backing : DigestRb → List ℕ → Bool
has_backing b d = nat_le (quorum_of b.params) (count_by (is_value d) b.echoes) || nat_le (ready_of b.params) (count_by (is_value d) b.readies)

abbrev pub has_carriers : DigestRb → List ℕ → Bool
has_carriers b d = nat_le (deliver_of b.params) (count_by (is_value d) b.readies)

abbrev pub settled_by_digest : DigestRb → List ℕ → DigestRb
settled_by_digest b d = record b { readied = b.readied || has_backing b d }

abbrev pub ready_message : DigestRb → List ℕ → List Msg
ready_message b d = to_all b.slot kinds.Ready (if not b.readied && has_backing b d then Some d else None)

pub record DigestSettles (old new : DigestRb) (d : List ℕ) (before after : List Msg) : Type 0 where
  pub state : new ≡ settled_by_digest old d
  pub said : after ≡ before ++ ready_message old d

-- the digest is carried now, and none was before
abbrev pub is_carried_now : DigestRb → List ℕ → Bool
is_carried_now b d = is_none b.full && has_carriers b d

abbrev pub carried_by_digest : DigestRb → List ℕ → DigestRb
carried_by_digest b d =
    record b {
      full = option_or b.full (if has_carriers b d then Some d else None);
      echoes = dropped_if (is_carried_now b d) b.echoes;
      readies = dropped_if (is_carried_now b d) b.readies;
    }

-- WANT is said where the digest is carried now, and its value isn't known
abbrev pub is_digest_wanted : DigestRb → List ℕ → Bool
is_digest_wanted b d = is_carried_now b d && is_none (value_with_digest b.values.items d)

abbrev pub want_message : DigestRb → List ℕ → List Msg
want_message b d = to_all b.slot kinds.Want (if is_digest_wanted b d then Some d else None)

pub record Carries (old new : DigestRb) (d : List ℕ) (before after : List Msg) : Type 0 where
  pub state : new ≡ carried_by_digest old d
  pub said : after ≡ before ++ want_message old d

abbrev pub echoed_by : DigestRb → Item → DigestRb
echoed_by b i = record b { echoes = slice_set b.echoes i.from (Some (kept_value (is_some b.full) i.value)) }

abbrev pub readied_by : DigestRb → Item → DigestRb
readied_by b i = record b { readies = slice_set b.readies i.from (Some (kept_value (is_some b.full) i.value)) }

abbrev pub wanted_by : DigestRb → Item → DigestRb
wanted_by b i = record b { wants = slice_set b.wants i.from (Some i.value) }

-- a vote whose value is no digest, which doesn't come, changes nothing
abbrev pub HearsEcho : DigestRb → DigestRb → Item → List Msg → List Msg → Result Heard Mem → Type 0
HearsEcho old new i before after (Ok Took) =
    (is_awaited old.echoes i.from ≡ true) × (new ≡ settled_by_digest (echoed_by old i) i.value) × (after ≡ before ++ ready_message (echoed_by old i) i.value)
HearsEcho old new i before after (Ok Repeat) = (length i.value ≡ 32 → is_awaited old.echoes i.from ≡ false) × DigestsUnchanged old new before after
HearsEcho old new i before after (Err e) = (is_awaited old.echoes i.from ≡ true) × (after ≡ before) × (delivered_of new ≡ delivered_of old)

abbrev pub after_ready : DigestRb → Item → DigestRb
after_ready b i = carried_by_digest (settled_by_digest (readied_by b i) i.value) i.value

abbrev pub HearsReady : DigestRb → DigestRb → Item → List Msg → List Msg → Result Heard Mem → Type 0
HearsReady old new i before after (Ok Took) =
    (is_awaited old.readies i.from ≡ true) × (new ≡ after_ready old i)
    × (after ≡ before ++ (ready_message (readied_by old i) i.value ++ want_message (settled_by_digest (readied_by old i) i.value) i.value))
HearsReady old new i before after (Ok Repeat) = (length i.value ≡ 32 → is_awaited old.readies i.from ≡ false) × DigestsUnchanged old new before after
HearsReady old new i before after (Err e) =
    (is_awaited old.readies i.from ≡ true) × (after ≡ before) × ((delivered_of new ≡ delivered_of old) ⊎ (delivered_of new ≡ delivered_of (after_ready old i)))

-- the answer to WANT
abbrev pub want_answer : DigestRb → Item → List Msg
want_answer b i = to_one b.slot i.from (if i.from == b.me then None else value_with_digest b.values.items i.value)

abbrev pub HearsWant : DigestRb → DigestRb → Item → List Msg → List Msg → Result Heard Mem → Type 0
HearsWant old new i before after (Ok Took) =
    (is_awaited old.wants i.from ≡ true) × (new ≡ wanted_by old i) × (after ≡ before ++ want_answer old i)
HearsWant old new i before after (Ok Repeat) = (length i.value ≡ 32 → is_awaited old.wants i.from ≡ false) × DigestsUnchanged old new before after
HearsWant old new i before after (Err e) = (is_awaited old.wants i.from ≡ true) × (after ≡ before) × (delivered_of new ≡ delivered_of old)

-- ---- an item of each kind

abbrev pub HearsByDigest : Kind → Tagging → DigestRb → DigestRb → Item → List Msg → List Msg → Result Heard Mem → Type 0
HearsByDigest kinds.Init t old new i before after r = HearsInit t old new i before after r
HearsByDigest kinds.Echo t old new i before after r = HearsEcho old new i before after r
HearsByDigest kinds.Ready t old new i before after r = HearsReady old new i before after r
HearsByDigest kinds.Want t old new i before after r = HearsWant old new i before after r
HearsByDigest kinds.Value t old new i before after r = HearsValue t old new i before after r
HearsByDigest _ t old new i before after r = (r ≡ Ok Repeat) × DigestsUnchanged old new before after
