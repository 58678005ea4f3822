-- What a replica's part in one echo broadcast keeps, and what a call does to it.
use Rattle.std.specs.Prelude.{◌≡◌, ℕ, ◌<◌, Bool, true, false, not, ◌&&◌, ◌||◌, List, [], ◌∷◌, ◌++◌, map, length, Option, Some, None, is_some, nat_lt, nat_le, slice_set, if◌then◌else◌, Result, Ok, Err}
use Rattle.std.specs.List.{list_any}
use Rattle.ritas_base.specs.declared.bytes.Mem.{Mem}
use Rattle.ritas_base.specs.declared.item.Kind.{Kind}
use Rattle.ritas_base.specs.declared.item.Kind.TheVariants as kinds
use Rattle.ritas_base.specs.declared.item.Kind.TheVariants.{Hashes}
use Rattle.ritas_base.specs.declared.item.To.TheVariants.{One}
use Rattle.ritas_base.specs.declared.item.Item.{Item}
use Rattle.ritas_base.specs.declared.item.Msg.{Msg}
use Rattle.ritas_base.specs.declared.slot.Slot.{Slot}
use Rattle.ritas_base.specs.Numbers.{IsSession, quorum_of}
use Rattle.ritas_base.specs.Members.{has_member, member_count}
use Rattle.ritas_base.specs.History.{Call, is_value, replicas}
use Rattle.ritas_base.specs.Messages.{Place, kind_eq}
use Rattle.ritas_base.specs.Tags.{Tags}
use Rattle.frame_codec.specs.Format.{Is}
use Rattle.frame_codec.specs.Grammar.{column}
use Rattle.layer_api.specs.declared.broadcast.Heard.{Heard}
use Rattle.layer_api.specs.declared.broadcast.Heard.TheVariants.{Took, Repeat}
use Rattle.layer_api.specs.Broadcast.{Tagging}
use Rattle.frame_codec.specs.Values.{column_row}
use Rattle.layer_api.specs.BroadcastCalls.{CastShown}
use Rattle.layer_api.specs.Entries.{sent}
use Rattle.echo_bcast.specs.declared.eb.Sent.{Sent}
use Rattle.echo_bcast.specs.declared.eb.Eb.{Eb}
use Rattle.echo_bcast.specs.Matrix.{hashes_bytes, hashes_in, columns_of, is_good}
use Rattle.ritas_base.specs.Places.{is_awaited}

-- what is kept of the message that was sent
abbrev pub sent_kept_as : Tags → Option (List ℕ) → Option Sent
sent_kept_as tags None = None
sent_kept_as tags (Some m) = Some (record { value = m; digest = tags.digest m })

-- the value keeps what these calls tell at this place
pub record KeepsMatrix (b : Eb) (at : Place) (tags : Tags) (h : List Call) : Type 0 where
  pub session : IsSession at.numbers
  pub me_below : at.me < at.numbers.n
  pub params : b.params ≡ at.numbers
  pub slot : b.slot ≡ at.slot
  pub sent_is : b.sent ≡ sent_kept_as tags (sent at h)
  pub hashes : b.hashes ≡ hashes_in at h
  pub good : (k : ℕ) → has_member b.good k ≡ (nat_lt k at.numbers.n && is_good at tags h k)
  pub live : b.live ≡ true

abbrev pub sent_value : Option Sent → Option (List ℕ)
sent_value None = None
sent_value (Some s) = Some s.value

-- what is delivered
abbrev pub matrix_delivered : Eb → Option (List ℕ)
matrix_delivered b = if nat_le (quorum_of b.params) (member_count 32 b.good) then sent_value b.sent else None

-- whether an item can be taken yet
abbrev pub is_ready_at : Eb → Item → Bool
is_ready_at b x = not (kind_eq x.kind kinds.Column) || is_some b.sent

-- what the getters answer
abbrev pub matrix_shown : Eb → CastShown
matrix_shown b = record { out = matrix_delivered b; ready = λ x. is_ready_at b x }

-- ---- HASHES of a tagger

abbrev pub tagged : Tagging → Slot → ℕ → List ℕ → List (List ℕ)
tagged t s n digest = map (λ k. t.tags.entry s t.me k digest) (replicas n)

abbrev pub hashes_message : Tagging → Eb → List ℕ → Msg
hashes_message t b m = record { to = One b.slot.origin; kind = Hashes; slot = b.slot; value = hashes_bytes (tagged t b.slot b.params.n (t.tags.digest m)) }

-- ---- columns, as a tagger judges them

-- a column has a valid entry of an echoer
abbrev pub has_valid_entry : Tagging → Slot → List ℕ → List ℕ → ℕ → Bool
has_valid_entry t s digest value echoer = is_value (t.tags.entry s echoer t.me digest) (column_row value echoer)

-- it has one of an echoer that isn't in the set
abbrev pub adds_to : Tagging → Slot → ℕ → List ℕ → List ℕ → ℕ → Bool
adds_to t s n digest value good = list_any (λ k. has_valid_entry t s digest value k && not (has_member good k)) (replicas n)

-- these are the members of the set, and the echoers with a valid entry
abbrev pub JoinsSet : Tagging → Slot → ℕ → List ℕ → List ℕ → ℕ → ℕ → Type 0
JoinsSet t s n digest value old new =
    (k : ℕ) → has_member new k ≡ (has_member old k || (nat_lt k n && has_valid_entry t s digest value k))

-- ---- the outcomes of an item

abbrev pub MatrixUnchanged : Eb → Eb → List Msg → List Msg → Type 0
MatrixUnchanged old new before after = (new ≡ old) × (after ≡ before)

abbrev pub HearsSend : Tagging → Eb → Eb → Item → List Msg → List Msg → Result Heard Mem → Type 0
HearsSend t old new i before after (Ok Took) =
    (old.sent ≡ None) × (new ≡ record old { sent = Some (record { value = i.value; digest = t.tags.digest i.value }) })
    × (after ≡ before ++ hashes_message t old i.value ∷ [])
HearsSend t old new i before after (Ok Repeat) = (is_some old.sent ≡ true) × MatrixUnchanged old new before after
HearsSend t old new i before after (Err e) = (old.sent ≡ None) × MatrixUnchanged old new before after

abbrev pub HearsHashes : Eb → Eb → Item → List Msg → List Msg → Result Heard Mem → Type 0
HearsHashes old new i before after (Ok Took) =
    (is_awaited old.hashes i.from ≡ true) × (new ≡ record old { hashes = new.hashes })
    × (new.hashes ≡ slice_set old.hashes i.from (Some i.value))
    × (length old.hashes ≡ old.params.n → after ≡ before ++ columns_of old.params old.slot new.hashes)
HearsHashes old new i before after (Ok Repeat) = (is_awaited old.hashes i.from ≡ false) × MatrixUnchanged old new before after
HearsHashes old new i before after (Err e) =
    (is_awaited old.hashes i.from ≡ true) × (new ≡ record old { hashes = new.hashes }) × (after ≡ before)

-- a column is news where it makes some echoer good
abbrev pub is_news : Tagging → Eb → Option Sent → List ℕ → Bool
is_news t b None value = false
is_news t b (Some s) value = adds_to t b.slot b.params.n s.digest value b.good

abbrev pub JoinsGood : Tagging → Eb → Option Sent → List ℕ → ℕ → Type 0
JoinsGood t b None value new = Unit {0}
JoinsGood t b (Some s) value new = JoinsSet t b.slot b.params.n s.digest value b.good new

abbrev pub HearsColumn : Tagging → Eb → Eb → Item → List Msg → List Msg → Heard → Type 0
HearsColumn t old new i before after Took =
    (is_news t old old.sent i.value ≡ true) × (new ≡ record old { good = new.good }) × JoinsGood t old old.sent i.value new.good × (after ≡ before)
HearsColumn t old new i before after Repeat =
    ((n : ℕ) → Is (column n) i.value → is_news t old old.sent i.value ≡ false) × MatrixUnchanged old new before after

abbrev pub HearsColumnOk : Tagging → Eb → Eb → Item → List Msg → List Msg → Result Heard Mem → Type 0
HearsColumnOk t old new i before after (Ok heard) = HearsColumn t old new i before after heard
HearsColumnOk t old new i before after (Err e) = ⊥

-- what hearing an item of each kind does
abbrev pub HearsMatrix : Kind → Tagging → Eb → Eb → Item → List Msg → List Msg → Result Heard Mem → Type 0
HearsMatrix kinds.Send t old new i before after r = HearsSend t old new i before after r
HearsMatrix kinds.Hashes t old new i before after r = HearsHashes old new i before after r
HearsMatrix kinds.Column t old new i before after r = HearsColumnOk t old new i before after r
HearsMatrix _ t old new i before after r = (r ≡ Ok Repeat) × MatrixUnchanged old new before after
