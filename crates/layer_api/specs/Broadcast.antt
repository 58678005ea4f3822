-- What a broadcast means: its rules on lists of calls, the newest first, and when a call may be made.
use Rattle.std.specs.Prelude.{◌≡◌, ℕ, ◌<◌, Bool, true, false, List, ◌∷◌, Option, None}
use Rattle.ritas_base.specs.declared.item.Kind.{Kind}
use Rattle.ritas_base.specs.declared.item.Kind.TheVariants as kinds
use Rattle.ritas_base.specs.declared.item.Item.{Item}
use Rattle.ritas_base.specs.declared.item.Msg.{Msg}
use Rattle.ritas_base.specs.Messages.{Place, without}
use Rattle.ritas_base.specs.History.{Call, started}
use Rattle.ritas_base.specs.Tags.{Tags, AgreeAt}
use Rattle.frame_codec.specs.Format.{Is}
use Rattle.frame_codec.specs.Grammar.{hashes, column, carries_digest, digest}
use Rattle.frame_codec.specs.Body.{is_of_form}
use Rattle.layer_api.specs.Entries.{Print}

-- the meaning of a broadcast at one place, by what the tagger answers and the calls so far
pub record BroadcastRules : Type 0 where
  -- its form, by which its messages have their kinds: 1 reliable with values, 2 echo, 3 reliable with digests
  pub form : ℕ
  -- the messages that are due, in the order of kind and receiver
  pub due : Place → Tags → List Call → List Msg
  -- what is delivered
  pub out : Place → Tags → List Call → Option (List ℕ)
  -- whether an item repeats one that was taken
  pub repeats : Place → Tags → List Call → Item → Bool
  -- whether an item can be taken yet
  pub ready : Place → Tags → List Call → Item → Bool
  -- what was hashed of what was taken
  pub met : Place → Tags → List Call → List Print

-- what a call makes newly due, in the order of what is due afterwards
abbrev pub news : BroadcastRules → Place → Tags → List Call → Call → List Msg
news r at tags h c = without (r.due at tags h) (r.due at tags (c ∷ h))

-- the kinds that a slot's origin alone may send
abbrev pub is_of_origin : Kind → Bool
is_of_origin kinds.Init = true
is_of_origin kinds.Echo = false
is_of_origin kinds.Ready = false
is_of_origin kinds.Send = true
is_of_origin kinds.Hashes = false
is_of_origin kinds.Column = true
is_of_origin kinds.Want = false
is_of_origin kinds.Value = false

-- whether a kind is for the slot's origin alone
abbrev pub is_for_origin : Kind → Bool
is_for_origin kinds.Init = false
is_for_origin kinds.Echo = false
is_for_origin kinds.Ready = false
is_for_origin kinds.Send = false
is_for_origin kinds.Hashes = true
is_for_origin kinds.Column = false
is_for_origin kinds.Want = false
is_for_origin kinds.Value = false

-- a tagger, by its number and its answers
pub record Tagging : Type 0 where
  pub me : ℕ
  pub tags : Tags

-- the tagger is that of the place's replica
pub record IsTagger (at : Place) (tags : Tags) (t : Tagging) : Type 0 where
  pub own : t.me ≡ at.me
  pub alike : AgreeAt at.me tags t.tags

-- a broadcast is started at its origin, and once
pub record MayStart (at : Place) (h : List Call) : Type 0 where
  pub own : at.me ≡ at.slot.origin
  pub once : started h ≡ None

abbrev pub IsDigestIf : Bool → List ℕ → Type 0
IsDigestIf true value = Is digest value
IsDigestIf false value = Unit {0}

-- hashes are an entry for each replica, a column is a mask and a row for each of its places, and where a digest comes with a
-- kind, it is one
abbrev pub IsPayload : ℕ → ℕ → Kind → List ℕ → Type 0
IsPayload form n kinds.Hashes value = Is (hashes n) value
IsPayload form n kinds.Column value = Is (column n) value
IsPayload form n kind value = IsDigestIf (carries_digest form kind) value

-- an item may be taken: it is of this slot and broadcast, from a replica that may send its kind, to one that may get it
pub record MayTake (r : BroadcastRules) (at : Place) (tags : Tags) (h : List Call) (i : Item) : Type 0 where
  pub here : i.slot ≡ at.slot
  pub kind : is_of_form r.form i.kind ≡ true
  pub sender : i.from < at.numbers.n
  pub origin : is_of_origin i.kind ≡ true → i.from ≡ at.slot.origin
  pub receiver : is_for_origin i.kind ≡ true → at.me ≡ at.slot.origin
  pub in_time : r.ready at tags h i ≡ true
  pub payload : IsPayload r.form at.numbers.n i.kind i.value
