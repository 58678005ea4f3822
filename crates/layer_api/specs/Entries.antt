-- Entries: what the replicas of an echo broadcast hash of a message, give to the origin, and find again in its columns.
-- Lists of calls have the newest first.
use Rattle.std.specs.Prelude.{◌≡◌, ℕ, Bool, false, ◌==◌, ◌&&◌, List, [], ◌∷◌, ◌++◌, ◌*◌, map, take, drop, Option, Some, None}
use Rattle.ritas_base.specs.declared.slot.Slot.{Slot}
use Rattle.ritas_base.specs.declared.item.Kind.{Kind}
use Rattle.ritas_base.specs.declared.item.Kind.TheVariants as kinds
use Rattle.ritas_base.specs.declared.item.Kind.TheVariants.{Send, Column}
use Rattle.ritas_base.specs.declared.item.Item.{Item}
use Rattle.ritas_base.specs.Messages.{Place, kind_eq}
use Rattle.ritas_base.specs.History.{Call, first, is_value, replicas}
use Rattle.ritas_base.specs.Tags.{Tags}
use Rattle.frame_codec.specs.Values.{column_row}

-- the entry of a message for an echoer and a verifier
abbrev pub entry_of : Place → Tags → ℕ → ℕ → List ℕ → List ℕ
entry_of at tags echoer verifier m = tags.entry at.slot echoer verifier (tags.digest m)

-- the message that the origin sent here: the value of its first SEND
abbrev pub sent : Place → List Call → Option (List ℕ)
sent at h = first h at.slot.origin Send

-- the entries that a replica gives of a message, one for each verifier, ascending: what its HASHES carry
abbrev pub entries_of : Place → Tags → List ℕ → List (List ℕ)
entries_of at tags m = map (λ k. entry_of at tags at.me k m) (replicas at.numbers.n)

abbrev pub entries_for : Place → Tags → Option (List ℕ) → List (List ℕ)
entries_for at tags None = []
entries_for at tags (Some m) = entries_of at tags m

-- the entries that a replica gave: those of the message that was sent to it
abbrev pub given : Place → Tags → List Call → List (List ℕ)
given at tags h = entries_for at tags (sent at h)

-- entry k of HASHES, which is for verifier k
abbrev pub entry_in : ℕ → List ℕ → List ℕ
entry_in k value = take 32 (drop (32 * k) value)

-- whether a column has, for an echoer, the valid entry of a message: the one of the echoer and of this replica
abbrev pub is_valid : Place → Tags → List ℕ → List ℕ → ℕ → Bool
is_valid at tags m column echoer = is_value (entry_of at tags echoer at.me m) (column_row column echoer)

abbrev pub is_valid_for : Place → Tags → Option (List ℕ) → List ℕ → ℕ → Bool
is_valid_for at tags None column echoer = false
is_valid_for at tags (Some m) column echoer = is_valid at tags m column echoer

-- whether an item claims an echoer: it is a column with a valid entry of that echoer, of the message that was sent here
abbrev pub is_claim : Place → Tags → List Call → Item → ℕ → Bool
is_claim at tags h x echoer = kind_eq x.kind Column && is_valid_for at tags (sent at h) x.value echoer

-- what is hashed for an entry
pub record EntryInput : Type 0 where
  pub slot : Slot
  pub echoer : ℕ
  pub verifier : ℕ
  pub digest : List ℕ

-- something hashed, with its image: a message with its digest, or an entry's input with the entry
pub data Print : Type 0 where
  OfMessage : List ℕ → List ℕ → Print
  OfEntry : EntryInput → List ℕ → Print

abbrev pub entry_print : Place → Tags → List ℕ → ℕ → ℕ → Print
entry_print at tags m echoer verifier =
    OfEntry (record { slot = at.slot; echoer = echoer; verifier = verifier; digest = tags.digest m }) (entry_of at tags echoer verifier m)

-- what a replica meets at a message: the message, its own entries for each verifier, and each echoer's entries for it
abbrev pub prints_of : Place → Tags → List ℕ → List Print
prints_of at tags m =
    OfMessage m (tags.digest m)
    ∷ map (λ k. entry_print at tags m at.me k) (replicas at.numbers.n)
    ++ map (λ k. entry_print at tags m k at.me) (replicas at.numbers.n)

abbrev pub prints_for : Place → Tags → Option (List ℕ) → List Print
prints_for at tags None = []
prints_for at tags (Some m) = prints_of at tags m

-- the kinds of which a broadcast of this form hashes what it takes
abbrev pub is_hashed : ℕ → Kind → Bool
is_hashed form kinds.Send = form == 2
is_hashed form kinds.Init = form == 3
is_hashed form kinds.Value = form == 3
is_hashed form _ = false

-- what is hashed of a message of this kind: of a SEND the entries too, and of another the message alone
abbrev pub prints_at_kind : Place → Tags → Kind → List ℕ → List Print
prints_at_kind at tags kinds.Send m = prints_of at tags m
prints_at_kind at tags _ m = OfMessage m (tags.digest m) ∷ []

-- two prints don't collide: of one image there is one input
abbrev pub IsApart : Print → Print → Type 0
IsApart (OfMessage m d) (OfMessage m' d') = d ≡ d' → m ≡ m'
IsApart (OfEntry x e) (OfEntry x' e') = e ≡ e' → x ≡ x'
IsApart (OfMessage m d) (OfEntry x e) = Unit {0}
IsApart (OfEntry x e) (OfMessage m d) = Unit {0}
