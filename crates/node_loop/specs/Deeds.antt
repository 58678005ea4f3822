-- What a link gives and is given, with why. Lists of deeds have the newest first, but for what one round adds, as said.
use Rattle.std.specs.Prelude.{ℕ, ◌==◌, ◌&&◌, ◌||◌, not, Bool, true, false, List, [], ◌∷◌, Option, Some}
use Rattle.std.specs.List.{list_any}
use Rattle.std.specs.Str.{bytes_eq}
use Rattle.outside.specs.declared.link.LinkItem.{LinkItem}
use Rattle.outside.specs.declared.link.LinkItem.TheVariants as items
use Rattle.outside.specs.declared.link.Sent.{Sent}
use Rattle.outside.specs.Links.{LinkAct, Gives, GivesNow, Sends, Replies}
use Rattle.keyed_channel.specs.KeyRow.{KeyRow}
use Rattle.keyed_channel.specs.Frames.{seq_of}
use Rattle.keyed_channel.specs.Notes.{ack_note, again_note, is_note, noted}
use Rattle.keyed_channel.specs.declared.note.Note.{Note}
use Rattle.keyed_channel.specs.declared.note.Note.TheVariants as notes
use Rattle.world_model.specs.World.{Setting}
use Rattle.world_model.specs.MadeOrder.{MadeFrame}

-- an item came, by the call that may wait or, at `true`, by the one that never does; a frame went out for the first time, one went out again, an
-- acknowledgement, or a wish for more from a number on, did, or a reply
pub data Deed : Type 0 where
  Came : Bool → LinkItem → Deed
  Made : MadeFrame → Deed
  Resent : ℕ → ℕ → List ℕ → Deed
  Acked : ℕ → ℕ → ℕ → Deed
  Wished : ℕ → ℕ → ℕ → Deed
  Replied : Sent → Deed

-- these, in their order, behind those before them
abbrev pub pushed : List Deed → List Deed → List Deed
pushed [] ds = ds
pushed (x ∷ xs) ds = pushed xs (x ∷ ds)

abbrev pub sends : ℕ → ℕ → List ℕ → LinkAct
sends i j bytes = Sends (record { at = i; to = j; bytes = bytes })

-- the call that gave an item
abbrev pub call_giving : Bool → LinkItem → LinkAct
call_giving false item = Gives item
call_giving true item = GivesNow item

-- the call of the link that it is, with the keys of each replica
abbrev pub act_of : (ℕ → KeyRow) → Deed → LinkAct
act_of keys (Came now item) = call_giving now item
act_of keys (Made f) = sends f.from f.to f.bytes
act_of keys (Resent i j frame) = sends i j frame
act_of keys (Acked i j seq) = sends i j (ack_note (keys i) j seq)
act_of keys (Wished i j seq) = sends i j (again_note (keys i) j seq)
act_of keys (Replied sent) = Replies sent

-- one of these is a frame that goes out again
abbrev pub is_resent : Deed → Bool
is_resent (Resent i j frame) = true
is_resent other = false

abbrev pub has_resent : List Deed → Bool
has_resent ds = list_any is_resent ds

-- ---- what is on its way

-- the frames that were sent for the first time, the newest first
abbrev pub firsts_in : List Deed → List MadeFrame
firsts_in [] = []
firsts_in (Came now item ∷ ds) = firsts_in ds
firsts_in (Made f ∷ ds) = f ∷ firsts_in ds
firsts_in (Resent i j frame ∷ ds) = firsts_in ds
firsts_in (Acked i j seq ∷ ds) = firsts_in ds
firsts_in (Wished i j seq ∷ ds) = firsts_in ds
firsts_in (Replied sent ∷ ds) = firsts_in ds

-- the item is an acknowledgement, by j to replica i, which is here, of the frame with this number
abbrev pub says_so : Option Note → ℕ → ℕ → Bool
says_so (Some (notes.Ack from number)) j seq = from == j && number == seq
says_so other j seq = false

abbrev pub acks : Setting → LinkItem → ℕ → ℕ → ℕ → Bool
acks w (items.Frame to bytes) i j seq = w.is_correct to && (to == i && (is_note bytes && says_so (noted (w.keys to) bytes) j seq))
acks w item i j seq = false

-- the frame of i for j went out for the first time, and since then no acknowledgement of its number came
abbrev pub is_first : MadeFrame → ℕ → ℕ → List ℕ → Bool
is_first f i j frame = f.from == i && (f.to == j && bytes_eq f.bytes frame)

abbrev pub is_connected : Setting → ℕ → ℕ → List ℕ → List Deed → Bool
is_connected w i j frame [] = false
is_connected w i j frame (Came now item ∷ ds) = not (acks w item i j (seq_of frame)) && is_connected w i j frame ds
is_connected w i j frame (Made f ∷ ds) = is_first f i j frame || is_connected w i j frame ds
is_connected w i j frame (Resent a b other ∷ ds) = is_connected w i j frame ds
is_connected w i j frame (Acked a b seq ∷ ds) = is_connected w i j frame ds
is_connected w i j frame (Wished a b seq ∷ ds) = is_connected w i j frame ds
is_connected w i j frame (Replied sent ∷ ds) = is_connected w i j frame ds
