-- Where the entries come from that HASHES and columns carry. Lists of calls have the newest first.
use Rattle.std.specs.Prelude.{◌≡◌, ℕ, ◌<◌, List, ◌∷◌, length, Some, true}
use Rattle.ritas_base.specs.declared.slot.Slot.{Slot}
use Rattle.ritas_base.specs.declared.item.Kind.TheVariants.{Hashes, Column}
use Rattle.ritas_base.specs.declared.item.Item.{Item}
use Rattle.ritas_base.specs.declared.item.Msg.{Msg}
use Rattle.ritas_base.specs.declared.mode.Mode.{Mode}
use Rattle.ritas_base.specs.History.{Call, Take}
use Rattle.ritas_base.specs.Messages.{Place}
use Rattle.ritas_base.specs.Tags.{Tags}
use Rattle.layer_api.specs.Broadcast.{BroadcastRules}
use Rattle.frame_codec.specs.Values.{column_row}
use Rattle.layer_api.specs.Entries.{given, entry_in, Print, is_hashed, prints_at_kind}
use Rattle.layer_api.specs.OneValue.{AreGoodCalls, IsOfSlot}
use Rattle.layer_api.specs.Runs.{Has}

-- HASHES of this echoer were taken that carry the entry
pub record IsHashedBy (n : ℕ) (h : List Call) (echoer : ℕ) (entry : List ℕ) : Type 0 where
  pub item : Item
  pub taken : Has h (Take item)
  pub kind : item.kind ≡ Hashes
  pub from : item.from ≡ echoer
  pub verifier : ℕ
  pub within : verifier < n
  pub same : entry ≡ entry_in verifier item.value

-- entries have 32 bytes
abbrev pub HasWholeEntries : Tags → Type 0
HasWholeEntries tags = (s : Slot) (echoer verifier : ℕ) (digest : List ℕ) → length (tags.entry s echoer verifier digest) ≡ 32

-- a print is of an item that was taken, of a kind of which the broadcast hashes what it takes
pub record IsMetOf (r : BroadcastRules) (at : Place) (tags : Tags) (h : List Call) (a : Print) : Type 0 where
  pub item : Item
  pub taken : Has h (Take item)
  pub kind : is_hashed r.form item.kind ≡ true
  pub print : Has (prints_at_kind at tags item.kind item.value) a

pub record EntryLaws (r : BroadcastRules) : Type 0 where
  -- HASHES that are due carry entries that were given
  pub hashes : (at : Place) (tags : Tags) (h : List Call) (m : Msg) → HasWholeEntries tags → Has (r.due at tags h) m → m.kind ≡ Hashes
      → (k : ℕ) → k < at.numbers.n → Has (given at tags h) (entry_in k m.value)
  -- a column that is due has, for each echoer, an entry of HASHES of it that were taken
  pub columns : (at : Place) (tags : Tags) (mode : Mode) (h : List Call) (m : Msg) → IsOfSlot r at.numbers mode at.slot → AreGoodCalls at.numbers mode at.slot h
      → Has (r.due at tags h) m → m.kind ≡ Column → (echoer : ℕ) (entry : List ℕ) → column_row m.value echoer ≡ Some entry
      → IsHashedBy at.numbers.n h echoer entry
  -- what was hashed is of what was taken, and stays
  pub met_taken : (at : Place) (tags : Tags) (h : List Call) (a : Print) → Has (r.met at tags h) a → IsMetOf r at tags h a
  pub met_stays : (at : Place) (tags : Tags) (h : List Call) (c : Call) (a : Print) → Has (r.met at tags h) a → Has (r.met at tags (c ∷ h)) a
