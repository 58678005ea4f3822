-- What a world keeps for its audit: the verdict so far and, while nothing broke, tables of what was sent and hashed.
use Rattle.std.specs.Prelude.{◌≡◌, ℕ, Bool, true, false, ◌||◌, ◌&&◌, ◌==◌, List, Option, Some, None, if◌then◌else◌}
use Rattle.std.specs.Option.{option_or}
use Rattle.ritas_base.specs.declared.slot.Slot.{Slot}
use Rattle.ritas_base.specs.declared.item.Item.{Item}
use Rattle.ritas_base.specs.declared.item.Kind.{Kind}
use Rattle.ritas_base.specs.declared.item.Kind.TheVariants.{Send, Column}
use Rattle.ritas_base.specs.declared.mode.Mode.{Mode}
use Rattle.ritas_base.specs.declared.mode.FrameVersion.{FrameVersion}
use Rattle.ritas_base.specs.Slots.{form_of}
use Rattle.ritas_base.specs.Versions.{reliable_form}
use Rattle.ritas_base.specs.Messages.{kind_eq}
use Rattle.frame_codec.specs.Body.{IsInGrammar}
use Rattle.layer_api.specs.Entries.{sent, Print, is_hashed}
use Rattle.keyed_channel.specs.KeyRow.{KeyRow}
use Rattle.keyed_channel.specs.Keyed.{tags_of}
use Rattle.ritas_core.specs.Machine.{CoreState}
use Rattle.world_model.specs.declared.audit.Audit.{Audit}
use Rattle.world_model.specs.declared.audit.Audit.TheVariants as audits
use Rattle.world_model.specs.declared.met.MetAtSlot.{MetAtSlot}
use Rattle.world_model.specs.declared.watch.Watch.{Watch}
use Rattle.world_model.specs.World.{Setting, CallAt, after_call}
use Rattle.world_model.specs.Audit.{is_forged_call, taken_by, calls_at, place_in, is_forged_at, prints_at, collide, broken_by, judged}
use Rattle.world_model.specs.Met.{MetEntries, met_with, met_for}
use Rattle.world_model.specs.Hashed.{met_in, entries_met_at, is_same_at, HashedStand, prints_by_kind, Meets}

-- ---- what a call made a replica take

abbrev pub item_taken : Setting → (ℕ → CoreState) → Option CallAt → Option Item
item_taken w states None = None
item_taken w states (Some c) = taken_by w states c

-- the audit looks at items of the kinds that a broadcast of this form hashes, and at columns
abbrev pub is_watched : ℕ → Kind → Bool
is_watched form kind = is_hashed form kind || kind_eq kind Column

abbrev pub watched : Mode → Option Item → Option Item
watched mode None = None
watched mode (Some x) = if is_watched (form_of mode x.slot) x.kind then Some x else None

-- whether it looks at items whose bodies begin so, with the byte of a kind and that of a slot's class: at SEND and COLUMN, and at
-- INIT and VALUE where slots of this class go by digests
abbrev pub is_watched_start : FrameVersion → ℕ → ℕ → Bool
is_watched_start version kind class = (kind == 4 || kind == 6) || ((kind == 1 || kind == 8) && reliable_form version class == 3)

abbrev pub IsGoodIf : Setting → Option Item → Type 0
IsGoodIf w None = Unit {0}
IsGoodIf w (Some x) = IsInGrammar w.numbers w.mode x

-- whether the frame of a call forges
abbrev pub is_forged_frame : Setting → (ℕ → CoreState) → Option CallAt → Bool
is_forged_frame w states None = false
is_forged_frame w states (Some c) = is_forged_call w states c.at c.call

-- a call is at this replica, which is correct
abbrev pub IsAt : Setting → Option CallAt → ℕ → Type 0
IsAt w None at = Unit {0}
IsAt w (Some c) at = (c.at ≡ at) × (w.is_correct at ≡ true)

-- what is told of a call: at which replica it was, whether its frame forges, and the item that it made the replica take,
-- where the audit looks at it; what was taken is in the grammar
pub record IsTold (w : Setting) (states : ℕ → CoreState) (c : Option CallAt) (at : ℕ) (forged : Bool) (taken : Option Item) : Type 0 where
  pub place : IsAt w c at
  pub frame : forged ≡ is_forged_frame w states c
  pub item : taken ≡ watched w.mode (item_taken w states c)
  pub good : IsGoodIf w (item_taken w states c)

-- ---- the tables

-- the tables have what each correct replica met at the message that was sent to it at each slot, and all that they hashed
pub record TablesStand (w : Setting) (states : ℕ → CoreState) (watch : Watch) : Type 0 where
  pub sent : (i : ℕ) (s : Slot) → w.is_correct i ≡ true
      → entries_met_at watch.sent.table s i ≡ met_for (w.keys i) s (sent (place_in w i s) (calls_at w states i s))
  pub hashed : HashedStand watch.hashed (prints_at w states)

-- this is what each correct replica met at the message that was sent to it at a slot
abbrev pub SlotStands : Setting → (ℕ → CoreState) → Slot → Option MetAtSlot → Type 0
SlotStands w states s here = (i : ℕ) → w.is_correct i ≡ true → met_in here i ≡ met_for (w.keys i) s (sent (place_in w i s) (calls_at w states i s))

-- this is the verdict, and the tables are kept up while the premises hold
pub record WatchStands (w : Setting) (states : ℕ → CoreState) (verdict : Audit) (watch : Watch) : Type 0 where
  pub found : watch.verdict ≡ verdict
  pub tables : verdict ≡ audits.Holds → TablesStand w states watch

-- the verdict after one call more, of this number
abbrev pub verdict_after : Setting → (ℕ → CoreState) → Option CallAt → Audit → ℕ → Audit
verdict_after w states c verdict number =
    judged verdict (broken_by (is_forged_at w states c) (collide (prints_at w (after_call w states c))) number)

-- ---- an item of a kind that its slot's broadcast hashes

-- what the replica with these keys meets at the message that an item brings, where it is the origin's SEND
abbrev pub met_said : KeyRow → Item → Option MetEntries
met_said k x =
    if x.from == x.slot.origin && kind_eq x.kind Send then Some (met_with k x.slot ((tags_of k).digest x.value)) else None

-- the replica with these keys took it
pub record MeetsItem (old new : Watch) (k : KeyRow) (at : ℕ) (x : Item) (clash : Bool) : Type 0 where
  pub verdict : new.verdict ≡ old.verdict
  pub hashed : (prints : List Print) → HashedStand old.hashed prints → Meets new.hashed (prints_by_kind k x.slot x.kind x.value) prints clash
  pub sent : clash ≡ false → (s : Slot) (i : ℕ) → entries_met_at new.sent.table s i
      ≡ (if is_same_at x.slot at s i then option_or (entries_met_at old.sent.table s i) (met_said k x) else entries_met_at old.sent.table s i)
