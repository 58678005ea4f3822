-- The calls that the broadcasts of a replica had, and what a call makes due. Each list has the newest first.
use Rattle.std.specs.Prelude.{◌≡◌, ℕ, ◌<◌, nat_le, ◌⊎◌, Bool, true, false, Option, Some, None, List, [], ◌∷◌, ◌++◌, if◌then◌else◌}
use Rattle.std.specs.FinMap.{get}
use Rattle.std.specs.BTreeMap as map
use Rattle.ritas_base.specs.declared.slot.Slot.{Slot}
use Rattle.ritas_base.specs.declared.item.Msg.{Msg}
use Rattle.ritas_base.specs.declared.item.Say.{Say}
use Rattle.ritas_base.specs.SlotOrder.{slot_cmp, is_slot}
use Rattle.ritas_base.specs.Messages.{Place}
use Rattle.ritas_base.specs.Tags.{Tags}
use Rattle.ritas_base.specs.History.{Call, Start}
use Rattle.layer_api.specs.Broadcast.{news, MayStart}
use Rattle.layer_api.specs.BroadcastCalls.{CastShown}
use Rattle.instance_tree.specs.SlotMaps.{SlotMap}
use Rattle.ritas_core.specs.Rules.{CastRules, place_at, out_at_slot}

-- one call more at a slot
abbrev pub called : (Slot → List Call) → Slot → Call → Slot → List Call
called h s c q = if is_slot s q then c ∷ h q else h q

-- a start more at the slot of each say
abbrev pub started_all : List Say → (Slot → List Call) → Slot → List Call
started_all [] h = h
started_all (say ∷ says) h = started_all says (called h say.slot (Start say.value))

-- what becomes due by a call at a slot, after these calls
abbrev pub news_at : CastRules → Slot → List Call → Call → List Msg
news_at c s calls call = news (c.at_slot s) (place_at c s) c.tags calls call

-- what becomes due by these starts
abbrev pub start_news : CastRules → List Say → (Slot → List Call) → List Msg
start_news c [] h = []
start_news c (say ∷ says) h = news_at c say.slot (h say.slot) (Start say.value) ++ start_news c says (called h say.slot (Start say.value))

-- what is there afterwards, where nothing was there before
abbrev pub newly_there : Option (List ℕ) → Option (List ℕ) → Option (List ℕ)
newly_there None after = after
newly_there (Some v) after = None

-- what a slot delivers by a call and did not before
abbrev pub delivered_by : CastRules → Slot → List Call → Call → Option (List ℕ)
delivered_by c s calls call = newly_there (out_at_slot c s calls) (out_at_slot c s (call ∷ calls))

-- whether there was a call
abbrev pub is_called : List Call → Bool
is_called [] = false
is_called (call ∷ h) = true

-- The map has a value at exactly those slots that had a call and whose broadcasts aren't dropped, and each value stands for
-- the calls there. All these slots are of replicas.
pub record CastsStand {B : Type 0} (stands : B → Place → Tags → List Call → Type 0) (c : CastRules) (dropped : Slot → Bool) (casts : SlotMap B) (h : Slot → List Call) : Type 0 where
  pub made : (s : Slot) (b : B) → get casts s ≡ Some b → stands b (place_at c s) c.tags (h s)
  pub used : (s : Slot) (b : B) → get casts s ≡ Some b → is_called (h s) ≡ true
  pub placed : (s : Slot) (b : B) → get casts s ≡ Some b → s.origin < c.numbers.n
  pub gone : (s : Slot) → dropped s ≡ true → get casts s ≡ None
  pub unmade : (s : Slot) → dropped s ≡ false → get casts s ≡ None → h s ≡ []

-- each of these says may be started when its turn comes
abbrev pub MayStartAll : CastRules → List Say → (Slot → List Call) → Type 0
MayStartAll c [] h = Unit {0}
MayStartAll c (say ∷ says) h = MayStart (place_at c say.slot) (h say.slot) × MayStartAll c says (called h say.slot (Start say.value))

-- what the value at a slot shows as delivered; where there is none, nothing is
abbrev pub shown_out : {B : Type 0} → (B → CastShown) → Option B → Option (List ℕ)
shown_out shown None = None
shown_out shown (Some b) = (shown b).out

-- each slot whose broadcast isn't dropped shows what it delivers by these calls
abbrev pub CastsShowAt : {B : Type 0} → (B → CastShown) → CastRules → (Slot → Bool) → SlotMap B → (Slot → List Call) → Type 0
CastsShowAt shown c dropped casts h = (s : Slot) → dropped s ≡ false → shown_out shown (get casts s) ≡ out_at_slot c s (h s)

-- or by these or later ones
abbrev pub CastsShow : {B : Type 0} → (B → CastShown) → CastRules → (Slot → Bool) → SlotMap B → (Slot → List Call) → (Slot → List Call) → Type 0
CastsShow shown c dropped casts h later = (s : Slot) → dropped s ≡ false
    → (shown_out shown (get casts s) ≡ out_at_slot c s (h s)) ⊎ (shown_out shown (get casts s) ≡ out_at_slot c s (later s))

-- what each slot delivered stands by itself, in root services 1 and 2
abbrev pub OutputsStand : ℕ → CastRules → map.BTreeMap Slot (List ℕ) → (Slot → List Call) → Type 0
OutputsStand root c outputs h = nat_le 3 root ≡ false → (s : Slot) → map.get slot_cmp outputs s ≡ out_at_slot c s (h s)

-- or what it delivered by these or later calls
abbrev pub OutputsShow : ℕ → CastRules → map.BTreeMap Slot (List ℕ) → (Slot → List Call) → (Slot → List Call) → Type 0
OutputsShow root c outputs h later = nat_le 3 root ≡ false → (s : Slot)
    → (map.get slot_cmp outputs s ≡ out_at_slot c s (h s)) ⊎ (map.get slot_cmp outputs s ≡ out_at_slot c s (later s))
