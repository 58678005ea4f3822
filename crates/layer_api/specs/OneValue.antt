-- Runs of one slot, and the laws of a broadcast. Lists of calls and of steps have the newest first.
use Rattle.std.specs.Prelude.{◌≡◌, ℕ, ◌<◌, Bool, true, false, not, List, [], ◌∷◌, Option, Some, None, is_some, ⊤}
use Rattle.ritas_base.specs.declared.slot.Slot.{Slot}
use Rattle.ritas_base.specs.declared.item.Kind.TheVariants.{Column}
use Rattle.ritas_base.specs.declared.item.Item.{Item}
use Rattle.ritas_base.specs.declared.item.Msg.{Msg}
use Rattle.ritas_base.specs.declared.item.To.{To}
use Rattle.ritas_base.specs.declared.item.To.TheVariants.{All, One}
use Rattle.ritas_base.specs.declared.mode.Mode.{Mode}
use Rattle.ritas_base.specs.Numbers.{Numbers, IsSession}
use Rattle.ritas_base.specs.Slots.{slot_fault, form_of}
use Rattle.frame_codec.specs.Format.{Is}
use Rattle.frame_codec.specs.Grammar.{value}
use Rattle.frame_codec.specs.Body.{IsInGrammar, is_of_form}
use Rattle.ritas_base.specs.Messages.{Place, reaches, item_of, kind_eq, has}
use Rattle.ritas_base.specs.History.{Call, Start, Take, started, first}
use Rattle.ritas_base.specs.Tags.{Tags, HasDigests}
use Rattle.layer_api.specs.Broadcast.{BroadcastRules, MayStart, MayTake, news}
use Rattle.layer_api.specs.Entries.{given, is_claim, Print, IsApart}
use Rattle.frame_codec.specs.Values.{column_row}
use Rattle.layer_api.specs.Runs.{ReplicaStep, calls_of, Has, IsEnough}

-- among these messages is the one that the item came from, and it was for replica j
pub record IsDueTo (due : List Msg) (j : ℕ) (x : Item) : Type 0 where
  pub message : Msg
  pub listed : Has due message
  pub reached : reaches message.to j ≡ true
  pub same : item_of x.from message ≡ x

-- one slot of a session: the broadcast, who is correct, and what each replica's tagger answers
pub record Group : Type 0 where
  pub rules : BroadcastRules
  pub numbers : Numbers
  pub slot : Slot
  pub is_correct : ℕ → Bool
  pub tags : ℕ → Tags

abbrev pub place_of : Group → ℕ → Place
place_of g i = record { numbers = g.numbers; me = i; slot = g.slot }

abbrev pub due_at : Group → ℕ → List (ReplicaStep Call) → List Msg
due_at g i steps = g.rules.due (place_of g i) (g.tags i) (calls_of i steps)

abbrev pub out_at : Group → ℕ → List (ReplicaStep Call) → Option (List ℕ)
out_at g i steps = g.rules.out (place_of g i) (g.tags i) (calls_of i steps)

-- the entries that a replica gave
abbrev pub given_at : Group → ℕ → List (ReplicaStep Call) → List (List ℕ)
given_at g i steps = given (place_of g i) (g.tags i) (calls_of i steps)

-- what a replica met
abbrev pub met_at : Group → ℕ → List (ReplicaStep Call) → List Print
met_at g i steps = g.rules.met (place_of g i) (g.tags i) (calls_of i steps)

-- a call of replica i after these steps meets its conditions; what a correct replica sent was due there before, and
-- each valid entry of a correct echoer is one that it gave before
abbrev pub IsFed : Group → List (ReplicaStep Call) → ℕ → Call → Type 0
IsFed g steps i (Start v) = MayStart (place_of g i) (calls_of i steps)
IsFed g steps i (Take x) =
    MayTake g.rules (place_of g i) (g.tags i) (calls_of i steps) x
    × (g.is_correct x.from ≡ true → IsDueTo (due_at g x.from steps) i x)
    × ((echoer : ℕ) (entry : List ℕ) → g.is_correct echoer ≡ true
    → is_claim (place_of g i) (g.tags i) (calls_of i steps) x echoer ≡ true → column_row x.value echoer ≡ Some entry
    → Has (given_at g echoer steps) entry)

abbrev pub IsRun : Group → List (ReplicaStep Call) → Type 0
IsRun g [] = ⊤
IsRun g (x ∷ xs) = (g.is_correct x.who ≡ true) × IsFed g xs x.who x.call × IsRun g xs

-- nothing that correct replicas hashed collides
abbrev pub IsClear : Group → List (ReplicaStep Call) → Type 0
IsClear g steps = (i j : ℕ) (a c : Print) → g.is_correct i ≡ true → g.is_correct j ≡ true
    → Has (met_at g i steps) a → Has (met_at g j steps) c → IsApart a c

-- all replicas have one digest
abbrev pub SameDigests : (ℕ → Tags) → Type 0
SameDigests tags = (i j : ℕ) (m : List ℕ) → (tags i).digest m ≡ (tags j).digest m

-- the law of one value, of the broadcast with these rules: over every run all outputs of correct replicas are equal,
-- and where the origin is correct they are what it started
pub record OneValue (r : BroadcastRules) : Type 0 where
  pub agree : (p : Numbers) (s : Slot) (is_correct : ℕ → Bool) (tags : ℕ → Tags) (steps : List (ReplicaStep Call)) →
      let g : Group = record { rules = r; numbers = p; slot = s; is_correct = is_correct; tags = tags } in
      IsEnough p is_correct → SameDigests tags → IsRun g steps → IsClear g steps
      → (i j : ℕ) (v u : List ℕ) → is_correct i ≡ true → is_correct j ≡ true → out_at g i steps ≡ Some v → out_at g j steps ≡ Some u → v ≡ u
  pub genuine : (p : Numbers) (s : Slot) (is_correct : ℕ → Bool) (tags : ℕ → Tags) (steps : List (ReplicaStep Call)) →
      let g : Group = record { rules = r; numbers = p; slot = s; is_correct = is_correct; tags = tags } in
      IsEnough p is_correct → SameDigests tags → IsRun g steps → IsClear g steps
      → (i : ℕ) (v : List ℕ) → is_correct i ≡ true → is_correct s.origin ≡ true → out_at g i steps ≡ Some v
      → started (calls_of s.origin steps) ≡ Some v

-- the conditions that each call of these met
abbrev pub AreTaken : BroadcastRules → Place → Tags → List Call → Type 0
AreTaken r at tags [] = ⊤
AreTaken r at tags (Start v ∷ h) = MayStart at h × AreTaken r at tags h
AreTaken r at tags (Take x ∷ h) = MayTake r at tags h x × AreTaken r at tags h

-- no item of these repeats one that was taken before it
abbrev pub RepeatNone : BroadcastRules → Place → Tags → List Call → Type 0
RepeatNone r at tags [] = ⊤
RepeatNone r at tags (Start v ∷ h) = RepeatNone r at tags h
RepeatNone r at tags (Take x ∷ h) = (r.repeats at tags h x ≡ false) × RepeatNone r at tags h

-- a message is for all, or for one of n replicas
abbrev pub IsReceiver : ℕ → To → Type 0
IsReceiver n All = ⊤
IsReceiver n (One k) = k < n

-- each message stands there once
abbrev pub IsOnce : List Msg → Type 0
IsOnce [] = ⊤
IsOnce (m ∷ ms) = (has ms m ≡ false) × IsOnce ms

-- the values started, and the items taken, are in the grammar of this slot
abbrev pub AreGoodCalls : Numbers → Mode → Slot → List Call → Type 0
AreGoodCalls p mode s [] = ⊤
AreGoodCalls p mode s (Start v ∷ h) = Is (value p mode.root s) v × AreGoodCalls p mode s h
AreGoodCalls p mode s (Take x ∷ h) = (x.slot ≡ s) × IsInGrammar p mode x × AreGoodCalls p mode s h

-- the broadcast is the slot's, in this mode
pub record IsOfSlot (r : BroadcastRules) (p : Numbers) (mode : Mode) (s : Slot) : Type 0 where
  pub session : IsSession p
  pub slot : slot_fault p mode s ≡ None
  pub form : r.form ≡ form_of mode s

-- laws of a single value, over all calls
pub record ValueLaws (r : BroadcastRules) : Type 0 where
  -- nothing is delivered at first, and to start delivers nothing
  pub out_nothing : (at : Place) (tags : Tags) → r.out at tags [] ≡ None
  pub out_start : (at : Place) (tags : Tags) (h : List Call) (v : List ℕ) → r.out at tags (Start v ∷ h) ≡ r.out at tags h
  -- what is delivered stays
  pub out_stays : (at : Place) (tags : Tags) (h : List Call) (c : Call) (v : List ℕ) → r.out at tags h ≡ Some v → r.out at tags (c ∷ h) ≡ Some v
  -- nothing is due at first; what is due stays due, is of its slot and of a kind of its broadcast, and for all or for a replica
  pub due_nothing : (at : Place) (tags : Tags) → r.due at tags [] ≡ []
  pub due_stays : (at : Place) (tags : Tags) (h : List Call) (c : Call) (m : Msg) → has (r.due at tags h) m ≡ true → has (r.due at tags (c ∷ h)) m ≡ true
  pub due_slot : (at : Place) (tags : Tags) (h : List Call) (m : Msg) → has (r.due at tags h) m ≡ true → m.slot ≡ at.slot
  pub due_kind : (at : Place) (tags : Tags) (h : List Call) (m : Msg) → Has (r.due at tags h) m → is_of_form r.form m.kind ≡ true
  pub due_to : (at : Place) (tags : Tags) (h : List Call) (m : Msg) → at.slot.origin < at.numbers.n → Has (r.due at tags h) m → IsReceiver at.numbers.n m.to
  -- and it is due once, where no item was taken twice
  pub due_once : (at : Place) (tags : Tags) (h : List Call) → AreTaken r at tags h → RepeatNone r at tags h → IsOnce (r.due at tags h)
  -- where the values started and the items taken are in the grammar, each message and what is delivered are
  pub due_good : (at : Place) (tags : Tags) (mode : Mode) (h : List Call) (m : Msg) → HasDigests tags → IsOfSlot r at.numbers mode at.slot → AreGoodCalls at.numbers mode at.slot h
      → Has (r.due at tags h) m → IsInGrammar at.numbers mode (item_of at.me m)
  -- what becomes due by a start is the same whatever came before
  pub start_alone : (at : Place) (tags : Tags) (h : List Call) (v : List ℕ) → started h ≡ None → news r at tags h (Start v) ≡ news r at tags [] (Start v)
  pub out_good : (at : Place) (tags : Tags) (mode : Mode) (h : List Call) (v : List ℕ) → IsOfSlot r at.numbers mode at.slot → AreGoodCalls at.numbers mode at.slot h
      → r.out at tags h ≡ Some v → Is (value at.numbers mode.root at.slot) v
  -- nothing is repeated at first; an item that isn't a column repeats exactly where one of its kind and sender was taken
  pub repeats_nothing : (at : Place) (tags : Tags) (i : Item) → r.repeats at tags [] i ≡ false
  pub repeats_is : (at : Place) (tags : Tags) (h : List Call) (i : Item) → kind_eq i.kind Column ≡ false
      → r.repeats at tags h i ≡ is_some (first h i.from i.kind)
  -- at first all that isn't a column can be taken, and what can be taken still can be later
  pub ready_stays : (at : Place) (tags : Tags) (h : List Call) (c : Call) (i : Item) → r.ready at tags h i ≡ true → r.ready at tags (c ∷ h) i ≡ true
  pub ready_nothing : (at : Place) (tags : Tags) (i : Item) → is_of_form r.form i.kind ≡ true → r.ready at tags [] i ≡ not (kind_eq i.kind Column)
