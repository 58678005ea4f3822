-- What a world rests on, and what its correct replicas agree on.
use Rattle.std.specs.Prelude.{◌≡◌, ◌≢◌, ℕ, ◌+◌, ◌^◌, ◌<◌, ◌==◌, true, List, [], ◌∷◌, Option, Some, None, Ok, if◌then◌else◌}
use Rattle.ritas_base.specs.declared.event.Event.{Event}
use Rattle.ritas_base.specs.declared.slot.Slot.{Slot}
use Rattle.ritas_base.specs.declared.item.Item.{Item}
use Rattle.ritas_base.specs.Numbers.{IsSession}
use Rattle.ritas_base.specs.History.{started}
use Rattle.layer_api.specs.EntryLaws.{EntryLaws}
use Rattle.layer_api.specs.OneValue.{OneValue, ValueLaws}
use Rattle.layer_api.specs.Service.{WordLaws, said}
use Rattle.layer_api.specs.Words.{said_value}
use Rattle.ritas_base.specs.Slots.{command_slot}
use Rattle.frame_codec.specs.Body.{IsInGrammar, spelling, body_answer}
use Rattle.keyed_channel.specs.Frames.{Opening, opening, sealed}
use Rattle.ritas_core.specs.Rules.{FormsFit, seat_of, out_at_slot}
use Rattle.ritas_core.specs.Parts.{Entry, Took, Given, parts}
use Rattle.world_model.specs.declared.audit.Audit.TheVariants.{Holds}
use Rattle.world_model.specs.World.{Setting, rules_at, states_of}
use Rattle.world_model.specs.Audit.{audit_of}

-- the history of replica i
abbrev pub history_of : Setting → List Event → ℕ → List Entry
history_of w es i = (states_of w es i).history

-- what a slot delivered at replica i
abbrev pub delivered : Setting → List Event → ℕ → Slot → Option (List ℕ)
delivered w es i s = out_at_slot (rules_at w i).casts s ((parts (rules_at w i) (history_of w es i)).calls s)

-- what replica i started at a slot
abbrev pub started_at : Setting → List Event → ℕ → Slot → Option (List ℕ)
started_at w es i s = started ((parts (rules_at w i) (history_of w es i)).calls s)

-- what its service said there
abbrev pub said_at : Setting → List Event → ℕ → Slot → Option (List ℕ)
said_at w es i s = let p = parts (rules_at w i) (history_of w es i) in said_value (said w.service (seat_of (rules_at w i)) p.words) s

-- how many inputs a history has, and its input of a number, from 0
abbrev pub count_inputs : List Entry → ℕ
count_inputs [] = 0
count_inputs (Given v ∷ h) = count_inputs h + 1
count_inputs (Took x ∷ h) = count_inputs h

abbrev pub input_at : List Entry → ℕ → Option (List ℕ)
input_at [] k = None
input_at (Given v ∷ h) k = if count_inputs h == k then Some v else input_at h k
input_at (Took x ∷ h) k = input_at h k

-- the channel between the replicas: where what one sealed for another opens, it says what was sealed, and what opens is of another replica
pub record Channel (w : Setting) : Type 0 where
  pub opens : (i j seq : ℕ) (body : List ℕ) (o : Opening) → i < w.numbers.n → j < w.numbers.n → i ≢ j → seq < 2 ^ 64
      → opening (w.keys j) (sealed (w.keys i) j seq body) ≡ Ok o → o ≡ record { from = i; seq = seq; body = body }
  pub opened : (j : ℕ) (bytes : List ℕ) (o : Opening) → j < w.numbers.n → opening (w.keys j) bytes ≡ Ok o → (o.from < w.numbers.n) × (o.from ≢ j)
  pub own : (i : ℕ) → i < w.numbers.n → ((w.keys i).me ≡ i) × ((w.keys i).n ≡ w.numbers.n)

-- the codec: an item in the grammar has one spelling, which is read again
pub record Codec (w : Setting) : Type 0 where
  pub read : (from : ℕ) (item : Item) → IsInGrammar w.numbers w.mode item
      → body_answer w.numbers w.mode from (spelling item) ≡ Ok (record item { from = from })
  pub good : (from : ℕ) (body : List ℕ) (item : Item) → body_answer w.numbers w.mode from body ≡ Ok item
      → IsInGrammar w.numbers w.mode item × (item.from ≡ from)

-- what a world's layers keep to
pub record IsSound (w : Setting) : Type 0 where
  pub session : IsSession w.numbers
  pub within : (i : ℕ) → w.is_correct i ≡ true → i < w.numbers.n
  pub casts : (s : Slot) → ValueLaws (w.at_slot s)
  pub one_value : (s : Slot) → OneValue (w.at_slot s)
  pub entries : (s : Slot) → EntryLaws (w.at_slot s)
  pub words : WordLaws w.service
  pub serves : w.service.serves w.mode.root ≡ true
  pub kinds : (i : ℕ) → FormsFit w.mode (rules_at w i).casts
  pub channel : Channel w
  pub codec : Codec w

-- At each slot all correct replicas that deliver a value deliver one, and a correct origin's is what it started there: at a
-- command slot its input of that number. What a correct replica starts is what its service said there.
pub record OneValueEach (w : Setting) (es : List Event) : Type 0 where
  pub agree : (s : Slot) (i j : ℕ) (v u : List ℕ) → w.is_correct i ≡ true → w.is_correct j ≡ true
      → delivered w es i s ≡ Some v → delivered w es j s ≡ Some u → v ≡ u
  pub genuine : (s : Slot) (i : ℕ) (v : List ℕ) → w.is_correct i ≡ true → w.is_correct s.origin ≡ true
      → delivered w es i s ≡ Some v → started_at w es s.origin s ≡ Some v
  pub inputs : (origin num : ℕ) (i : ℕ) (v : List ℕ) → w.is_correct i ≡ true → w.is_correct origin ≡ true
      → delivered w es i (command_slot origin num) ≡ Some v → input_at (history_of w es origin) num ≡ Some v
  pub said : (s : Slot) (i : ℕ) → w.is_correct i ≡ true → started_at w es i s ≡ said_at w es i s

-- the law: for every world and every schedule, where the audit holds
abbrev pub WorldLaw : Type 0
WorldLaw = (w : Setting) (es : List Event) → IsSound w → audit_of w es ≡ Holds → OneValueEach w es
