-- What a service means: its rules on lists of words, the newest first, and when a word may come.
use Rattle.std.specs.Prelude.{◌≡◌, ℕ, ◌+◌, ◌*◌, ◌<◌, ◌≤◌, ◌⊎◌, Bool, true, false, not, ◌==◌, ◌&&◌, List, [], ◌∷◌, ◌++◌, length, Option, Some, None, is_some, ⊤, if◌then◌else◌}
use Rattle.ritas_base.specs.declared.slot.Slot.{Slot}
use Rattle.ritas_base.specs.declared.item.Say.{Say}
use Rattle.ritas_base.specs.declared.id.Id.{Id}
use Rattle.ritas_base.specs.declared.mode.Mode.{Mode}
use Rattle.ritas_base.specs.Limits.{number_limit}
use Rattle.ritas_base.specs.Numbers.{Numbers, IsSession}
use Rattle.ritas_base.specs.Slots.{slot_fault, has_class, command_slot}
use Rattle.frame_codec.specs.Format.{Is}
use Rattle.frame_codec.specs.Grammar.{value}
use Rattle.frame_codec.specs.Inputs.{IsInput}
pub use Rattle.layer_api.specs.Purpose.{Instance, OfBit, OfValue, OfVector, Decision, Bit, Nothing, Value, Spent, Purpose, Carries, Decides, Orders, purpose_of, own_instance, has_instance, orders_commands, has_id}
use Rattle.layer_api.specs.Windows.{command_window, lies_behind, lies_beyond}
use Rattle.layer_api.specs.Words.{Word, Ask, Hear, is_heard, asked, HasSay, AllMet, all_said, AreFresh}

-- the session and the replica that a service's value is for, and its coin
pub record Seat : Type 0 where
  pub numbers : Numbers
  pub mode : Mode
  pub me : ℕ
  pub coin : Slot → Bool

-- what a multi-valued consensus decided: that no value is, or a value
abbrev pub value_decision : Option (List ℕ) → Decision
value_decision None = Nothing
value_decision (Some v) = Value v

-- what a vector consensus decided, by its vector and whether its attempts are spent
abbrev pub vector_decision : Option (List ℕ) → Bool → Option Decision
vector_decision (Some v) is_spent = Some (Value v)
vector_decision None true = Some Spent
vector_decision None false = None

-- a multi-valued consensus decides by the bit inside it: that no value is by 0, and a value by 1
abbrev pub GoesByBit : (Instance → Option Decision) → ℕ → ℕ → Type 0
GoesByBit decided a attempt = (o : Option (List ℕ)) → decided (OfValue a attempt) ≡ Some (value_decision o) → decided (OfBit a attempt) ≡ Some (Bit (is_some o))

-- the vector of a round is the value of this attempt, the first that didn't decide that no value is
pub record IsAttemptOf (decided : Instance → Option Decision) (a attempt : ℕ) (v : List ℕ) : Type 0 where
  pub vector : decided (OfVector a) ≡ Some (Value v)
  pub value : decided (OfValue a attempt) ≡ Some (Value v)
  pub failed : (k : ℕ) → k < attempt → decided (OfValue a k) ≡ Some Nothing

-- what became of a service's one instance: nothing yet, the rounds are over without a decision, or a decision
pub data Ending : Type 0 where
  Undecided : Ending
  Over : Ending
  Decided : Decision → Ending

-- what it decided, if it did
abbrev pub ending_decision : Ending → Option Decision
ending_decision Undecided = None
ending_decision Over = None
ending_decision (Decided d) = Some d

-- a vector that is decided: its round, the attempt that decided it, and its value
pub record LastVector : Type 0 where
  pub round : ℕ
  pub attempt : ℕ
  pub value : List ℕ

-- that of a round, where an attempt decided one
abbrev pub vector_with : ℕ → Option ℕ → Option (List ℕ) → Option LastVector
vector_with a None o = None
vector_with a (Some k) None = None
vector_with a (Some k) (Some v) = Some (record { round = a; attempt = k; value = v })

-- the meaning of a service at one seat, by the words so far
pub record ServiceRules : Type 0 where
  -- the root services that it serves
  pub serves : ℕ → Bool
  -- what these are for
  pub purpose : Purpose
  -- the broadcasts that a word newly starts
  pub says : Seat → List Word → Word → List Say
  -- whether items of a slot inside the window may be taken
  pub opens : Seat → List Word → Slot → Bool
  -- how many rounds are complete
  pub completed : Seat → List Word → ℕ
  -- the least command number of an origin that isn't finished
  pub base : Seat → List Word → ℕ → ℕ
  -- the number that the next input gets
  pub next_number : Seat → List Word → ℕ
  -- whether the one input of a root service with one instance is there
  pub given : Seat → List Word → Bool
  -- the identifier log, the newest first
  pub done : Seat → List Word → List Id
  -- what became of the one instance
  pub outcome : Seat → List Word → Ending
  -- the vector that was decided in the latest round
  pub last : Seat → List Word → Option LastVector
  -- what each instance inside decided
  pub decided : Seat → List Word → Instance → Option Decision

-- all that was said
abbrev pub said : ServiceRules → Seat → List Word → List Say
said r seat w = all_said (r.says seat) w

-- whether a slot's command number or round lies too far behind what is finished, in versions 1 and 2
abbrev pub is_past : ServiceRules → Seat → List Word → Slot → Bool
is_past r seat w s = lies_behind seat.mode.version s (r.base seat w s.origin) (r.completed seat w)

-- or too far ahead of it
abbrev pub is_ahead : ServiceRules → Seat → List Word → Slot → Bool
is_ahead r seat w s = lies_beyond s (r.base seat w s.origin) (r.completed seat w)

-- an input of the root service may be given: the one of a root service with one instance isn't there, and the next number lies in
-- the window
pub record MayAsk (r : ServiceRules) (seat : Seat) (w : List Word) (v : List ℕ) : Type 0 where
  pub session : IsSession seat.numbers
  pub served : r.serves seat.mode.root ≡ true
  pub good : IsInput seat.numbers seat.mode v
  pub first : r.given seat w ≡ false
  pub room : r.next_number seat w < r.base seat w seat.me + command_window
  pub number : r.next_number seat w < number_limit

-- a slot of the root service is heard once, inside the window, while its items may be taken, and with a value of its grammar
pub record MayHear (r : ServiceRules) (seat : Seat) (w : List Word) (s : Slot) (v : List ℕ) : Type 0 where
  pub session : IsSession seat.numbers
  pub served : r.serves seat.mode.root ≡ true
  pub right : slot_fault seat.numbers seat.mode s ≡ None
  pub good : Is (value seat.numbers seat.mode.root s) v
  pub origin : s.origin < seat.numbers.n
  pub number : s.a < number_limit
  pub not_past : is_past r seat w s ≡ false
  pub not_ahead : is_ahead r seat w s ≡ false
  pub is_open : r.opens seat w s ≡ true
  pub first : is_heard w s ≡ false

-- when a word may come
abbrev pub MayWord : ServiceRules → Seat → List Word → Word → Type 0
MayWord r seat w (Ask v) = MayAsk r seat w v
MayWord r seat w (Hear s v) = MayHear r seat w s v

-- the conditions that each of these words met
abbrev pub AreProper : ServiceRules → Seat → List Word → Type 0
AreProper r seat w = AllMet (MayWord r seat) w

-- each is at one of the replica's own slots, where nothing was said before nor is by another of them
abbrev pub AreNew : ServiceRules → Seat → List Word → List Say → Type 0
AreNew r seat w ys = AreFresh (λ y. y.slot.origin ≡ seat.me) (said r seat w) ys

-- each is at a slot of the root service, with a value of that slot's grammar
abbrev pub AreGoodSays : Numbers → Mode → List Say → Type 0
AreGoodSays p mode [] = Unit {0}
AreGoodSays p mode (y ∷ ys) = (slot_fault p mode y.slot ≡ None) × Is (value p mode.root y.slot) y.value × AreGoodSays p mode ys

-- the word is this input
abbrev pub IsAsk : Word → List ℕ → Type 0
IsAsk (Ask u) v = u ≡ v
IsAsk (Hear s u) v = ⊥

-- what is said is the input of this word, at the replica's next number
abbrev pub IsInputSaid : Seat → List Word → Word → Say → Type 0
IsInputSaid seat w c y = (y.slot ≡ command_slot seat.me (asked w)) × IsAsk c y.value

abbrev pub AreInputs : Seat → List Word → Word → List Say → Type 0
AreInputs seat w c [] = Unit {0}
AreInputs seat w c (y ∷ ys) = (y.slot.class ≡ 1 → IsInputSaid seat w c y) × AreInputs seat w c ys

-- the list is a part of another, which has more in front: a prefix of what was given in order
abbrev pub IsPart : {X : Type 0} → List X → List X → Type 0
IsPart xs ys = (more : List _) × (more ++ xs ≡ ys)

-- each identifier stands there once
abbrev pub AreDistinct : List Id → Type 0
AreDistinct [] = Unit {0}
AreDistinct (x ∷ xs) = (has_id xs x ≡ false) × AreDistinct xs

-- each of these identifiers was heard at its command slot
abbrev pub AreHeard : List Word → List Id → Type 0
AreHeard w [] = Unit {0}
AreHeard w (x ∷ xs) = (is_heard w (command_slot x.origin x.num) ≡ true) × AreHeard w xs

-- the command slot of each lies in the window or ahead of it
abbrev pub AreRecent : ServiceRules → Seat → List Word → List Id → Type 0
AreRecent r seat w [] = Unit {0}
AreRecent r seat w (x ∷ xs) = (is_past r seat w (command_slot x.origin x.num) ≡ false) × AreRecent r seat w xs

-- the log grows at its end alone, by identifiers whose command slots aren't past
pub record Appends (r : ServiceRules) (seat : Seat) (c : Word) (w : List Word) : Type 0 where
  pub more : List Id
  pub whole : more ++ r.done seat w ≡ r.done seat (c ∷ w)
  pub recent : AreRecent r seat (c ∷ w) more

-- whether a command of an origin is finished: where commands are put in one order it is in the identifier
-- log, and else it was delivered
abbrev pub is_finished : ServiceRules → Seat → List Word → ℕ → ℕ → Bool
is_finished r seat w origin num =
    if orders_commands r.purpose then has_id (r.done seat w) (record { origin = origin; num = num }) else is_heard w (command_slot origin num)

-- b is the least number that isn't finished
pub record IsBase (finished : ℕ → Bool) (b : ℕ) : Type 0 where
  pub missing : finished b ≡ false
  pub below : (k : ℕ) → k < b → finished k ≡ true

-- what may become of an instance
abbrev pub IsEndingOf : Instance → Ending → Type 0
IsEndingOf x Undecided = ⊤
IsEndingOf (OfBit a attempt) Over = ⊤
IsEndingOf (OfBit a attempt) (Decided (Bit b)) = ⊤
IsEndingOf (OfValue a attempt) (Decided Nothing) = ⊤
IsEndingOf (OfValue a attempt) (Decided (Value v)) = ⊤
IsEndingOf (OfVector a) (Decided (Value v)) = ⊤
IsEndingOf (OfVector a) (Decided Spent) = ⊤
IsEndingOf x e = ⊥

-- what may become of the one instance of a root service; one that orders commands has none, but that the
-- instance of a round may be spent, where it is one that can
abbrev pub IsEnding : Purpose → Ending → Type 0
IsEnding Carries e = e ≡ Undecided
IsEnding (Decides x) e = IsEndingOf x e
IsEnding (Orders rounds) e = (e ≡ Undecided) ⊎ ((e ≡ Decided Spent) × ((a : ℕ) × IsEndingOf (rounds.instance a) (Decided Spent)))

-- what the getters mean, by what the root service is for
pub record Meanings (r : ServiceRules) (seat : Seat) (w : List Word) : Type 0 where
  -- the inputs taken, in the root services of commands, and 0 in the others
  pub next_number : r.next_number seat w ≡ (if has_class seat.mode.root 1 then asked w else 0)
  -- the one input is there
  pub given : r.given seat w ≡ (has_instance r.purpose && not (asked w == 0))
  -- rounds are those of a service that orders commands
  pub completed : orders_commands r.purpose ≡ false → r.completed seat w ≡ 0
  -- the least command number of an origin that isn't finished, and 0 where there are no commands
  pub base : (o : ℕ) → has_class seat.mode.root 1 ≡ true → IsBase (is_finished r seat w o) (r.base seat w o)
  pub base_none : (o : ℕ) → has_instance r.purpose ≡ true → r.base seat w o ≡ 0
  -- so is the identifier log; it is never longer than there are numbers
  pub done : orders_commands r.purpose ≡ false → r.done seat w ≡ []
  pub done_few : length (r.done seat w) ≤ 31 * number_limit
  pub outcome : IsEnding r.purpose (r.outcome seat w)

-- what instances inside decided goes together with what is shown
pub record Insides (r : ServiceRules) (seat : Seat) (w : List Word) : Type 0 where
  -- of the one instance of a root service it is the outcome
  pub own : (x : Instance) → own_instance r.purpose ≡ Some x → r.decided seat w x ≡ ending_decision (r.outcome seat w)
  -- the last vector is decided, by the attempt that is named, and none of a later round is
  pub last : (x : LastVector) → r.last seat w ≡ Some x → IsAttemptOf (r.decided seat w) x.round x.attempt x.value
  pub latest : (a : ℕ) (v : List ℕ) → r.decided seat w (OfVector a) ≡ Some (Value v) → (x : LastVector) × (r.last seat w ≡ Some x) × (a ≤ x.round)
  -- each multi-valued consensus went by its bit
  pub bit : (a attempt : ℕ) → GoesByBit (r.decided seat w) a attempt

-- laws of a single value, over all words that met their conditions
pub record WordLaws (r : ServiceRules) : Type 0 where
  -- a root service is for what its number says
  pub purpose : (root : ℕ) → r.serves root ≡ true → purpose_of root ≡ Some r.purpose
  -- each getter is what its root service says
  pub meanings : (seat : Seat) (w : List Word) → IsSession seat.numbers → r.serves seat.mode.root ≡ true → AreProper r seat w → Meanings r seat w
  -- what instances inside decided is what is shown
  pub insides : (seat : Seat) (w : List Word) → IsSession seat.numbers → r.serves seat.mode.root ≡ true → AreProper r seat w → Insides r seat w
  -- what is open stays open, as long as its window isn't past
  pub opens_stays : (seat : Seat) (c : Word) (w : List Word) (s : Slot) → AreProper r seat (c ∷ w) → r.opens seat w s ≡ true
      → is_past r seat (c ∷ w) s ≡ false → r.opens seat (c ∷ w) s ≡ true
  -- what is said is at new slots of this replica
  pub says_new : (seat : Seat) (c : Word) (w : List Word) → AreProper r seat (c ∷ w) → AreNew r seat w (r.says seat w c)
  -- and in the grammar
  pub says_good : (seat : Seat) (c : Word) (w : List Word) → seat.me < seat.numbers.n
      → AreProper r seat (c ∷ w) → AreGoodSays seat.numbers seat.mode (r.says seat w c)
  -- a command slot is said for an input alone, and is that of the replica's next number
  pub commands_said : (seat : Seat) (c : Word) (w : List Word) → AreProper r seat (c ∷ w) → AreInputs seat w c (r.says seat w c)
  -- in a root service of commands each input is said, in its own call
  pub inputs_said : (seat : Seat) (v : List ℕ) (w : List Word) → has_class seat.mode.root 1 ≡ true
      → AreProper r seat (Ask v ∷ w) → HasSay (r.says seat w (Ask v)) (record { slot = command_slot seat.me (asked w); value = v })
  -- the windows never go back
  pub completed_stays : (seat : Seat) (c : Word) (w : List Word) → AreProper r seat (c ∷ w) → r.completed seat w ≤ r.completed seat (c ∷ w)
  pub base_stays : (seat : Seat) (c : Word) (w : List Word) (o : ℕ) → AreProper r seat (c ∷ w) → r.base seat w o ≤ r.base seat (c ∷ w) o
  -- the identifier log grows at its end alone, has each identifier once, and each was heard at its command slot
  pub done_nothing : (seat : Seat) → r.done seat [] ≡ []
  pub done_grows : (seat : Seat) (c : Word) (w : List Word) → AreProper r seat (c ∷ w) → Appends r seat c w
  pub done_once : (seat : Seat) (w : List Word) → AreProper r seat w → AreDistinct (r.done seat w)
  pub done_heard : (seat : Seat) (w : List Word) → AreProper r seat w → AreHeard w (r.done seat w)
  -- a slot that a word hears isn't past after it
  pub heard_recent : (seat : Seat) (s : Slot) (v : List ℕ) (w : List Word) → AreProper r seat (Hear s v ∷ w) → is_past r seat (Hear s v ∷ w) s ≡ false
  -- a decision stays
  pub outcome_stays : (seat : Seat) (c : Word) (w : List Word) (d : Decision) → AreProper r seat (c ∷ w)
      → r.outcome seat w ≡ Decided d → r.outcome seat (c ∷ w) ≡ Decided d
  pub decided_stays : (seat : Seat) (c : Word) (w : List Word) (x : Instance) (d : Decision) → AreProper r seat (c ∷ w)
      → r.decided seat w x ≡ Some d → r.decided seat (c ∷ w) x ≡ Some d
