-- The events of one replica alone, each read off the front of some bytes.
use Rattle.std.specs.Prelude.{◌≡◌, ℕ, ◌+◌, ◌==◌, Bool, false, List, [], ◌∷◌, ◌++◌, length, take, drop, nat_le, Option, Some, None, if◌then◌else◌, refl}
use Rattle.std.specs.Int.{w16, from_be_bytes}
use Rattle.ritas_base.specs.declared.event.Event.{Event}
use Rattle.ritas_base.specs.declared.event.Event.TheVariants.{Frame, Input, Turn}
use Rattle.schedule_file.specs.ReadEvents.{has_text}
use Rattle.schedule_file.specs.Spelling.{event_text, IsAlone, IsSized}

-- an event at this replica: a frame, an input or a turn, whose length fits its field
pub record IsOwnEvent (me : ℕ) (e : Event) : Type 0 where
  pub alone : IsAlone me e
  pub fits : IsSized e

-- with this event at this replica, of so many bytes, some bytes begin
pub record IsEventRead (me : ℕ) (bytes : List ℕ) (e : Event) (k : ℕ) : Type 0 where
  pub own : IsOwnEvent me e
  pub size : k ≡ length (event_text e)
  pub text : bytes ≡ event_text e ++ drop k bytes

-- so many bytes, if there are as many
abbrev pub front_in : ℕ → List ℕ → Option (List ℕ)
front_in len rest = if nat_le len (length rest) then Some (take len rest) else None

-- the text that stands behind its length
abbrev pub sized_in : List ℕ → Option (List ℕ)
sized_in [] = None
sized_in (high ∷ []) = None
sized_in (high ∷ low ∷ rest) = front_in (from_be_bytes w16 (high ∷ low ∷ [])) rest

-- an event with a text, and how many bytes it has
abbrev pub with_text : (List ℕ → Event) → Option (List ℕ) → Option (Event × ℕ)
with_text make None = None
with_text make (Some text) = Some (make text, length text + 4)

-- what follows the first byte of an event at this replica
abbrev pub kind_in : ℕ → ℕ → List ℕ → Option (Event × ℕ)
kind_in me kind rest =
    if kind == 1 then with_text (Frame me) (sized_in rest)
    else if kind == 2 then with_text (Input me) (sized_in rest)
    else if kind == 3 then Some (Turn me, 2)
    else None

-- the event of this replica with which the bytes begin, and how many bytes it has
abbrev pub own_event : ℕ → List ℕ → Option (Event × ℕ)
own_event me [] = None
own_event me (kind ∷ []) = None
own_event me (kind ∷ at ∷ rest) = if at == me then kind_in me kind rest else None

-- there is one, and it holds a text
abbrev pub has_own_text : Option (Event × ℕ) → Bool
has_own_text None = false
has_own_text (Some x) = has_text x.0

-- an input of replica 0, "hi", and something behind it
input_is_read : own_event 0 (2 ∷ 0 ∷ 0 ∷ 2 ∷ 104 ∷ 105 ∷ 9 ∷ []) ≡ Some (Input 0 (104 ∷ 105 ∷ []), 6)
input_is_read = refl

turn_is_read : own_event 1 (3 ∷ 1 ∷ []) ≡ Some (Turn 1, 2)
turn_is_read = refl

-- a byte is missing
front_is_none : own_event 0 (2 ∷ 0 ∷ 0 ∷ 2 ∷ 104 ∷ []) ≡ None
front_is_none = refl

-- another replica's
other_is_none : own_event 0 (3 ∷ 1 ∷ []) ≡ None
other_is_none = refl

-- a frame that is passed on is of two replicas
pass_is_none : own_event 0 (4 ∷ 0 ∷ 1 ∷ 0 ∷ 0 ∷ 0 ∷ 0 ∷ []) ≡ None
pass_is_none = refl
