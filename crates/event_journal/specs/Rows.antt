-- Worked rows of journals. A head has 51 bytes; these have a shorter one.
use Rattle.std.specs.Prelude.{◌≡◌, ℕ, List, [], ◌∷◌, refl}
use Rattle.std.proofs.Common.{inl, inr, lit≤}
use Rattle.ritas_base.specs.declared.event.Event.{Event}
use Rattle.ritas_base.specs.declared.event.Event.TheVariants.{Input, Turn}
use Rattle.record_file.specs.Records as file
use Rattle.event_journal.specs.EventRecords.{event_texts, journal_form}
use Rattle.event_journal.specs.Journal.{IsRecord, IsUnmade, Opens, behind_text, closed_front, record_text, records}

-- an input of replica 0, "h", and then a turn: the newest first
abbrev two : List Event
two = Turn 0 ∷ Input 0 (104 ∷ []) ∷ []

-- an open gate, the length, and the event
input_record : record_text (Input 0 (104 ∷ [])) ≡ 1 ∷ 0 ∷ 5 ∷ 2 ∷ 0 ∷ 0 ∷ 1 ∷ 104 ∷ []
input_record = refl

-- in the file the oldest is first
two_records : records two ≡ 1 ∷ 0 ∷ 5 ∷ 2 ∷ 0 ∷ 0 ∷ 1 ∷ 104 ∷ 1 ∷ 0 ∷ 2 ∷ 3 ∷ 0 ∷ []
two_records = refl

-- they are the records of a file of their texts
two_texts : file.records journal_form (event_texts two) ≡ records two
two_texts = refl

-- what is written to append both: their first gate is opened later
behind_two : behind_text two ≡ 0 ∷ 5 ∷ 2 ∷ 0 ∷ 0 ∷ 1 ∷ 104 ∷ 1 ∷ 0 ∷ 2 ∷ 3 ∷ 0 ∷ 0 ∷ []
behind_two = refl

behind_none : behind_text [] ≡ []
behind_none = refl

-- the head 82 and no record
front_of_none : closed_front (82 ∷ []) [] ≡ 1 ∷ 82 ∷ []
front_of_none = refl

a_turn : IsRecord 0 (Turn 0)
a_turn = record { alone = refl; fits = tt; short = lit≤ tt }

-- a turn, a closed gate, and something that counts for nothing
one_opens : Opens 0 (82 ∷ []) (1 ∷ 82 ∷ 1 ∷ 0 ∷ 2 ∷ 3 ∷ 0 ∷ 7 ∷ 1 ∷ 1 ∷ []) (Turn 0 ∷ [])
one_opens = record {
  gate = 7;
  rest = 1 ∷ 1 ∷ [];
  text = refl;
  shut = λ is. cc is;
  each = (a_turn, tt);
  size = lit≤ tt;
}

-- before the gate is opened, the same file opens as no events
none_opens : Opens 0 (82 ∷ []) (1 ∷ 82 ∷ 0 ∷ 0 ∷ 2 ∷ 3 ∷ 0 ∷ 0 ∷ []) []
none_opens = record { gate = 0; rest = 0 ∷ 2 ∷ 3 ∷ 0 ∷ 0 ∷ []; text = refl; shut = λ is. cc is; each = tt; size = lit≤ tt }

-- ---- files that aren't made

nothing_is_unmade : IsUnmade []
nothing_is_unmade = inl (lit≤ tt)

cleared_is_unmade : (rest : List ℕ) → IsUnmade (0 ∷ rest)
cleared_is_unmade rest = inr (λ is. cc is)
