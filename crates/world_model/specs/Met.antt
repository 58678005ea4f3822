-- What a replica met at a message that was sent to it, and the rows of columns that it is compared with.
use Rattle.std.specs.Prelude.{ℕ, Bool, false, not, ◌&&◌, List, [], map, Option, Some, None, slice_get}
use Rattle.ritas_base.specs.declared.slot.Slot.{Slot}
use Rattle.ritas_base.specs.History.{replicas, is_value}
use Rattle.frame_codec.specs.Values.{column_row}
use Rattle.keyed_channel.specs.KeyRow.{KeyRow}
use Rattle.keyed_channel.specs.Keyed.{tags_of}
use Rattle.world_model.specs.declared.met.EntryPair.{EntryPair}
use Rattle.world_model.specs.Audit.{is_among}

-- the digest of a message, and the entries that a replica and each one have of each other
pub record MetEntries : Type 0 where
  pub digest : List ℕ
  pub pairs : List EntryPair

-- the entries of a message with this digest that the replica with these keys and another have of each other
abbrev pub pair_of : KeyRow → Slot → List ℕ → ℕ → EntryPair
pair_of k s digest other = record {
  given = (tags_of k).entry s k.me other digest;
  expected = (tags_of k).entry s other k.me digest;
}

-- the same entries, as the other has them
abbrev pub turned_pair : EntryPair → EntryPair
turned_pair pair = record { given = pair.expected; expected = pair.given }

-- what the replica with these keys meets at a message with this digest
abbrev pub met_with : KeyRow → Slot → List ℕ → MetEntries
met_with k s digest = record { digest = digest; pairs = map (pair_of k s digest) (replicas k.n) }

-- what it meets at a message, if there is one
abbrev pub met_for : KeyRow → Slot → Option (List ℕ) → Option MetEntries
met_for k s None = None
met_for k s (Some m) = Some (met_with k s ((tags_of k).digest m))

-- ---- rows of columns

-- the entries that a replica gives of what it met
abbrev pub entries_given : Option MetEntries → List (List ℕ)
entries_given None = []
entries_given (Some met) = map (λ pair. pair.given) met.pairs

-- whether a row is the entry that is expected, if one is
abbrev pub is_expected : Option EntryPair → Option (List ℕ) → Bool
is_expected None row = false
is_expected (Some pair) row = is_value pair.expected row

-- whether a column has the entry that a replica which met this expects of an echoer, where that one, which met the second,
-- hadn't given it
abbrev pub is_unknown : MetEntries → Option MetEntries → ℕ → List ℕ → Bool
is_unknown met echoers echoer column =
    is_expected (slice_get met.pairs echoer) (column_row column echoer) && not (is_among (entries_given echoers) (column_row column echoer))
