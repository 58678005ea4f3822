-- Worked rows of one small epoch: two rows, and one request that waits.
use Rattle.std.specs.Prelude.{◌≡◌, ℕ, List, [], ◌∷◌, refl}
use Rattle.std.proofs.Common.{lit<, lit≤}
use Rattle.command_log.specs.Rows.{Row}
use Rattle.command_log.specs.Pieces.{row_bytes}
use Rattle.chain_file.specs.Epochs.{ClosedEpoch, FitsRow, IsEpoch, IsRequest, epoch_text, request_text, rows_from, epoch_from}
use Rattle.chain_file.specs.Reading.{BeginsAs, epoch_read}

-- the rows of requests 1 and 258 of client 7, and its request 259
abbrev older : Row
older = record { id = record { origin = 2; num = 5 }; client = 7; request = 1; payload = 104 ∷ 105 ∷ [] }

abbrev newer : Row
newer = record { id = record { origin = 0; num = 6 }; client = 7; request = 258; payload = [] }

abbrev waits : List ℕ
waits = 0 ∷ 0 ∷ 0 ∷ 7 ∷ 0 ∷ 0 ∷ 1 ∷ 3 ∷ 33 ∷ []

abbrev epoch : ClosedEpoch
epoch = record { rows = newer ∷ older ∷ []; waiting = waits ∷ [] }

-- ---- texts

-- the oldest row is first
text_of_both : epoch_text epoch
    ≡ 0 ∷ 0 ∷ 0 ∷ 2
    ∷ 2 ∷ 0 ∷ 0 ∷ 0 ∷ 5 ∷ 0 ∷ 0 ∷ 0 ∷ 7 ∷ 0 ∷ 0 ∷ 0 ∷ 1 ∷ 0 ∷ 2 ∷ 104 ∷ 105
    ∷ 0 ∷ 0 ∷ 0 ∷ 0 ∷ 6 ∷ 0 ∷ 0 ∷ 0 ∷ 7 ∷ 0 ∷ 0 ∷ 1 ∷ 2 ∷ 0 ∷ 0
    ∷ 0 ∷ 1
    ∷ 0 ∷ 9 ∷ 0 ∷ 0 ∷ 0 ∷ 7 ∷ 0 ∷ 0 ∷ 1 ∷ 3 ∷ 33
    ∷ []
text_of_both = refl

-- an epoch may have nothing
text_of_none : epoch_text (record { rows = []; waiting = [] }) ≡ 0 ∷ 0 ∷ 0 ∷ 0 ∷ 0 ∷ 0 ∷ []
text_of_none = refl

it_is_one : IsEpoch epoch
it_is_one = record {
  few_rows = lit< tt;
  rows = (
    record { origin = lit< tt; num = lit< tt; client = lit< tt; request = lit< tt; payload = lit< tt },
    (record { origin = lit< tt; num = lit< tt; client = lit< tt; request = lit< tt; payload = lit< tt }, tt),
  );
  few_waiting = lit< tt;
  waiting = ((lit≤ tt, lit≤ tt), tt);
}

-- ---- rows of a log, of which the newest is first

from_second : rows_from (newer ∷ older ∷ []) 1 ≡ newer ∷ []
from_second = refl

from_behind : rows_from (newer ∷ older ∷ []) 3 ≡ []
from_behind = refl

all_of_it : epoch_from (newer ∷ older ∷ []) 0 (waits ∷ []) ≡ epoch
all_of_it = refl

-- ---- what is read, where the oldest row is first

it_is_read : epoch_read (older ∷ newer ∷ []) (waits ∷ []) ≡ epoch
it_is_read = refl

-- a row, and a byte that follows it
older_and_nine : BeginsAs FitsRow row_bytes (2 ∷ 0 ∷ 0 ∷ 0 ∷ 5 ∷ 0 ∷ 0 ∷ 0 ∷ 7 ∷ 0 ∷ 0 ∷ 0 ∷ 1 ∷ 0 ∷ 2 ∷ 104 ∷ 105 ∷ 9 ∷ []) older (9 ∷ [])
older_and_nine = record { fits = it_is_one.rows.1.0; parts = refl }

-- a request, and a byte that follows it
waits_and_nine : BeginsAs IsRequest request_text (0 ∷ 9 ∷ 0 ∷ 0 ∷ 0 ∷ 7 ∷ 0 ∷ 0 ∷ 1 ∷ 3 ∷ 33 ∷ 9 ∷ []) waits (9 ∷ [])
waits_and_nine = record { fits = it_is_one.waiting.0; parts = refl }
