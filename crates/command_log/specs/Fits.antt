-- A log has room for all identifiers: they are distinct, and each was heard, so there are at most 31,000,000 of them, and no more
-- rows.
use Rattle.std.specs.Prelude.{ℕ, ◌+◌, ◌*◌, ◌≤◌, Bool, true, false, if◌then◌else◌, List, [], ◌∷◌, length, Option}
use Rattle.std.proofs.Common.{arith, length-append}
use Rattle.ritas_base.specs.Limits.{number_limit, least_request}
use Rattle.ritas_base.specs.declared.id.Id.{Id}
use Rattle.frame_codec.specs.Format.{Is}
use Rattle.frame_codec.specs.Grammar.{class1}
use Rattle.layer_api.specs.Words.{Word}
use Rattle.layer_api.specs.Service.{ServiceRules, Seat, AreProper, WordLaws}
use Rattle.layer_api.specs.LogLengthLaws.{ids_fit}
use Rattle.command_log.specs.Rows.{CommandEntry, Row, Start, row_of, alone, is_entered, rows_with, own_rows, entry_of_id, entries_of_log, command_rows, chain_rows}

-- so many does an identifier log have at most
pub log_fits : (r : ServiceRules) → WordLaws r → (seat : Seat) (w : List Word) → AreProper r seat w → length (r.done seat w) ≤ 31 * number_limit
log_fits r laws seat w proper = ids_fit r seat w (r.done seat w) proper (laws.done_heard seat w proper) (laws.done_once seat w proper)

-- ---- and no more rows

with_most : (s : Start) (f : ℕ) (e : CommandEntry) (es : List CommandEntry) (rs : List Row) (n : ℕ) → length rs ≤ n → length (rows_with s f e es rs) ≤ n + 1
with_most s f e es rs n few = go (is_entered s f e es rs)
  where
    go : (b : Bool) → length (if b then row_of e ∷ rs else rs) ≤ n + 1
    go true = omega (arith, few)
    go false = omega (arith, few)

-- there are no more rows above the base than identifiers
pub own_fit : (s : Start) (f : ℕ) (a : Id → Option (List ℕ)) (xs : List Id) → length (own_rows s f (entries_of_log a xs)) ≤ length xs
own_fit s f a [] = omega arith
own_fit s f a (x ∷ xs) =
    let one = with_most s f (entry_of_id a x) (entries_of_log a xs) (own_rows s f (entries_of_log a xs)) (length xs) (own_fit s f a xs) in
    omega (arith, one)

pub rows_fit : (f : ℕ) (a : Id → Option (List ℕ)) (xs : List Id) → length (command_rows f a xs) ≤ length xs
rows_fit = own_fit alone

pub chain_fits : (s : Start) (f : ℕ) (a : Id → Option (List ℕ)) (xs : List Id) → length (chain_rows s f a xs) ≤ length s.base + length xs
chain_fits s f a xs =
    let few = own_fit s f a xs in
    let whole = length-append (own_rows s f (entries_of_log a xs)) s.base in
    omega (arith, few, whole)

-- ---- a command of the grammar has a client's number and a request's

pub command_long : (v : List ℕ) → Is (class1 6) v → least_request ≤ length v
unfolding class1
command_long v is = is.0
