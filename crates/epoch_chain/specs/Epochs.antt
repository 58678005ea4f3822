-- What nodes have of epochs, and the laws of their chains. Lists have the newest first.
use Rattle.std.specs.Prelude.{◌++◌, false, ◌≡◌, ℕ, ◌<◌, ◌≤◌, ◌-◌, Bool, true, List, [], ◌∷◌, length, count_by, Some, ◌⊎◌}
use Rattle.ritas_base.specs.History.{replicas}
use Rattle.layer_api.specs.Service.{IsPart}
use Rattle.command_log.specs.Rows.{CommandEntry, Row, closes, is_closed, chained_on, has_ended, own_rows, rows_over, rows_of, row_at, AreOnce, HasRow}
use Rattle.command_log.specs.Fresh.{fresh, closed_part}
use Rattle.epoch_chain.specs.Chain.{chain_of}

-- of two lists one is a prefix of the other
abbrev pub OneIsPart : {X : Type 0} → List X → List X → Type 0
OneIsPart xs ys = IsPart xs ys ⊎ IsPart ys xs

-- the epochs of a cluster: which replicas are correct in an epoch, and the log of each
pub record Epochs : Type 0 where
  pub is_correct : ℕ → ℕ → Bool
  pub log : ℕ → ℕ → List Row

-- in each epoch the logs of correct replicas are prefixes of one list, as agreement in the world of the epoch says
abbrev pub AreAlike : Epochs → Type 0
AreAlike e = (k i j : ℕ) → e.is_correct k i ≡ true → e.is_correct k j ≡ true → OneIsPart (e.log k i) (e.log k j)

-- the rows are the log of a correct replica of epoch k, as it was at some moment
pub record IsLog (e : Epochs) (k : ℕ) (rows : List Row) : Type 0 where
  pub replica : ℕ
  pub correct : e.is_correct k replica ≡ true
  pub part : IsPart rows (e.log k replica)

-- what a node keeps of an epoch that is closed, one of whose rows is fresh and closes: a correct replica's log, or what the chain got
-- of it; the chain is that of the epochs before
pub record IsKept (e : Epochs) (k : ℕ) (chain rows : List Row) : Type 0 where
  pub log : List Row
  pub stands : IsLog e k log
  pub closed : is_closed (fresh chain log) ≡ true
  pub same : (rows ≡ log) ⊎ (rows ≡ closed_part (fresh chain log))

abbrev pub AreKept : Epochs → List (List Row) → Type 0
AreKept e [] = Unit {0}
AreKept e (rows ∷ earlier) = IsKept e (length earlier) (chain_of earlier) rows × AreKept e earlier

-- what a node has of the epochs, the newest first: its own log of the newest one, or what it keeps of it, and what it keeps of those before
abbrev pub IsView : Epochs → List (List Row) → Type 0
IsView e [] = Unit {0}
IsView e (rows ∷ earlier) = (IsLog e (length earlier) rows ⊎ IsKept e (length earlier) (chain_of earlier) rows) × AreKept e earlier

-- ---- the laws

-- the chains of any two nodes are prefixes of one list
abbrev pub ChainsAgree : Type 0
ChainsAgree = (e : Epochs) → AreAlike e → (a b : List (List Row)) → IsView e a → IsView e b → OneIsPart (chain_of a) (chain_of b)

-- each client and request stands in a chain once
abbrev pub ChainsOnce : Type 0
ChainsOnce = (logs : List (List Row)) → AreOnce (chain_of logs)

-- a row of a chain is one of the log of a correct replica, of an epoch that the node has, where it was confirmed
pub record IsOfEpoch (e : Epochs) (epochs : ℕ) (r : Row) : Type 0 where
  pub epoch : ℕ
  pub within : epoch < epochs
  pub replica : ℕ
  pub correct : e.is_correct epoch replica ≡ true
  pub has : HasRow (e.log epoch replica) r

abbrev pub RowsAreOfEpochs : Type 0
RowsAreOfEpochs = (e : Epochs) (a : List (List Row)) (r : Row) → IsView e a → HasRow (chain_of a) r → IsOfEpoch e (length a) r

-- a replica closes epoch k with the request number k and no other, so that closing rows of two epochs are two requests
abbrev pub AreMarked : Epochs → Type 0
AreMarked e = (k i : ℕ) (r : Row) → e.is_correct k i ≡ true → HasRow (e.log k i) r → closes r ≡ true → r.request ≡ k

-- then a closing row of a correct replica's log is fresh, so that it closes its epoch
abbrev pub MarkedIsClosed : Type 0
MarkedIsClosed = (e : Epochs) → AreMarked e → (log : List Row) (earlier : List (List Row)) → IsLog e (length earlier) log → AreKept e earlier
    → is_closed log ≡ true → is_closed (fresh (chain_of earlier) log) ≡ true

-- ---- a log over the chain of the epochs before

-- is the chain with its epoch, of which the log of a session by itself has the rows
abbrev pub LogIsChain : Type 0
LogIsChain = (earlier : List (List Row)) (f : ℕ) (es : List CommandEntry) → rows_over (chained_on (chain_of earlier)) f es ≡ chain_of (rows_of f es ∷ earlier)

-- and is over exactly where that closes the epoch
abbrev pub OverIsClosed : Type 0
OverIsClosed = (earlier : List (List Row)) (f : ℕ) (es : List CommandEntry) → let s = chained_on (chain_of earlier) in
    has_ended s (own_rows s f es) ≡ is_closed (fresh (chain_of earlier) (rows_of f es))

-- ---- rows that are taken over

-- of n replicas at least n - f are correct, and their chains are prefixes of one, the longest; each correct one that gave the row at the position
-- has it there
pub record AreGivers (n f : ℕ) (is_correct : ℕ → Bool) (chain : ℕ → List Row) (longest : List Row) (gave : ℕ → Bool) (position : ℕ) (r : Row) : Type 0 where
  pub enough : n - f ≤ count_by is_correct (replicas n)
  pub parts : (i : ℕ) → is_correct i ≡ true → IsPart (chain i) longest
  pub true_rows : (i : ℕ) → is_correct i ≡ true → gave i ≡ true → row_at (chain i) position ≡ Some r

-- then a row that f + 1 of them gave at a position is that of the longest chain
abbrev pub AdoptedIsTrue : Type 0
AdoptedIsTrue = (n f : ℕ) (is_correct : ℕ → Bool) (chain : ℕ → List Row) (longest : List Row) (gave : ℕ → Bool) (position : ℕ) (r : Row)
    → AreGivers n f is_correct chain longest gave position r → f < count_by gave (replicas n) → row_at longest position ≡ Some r

-- and a chain that is a part of the longest is one with that row
abbrev pub AdoptedIsPart : Type 0
AdoptedIsPart = (n f : ℕ) (is_correct : ℕ → Bool) (chain : ℕ → List Row) (longest own : List Row) (gave : ℕ → Bool) (r : Row)
    → AreGivers n f is_correct chain longest gave (length own) r → f < count_by gave (replicas n) → IsPart own longest → IsPart (r ∷ own) longest

-- of a node that keeps the epochs before, and whose chain with these rows is a part of some chain: where the newest of them closes, and no other does,
-- they are what the chain got of the epoch, and the node keeps it
abbrev pub TakenOverIsKept : Type 0
TakenOverIsKept = (e : Epochs) → AreAlike e → (longest earlier : List (List Row)) (r : Row) (rows : List Row)
    → IsView e longest → AreKept e earlier → closes r ≡ true → is_closed rows ≡ false → IsPart (r ∷ rows ++ chain_of earlier) (chain_of longest)
    → IsKept e (length earlier) (chain_of earlier) (r ∷ rows)
