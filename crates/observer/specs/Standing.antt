-- For which pieces an observer stands.
use Rattle.std.specs.Prelude.{◌≡◌, ℕ, List, length, reverse, Option}
use Rattle.ritas_base.specs.Numbers.{Numbers}
use Rattle.command_log.specs.Rows.{Row}
use Rattle.observer.specs.Giving.{Gift, GivenStep, rows_given}
use Rattle.observer.specs.Watching.{observed, entered_given}
use Rattle.observer.specs.Places.{Window, AreKeptIn, AreTakenGifts, StandsForSteps}

-- what an observer keeps: its log, and in places the rows that replicas gave from its length on
pub record Watcher : Type 0 where
  pub numbers : Numbers
  pub rows : List Row
  pub places : List (Option Row)

-- the observer stands for these pieces
pub record StandsForGifts (p : Numbers) (h : List Gift) (o : Watcher) : Type 0 where
  pub numbers : o.numbers ≡ p
  pub rows : o.rows ≡ (observed p h).rows
  pub kept : AreKeptIn (length o.rows) o.places (observed p h).kept
  pub taken : AreTakenGifts p h

-- What is entered, so many times at most, of the rows that were given, and for which steps these stand then: positions
-- alone were passed. Rows have the oldest first here.
pub record Entering (p : Numbers) (first times : ℕ) (h : List GivenStep) (rows more : List Row) (left : Window)
    : Type 0 where
  pub log : reverse more ≡ entered_given p (rows_given first h).kept times (reverse rows)
  pub steps : List GivenStep
  pub same : (rows_given first steps).kept ≡ (rows_given first h).kept
  pub stands : StandsForSteps p first steps left

abbrev pub HasEnteredGiven : ℕ → List Row → Window → List Row → Window → Type 0
HasEnteredGiven times rows given more left = (p : Numbers) (first : ℕ) (h : List GivenStep)
    → StandsForSteps p first h given → Entering p first times h rows more left
