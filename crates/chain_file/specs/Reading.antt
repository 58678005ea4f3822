-- What is read of the text of an epoch, from the left: a part of it stands in front of the rest.
use Rattle.std.specs.Prelude.{◌≡◌, ℕ, ◌<◌, ◌^◌, List, ◌++◌, length, reverse, Result, Ok, Err}
use Rattle.std.specs.List.{AllByRecursion}
use Rattle.command_log.specs.Rows.{Row}
use Rattle.chain_file.specs.declared.fault.EpochFault.{EpochFault}
use Rattle.chain_file.specs.declared.fault.EpochFault.TheVariants.{Format, Mem}
use Rattle.chain_file.specs.Epochs.{ClosedEpoch, FitsRow, IsRequest}

-- the bytes begin with the text of x, which fits, and the rest follows it
pub record BeginsAs {X : Type 0} (Fits : X → Type 0) (text : X → List ℕ) (bytes : List ℕ) (x : X) (rest : List ℕ) : Type 0 where
  pub fits : Fits x
  pub parts : bytes ≡ text x ++ rest

-- they begin with the text of nothing that fits
abbrev pub BeginsAsNone : {X : Type 0} → (X → Type 0) → (X → List ℕ) → List ℕ → Type 0
BeginsAsNone {X} Fits text bytes = (x : X) (rest : List ℕ) → BeginsAs Fits text bytes x rest → ⊥

-- what a fault tells of such a text; nothing where memory was wanting
abbrev pub IsFrontFault : {X : Type 0} → (X → Type 0) → (X → List ℕ) → List ℕ → EpochFault → Type 0
IsFrontFault Fits text bytes Format = BeginsAsNone Fits text bytes
IsFrontFault Fits text bytes Mem = Unit {0}

-- the front of the bytes was read, as view has it, with the rest
abbrev pub ReadsFront : {X A : Type 0} → (X → Type 0) → (X → List ℕ) → List ℕ → (A → X × List ℕ) → Result A EpochFault → Type 0
ReadsFront Fits text bytes view (Ok a) = BeginsAs Fits text bytes (view a).0 (view a).1
ReadsFront Fits text bytes view (Err fault) = IsFrontFault Fits text bytes fault

-- ---- numbers

abbrev pub HasTwoBytes : ℕ → Type 0
HasTwoBytes n = n < 2 ^ 16

abbrev pub HasFourBytes : ℕ → Type 0
HasFourBytes n = n < 2 ^ 32

abbrev pub HasLength : ℕ → List ℕ → Type 0
HasLength len l = length l ≡ len

-- ---- rows and requests, the oldest first

-- so many rows, each of which fits
abbrev pub AreRows : ℕ → List Row → Type 0
AreRows count rows = (length rows ≡ count) × AllByRecursion FitsRow rows

-- so many requests
abbrev pub AreRequests : ℕ → List (List ℕ) → Type 0
AreRequests count requests = (length requests ≡ count) × AllByRecursion IsRequest requests

-- the epoch that has these, where the oldest row is first
abbrev pub epoch_read : List Row → List (List ℕ) → ClosedEpoch
epoch_read rows waiting = record { rows = reverse rows; waiting = waiting }
