-- Parts of a text: where a later part isn't there, the whole isn't.
use Rattle.std.specs.Prelude.{◌≡◌, ℕ, List, ◌++◌}
use Rattle.chain_file.specs.declared.fault.EpochFault.{EpochFault}
use Rattle.chain_file.specs.declared.fault.EpochFault.TheVariants.{Format, Mem}
use Rattle.chain_file.specs.Reading.{IsFrontFault}

module _ {X Y : Type 0} (Fits : X → Type 0) (text : X → List ℕ) (FitsWhole : Y → Type 0) (whole : Y → List ℕ) (bytes rest : List ℕ) where
  -- where the whole begins the bytes, the part begins the rest
  abbrev pub HasPart : Type 0
  HasPart = (y : Y) (more : List ℕ) → FitsWhole y → bytes ≡ whole y ++ more → (x : X) × (tail : List ℕ) × Fits x × (rest ≡ text x ++ tail)

  pub none_then : HasPart → (fault : EpochFault) → IsFrontFault Fits text rest fault → IsFrontFault FitsWhole whole bytes fault
  none_then has Mem none = tt
  none_then has Format none = λ y more begins.
      let part = has y more begins.fits begins.parts in
      none part.0 part.1 (record { fits = part.2; parts = part.3 })
