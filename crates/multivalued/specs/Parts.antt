-- Whose part in which instance a box is.
use Rattle.std.specs.Prelude.{◌≡◌, ℕ}
use Rattle.ritas_base.specs.declared.slot.Slot.{Slot}
use Rattle.ritas_base.specs.Numbers.{IsSession, wait_of}
use Rattle.layer_api.specs.Multi.{Desk}
use Rattle.multivalued.specs.declared.part.Part.{Part}

-- the part's own slot of a class below 5
abbrev pub own_class_slot : Part → ℕ → Slot
own_class_slot part class = record { class = class; a = part.a; attempt = part.attempt; bround = 0; step = 0; origin = part.me }

-- the part is that of the desk
pub record IsMultiPart (part : Part) (at : Desk) : Type 0 where
  pub session : IsSession at.scope.numbers
  pub me : part.me ≡ at.me
  pub a : part.a ≡ at.scope.a
  pub attempt : part.attempt ≡ at.scope.attempt
  pub wait : part.wait ≡ wait_of at.scope.numbers
