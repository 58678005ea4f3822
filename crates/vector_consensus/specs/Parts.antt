-- Whose part in which instance a box is.
use Rattle.std.specs.Prelude.{◌≡◌}
use Rattle.ritas_base.specs.declared.slot.Slot.{Slot}
use Rattle.ritas_base.specs.Numbers.{IsSession, wait_of}
use Rattle.layer_api.specs.Multi.{Desk}
use Rattle.vector_consensus.specs.declared.part.Part.{Part}

-- the part is of this desk
pub record IsVectorPart (x : Part) (at : Desk) : Type 0 where
  pub numbers : x.params ≡ at.scope.numbers
  pub me : x.me ≡ at.me
  pub a : x.a ≡ at.scope.a
  pub wait : x.wait ≡ wait_of at.scope.numbers
  pub last : x.last ≡ at.scope.numbers.f
  pub session : IsSession at.scope.numbers

-- the slot of its proposal
abbrev pub own_proposal_slot : Part → Slot
own_proposal_slot x = record { class = 2; a = x.a; attempt = 0; bround = 0; step = 0; origin = x.me }
