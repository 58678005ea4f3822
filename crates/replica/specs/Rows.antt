-- Worked rows: whom messages are sealed for.
use Rattle.std.specs.Prelude.{◌≡◌, [], ◌∷◌, refl}
use Rattle.ritas_base.specs.declared.slot.Slot.{Slot}
use Rattle.ritas_base.specs.declared.item.Kind.TheVariants.{Echo, Hashes}
use Rattle.ritas_base.specs.declared.item.To.TheVariants.{All, One}
use Rattle.ritas_base.specs.declared.item.Msg.{Msg}
use Rattle.ritas_base.specs.declared.mode.FrameVersion.TheVariants.{One}
use Rattle.keyed_channel.specs.KeyRow.{KeyRow}
use Rattle.replica.specs.Frames.{receivers}
use Rattle.replica.specs.Stands.{peers}

-- replica 2 of 4
abbrev second : KeyRow
second = record { session = 7; n = 4; me = 2; row = []; version = One }

abbrev command : Slot
command = record { class = 1; a = 3; attempt = 0; bround = 0; step = 0; origin = 1 }

abbrev to_all : Msg
to_all = record { to = All; kind = Echo; slot = command; value = [] }

abbrev to_first : Msg
to_first = record { to = One 0; kind = Hashes; slot = command; value = [] }

abbrev to_itself : Msg
to_itself = record { to = One 2; kind = Hashes; slot = command; value = [] }

all_others : receivers second to_all ≡ 0 ∷ 1 ∷ 3 ∷ []
all_others = refl

first_alone : receivers second to_first ≡ 0 ∷ []
first_alone = refl

not_itself : receivers second to_itself ≡ []
not_itself = refl

other_replicas : peers second ≡ 0 ∷ 1 ∷ 3 ∷ []
other_replicas = refl
