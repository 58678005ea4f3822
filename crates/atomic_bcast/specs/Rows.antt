-- Worked rows of the service of commands.
use Rattle.std.specs.Prelude.{◌≡◌, List, [], ◌∷◌, refl}
use Rattle.layer_api.specs.Words.{Word, Hear}
use Rattle.ritas_base.specs.Slots.{command_slot}
use Rattle.atomic_bcast.specs.Commands.{base_of}

-- replica 1's commands 0, 2 and 1 were delivered, in this order: its base goes 0, 1, 1, 3
abbrev heard_out_of_order : List Word
heard_out_of_order = Hear (command_slot 1 1) (7 ∷ []) ∷ Hear (command_slot 1 2) (7 ∷ []) ∷ Hear (command_slot 1 0) (7 ∷ []) ∷ []

base_after_three : base_of heard_out_of_order 1 ≡ 3
unfolding base_of
base_after_three = refl

base_of_another : base_of heard_out_of_order 0 ≡ 0
unfolding base_of
base_of_another = refl

base_with_a_gap : base_of (Hear (command_slot 1 2) (7 ∷ []) ∷ Hear (command_slot 1 0) (7 ∷ []) ∷ []) 1 ≡ 1
unfolding base_of
base_with_a_gap = refl
