use Rattle.frame_codec.proofs.Items.{input_value, command_slot_right, command_is}
use Rattle.frame_codec.proofs.body_laws.input_is_value.Goals as goal

pub returns-clause-value : goal.returns-clause-value
returns-clause-value c = input_value

pub returns-clause-slot : goal.returns-clause-slot
returns-clause-slot c = command_slot_right

pub returns-clause-command : goal.returns-clause-command
returns-clause-command c = command_is
