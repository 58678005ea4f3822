use Rattle.frame_codec.specs.Inputs.{input_format}
use Rattle.frame_codec.proofs.Readings.{none_is}
use Rattle.frame_codec.proofs.inputs.input_fault.Goals as goal

pub returns-clause-none : goal.returns-clause-none
returns-clause-none c =
    none_is (input_format c.args.p.now c.args.mode.now.root) c.args.bytes.now c.first_fault.result c.first_fault.ensures
