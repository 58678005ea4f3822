use Rattle.frame_codec.specs.IdLaws.{any_written, any_is}
use Rattle.frame_codec.proofs.laws.any_list_law.Goals as goal

pub returns-clause-written : goal.returns-clause-written
returns-clause-written c = any_written

pub returns-clause-read : goal.returns-clause-read
returns-clause-read c = any_is
