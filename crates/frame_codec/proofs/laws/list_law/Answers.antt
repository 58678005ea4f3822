use Rattle.frame_codec.specs.IdLaws.{list_written, list_is, list_again}
use Rattle.frame_codec.proofs.laws.list_law.Goals as goal

pub returns-clause-written : goal.returns-clause-written
returns-clause-written c = list_written

pub returns-clause-read : goal.returns-clause-read
returns-clause-read c = list_is

pub returns-clause-again : goal.returns-clause-again
returns-clause-again c = list_again
