use Rattle.frame_codec.specs.ColumnLaws.{vector_again}
use Rattle.frame_codec.specs.EntryCountLaws.{entries_by_place}
use Rattle.frame_codec.specs.VectorLaws.{vector_written, vector_is}
use Rattle.frame_codec.proofs.laws.vector_law.Goals as goal

pub returns-clause-written : goal.returns-clause-written
returns-clause-written c = vector_written

pub returns-clause-read : goal.returns-clause-read
returns-clause-read c = vector_is

pub returns-clause-again : goal.returns-clause-again
returns-clause-again c = vector_again

pub returns-clause-counted : goal.returns-clause-counted
returns-clause-counted c = entries_by_place
