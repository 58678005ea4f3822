use Rattle.frame_codec.specs.ColumnLaws.{column_written, column_is, column_again, row_at}
use Rattle.frame_codec.proofs.laws.column_law.Goals as goal

pub returns-clause-written : goal.returns-clause-written
returns-clause-written c = column_written

pub returns-clause-read : goal.returns-clause-read
returns-clause-read c = column_is

pub returns-clause-again : goal.returns-clause-again
returns-clause-again c = column_again

pub returns-clause-rows : goal.returns-clause-rows
returns-clause-rows c = row_at
