use Rattle.frame_codec.specs.ColumnLaws.{vect_none, vect_written, vect_is, vect_again}
use Rattle.frame_codec.proofs.laws.vect_law.Goals as goal

pub returns-clause-none : goal.returns-clause-none
returns-clause-none c = vect_none

pub returns-clause-written : goal.returns-clause-written
returns-clause-written c = vect_written

pub returns-clause-read : goal.returns-clause-read
returns-clause-read c = vect_is

pub returns-clause-again : goal.returns-clause-again
returns-clause-again c = vect_again
