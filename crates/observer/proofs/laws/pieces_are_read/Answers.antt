use Rattle.observer.proofs.Parts.{piece_is_of_log}
use Rattle.observer.proofs.Spelling.{piece_is_read, piece_was_written}
use Rattle.observer.proofs.laws.pieces_are_read.Goals as goal

pub returns-clause-of_log : goal.returns-clause-of_log
returns-clause-of_log c = piece_is_of_log

pub returns-clause-read : goal.returns-clause-read
returns-clause-read c = piece_is_read

pub returns-clause-written : goal.returns-clause-written
returns-clause-written c = piece_was_written
