use Rattle.schedule_file.specs.SpellingLaws.{front_first, front_next, file_ends, file_ends_after, front_first_length, front_next_length, file_length}
use Rattle.schedule_file.proofs.ReadBack.{read_back}
use Rattle.schedule_file.proofs.laws.writer_laws.Goals as goal

pub returns-clause-first : goal.returns-clause-first
returns-clause-first c = front_first

pub returns-clause-next : goal.returns-clause-next
returns-clause-next c = front_next

pub returns-clause-end : goal.returns-clause-end
returns-clause-end c = file_ends

pub returns-clause-last : goal.returns-clause-last
returns-clause-last c = file_ends_after

pub returns-clause-first_length : goal.returns-clause-first_length
returns-clause-first_length c = front_first_length

pub returns-clause-next_length : goal.returns-clause-next_length
returns-clause-next_length c = front_next_length

pub returns-clause-end_length : goal.returns-clause-end_length
returns-clause-end_length c = file_length

pub returns-clause-read_back : goal.returns-clause-read_back
returns-clause-read_back c = read_back
