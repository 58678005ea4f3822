use Rattle.std.proofs.Common.{ap, ◌∙◌}
use Rattle.schedule_file.specs.Schedule.{file_of}
use Rattle.schedule_file.proofs.FileLaws.{file_takes, file_again}
use Rattle.schedule_file.proofs.laws.file_laws.Goals as goal

pub returns-clause-found : goal.returns-clause-found
returns-clause-found c = file_takes

pub returns-clause-only : goal.returns-clause-only
returns-clause-only c = λ bytes h es is. ap file_of is.text ∙ file_again h es is.header is.each (rw is.text at is.size)
