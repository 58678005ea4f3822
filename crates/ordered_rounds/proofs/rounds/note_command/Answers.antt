use Rattle.ordered_rounds.proofs.rounds.note_command.Goals as goal

pub returns-in_ok-deliver-clause-ok : goal.returns-in_ok-deliver-clause-ok
returns-in_ok-deliver-clause-ok c = λ delivered log within new stands. c.in_ok-deliver.ensures.ok delivered log new stands
