use Rattle.observer.proofs.entering.+enter_rows.Given as goal

abbrev pub decreases-enter_rows : goal.decreases-enter_rows
decreases-enter_rows l = l.times
