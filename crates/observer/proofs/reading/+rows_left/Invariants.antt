use Rattle.observer.proofs.reading.+rows_left.Given as goal

abbrev pub decreases-rows_left : goal.decreases-rows_left
decreases-rows_left l = l.count
