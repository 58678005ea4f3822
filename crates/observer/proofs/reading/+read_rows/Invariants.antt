use Rattle.observer.proofs.reading.+read_rows.Given as goal

abbrev pub decreases-read_rows : goal.decreases-read_rows
decreases-read_rows l = l.count
