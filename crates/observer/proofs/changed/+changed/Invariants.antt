use Rattle.observer.proofs.changed.+changed.Given as goal

abbrev pub decreases-changed : goal.decreases-changed
decreases-changed l = l.count
