use Rattle.std.proofs.Common.{◌≡◌, Ok, true, false, take}
use Rattle.std.specs.List.{concat}
use Rattle.outside.specs.declared.source.Failed.{Failed}
use Rattle.outside.specs.Writing.{Writes}
use Rattle.schedule_file.proofs.writer.write_each.Given as goal

abbrev pub invariant-loop-key : goal.invariant-loop-key
invariant-loop-key g l =
    Writes {E = Failed} (concat (take l.key-index l.keys)) g.K.Sink.tells (g.K.Sink.taken l.initial.sink) (g.K.Sink.taken l.sink)
    (g.K.Sink.faults l.initial.sink) (g.K.Sink.faults l.sink) (Ok tt) (false ≡ true)
