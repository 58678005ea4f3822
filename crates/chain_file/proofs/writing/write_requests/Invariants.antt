use Rattle.std.proofs.Common.{◌≡◌, Ok, true, false, take}
use Rattle.outside.specs.declared.source.Failed.{Failed}
use Rattle.outside.specs.Writing.{Writes}
use Rattle.chain_file.specs.Epochs.{requests_text}
use Rattle.chain_file.proofs.writing.write_requests.Given as goal

abbrev pub invariant-loop-request : goal.invariant-loop-request
invariant-loop-request g l =
    Writes {E = Failed} (requests_text (take l.request-index l.waiting)) g.K.Sink.tells (g.K.Sink.taken l.initial.sink) (g.K.Sink.taken l.sink)
    (g.K.Sink.faults l.initial.sink) (g.K.Sink.faults l.sink) (Ok tt) (false ≡ true)
