use Rattle.std.proofs.Common.{◌≡◌, true, take, reverse}
use Rattle.node_loop.specs.Outs.{events_text}
use Rattle.node_loop.specs.Pieces.{TookAllBut}
use Rattle.node_loop.proofs.past.write_events.Given as goal

abbrev pub invariant-loop-event : goal.invariant-loop-event
invariant-loop-event g l = record {
  faults : g.K.Sink.faults l.tape ≡ g.K.Sink.faults l.initial.tape;
  taken : g.K.Sink.tells ≡ true → TookAllBut (g.K.Sink.taken l.initial.tape) (g.K.Sink.taken l.tape) (events_text (reverse (take l.event-index l.events))) l.piece.taken;
}
