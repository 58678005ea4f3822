use Rattle.std.proofs.Common.{◌++◌, string_bytes}
use Rattle.std.proofs.lemmas.Result.{err_from_is_err_and}
use Rattle.world_model.specs.MadeOrder.{made_of}
use Rattle.schedule_replay.specs.Frames.{frame_line}
use Rattle.schedule_replay.proofs.Pieces.{held_more, held_cut}
use Rattle.schedule_replay.proofs.frames.write_frame.Goals as goal

pub returns-in_err-flush-clause-lines : goal.returns-in_err-flush-clause-lines
returns-in_err-flush-clause-lines g c = λ tells old lines held.
    let p = err_from_is_err_and c.from_residual-in_err-flush.result c.from_residual-in_err-flush.ensures.1 in
    let line = frame_line (made_of c.args.made) in
    let before = g.K.Sink.taken c.args.sink.now in
    let text = string_bytes c.args.text.now in
    let front = rw c.in_ok-add_frame.ensures at (c.in_err-flush.ensures.writes.front tells) in
    rw p.1 (held_cut old before (g.K.Sink.taken c.flush.new.sink) (text ++ line) (lines ++ line) (held_more old before text line lines held) front)
