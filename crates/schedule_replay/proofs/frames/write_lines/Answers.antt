use Rattle.std.proofs.Common.{◌≡◌, ◌+◌, ◌≤◌, Some, sym, ◌∙◌, take, length, arith}
use Rattle.std.specs.List.{flat_map, slice_get}
use Rattle.std.proofs.lemmas.Result.{err_from_is_err_and}
use Rattle.world_model.specs.MadeOrder.{made_of, all_made}
use Rattle.schedule_replay.specs.Frames.{frame_line}
use Rattle.schedule_replay.proofs.Pieces.{next_line, front_of_all, ended}
use Rattle.schedule_replay.proofs.frames.write_lines.Goals as goal
use Rattle.schedule_replay.proofs.frames.write_lines.Goals.{in-Some+in_ok-write_frame-in-Some, in-None}

pub returns-in_err-write_frame-in-Some-clause-lines : goal.returns-in_err-write_frame-in-Some-clause-lines
returns-in_err-write_frame-in-Some-clause-lines g c = λ tells w es stands none.
    let p = err_from_is_err_and c.from_residual.result c.from_residual.ensures.1 in
    let all = all_made w es in
    let at = c.loop-at.at in
    let old = g.K.Sink.taken c.args.sink.now in
    let there : slice_get all at ≡ Some (made_of c.in-Some.made) = sym (c.in-Some.ensures.is w es stands) in
    let cut = c.in_err-write_frame-in-Some.ensures.lines tells old (flat_map frame_line (take at all)) (c.loop-at.invariant.lines tells w es stands none) in
    rw p.1 (front_of_all frame_line all (at + 1) old (g.K.Sink.taken c.write_frame.new.sink) (rw (next_line frame_line all at (made_of c.in-Some.made) there) cut))

pub loop-at-preserved : goal.loop-at-preserved
loop-at-preserved g c =
    let at = c.loop-at.at in
    let old = g.K.Sink.taken c.args.sink.now in
    elim c.match-made.branch [
      | in-Some+in_ok-write_frame-in-Some x ↦ record {
        same = rw x.sink-is (x.in_ok-write_frame-in-Some.ensures.counts.stands ∙ c.loop-at.invariant.same);
        lines = λ tells w es stands none.
            let all = all_made w es in
            let there : slice_get all at ≡ Some (made_of x.in-Some.made) = sym (x.in-Some.ensures.is w es stands) in
            rw (x.sink-is, x.text-is, next_line frame_line all at (made_of x.in-Some.made) there)
            (x.in_ok-write_frame-in-Some.ensures.lines tells old (flat_map frame_line (take at all)) (c.loop-at.invariant.lines tells w es stands none));
      }
      | in-None x ↦ record {
        same = rw x.sink-is c.loop-at.invariant.same;
        lines = λ tells w es stands none.
            let all = all_made w es in
            let past : length all ≤ at = ended all at (sym (rw x.in-None.is at (c.made.ensures.is w es stands))) in
            absurd (omega (arith, past, c.loop-at-test.true, c.made_count-at-end.ensures.is w es stands));
      }
    ]
