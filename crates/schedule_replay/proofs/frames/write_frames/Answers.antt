use Rattle.std.proofs.Common.{◌≡◌, ◌++◌, List, ℕ, true, ap, ◌∙◌, arith, string_bytes}
use Rattle.std.specs.List.{flat_map}
use Rattle.std.proofs.lemmas.Result.{err_from_is_err_and, on_ok_weaker}
use Rattle.outside.specs.WritingLaws.{counts_then}
use Rattle.world_model.specs.Audit.{audit_of}
use Rattle.world_model.specs.MadeOrder.{all_made}
use Rattle.schedule_replay.specs.Frames.{frame_line, frames_on}
use Rattle.schedule_replay.specs.Report.{audit_line}
use Rattle.schedule_replay.proofs.Pieces.{held_more, all_written, held_cut, held_lost, rose_since, cut_early}
use Rattle.schedule_replay.proofs.frames.write_frames.Goals as goal

pub returns-in_err-write_lines-clause-writes : goal.returns-in_err-write_lines-clause-writes
unfolding frames_on
returns-in_err-write_lines-clause-writes g c = λ w es stands audit.
    let p = err_from_is_err_and c.from_residual.result c.from_residual.ensures.1 in
    rw (p.1, p.2) (cut_early g.K.Sink.tells (g.K.Sink.taken c.args.sink.now) (g.K.Sink.taken c.write_lines.new.sink) (flat_map frame_line (all_made w es)) (audit_line (audit_of w es))
    (g.K.Sink.faults c.args.sink.now) (g.K.Sink.faults c.write_lines.new.sink) _ _
    (λ tells. c.in_err-write_lines.ensures.lines tells w es stands c.new-text.ensures.bytes)
    c.in_err-write_lines.ensures.cause.later c.in_err-write_lines.ensures.cause.cause c.in_err-write_lines.ensures.counts.rises c.in_err-write_lines.ensures.counts.others)

pub returns-in_err-last-clause-writes : goal.returns-in_err-last-clause-writes
unfolding frames_on
returns-in_err-last-clause-writes g c = λ w es stands audit.
    let p = err_from_is_err_and c.from_residual-in_err-last.result c.from_residual-in_err-last.ensures.1 in
    let old = g.K.Sink.taken c.args.sink.now in
    let now = g.K.Sink.taken c.write_lines.new.sink in
    let lines = flat_map frame_line (all_made w es) in
    rw (p.1, p.2) (cut_early g.K.Sink.tells old now lines (audit_line (audit_of w es)) (g.K.Sink.faults c.args.sink.now) (g.K.Sink.faults c.write_lines.new.sink) _ _
    (λ tells. held_lost old now (string_bytes c.write_lines.new.text) lines (c.in_ok-write_lines.ensures.lines tells w es stands c.new-text.ensures.bytes))
    c.in_ok-write_lines.ensures.cause.later (λ e. absurd cc) (λ e. absurd cc) (λ not. c.in_ok-write_lines.ensures.counts.stands))

pub returns-in_err-push_str-clause-writes : goal.returns-in_err-push_str-clause-writes
unfolding frames_on
returns-in_err-push_str-clause-writes g c = λ w es stands audit.
    let p = err_from_is_err_and c.from_residual-in_err-push_str.result c.from_residual-in_err-push_str.ensures.1 in
    let old = g.K.Sink.taken c.args.sink.now in
    let now = g.K.Sink.taken c.write_lines.new.sink in
    let lines = flat_map frame_line (all_made w es) in
    rw (p.1, p.2) (cut_early g.K.Sink.tells old now lines (audit_line (audit_of w es)) (g.K.Sink.faults c.args.sink.now) (g.K.Sink.faults c.write_lines.new.sink) _ _
    (λ tells. held_lost old now (string_bytes c.write_lines.new.text) lines (c.in_ok-write_lines.ensures.lines tells w es stands c.new-text.ensures.bytes))
    c.in_ok-write_lines.ensures.cause.later (λ e. absurd cc) (λ e. absurd cc) (λ not. c.in_ok-write_lines.ensures.counts.stands))

pub returns-clause-writes : goal.returns-clause-writes
unfolding frames_on
returns-clause-writes g c = λ w es stands audit.
    let old = g.K.Sink.taken c.args.sink.now in
    let now = g.K.Sink.taken c.write_lines.new.sink in
    let after = g.K.Sink.taken c.put.new.sink in
    let held = string_bytes c.write_lines.new.text in
    let lines = flat_map frame_line (all_made w es) in
    let last = audit_line (audit_of w es) in
    let is_last : string_bytes c.in_ok-last.last ≡ last = c.in_ok-last.ensures ∙ ap audit_line audit in
    let text : string_bytes c.push_str.new.self ≡ held ++ last =
    c.in_ok-push_str.ensures.bytes ∙ ap (λ (l : List ℕ). held ++ l) (c.as_str.ensures.value ∙ is_last) in
    let bytes = c.as_bytes.ensures.value ∙ text in
    let so_far = λ (tells : g.K.Sink.tells ≡ true).
    held_more old now held last lines (c.in_ok-write_lines.ensures.lines tells w es stands c.new-text.ensures.bytes) in
    record {
      whole = λ tells.
          let all : after ≡ now ++ (held ++ last) → after ≡ old ++ (lines ++ last) = all_written old now after (held ++ last) (lines ++ last) (so_far tells) in
          on_ok_weaker c.put.result all (rw bytes at (c.put.ensures.writes.whole tells));
      front = λ tells. held_cut old now after (held ++ last) (lines ++ last) (so_far tells) (rw bytes at (c.put.ensures.writes.front tells));
      later = omega (arith, c.in_ok-write_lines.ensures.cause.later, c.put.ensures.writes.later);
      cause = λ e. rose_since _ _ _ c.in_ok-write_lines.ensures.cause.later (c.put.ensures.writes.cause e);
      counts = counts_then _ _ _ c.put.result c.in_ok-write_lines.ensures.counts c.put.ensures.writes.counts;
    }

pub returns-clause-counts : goal.returns-clause-counts
returns-clause-counts g c = counts_then _ _ _ c.put.result c.in_ok-write_lines.ensures.counts c.put.ensures.writes.counts
