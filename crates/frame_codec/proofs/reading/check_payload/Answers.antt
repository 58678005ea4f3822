use Rattle.std.proofs.Common.{length, subst, arith}
use Rattle.frame_codec.specs.Grammar.{payload}
use Rattle.frame_codec.proofs.Spans.{Spans, short_spans, payload_short}
use Rattle.frame_codec.proofs.reading.check_payload.Goals as goal

pub overflow_sub-result : goal.overflow_sub-result
overflow_sub-result c =
    let spans = short_spans (payload c.args.p.now c.args.mode.now c.args.kind c.args.slot.now) 15942 c.args.bytes.now (payload_short c.args.p.now c.args.mode.now c.args.kind c.args.slot.now c.requires.session) in
    let s = subst (Spans 15942 (length c.args.bytes.now)) c.in-Err.ensures spans in
    omega (arith, s.0)

pub overflow_cast-result : goal.overflow_cast-result
overflow_cast-result c =
    let spans = short_spans (payload c.args.p.now c.args.mode.now c.args.kind c.args.slot.now) 15942 c.args.bytes.now (payload_short c.args.p.now c.args.mode.now c.args.kind c.args.slot.now c.requires.session) in
    let s = subst (Spans 15942 (length c.args.bytes.now)) c.in-Err.ensures spans in
    omega (arith, s.1)

pub overflow_sub-result-in-Ok : goal.overflow_sub-result-in-Ok
overflow_sub-result-in-Ok c =
    let spans = short_spans (payload c.args.p.now c.args.mode.now c.args.kind c.args.slot.now) 15942 c.args.bytes.now (payload_short c.args.p.now c.args.mode.now c.args.kind c.args.slot.now c.requires.session) in
    let s = subst (Spans 15942 (length c.args.bytes.now)) c.in-Ok.ensures spans in
    omega (arith, s.0)

pub overflow_cast-result-in-Ok : goal.overflow_cast-result-in-Ok
overflow_cast-result-in-Ok c =
    let spans = short_spans (payload c.args.p.now c.args.mode.now c.args.kind c.args.slot.now) 15942 c.args.bytes.now (payload_short c.args.p.now c.args.mode.now c.args.kind c.args.slot.now c.requires.session) in
    let s = subst (Spans 15942 (length c.args.bytes.now)) c.in-Ok.ensures spans in
    omega (arith, s.1)
