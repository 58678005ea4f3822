use Rattle.std.proofs.Common.{length, subst, arith}
use Rattle.ritas_base.specs.RootServices.{root_number}
use Rattle.frame_codec.specs.Inputs.{input_format}
use Rattle.frame_codec.proofs.Spans.{Spans, short_spans, input_short}
use Rattle.frame_codec.proofs.inputs.first_fault.Goals as goal

pub overflow_sub-result : goal.overflow_sub-result
overflow_sub-result c =
    let bytes = c.args.bytes.now in
    let spans = short_spans (input_format c.args.p.now (root_number c.service.result)) 15942 bytes (input_short c.args.p.now (root_number c.service.result)) in
    let s = subst (Spans 15942 (length bytes)) c.in-Err.ensures spans in
    omega (arith, s.0)

pub overflow_cast-result : goal.overflow_cast-result
overflow_cast-result c =
    let bytes = c.args.bytes.now in
    let spans = short_spans (input_format c.args.p.now (root_number c.service.result)) 15942 bytes (input_short c.args.p.now (root_number c.service.result)) in
    let s = subst (Spans 15942 (length bytes)) c.in-Err.ensures spans in
    omega (arith, s.1)

pub overflow_sub-result-in-Ok : goal.overflow_sub-result-in-Ok
overflow_sub-result-in-Ok c =
    let bytes = c.args.bytes.now in
    let spans = short_spans (input_format c.args.p.now (root_number c.service.result)) 15942 bytes (input_short c.args.p.now (root_number c.service.result)) in
    let s = subst (Spans 15942 (length bytes)) c.in-Ok.ensures spans in
    omega (arith, s.0)

pub overflow_cast-result-in-Ok : goal.overflow_cast-result-in-Ok
overflow_cast-result-in-Ok c =
    let bytes = c.args.bytes.now in
    let spans = short_spans (input_format c.args.p.now (root_number c.service.result)) 15942 bytes (input_short c.args.p.now (root_number c.service.result)) in
    let s = subst (Spans 15942 (length bytes)) c.in-Ok.ensures spans in
    omega (arith, s.1)
