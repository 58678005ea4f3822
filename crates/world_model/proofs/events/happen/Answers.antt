use Rattle.ritas_base.specs.declared.event.Event.TheVariants as events
use Rattle.world_model.proofs.Happening.{by_event, same_frame, same_input, same_body}
use Rattle.world_model.proofs.events.happen.Goals as goal

pub returns-in-Frame : goal.returns-in-Frame
returns-in-Frame g c = λ w states seats stand replicas.
    by_event _ w states c.args.ev.now (events.Frame c.in-Frame.to c.in-Frame.bytes) _ c.frame_comes.result c.in-Frame.is
    (λ may. same_frame _ w states c.in-Frame.to c.as_slice.result.now c.in-Frame.bytes _ c.frame_comes.result c.as_slice.ensures (c.frame_comes.ensures w states seats stand replicas))

pub returns-in-Input : goal.returns-in-Input
returns-in-Input g c = λ w states seats stand replicas.
    by_event _ w states c.args.ev.now (events.Input c.in-Input.at c.in-Input.bytes) _ c.input_comes.result c.in-Input.is
    (λ may. same_input _ w states c.in-Input.at c.as_slice-in-Input.result.now c.in-Input.bytes _ c.input_comes.result c.as_slice-in-Input.ensures (c.input_comes.ensures w states replicas))

pub returns-in-Turn : goal.returns-in-Turn
returns-in-Turn g c = λ w states seats stand replicas.
    by_event _ w states c.args.ev.now (events.Turn c.in-Turn.at) _ c.turn_comes.result c.in-Turn.is (λ may. c.turn_comes.ensures w states seats replicas)

pub returns-in-Pass : goal.returns-in-Pass
returns-in-Pass g c = λ w states seats stand replicas.
    by_event _ w states c.args.ev.now (events.Pass c.in-Pass.from c.in-Pass.to c.in-Pass.m) _ c.frame_passes.result c.in-Pass.is
    (λ may. c.frame_passes.ensures w states seats stand replicas may)

pub returns-in-Sealed : goal.returns-in-Sealed
returns-in-Sealed g c = λ w states seats stand replicas.
    by_event _ w states c.args.ev.now (events.Sealed c.in-Sealed.from c.in-Sealed.to c.in-Sealed.body) _ c.sealed_comes.result c.in-Sealed.is
    (λ may. same_body _ w states c.in-Sealed.from c.in-Sealed.to c.as_slice-in-Sealed.result.now c.in-Sealed.body _ c.sealed_comes.result c.as_slice-in-Sealed.ensures
    (c.sealed_comes.ensures w states seats stand replicas may))
