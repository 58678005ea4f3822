use Rattle.std.proofs.Common.{refl}
use Rattle.world_model.proofs.Happening.{frame_listed, frame_passes_is, none_passes}
use Rattle.world_model.proofs.events.frame_passes.Goals as goal

pub returns-in-Some : goal.returns-in-Some
returns-in-Some g c = λ w states seats stand replicas may.
    let made = c.args.made.now in
    let list = c.frames.result.now in
    let frame = c.in-Some.frame.now in
    let within = c.in-Some.ensures.lookup.3.0 in
    let read = c.in-Some.ensures.lookup.1 in
    let there = frame_listed w states made c.args.from c.args.to c.args.number list frame frame stand may.0 may.1 c.frames.ensures within read refl in
    frame_passes_is _ w states made c.args.from c.args.to c.args.number list frame frame _ c.made_comes.result
    stand may.0 may.1 may.2 c.frames.ensures within read refl
    (c.made_comes.ensures w states seats replicas c.args.from may.0 there)

pub returns-in-None : goal.returns-in-None
returns-in-None g c = λ w states seats stand replicas may.
    none_passes _ w states c.args.made.now c.args.from c.args.to c.args.number c.frames.result.now _ c.nothing.result
    replicas stand may.0 may.1 may.2 c.frames.ensures c.in-None.ensures.lookup.3 c.nothing.ensures.seen c.nothing.ensures.forged c.nothing.ensures.taken c.nothing.ensures.out
