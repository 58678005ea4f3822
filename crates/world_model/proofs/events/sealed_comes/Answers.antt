use Rattle.std.proofs.Common.{rules, ◌≡◌, true, false, arith, ◌∙◌, ap}
use Rattle.keyed_channel.specs.Frames.{sealed}
use Rattle.world_model.proofs.KeysAt.{keys_are, keys_there}
use Rattle.world_model.proofs.Left.{left_before, happens_left}
use Rattle.world_model.proofs.Happening.{sealed_happens, none_sealed}
use Rattle.world_model.proofs.events.sealed_comes.Goals as goal

pub returns-then-to-n : goal.returns-then-to-n
returns-then-to-n g c = λ w states seats stand replicas may.
    let keys = keys_are w c.args.seats.now c.args.from c.from.result c.deref.result.now c.in-Some.keys.now seats may.0 c.from.ensures c.deref.ensures.value
    c.in-Some.ensures.lookup.3.0 c.in-Some.ensures.lookup.1 in
    let many : c.in-Some.keys.now.n ≡ w.numbers.n = ap (λ k. k.n) keys ∙ (seats.own c.args.from may.0).1 in
    let own : c.keys.result.now.n ≡ c.in-Some.keys.now.n = ap (λ k. k.n) c.keys.ensures in
    absurd (omega arith)

pub returns-then-not-has : goal.returns-then-not-has
returns-then-not-has g c = λ w states seats stand replicas may.
    let faulty : w.is_correct c.args.to ≡ false = search (rules, seats.correct c.args.to) in
    let nothing = c.nothing-then-not-has.ensures in
    none_sealed _ w states c.args.from c.args.to c.args.body.now _ c.nothing-then-not-has.result replicas faulty nothing.seen nothing.forged nothing.taken nothing.out

pub returns-in_ok-frame-in-Some : goal.returns-in_ok-frame-in-Some
returns-in_ok-frame-in-Some g c = λ w states seats stand replicas may.
    let keys = keys_are w c.args.seats.now c.args.from c.from.result c.deref.result.now c.in-Some.keys.now seats may.0 c.from.ensures c.deref.ensures.value
    c.in-Some.ensures.lookup.3.0 c.in-Some.ensures.lookup.1 in
    sealed_happens _ w states c.args.from c.args.to c.args.body.now c.as_slice.result.now _ c.frame_comes.result
    (c.as_slice.ensures ∙ c.in_ok-frame-in-Some.ensures ∙ ap (λ k. sealed k c.args.to 0 c.args.body.now) keys)
    (c.frame_comes.ensures w states seats stand replicas)

pub returns-in-None : goal.returns-in-None
returns-in-None g c = λ w states seats stand replicas may.
    absurd (keys_there w c.args.seats.now c.args.from c.from.result c.deref.result.now seats may.0 c.from.ensures c.deref.ensures.value c.in-None.ensures.lookup.3)

pub returns-in_err-frame-in-Some : goal.returns-in_err-frame-in-Some
returns-in_err-frame-in-Some g c = λ w states seats stand replicas may.
    let correct : w.is_correct c.args.to ≡ true = search (rules, seats.correct c.args.to) in
    happens_left _ w states _ _ c.from_residual.result _ c.from_residual.ensures.0 (left_before _ w states _ _ c.args.replicas.now replicas) correct
