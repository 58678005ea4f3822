use Rattle.std.proofs.Common.{◌∷◌, None, Some, reverse, inr, sym, ◌∙◌, ap}
use Rattle.observer.specs.Reading.{piece_in}
use Rattle.observer.specs.Giving.{Gift, Gave}
use Rattle.observer.specs.Places.{StandsForSteps}
use Rattle.observer.specs.Standing.{Watcher}
use Rattle.observer.proofs.Standing.{steps_of, stands_so, found_so, stands_more}
use Rattle.observer.proofs.observing.Observer.piece.Goals as goal

pub returns-in-Some-clause-wrong : goal.returns-in-Some-clause-wrong
returns-in-Some-clause-wrong c = λ p h stands.
    inr (sym (found_so p h c.self.inside.rows.items c.self.inside.given c.args.self.now c.args.from c.args.bytes.now (Some c.in-Some.fault) c.self.view_is c.self.invariant stands
    (c.in-Some.ensures.exact p 0 (steps_of p h))))

pub returns-in_default-reserve-clause-memory : goal.returns-in_default-reserve-clause-memory
returns-in_default-reserve-clause-memory c = λ p h stands is.
    sym (found_so p h c.self.inside.rows.items c.self.inside.given c.args.self.now c.args.from c.args.bytes.now None c.self.view_is c.self.invariant stands
    (c.in_default.ensures.exact p 0 (steps_of p h)))

pub returns-in_default-take_whole-clause-memory : goal.returns-in_default-take_whole-clause-memory
returns-in_default-take_whole-clause-memory c = λ p h stands is.
    sym (found_so p h c.self.inside.rows.items c.self.inside.given c.args.self.now c.args.from c.args.bytes.now None c.self.view_is c.self.invariant stands
    (c.in_default.ensures.exact p 0 (steps_of p h)))

pub returns-clause-right : goal.returns-clause-right
returns-clause-right c = λ p h stands.
    sym (found_so p h c.self.inside.rows.items c.self.inside.given c.args.self.now c.args.from c.args.bytes.now None c.self.view_is c.self.invariant stands
    (c.in_default.ensures.exact p 0 (steps_of p h)))

pub returns-clause-taken : goal.returns-clause-taken
returns-clause-taken c = λ p h stands.
    let g : Gift = record { from = c.args.from; piece = piece_in c.args.bytes.now } in
    let before = stands_so p h c.self.inside.rows.items c.self.inside.given c.args.self.now c.self.view_is c.self.invariant stands in
    let gave : StandsForSteps p 0 (Gave g ∷ steps_of p h) c.take_whole.new.self = c.in-Ok-take_whole.ensures.taken p 0 (steps_of p h) before in
    let log = sym (ap reverse c.in-Ok.ensures.items ∙ ap (λ (o : Watcher). o.rows) c.self.view_is) in
    stands_more p h g c.reserve.new.self.items c.enter_rows.new.rows.items c.enter_rows.new.given c.args.self.now log stands gave.taken.0
    (c.enter_rows.ensures.rows p 0 (Gave g ∷ steps_of p h) gave) c.enter_rows.ensures.next
