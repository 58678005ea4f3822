use Rattle.std.proofs.Common.{◌<◌, ◌∷◌, sym, subst, arith}
use Rattle.observer.specs.Giving.{Passed, rows_given}
use Rattle.observer.specs.Places.{Window}
use Rattle.observer.specs.Standing.{Entering}
use Rattle.observer.proofs.Entered.{entered_never, enters_none, enters_no_row, enters_more}
use Rattle.observer.proofs.entering.+enter_rows.Goals as goal

pub returns-then-times-eq0-clause-rows : goal.returns-then-times-eq0-clause-rows
returns-then-times-eq0-clause-rows t c = λ p first h stands.
    enters_none p first c.args.times h c.args.rows.now.items c.args.given.now stands
    (entered_never p (rows_given first h).kept c.args.times _ c.if-times-eq0.true)

pub returns-in_default-clause-rows : goal.returns-in_default-clause-rows
returns-in_default-clause-rows t c = λ p first h stands.
    subst (λ (w : Window). Entering p first c.args.times h c.args.rows.now.items c.args.rows.now.items w) (sym c.in_default.ensures.none)
    (enters_no_row p first c.args.times h c.args.rows.now.items c.args.given.now stands c.requires.next (sym (c.in_default.ensures.row p first h stands)))

pub returns-clause-rows : goal.returns-clause-rows
returns-clause-rows t c = λ p first h stands.
    let some : 0 < c.args.times = omega (arith, c.if-times-eq0.false) in
    enters_more p first c.args.times h c.args.rows.now.items c.push_reserved.new.self.items c.enter_rows.new.rows.items c.in-Some.row c.args.given.now c.enter_rows.new.given some
    c.push_reserved.ensures.items stands c.requires.next (sym (c.in-Some.ensures.row p first h stands))
    (c.enter_rows.ensures.rows p first (Passed ∷ h) (c.in-Some.ensures.some p first h stands))
