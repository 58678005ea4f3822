use Rattle.std.proofs.Common.{sym}
use Rattle.std.proofs.lemmas.Bool.{le-leb, lt-leb}
use Rattle.node_loop.proofs.Rounding.{wants_end, wants_finish, wants_overflow, wants_turn, wants_close, wants_halt, wants_remind, wants_ask}
use Rattle.node_loop.proofs.house.House.what_next.Goals as goal

pub returns-then-is_over-clause-next : goal.returns-then-is_over-clause-next
returns-then-is_over-clause-next g c = λ w es numbers ws p stands.
    wants_end w c.args.pace.limits es c.args.pace.taken ws p (sym (c.if-is_over.ensures.over w es numbers stands.here))

pub returns-then-is_done-clause-next : goal.returns-then-is_done-clause-next
returns-then-is_done-clause-next g c = λ w es numbers ws p stands.
    wants_finish w c.args.pace.limits es c.args.pace.taken ws p (sym (c.if-is_over.ensures.over w es numbers stands.here)) (sym (c.if-is_done.ensures.done w es numbers stands.here))

pub returns-in-Some-clause-next : goal.returns-in-Some-clause-next
returns-in-Some-clause-next g c = λ w es numbers ws p stands.
    let first = c.in-Some.ensures.first w es numbers ws p stands in
    wants_overflow w c.args.pace.limits es c.args.pace.taken ws p first.0 c.in-Some.bytes first.1 (sym (c.if-is_over.ensures.over w es numbers stands.here))
    (sym (c.if-is_done.ensures.done w es numbers stands.here)) first.2 first.3

pub returns-in-Some-least_busy-clause-next : goal.returns-in-Some-least_busy-clause-next
returns-in-Some-least_busy-clause-next g c = λ w es numbers ws p stands.
    let first = c.in-Some-least_busy.ensures.least w es numbers stands.here in
    wants_turn w c.args.pace.limits es c.args.pace.taken ws p c.in-Some-least_busy.at first.0 (sym (c.if-is_over.ensures.over w es numbers stands.here))
    (sym (c.if-is_done.ensures.done w es numbers stands.here)) (c.in_default.ensures.first w es numbers ws p stands) first.1

pub returns-in-Some-due_to_close-clause-next : goal.returns-in-Some-due_to_close-clause-next
returns-in-Some-due_to_close-clause-next g c = λ w es numbers ws p stands.
    let first = c.in-Some-due_to_close.ensures.first w es numbers ws p stands in
    wants_close w c.args.pace.limits es c.args.pace.taken ws p c.in-Some-due_to_close.at c.in-Some-due_to_close.epoch (sym (c.if-is_over.ensures.over w es numbers stands.here))
    (sym (c.if-is_done.ensures.done w es numbers stands.here)) (c.in_default.ensures.first w es numbers ws p stands)
    (c.in_default-least_busy.ensures.least w es numbers stands.here) first.1

pub returns-then-pace-clause-next : goal.returns-then-pace-clause-next
returns-then-pace-clause-next g c = λ w es numbers ws p stands.
    wants_halt w c.args.pace.limits es c.args.pace.taken ws p (sym (c.if-is_over.ensures.over w es numbers stands.here)) (sym (c.if-is_done.ensures.done w es numbers stands.here))
    (c.in_default.ensures.first w es numbers ws p stands) (c.in_default-least_busy.ensures.least w es numbers stands.here)
    (c.in_default-due_to_close.ensures.first w es numbers ws p stands)
    (le-leb c.args.pace.limits.items c.args.pace.taken c.if-pace.true)

pub returns-in-Some-least_due-clause-next : goal.returns-in-Some-least_due-clause-next
returns-in-Some-least_due-clause-next g c = λ w es numbers ws p stands.
    let first = c.in-Some-least_due.ensures.first w es numbers ws p stands in
    wants_remind w c.args.pace.limits es c.args.pace.taken ws p c.in-Some-least_due.pair first.0 (sym (c.if-is_over.ensures.over w es numbers stands.here))
    (sym (c.if-is_done.ensures.done w es numbers stands.here))
    (c.in_default.ensures.first w es numbers ws p stands) (c.in_default-least_busy.ensures.least w es numbers stands.here)
    (c.in_default-due_to_close.ensures.first w es numbers ws p stands)
    (lt-leb c.args.pace.limits.items c.args.pace.taken c.if-pace.false) first.1

pub returns-in_default-least_due-clause-next : goal.returns-in_default-least_due-clause-next
returns-in_default-least_due-clause-next g c = λ w es numbers ws p stands.
    wants_ask w c.args.pace.limits es c.args.pace.taken ws p (sym (c.if-is_over.ensures.over w es numbers stands.here)) (sym (c.if-is_done.ensures.done w es numbers stands.here))
    (c.in_default.ensures.first w es numbers ws p stands) (c.in_default-least_busy.ensures.least w es numbers stands.here)
    (c.in_default-due_to_close.ensures.first w es numbers ws p stands)
    (lt-leb c.args.pace.limits.items c.args.pace.taken c.if-pace.false) (c.in_default-least_due.ensures.first w es numbers ws p stands)
