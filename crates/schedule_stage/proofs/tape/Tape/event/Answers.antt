use Rattle.std.proofs.Common.{◌≡◌, ◌++◌, ◌∙◌, ap, arith}
use Rattle.std.proofs.lemmas.Result.{on_ok_weaker}
use Rattle.outside.specs.Memory.{BufferState}
use Rattle.schedule_file.specs.Spelling.{event_text}
use Rattle.schedule_stage.proofs.Taping.{err_tapes, no_more, no_space, writes_so}
use Rattle.schedule_stage.proofs.tape.Tape.event.Goals as goal

pub returns-in_err-step-clause-tapes : goal.returns-in_err-step-clause-tapes
returns-in_err-step-clause-tapes c = λ w p what steps step stands events.
    let halt = c.in_err-step.field-0.0 in
    let err = c.in_err-step.ensures.err in
    err_tapes w p what c.step.new.self _ halt c.from_residual.result c.from_residual.ensures.1
    (no_more w p what c.args.self.now step steps halt stands err.0 err.1)

pub returns-in_err-lengthen-clause-tapes : goal.returns-in_err-lengthen-clause-tapes
returns-in_err-lengthen-clause-tapes c = λ w p what steps step stands events.
    let halt = c.in_err-lengthen.field-0.0 in
    let err = c.in_err-lengthen.ensures.err in
    let next = c.in_ok-step.ensures.ok in
    let size = c.in_ok-step.ensures.same.size in
    let few = c.step.new.self.few in
    err_tapes w p what c.lengthen.new.self _ halt c.from_residual-in_err-lengthen.result c.from_residual-in_err-lengthen.ensures.1
    (no_space w p what c.args.self.now step steps c.args.event.now halt stands events (omega (arith, next, few)) (omega (arith, err.1, size, c.event_size.ensures)) err.0)

pub returns-clause-tapes : goal.returns-clause-tapes
returns-clause-tapes c = λ w p what steps step stands events.
    let old = c.args.self.now in
    let e = c.args.event.now in
    let first = c.in_ok-step.ensures.same in
    let next = c.in_ok-lengthen.ensures.same in
    let last = c.write.ensures.same in
    let longer = c.in_ok-lengthen.ensures.ok in
    let same = last.size in
    let size = first.size in
    let wanted : c.lengthen.new.self.what ≡ old.what = next.what ∙ first.what in
    let file : c.lengthen.new.self.file ≡ old.file = next.file ∙ first.file in
    writes_so w p what old c.write.new.self step steps e c.write.result stands events (last.steps ∙ next.steps ∙ c.in_ok-step.ensures.ok)
    (omega (arith, longer, same, size, c.event_size.ensures)) (last.what ∙ wanted)
    (on_ok_weaker c.write.result (λ kept is. kept (wanted ∙ is) ∙ ap (λ (f : BufferState). f.taken ++ event_text e) file) c.write.ensures.kept) c.write.ensures.err
