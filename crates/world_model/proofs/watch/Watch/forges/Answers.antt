use Rattle.std.proofs.Common.{◌≡◌, ◌<◌, Some, sym, ◌∙◌, ap, arith}
use Rattle.std.specs.Option.{option_copied}
use Rattle.ritas_base.specs.Numbers.{Numbers}
use Rattle.world_model.specs.Audit.{is_made_up}
use Rattle.world_model.specs.Hashed.{met_in}
use Rattle.world_model.proofs.Watching.{slot_stands, unmet_fair, said_is, some_made_up, none_made_up}
use Rattle.world_model.proofs.Anywhere.{any_up}
use Rattle.world_model.proofs.watch.Watch.forges.Goals as goal

pub returns-in_default : goal.returns-in_default
returns-in_default c = λ w states seats stand right below column.
    unmet_fair w states c.args.at c.args.item.now (option_copied c.of_slot.result)
    (slot_stands w states c.args.self.now c.args.item.now.slot (option_copied c.of_slot.result) stand c.of_slot.ensures) right
    (ap (λ o. met_in (option_copied o) c.args.at) c.in_default.is)

pub returns-in_default-at : goal.returns-in_default-at
returns-in_default-at c = λ w states seats stand right below column.
    let here = Some c.in-Some.here.now in
    let stands = slot_stands w states c.args.self.now c.args.item.now.slot here stand (sym (ap option_copied c.in-Some.is) ∙ c.of_slot.ensures) in
    unmet_fair w states c.args.at c.args.item.now here stands right (sym c.at.ensures ∙ ap option_copied c.in_default-at.is)

pub returns-then-is_made_up : goal.returns-then-is_made_up
returns-then-is_made_up c = λ w states seats stand right below column.
    let here = Some c.in-Some.here.now in
    let stands = slot_stands w states c.args.self.now c.args.item.now.slot here stand (sym (ap option_copied c.in-Some.is) ∙ c.of_slot.ensures) in
    let said = said_is w states c.args.at c.args.item.now here c.in-Some-at.met.now stands right (sym c.at.ensures ∙ ap option_copied c.in-Some-at.is) in
    let many : c.args.seats.now.params.n ≡ w.numbers.n = ap (λ (p : Numbers). p.n) seats.numbers in
    let within : c.loop-echoer.echoer < w.numbers.n = omega (arith, c.loop-echoer-test.true, c.n-echoer-end.ensures.value, many) in
    let is_made = c.is_made_up.ensures w states said.message seats stands below within said.said said.same column in
    some_made_up w states c.args.at c.args.item.now c.loop-echoer.echoer within (sym is_made ∙ c.if-is_made_up.true)

pub loop-echoer-preserved : goal.loop-echoer-preserved
loop-echoer-preserved c = λ w states seats stand right below column.
    let here = Some c.in-Some.here.now in
    let stands = slot_stands w states c.args.self.now c.args.item.now.slot here stand (sym (ap option_copied c.in-Some.is) ∙ c.of_slot.ensures) in
    let said = said_is w states c.args.at c.args.item.now here c.in-Some-at.met.now stands right (sym c.at.ensures ∙ ap option_copied c.in-Some-at.is) in
    let many : c.args.seats.now.params.n ≡ w.numbers.n = ap (λ (p : Numbers). p.n) seats.numbers in
    let within : c.loop-echoer.echoer < w.numbers.n = omega (arith, c.loop-echoer-test.true, c.n-echoer-end.ensures.value, many) in
    let is_made = c.is_made_up.ensures w states said.message seats stands below within said.said said.same column in
    any_up (is_made_up w states c.args.at c.args.item.now) c.loop-echoer.echoer (c.loop-echoer.invariant w states seats stand right below column)
    (sym is_made ∙ c.if-is_made_up.false)

pub returns : goal.returns
returns c = λ w states seats stand right below column.
    let many : c.args.seats.now.params.n ≡ w.numbers.n = ap (λ (p : Numbers). p.n) seats.numbers in
    none_made_up w states c.args.at c.args.item.now c.loop-echoer.echoer
    (omega (arith, c.loop-echoer-test.false, c.loop-echoer.auto.echoer-end, c.n-echoer-end.ensures.value, many))
    (c.loop-echoer.invariant w states seats stand right below column)
