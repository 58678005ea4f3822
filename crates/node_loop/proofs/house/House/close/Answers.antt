use Rattle.std.proofs.Common.{ℕ, List, Some, None, sym, ap, ap₂, ◌∙◌}
use Rattle.std.proofs.lemmas.Bool.{both_ways}
use Rattle.std.proofs.lemmas.Result.{on_ok_weaker}
use Rattle.node_loop.specs.Calls.{asked_in, submitted, epoch_closed}
use Rattle.node_loop.proofs.Comings.{cleared, quietly, comes_as}
use Rattle.node_loop.proofs.house.House.close.Goals as goal

pub returns-in_default-clause-comes : goal.returns-in_default-clause-comes
returns-in_default-clause-comes g c = λ w es numbers ws p stand right.
    absurd (both_ways (w.is_correct c.args.at) (c.in_default.ensures.place w es numbers stand.here) right)

pub returns-clause-comes : goal.returns-clause-comes
returns-clause-comes g c = λ w es numbers ws p stand right.
    let placed = c.in-Some.ensures.place w es numbers stand.here in
    let at_is = c.clear.ensures.at in
    let bytes = c.in_ok-bytes.bytes in
    let asked = c.asked_in-asked.ensures.asked ∙ ap₂ asked_in (sym at_is) c.as_slice.ensures in
    on_ok_weaker c.submit.result
    (comes_as _ w es numbers c.submit.new.self c.submit.new.output (submitted w es c.clear.new.self.at None bytes ws) (epoch_closed w es c.args.at c.args.epoch ws) (quietly w es p)
    (ap₂ (λ (k : ℕ) (b : List ℕ). submitted w es k None b ws) at_is c.in_ok-bytes.ensures))
    (c.submit.ensures.comes w es numbers ws p stand (placed.1 ∙ ap (λ x. Some x) (sym at_is)) (cleared c.clear.new.self c.clear.ensures.none) asked)
