use Rattle.std.proofs.Common.{◌≡◌, ℕ, length, refl, ap, sym, ◌∙◌, arith}
use Rattle.std.specs.Prelude.{min}
use Rattle.schedule_drive.proofs.Lanes.{front_at, picked, taken_out, kept_in}
use Rattle.schedule_drive.proofs.lane.Lane.pick.Goals as goal

pub returns-then-passes_once-clause-number : goal.returns-then-passes_once-clause-number
returns-then-passes_once-clause-number c = λ count left is.
    let lane = c.fill.new.self in
    let most : c.min-many.result ≡ min (length lane.front.items) 8 = (let many : c.len.result ≡ length lane.front.items = omega (arith, c.len.ensures) in c.min-many.ensures ∙ ap (λ (k : ℕ). min k 8) many) in
    picked lane count left (c.in_ok-fill.ensures.same count left is) c.in_ok-fill.ensures.full c.args.word c.min-many.result c.index-number.result.now most c.if-many-eq0.false c.index-number.ensures

pub returns-then-passes_once-clause-lane : goal.returns-then-passes_once-clause-lane
returns-then-passes_once-clause-lane c = λ count left is.
    let lane = c.fill.new.self in
    let most : c.min-many.result ≡ min (length lane.front.items) 8 = (let many : c.len.result ≡ length lane.front.items = omega (arith, c.len.ensures) in c.min-many.ensures ∙ ap (λ (k : ℕ). min k 8) many) in
    taken_out lane _ count c.args.word _ c.index-number.result.now left (c.in_ok-fill.ensures.same count left is)
    (front_at lane.front.items c.args.word c.min-many.result c.index-number.result.now most c.if-many-eq0.false c.index-number.ensures)
    (sym c.passes_once.ensures ∙ c.if-passes_once.true) c.remove.ensures.items refl refl

pub returns-else-passes_once-clause-number : goal.returns-else-passes_once-clause-number
returns-else-passes_once-clause-number c = λ count left is.
    let lane = c.fill.new.self in
    let most : c.min-many.result ≡ min (length lane.front.items) 8 = (let many : c.len.result ≡ length lane.front.items = omega (arith, c.len.ensures) in c.min-many.ensures ∙ ap (λ (k : ℕ). min k 8) many) in
    picked lane count left (c.in_ok-fill.ensures.same count left is) c.in_ok-fill.ensures.full c.args.word c.min-many.result c.index-number.result.now most c.if-many-eq0.false c.index-number.ensures

pub returns-else-passes_once-clause-lane : goal.returns-else-passes_once-clause-lane
returns-else-passes_once-clause-lane c = λ count left is.
    kept_in c.fill.new.self count c.args.word c.index-number.result.now left (c.in_ok-fill.ensures.same count left is) (sym c.passes_once.ensures ∙ c.if-passes_once.false)
