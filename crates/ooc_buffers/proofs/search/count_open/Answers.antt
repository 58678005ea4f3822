use Rattle.std.proofs.Common.{rules, ◌≡◌, ◌+◌, ap, arith, length, List}
use Rattle.ooc_buffers.specs.Spots.{Spotted, pass}
use Rattle.ooc_buffers.proofs.Leaving.{rest_all}
use Rattle.ooc_buffers.proofs.search.count_open.Goals as goal

pub loop-spot-init : goal.loop-spot-init
loop-spot-init g c = λ t right next computes goes ats rights.
    let all = ap (λ (l : List Spotted). length (pass t l)) (rest_all c.args.items.now.entries) in
    omega (arith, all)

pub loop-spot-smaller : goal.loop-spot-smaller
loop-spot-smaller g c = omega (arith, c.in-Some.ensures.steps.fewer)

pub loop-spot-preserved : goal.loop-spot-preserved
loop-spot-preserved g c = λ t right next computes goes ats rights.
    let found = c.in-Some.ensures.found t right next computes goes ats rights in
    let first = ap length found.first in
    let sum : c.in_ok-found.found ≡ c.loop-spot.found + 1 = search rules in
    let before = c.loop-spot.invariant t right next computes goes ats rights in
    omega (arith, first, sum, before)

pub returns : goal.returns
returns g c = λ t right next computes goes ats rights.
    let none = ap length (c.in_default.ensures.found t right next computes goes ats rights) in
    let before = c.loop-spot.invariant t right next computes goes ats rights in
    omega (arith, none, before)
