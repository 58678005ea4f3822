use Rattle.std.proofs.Common.{arith}
use Rattle.bracha_validation.specs.Votes.{step_before}
use Rattle.bracha_validation.proofs.Formulas.{too_few}
use Rattle.bracha_validation.proofs.Joins.{after_first, after_second, after_third}
use Rattle.bracha_validation.proofs.following.may_follow.Goals as goal

pub returns-then-before-wait : goal.returns-then-before-wait
returns-then-before-wait c = too_few c.args.p.now (step_before c.args.step) c.args.value c.args.before.now (omega (arith, c.if-before-wait.true, c.wait-wait.ensures))

pub returns-in-1 : goal.returns-in-1
returns-in-1 c =
    let r = c.third_gives.ensures in
    after_third c.args.p.now c.args.step c.args.value c.args.before.now c.third_gives.result c.f-f.result c.wait-wait.result c.n-n.ensures.session
    (omega (arith, c.if-before-wait.false, c.wait-wait.ensures)) c.in-1.is c.f-f.ensures.value c.wait-wait.ensures r.zero r.one r.more

pub returns-in-2 : goal.returns-in-2
returns-in-2 c =
    let r = c.first_gives.ensures in
    after_first c.args.p.now c.args.step c.args.value c.args.before.now c.first_gives.result c.wait-wait.result c.n-n.ensures.session
    (omega (arith, c.if-before-wait.false, c.wait-wait.ensures)) c.in-2.is c.wait-wait.ensures r.zero r.one r.more

pub returns-in_default : goal.returns-in_default
returns-in_default c =
    let r = c.second_gives.ensures in
    after_second c.args.p.now c.args.step c.args.value c.args.before.now c.second_gives.result c.n-n.result c.wait-wait.result c.n-n.ensures.session
    (omega (arith, c.if-before-wait.false, c.wait-wait.ensures)) (omega (arith, c.requires.step, c.in_default)) c.n-n.ensures.value c.wait-wait.ensures r.zero r.one r.two r.more
