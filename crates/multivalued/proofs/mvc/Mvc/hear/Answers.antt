use Rattle.std.proofs.Common.{◌≡◌, arith}
use Rattle.multivalued.specs.Holding.{FollowsInit, FollowsVect, FollowsVote}
use Rattle.multivalued.specs.Stands.{FollowsSlot}
use Rattle.multivalued.proofs.HoldingLaws.{if_ok}
use Rattle.multivalued.proofs.Calls.{classes, by_init, by_vect, by_vote}
use Rattle.multivalued.proofs.mvc.Mvc.hear.Goals as goal

pub returns-in-3-clause-ok : goal.returns-in-3-clause-ok
returns-in-3-clause-ok g c =
    let stands = g.B.BinaryBox.stands in
    let rules = g.B.BinaryBox.rules in
    let x = c.args.self.now in
    let y = c.hear_init.new.self in
    let s = c.args.slot.now in
    let v = c.args.value.now in
    let before = c.args.made.now.items in
    let after = c.hear_init.new.made.items in
    if_ok c.hear_init.result
    (λ next. FollowsInit stands rules x y next before after s.origin v)
    (λ next. FollowsSlot stands rules x y next before after (g.C.Coin.bits c.args.coin.now) s v)
    (λ next follows at w h coin may. by_init stands rules x y next before after at w s v may c.in-3.is follows h.holds)
    c.hear_init.ensures.ok

pub returns-in-4-clause-ok : goal.returns-in-4-clause-ok
returns-in-4-clause-ok g c =
    let stands = g.B.BinaryBox.stands in
    let rules = g.B.BinaryBox.rules in
    let x = c.args.self.now in
    let y = c.hear_vect.new.self in
    let s = c.args.slot.now in
    let v = c.args.value.now in
    let before = c.args.made.now.items in
    let after = c.hear_vect.new.made.items in
    if_ok c.hear_vect.result
    (λ next. FollowsVect stands rules x y next before after s.origin v)
    (λ next. FollowsSlot stands rules x y next before after (g.C.Coin.bits c.args.coin.now) s v)
    (λ next follows at w h coin may. by_vect stands rules x y next before after at w s v may c.in-4.is follows h.holds)
    c.hear_vect.ensures.ok

pub returns-in_default-clause-ok : goal.returns-in_default-clause-ok
returns-in_default-clause-ok g c =
    let stands = g.B.BinaryBox.stands in
    let rules = g.B.BinaryBox.rules in
    let bits = g.C.Coin.bits c.args.coin.now in
    let x = c.args.self.now in
    let y = c.hear_vote.new.self in
    let s = c.args.slot.now in
    let v = c.args.value.now in
    let before = c.args.made.now.items in
    let after = c.hear_vote.new.made.items in
    if_ok c.hear_vote.result
    (λ next. FollowsVote stands rules x y next before after bits s c.vote_of.result)
    (λ next. FollowsSlot stands rules x y next before after bits s v)
    (λ next follows at w h coin may.
    let range = classes at.scope s may.slot in
    let low = range.0 in
    let high = range.1 in
    let five : c.args.slot.now.class ≡ 5 = omega (arith, low, high) in
    by_vote stands rules x y next before after at w s v may bits c.vote_of.result h.met five coin c.vote_of.ensures.vote follows h.holds)
    c.hear_vote.ensures.ok
