use Rattle.std.proofs.Common.{refl}
use Rattle.layer_api.specs.Words.{Hear}
use Rattle.multivalued.specs.Consensus.{vect_slot}
use Rattle.multivalued.specs.Settling.{BoxSettles}
use Rattle.multivalued.specs.Holding.{FollowsVect}
use Rattle.multivalued.proofs.KnownLaws.{known_vect}
use Rattle.multivalued.proofs.HoldingLaws.{if_ok, follows}
use Rattle.multivalued.proofs.mvc.Mvc.hear_vect.Goals as goal

pub returns-clause-ok : goal.returns-clause-ok
returns-clause-ok g c =
    let stands = g.B.BinaryBox.stands in
    let rules = g.B.BinaryBox.rules in
    let x = c.args.self.now in
    let k = c.args.k in
    let v = c.args.value.now in
    let u = c.hear_vect.new.self in
    let inner = c.settle.new.inner in
    let before = c.args.made.now.items in
    let after = c.settle.new.made.items in
    if_ok c.settle.result
    (λ next. BoxSettles stands rules x.part x.place u x.inner inner before after next)
    (λ next. FollowsVect stands rules x (record x { table = u; inner = inner }) next before after k v)
    (λ next settles at w h long within none.
    follows stands rules x at w (Hear (vect_slot at.scope k) v) u inner next before after refl refl c.hear_vect.ensures.keeps
    (known_vect at.scope w k v x.table u h.part_is.session.most within none (c.in_ok-hear_vect.ensures.ok long) h.known) settles h)
    c.settle.ensures
