use Rattle.std.proofs.Common.{◌∙◌, ap₂, List, ℕ, ◌∷◌, ◌++◌, []}
use Rattle.ritas_base.specs.declared.slot.Slot.{Slot}
use Rattle.ritas_base.specs.declared.item.Say.{Say}
use Rattle.multivalued.specs.Settling.{BoxSettles}
use Rattle.multivalued.specs.Holding.{StartsProposal}
use Rattle.multivalued.proofs.HoldingLaws.{if_ok, proposing, starts}
use Rattle.multivalued.proofs.mvc.Mvc.start.Goals as goal

pub returns-clause-ok : goal.returns-clause-ok
returns-clause-ok g c =
    let stands = g.B.BinaryBox.stands in
    let rules = g.B.BinaryBox.rules in
    let x = c.args.self.now in
    let inner = c.settle.new.inner in
    let before = c.args.made.now.items in
    let mid = c.push.new.self.items in
    let after = c.settle.new.made.items in
    let said = c.in_ok-push.ensures.items
    ∙ ap₂ (λ (s : Slot) (v : List ℕ). let y : Say = record { slot = s; value = v } in c.args.made.now.items ++ y ∷ []) c.slot-slot.ensures c.in_ok-value.ensures in
    if_ok c.settle.result
    (λ next. BoxSettles stands rules x.part (proposing x.place) x.table x.inner inner mid after next)
    (λ next. StartsProposal stands rules x (record x { inner = inner }) next before after c.args.value.now)
    (λ next settles at w h none. starts stands rules x at w inner next before mid after c.args.value.now said settles h none)
    c.settle.ensures
