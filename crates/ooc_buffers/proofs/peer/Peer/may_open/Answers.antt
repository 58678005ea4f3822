use Rattle.std.proofs.Common.{rules, ◌≡◌, ◌∙◌, sym, subst, true, List}
use Rattle.ooc_buffers.specs.Lists.{HeldItem}
use Rattle.ooc_buffers.specs.Moves.{NonePasses}
use Rattle.ooc_buffers.proofs.FirstOnes.{none_passes}
use Rattle.ooc_buffers.proofs.InOrder.{order_rights}
use Rattle.ooc_buffers.proofs.peer.Peer.may_open.Goals as goal

pub returns-else-not-self : goal.returns-else-not-self
returns-else-not-self g c = λ t right computes opens rights none.
    let fine = order_rights right c.self.inside.items.entries c.args.self.now c.self.view_is rights in
    let fresh : c.self.inside.fresh ≡ true = search rules in
    subst (λ (l : List HeldItem). NonePasses t l) c.self.view_is
    (none_passes t right c.self.inside.next c.self.inside.firsts c.self.inside.items.entries opens c.self.invariant.spotted.ats fine (c.self.invariant.known fresh)
    (sym (c.any_passes.ensures t computes) ∙ none))
