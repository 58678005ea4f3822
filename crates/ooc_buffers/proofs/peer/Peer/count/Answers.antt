use Rattle.std.proofs.Common.{◌≡◌, ◌∙◌, sym, ap, refl, length, List, subst, ℕ, IfOk}
use Rattle.ooc_buffers.specs.Lists.{HeldItem, passing}
use Rattle.ooc_buffers.proofs.InOrder.{order_count, order_rights}
use Rattle.ooc_buffers.proofs.peer.Peer.count.Goals as goal

pub returns-then-not-may_open : goal.returns-then-not-may_open
returns-then-not-may_open g c = λ t right computes goes rights.
    let no = c.if-not-may_open.ensures t right computes goes rights refl in
    sym (ap length no.none)

pub returns : goal.returns
returns g c = λ t right computes goes rights.
    let fine = order_rights right c.self.inside.items.entries c.args.self.now c.self.view_is rights in
    let count = sym (order_count t c.self.inside.items.entries) ∙ ap (λ (l : List HeldItem). length (passing t l)) c.self.view_is in
    subst (λ (k : ℕ). IfOk c.count_open.result (λ n. n ≡ k)) count (c.count_open.ensures t right c.self.inside.next computes goes c.self.invariant.spotted.ats fine)
