use Rattle.std.proofs.Common.{◌∙◌, sym, ap, List, sum_by}
use Rattle.ooc_buffers.specs.Lists.{HeldItem}
use Rattle.ooc_buffers.proofs.InOrder.{order_sum}
use Rattle.ooc_buffers.proofs.peer.Peer.bytes.Goals as goal

pub returns : goal.returns
returns c =
    c.self.invariant.spotted.keyed.sum
    ∙ (sym (order_sum (λ (k : HeldItem). k.len) c.self.inside.items.entries) ∙ ap (λ (l : List HeldItem). sum_by (λ (k : HeldItem). k.len) l) c.self.view_is)
