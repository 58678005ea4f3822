use Rattle.std.proofs.Common.{rules, ◌≡◌, ◌∙◌, sym, ap, length, List, ℕ, not, nat_lt}
use Rattle.ooc_buffers.specs.Lists.{HeldItem}
use Rattle.ooc_buffers.proofs.InOrder.{order_length}
use Rattle.ooc_buffers.proofs.peer.Peer.is_empty.Goals as goal

pub returns : goal.returns
returns c =
    let here : c.is_empty.result ≡ not (nat_lt 0 (length c.self.inside.items.entries)) = search rules in
    let same = sym (order_length c.self.inside.items.entries) ∙ ap (λ (l : List HeldItem). length l) c.self.view_is in
    here ∙ ap (λ (n : ℕ). not (nat_lt 0 n)) same
