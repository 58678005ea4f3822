use Rattle.std.proofs.Common.{◌≡◌, ◌∙◌, sym, ap, arith, refl, List}
use Rattle.std.specs.List.{list_any}
use Rattle.ooc_buffers.specs.Lists.{HeldItem, is_same_item}
use Rattle.ooc_buffers.specs.Spots.{held_in}
use Rattle.ooc_buffers.specs.declared.key.Key.{Key}
use Rattle.ooc_buffers.proofs.KeyItems.{alike, alike_from, none_alike, one_alike}
use Rattle.ooc_buffers.proofs.InOrder.{order_any}
use Rattle.ooc_buffers.proofs.peer.Peer.has.Goals as goal

pub returns-then-count_of-eq0 : goal.returns-then-count_of-eq0
returns-then-count_of-eq0 c =
    let counted : c.count_of.result ≡ alike c.args.item.now (held_in c.self.inside.items.entries) =
    alike_from c.self.inside.index c.args.item.now (held_in c.self.inside.items.entries) (held_in c.self.inside.items.entries) c.of-key.result c.count_of.result c.self.invariant.spotted.keyed.counts refl c.of-key.ensures c.count_of.ensures in
    sym (none_alike c.args.item.now (held_in c.self.inside.items.entries) (sym counted ∙ c.if-count_of-eq0.true))
    ∙ (sym (order_any (λ (k : HeldItem). is_same_item c.args.item.now k.item) c.self.inside.items.entries)
    ∙ ap (λ (l : List HeldItem). list_any (λ (k : HeldItem). is_same_item c.args.item.now k.item) l) c.self.view_is)

pub returns-then-not-is_column : goal.returns-then-not-is_column
returns-then-not-is_column c =
    let counted : c.count_of.result ≡ alike c.args.item.now (held_in c.self.inside.items.entries) =
    alike_from c.self.inside.index c.args.item.now (held_in c.self.inside.items.entries) (held_in c.self.inside.items.entries) c.of-key.result c.count_of.result c.self.invariant.spotted.keyed.counts refl c.of-key.ensures c.count_of.ensures in
    sym (one_alike c.args.item.now (held_in c.self.inside.items.entries) (sym c.if-not-is_column.ensures) (omega (arith, counted, c.if-count_of-eq0.false)))
    ∙ (sym (order_any (λ (k : HeldItem). is_same_item c.args.item.now k.item) c.self.inside.items.entries)
    ∙ ap (λ (l : List HeldItem). list_any (λ (k : HeldItem). is_same_item c.args.item.now k.item) l) c.self.view_is)

pub returns : goal.returns
returns c =
    c.holds.ensures c.self.invariant.spotted.ats (ap (λ (k : Key). k.mark) c.of-key.ensures)
    ∙ (sym (order_any (λ (k : HeldItem). is_same_item c.args.item.now k.item) c.self.inside.items.entries)
    ∙ ap (λ (l : List HeldItem). list_any (λ (k : HeldItem). is_same_item c.args.item.now k.item) l) c.self.view_is)
