use Rattle.std.proofs.Common.{set, sym, ap, ◌∙◌, ℕ, arith}
use Rattle.std.specs.FinMap.{remove}
use Rattle.instance_tree.specs.SlotMaps.{SlotMap}
use Rattle.instance_tree.proofs.Joined.{placed_removed, joined_removed, removed_past, read_there}
use Rattle.instance_tree.proofs.Owned.{origin_of, set_removed}
use Rattle.instance_tree.proofs.origins.Origins.remove.Goals as goal

pub invariant_of-self : goal.invariant_of-self
invariant_of-self c =
    let ms = c.self.inside.origins.items in
    let s = c.args.slot.now in
    let i = c.from-place.result in
    let after = c.remove.new.self in
    let read = read_there ms i c.index_mut.result.now (omega arith) c.index_mut.ensures.value in
    placed_removed origin_of ms (set ms i after) i s c.self.invariant (sym c.from-place.ensures)
    (set_removed ms i c.index_mut.result.now after s (omega arith) read c.remove.ensures)

pub returns-then-place-len : goal.returns-then-place-len
returns-then-place-len c =
    let ms = c.self.inside.origins.items in
    let s = c.args.slot.now in
    let i = c.from-place.result in
    let after = c.remove.new.self in
    let read = read_there ms i c.index_mut.result.now (omega arith) c.index_mut.ensures.value in
    joined_removed origin_of ms (set ms i after) i s c.self.invariant (sym c.from-place.ensures)
    (set_removed ms i c.index_mut.result.now after s (omega arith) read c.remove.ensures)
    ∙ ap (λ (m : SlotMap ℕ). remove m s) c.self.view_is

pub returns-else-place-len : goal.returns-else-place-len
returns-else-place-len c =
    let ms = c.self.inside.origins.items in
    let s = c.args.slot.now in
    let i = c.from-place.result in
    sym c.self.view_is
    ∙ (joined_removed origin_of ms ms i s c.self.invariant (sym c.from-place.ensures) (removed_past ms i s (omega arith))
    ∙ ap (λ (m : SlotMap ℕ). remove m s) c.self.view_is)
