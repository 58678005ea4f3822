use Rattle.std.proofs.Common.{sym, ap, ◌∙◌, ℕ, arith}
use Rattle.std.specs.FinMap.{get}
use Rattle.instance_tree.specs.SlotMaps.{SlotMap}
use Rattle.instance_tree.proofs.Joined.{found_there, nothing_past, read_there}
use Rattle.instance_tree.proofs.Owned.{origin_of}
use Rattle.instance_tree.proofs.origins.Origins.find.Goals as goal

pub returns-then-place-len : goal.returns-then-place-len
returns-then-place-len c =
    let ms = c.self.inside.origins.items in
    let q = c.args.slot.now in
    let i = c.from-place.result in
    sym (nothing_past ms i q (omega arith)) ∙ found_there origin_of ms c.args.self.now i q c.self.invariant c.self.view_is (sym c.from-place.ensures)

pub returns : goal.returns
returns c =
    let ms = c.self.inside.origins.items in
    let q = c.args.slot.now in
    let i = c.from-place.result in
    c.find.ensures
    ∙ (ap (λ (m : SlotMap ℕ). get m q) (read_there ms i c.index.result.now (omega arith) c.index.ensures)
    ∙ found_there origin_of ms c.args.self.now i q c.self.invariant c.self.view_is (sym c.from-place.ensures))
