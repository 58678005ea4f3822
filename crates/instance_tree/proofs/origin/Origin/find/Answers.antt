use Rattle.std.proofs.Common.{◌∷◌, suc, ap, ◌∙◌, List, ℕ}
use Rattle.std.specs.FinMap.{get}
use Rattle.instance_tree.specs.SlotMaps.{SlotMap}
use Rattle.instance_tree.specs.Places.{map_at, place_in_origin}
use Rattle.instance_tree.proofs.Joined.{found_there}
use Rattle.instance_tree.proofs.Owned.{command_place, other_place}
use Rattle.instance_tree.proofs.origin.Origin.find.Goals as goal

pub returns-then-slot-eq1 : goal.returns-then-slot-eq1
returns-then-slot-eq1 c =
    let q = c.args.slot.now in
    c.find.ensures
    ∙ found_there (place_in_origin c.self.inside.span) (c.self.inside.commands ∷ c.self.inside.cells.items) c.args.self.now 0 q c.self.invariant c.self.view_is
    (command_place c.self.inside.span q c.if-slot-eq1.true)

pub returns-else-slot-eq1 : goal.returns-else-slot-eq1
returns-else-slot-eq1 c =
    let q = c.args.slot.now in
    let i = c.cell_of.result in
    c.find_at.ensures
    ∙ (ap (λ (ms : List (SlotMap ℕ)). get (map_at ms i) q) c.as_slice.ensures.value
    ∙ found_there (place_in_origin c.self.inside.span) (c.self.inside.commands ∷ c.self.inside.cells.items) c.args.self.now (suc i) q c.self.invariant c.self.view_is
    (other_place c.self.inside.span q i c.if-slot-eq1.false c.cell_of.ensures))
