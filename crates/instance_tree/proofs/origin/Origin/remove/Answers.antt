use Rattle.std.proofs.Common.{◌∷◌, suc, ap, ◌∙◌, ℕ}
use Rattle.std.specs.FinMap.{remove}
use Rattle.instance_tree.specs.SlotMaps.{SlotMap}
use Rattle.instance_tree.specs.Places.{place_in_origin}
use Rattle.instance_tree.proofs.Joined.{placed_removed, joined_removed, rest_changes}
use Rattle.instance_tree.proofs.Owned.{other_place}
use Rattle.instance_tree.proofs.origin.Origin.remove.Goals as goal

pub invariant_of-self : goal.invariant_of-self
invariant_of-self c =
    let m = c.self.inside.commands in
    let old = c.self.inside.cells.items in
    let new = c.remove_at.new.buckets.items in
    let i = c.cell_of.result in
    placed_removed (place_in_origin c.self.inside.span) (m ∷ old) (m ∷ new) (suc i) c.args.slot.now c.self.invariant (other_place c.self.inside.span c.args.slot.now i c.requires c.cell_of.ensures)
    (rest_changes m old new i _ c.remove_at.ensures)

pub returns : goal.returns
returns c =
    let m = c.self.inside.commands in
    let old = c.self.inside.cells.items in
    let new = c.remove_at.new.buckets.items in
    let i = c.cell_of.result in
    joined_removed (place_in_origin c.self.inside.span) (m ∷ old) (m ∷ new) (suc i) c.args.slot.now c.self.invariant (other_place c.self.inside.span c.args.slot.now i c.requires c.cell_of.ensures)
    (rest_changes m old new i _ c.remove_at.ensures)
    ∙ ap (λ (n : SlotMap ℕ). remove n c.args.slot.now) c.self.view_is
