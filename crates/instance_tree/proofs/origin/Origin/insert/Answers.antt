use Rattle.std.proofs.Common.{◌≡◌, ◌∷◌, suc, ap, ◌∙◌, ℕ}
use Rattle.std.specs.FinMap.{insert}
use Rattle.instance_tree.specs.SlotMaps.{SlotMap}
use Rattle.instance_tree.specs.Places.{map_at, ArePlaced, AreSame, ChangesAt, place_in_origin}
use Rattle.instance_tree.proofs.Joined.{absent_there, placed_same, placed_inserted, joined_same, joined_inserted, changes_to, first_changes, first_same, rest_changes, rest_same, either, where_ok, where_err}
use Rattle.instance_tree.proofs.Owned.{command_place, other_place}
use Rattle.instance_tree.proofs.origin.Origin.insert.Goals as goal

pub insert-requires : goal.insert-requires
insert-requires c =
    absent_there (place_in_origin c.self.inside.span) (c.self.inside.commands ∷ c.self.inside.cells.items) c.args.self.now 0 c.args.slot c.self.invariant c.self.view_is
    (command_place c.self.inside.span c.args.slot c.if-slot-eq1.true) c.requires

pub invariant_of-self : goal.invariant_of-self
invariant_of-self c =
    let old = c.self.inside.commands in
    let new = c.insert.new.self in
    let ms = c.self.inside.cells.items in
    either c.insert.result (new ≡ insert old c.args.slot c.args.key) (new ≡ old) (ArePlaced (place_in_origin c.self.inside.span) (new ∷ ms))
    (λ is. placed_inserted (place_in_origin c.self.inside.span) (old ∷ ms) (new ∷ ms) 0 c.args.slot c.args.key c.self.invariant (command_place c.self.inside.span c.args.slot c.if-slot-eq1.true)
    (changes_to (old ∷ ms) (new ∷ ms) 0 new _ (first_changes old new ms) is))
    (λ is. placed_same (place_in_origin c.self.inside.span) (old ∷ ms) (new ∷ ms) c.self.invariant (first_same old new ms is))
    c.insert.ensures.ok c.insert.ensures.err

pub returns-then-slot-eq1-clause-ok : goal.returns-then-slot-eq1-clause-ok
returns-then-slot-eq1-clause-ok c =
    let old = c.self.inside.commands in
    let new = c.insert.new.self in
    let ms = c.self.inside.cells.items in
    where_ok c.insert.result (new ≡ insert old c.args.slot c.args.key) _
    (λ is. joined_inserted (place_in_origin c.self.inside.span) (old ∷ ms) (new ∷ ms) 0 c.args.slot c.args.key c.self.invariant (command_place c.self.inside.span c.args.slot c.if-slot-eq1.true)
    (changes_to (old ∷ ms) (new ∷ ms) 0 new _ (first_changes old new ms) is)
    ∙ ap (λ (m : SlotMap ℕ). insert m c.args.slot c.args.key) c.self.view_is)
    c.insert.ensures.ok

pub insert_at-requires : goal.insert_at-requires
insert_at-requires c =
    absent_there (place_in_origin c.self.inside.span) (c.self.inside.commands ∷ c.self.inside.cells.items) c.args.self.now (suc c.cell_of.result) c.args.slot c.self.invariant
    c.self.view_is (other_place c.self.inside.span c.args.slot c.cell_of.result c.if-slot-eq1.false c.cell_of.ensures) c.requires

pub invariant_of-self-else-slot-eq1 : goal.invariant_of-self-else-slot-eq1
invariant_of-self-else-slot-eq1 c =
    let m = c.self.inside.commands in
    let old = c.self.inside.cells.items in
    let new = c.insert_at.new.buckets.items in
    let i = c.cell_of.result in
    either c.insert_at.result (ChangesAt old new i (insert (map_at old i) c.args.slot c.args.key)) (AreSame old new) (ArePlaced (place_in_origin c.self.inside.span) (m ∷ new))
    (λ changes. placed_inserted (place_in_origin c.self.inside.span) (m ∷ old) (m ∷ new) (suc i) c.args.slot c.args.key c.self.invariant
    (other_place c.self.inside.span c.args.slot i c.if-slot-eq1.false c.cell_of.ensures) (rest_changes m old new i _ changes))
    (λ same. placed_same (place_in_origin c.self.inside.span) (m ∷ old) (m ∷ new) c.self.invariant (rest_same m old new same))
    c.insert_at.ensures.ok c.insert_at.ensures.err

pub returns-else-slot-eq1-clause-ok : goal.returns-else-slot-eq1-clause-ok
returns-else-slot-eq1-clause-ok c =
    let m = c.self.inside.commands in
    let old = c.self.inside.cells.items in
    let new = c.insert_at.new.buckets.items in
    let i = c.cell_of.result in
    where_ok c.insert_at.result (ChangesAt old new i (insert (map_at old i) c.args.slot c.args.key)) _
    (λ changes. joined_inserted (place_in_origin c.self.inside.span) (m ∷ old) (m ∷ new) (suc i) c.args.slot c.args.key c.self.invariant
    (other_place c.self.inside.span c.args.slot i c.if-slot-eq1.false c.cell_of.ensures) (rest_changes m old new i _ changes)
    ∙ ap (λ (n : SlotMap ℕ). insert n c.args.slot c.args.key) c.self.view_is)
    c.insert_at.ensures.ok

pub returns-else-slot-eq1-clause-err : goal.returns-else-slot-eq1-clause-err
returns-else-slot-eq1-clause-err c =
    let m = c.self.inside.commands in
    let old = c.self.inside.cells.items in
    let new = c.insert_at.new.buckets.items in
    where_err c.insert_at.result (AreSame old new) _
    (λ same. joined_same (place_in_origin c.self.inside.span) (m ∷ old) (m ∷ new) c.self.invariant (rest_same m old new same) ∙ c.self.view_is) c.insert_at.ensures.err
