use Rattle.std.proofs.Common.{sym, ap, ◌∙◌, List, ℕ}
use Rattle.std.specs.Prelude.{position}
use Rattle.std.specs.FinMap.{remove}
use Rattle.instance_tree.specs.SlotMaps.{SlotMap}
use Rattle.instance_tree.specs.Keys.{KeyedSlot}
use Rattle.instance_tree.proofs.Spots.{is_at, slot_there, slot_removed, slot_absent, apart_taken}
use Rattle.instance_tree.proofs.bucket.Bucket.remove.Goals as goal

pub invariant_of-self : goal.invariant_of-self
invariant_of-self c =
    let es = c.self.inside.spots.items in
    let s = c.args.slot.now in
    let place = c.place_of.ensures ∙ ap (λ (l : List KeyedSlot). position (λ (e : KeyedSlot). is_at s e.0) l) c.as_slice.ensures.value in
    apart_taken es _ c.in-Some.at c.remove.result c.self.invariant (slot_there es s c.in-Some.at c.remove.result (sym place ∙ c.in-Some.is)).0 c.remove.ensures.items

pub returns-in-Some : goal.returns-in-Some
returns-in-Some c =
    let es = c.self.inside.spots.items in
    let s = c.args.slot.now in
    let place = c.place_of.ensures ∙ ap (λ (l : List KeyedSlot). position (λ (e : KeyedSlot). is_at s e.0) l) c.as_slice.ensures.value in
    slot_removed es _ s c.in-Some.at c.remove.result c.self.invariant (sym place ∙ c.in-Some.is) c.remove.ensures.items
    ∙ ap (λ (m : SlotMap ℕ). remove m s) c.self.view_is

pub returns-in_default : goal.returns-in_default
returns-in_default c =
    let es = c.self.inside.spots.items in
    let s = c.args.slot.now in
    let place = c.place_of.ensures ∙ ap (λ (l : List KeyedSlot). position (λ (e : KeyedSlot). is_at s e.0) l) c.as_slice.ensures.value in
    sym c.self.view_is ∙ (slot_absent es s (sym place ∙ c.in_default.is) ∙ ap (λ (m : SlotMap ℕ). remove m s) c.self.view_is)
