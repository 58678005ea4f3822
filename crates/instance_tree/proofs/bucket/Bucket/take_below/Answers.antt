use Rattle.std.proofs.Common.{refl, sym, ap, ◌∙◌, subst, Option, ℕ, Bool, None, Some}
use Rattle.std.specs.FinMap.{get}
use Rattle.ritas_base.specs.declared.slot.Slot.{Slot}
use Rattle.instance_tree.specs.SlotMaps.{SlotMap, is_numbered_below}
use Rattle.instance_tree.specs.Keys.{KeyedSlot, TakesSpot, TakesSpotOut}
use Rattle.instance_tree.proofs.Spots.{map_of, finds_in, takes_place, takes_nothing, apart_taken}
use Rattle.instance_tree.proofs.bucket.Bucket.take_below.Goals as goal

pub returns-in_err-at : goal.returns-in_err-at
returns-in_err-at c =
    let es = c.self.inside.spots.items in
    let gone : Slot → Bool = is_numbered_below c.args.bound in
    let fails = finds_in (λ (e : KeyedSlot). gone e.0) es _ None _ c.as_slice.ensures.value c.in_err-at.was c.last_below.ensures in
    subst (λ (o : Option KeyedSlot). TakesSpotOut gone c.args.self.now c.args.self.now o) (sym c.from_residual.ensures)
    (refl, λ s passes. sym (ap (λ (m : SlotMap ℕ). get m s) c.self.view_is) ∙ takes_nothing gone es fails s passes)

pub invariant_of-self : goal.invariant_of-self
invariant_of-self c =
    let es = c.self.inside.spots.items in
    let finds = finds_in (λ (e : KeyedSlot). is_numbered_below c.args.bound e.0) es _ (Some c.in_ok-at.at) _ c.as_slice.ensures.value c.in_ok-at.was c.last_below.ensures in
    apart_taken es _ c.in_ok-at.at c.remove.result c.self.invariant finds.0 c.remove.ensures.items

pub returns : goal.returns
returns c =
    let es = c.self.inside.spots.items in
    let gone : Slot → Bool = is_numbered_below c.args.bound in
    let finds = finds_in (λ (e : KeyedSlot). gone e.0) es _ (Some c.in_ok-at.at) _ c.as_slice.ensures.value c.in_ok-at.was c.last_below.ensures in
    subst (λ (m : SlotMap ℕ). TakesSpot gone m (map_of c.remove.new.self.items) c.remove.result) c.self.view_is
    (takes_place gone es _ c.in_ok-at.at c.remove.result c.self.invariant finds c.remove.ensures.items c.remove.ensures.value)
