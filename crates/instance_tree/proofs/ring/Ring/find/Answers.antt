use Rattle.std.proofs.Common.{sym, ap, ◌∙◌, List, ℕ}
use Rattle.std.specs.FinMap.{get}
use Rattle.instance_tree.specs.SlotMaps.{SlotMap}
use Rattle.instance_tree.specs.Places.{map_at, place_in_ring}
use Rattle.instance_tree.proofs.Joined.{found_there}
use Rattle.instance_tree.proofs.ring.Ring.find.Goals as goal

pub returns : goal.returns
returns c =
    let q = c.args.slot.now in
    c.find_at.ensures
    ∙ (ap (λ (ms : List (SlotMap ℕ)). get (map_at ms c.place_of.result) q) c.as_slice.ensures.value
    ∙ found_there (place_in_ring c.self.inside.width) c.self.inside.buckets.items c.args.self.now c.place_of.result q c.self.invariant.placed c.self.view_is (sym c.place_of.ensures))
