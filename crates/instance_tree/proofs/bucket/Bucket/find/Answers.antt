use Rattle.std.proofs.Common.{◌∙◌, ap}
use Rattle.std.specs.FinMap.{find, get}
use Rattle.ritas_base.specs.SlotOrder.{slot_cmp}
use Rattle.instance_tree.proofs.Spots.{found_as_map}
use Rattle.instance_tree.proofs.bucket.Bucket.find.Goals as goal

pub returns : goal.returns
returns c =
    let q = c.args.slot.now in
    c.find_in.ensures ∙ ap (λ l. find slot_cmp q l) c.as_slice.ensures.value ∙ found_as_map c.self.inside.spots.items q ∙ ap (λ m. get m q) c.self.view_is
