use Rattle.std.proofs.Common.{◌≡◌, sym, Some, Option, List, subst}
use Rattle.std.specs.BTreeMap.{is_at}
use Rattle.std.specs.Map.{lookup}
use Rattle.ooc_buffers.specs.Spots.{spot_cmp, Spotted, Leaves, Takes}
use Rattle.ooc_buffers.proofs.Leaving.{leaves, by_item}
use Rattle.ooc_buffers.proofs.search.take_next.Goals as goal

pub returns-in_err-spot-clause-next : goal.returns-in_err-spot-clause-next
returns-in_err-spot-clause-next g c = λ t right next computes goes ats rights behind.
    subst (λ (o : Option Spotted). Takes t c.args.from.now c.args.from.now c.args.items.now.entries c.args.items.now.entries o) (sym c.from_residual.ensures)
    (c.in_err-spot.ensures.found t right next computes goes ats rights)

pub returns-clause-leaves : goal.returns-clause-leaves
returns-clause-leaves g c =
    let here : lookup (is_at (spot_cmp c.in_ok-spot.spot)) c.args.items.now.entries ≡ Some c.in_ok-entry.entry = sym c.in_ok-entry.ensures.value in
    subst (λ (l : List Spotted). Leaves (c.in_ok-spot.spot, c.in_ok-entry.entry) c.args.items.now.entries l) (sym c.remove.ensures.entries)
    (leaves c.in_ok-spot.spot c.in_ok-entry.entry c.args.items.now.entries here)

pub returns-clause-next : goal.returns-clause-next
returns-clause-next g c = λ t right next computes goes ats rights behind.
    let here : lookup (is_at (spot_cmp c.in_ok-spot.spot)) c.args.items.now.entries ≡ Some c.in_ok-entry.entry = sym c.in_ok-entry.ensures.value in
    let found = c.in_ok-spot.ensures.found t right next computes goes ats rights in
    let left = subst (λ (l : List Spotted). Leaves (c.in_ok-spot.spot, c.in_ok-entry.entry) c.args.items.now.entries l) (sym c.remove.ensures.entries)
    (leaves c.in_ok-spot.spot c.in_ok-entry.entry c.args.items.now.entries here) in
    by_item t c.args.from.now c.in_ok-spot.spot c.in_ok-entry.entry c.args.items.now.entries c.remove.new.self.entries here left found behind
