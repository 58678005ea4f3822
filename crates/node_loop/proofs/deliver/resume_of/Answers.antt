use Rattle.std.proofs.Common.{◌≡◌, List, length, Some, refl, ap, subst, arith}
use Rattle.std.specs.List.{slice_get}
use Rattle.std.proofs.lemmas.Option.{slice_get_read, slice_get_within}
use Rattle.node_loop.specs.declared.peers.Keeper.{Keeper}
use Rattle.node_loop.proofs.deliver.resume_of.Goals as goal

pub returns-in_default-clause-kept : goal.returns-in_default-clause-kept
returns-in_default-clause-kept g c = λ w es numbers ws p part stands fits. fits.1 (c.in_default.ensures.place w es numbers stands.here)

pub returns-in_default-get-clause-kept : goal.returns-in_default-get-clause-kept
returns-in_default-get-clause-kept g c = λ w es numbers ws p part stands fits.
    let number = (c.in-Some.ensures.place w es numbers stands.here).1 in
    let within = slice_get_within numbers c.in-Some.place c.args.at number in
    let past = c.in_default-get.ensures.lookup.3 in
    let many = stands.many in
    let same : length c.deref.result.now ≡ length c.args.house.now.keepers.items = ap length c.deref.ensures.value in
    absurd (omega (arith, within, past, many, same))

pub returns-then-from-peers-clause-kept : goal.returns-then-from-peers-clause-kept
returns-then-from-peers-clause-kept g c = λ w es numbers ws p part stands fits.
    let number = (c.in-Some.ensures.place w es numbers stands.here).1 in
    let look = c.in-Some-get.ensures.lookup in
    let keepers = c.deref.result.now in
    let keeper = c.in-Some-get.keeper.now in
    let there : slice_get keepers c.in-Some.place ≡ Some keeper = slice_get_read keepers (length keepers) c.in-Some.place keeper refl look.3.0 look.1 in
    let is = stands.keepers c.in-Some.place c.args.at keeper number (subst (λ (l : List Keeper). slice_get l c.in-Some.place ≡ Some keeper) c.deref.ensures.value there) in
    let below = fits.0 in
    let many = is.kept.many in
    absurd (omega (arith, below, many, c.if-from-peers.true, c.peers.ensures, c.from.ensures))

pub returns-clause-kept : goal.returns-clause-kept
returns-clause-kept g c = λ w es numbers ws p part stands fits.
    let number = (c.in-Some.ensures.place w es numbers stands.here).1 in
    let look = c.in-Some-get.ensures.lookup in
    let keepers = c.deref.result.now in
    let keeper = c.in-Some-get.keeper.now in
    let there : slice_get keepers c.in-Some.place ≡ Some keeper = slice_get_read keepers (length keepers) c.in-Some.place keeper refl look.3.0 look.1 in
    let is = stands.keepers c.in-Some.place c.args.at keeper number (subst (λ (l : List Keeper). slice_get l c.in-Some.place ≡ Some keeper) c.deref.ensures.value there) in
    is.kept.each c.args.peer fits.0
