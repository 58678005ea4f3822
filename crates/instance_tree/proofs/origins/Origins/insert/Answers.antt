use Rattle.std.proofs.Common.{◌≡◌, set, sym, ap, ◌∙◌, ℕ}
use Rattle.std.specs.FinMap.{get, insert}
use Rattle.instance_tree.specs.SlotMaps.{SlotMap}
use Rattle.instance_tree.specs.Places.{ArePlaced}
use Rattle.instance_tree.proofs.Joined.{absent_there, placed_same, placed_inserted, joined_same, joined_inserted, read_there, set_same, either, where_ok, where_err, any_err}
use Rattle.instance_tree.proofs.Owned.{origin_of, set_inserted}
use Rattle.instance_tree.proofs.origins.Origins.insert.Goals as goal

pub returns-in_err-reach-clause-err : goal.returns-in_err-reach-clause-err
returns-in_err-reach-clause-err c =
    any_err c.from_residual.result _
    (joined_same origin_of c.self.inside.origins.items c.reach.new.origins.items c.self.invariant c.reach.ensures.same ∙ c.self.view_is)

pub insert-requires : goal.insert-requires
insert-requires c =
    let old = c.self.inside.origins.items in
    let ms = c.reach.new.origins.items in
    let s = c.args.slot in
    let i = c.from-place.result in
    ap (λ (m : SlotMap ℕ). get m s) (read_there ms i c.index_mut.result.now c.in_ok-reach.ensures.ok c.index_mut.ensures.value)
    ∙ absent_there origin_of ms c.args.self.now i s (placed_same origin_of old ms c.self.invariant c.reach.ensures.same)
    (joined_same origin_of old ms c.self.invariant c.reach.ensures.same ∙ c.self.view_is) (sym c.from-place.ensures) c.requires

pub invariant_of-self-2 : goal.invariant_of-self-2
invariant_of-self-2 c =
    let old = c.self.inside.origins.items in
    let ms = c.reach.new.origins.items in
    let s = c.args.slot in
    let i = c.from-place.result in
    let m = c.index_mut.result.now in
    let after = c.insert.new.self in
    let within = c.in_ok-reach.ensures.ok in
    let read = read_there ms i m within c.index_mut.ensures.value in
    let placed = placed_same origin_of old ms c.self.invariant c.reach.ensures.same in
    either c.insert.result (after ≡ insert m s c.args.key) (after ≡ m) (ArePlaced origin_of (set ms i after))
    (λ is. placed_inserted origin_of ms (set ms i after) i s c.args.key placed (sym c.from-place.ensures) (set_inserted ms i m after s c.args.key within read is))
    (λ is. placed_same origin_of ms (set ms i after) placed (set_same ms i after within (is ∙ read)))
    c.insert.ensures.ok c.insert.ensures.err

pub returns-clause-ok : goal.returns-clause-ok
returns-clause-ok c =
    let old = c.self.inside.origins.items in
    let ms = c.reach.new.origins.items in
    let s = c.args.slot in
    let i = c.from-place.result in
    let m = c.index_mut.result.now in
    let after = c.insert.new.self in
    let within = c.in_ok-reach.ensures.ok in
    let read = read_there ms i m within c.index_mut.ensures.value in
    let placed = placed_same origin_of old ms c.self.invariant c.reach.ensures.same in
    let before = joined_same origin_of old ms c.self.invariant c.reach.ensures.same ∙ c.self.view_is in
    where_ok c.insert.result (after ≡ insert m s c.args.key) _
    (λ is. joined_inserted origin_of ms (set ms i after) i s c.args.key placed (sym c.from-place.ensures) (set_inserted ms i m after s c.args.key within read is)
    ∙ ap (λ (n : SlotMap ℕ). insert n s c.args.key) before)
    c.insert.ensures.ok

pub returns-clause-err : goal.returns-clause-err
returns-clause-err c =
    let old = c.self.inside.origins.items in
    let ms = c.reach.new.origins.items in
    let i = c.from-place.result in
    let m = c.index_mut.result.now in
    let after = c.insert.new.self in
    let within = c.in_ok-reach.ensures.ok in
    let read = read_there ms i m within c.index_mut.ensures.value in
    let placed = placed_same origin_of old ms c.self.invariant c.reach.ensures.same in
    let before = joined_same origin_of old ms c.self.invariant c.reach.ensures.same ∙ c.self.view_is in
    where_err c.insert.result (after ≡ m) _
    (λ is. joined_same origin_of ms (set ms i after) placed (set_same ms i after within (is ∙ read)) ∙ before) c.insert.ensures.err
