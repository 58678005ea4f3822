use Rattle.std.proofs.Common.{Some, None, cond, refl, ◌∙◌, ap, subst, ◌==◌, if◌then◌else◌}
use Rattle.std.specs.Option.{option_or, IsSome}
use Rattle.std.specs.BTreeMap.{get}
use Rattle.ritas_base.specs.SlotOrder.{slot_cmp, is_slot}
use Rattle.world_model.proofs.HashedSteps.{slot_put}
use Rattle.world_model.proofs.met.MetSends.add.Goals as goal

pub returns-in_ok-add-in-Some : goal.returns-in_ok-add-in-Some
returns-in_ok-add-in-Some c =
    let there = subst (λ o. IsSome o) c.in-Some.ensures.value refl in
    slot_put c.args.self.now.table (c.get_mut.follows.lender c.add.new.self) c.args.slot c.args.replica c.args.met (Some c.in-Some.here.now) c.add.new.self
    c.in-Some.ensures.value c.in_ok-add-in-Some.ensures
    ((c.get_mut.follows.holds c.add.new.self).3 there).0

pub returns-in_ok-insert-in-None : goal.returns-in_ok-insert-in-None
returns-in_ok-insert-in-None c =
    slot_put c.args.self.now.table c.insert.new.self c.args.slot c.args.replica c.args.met None c.add-in-None.new.self
    c.in-None.ensures.value
    (λ j. c.in_ok-add-in-None.ensures j ∙ ap (λ o. if c.args.replica == j then option_or o (Some c.args.met) else o) (c.new-here.ensures j))
    (λ q. c.in_ok-insert-in-None.ensures.updates.0 q
    ∙ ap (λ m. cond (is_slot c.args.slot q) (Some c.add-in-None.new.self) (get slot_cmp m q)) c.get_mut.follows.holds-at-none)
