use Rattle.std.proofs.Common.{ℕ, subst, ◌&&◌, Bool, nat_lt, refl, sym, ap, ◌∙◌, if◌then◌else◌}
use Rattle.std.proofs.lemmas.Bool.{both_ways, ltb-false}
use Rattle.node_loop.specs.Resending.{Brought, nothing_more, connected}
use Rattle.node_loop.specs.Standing.{IsMore}
use Rattle.node_loop.proofs.Comings.{cleared, nothing_comes, only_more}
use Rattle.node_loop.proofs.Hearing.{keeper_at, connected_elsewhere, one_keeper, comes_with}
use Rattle.node_loop.proofs.Wishing.{in_house}
use Rattle.node_loop.proofs.house.House.up.Goals as goal

pub returns-in_default-clause-comes : goal.returns-in_default-clause-comes
returns-in_default-clause-comes g c = λ w es numbers ws p stand.
    comes_with _ w es numbers c.args.self.now c.clear.new.self _ (nothing_more p) _
    (sym (ap (λ (b : Bool). if b && nat_lt c.args.peer w.numbers.n then connected w.mode.version c.args.at c.args.peer p else nothing_more p) (c.in_default.ensures.place w es numbers stand.here)))
    (nothing_comes _ w es numbers c.args.self.now c.clear.new.self ws p stand (cleared c.clear.new.self c.clear.ensures.none))

pub returns-in-Some-get_mut-clause-comes : goal.returns-in-Some-get_mut-clause-comes
returns-in-Some-get_mut-clause-comes g c = λ w es numbers ws p stand.
    let placed = c.in-Some.ensures.place w es numbers stand.here in
    let at_is = c.clear.ensures.at in
    let at = c.args.at in
    let old = c.in-Some-get_mut.keeper.now in
    let keeper = keeper_at _ w es numbers c.args.self.now ws p c.in-Some.place at old stand placed.1 c.in-Some-get_mut.ensures.item.3.0 c.in-Some-get_mut.ensures.value in
    let said = c.connected-output.ensures.connected w at p keeper in
    let brings : Brought = if nat_lt c.args.peer w.numbers.n then connected w.mode.version at c.args.peer p else nothing_more p in
    comes_with _ w es numbers _ _ _ brings _
    (sym (ap (λ (b : Bool). if b && nat_lt c.args.peer w.numbers.n then connected w.mode.version at c.args.peer p else nothing_more p) placed.0))
    (only_more _ w es numbers _ c.clear.new.self _ ws brings
    (one_keeper _ w es numbers c.args.self.now _ ws p brings.peers c.in-Some.place at old c.connected-output.new.self
    stand placed.1 c.in-Some-get_mut.ensures.item.3.0 c.in-Some-get_mut.ensures.value refl refl refl said.0
    (λ i k other it. connected_elsewhere w.mode.version w.numbers.n i at c.args.peer (nat_lt c.args.peer w.numbers.n) k p other it))
    (cleared c.clear.new.self c.clear.ensures.none) (subst (λ (i : ℕ). IsMore w i c.connected-output.result brings) (sym at_is) said.1)
    (λ faulty. absurd (both_ways (w.is_correct at) (ap w.is_correct (sym at_is) ∙ faulty) placed.0)) refl refl refl refl refl)

pub returns-in_default-get_mut-clause-comes : goal.returns-in_default-get_mut-clause-comes
returns-in_default-get_mut-clause-comes g c = λ w es numbers ws p stand.
    let placed = c.in-Some.ensures.place w es numbers stand.here in
    absurd (in_house _ w es numbers c.args.self.now ws p c.args.self.now.keepers.items c.in-Some.place c.args.at stand refl placed.1 (ltb-false _ _ (sym c.in_default-get_mut.ensures.item.0)))
