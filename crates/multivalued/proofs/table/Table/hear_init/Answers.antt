use Rattle.std.proofs.Common.{ℕ, refl, arith, subst}
use Rattle.multivalued.specs.Tables.{ProposedAt}
use Rattle.multivalued.proofs.TableLaws.{table_proposed, keeps_more, proposed_keeps}
use Rattle.multivalued.proofs.table.Table.hear_init.Goals as goal

pub returns-clause-ok : goal.returns-clause-ok
returns-clause-ok c =
    let place = c.in_ok-at.ensures.ok in
    let mid = c.place_for.new.entries.items in
    let now = c.propose_at-backs.new.entries.items in
    λ n support init vect small within nothing t.
    table_proposed n support small init vect t.inits_inside c.args.k c.args.value.now within nothing c.only-who.result c.in_ok-at.at c.propose_at-backs.result c.args.self.now _ mid
    (c.only-who.ensures (omega (arith, small, within))) t (place.grows n support init vect t.entries) place.here
    (subst (λ (m : ℕ). ProposedAt m c.only-who.result c.in_ok-at.at mid now c.propose_at-backs.result) t.support_is c.propose_at-backs.ensures) refl
    c.either-self.ensures c.either-self-2.ensures c.either-self-3.ensures

pub returns-clause-keeps : goal.returns-clause-keeps
returns-clause-keeps c =
    let place = c.in_ok-at.ensures.ok in
    let old = c.args.self.now.entries.items in
    let mid = c.place_for.new.entries.items in
    let now = c.propose_at-backs.new.entries.items in
    keeps_more old mid now place.keeps
    (proposed_keeps c.args.self.now.support c.only-who.result c.in_ok-at.at mid now c.propose_at-backs.result c.args.value.now place.here c.propose_at-backs.ensures)
