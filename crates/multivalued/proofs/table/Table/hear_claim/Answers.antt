use Rattle.std.proofs.Common.{refl, arith, subst, ℕ, List, drop}
use Rattle.frame_codec.specs.Values.{mask_of}
use Rattle.multivalued.specs.Entries.{HasAt}
use Rattle.multivalued.specs.Tables.{ClaimedAt}
use Rattle.multivalued.proofs.TableLaws.{table_claimed, keeps_more}
use Rattle.multivalued.proofs.table.Table.hear_claim.Goals as goal

pub returns-in_err-backs-clause-keeps : goal.returns-in_err-backs-clause-keeps
returns-in_err-backs-clause-keeps c =
    keeps_more c.args.self.now.entries.items c.place_for.new.entries.items c.claim_at.new.entries.items c.place_for.ensures.keeps c.claim_at.ensures.keeps

pub returns-clause-keeps : goal.returns-clause-keeps
returns-clause-keeps c =
    keeps_more c.args.self.now.entries.items c.place_for.new.entries.items c.claim_at.new.entries.items c.place_for.ensures.keeps c.claim_at.ensures.keeps

pub returns-clause-ok : goal.returns-clause-ok
returns-clause-ok c =
    let place = c.in_ok-at.ensures.ok in
    let x = c.args.value.now in
    let mid = c.place_for.new.entries.items in
    let now = c.claim_at.new.entries.items in
    let i = c.in_ok-at.at in
    let here : HasAt mid i (drop 4 x) = subst (λ (u : List ℕ). HasAt mid i u) c.split_vect-places.ensures.rest place.here in
    let claimed : ClaimedAt c.args.self.now.support c.only.result (mask_of x) i mid now c.in_ok-backs.backs =
    subst (λ (m : ℕ). ClaimedAt c.args.self.now.support c.only.result m i mid now c.in_ok-backs.backs) c.split_vect-places.ensures.mask c.in_ok-backs.ensures.ok in
    λ n support init vect small within nothing t.
    table_claimed n support small init vect t.inits_inside c.args.k x within nothing c.only.result i c.in_ok-backs.backs c.args.self.now _ mid c.requires
    (c.only.ensures (omega (arith, small, within))) t (place.grows n support init vect t.entries) here
    (subst (λ (m : ℕ). ClaimedAt m c.only.result (mask_of x) i mid now c.in_ok-backs.backs) t.support_is claimed) refl refl
    c.either-self.ensures c.either-self-2.ensures
