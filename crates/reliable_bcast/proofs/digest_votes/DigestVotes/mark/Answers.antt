use Rattle.std.proofs.Common.{ℕ, [], List, Some, set, sym, ◌∙◌, ap, arith}
use Rattle.std.specs.Prelude.{Option}
use Rattle.reliable_bcast.proofs.VoteRowsLaws.{awaited_below, awaited_row, not_voted, one_mark}
use Rattle.reliable_bcast.proofs.digest_votes.DigestVotes.mark.Goals as goal

pub with-self-inside-requires : goal.with-self-inside-requires
with-self-inside-requires c =
    let lt = awaited_below c.self.inside.n c.self.inside.voters c.self.inside.kept c.self.inside.rows.items c.args.self.now c.args.k c.self.view_is c.requires in
    let most = c.self.invariant.0 in
    omega (arith, lt, most)

pub returns : goal.returns
returns c =
    let n = c.self.inside.n in
    let voters = c.self.inside.voters in
    let kept = c.self.inside.kept in
    let rows : List (List ℕ) = c.self.inside.rows.items in
    let lt = awaited_below n voters kept rows c.args.self.now c.args.k c.self.view_is c.requires in
    one_mark n voters kept rows c.args.k lt c.with-self-inside.result c.with-self-inside.ensures
    (not_voted _ (sym (awaited_row n voters kept rows c.args.self.now c.args.k c.self.view_is lt) ∙ c.requires)) c.self.invariant.1
    ∙ ap (λ (l : List (Option (List ℕ))). set l c.args.k (Some [])) c.self.view_is
