use Rattle.std.proofs.Common.{ℕ, List, Some, set, sym, ◌∙◌, ap, subst, arith}
use Rattle.std.specs.Prelude.{Option}
use Rattle.reliable_bcast.specs.VoteRows.{votes_of, HasVoteRows}
use Rattle.reliable_bcast.proofs.VoteRowsLaws.{awaited_below, room_made, has_row, one_vote}
use Rattle.reliable_bcast.proofs.digest_votes.DigestVotes.vote.Goals as goal

pub index_mut-requires : goal.index_mut-requires
index_mut-requires c =
    let n = c.self.inside.n in
    let voters = c.self.inside.voters in
    let kept = c.self.inside.kept in
    let rows : List (List ℕ) = c.self.inside.rows.items in
    let lt = awaited_below n voters kept rows c.args.self.now c.args.k c.self.view_is c.requires in
    let room = room_made n voters kept rows c.make_rows.new.rows.items c.self.invariant.1 c.in_ok-make_rows.ensures.made c.in_ok-make_rows.ensures.kept in
    let whole = room.whole in
    let at = c.from.ensures in
    let counted = c.make_rows.new.rows.ok in
    omega (arith, lt, whole, at, counted)

pub with-self-inside-requires : goal.with-self-inside-requires
with-self-inside-requires c =
    let lt = awaited_below c.self.inside.n c.self.inside.voters c.self.inside.kept c.self.inside.rows.items c.args.self.now c.args.k c.self.view_is c.requires in
    let most = c.self.invariant.0 in
    omega (arith, lt, most)

pub with-self-inside-requires-2 : goal.with-self-inside-requires-2
with-self-inside-requires-2 c =
    let lt = awaited_below c.self.inside.n c.self.inside.voters c.self.inside.kept c.self.inside.rows.items c.args.self.now c.args.k c.self.view_is c.requires in
    let most = c.self.invariant.0 in
    omega (arith, lt, most)

pub invariant_of-self-2 : goal.invariant_of-self-2
invariant_of-self-2 c =
    let n = c.self.inside.n in
    let voters = c.self.inside.voters in
    let kept = c.self.inside.kept in
    let rows : List (List ℕ) = c.self.inside.rows.items in
    let new : List (List ℕ) = c.make_rows.new.rows.items in
    let d : List ℕ = c.args.digest.now in
    let lt = awaited_below n voters kept rows c.args.self.now c.args.k c.self.view_is c.requires in
    let room = room_made n voters kept rows new c.self.invariant.1 c.in_ok-make_rows.ensures.made c.in_ok-make_rows.ensures.kept in (
      c.self.invariant.0,
      subst (λ (k : ℕ). HasVoteRows n c.with-self-inside-2.result c.with-self-inside.result (set new k d)) (sym c.from.ensures)
          (has_row n voters kept rows new room c.args.k lt c.with-self-inside-2.result c.with-self-inside.result c.with-self-inside-2.ensures c.with-self-inside.ensures d c.self.invariant.1),
    )

pub returns-clause-ok : goal.returns-clause-ok
returns-clause-ok c =
    let n = c.self.inside.n in
    let voters = c.self.inside.voters in
    let kept = c.self.inside.kept in
    let rows : List (List ℕ) = c.self.inside.rows.items in
    let new : List (List ℕ) = c.make_rows.new.rows.items in
    let d : List ℕ = c.args.digest.now in
    let lt = awaited_below n voters kept rows c.args.self.now c.args.k c.self.view_is c.requires in
    let room = room_made n voters kept rows new c.self.invariant.1 c.in_ok-make_rows.ensures.made c.in_ok-make_rows.ensures.kept in
    ap (λ (k : ℕ). votes_of n c.with-self-inside-2.result c.with-self-inside.result (set new k d)) c.from.ensures
    ∙ (one_vote n voters kept rows new room c.args.k lt c.with-self-inside-2.result c.with-self-inside.result c.with-self-inside-2.ensures c.with-self-inside.ensures d
    ∙ ap (λ (l : List (Option (List ℕ))). set l c.args.k (Some d)) c.self.view_is)
