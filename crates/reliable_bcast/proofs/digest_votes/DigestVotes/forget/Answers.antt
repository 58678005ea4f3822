use Rattle.std.proofs.Common.{◌∙◌, ap, List, ℕ}
use Rattle.std.specs.Prelude.{Option}
use Rattle.reliable_bcast.specs.VoteRows.{votes_of, without_values}
use Rattle.reliable_bcast.proofs.VoteRowsLaws.{all_dropped}
use Rattle.reliable_bcast.proofs.digest_votes.DigestVotes.forget.Goals as goal

pub returns : goal.returns
returns c =
    let n = c.self.inside.n in
    let voters = c.self.inside.voters in
    let none = c.empty-self-inside.result in
    ap (λ (rows : List (List ℕ)). votes_of n voters none rows) c.new.ensures.items
    ∙ (all_dropped n voters c.self.inside.kept c.self.inside.rows.items none c.empty-self-inside.ensures
    ∙ ap (λ (l : List (Option (List ℕ))). without_values l) c.self.view_is)
