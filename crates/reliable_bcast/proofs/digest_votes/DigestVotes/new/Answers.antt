use Rattle.std.proofs.Common.{ℕ, sym, ◌∙◌, List, None}
use Rattle.std.specs.Prelude.{Option, replicate}
use Rattle.std.proofs.lemmas.Bool.{cond-false}
use Rattle.std.proofs.lemmas.List.{length-replicate, get_or-replicate}
use Rattle.std.proofs.lemmas.List.FromFn.{fill_by_all}
use Rattle.reliable_bcast.specs.VoteRows.{vote_in}
use Rattle.reliable_bcast.proofs.digest_votes.DigestVotes.new.Goals as goal

pub returns : goal.returns
returns c =
    let nobody : Option (List ℕ) = None in
    sym (fill_by_all (vote_in c.empty.result c.empty-2.result c.new.result.items) (replicate c.args.n nobody) c.args.n nobody (length-replicate c.args.n nobody)
    (λ k lt. get_or-replicate c.args.n k nobody nobody lt ∙ sym (cond-false _ _ _ (c.empty.ensures k))))
