use Rattle.std.proofs.Common.{◌∙◌}
use Rattle.reliable_bcast.proofs.VoteRowsLaws.{count_members}
use Rattle.reliable_bcast.proofs.digest_votes.DigestVotes.count.Goals as goal

pub returns : goal.returns
returns c = c.len.ensures ∙ count_members c.args.self.now c.args.digest.now c.voters.result c.voters.ensures.few c.voters.ensures.gave
