use Rattle.std.proofs.Common.{◌∙◌, sym, ap}
use Rattle.std.specs.Prelude.{not}
use Rattle.std.proofs.lemmas.Bool.{le-ltb}
use Rattle.reliable_bcast.proofs.VoteRowsLaws.{awaited_row, no_row}
use Rattle.reliable_bcast.proofs.digest_votes.DigestVotes.awaits.Goals as goal

pub returns-then-k-self : goal.returns-then-k-self
returns-then-k-self c =
    ap not c.has.ensures ∙ sym (awaited_row c.self.inside.n c.self.inside.voters c.self.inside.kept c.self.inside.rows.items c.args.self.now c.args.k c.self.view_is c.if-k-self.true)

pub returns-else-k-self : goal.returns-else-k-self
returns-else-k-self c =
    le-ltb c.args.k c.self.inside.n c.if-k-self.false
    ∙ sym (no_row c.self.inside.n c.self.inside.voters c.self.inside.kept c.self.inside.rows.items c.args.self.now c.args.k c.self.view_is c.if-k-self.false)
