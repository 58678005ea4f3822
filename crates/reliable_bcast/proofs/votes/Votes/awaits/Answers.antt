use Rattle.std.proofs.Common.{◌∙◌, sym, ap, List}
use Rattle.std.specs.Prelude.{not}
use Rattle.std.specs.List.{list_any}
use Rattle.std.proofs.lemmas.Bool.{le-ltb}
use Rattle.ritas_base.specs.Members.{has_member}
use Rattle.reliable_bcast.specs.declared.votes.Ballot.{Ballot}
use Rattle.reliable_bcast.proofs.TallyLaws.{awaited_within, awaited_outside}
use Rattle.reliable_bcast.proofs.votes.Votes.awaits.Goals as goal

pub returns-then-k-self : goal.returns-then-k-self
returns-then-k-self c =
    ap not (c.is_voter.ensures ∙ ap (λ (l : List Ballot). list_any (λ b. has_member b.voters c.args.k) l) c.deref.ensures.value)
    ∙ sym (awaited_within c.self.inside.n c.self.inside.ballots.items c.args.self.now c.args.k c.self.view_is c.if-k-self.true)

pub returns-else-k-self : goal.returns-else-k-self
returns-else-k-self c =
    le-ltb c.args.k c.self.inside.n c.if-k-self.false
    ∙ sym (awaited_outside c.self.inside.n c.self.inside.ballots.items c.args.self.now c.args.k c.self.view_is c.if-k-self.false)
