use Rattle.std.proofs.Common.{◌≡◌, ◌≤◌, sym, subst, length, rules}
use Rattle.bracha_validation.specs.declared.tally.Tally.{Tally}
use Rattle.bracha_validation.specs.Tallies.{vote_count, IsTally}
use Rattle.binary_consensus.specs.Steps.{accepted}
use Rattle.binary_consensus.specs.Counts.{none, HeardRows, row_votes, row, heards}
use Rattle.binary_consensus.specs.declared.line.StepVotes.{StepVotes}
use Rattle.binary_consensus.proofs.Lines.{accepted_counted, accepted_few, none_past}
use Rattle.binary_consensus.proofs.line.Line.accepted.Goals as goal

pub returns-in-Some-clause-counted : goal.returns-in-Some-clause-counted
returns-in-Some-clause-counted c =
    let t = c.args.t in
    let found : c.in-Some.step.now ≡ row c.self.inside.steps.items t = search rules in
    let inside = accepted_counted c.set_of_votes.ensures.same c.self.inside.params c.self.inside.steps.items t c.self.invariant in
    subst (λ (h : HeardRows). IsTally c.in-Some.step.now.accepted (accepted h.numbers (row_votes h.rows) t)) c.self.view_is
    (subst (λ (r : StepVotes). IsTally r.accepted (accepted c.self.inside.params (row_votes (heards c.self.inside.steps.items)) t)) (sym found) inside)

pub returns-in-Some-clause-small : goal.returns-in-Some-clause-small
returns-in-Some-clause-small c =
    let t = c.args.t in
    let found : c.in-Some.step.now ≡ row c.self.inside.steps.items t = search rules in
    let few : vote_count (row c.self.inside.steps.items t).accepted ≤ c.args.self.now.numbers.n =
    subst (λ (h : HeardRows). vote_count (row c.self.inside.steps.items t).accepted ≤ h.numbers.n) c.self.view_is (accepted_few c.self.inside.params c.self.inside.steps.items t c.self.invariant) in
    subst (λ (r : StepVotes). vote_count r.accepted ≤ c.args.self.now.numbers.n) (sym found) few

pub returns-in-None-clause-counted : goal.returns-in-None-clause-counted
returns-in-None-clause-counted c =
    let t = c.args.t in
    let past : length c.self.inside.steps.items ≤ t = search rules in
    let inside = accepted_counted c.set_of_votes.ensures.same c.self.inside.params c.self.inside.steps.items t c.self.invariant in
    subst (λ (h : HeardRows). IsTally none (accepted h.numbers (row_votes h.rows) t)) c.self.view_is
    (subst (λ (x : Tally). IsTally x (accepted c.self.inside.params (row_votes (heards c.self.inside.steps.items)) t)) (none_past c.self.inside.steps.items t past) inside)
