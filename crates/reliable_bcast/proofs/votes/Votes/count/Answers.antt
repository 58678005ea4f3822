use Rattle.std.proofs.Common.{◌∙◌, sym, ap, List}
use Rattle.std.specs.Prelude.{Option, count_by, position}
use Rattle.std.specs.Str.{bytes_eq}
use Rattle.ritas_base.specs.History.{is_value}
use Rattle.reliable_bcast.specs.declared.votes.Ballot.{Ballot}
use Rattle.reliable_bcast.proofs.TallyLaws.{count_found, count_nowhere}
use Rattle.reliable_bcast.proofs.votes.Votes.count.Goals as goal

pub returns-in-Some : goal.returns-in-Some
returns-in-Some c =
    let m = c.args.value.now in
    c.len.ensures
    ∙ (sym (count_found c.self.inside.n c.self.inside.ballots.items m c.in-Some.i c.index.result.now c.self.invariant.0 c.self.invariant.1
    (ap (λ (l : List Ballot). position (λ (b : Ballot). bytes_eq b.value m) l) (sym c.deref.ensures.value) ∙ (sym c.place_of.ensures ∙ c.in-Some.is))
    c.index.ensures)
    ∙ ap (λ (l : List (Option (List _))). count_by (is_value m) l) c.self.view_is)

pub returns-in-None : goal.returns-in-None
returns-in-None c =
    let m = c.args.value.now in
    sym (count_nowhere c.self.inside.n c.self.inside.ballots.items m c.self.invariant.0 c.self.invariant.1
    (ap (λ (l : List Ballot). position (λ (b : Ballot). bytes_eq b.value m) l) (sym c.deref.ensures.value) ∙ (sym c.place_of.ensures ∙ c.in-None.is)))
    ∙ ap (λ (l : List (Option (List _))). count_by (is_value m) l) c.self.view_is
