use Rattle.std.proofs.Common.{◌≡◌, ℕ, Bool, sym, ◌∙◌, ap, subst, List, Some, None, set, refl, [], ◌∷◌, ◌++◌}
use Rattle.std.specs.Prelude.{position, Option, ◌||◌, ◌==◌}
use Rattle.std.specs.Str.{bytes_eq}
use Rattle.std.proofs.lemmas.List.Quantifiers.{position-Some}
use Rattle.std.proofs.lemmas.Slice.Eq.{bytes_eq-Decides}
use Rattle.reliable_bcast.specs.declared.votes.Ballot.{Ballot}
use Rattle.reliable_bcast.specs.Tally.{votes_in, IsBallotTally}
use Rattle.reliable_bcast.proofs.TallyLaws.{awaited_is, voted_at, voted_push, votes_changed, none_found, member_of_none, Voted}
use Rattle.reliable_bcast.proofs.votes.Votes.vote.Goals as goal

is_none : (o : Option ℕ) → ((x : ℕ) → o ≡ Some x → ⊥) → o ≡ None
is_none None f = refl
is_none (Some x) f = absurd (f x refl)

pub with-ballot-requires : goal.with-ballot-requires
with-ballot-requires c = (awaited_is c.self.inside.n c.self.inside.ballots.items c.args.self.now c.args.k c.self.view_is c.self.invariant.0 c.requires).fits

pub with-requires : goal.with-requires
with-requires c = (awaited_is c.self.inside.n c.self.inside.ballots.items c.args.self.now c.args.k c.self.view_is c.self.invariant.0 c.requires).fits

set_one : (c : goal.After-self-1) → Voted c.self.inside.n c.self.inside.ballots.items (set c.self.inside.ballots.items c.in-Some.i (record { value = c.index_mut-ballot.result.now.value; voters = c.with-ballot.result })) c.args.k c.args.value.now
set_one c =
    let n = c.self.inside.n in
    let bs = c.self.inside.ballots.items in
    let m = c.args.value.now in
    let b = c.index_mut-ballot.result.now in
    let small = awaited_is n bs c.args.self.now c.args.k c.self.view_is c.self.invariant.0 c.requires in
    let place = position-Some (λ (x : Ballot). bytes_eq x.value m) bs c.in-Some.i b
    (ap (λ (l : List Ballot). position (λ (x : Ballot). bytes_eq x.value m) l) (sym c.deref.ensures.value) ∙ (sym c.place_of.ensures ∙ c.in-Some.is)) in
    voted_at n bs c.in-Some.i b c.with-ballot.result c.args.k m place.0 small.within c.index_mut-ballot.ensures.value
    ((bytes_eq-Decides b.value m).0 (ap (λ (x : Ballot). bytes_eq x.value m) c.index_mut-ballot.ensures.value ∙ place.1))
    c.with-ballot.ensures small.none c.self.invariant.1

pub invariant_of-self : goal.invariant_of-self
invariant_of-self c = (c.self.invariant.0, (set_one c).tally)

pub returns-in-Some-clause-ok : goal.returns-in-Some-clause-ok
returns-in-Some-clause-ok c =
    let small = awaited_is c.self.inside.n c.self.inside.ballots.items c.args.self.now c.args.k c.self.view_is c.self.invariant.0 c.requires in
    votes_changed c.self.inside.n c.self.inside.ballots.items _ c.args.k c.args.value.now small.within (set_one c).votes
    ∙ ap (λ (l : List (Option (List ℕ))). set l c.args.k (Some c.args.value.now)) c.self.view_is

push_one : (c : goal.In_ok-push) → Voted c.self.inside.n c.self.inside.ballots.items (c.self.inside.ballots.items ++ record { value = c.args.value.now; voters = c.with.result } ∷ []) c.args.k c.args.value.now
push_one c =
    let n = c.self.inside.n in
    let bs = c.self.inside.ballots.items in
    let m = c.args.value.now in
    let small = awaited_is n bs c.args.self.now c.args.k c.self.view_is c.self.invariant.0 c.requires in
    voted_push n bs m c.with.result c.args.k small.within (λ j. c.with.ensures j ∙ ap (λ (x : Bool). x || (j == c.args.k)) (c.empty.ensures j ∙ sym (member_of_none j)))
    small.none
    (none_found bs m (ap (λ (l : List Ballot). position (λ (x : Ballot). bytes_eq x.value m) l) (sym c.deref.ensures.value) ∙ (sym c.place_of.ensures ∙ is_none c.place_of.result c.in_default.not-Some)))
    c.self.invariant.1

pushed : (c : goal.In_ok-push) → c.push.new.self.items ≡ c.self.inside.ballots.items ++ record { value = c.args.value.now; voters = c.with.result } ∷ []
pushed c =
    let ballot : Ballot = record { value = c.in_ok-value.value; voters = c.with.result } in
    c.in_ok-push.ensures.items
    ∙ (ap (λ (l : List Ballot). l ++ ballot ∷ []) c.reserve_exact.ensures.items
    ∙ ap (λ (m : List ℕ). let b : Ballot = record { value = m; voters = c.with.result } in c.self.inside.ballots.items ++ b ∷ []) c.in_ok-value.ensures)

pub invariant_of-self-2 : goal.invariant_of-self-2
invariant_of-self-2 c = (c.self.invariant.0, subst (λ (l : List Ballot). IsBallotTally c.self.inside.n l) (sym (pushed c)) (push_one c).tally)

pub returns-clause-ok : goal.returns-clause-ok
returns-clause-ok c =
    let small = awaited_is c.self.inside.n c.self.inside.ballots.items c.args.self.now c.args.k c.self.view_is c.self.invariant.0 c.requires in
    ap (λ (l : List Ballot). votes_in c.self.inside.n l) (pushed c)
    ∙ (votes_changed c.self.inside.n c.self.inside.ballots.items _ c.args.k c.args.value.now small.within (push_one c).votes
    ∙ ap (λ (l : List (Option (List ℕ))). set l c.args.k (Some c.args.value.now)) c.self.view_is)
