use Rattle.std.proofs.Common.{◌≡◌, ◌+◌, List, ◌∷◌, Option, refl, sym, ◌∙◌, ap, subst, arith}
use Rattle.std.proofs.lemmas.List.{with_items_is}
use Rattle.std.specs.Vec.{with_items}
use Rattle.command_log.specs.Rows.{Row}
use Rattle.observer.specs.Giving.{backed, Passed}
use Rattle.observer.specs.Places.{Window, gifts_in, first_place, IsCleared, StandsForSteps}
use Rattle.observer.proofs.Taken.{cleared_as}
use Rattle.observer.proofs.Giving.{next_is, none_at_last, stands_passed}
use Rattle.observer.proofs.given.GivenRows.next.Goals as goal

pub returns-then-len-clause-row : goal.returns-then-len-clause-row
returns-then-len-clause-row c = λ p first h stands.
    let at = ap (λ (w : Window). w.len) c.self.view_is in
    sym (none_at_last p first h c.args.self.now stands (omega (arith, at, c.if-len.true)))

pub returns-in_default-clause-row : goal.returns-in_default-clause-row
returns-in_default-clause-row c = λ p first h stands.
    let w : Window = record { numbers = record { n = c.self.inside.n; f = c.self.inside.f }; len = c.self.inside.len; places = c.self.inside.places.items } in
    let before : StandsForSteps p first h w = subst (λ (v : Window). StandsForSteps p first h v) (sym c.self.view_is) stands in
    c.in_default.ensures.row
    ∙ (ap (λ l. backed w.numbers.f (gifts_in w.numbers.n w.len l)) c.as_mut_slice.ensures.value ∙ next_is p first h w before c.self.invariant.all c.self.invariant.few)

pub returns-clause-row : goal.returns-clause-row
returns-clause-row c = λ p first h stands.
    let w : Window = record { numbers = record { n = c.self.inside.n; f = c.self.inside.f }; len = c.self.inside.len; places = c.self.inside.places.items } in
    let before : StandsForSteps p first h w = subst (λ (v : Window). StandsForSteps p first h v) (sym c.self.view_is) stands in
    c.in-Some.ensures.row
    ∙ (ap (λ l. backed w.numbers.f (gifts_in w.numbers.n w.len l)) c.as_mut_slice.ensures.value ∙ next_is p first h w before c.self.invariant.all c.self.invariant.few)

pub returns-clause-some : goal.returns-clause-some
returns-clause-some c = λ p first h stands.
    let w : Window = record { numbers = record { n = c.self.inside.n; f = c.self.inside.f }; len = c.self.inside.len; places = c.self.inside.places.items } in
    let before : StandsForSteps p first h w = subst (λ (v : Window). StandsForSteps p first h v) (sym c.self.view_is) stands in
    let cleared : IsCleared (first_place w.len) w.places c.take_next.new.places =
    cleared_as (first_place w.len) (first_place w.len) c.as_mut_slice.result.now w.places c.take_next.new.places refl c.as_mut_slice.ensures.value c.in-Some.ensures.some in
    let left : (with_items c.self.inside.places c.take_next.new.places).items ≡ c.take_next.new.places =
    with_items_is c.self.inside.places c.take_next.new.places (c.take_next.auto.places ∙ c.as_mut_slice.ensures.len) in
    subst (λ (l : List (Option Row)). StandsForSteps p first (Passed ∷ h) (record w { len = w.len + 1; places = l })) (sym left)
    (stands_passed p first h w c.take_next.new.places before cleared)
