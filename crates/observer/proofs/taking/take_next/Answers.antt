use Rattle.std.proofs.Common.{◌≡◌, ℕ, ◌+◌, ◌<◌, take, drop, slice_index_or, Some, None, sym, ◌∙◌, ap, subst, arith}
use Rattle.std.specs.List.{position}
use Rattle.std.proofs.lemmas.List.{get_or-take, get_or-drop, length-take}
use Rattle.observer.specs.Giving.{is_backed_gift}
use Rattle.observer.specs.Places.{first_place, gifts_in}
use Rattle.observer.proofs.Backing.{first_is, backed_first, backed_none, first_there, if_none}
use Rattle.observer.proofs.taking.take_next.Goals as goal

pub returns-in_default-clause-row : goal.returns-in_default-clause-row
returns-in_default-clause-row c =
    let none : position (is_backed_gift c.args.f (gifts_in c.args.n c.args.len c.args.places.now)) (gifts_in c.args.n c.args.len c.args.places.now) ≡ None =
    subst (λ (x : ℕ). position (is_backed_gift c.args.f (take c.args.n (drop x c.args.places.now))) (take c.args.n (drop x c.args.places.now)) ≡ None) c.first_place-first.ensures.value (sym c.in_default.ensures) in
    sym (backed_none c.args.f (gifts_in c.args.n c.args.len c.args.places.now) none)

found : (c : goal.After-places-2-1) → position (is_backed_gift c.args.f (gifts_in c.args.n c.args.len c.args.places.now)) (gifts_in c.args.n c.args.len c.args.places.now) ≡ Some c.in-Some.k
found c =
    subst (λ (x : ℕ). position (is_backed_gift c.args.f (take c.args.n (drop x c.args.places.now))) (take c.args.n (drop x c.args.places.now)) ≡ Some c.in-Some.k) c.first_place-first.ensures.value (sym c.in-Some.ensures)

taken : (c : goal.After-places-2-1) → c.take_place-row.result ≡ slice_index_or (gifts_in c.args.n c.args.len c.args.places.now) c.in-Some.k None
taken c =
    let first = first_is c.args.f (gifts_in c.args.n c.args.len c.args.places.now) c.in-Some.k (found c) in
    let few : c.in-Some.k < c.args.n = omega (arith, first.within, length-take c.args.n (drop (first_place c.args.len) c.args.places.now)) in
    c.take_place-row.ensures.value
    ∙ (ap (λ (x : ℕ). slice_index_or c.args.places.now (x + c.in-Some.k) None) c.first_place-first.ensures.value
    ∙ sym (get_or-take c.args.n (drop (first_place c.args.len) c.args.places.now) c.in-Some.k None few ∙ get_or-drop (first_place c.args.len) c.args.places.now c.in-Some.k None))

pub returns-clause-row : goal.returns-clause-row
returns-clause-row c = taken c ∙ sym (backed_first c.args.f (gifts_in c.args.n c.args.len c.args.places.now) c.in-Some.k (found c))

pub returns-clause-none : goal.returns-clause-none
returns-clause-none c =
    if_none c.take_place-row.result
    (λ none. absurd (first_there c.args.f (gifts_in c.args.n c.args.len c.args.places.now) c.in-Some.k (found c) (sym (taken c) ∙ none)))
