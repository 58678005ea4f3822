-- Who waits, where the first one comes.
use Rattle.std.proofs.Common.{◌≡◌, ℕ, Bool, true, false, not, ◌&&◌, ◌==◌, List, length, filter, [], ◌∷◌, Option, Some, refl, sym, ◌∙◌, ap, ap₂, arith, nat_lt, ◌<◌, cond}
use Rattle.std.specs.declared.cmp.Ordering.{Ordering}
use Rattle.std.specs.declared.cmp.Ordering.TheVariants.{Less, Equal, Greater}
use Rattle.std.specs.Ordering.{is_eq, nat_cmp, ordering_then}
use Rattle.std.proofs.lemmas.Bool.{eqb-true, ne_eqb, ltb-true, and_parts}
use Rattle.node_loop.specs.declared.waiting.Asked.{Asked}
use Rattle.node_loop.specs.Waiting.{is_same_request, is_conn, without_conn}
use Rattle.node_loop.specs.WaitersStanding.{asked_cmp}

-- requests that agree in all fields are one
pub same_asked : (a b : Asked) → is_same_request a b ≡ true → a ≡ b
same_asked a b e =
    let first = and_parts (a.at == b.at) (a.client == b.client && a.request == b.request) e in
    let rest = and_parts (a.client == b.client) (a.request == b.request) first.1 in
    ap (λ x. record { at = x; client = a.client; request = a.request }) (eqb-true a.at b.at first.0)
    ∙ ap₂ (λ x y. record { at = b.at; client = x; request = y }) (eqb-true a.client b.client rest.0) (eqb-true a.request b.request rest.1)

-- the order of requests tells them apart
pub then_eq : (r s : Ordering) → is_eq (ordering_then r s) ≡ (is_eq r && is_eq s)
then_eq Less s = refl
then_eq Equal s = refl
then_eq Greater s = refl

by_tests : (below same : Bool) → (below ≡ true → same ≡ false) → is_eq (cond below Less (cond same Equal Greater)) ≡ same
by_tests true true apart = sym (apart refl)
by_tests true false apart = refl
by_tests false true apart = refl
by_tests false false apart = refl

pub nat_eq_is : (x y : ℕ) → is_eq (nat_cmp x y) ≡ (x == y)
nat_eq_is x y = by_tests (nat_lt x y) (x == y) (λ lt. let below : x < y = ltb-true x y lt in ne_eqb x y (λ e. omega arith))

pub at_same : (a b : Asked) → is_eq (asked_cmp a b) ≡ is_same_request a b
at_same a b =
    then_eq (nat_cmp a.at b.at) (ordering_then (nat_cmp a.client b.client) (nat_cmp a.request b.request))
    ∙ ap₂ (λ x y. x && y) (nat_eq_is a.at b.at)
    (then_eq (nat_cmp a.client b.client) (nat_cmp a.request b.request) ∙ ap₂ (λ x y. x && y) (nat_eq_is a.client b.client) (nat_eq_is a.request b.request))

-- ---- a connection is gone

-- where it isn't one alone, the others stay
pub not_one : (conn : ℕ) (conns : List (Option ℕ)) → (length conns ≡ 1 → ⊥) → without_conn conn conns ≡ filter (λ c. not (is_conn (Some conn) c)) conns
not_one conn [] many = refl
not_one conn (c ∷ []) many = absurd (many refl)
not_one conn (c ∷ d ∷ conns) many = refl
