use Rattle.std.proofs.Common.{◌≡◌, ◌+◌, ◌-◌, ◌^◌, ◌<◌, ℕ, Option, Some, None, SomeIff, IfNone, IsSome, Contains, arith, refl, subst}
use Rattle.std.specs.BTreeMap.{get, keys}
use Rattle.std.specs.Ordering.{nat_cmp}
use Rattle.std.specs.Cmp.{nat_cmp_total}
use Rattle.std.proofs.lemmas.Map.Lookups.{exact_unsigned}
use Rattle.std.proofs.lemmas.Map.Views.{btree_map_contains_key_iff}
use Rattle.link_resume.proofs.lane.place_behind.Goals as goal

-- no place is left behind the greatest alone
none_left : (r : Option ℕ) (last : ℕ) (P : Type 0) → last < 2 ^ 128 → SomeIff r (last + 1 < 2 ^ 128) (last + 1) → (last ≡ 2 ^ 128 - 1 → P) → IfNone r P
none_left (Some place) last P fits is given = tt
none_left None last P fits is given = given (omega (arith, fits, is))

pub returns-in-Some-clause-none : goal.returns-in-Some-clause-none
returns-in-Some-clause-none c =
    let last = c.in-Some.last.now in
    let found : IsSome (get nat_cmp c.args.kept.now last) = rw c.in-Some.ensures.value refl in
    let among : Contains (keys c.args.kept.now) last = (btree_map_contains_key_iff nat_cmp_total exact_unsigned c.args.kept.now last).0 found in
    none_left c.checked_add.result last (Contains (keys c.args.kept.now) (2 ^ 128 - 1)) (omega arith) c.checked_add.ensures
    (λ same. subst (λ (x : ℕ). Contains (keys c.args.kept.now) x) same among)
