-- Two identifiers compare alike exactly where they are one.
use Rattle.std.specs.Prelude.{◌≡◌, ℕ, Bool, true, false, ◌==◌, ◌&&◌, ◌||◌, cond, not, refl}
use Rattle.std.proofs.Common.{sym, ◌∙◌, ap}
use Rattle.std.specs.Ordering.{nat_cmp, is_eq}
use Rattle.std.specs.BTreeMap.{is_at}
use Rattle.std.specs.Cmp.{IsTotalOrder, nat_cmp_total, then_total, on_total}
use Rattle.std.proofs.lemmas.Map.Lookups.{CmpEqualImpliesEq, exact_pairs, exact_unsigned}
use Rattle.std.proofs.lemmas.Cmp.{tied_itself}
use Rattle.std.proofs.lemmas.Bool.{eqb-true, eq-eqb, and_parts, and_from}
use Rattle.ritas_base.specs.declared.id.Id.{Id}
use Rattle.ritas_base.specs.SlotOrder.{equal_from}
use Rattle.ordered_rounds.specs.Early.{id_cmp}

pub ids_total : IsTotalOrder id_cmp
ids_total = then_total (on_total (λ i. i.origin) nat_cmp_total) (on_total (λ i. i.num) nat_cmp_total)

abbrev as_pair : Id → ℕ × ℕ
as_pair i = (i.origin, i.num)

abbrev as_id : ℕ × ℕ → Id
as_id p = record { origin = p.0; num = p.1 }

pub exact_ids : CmpEqualImpliesEq id_cmp
exact_ids a b h = ap as_id (exact_pairs nat_cmp nat_cmp exact_unsigned exact_unsigned (as_pair a) (as_pair b) h)

pub same_test : (a b : Bool) → (a ≡ true → b ≡ true) → (b ≡ true → a ≡ true) → a ≡ b
same_test true b to from = sym (to refl)
same_test false true to from = from refl
same_test false false to from = refl

pub is_id : (o k q j : ℕ) → is_at (id_cmp (as_id (o, k))) (as_id (q, j)) ≡ (q == o && j == k)
is_id o k q j =
    same_test _ _
    (λ alike.
    let same = exact_ids (as_id (o, k)) (as_id (q, j)) (equal_from _ alike) in
    and_from (q == o) (j == k) (eq-eqb q o (sym (ap (λ (i : Id). i.origin) same))) (eq-eqb j k (sym (ap (λ (i : Id). i.num) same))))
    (λ both.
    let parts = and_parts (q == o) (j == k) both in
    let origin : o ≡ q = sym (eqb-true q o parts.0) in
    let num : k ≡ j = sym (eqb-true j k parts.1) in
    let same : id_cmp (as_id (o, k)) (as_id (q, j)) ≡ id_cmp (as_id (o, k)) (as_id (o, k)) = cc in
    ap is_eq (same ∙ tied_itself ids_total (as_id (o, k))))

true_or : (b x : Bool) → cond b true x ≡ (b || x)
true_or true x = refl
true_or false x = refl

false_and : (b x : Bool) → cond b false x ≡ (not b && x)
false_and true x = refl
false_and false x = refl

-- with a command more
pub with_id : (o k q j : ℕ) (before : Bool) → cond (is_at (id_cmp (as_id (o, k))) (as_id (q, j))) true before ≡ (q == o && j == k || before)
with_id o k q j before = ap (λ (b : Bool). cond b true before) (is_id o k q j) ∙ true_or (q == o && j == k) before

-- with a command less
pub without_id : (o k q j : ℕ) (before : Bool) → cond (is_at (id_cmp (as_id (o, k))) (as_id (q, j))) false before ≡ (not (q == o && j == k) && before)
without_id o k q j before = ap (λ (b : Bool). cond b false before) (is_id o k q j) ∙ false_and (q == o && j == k) before
