-- Members of lists.
use Rattle.std.specs.Prelude.{◌≡◌, Bool, ◌||◌, ℕ, zero, suc, ◌<◌, ◌+◌, List, [], ◌∷◌, ◌++◌, map, refl}
use Rattle.std.proofs.Common.{◌∙◌, ap, inl, inr, arith}
use Rattle.std.specs.List.{range_with_len, list_any}
use Rattle.ritas_base.specs.History.{replicas}
use Rattle.layer_api.specs.Runs.{Has}
use Rattle.layer_api.specs.ReplicaLaws.{replica_below}

-- ---- the replicas

range_step : (from n k : ℕ) → from + n ≡ k → range_with_len from (suc n) ≡ range_with_len from n ++ k ∷ []
range_step from zero k e = let same : from ≡ k = omega (arith, e) in ap (λ (x : ℕ). x ∷ []) same
range_step from (suc n) k e =
    let next : from + 1 + n ≡ k = omega (arith, e) in ap (λ (l : List ℕ). from ∷ l) (range_step (from + 1) n k next)

pub one_replica_more : (n : ℕ) → replicas (n + 1) ≡ replicas n ++ n ∷ []
one_replica_more n = ap (range_with_len 0) (let one : n + 1 ≡ suc n = omega arith in one) ∙ range_step 0 n n (omega arith)

any_same : (p q : ℕ → Bool) (ks : List ℕ) → ((k : ℕ) → Has ks k → p k ≡ q k) → list_any p ks ≡ list_any q ks
any_same p q [] same = refl
any_same p q (k ∷ ks) same =
    ap (λ (b : Bool). b || list_any p ks) (same k (inl refl)) ∙ ap (λ (b : Bool). q k || b) (any_same p q ks (λ j there. same j (inr there)))

-- tests that are alike on the replicas find one alike
pub any_replica_same : (p q : ℕ → Bool) (n : ℕ) → ((k : ℕ) → k < n → p k ≡ q k) → list_any p (replicas n) ≡ list_any q (replicas n)
any_replica_same p q n same = any_same p q (replicas n) (λ k there. same k (replica_below n k there))

map_alike : {X : Type 0} (f g : ℕ → X) (ks : List ℕ) → ((k : ℕ) → Has ks k → f k ≡ g k) → map f ks ≡ map g ks
map_alike f g [] same = refl
map_alike f g (k ∷ ks) same = ap (λ x. x ∷ map f ks) (same k (inl refl)) ∙ ap (λ xs. g k ∷ xs) (map_alike f g ks (λ j there. same j (inr there)))

pub map_replicas_same : {X : Type 0} (f g : ℕ → X) (n : ℕ) → ((k : ℕ) → k < n → f k ≡ g k) → map f (replicas n) ≡ map g (replicas n)
map_replicas_same f g n same = map_alike f g (replicas n) (λ k there. same k (replica_below n k there))
