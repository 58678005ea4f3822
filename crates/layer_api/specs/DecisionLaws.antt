-- What a multi-valued or a vector consensus decided, read back from its decision.
use Rattle.std.specs.Prelude.{◌≡◌, ℕ, Bool, true, false, List, Option, Some, None, option_map, if◌then◌else◌, ◌⊎◌, refl}
use Rattle.std.proofs.Common.{◌∙◌, ap, ap₂, inl, inr}
use Rattle.layer_api.specs.Service.{Decision, Value, Spent, LastVector, value_decision, vector_decision, vector_with}

pub decided_value : (o : Option (Option (List ℕ))) (d : Decision) → option_map value_decision o ≡ Some d → (x : Option (List ℕ)) × (o ≡ Some x) × (d ≡ value_decision x)
decided_value None d q = absurd cc
decided_value (Some x) d q = (x, refl, cc)

-- decisions that are equal are of one value
pub same_value : (x y : Option (List ℕ)) → value_decision x ≡ value_decision y → x ≡ y
same_value None None e = refl
same_value None (Some v) e = absurd cc
same_value (Some v) None e = absurd cc
same_value (Some v) (Some u) e = cc

pub decided_vector : (o : Option (List ℕ)) (is_spent : Bool) (d : Decision) → vector_decision o is_spent ≡ Some d
    → ((v : List ℕ) × (o ≡ Some v) × (d ≡ Value v)) ⊎ ((is_spent ≡ true) × (d ≡ Spent))
decided_vector (Some v) is_spent d e = inl (v, refl, cc)
decided_vector None true d e = inr (refl, cc)
decided_vector None false d e = absurd cc

-- a value is a vector, and not that the attempts are spent
pub vector_is : (o : Option (List ℕ)) (is_spent : Bool) (v : List ℕ) → vector_decision o is_spent ≡ Some (Value v) → o ≡ Some v
vector_is (Some u) is_spent v e = cc
vector_is None true v e = absurd cc
vector_is None false v e = absurd cc

-- it stays where the vector does, and where it stays spent with no vector
pub vector_stays : (o u : Option (List ℕ)) (s t : Bool) (d : Decision) → ((v : List ℕ) → o ≡ Some v → u ≡ Some v) → (s ≡ true → (t ≡ true) × (u ≡ None))
    → vector_decision o s ≡ Some d → vector_decision u t ≡ Some d
vector_stays (Some v) u s t d stays spent q = ap (λ (x : Option (List ℕ)). vector_decision x t) (stays v refl) ∙ q
vector_stays None u true t d stays spent q = let e = spent refl in ap₂ vector_decision e.1 e.0 ∙ q
vector_stays None u false t d stays spent q = absurd cc

-- the parts of a last vector
pub vector_parts : (a : ℕ) (o : Option ℕ) (u : Option (List ℕ)) (x : LastVector) → vector_with a o u ≡ Some x
    → (k : ℕ) × (v : List ℕ) × (o ≡ Some k) × (u ≡ Some v) × (x ≡ record { round = a; attempt = k; value = v })
vector_parts a None u x q = absurd cc
vector_parts a (Some k) None x q = absurd cc
vector_parts a (Some k) (Some v) x q = (k, v, refl, refl, cc)

-- what a test lets through
pub if_so : {X : Type 0} (b : Bool) (o : Option X) (x : X) → (if b then o else None) ≡ Some x → o ≡ Some x
if_so true o x q = q
if_so false o x q = absurd cc

pub if_stays : {X : Type 0} (b : Bool) (o u : Option X) (x : X) → ((y : X) → o ≡ Some y → u ≡ Some y) → (if b then o else None) ≡ Some x → (if b then u else None) ≡ Some x
if_stays true o u x stays q = stays x q
if_stays false o u x stays q = absurd cc
