-- The vector of all proposals is a vector, once n - f of them are there.
use Rattle.std.specs.Prelude.{◌≡◌, ℕ, ◌==◌, ◌<◌, ◌≤◌, ◌^◌, true, nat_lt, List, map, length, count_by, Some, is_some, refl}
use Rattle.std.specs.Int.RustNames.{count_ones}
use Rattle.std.specs.Simd.Lanes.{mask_l}
use Rattle.std.proofs.Common.{sym, ◌∙◌, subst, inl, inr, arith}
use Rattle.std.proofs.lemmas.Bool.{and_from, or_cases, eqb-true, lt-ltb, le-leb}
use Rattle.std.proofs.Math.Pow.{pow-lt}
use Rattle.std.proofs.lemmas.Simd.{mask_l-lt, ones-mask_l}
use Rattle.std.proofs.lemmas.List.{length-map}
use Rattle.std.proofs.lemmas.List.FromFn.{length-map-range_with_len}
use Rattle.ritas_base.specs.Numbers.{IsSession, wait_of}
use Rattle.ritas_base.specs.History.{replicas}
use Rattle.frame_codec.specs.Format.{Format, Is}
use Rattle.frame_codec.specs.Grammar.{class2, class3, vector, value, is_places}
use Rattle.frame_codec.specs.VectorLaws.{vector_written}
use Rattle.layer_api.specs.Words.{Word, value_at}
use Rattle.layer_api.specs.Multi.{Scope}
use Rattle.layer_api.specs.Vectors.{HasVectors}
use Rattle.vector_consensus.specs.Consensus.{prop_slot, props, present, vector_of}
pub use Rattle.layer_api.specs.RoundListLaws.{present_length, present_all, prop_value}

-- a value of class 3 is a vector
pub vector_class : (at : Scope) → HasVectors at → class3 at.numbers at.root ≡ vector at.numbers at.root
unfolding class3
vector_class at has =
    elim (or_cases (at.root == 5) (at.root == 6) has) [
      | inl e ↦ subst (λ (r : ℕ). class3 at.numbers r ≡ vector at.numbers r) (sym (eqb-true at.root 5 e)) refl
      | inr e ↦ subst (λ (r : ℕ). class3 at.numbers r ≡ vector at.numbers r) (sym (eqb-true at.root 6 e)) refl
    ]

-- the proposals there are in the grammar
abbrev pub AreGoodProposals : Scope → List Word → Type 0
AreGoodProposals at h = (k : ℕ) (v : List ℕ) → value_at h (prop_slot at k) ≡ Some v → Is (value at.numbers at.root (prop_slot at k)) v

-- enough of them make a vector
pub vector_is_good : (at : Scope) → IsSession at.numbers → HasVectors at → (h : List Word) → AreGoodProposals at h → wait_of at.numbers ≤ count_by is_some (props at h)
    → Is (class3 at.numbers at.root) (vector_of at h)
vector_is_good at session has h good many =
    let hs = props at h in
    let mask = mask_l (map is_some hs) in
    let most = session.most in
    let size : length (map is_some hs) ≡ at.numbers.n = length-map hs is_some ∙ length-map-range_with_len (λ k. value_at h (prop_slot at k)) 0 at.numbers.n in
    let below : mask < 2 ^ at.numbers.n = subst (λ (k : ℕ). mask < 2 ^ k) size (mask_l-lt (map is_some hs)) in
    let least : at.numbers.n < 32 = omega (arith, most) in
    let more : 2 ^ at.numbers.n < 2 ^ 32 = pow-lt least in
    let ones : count_ones mask ≡ count_by is_some hs = ones-mask_l is_some hs in
    let enough : wait_of at.numbers ≤ count_ones mask = omega (arith, many, ones) in
    let places : is_places at.numbers.n (wait_of at.numbers) mask ≡ true =
    and_from (nat_lt mask (2 ^ at.numbers.n)) _ (lt-ltb mask (2 ^ at.numbers.n) below) (le-leb (wait_of at.numbers) (count_ones mask) enough) in
    subst (λ (f : Format). Is f (vector_of at h)) (sym (vector_class at has))
    (vector_written at.numbers at.root mask (present hs) (omega (arith, below, more)) places (present_length hs ∙ sym ones)
    (present_all (Is (class2 at.numbers at.root)) (λ k. value_at h (prop_slot at k))
    (λ k v q. subst (λ (f : Format). Is f v) (prop_value at.numbers at.root at k) (good k v q)) (replicas at.numbers.n)))
