-- A bit and a vote as bytes: what the grammar admits as an input and at a step.
use Rattle.std.specs.Prelude.{◌≡◌, ℕ, zero, suc, ◌<◌, true, nat_lt, List, [], ◌∷◌, ◌++◌, length, refl}
use Rattle.std.specs.Int.{w8, from_be_bytes}
use Rattle.std.specs.Str.{bytes_eq}
use Rattle.std.proofs.Common.{sym, ◌∙◌, ap, subst, arith}
use Rattle.std.proofs.lemmas.Bool.{ltb-true, lt-ltb}
use Rattle.ritas_base.specs.declared.slot.Slot.{Slot}
use Rattle.ritas_base.specs.declared.mode.Mode.{Mode}
use Rattle.ritas_base.specs.declared.root_service.RootService.TheVariants.{Binary}
use Rattle.ritas_base.specs.RootServices.{root_number}
use Rattle.ritas_base.specs.Numbers.{Numbers}
use Rattle.frame_codec.specs.Format.{Format, Is}
use Rattle.frame_codec.specs.Grammar.{bit, value}
use Rattle.frame_codec.specs.Inputs.{IsInput, input_format}
use Rattle.layer_api.specs.Words.{bit_byte}
use Rattle.layer_api.specs.Binary.{vote_limit, IsVote}

one_byte : (front rest v : List ℕ) → v ≡ front ++ rest → length front ≡ 1 → rest ≡ [] → (x : ℕ) × (v ≡ x ∷ []) × (front ≡ x ∷ [])
one_byte [] rest v e l r = absurd (omega (arith, l))
one_byte (x ∷ []) rest v e l r = (x, e ∙ ap (λ (ys : List ℕ). x ∷ ys) r, refl)
one_byte (x ∷ y ∷ front) rest v e l r = absurd (omega (arith, l))

byte_is : (x : ℕ) → from_be_bytes w8 (x ∷ []) ≡ x
byte_is x = omega arith

bit_vote : (step : ℕ) (v : List ℕ) → Is (bit step) v → IsVote step v
unfolding bit
bit_vote step v is =
    let front = is.0 in
    let x = one_byte front is.1 v is.2 is.3 is.5 in
    let small : nat_lt (from_be_bytes w8 front) (vote_limit step) ≡ true = is.4 in
    let here : nat_lt x.0 (vote_limit step) ≡ true = subst (λ (k : ℕ). nat_lt k (vote_limit step) ≡ true) (ap (from_be_bytes w8) x.2 ∙ byte_is x.0) small in
    record { vote = x.0; whole = x.1; small = ltb-true _ _ here }

vote_bit : (step : ℕ) (v : ℕ) → v < vote_limit step → Is (bit step) (v ∷ [])
unfolding bit
vote_bit step v small = (v ∷ [], [], refl, refl, lt-ltb v (vote_limit step) small, refl)

step_value : (p : Numbers) (root : ℕ) (s : Slot) → s.class ≡ 5 → value p root s ≡ bit s.step
unfolding value
step_value p root s five = rw five refl

-- the values of a step's slot are its votes
pub value_vote : (p : Numbers) (root : ℕ) (s : Slot) (v : List ℕ) → s.class ≡ 5 → Is (value p root s) v → IsVote s.step v
value_vote p root s v five is = bit_vote s.step v (subst (λ (f : Format). Is f v) (step_value p root s five) is)

pub vote_value : (p : Numbers) (root : ℕ) (s : Slot) (v : List ℕ) (vote : ℕ) → s.class ≡ 5 → v ≡ vote ∷ [] → vote < vote_limit s.step → Is (value p root s) v
vote_value p root s v vote five whole small =
    subst (λ (f : Format). Is f v) (sym (step_value p root s five)) (subst (λ (x : List ℕ). Is (bit s.step) x) (sym whole) (vote_bit s.step vote small))

bit_input : (p : Numbers) (root : ℕ) → root ≡ root_number Binary → input_format p root ≡ bit 1
unfolding input_format
bit_input p root binary = rw binary refl

-- an input of binary consensus is a bit's byte
pub input_bit : (p : Numbers) (mode : Mode) (v : List ℕ) → mode.root ≡ root_number Binary → IsInput p mode v → v ≡ bit_byte (bytes_eq v (1 ∷ [])) ∷ []
input_bit p mode v binary is =
    let vote = bit_vote 1 v (subst (λ (f : Format). Is f v) (bit_input p mode.root binary) is) in
    subst (λ (x : List ℕ). x ≡ bit_byte (bytes_eq x (1 ∷ [])) ∷ []) (sym vote.whole) (go vote.vote vote.small)
  where
    go : (x : ℕ) → x < 2 → x ∷ [] ≡ bit_byte (bytes_eq (x ∷ []) (1 ∷ [])) ∷ []
    go zero l = refl
    go (suc zero) l = refl
    go (suc (suc x)) l = absurd (omega (arith, l))
