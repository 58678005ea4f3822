-- What a call that was without memory leaves of the replicas of a world.
use Rattle.std.proofs.Common.{◌≡◌, ℕ, zero, suc, ◌<◌, ◌≤◌, true, false, List, [], ◌∷◌, length, Option, Some, None, Result, Ok, Err, Bor, ◌∙◌, ap, ap₂, sym, subst, slice_index_or, slice_set, inl, inr, refl, arith}
use Rattle.std.specs.Result.{IsErr}
use Rattle.std.specs.List.{slice_get}
use Rattle.std.specs.Option.{MatchOption, option_copied}
use Rattle.std.proofs.lemmas.Bool.Decides.{eqb_tells}
use Rattle.std.proofs.lemmas.List.{length-set, get_or-set_same}
use Rattle.std.proofs.lemmas.Option.{slice_get_within, slice_get-get_or, same_Some}
use Rattle.ritas_base.specs.declared.bytes.Mem.{Mem}
use Rattle.keyed_channel.specs.KeyRow.{KeyRow}
use Rattle.ritas_core.specs.Machine.{CoreState}
use Rattle.ritas_core.specs.Stands.{Meaning}
use Rattle.replica.specs.declared.replica.Replica.{Replica}
use Rattle.world_model.specs.declared.happened.Happened.{Happened}
use Rattle.world_model.specs.World.{Setting, CallAt, after_call}
use Rattle.world_model.specs.Stands.{StandsAt, ReplicasStand, IsLeft, LeftAt, ReplicasLeft}
use Rattle.world_model.specs.Steps.{HappensOr}

-- ---- there is no correct replica past the last place
pub none_past : (w : Setting) (at : ℕ) → ((i : ℕ) → w.is_correct i ≡ true → i < w.numbers.n) → w.numbers.n ≤ at → w.is_correct at ≡ false
none_past w at within past =
    elim (w.is_correct at) as (λ b. w.is_correct at ≡ b → w.is_correct at ≡ false) [
      | true ↦ λ right. let below = within at right in absurd (omega arith)
      | false ↦ λ faulty. faulty
    ] refl

-- ---- a place that is written
pub get_set_same : {X : Type 0} (xs : List X) (i : ℕ) (x y : X) → slice_get xs i ≡ Some x → slice_get (slice_set xs i y) i ≡ Some y
get_set_same xs i x y e =
    let within : i < length xs = slice_get_within xs i x e in
    let long : length (slice_set xs i y) ≡ length xs = length-set xs i y in
    slice_get-get_or (slice_set xs i y) i y (omega arith) ∙ ap (λ z. Some z) (get_or-set_same xs i y y within)

pub get_set_other : {X : Type 0} (xs : List X) (i k : ℕ) (y : X) → (k ≡ i → ⊥) → slice_get (slice_set xs i y) k ≡ slice_get xs k
get_set_other [] i k y other = refl
get_set_other (x ∷ xs) zero zero y other = absurd (other refl)
get_set_other (x ∷ xs) zero (suc k) y other = refl
get_set_other (x ∷ xs) (suc i) zero y other = refl
get_set_other (x ∷ xs) (suc i) (suc k) y other = get_set_other xs i k y (λ e. other (ap suc e))

-- ---- what is left

before_at : {S E C : Type 0} (m : Meaning S E C KeyRow) (w : Setting) (before after : ℕ → CoreState) (c : Option CallAt) (i : ℕ) (place : Option (Replica S E C)) →
    StandsAt m w before i place → LeftAt m w before after c i place
before_at m w before after c i None stands = stands
before_at m w before after c i (Some rep) stands = inl stands

after_at : {S E C : Type 0} (m : Meaning S E C KeyRow) (w : Setting) (before after : ℕ → CoreState) (c : Option CallAt) (i : ℕ) (place : Option (Replica S E C)) →
    StandsAt m w after i place → LeftAt m w before after c i place
after_at m w before after c i None stands = stands
after_at m w before after c i (Some rep) stands = inr (inl stands)

-- the call didn't come about
pub left_before : {S E C : Type 0} (m : Meaning S E C KeyRow) (w : Setting) (before after : ℕ → CoreState) (c : Option CallAt) (places : List (Option (Replica S E C))) →
    ReplicasStand m w before places → ReplicasLeft m w before after c places
left_before m w before after c places stand = record {
  many = stand.many;
  within = stand.within;
  each = λ i place e. before_at m w before after c i place (stand.each i place e);
}

-- it did, and what came after it was without memory
pub left_after : {S E C : Type 0} (m : Meaning S E C KeyRow) (w : Setting) (before after : ℕ → CoreState) (c : Option CallAt) (places : List (Option (Replica S E C))) →
    ReplicasStand m w after places → ReplicasLeft m w before after c places
left_after m w before after c places stand = record {
  many = stand.many;
  within = stand.within;
  each = λ i place e. after_at m w before after c i place (stand.each i place e);
}

-- the call itself was: the others are as before
pub left_called : {S E C : Type 0} (m : Meaning S E C KeyRow) (w : Setting) (before after : ℕ → CoreState) (c : Option CallAt) (at : ℕ) (replicas : List (Option (Replica S E C))) (old new : Replica S E C) →
    ReplicasStand m w before replicas → slice_get replicas at ≡ Some (Some old) → IsLeft m w before after c at new → ReplicasLeft m w before after c (slice_set replicas at (Some new))
left_called {S = S} {E = E} {C = C} m w before after c at replicas old new stand there left = record {
  many = length-set replicas at (Some new) ∙ stand.many;
  within = stand.within;
  each = λ i place e. elim (eqb_tells at i) [
    | inl same ↦
        let here : slice_get (slice_set replicas at (Some new)) at ≡ Some (Some new) = get_set_same replicas at (Some old) (Some new) there in
        let is_new : Some new ≡ place = same_Some (Some new) place (sym here ∙ ap (slice_get (slice_set replicas at (Some new))) same.1 ∙ e) in
        let P : ℕ → Type 0 = λ k. LeftAt m w before after c k (Some new) in
        let Q : Option (Replica S E C) → Type 0 = λ x. LeftAt m w before after c i x in
        subst Q is_new (subst P same.1 left)
    | inr other ↦ before_at m w before after c i place (stand.each i place (sym (get_set_other replicas at i (Some new) (λ h. other.1 (sym h))) ∙ e))
  ];
}

-- as an event's outcome
pub happens_left : {S E C : Type 0} (m : Meaning S E C KeyRow) (w : Setting) (states : ℕ → CoreState) (c : Option CallAt) (places : List (Option (Replica S E C))) (result : Result Happened Mem) →
    (Needing : Type 0) → IsErr result → ReplicasLeft m w states (after_call w states c) c places → Needing → HappensOr m w states c Needing places result
happens_left m w states c places (Ok happened) Needing err left needs = absurd (cc)
happens_left m w states c places (Err mem) Needing err left needs = (left, needs)

-- ---- the replica at a place

leaving_at : {S E C : Type 0} (m : Meaning S E C KeyRow) (w : Setting) (before after : ℕ → CoreState) (c : Option CallAt) (i : ℕ) (place : Option (Replica S E C)) (result : Option (Bor (Replica S E C))) →
    LeftAt m w before after c i place → option_copied result ≡ place → MatchOption result (w.is_correct i ≡ false) (λ replica. IsLeft m w before after c i replica.now)
leaving_at {S = S} {E = E} {C = C} m w before after c i place None left e =
    let P : Option (Replica S E C) → Type 0 = λ x. LeftAt m w before after c i x in
    subst P (sym e) left
leaving_at {S = S} {E = E} {C = C} m w before after c i place (Some replica) left e =
    let P : Option (Replica S E C) → Type 0 = λ x. LeftAt m w before after c i x in
    subst P (sym e) left

pub no_left_replica_at : {S E C : Type 0} (m : Meaning S E C KeyRow) (w : Setting) (before after : ℕ → CoreState) (c : Option CallAt) (i at : ℕ) (replicas list : List (Option (Replica S E C))) →
    ReplicasLeft m w before after c replicas → list ≡ replicas → at ≡ i → length list ≤ at → w.is_correct i ≡ false
no_left_replica_at m w before after c i at replicas list left same number past =
    let long : length list ≡ w.numbers.n = ap length same ∙ left.many in
    none_past w i left.within (omega arith)

pub left_replica_at : {S E C : Type 0} (m : Meaning S E C KeyRow) (w : Setting) (before after : ℕ → CoreState) (c : Option CallAt) (i at : ℕ) (replicas list : List (Option (Replica S E C))) (place : Option (Replica S E C)) (result : Option (Bor (Replica S E C))) →
    ReplicasLeft m w before after c replicas → list ≡ replicas → at ≡ i → at < length list → place ≡ slice_index_or list at place → option_copied result ≡ place
    → MatchOption result (w.is_correct i ≡ false) (λ replica. IsLeft m w before after c i replica.now)
left_replica_at m w before after c i at replicas list place result left same number within read copied =
    let there : slice_get list at ≡ Some place = slice_get-get_or list at place within ∙ ap (λ x. Some x) (sym read) in
    let here : slice_get replicas i ≡ Some place = ap₂ slice_get (sym same) (sym number) ∙ there in
    leaving_at m w before after c i place result (left.each i place here) copied
