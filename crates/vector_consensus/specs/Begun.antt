-- The attempts that began, as the code has them: each is a box, in their order.
use Rattle.std.specs.Prelude.{◌≡◌, ℕ, zero, suc, ◌+◌, ◌-◌, ◌<◌, ◌≤◌, Bool, true, ◌&&◌, nat_le, nat_lt, List, [], ◌∷◌, length, Option, Some, None, is_some, if◌then◌else◌, refl}
use Rattle.std.proofs.Common.{arith}
use Rattle.std.specs.List.{slice_get}
use Rattle.layer_api.specs.Words.{Word}
use Rattle.layer_api.specs.Multi.{Desk, MultiRules}
use Rattle.layer_api.specs.MultiCalls.{MultiShown}
use Rattle.std.specs.Option.{option_flatten}
use Rattle.vector_consensus.specs.Consensus.{try_desk, is_none, failed_below, try_decides, try_ask, vectors}
use Rattle.vector_consensus.specs.declared.part.Part.{Part}
use Rattle.vector_consensus.specs.declared.going.Progress.{Progress}

-- an attempt below their number is there
pub there_is : {M : Type 0} (ts : List M) (k : ℕ) → k < length ts → (b : M) × (slice_get ts k ≡ Some b)
there_is [] k l = absurd (omega (arith, l))
there_is (b ∷ ts) zero l = (b, refl)
there_is (b ∷ ts) (suc k) l = there_is ts k (omega (arith, l))

-- ---- by what they show

-- the last of them
abbrev pub last_attempt : {M : Type 0} → List M → Option M
last_attempt ts = slice_get ts (length ts - 1)

-- whether it decided that no value is, where there is one
abbrev pub has_failed : {M : Type 0} → (M → MultiShown) → Option M → Bool
has_failed shown None = true
has_failed shown (Some b) = is_none (shown b).decision

-- whether all failed: those before the last did
abbrev pub all_failed : {M : Type 0} → (M → MultiShown) → List M → Bool
all_failed shown ts = has_failed shown (last_attempt ts)

-- the vector that an attempt decided
abbrev pub vector_of_attempt : {M : Type 0} → (M → MultiShown) → Option M → Option (List ℕ)
vector_of_attempt shown None = None
vector_of_attempt shown (Some b) = option_flatten (shown b).decision

-- whether the next one is due: something is proposed, one is left, enough proposals are there, and all failed
abbrev pub is_attempt_due : {M : Type 0} → (M → MultiShown) → Part → Bool → ℕ → List M → Bool
is_attempt_due shown part own count ts = own && (nat_le (length ts) part.last && (nat_le (part.wait + length ts) count && all_failed shown ts))

-- which attempt decided a vector: the last, if one did
abbrev pub decided_at : {M : Type 0} → (M → MultiShown) → List M → Option ℕ
decided_at shown ts = if is_some (vector_of_attempt shown (last_attempt ts)) then Some (length ts - 1) else None

-- so far they have come
abbrev pub attempts_progress : {M : Type 0} → (M → MultiShown) → Part → Bool → List M → Progress
attempts_progress shown part own ts =
    record { own = own; begun = length ts; decided = decided_at shown ts; spent = nat_lt part.last (length ts) && all_failed shown ts }

-- ---- by the words

-- so many attempts began: all but the last failed, and no other was asked
pub record IsBegun (m : MultiRules) (at : Desk) (w : List Word) (n : ℕ) : Type 0 where
  pub asked : (k : ℕ) → k < n → is_some (try_ask m at k w) ≡ true
  pub failed : (k : ℕ) → k < n → failed_below m at k w ≡ true
  pub unasked : (k : ℕ) → n ≤ k → k ≤ at.scope.numbers.f → try_ask m at k w ≡ None
  pub few : n ≤ suc at.scope.numbers.f

-- each attempt stands for these words of its own
abbrev pub Each : {M : Type 0} → (M → Desk → List Word → Type 0) → Desk → (ℕ → List Word) → List M → Type 0
Each {M} stands at words ts = (k : ℕ) (b : M) → slice_get ts k ≡ Some b → stands b (try_desk at k) (words k)

-- the attempt there is the one that decided a vector, or none did
abbrev pub IsDecidingAttempt : MultiRules → Desk → List Word → ℕ → Option ℕ → Type 0
IsDecidingAttempt m at w n None = (vectors m).decision at w ≡ None
IsDecidingAttempt m at w n (Some k) = (k < n) × ((v : List ℕ) × (try_decides m at k w ≡ Some (Some v)) × ((vectors m).decision at w ≡ Some v))

-- so far the attempts have come
pub record AreAttemptsReached (m : MultiRules) (at : Desk) (w : List Word) (n : ℕ) (own : Bool) (now : Progress) : Type 0 where
  pub owns : now.own ≡ own
  pub begun : now.begun ≡ n
  pub decided : IsDecidingAttempt m at w n now.decided
  pub spent : now.spent ≡ (vectors m).spent at w
