-- Runs: steps of replicas, and the runs of inner parts that they make. Lists of calls and of steps have the newest first.
use Rattle.std.specs.Prelude.{◌≡◌, ℕ, ◌+◌, ◌≤◌, ◌<◌, ◌==◌, Bool, true, List, [], ◌∷◌, ◌++◌, if◌then◌else◌, count_by, ◌⊎◌}
use Rattle.ritas_base.specs.Numbers.{Numbers, IsSession}
use Rattle.ritas_base.specs.History.{replicas}

-- a step: a replica, and a call on its value
pub record ReplicaStep (C : Type 0) : Type 0 where
  pub who : ℕ
  pub call : C

-- the calls of one replica
abbrev pub calls_of : {C : Type 0} → ℕ → List (ReplicaStep C) → List C
calls_of i [] = []
calls_of i (x ∷ xs) = if x.who == i then x.call ∷ calls_of i xs else calls_of i xs

-- x is in the list
abbrev pub Has : {X : Type 0} → List X → X → Type 0
Has [] x = ⊥
Has (y ∷ ys) x = (y ≡ x) ⊎ Has ys x

-- enough replicas are correct
pub record IsEnough (p : Numbers) (is_correct : ℕ → Bool) : Type 0 where
  pub session : IsSession p
  pub within : (i : ℕ) → is_correct i ≡ true → i < p.n
  pub many : p.n ≤ count_by is_correct (replicas p.n) + p.f

-- these calls of one replica, on a run
abbrev pub steps_by : {C : Type 0} → ℕ → List C → List (ReplicaStep C) → List (ReplicaStep C)
steps_by i [] xs = xs
steps_by i (c ∷ cs) xs = record { who = i; call = c } ∷ steps_by i cs xs

-- the calls that a replica's call makes on an inner part, after the calls before it
abbrev pub Inner : Type 0 → Type 0 → Type 0
Inner C D = ℕ → List C → C → List D

-- all calls on the inner part
abbrev pub inner : {C D : Type 0} → Inner C D → ℕ → List C → List D
inner f i [] = []
inner f i (c ∷ cs) = f i cs c ++ inner f i cs

-- the run of the inner part
abbrev pub inner_run : {C D : Type 0} → Inner C D → List (ReplicaStep C) → List (ReplicaStep D)
inner_run f [] = []
inner_run f (x ∷ xs) = steps_by x.who (f x.who (calls_of x.who xs) x.call) (inner_run f xs)
