-- Vector consensus for one instance, by the words so far, the newest first: a broadcast of proposals, and attempts, one after the
-- other, to agree on the vector of those that are there.
use Rattle.std.specs.Prelude.{ℕ, zero, suc, ◌+◌, Bool, true, false, not, ◌==◌, ◌&&◌, nat_le, if◌then◌else◌, List, [], ◌∷◌, ◌++◌, map, count_by, Option, Some, None, is_some, option_map}
use Rattle.std.specs.Option.{option_or, option_flatten}
use Rattle.std.specs.Simd.Lanes.{mask_l}
use Rattle.ritas_base.specs.declared.slot.Slot.{Slot}
use Rattle.ritas_base.specs.declared.item.Say.{Say}
use Rattle.ritas_base.specs.Numbers.{wait_of}
use Rattle.ritas_base.specs.Shortest.{at_shortest}
use Rattle.frame_codec.specs.Values.{vector_bytes}
use Rattle.layer_api.specs.Service.{Instance, OfBit, OfValue, OfVector, Decision, vector_decision}
use Rattle.layer_api.specs.Words.{Word}
use Rattle.layer_api.specs.Part.{proposed, newly, part_of, part_words, says_in}
use Rattle.layer_api.specs.Multi.{Scope, Desk, MultiRules}
use Rattle.layer_api.specs.Vectors.{VectorRules, is_vector_slot}
pub use Rattle.layer_api.specs.RoundLists.{prop_slot, props, present}

-- ---- proposals

-- the vector of all proposals
abbrev pub vector_of : Scope → List Word → List ℕ
vector_of at h = vector_bytes (mask_l (map is_some (props at h))) (present (props at h))

-- ---- attempts

-- attempt k proposes the vector at the shortest prefix where something is proposed, all attempts before it failed, and n - f + k
-- proposals are there
abbrev pub try_at : Scope → ℕ → (List Word → Bool) → List Word → Option (List ℕ)
try_at at k failed h =
    if is_some (proposed h) && (failed h && nat_le (wait_of at.numbers + k) (count_by is_some (props at h))) then Some (vector_of at h) else None

abbrev pub try_asked : Scope → ℕ → (List Word → Bool) → List Word → Option (List ℕ)
try_asked at k failed w = at_shortest (try_at at k failed) w

-- the slots of attempt k
abbrev pub is_of_try : ℕ → Slot → Bool
is_of_try k s = not (s.class == 2) && s.attempt == k

-- its instance, and its words
abbrev pub try_scope : Scope → ℕ → Scope
try_scope at k = record { numbers = at.numbers; root = at.root; a = at.a; attempt = k }

abbrev pub try_desk : Desk → ℕ → Desk
try_desk at k = record { scope = try_scope at.scope k; me = at.me; coin = at.coin }

abbrev pub attempt_words_by : Scope → ℕ → (List Word → Bool) → List Word → List Word
attempt_words_by at k failed w = part_words (try_asked at k failed) (is_of_try k) w

-- whether it is decided that no value is
abbrev pub is_none : Option (Option (List ℕ)) → Bool
is_none None = false
is_none (Some None) = true
is_none (Some (Some v)) = false

-- the attempts below one: whether all of them failed, and the vector that the first which didn't fail decided
abbrev pub failed_below : MultiRules → Desk → ℕ → List Word → Bool
failed_below m at zero w = true
failed_below m at (suc k) w = failed_below m at k w && is_none (m.decision (try_desk at k) (attempt_words_by at.scope k (failed_below m at k) w))

abbrev pub try_words : MultiRules → Desk → ℕ → List Word → List Word
try_words m at k w = attempt_words_by at.scope k (failed_below m at k) w

-- what attempt k decided
abbrev pub try_decides : MultiRules → Desk → ℕ → List Word → Option (Option (List ℕ))
try_decides m at k w = m.decision (try_desk at k) (try_words m at k w)

abbrev pub vector_decided_below : MultiRules → Desk → ℕ → List Word → Option (List ℕ)
vector_decided_below m at zero w = None
vector_decided_below m at (suc k) w =
    option_or (vector_decided_below m at k w) (if failed_below m at k w then option_flatten (try_decides m at k w) else None)

-- and which that is
abbrev pub attempt_below : MultiRules → Desk → ℕ → List Word → Option ℕ
attempt_below m at zero w = None
attempt_below m at (suc k) w =
    option_or (attempt_below m at k w) (if failed_below m at k w then option_map (λ v. k) (option_flatten (try_decides m at k w)) else None)

-- ---- the layer

-- what attempt k is asked
abbrev pub try_ask : MultiRules → Desk → ℕ → List Word → Option (List ℕ)
try_ask m at k w = try_asked at.scope k (failed_below m at k) w

-- what a word newly says in the attempts below one, in their order
abbrev pub attempts_say_below : MultiRules → Desk → ℕ → List Word → Word → List Say
attempts_say_below m at zero w c = []
attempts_say_below m at (suc k) w c =
    attempts_say_below m at k w c ++ says_in (m.says (try_desk at k)) (part_of (try_ask m at k) (is_of_try k) w c) (try_words m at k w)

abbrev pub vector_opens : MultiRules → Desk → List Word → Slot → Bool
vector_opens m at w s =
    is_vector_slot at.scope s && (if s.class == 2 then is_some (proposed w) else m.opens (try_desk at s.attempt) (try_words m at s.attempt w) s)

-- what an instance inside attempt k decided, the attempt's own among them
abbrev pub try_inside : MultiRules → Desk → List Word → ℕ → ℕ → Instance → Option Decision
try_inside m at w a k x = if a == at.scope.a && nat_le k at.scope.numbers.f then m.inside (try_desk at k) (try_words m at k w) x else None

-- and this instance
abbrev pub inside_at : MultiRules → Desk → List Word → Instance → Option Decision
inside_at m at w (OfBit a k) = try_inside m at w a k (OfBit a k)
inside_at m at w (OfValue a k) = try_inside m at w a k (OfValue a k)
inside_at m at w (OfVector a) =
    if a == at.scope.a then vector_decision (vector_decided_below m at (suc at.scope.numbers.f) w) (failed_below m at (suc at.scope.numbers.f) w) else None

-- vector consensus over multi-valued consensus, in f + 1 attempts
abbrev pub vectors : MultiRules → VectorRules
vectors m = record {
  says = λ at w c. newly (prop_slot at.scope at.me) (proposed w) (proposed (c ∷ w)) ++ attempts_say_below m at (suc at.scope.numbers.f) w c;
  opens = λ at w s. vector_opens m at w s;
  decision = λ at w. vector_decided_below m at (suc at.scope.numbers.f) w;
  attempt = λ at w. attempt_below m at (suc at.scope.numbers.f) w;
  spent = λ at w. failed_below m at (suc at.scope.numbers.f) w;
  inside = λ at w x. inside_at m at w x;
}
