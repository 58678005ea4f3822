-- Multi-valued consensus for one instance, by the words so far, the newest first: a broadcast of proposals, a broadcast of what
-- they have in common, and a binary consensus on whether that is one value.
use Rattle.std.specs.Prelude.{ℕ, ◌+◌, Bool, true, false, not, ◌==◌, ◌&&◌, nat_le, if◌then◌else◌, List, [], ◌∷◌, ◌++◌, map, drop, count_by, Option, Some, None, is_some, option_map}
use Rattle.std.specs.List.{list_any}
use Rattle.std.specs.Str.{bytes_eq}
use Rattle.std.specs.Ordering.{nat_cmp, is_lt}
use Rattle.std.specs.Cmp.Lexicographic.{slice_cmp}
use Rattle.std.specs.Simd.Lanes.{mask_l}
use Rattle.ritas_base.specs.declared.slot.Slot.{Slot}
use Rattle.ritas_base.specs.Numbers.{wait_of, support_of}
use Rattle.ritas_base.specs.History.{replicas, is_value}
use Rattle.ritas_base.specs.Members.{has_member}
use Rattle.ritas_base.specs.Shortest.{at_shortest}
use Rattle.frame_codec.specs.Values.{mask_of, vect_bytes}
use Rattle.layer_api.specs.Service.{Instance, OfBit, OfValue, OfVector, Decision, Bit, value_decision}
use Rattle.layer_api.specs.Words.{Word, value_at, bit_byte}
use Rattle.layer_api.specs.Binary.{BinaryRules, Bench}
use Rattle.layer_api.specs.Part.{proposed, newly, part_of, part_words, says_in}
use Rattle.layer_api.specs.Multi.{Scope, Desk, MultiRules, is_multi_slot}
use Rattle.ritas_base.specs.Places.{listed}
use Rattle.std.specs.Option.{option_flatten}

-- ---- values

-- the least value in byte order that passes
abbrev pub lesser : List ℕ → Option (List ℕ) → List ℕ
lesser v None = v
lesser v (Some u) = if is_lt (slice_cmp nat_cmp u v) then u else v

abbrev pub least : (List ℕ → Bool) → List (List ℕ) → Option (List ℕ)
least test [] = None
least test (v ∷ vs) = if test v then Some (lesser v (least test vs)) else least test vs

-- ---- proposals

abbrev pub init_slot : Scope → ℕ → Slot
init_slot at k = record { class = 3; a = at.a; attempt = at.attempt; bround = 0; step = 0; origin = k }

abbrev pub vect_slot : Scope → ℕ → Slot
vect_slot at k = record { class = 4; a = at.a; attempt = at.attempt; bround = 0; step = 0; origin = k }

-- what k proposed
abbrev pub init : Scope → List Word → ℕ → Option (List ℕ)
init at w k = value_at w (init_slot at k)

abbrev pub has_init : Scope → List Word → List ℕ → ℕ → Bool
has_init at w v k = is_value v (init at w k)

-- so many replicas pass
abbrev pub count_passing : Scope → (ℕ → Bool) → ℕ
count_passing at test = count_by test (replicas at.numbers.n)

-- ---- the VECT

-- the least value that n - 2f replicas proposed
abbrev pub common : Scope → List Word → Option (List ℕ)
common at h =
    least (λ v. nat_le (support_of at.numbers) (count_passing at (has_init at h v))) (listed (init at h) (replicas at.numbers.n))

-- it is told with all that proposed it; that there is none is told by no bytes
abbrev pub vect_told : Scope → List Word → Option (List ℕ) → List ℕ
vect_told at h None = []
vect_told at h (Some v) = vect_bytes (mask_l (map (has_init at h v) (replicas at.numbers.n))) v

-- it is said at the shortest prefix where something is proposed and n - f proposals are there
abbrev pub vect_now : Scope → List Word → Option (List ℕ)
vect_now at h =
    if is_some (proposed h) && nat_le (wait_of at.numbers) (count_passing at (λ k. is_some (init at h k))) then Some (vect_told at h (common at h)) else None

abbrev pub own_vect : Scope → List Word → Option (List ℕ)
own_vect at w = at_shortest (vect_now at) w

-- ---- valid VECTs

-- a VECT of v is valid where n - 2f of its places proposed v
abbrev pub backed_vect : Scope → List Word → ℕ → List ℕ → Option (Option (List ℕ))
backed_vect at h mask v = if nat_le (support_of at.numbers) (count_passing at (λ k. has_member mask k && has_init at h v k)) then Some (Some v) else None

-- one of none is valid
abbrev pub valid_of : Scope → List Word → Option (List ℕ) → Option (Option (List ℕ))
valid_of at h None = None
valid_of at h (Some []) = Some None
valid_of at h (Some (b ∷ bs)) = backed_vect at h (mask_of (b ∷ bs)) (drop 4 (b ∷ bs))

-- what the valid VECT of k has
abbrev pub valid : Scope → List Word → ℕ → Option (Option (List ℕ))
valid at h k = valid_of at h (value_at h (vect_slot at k))

abbrev pub is_of : List ℕ → Option (Option (List ℕ)) → Bool
is_of v None = false
is_of v (Some o) = is_value v o

abbrev pub is_other : List ℕ → Option (Option (List ℕ)) → Bool
is_other v None = false
is_other v (Some None) = false
is_other v (Some (Some u)) = not (bytes_eq u v)

-- how many valid VECTs have v
abbrev pub vect_backers : Scope → List Word → List ℕ → ℕ
vect_backers at h v = count_passing at (λ k. is_of v (valid at h k))

-- the values of valid VECTs
abbrev pub candidates : Scope → List Word → List (List ℕ)
candidates at h = listed (λ k. option_flatten (valid at h k)) (replicas at.numbers.n)

-- ---- the bit

-- n - 2f valid VECTs have v, and none has another value
abbrev pub is_clear : Scope → List Word → List ℕ → Bool
is_clear at h v = nat_le (support_of at.numbers) (vect_backers at h v) && (count_passing at (λ k. is_other v (valid at h k)) == 0)

-- it is proposed at the shortest prefix where the VECT is said and n - f VECTs are valid
abbrev pub bit_at : Scope → List Word → Option Bool
bit_at at h =
    if is_some (own_vect at h) && nat_le (wait_of at.numbers) (count_passing at (λ k. is_some (valid at h k))) then Some (list_any (is_clear at h) (candidates at h)) else None

abbrev pub proposed_bit : Scope → List Word → Option Bool
proposed_bit at w = at_shortest (bit_at at) w

-- ---- the binary instance

abbrev pub bench_of : Desk → Bench
bench_of at = record { numbers = at.scope.numbers; me = at.me; a = at.scope.a; attempt = at.scope.attempt; coin = at.coin }

abbrev pub is_step : Slot → Bool
is_step s = s.class == 5

abbrev pub bit_asked : Scope → List Word → Option (List ℕ)
bit_asked at w = option_map (λ b. bit_byte b ∷ []) (proposed_bit at w)

-- its words
abbrev pub bit_words : Scope → List Word → List Word
bit_words at w = part_words (bit_asked at) is_step w

-- ---- the decision

-- the least value that n - 2f valid VECTs have
abbrev pub supported : Scope → List Word → Option (List ℕ)
supported at h = least (λ v. nat_le (support_of at.numbers) (vect_backers at h v)) (candidates at h)

-- no value where the binary instance decided 0, and where it decided 1 the supported one, if one is
abbrev pub multi_verdict : Option Bool → Option (List ℕ) → Option (Option (List ℕ))
multi_verdict None o = None
multi_verdict (Some false) o = Some None
multi_verdict (Some true) None = None
multi_verdict (Some true) (Some v) = Some (Some v)

abbrev pub decision_at : BinaryRules → Desk → List Word → Option (Option (List ℕ))
decision_at b at h = multi_verdict (b.decision (bench_of at) (bit_words at.scope h)) (supported at.scope h)

-- it is decided at the shortest prefix with a verdict
abbrev pub multi_decision : BinaryRules → Desk → List Word → Option (Option (List ℕ))
multi_decision b at w = at_shortest (decision_at b at) w

-- this instance's decision, and the bit of the binary one inside it
abbrev pub multi_inside : Scope → Option Bool → Option (Option (List ℕ)) → Instance → Option Decision
multi_inside at bit o (OfBit a attempt) = if a == at.a && attempt == at.attempt then option_map Bit bit else None
multi_inside at bit o (OfValue a attempt) = if a == at.a && attempt == at.attempt then option_map value_decision o else None
multi_inside at bit o (OfVector a) = None

abbrev pub multi_opens : Scope → List Word → ℕ → Slot → Bool
multi_opens at w round s = is_multi_slot at s && (if is_step s then is_some (bit_asked at w) && nat_le s.bround (round + 1) else is_some (proposed w))

-- multi-valued consensus over binary consensus
abbrev pub multivalued : BinaryRules → MultiRules
multivalued b = record {
  says = λ at w c.
      newly (init_slot at.scope at.me) (proposed w) (proposed (c ∷ w))
      ++ (newly (vect_slot at.scope at.me) (own_vect at.scope w) (own_vect at.scope (c ∷ w))
      ++ says_in (b.says (bench_of at)) (part_of (bit_asked at.scope) is_step w c) (bit_words at.scope w));
  opens = λ at w s. multi_opens at.scope w (b.round (bench_of at) (bit_words at.scope w)) s;
  decision = λ at w. multi_decision b at w;
  inside = λ at w x. multi_inside at.scope (b.decision (bench_of at) (bit_words at.scope w)) (multi_decision b at w) x;
}
