-- Binary consensus at one bench, by the words so far, the newest first: what is left, said and decided.
use Rattle.std.specs.Prelude.{ℕ, zero, suc, ◌*◌, Bool, true, false, not, ◌==◌, ◌&&◌, nat_le, if◌then◌else◌, List, [], ◌∷◌, ◌++◌, length, Option, Some, None, is_some, option_map, unwrap_or}
use Rattle.std.specs.Option.{option_or}
use Rattle.ritas_base.specs.declared.slot.Slot.{Slot}
use Rattle.ritas_base.specs.declared.item.Say.{Say}
use Rattle.ritas_base.specs.Numbers.{Numbers, wait_of, deliver_of}
use Rattle.ritas_base.specs.Shortest.{at_shortest}
use Rattle.layer_api.specs.Words.{Word, Ask, Hear, bit_byte}
use Rattle.layer_api.specs.Binary.{Bench, BinaryRules}
use Rattle.bracha_validation.specs.Votes.{votes, rule}
use Rattle.binary_consensus.specs.Steps.{step_of, line_slot, vote_in, heard, accepted}

-- the bit that was proposed, as a vote
abbrev pub proposed_vote : List Word → Option ℕ
proposed_vote [] = None
proposed_vote (Ask value ∷ w) = option_or (proposed_vote w) (vote_in value)
proposed_vote (Hear s value ∷ w) = proposed_vote w

-- the votes that are accepted at a step, where it is said and they are n - f at least
abbrev pub enough_at : Bench → ℕ → (List Word → Option ℕ) → List Word → Option (List ℕ)
enough_at at t said w =
    let vs = accepted at.numbers (heard at w) t in
    if is_some (said w) && nat_le (wait_of at.numbers) (length vs) then Some vs else None

-- a step is left at the shortest prefix in which it is said and has n - f accepted votes, and with all of those
abbrev pub step_left_by : Bench → ℕ → (List Word → Option ℕ) → List Word → Option (List ℕ)
step_left_by at t said w = at_shortest (enough_at at t said) w

-- what is said after a step that is left with these votes: what its rule gives, or the coin's toss
abbrev pub next_vote : Bench → ℕ → List ℕ → ℕ
next_vote at t vs = unwrap_or (rule at.numbers (step_of t) vs) (bit_byte (at.coin (line_slot at t at.me)))

-- what a step that is left with these votes decides: in step 3 a bit with 2f + 1 votes
abbrev pub step_verdict : Numbers → ℕ → List ℕ → Option Bool
step_verdict p step vs =
    if step == 3 then
    if nat_le (deliver_of p) (votes 0 vs) then Some false else if nat_le (deliver_of p) (votes 1 vs) then Some true else None
    else None

abbrev pub decides : Numbers → ℕ → Option (List ℕ) → Option Bool
decides p t None = None
decides p t (Some vs) = step_verdict p (step_of t) vs

-- what is said at the step after this one, by what is decided so far and what this one was left with
abbrev pub next_said : Bench → ℕ → Option Bool → Option (List ℕ) → Option ℕ
next_said at t d l = if step_of t == 3 && is_some d then None else option_map (next_vote at t) l

-- one step of the line: the vote that is said at it, and what the steps below it decide
pub record Stage : Type 0 where
  pub said : List Word → Option ℕ
  pub decided : List Word → Option Bool

-- at the first step the proposal is said; no round follows one that is over where a round before it decided
abbrev pub stage : Bench → ℕ → Stage
stage at zero = record { said = proposed_vote; decided = λ w. None }
stage at (suc t) =
    let before = stage at t in
    record {
      said = λ w. if step_of t == 3 && is_some (before.decided w) then None else option_map (next_vote at t) (step_left_by at t before.said w);
      decided = λ w. option_or (before.decided w) (decides at.numbers t (step_left_by at t before.said w));
    }

-- the vote that is said at a step
abbrev pub vote_said : Bench → ℕ → List Word → Option ℕ
vote_said at t w = (stage at t).said w

-- the votes that a step is left with
abbrev pub left : Bench → ℕ → List Word → Option (List ℕ)
left at t w = step_left_by at t (stage at t).said w

-- what the steps below this one decide
abbrev pub decided_below : Bench → ℕ → List Word → Option Bool
decided_below at t w = (stage at t).decided w

-- rounds, steps of the line, and the last of those
unfoldable pub binary_rounds : ℕ
binary_rounds = 200

unfoldable pub steps : ℕ
steps = 600

unfoldable pub last_step : ℕ
last_step = 599

abbrev pub binary_decision : Bench → List Word → Option Bool
binary_decision at w = decided_below at steps w

-- the last step is left, and nothing is decided
abbrev pub over : Bench → List Word → Bool
over at w = is_some (left at last_step w) && not (is_some (binary_decision at w))

-- the greatest of so many rounds whose first step is said, or 0
abbrev pub round_below : Bench → ℕ → List Word → ℕ
round_below at zero w = 0
round_below at (suc r) w = if is_some (vote_said at (3 * r) w) then suc r else round_below at r w

-- a broadcast to start, where something is said that was not said before
abbrev pub newly_voted : Slot → Option ℕ → Option ℕ → List Say
newly_voted s before None = []
newly_voted s (Some u) (Some v) = []
newly_voted s None (Some v) = record { slot = s; value = v ∷ [] } ∷ []

-- what a word newly says at the steps below this one, in their order
abbrev pub steps_say_below : Bench → ℕ → List Word → Word → List Say
steps_say_below at zero w c = []
steps_say_below at (suc t) w c = steps_say_below at t w c ++ newly_voted (line_slot at t at.me) (vote_said at t w) (vote_said at t (c ∷ w))

abbrev pub binary : BinaryRules
binary = record {
  says = λ at w c. steps_say_below at steps w c;
  round = λ at w. round_below at binary_rounds w;
  decision = binary_decision;
  over = over;
}
