-- What one word does to the rounds. The round that it is of hears it. The first round that isn't complete may be asked by it, or may
-- become complete, and then the next one may be asked. No other round changes.
use Rattle.std.specs.Prelude.{◌≡◌, ℕ, suc, ◌<◌, ◌≤◌, ◌==◌, if◌then◌else◌, nat_lt, true, List, [], ◌∷◌, ◌++◌, Option, Some, None}
use Rattle.std.specs.Option.{option_or}
use Rattle.ritas_base.specs.declared.slot.Slot.{Slot}
use Rattle.ritas_base.specs.declared.id.Id.{Id}
use Rattle.ritas_base.specs.declared.item.Say.{Say}
use Rattle.layer_api.specs.Words.{Word, Ask, Hear}
use Rattle.layer_api.specs.Service.{Seat}
use Rattle.layer_api.specs.Part.{newly_asked, passed, says_in}
use Rattle.ordered_rounds.specs.Box.{RoundRules, MayRound}
use Rattle.ordered_rounds.specs.Rounds.{pending, first_ids, round_desk, is_of_round, completes_with, round_ask, round_words, complete_of, log_of, rounds_say_below, rounds, is_kept}

module _ (v : RoundRules) (seat : Seat) where
  -- the first round that isn't complete, and the log of those before it
  abbrev pub current : List Word → ℕ
  current w = complete_of v seat rounds w

  abbrev pub log_now : List Word → List Id
  log_now w = log_of v seat rounds w

  -- what a slot of a round delivered comes to the round's box, which is kept and was asked
  pub record ComesToRound (w : List Word) (s : Slot) (x : List ℕ) : Type 0 where
    pub round : s.a < rounds
    pub begun : s.a ≤ current w
    pub kept : is_kept seat.mode.version (current w) s.a ≡ true
    pub may : MayRound v (round_desk v seat s.a) (round_words v seat s.a w) (Hear s x)

  -- what the round of a word says to it
  abbrev pub heard_says : List Word → Word → List Say
  heard_says w (Ask x) = []
  heard_says w (Hear s x) = if s.class == 1 then [] else v.says (round_desk v seat s.a) (round_words v seat s.a w) (Hear s x)

  -- what a round is asked that begins with this log, and what it says to that where it has no words yet
  abbrev pub next_ask : List Word → List Id → Option (List ℕ)
  next_ask h log = first_ids seat.numbers.n (pending h log)

  abbrev pub next_says : ℕ → List Word → List Id → List Say
  next_says a h log = if nat_lt a rounds then says_in (v.says (round_desk v seat a)) (newly_asked None (next_ask h log)) [] else []

  module _ (c : Word) (w : List Word) where
    -- the words of a round with what this word makes it hear
    abbrev pub heard_words : ℕ → List Word
    heard_words a = passed (is_of_round a) c ++ round_words v seat a w

    -- what the current round is asked then, its words, and what it decided
    abbrev pub asked_now : Option (List ℕ)
    asked_now = option_or (round_ask v seat (current w) w) (next_ask (c ∷ w) (log_now w))

    abbrev pub words_now : List Word
    words_now = newly_asked (round_ask v seat (current w) w) asked_now ++ heard_words (current w)

    abbrev pub completes_now : Option (List Id)
    completes_now = completes_with v seat (Some (log_now w)) (v.decision (round_desk v seat (current w)) words_now) (c ∷ w)

    -- whether or not it becomes complete
    pub record RoundSteps : Type 0 where
      pub below : (a : ℕ) → a < current w → round_words v seat a (c ∷ w) ≡ heard_words a
      pub asks : current w < rounds → round_ask v seat (current w) (c ∷ w) ≡ asked_now
      pub words : current w < rounds → round_words v seat (current w) (c ∷ w) ≡ words_now

    -- it does not: it is asked, if it wasn't and something is pending
    pub record Remains : Type 0 where
      pub same : current (c ∷ w) ≡ current w
      pub log : log_now (c ∷ w) ≡ log_now w
      pub above : (a : ℕ) → current w < a → a < rounds → (round_ask v seat a (c ∷ w) ≡ None) × (round_words v seat a (c ∷ w) ≡ [])
      pub says_old : (u : List ℕ) → round_ask v seat (current w) w ≡ Some u → rounds_say_below v seat rounds w c ≡ heard_says w c
      pub says_new : round_ask v seat (current w) w ≡ None → rounds_say_below v seat rounds w c ≡ heard_says w c ++ next_says (current w) (c ∷ w) (log_now w)

    -- it does, with this log: the next round is asked, if something is pending
    pub record Advances (log : List Id) : Type 0 where
      pub next : current (c ∷ w) ≡ suc (current w)
      pub log_is : log_now (c ∷ w) ≡ log
      pub asks : suc (current w) < rounds → round_ask v seat (suc (current w)) (c ∷ w) ≡ next_ask (c ∷ w) log
      pub words : suc (current w) < rounds → round_words v seat (suc (current w)) (c ∷ w) ≡ newly_asked None (next_ask (c ∷ w) log)
      pub above : (a : ℕ) → suc (current w) < a → a < rounds → (round_ask v seat a (c ∷ w) ≡ None) × (round_words v seat a (c ∷ w) ≡ [])
      pub says : rounds_say_below v seat rounds w c ≡ heard_says w c ++ next_says (suc (current w)) (c ∷ w) log
