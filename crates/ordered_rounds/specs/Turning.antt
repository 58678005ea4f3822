-- What a word does to a value of atomic broadcast, step by step: it is heard, the current round may become complete, and the next
-- may begin.
use Rattle.std.specs.Prelude.{◌≡◌, ℕ, ◌<◌, Bool, true, false, ◌==◌, List, [], ◌∷◌, ◌++◌, Option, Some, None, is_some}
use Rattle.ritas_base.specs.declared.slot.Slot.{Slot}
use Rattle.ritas_base.specs.declared.item.Say.{Say}
use Rattle.layer_api.specs.Service.{Seat, MayHear}
use Rattle.layer_api.specs.ServiceCalls.{ShowsNear}
use Rattle.layer_api.specs.Words.{Word, Hear}
use Rattle.layer_api.specs.Calls.{IsCoin}
use Rattle.layer_api.specs.Part.{newly_asked}
use Rattle.layer_api.specs.Multi.{Desk}
use Rattle.ordered_rounds.specs.Box.{RoundRules}
use Rattle.ordered_rounds.specs.BoxCalls.{RoundShown}
use Rattle.ordered_rounds.specs.Rounds.{delivered_ids, round_desk, round_ask, round_words, rounds_say_below, rounds, ordered}
use Rattle.ordered_rounds.specs.Stepping.{current, log_now, heard_says, heard_words, next_ask, next_says}
use Rattle.ordered_rounds.specs.Ledger.{LedgerStands}
use Rattle.ordered_rounds.specs.Boxes.{BoxesStand, OldStand}
use Rattle.ordered_rounds.specs.Waiting.{decision_in, Awaits, Knows}
use Rattle.ordered_rounds.specs.OrderedGetters.{ordered_shown}
use Rattle.ordered_rounds.specs.OrderedStands.{Seated, has_begun, OrderedStands}
use Rattle.ordered_rounds.specs.declared.ordered.Ordered.{Ordered}

module _ {V : Type 0} (stands : V → Desk → List Word → Type 0) (v : RoundRules) (shown : V → RoundShown) where
  -- the word was heard by the ledger or by the box that it is for, and nothing follows yet
  pub record IsMidway (x : Ordered V) (seat : Seat) (w : List Word) (c : Word) : Type 0 where
    pub seated : Seated v x seat (c ∷ w)
    pub ledger : LedgerStands x.ledger (delivered_ids (c ∷ w)) (log_now v seat w)
    pub completed : x.completed ≡ current v seat w
    pub boxes : BoxesStand stands v seat (current v seat w) (heard_words v seat c w) x.boxes
    pub begun : is_some x.boxes.current ≡ has_begun v seat w
    pub waits : Awaits v x.place.numbers (decision_in shown x.boxes.current) x.waits

  -- and it is known what the current round waits for
  pub record IsWaitKnown (x : Ordered V) (seat : Seat) (w : List Word) (c : Word) : Type 0 where
    pub mid : IsMidway x seat w c
    pub knows : Knows v x.place.numbers (decision_in shown x.boxes.current) x.waits

  -- the current round hasn't begun before the word, and does so by it if something is pending
  pub record IsRoundDue (seat : Seat) (w : List Word) (c : Word) : Type 0 where
    pub asks : current v seat (c ∷ w) < rounds → round_ask v seat (current v seat (c ∷ w)) (c ∷ w) ≡ next_ask v seat (c ∷ w) (log_now v seat (c ∷ w))
    pub words : current v seat (c ∷ w) < rounds
        → round_words v seat (current v seat (c ∷ w)) (c ∷ w) ≡ newly_asked None (next_ask v seat (c ∷ w) (log_now v seat (c ∷ w)))
    pub says : rounds_say_below v seat rounds w c ≡ heard_says v seat w c ++ next_says v seat (current v seat (c ∷ w)) (c ∷ w) (log_now v seat (c ∷ w))
    pub unbegun : current v seat (c ∷ w) < rounds → round_words v seat (current v seat (c ∷ w)) w ≡ []
    pub not_spent : v.spent (round_desk v seat (current v seat w)) (round_words v seat (current v seat w) w) ≡ false

  -- or it began before
  pub record IsGoing (one : V) (seat : Seat) (w : List Word) (c : Word) : Type 0 where
    pub round : current v seat (c ∷ w) < rounds
    pub asked : is_some (round_ask v seat (current v seat (c ∷ w)) (c ∷ w)) ≡ true
    pub stood : stands one (round_desk v seat (current v seat (c ∷ w))) (round_words v seat (current v seat (c ∷ w)) (c ∷ w))
    pub says : rounds_say_below v seat rounds w c ≡ heard_says v seat w c

  abbrev pub IsNow : Option V → Seat → List Word → Word → Type 0
  IsNow None seat w c = IsRoundDue seat w c
  IsNow (Some one) seat w c = IsGoing one seat w c

  -- all stands as after the word, but that the current round may have to begin
  pub record Poised (x : Ordered V) (seat : Seat) (w : List Word) (c : Word) : Type 0 where
    pub seated : Seated v x seat (c ∷ w)
    pub ledger : LedgerStands x.ledger (delivered_ids (c ∷ w)) (log_now v seat (c ∷ w))
    pub completed : x.completed ≡ current v seat (c ∷ w)
    pub older : OldStand stands v seat (current v seat (c ∷ w)) (λ a. round_words v seat a (c ∷ w)) x.boxes
    pub here : IsNow x.boxes.current seat w c
    pub knows : Knows v x.place.numbers (decision_in shown x.boxes.current) x.waits

  -- all is done, and what is newly said is said
  pub record Turned (x : Ordered V) (seat : Seat) (w : List Word) (c : Word) (before after : List Say) : Type 0 where
    pub now : OrderedStands stands v shown x seat (c ∷ w)
    pub more : List Say
    pub says : rounds_say_below v seat rounds w c ≡ heard_says v seat w c ++ more
    pub made : after ≡ before ++ more

  -- its getters are near to both
  abbrev pub IsNear : Ordered V → Seat → List Word → Word → Type 0
  IsNear x seat w c = ShowsNear (ordered v) seat w c (ordered_shown shown x)

  -- a round completes, if it does
  abbrev pub Completes : Ordered V → Ordered V → Type 0
  Completes old new = (seat : Seat) (w : List Word) (c : Word) → IsWaitKnown old seat w c → Poised new seat w c

  abbrev pub CompletesNot : Ordered V → Ordered V → Type 0
  CompletesNot old new = (seat : Seat) (w : List Word) (s : Slot) (x : List ℕ) → IsWaitKnown old seat w (Hear s x) → IsNear new seat w (Hear s x)

  -- the current round begins, if it does
  abbrev pub RoundBegins : Ordered V → Ordered V → List Say → List Say → Type 0
  RoundBegins old new before after = (seat : Seat) (w : List Word) (c : Word) → Poised old seat w c → Turned new seat w c before after

  -- what follows from a word
  abbrev pub RoundSettles : Ordered V → Ordered V → List Say → List Say → Type 0
  RoundSettles old new before after = (seat : Seat) (w : List Word) (c : Word) → IsMidway old seat w c → Turned new seat w c before after

  abbrev pub SettlesNot : Ordered V → Ordered V → Type 0
  SettlesNot old new = (seat : Seat) (w : List Word) (s : Slot) (x : List ℕ) → IsMidway old seat w (Hear s x) → IsNear new seat w (Hear s x)

  -- the value stands for one word more, and what this newly says is said
  pub record TookWord (new : Ordered V) (seat : Seat) (w : List Word) (c : Word) (before after : List Say) : Type 0 where
    pub now : OrderedStands stands v shown new seat (c ∷ w)
    pub made : after ≡ before ++ rounds_say_below v seat rounds w c

  -- what a command's slot delivered
  abbrev pub TakesCommand : Ordered V → Ordered V → Slot → List Say → List Say → Type 0
  TakesCommand old new s before after = (seat : Seat) (w : List Word) (x : List ℕ) → OrderedStands stands v shown old seat w → MayHear (ordered v) seat w s x → s.class ≡ 1
      → TookWord new seat w (Hear s x) before after

  abbrev pub LosesCommand : Ordered V → Ordered V → Slot → Type 0
  LosesCommand old new s = (seat : Seat) (w : List Word) (x : List ℕ) → OrderedStands stands v shown old seat w → MayHear (ordered v) seat w s x → s.class ≡ 1
      → IsNear new seat w (Hear s x)

  -- what a slot of a round delivered
  abbrev pub TakesRound : (Slot → Bool) → Ordered V → Ordered V → Slot → List ℕ → List Say → List Say → Type 0
  TakesRound bits old new s x before after = (seat : Seat) (w : List Word) → OrderedStands stands v shown old seat w → IsCoin seat.coin bits → MayHear (ordered v) seat w s x
      → (s.class == 1) ≡ false → TookWord new seat w (Hear s x) before after

  abbrev pub LosesRound : (Slot → Bool) → Ordered V → Ordered V → Slot → List ℕ → Type 0
  LosesRound bits old new s x = (seat : Seat) (w : List Word) → OrderedStands stands v shown old seat w → IsCoin seat.coin bits → MayHear (ordered v) seat w s x
      → (s.class == 1) ≡ false → IsNear new seat w (Hear s x)

  -- what a slot delivered
  abbrev pub TakesWord : (Slot → Bool) → Ordered V → Ordered V → Slot → List ℕ → List Say → List Say → Type 0
  TakesWord bits old new s x before after = (seat : Seat) (w : List Word) → OrderedStands stands v shown old seat w → IsCoin seat.coin bits → MayHear (ordered v) seat w s x
      → TookWord new seat w (Hear s x) before after

  abbrev pub LosesWord : (Slot → Bool) → Ordered V → Ordered V → Slot → List ℕ → Type 0
  LosesWord bits old new s x = (seat : Seat) (w : List Word) → OrderedStands stands v shown old seat w → IsCoin seat.coin bits → MayHear (ordered v) seat w s x
      → IsNear new seat w (Hear s x)
