-- What atomic broadcast says: it is new, in the grammar, and at command slots the inputs.
use Rattle.std.specs.Prelude.{◌≡◌, ℕ, zero, suc, ◌<◌, Bool, true, false, ◌==◌, nat_lt, nat_le, if◌then◌else◌, List, [], ◌∷◌, None, refl}
use Rattle.std.proofs.Common.{sym, ◌∙◌, ap, subst, inl, inr, arith}
use Rattle.std.proofs.lemmas.Bool.{cases_Bool, and_from, or_right, both_ways, lt-ltb}
use Rattle.ritas_base.specs.declared.slot.Slot.{Slot}
use Rattle.ritas_base.specs.declared.item.Say.{Say}
use Rattle.ritas_base.specs.declared.mode.Mode.{Mode}
use Rattle.ritas_base.specs.Numbers.{Numbers, IsSession}
use Rattle.ritas_base.specs.Slots.{is_atomic, has_tries, slot_fault, has_class, has_number, has_attempt, command_slot}
use Rattle.ritas_base.specs.SlotLaws.{slot_is_right}
use Rattle.frame_codec.specs.Format.{Is}
use Rattle.frame_codec.specs.Grammar.{value}
use Rattle.frame_codec.specs.Inputs.{IsInput, input_format}
use Rattle.layer_api.specs.Words.{Word, Ask, Hear, HasSay, asked, is_said, AreFresh}
use Rattle.layer_api.specs.Service.{Seat, said, AreProper, AreNew, AreGoodSays, AreInputs, IsInputSaid}
use Rattle.layer_api.specs.Part.{part_of}
use Rattle.layer_api.specs.FedLaws.{say_append}
use Rattle.layer_api.specs.FreshLaws.{unsaid, has_said, fresh_append, fresh_other, fresh_in, fresh_each}
use Rattle.ordered_rounds.specs.Box.{last_attempt, RoundRules, RoundLaws, is_round_slot, MayRound, IsRoundSaid}
use Rattle.layer_api.specs.VectorSlotLaws.{vector_slot_right, round_slot_right}
use Rattle.layer_api.specs.Vectors.{is_slot_in}
use Rattle.ordered_rounds.specs.Laws.Roots.{by_root, atomic_root}
use Rattle.ordered_rounds.specs.Rounds.{says_input}
use Rattle.ordered_rounds.specs.Rounds.{round_scope, round_desk, is_of_round, round_ask, round_words, rounds_say_below, rounds, ordered}
use Rattle.ordered_rounds.specs.Laws.WordsMeet.{root_of, round_met}
use Rattle.ordered_rounds.specs.Laws.RoundRuns.{IsOfRound, of_round_is, command_class, says_of_round, said_in_round, below_said, round_said}

-- ---- slots of the root service

-- rounds are as many as numbers of a slot
rounds_are : rounds ≡ 1000000
unfolding rounds
rounds_are = refl

-- whose numbers are those of commands and of rounds
numbered : (root a : ℕ) → is_atomic root ≡ true → a < 1000000 → has_number root a ≡ true
numbered root a atomic l =
    by_root (λ r. has_number r a ≡ true) (and_from (nat_lt a 1000000) _ (lt-ltb a 1000000 l) (or_right (a == 0) true refl))
    (and_from (nat_lt a 1000000) _ (lt-ltb a 1000000 l) (or_right (a == 0) true refl)) root atomic

-- a slot of a round's instance is one of the session
round_right : (v : RoundRules) → RoundLaws v → (p : Numbers) (mode : Mode) (a : ℕ) (s : Slot) → mode.root ≡ v.root → a < rounds
    → is_round_slot v (round_scope v p a) s ≡ true → s.origin < p.n → slot_fault p mode s ≡ None
round_right v laws p mode a s same low e below =
    let all = rounds_are in
    let atomic : is_atomic mode.root ≡ true = ap is_atomic same ∙ atomic_root v laws in
    let number = numbered mode.root a atomic (omega (arith, low, all)) in
    let few : last_attempt v p ≡ (if has_tries mode.root then p.f else 0) = ap (λ (r : ℕ). if has_tries r then p.f else 0) (sym same) in
    let here : is_slot_in (if has_tries mode.root then p.f else 0) a s ≡ true = subst (λ (f : ℕ). is_slot_in f a s ≡ true) few e in
    elim (cases_Bool (has_tries mode.root)) [
      | inl tries ↦
          vector_slot_right p mode a s tries number
          (subst (λ (b : Bool). is_slot_in (if b then p.f else 0) a s ≡ true) tries here) below
      | inr once ↦
          round_slot_right p mode a s atomic number
          (subst (λ (b : Bool). is_slot_in (if b then p.f else 0) a s ≡ true) once here) below
    ]

-- they have commands
pub has_commands : (root : ℕ) → is_atomic root ≡ true → has_class root 1 ≡ true
unfolding has_class
has_commands root atomic = or_right (nat_le root 2) (is_atomic root) atomic

-- a command's slot is one of the session
command_right : (p : Numbers) (mode : Mode) (origin num : ℕ) → is_atomic mode.root ≡ true → origin < p.n → num < 1000000 → slot_fault p mode (command_slot origin num) ≡ None
command_right p mode origin num atomic below small =
    slot_is_right p mode (command_slot origin num) refl (has_commands mode.root atomic) (numbered mode.root num atomic small)
    (by_root (λ r. has_attempt r p.f 1 0 ≡ true) refl refl mode.root atomic) refl refl (lt-ltb origin p.n below)

-- an input is a command's value
input_command : (p : Numbers) (mode : Mode) (origin num : ℕ) (x : List ℕ) → is_atomic mode.root ≡ true → IsInput p mode x → Is (value p mode.root (command_slot origin num)) x
unfolding value input_format
input_command p mode origin num x atomic good =
    let P : ℕ → Type 0 = λ r. Is (input_format p r) x → Is (value p r (command_slot origin num)) x in
    by_root P (λ h. h) (λ h. h) mode.root atomic good

-- ---- lists of broadcasts

-- what holds of each broadcast holds of the list
good_of : (p : Numbers) (mode : Mode) (ys : List Say) → ((y : Say) → HasSay ys y → (slot_fault p mode y.slot ≡ None) × Is (value p mode.root y.slot) y.value) → AreGoodSays p mode ys
good_of p mode [] h = tt
good_of p mode (y ∷ ys) h = let x = h y (inl refl) in (x.0, x.1, good_of p mode ys (λ z k. h z (inr k)))

inputs_of : (seat : Seat) (w : List Word) (c : Word) (ys : List Say) → ((y : Say) → HasSay ys y → y.slot.class ≡ 1 → IsInputSaid seat w c y) → AreInputs seat w c ys
inputs_of seat w c [] h = tt
inputs_of seat w c (y ∷ ys) h = (h y (inl refl), inputs_of seat w c ys (λ z k. h z (inr k)))

module _ (v : RoundRules) (laws : RoundLaws v) (seat : Seat) (session : IsSession seat.numbers) where
  -- what this word newly says in a round, and what was said there
  abbrev new_says : ℕ → List Word → Word → List Say
  new_says a w c = says_of_round v laws seat session a w c

  abbrev old_says : ℕ → List Word → List Say
  old_says a w = said_in_round v laws seat session a w

  -- it is at a slot of this replica
  abbrev IsMine : Say → Type 0
  IsMine y = y.slot.origin ≡ seat.me

  -- ---- where a round says something

  -- what a word newly says in a round is new there
  inner_fresh : (a : ℕ) (w : List Word) (c : Word) → AreProper (ordered v) seat (c ∷ w) → AreFresh (IsRoundSaid v (round_desk v seat a)) (old_says a w) (new_says a w c)
  inner_fresh a w c proper =
      fresh_in (v.says (round_desk v seat a)) (MayRound v (round_desk v seat a)) (IsRoundSaid v (round_desk v seat a))
      (λ d u m. laws.says_new (round_desk v seat a) d u session refl m)
      (part_of (round_ask v seat a) (is_of_round a) w c) (round_words v seat a w) (round_met v (atomic_root v laws) seat a (c ∷ w) proper)

  -- and it is as a round's broadcasts must be
  round_say : (a : ℕ) (w : List Word) (c : Word) (y : Say) → AreProper (ordered v) seat (c ∷ w) → HasSay (new_says a w c) y → IsRoundSaid v (round_desk v seat a) y
  round_say a w c y proper h = fresh_each (IsRoundSaid v (round_desk v seat a)) (old_says a w) (new_says a w c) y (inner_fresh a w c proper) h

  -- what is said in the rounds below one
  record IsBelow (n : ℕ) (y : Say) : Type 0 where
    round : ℕ
    low : round < n
    good : IsRoundSaid v (round_desk v seat round) y
    at : IsOfRound round y.slot

  -- a broadcast of the rounds below one is one of a round
  below_is : (n : ℕ) (w : List Word) (c : Word) (y : Say) → AreProper (ordered v) seat (c ∷ w) → HasSay (rounds_say_below v seat n w c) y → IsBelow n y
  below_is n w c y proper h =
      let b = below_said v laws seat session n w c y h in
      let s = round_say b.0 w c y proper b.2 in
      record { round = b.0; low = b.1; good = s; at = of_round_is v seat.numbers b.0 y.slot s.slot }

  -- ---- what is said at command slots

  -- a command that was said has a number below the next one
  said_number : (w : List Word) (s : Slot) (x : List ℕ) → s.class ≡ 1 → AreProper (ordered v) seat w → HasSay (said (ordered v) seat w) (record { slot = s; value = x }) → s.a < asked w
  said_number [] s x one proper h = absurd h
  said_number (Ask u ∷ w) s x one proper (inl e) = let same = ap (λ (y : Say). y.slot.a) e in omega (arith, same)
  said_number (Ask u ∷ w) s x one proper (inr h) =
      elim (say_append (rounds_say_below v seat rounds w (Ask u)) (said (ordered v) seat w) _ h) [
        | inl b ↦ absurd (let l = (below_is rounds w (Ask u) _ proper b).at.class in omega (arith, l, one))
        | inr b ↦ let ih = said_number w s x one proper.1 b in omega (arith, ih)
      ]
  said_number (Hear q u ∷ w) s x one proper h =
      elim (say_append (rounds_say_below v seat rounds w (Hear q u)) (said (ordered v) seat w) _ h) [
        | inl b ↦ absurd (let l = (below_is rounds w (Hear q u) _ proper b).at.class in omega (arith, l, one))
        | inr b ↦ said_number w s x one proper.1 b
      ]

  -- so an input is said at a new slot
  command_fresh : (c : Word) (w : List Word) → AreProper (ordered v) seat (c ∷ w) → AreFresh IsMine (said (ordered v) seat w) (says_input seat w c)
  command_fresh (Hear s x) w proper = tt
  command_fresh (Ask x) w proper = (
    refl,
    unsaid (said (ordered v) seat w) (command_slot seat.me (asked w)) (λ u h. let l = said_number w (command_slot seat.me (asked w)) u refl proper.1 h in omega (arith, l)),
    refl,
    tt,
  )

  -- ---- what a word says is new

  -- what its round didn't say, the layer didn't
  round_unsaid : (a : ℕ) (w : List Word) → AreProper (ordered v) seat w → (y : Say) → IsRoundSaid v (round_desk v seat a) y → is_said (old_says a w) y.slot ≡ false
      → is_said (said (ordered v) seat w) y.slot ≡ false
  round_unsaid a w proper y h none =
      unsaid (said (ordered v) seat w) y.slot (λ x s.
      let of = (of_round_is v seat.numbers a y.slot h.slot).takes in
      both_ways _ none (has_said (old_says a w) (record { slot = y.slot; value = x }) (round_said v laws seat session a w y.slot x proper of s)))

  -- what is new in a round is new
  round_fresh : (a : ℕ) (w : List Word) (c : Word) → AreProper (ordered v) seat (c ∷ w) → AreFresh IsMine (said (ordered v) seat w) (new_says a w c)
  round_fresh a w c proper =
      fresh_other (IsRoundSaid v (round_desk v seat a)) IsMine (old_says a w) (said (ordered v) seat w) (new_says a w c)
      (λ y h. h.origin) (round_unsaid a w proper.1) (inner_fresh a w c proper)

  -- no two rounds say something at one slot
  not_again : (a b : ℕ) (w : List Word) (c : Word) (s : Slot) → AreProper (ordered v) seat (c ∷ w) → IsOfRound b s → b < a → is_said (new_says a w c) s ≡ false
  not_again a b w c s proper o l =
      unsaid (new_says a w c) s (λ x h.
      let e = (of_round_is v seat.numbers a s (round_say a w c (record { slot = s; value = x }) proper h).slot).number in
      let f = o.number in omega (arith, e, f, l))

  -- so is what is newly said in the rounds below one
  below_fresh : (n : ℕ) (w : List Word) (c : Word) → AreProper (ordered v) seat (c ∷ w) → AreFresh IsMine (said (ordered v) seat w) (rounds_say_below v seat n w c)
  below_fresh zero w c proper = tt
  below_fresh (suc n) w c proper =
      fresh_append IsMine (said (ordered v) seat w) (rounds_say_below v seat n w c) (new_says n w c) (below_fresh n w c proper) (round_fresh n w c proper)
      (λ y h. let b = below_is n w c y proper h in not_again n b.round w c y.slot proper b.at b.low)

  -- what is said is at new slots of this replica
  pub says_new : (c : Word) (w : List Word) → AreProper (ordered v) seat (c ∷ w) → AreNew (ordered v) seat w ((ordered v).says seat w c)
  says_new c w proper =
      fresh_append IsMine (said (ordered v) seat w) (says_input seat w c) (rounds_say_below v seat rounds w c) (command_fresh c w proper) (below_fresh rounds w c proper)
      (λ y h. unsaid (rounds_say_below v seat rounds w c) y.slot (λ x k.
      let l = (below_is rounds w c (record { slot = y.slot; value = x }) proper k).at.class in let e = command_class seat w c y h in omega (arith, l, e)))

  -- ---- and in the grammar

  -- it is at a slot of the session, with a value of its grammar
  abbrev IsGoodSay : Say → Type 0
  IsGoodSay y = (slot_fault seat.numbers seat.mode y.slot ≡ None) × Is (value seat.numbers seat.mode.root y.slot) y.value

  -- an input is said as it must be
  command_good : (c : Word) (w : List Word) (y : Say) → seat.me < seat.numbers.n → AreProper (ordered v) seat (c ∷ w) → HasSay (says_input seat w c) y → IsGoodSay y
  command_good (Hear s x) w y below proper h = absurd h
  command_good (Ask x) w y below proper (inr h) = absurd h
  command_good (Ask x) w y below proper (inl e) =
      let atomic : is_atomic seat.mode.root ≡ true = ap is_atomic (root_of v seat w (Ask x) proper.0) ∙ atomic_root v laws in
      subst IsGoodSay e (
        command_right seat.numbers seat.mode seat.me (asked w) atomic below proper.0.number,
        input_command seat.numbers seat.mode seat.me (asked w) x atomic proper.0.good,
      )

  -- and so is what a round says
  round_good_say : (c : Word) (w : List Word) (y : Say) → seat.me < seat.numbers.n → AreProper (ordered v) seat (c ∷ w) → HasSay (rounds_say_below v seat rounds w c) y → IsGoodSay y
  round_good_say c w y below proper h =
      let same = root_of v seat w c proper.0 in
      let b = below_is rounds w c y proper h in (
        round_right v laws seat.numbers seat.mode b.round y.slot same b.low b.good.slot (subst (λ (k : ℕ). k < seat.numbers.n) (sym b.good.origin) below),
        subst (λ (k : ℕ). Is (value seat.numbers k y.slot) y.value) (sym same) b.good.good,
      )

  -- what is said is in the grammar
  pub says_good : (c : Word) (w : List Word) → seat.me < seat.numbers.n → AreProper (ordered v) seat (c ∷ w) → AreGoodSays seat.numbers seat.mode ((ordered v).says seat w c)
  says_good c w below proper =
      good_of seat.numbers seat.mode ((ordered v).says seat w c) (λ y h.
      elim (say_append (says_input seat w c) (rounds_say_below v seat rounds w c) y h) [
        | inl x ↦ command_good c w y below proper x
        | inr x ↦ round_good_say c w y below proper x
      ])

  -- ---- and at command slots the inputs

  -- what is said of commands is the input, at the next number
  command_input : (c : Word) (w : List Word) (y : Say) → HasSay (says_input seat w c) y → IsInputSaid seat w c y
  command_input (Hear s x) w y h = absurd h
  command_input (Ask x) w y (inr h) = absurd h
  command_input (Ask x) w y (inl e) = subst (λ (z : Say). IsInputSaid seat w (Ask x) z) e (refl, refl)

  -- a command slot is said for an input alone
  pub commands_said : (c : Word) (w : List Word) → AreProper (ordered v) seat (c ∷ w) → AreInputs seat w c ((ordered v).says seat w c)
  commands_said c w proper =
      inputs_of seat w c ((ordered v).says seat w c) (λ y h one.
      elim (say_append (says_input seat w c) (rounds_say_below v seat rounds w c) y h) [
        | inl x ↦ command_input c w y x
        | inr x ↦ absurd (let l = (below_is rounds w c y proper x).at.class in omega (arith, l, one))
      ])
