-- What a word newly says in the rounds: the round that it is of says something, and so does a round that is asked by it.
use Rattle.std.specs.Prelude.{◌≡◌, ℕ, zero, suc, ◌<◌, ◌≤◌, Bool, true, false, not, ◌==◌, ◌&&◌, nat_lt, if◌then◌else◌, List, [], ◌∷◌, ◌++◌, refl, Option, Some, None, ◌⊎◌}
use Rattle.std.proofs.Common.{sym, ◌∙◌, ap, ap₂, inl, inr, arith, append-nil}
use Rattle.std.proofs.lemmas.Bool.{cases_order, eq-eqb, ne_eqb, lt-ltb, le-ltb, cases_lt}
use Rattle.std.proofs.lemmas.Option.{none-some}
use Rattle.ritas_base.specs.declared.slot.Slot.{Slot}
use Rattle.ritas_base.specs.declared.item.Say.{Say}
use Rattle.ritas_base.specs.declared.id.Id.{Id}
use Rattle.ritas_base.specs.Numbers.{IsSession}
use Rattle.layer_api.specs.Words.{Word, Ask, Hear}
use Rattle.layer_api.specs.Service.{Seat, AreProper}
use Rattle.layer_api.specs.Part.{newly_asked, passed, part_of, says_in}
use Rattle.ordered_rounds.specs.Box.{RoundRules, RoundLaws}
use Rattle.ordered_rounds.specs.Rounds.{round_desk, is_of_round, round_ask, round_words, rounds_say_below, rounds, ordered}
use Rattle.ordered_rounds.specs.Stepping.{heard_says, current, next_ask, next_says}
use Rattle.ordered_rounds.specs.Laws.AskedFirst.{ask_stays, unasked_before, unheard, unasked}
use Rattle.ordered_rounds.specs.Laws.CurrentRound.{heard_asked, comes_to}

module _ (v : RoundRules) (seat : Seat) (c : Word) (w : List Word) where
  -- what one round says
  abbrev pub round_says : ℕ → List Say
  round_says a = says_in (v.says (round_desk v seat a)) (part_of (round_ask v seat a) (is_of_round a) w c) (round_words v seat a w)

  -- the word doesn't ask the round
  abbrev pub IsRoundQuiet : ℕ → Type 0
  IsRoundQuiet a = newly_asked (round_ask v seat a w) (round_ask v seat a (c ∷ w)) ≡ []

  -- what the rounds below one say to what they hear
  abbrev pub heard_below : ℕ → Word → List Say
  heard_below n (Ask x) = []
  heard_below n (Hear s x) = if nat_lt s.a n then heard_says v seat w (Hear s x) else []

  -- what such a round says is what it says to what it hears
  quiet_round : (a : ℕ) → IsRoundQuiet a → round_says a ≡ says_in (v.says (round_desk v seat a)) (passed (is_of_round a) c) (round_words v seat a w)
  quiet_round a quiet = ap (λ (ds : List Word). says_in (v.says (round_desk v seat a)) (ds ++ passed (is_of_round a) c) (round_words v seat a w)) quiet

  abbrev heard_here : Slot → List ℕ → ℕ → List Say
  heard_here s x a = v.says (round_desk v seat a) (round_words v seat a w) (Hear s x)

  -- and with one round more
  heard_one : (n : ℕ) (d : Word) → heard_below n d ++ says_in (v.says (round_desk v seat n)) (passed (is_of_round n) d) (round_words v seat n w) ≡ heard_below (suc n) d
  heard_one n (Ask x) = refl
  heard_one n (Hear s x) =
      elim (cases_order s.a n) [
        | inl same ↦ rw (le-ltb s.a n (omega (arith, same)), eq-eqb s.a n same, lt-ltb s.a (suc n) (omega (arith, same))) (here same (s.class == 1))
        | inr (inl less) ↦ rw (lt-ltb s.a n less, ne_eqb s.a n (λ e. omega (arith, e, less)), lt-ltb s.a (suc n) (omega (arith, less))) (below (s.class == 1))
        | inr (inr more) ↦ rw (le-ltb s.a n (omega (arith, more)), ne_eqb s.a n (λ e. omega (arith, e, more)), le-ltb s.a (suc n) (omega (arith, more))) (above (s.class == 1))
      ]
    where
      here : s.a ≡ n → (b : Bool) → [] ++ says_in (v.says (round_desk v seat n)) (if not b && true then Hear s x ∷ [] else []) (round_words v seat n w) ≡ (if b then [] else heard_here s x s.a)
      here same true = refl
      here same false = ap (heard_here s x) (sym same)

      below : (b : Bool) → (if b then [] else heard_here s x s.a) ++ says_in (v.says (round_desk v seat n)) (if not b && false then Hear s x ∷ [] else []) (round_words v seat n w)
          ≡ (if b then [] else heard_here s x s.a)
      below true = refl
      below false = append-nil (heard_here s x s.a)

      above : (b : Bool) → [] ++ says_in (v.says (round_desk v seat n)) (if not b && false then Hear s x ∷ [] else []) (round_words v seat n w) ≡ []
      above true = refl
      above false = refl

  -- where none of them is asked, they say what they say to what they hear
  pub quiet_says : (n : ℕ) → ((a : ℕ) → a < n → IsRoundQuiet a) → rounds_say_below v seat n w c ≡ heard_below n c
  quiet_says zero quiet = sym (nothing_below c)
    where
      nothing_below : (d : Word) → heard_below zero d ≡ []
      nothing_below (Ask x) = refl
      nothing_below (Hear s x) = rw (le-ltb s.a zero (omega arith)) refl
  quiet_says (suc n) quiet =
      ap₂ (λ (xs ys : List Say). xs ++ ys) (quiet_says n (λ a l. quiet a (omega (arith, l)))) (quiet_round n (quiet n (omega arith)))
      ∙ heard_one n c

  -- rounds that say nothing may be left out
  pub says_only : (k n : ℕ) → k ≤ n → ((a : ℕ) → k ≤ a → a < n → round_says a ≡ []) → rounds_say_below v seat n w c ≡ rounds_say_below v seat k w c
  says_only k zero few none = let e : zero ≡ k = omega (arith, few) in ap (λ (j : ℕ). rounds_say_below v seat j w c) e
  says_only k (suc n) few none =
      elim (cases_order k (suc n)) [
        | inl same ↦ ap (λ (j : ℕ). rounds_say_below v seat j w c) (sym same)
        | inr (inl less) ↦
            ap (λ (ys : List Say). rounds_say_below v seat n w c ++ ys) (none n (omega (arith, less)) (omega arith))
            ∙ (append-nil (rounds_say_below v seat n w c) ∙ says_only k n (omega (arith, less)) (λ a l m. none a l (omega (arith, m))))
        | inr (inr more) ↦ absurd (omega (arith, few, more))
      ]

module _ (v : RoundRules) (laws : RoundLaws v) (seat : Seat) (session : IsSession seat.numbers) where
  -- the slot that is heard is of a round below this one
  abbrev IsOfBelow : ℕ → Word → Type 0
  IsOfBelow n (Ask x) = Unit {0}
  IsOfBelow n (Hear s x) = (s.class == 1) ≡ false → s.a < n

  -- then the rounds below say all that is said to it
  heard_all : (n : ℕ) (c : Word) (w : List Word) → IsOfBelow n c → heard_below v seat c w n c ≡ heard_says v seat w c
  heard_all n (Ask x) w l = refl
  heard_all n (Hear s x) w l = go (s.class == 1) refl (nat_lt s.a n) refl
    where
      go : (b : Bool) → (s.class == 1) ≡ b → (less : Bool) → nat_lt s.a n ≡ less
          → (if less then if b then [] else v.says (round_desk v seat s.a) (round_words v seat s.a w) (Hear s x) else [])
          ≡ (if b then [] else v.says (round_desk v seat s.a) (round_words v seat s.a w) (Hear s x))
      go b e true f = refl
      go true e false f = refl
      go false e false f = absurd (let z : true ≡ false = sym (lt-ltb s.a n (l e)) ∙ f in cc)

  of_rounds : (c : Word) (w : List Word) → AreProper (ordered v) seat (c ∷ w) → IsOfBelow rounds c
  of_rounds (Ask x) w proper = tt
  of_rounds (Hear s x) w proper = λ other. (comes_to v laws seat session s x w proper other).round

  -- it isn't of a round that wasn't asked
  of_below : (n : ℕ) (c : Word) (w : List Word) → AreProper (ordered v) seat (c ∷ w) → current v seat w ≤ n → round_ask v seat n w ≡ None → IsOfBelow n c
  of_below n (Ask x) w proper l none = tt
  of_below n (Hear s x) w proper l none = λ other.
      let begun = (comes_to v laws seat session s x w proper other).begun in
      let u = heard_asked v laws seat session s x w proper other in
      elim (cases_order s.a n) [
        | inl same ↦ absurd (none-some u.0 (sym none ∙ (ap (λ (k : ℕ). round_ask v seat k w) (sym same) ∙ u.1)))
        | inr (inl less) ↦ less
        | inr (inr more) ↦ absurd (omega (arith, begun, l, more))
      ]

  -- a round isn't asked anew that was asked, nor is one that isn't asked now
  pub quiet_asked : (a : ℕ) (c : Word) (w : List Word) (u : List ℕ) → round_ask v seat a w ≡ Some u → IsRoundQuiet v seat c w a
  quiet_asked a c w u q = ap₂ (λ (o p : Option (List ℕ)). newly_asked o p) q (ask_stays v laws seat session a c w u q)

  pub quiet_unasked : (a : ℕ) (c : Word) (w : List Word) → round_ask v seat a (c ∷ w) ≡ None → IsRoundQuiet v seat c w a
  quiet_unasked a c w none = ap (λ (p : Option (List ℕ)). newly_asked (round_ask v seat a w) p) none

  -- where no round is asked, the round of the word alone says something
  pub says_quiet : (c : Word) (w : List Word) → AreProper (ordered v) seat (c ∷ w) → ((a : ℕ) → a < rounds → IsRoundQuiet v seat c w a)
      → rounds_say_below v seat rounds w c ≡ heard_says v seat w c
  says_quiet c w proper quiet = quiet_says v seat c w rounds quiet ∙ heard_all rounds c w (of_rounds c w proper)

  -- what a round says that wasn't asked before
  says_new : (a : ℕ) (c : Word) (w : List Word) → AreProper (ordered v) seat (c ∷ w) → round_ask v seat a w ≡ None
      → round_says v seat c w a ≡ says_in (v.says (round_desk v seat a)) (newly_asked None (round_ask v seat a (c ∷ w))) []
  says_new a c w proper none =
      let words = unasked v laws seat session a w proper.1 none in
      let heard = unheard v laws seat session a c w proper.0 words in
      ap₂ (λ (ds u : List Word). says_in (v.says (round_desk v seat a)) ds u)
      (ap₂ (λ (o : Option (List ℕ)) (ds : List Word). newly_asked o (round_ask v seat a (c ∷ w)) ++ ds) none heard ∙ append-nil (newly_asked None (round_ask v seat a (c ∷ w))))
      words

  -- where one round may be asked, what it says comes after that
  says_one : (n : ℕ) (c : Word) (w : List Word) → AreProper (ordered v) seat (c ∷ w) → current v seat w ≤ n → n < rounds → ((a : ℕ) → a < n → IsRoundQuiet v seat c w a)
      → round_ask v seat n w ≡ None → ((a : ℕ) → n < a → a < rounds → round_ask v seat a (c ∷ w) ≡ None)
      → rounds_say_below v seat rounds w c ≡ heard_says v seat w c ++ says_in (v.says (round_desk v seat n)) (newly_asked None (round_ask v seat n (c ∷ w))) []
  says_one n c w proper l m quiet none above =
      says_only v seat c w (suc n) rounds (omega (arith, m)) (λ a more less. silent a (above a (omega (arith, more)) less))
      ∙ ap₂ (λ (xs ys : List Say). xs ++ ys) (quiet_says v seat c w n quiet ∙ heard_all n c w (of_below n c w proper l none)) (says_new n c w proper none)
    where
      silent : (a : ℕ) → round_ask v seat a (c ∷ w) ≡ None → round_says v seat c w a ≡ []
      silent a e =
          says_new a c w proper (unasked_before v laws seat session a c w e)
          ∙ ap (λ (o : Option (List ℕ)). says_in (v.says (round_desk v seat a)) (newly_asked None o) []) e

  -- what a round says that begins, if there is a round of such a number
  next_within : (n : ℕ) (h : List Word) (log : List Id) → n < rounds
      → next_says v seat n h log ≡ says_in (v.says (round_desk v seat n)) (newly_asked None (next_ask v seat h log)) []
  next_within n h log l = ap (λ (b : Bool). if b then says_in (v.says (round_desk v seat n)) (newly_asked None (next_ask v seat h log)) [] else []) (lt-ltb n rounds l)

  next_over : (n : ℕ) (h : List Word) (log : List Id) → rounds ≤ n → next_says v seat n h log ≡ []
  next_over n h log l = ap (λ (b : Bool). if b then says_in (v.says (round_desk v seat n)) (newly_asked None (next_ask v seat h log)) [] else []) (le-ltb n rounds l)

  -- where a round may begin by the word, or none has such a number
  pub says_next : (n : ℕ) (c : Word) (w : List Word) (log : List Id) → AreProper (ordered v) seat (c ∷ w) → current v seat w ≤ n → ((a : ℕ) → a < n → IsRoundQuiet v seat c w a)
      → round_ask v seat n w ≡ None → ((a : ℕ) → n < a → a < rounds → round_ask v seat a (c ∷ w) ≡ None) → round_ask v seat n (c ∷ w) ≡ next_ask v seat (c ∷ w) log
      → rounds_say_below v seat rounds w c ≡ heard_says v seat w c ++ next_says v seat n (c ∷ w) log
  says_next n c w log proper l quiet none above asks = go (cases_lt n rounds)
    where
      go : (n < rounds) ⊎ (rounds ≤ n) → rounds_say_below v seat rounds w c ≡ heard_says v seat w c ++ next_says v seat n (c ∷ w) log
      go (inl m) =
          says_one n c w proper l m quiet none above
          ∙ ap (λ (ys : List Say). heard_says v seat w c ++ ys)
          (ap (λ (o : Option (List ℕ)). says_in (v.says (round_desk v seat n)) (newly_asked None o) []) asks ∙ sym (next_within n (c ∷ w) log m))
      go (inr full) =
          says_quiet c w proper (λ a m. quiet a (omega (arith, full, m)))
          ∙ (sym (append-nil (heard_says v seat w c)) ∙ ap (λ (ys : List Say). heard_says v seat w c ++ ys) (sym (next_over n (c ∷ w) log full)))
