-- What a word does to the rounds, as the proofs of the code read it.
use Rattle.std.specs.Prelude.{◌≡◌, ℕ, ◌<◌, ◌==◌, Bool, true, false, not, ◌&&◌, ◌||◌, if◌then◌else◌, List, [], ◌∷◌, ◌++◌, Option, Some, None, is_some, refl, ◌⊎◌}
use Rattle.std.proofs.Common.{sym, ◌∙◌, ap, ap₂, inl, inr, arith}
use Rattle.std.proofs.lemmas.Bool.{cases_lt, cases_Bool, and_parts, and_from, not-true, eqb-true, ne_eqb, eq-eqb, both_ways, false_from_ne_true}
use Rattle.std.proofs.lemmas.Option.{none-some}
use Rattle.std.specs.Option.{option_or}
use Rattle.ritas_base.specs.declared.slot.Slot.{Slot}
use Rattle.ritas_base.specs.declared.id.Id.{Id}
use Rattle.ritas_base.specs.Numbers.{IsSession}
use Rattle.ritas_base.specs.Slots.{command_slot}
use Rattle.ritas_base.specs.SlotLaws.{right_command}
use Rattle.ritas_base.specs.SlotOrder.{is_slot, same_slot, slot_itself}
use Rattle.layer_api.specs.Service.{Seat, AreProper, has_id}
use Rattle.layer_api.specs.Words.{Word, Ask, Hear, is_heard}
use Rattle.layer_api.specs.Part.{newly_asked, passed}
use Rattle.ordered_rounds.specs.Box.{RoundRules, RoundLaws}
use Rattle.ordered_rounds.specs.Identifiers.{all_pass}
use Rattle.ordered_rounds.specs.Rounds.{delivered_ids, has_command, appended, is_of_round, completes_with, round_desk, round_ask, round_words, rounds, ordered}
use Rattle.ordered_rounds.specs.Laws.Roots.{atomic_root}
use Rattle.ordered_rounds.specs.Laws.WordsMeet.{round_met}
use Rattle.ordered_rounds.specs.Laws.RoundsStay.{spent_stay}
use Rattle.ordered_rounds.specs.Laws.AskedFirst.{words_asked}
use Rattle.ordered_rounds.specs.Laws.QuietRounds.{pass_same}
use Rattle.ordered_rounds.specs.Stepping.{current, log_now, heard_words, next_ask, words_now, completes_now, Remains, Advances}
use Rattle.ordered_rounds.specs.Laws.Stepping.{asked_before, remains, remains_full, advances, no_step}
use Rattle.ordered_rounds.proofs.Ids.{same_test}

-- what is there, where a test says so
pub some_value : {X : Type 0} (o : Option X) → is_some o ≡ true → (x : X) × (o ≡ Some x)
some_value None q = absurd cc
some_value (Some x) q = (x, refl)

-- ---- what is delivered

same_id : (o a : ℕ) (x : Id) → (o == x.origin && a == x.num) ≡ is_slot (command_slot o a) (command_slot x.origin x.num)
same_id o a x =
    same_test (o == x.origin && a == x.num) _
    (λ e.
    let t = and_parts (o == x.origin) (a == x.num) e in
    ap₂ (λ (p k : ℕ). is_slot (command_slot o a) (command_slot p k)) (sym (eqb-true o x.origin t.0)) (sym (eqb-true a x.num t.1)) ∙ slot_itself (command_slot o a))
    (λ e.
    let s = same_slot (command_slot o a) (command_slot x.origin x.num) e in
    and_from (o == x.origin) (a == x.num) (eq-eqb o x.origin (ap (λ (q : Slot). q.origin) s)) (eq-eqb a x.num (ap (λ (q : Slot). q.a) s)))

not_command : (s : Slot) (x : Id) → (s.class == 1) ≡ false → is_slot s (command_slot x.origin x.num) ≡ false
not_command s x other =
    false_from_ne_true (is_slot s (command_slot x.origin x.num))
    (λ e. both_ways (s.class == 1) other (ap (λ (q : Slot). q.class == 1) (same_slot s (command_slot x.origin x.num) e)))

-- the command of an identifier was heard where it is among those delivered
pub delivered_heard : (v : RoundRules) (seat : Seat) (w : List Word) → AreProper (ordered v) seat w → (x : Id) → has_id (delivered_ids w) x ≡ has_command w x
delivered_heard v seat [] m x = refl
delivered_heard v seat (Ask y ∷ w) m x = delivered_heard v seat w m.1 x
delivered_heard v seat (Hear s y ∷ w) m x =
    elim (cases_Bool (s.class == 1)) [
      | inl one ↦
          let own = right_command seat.numbers seat.mode s m.0.right one in
          ap (λ (b : Bool). has_id (if b then record { origin = s.origin; num = s.a } ∷ delivered_ids w else delivered_ids w) x) one
          ∙ ap₂ (λ (a b : Bool). a || b)
          (same_id s.origin s.a x ∙ ap (λ (q : Slot). is_slot q (command_slot x.origin x.num)) (sym own))
          (delivered_heard v seat w m.1 x)
      | inr other ↦
          ap (λ (b : Bool). has_id (if b then record { origin = s.origin; num = s.a } ∷ delivered_ids w else delivered_ids w) x) other
          ∙ (delivered_heard v seat w m.1 x
          ∙ sym (ap (λ (b : Bool). b || is_heard w (command_slot x.origin x.num)) (not_command s x other)))
    ]

pub all_delivered : (v : RoundRules) (seat : Seat) (w : List Word) → AreProper (ordered v) seat w → (xs : List Id)
    → all_pass (has_id (delivered_ids w)) xs ≡ all_pass (has_command w) xs
all_delivered v seat w m xs = pass_same (has_id (delivered_ids w)) (has_command w) xs (delivered_heard v seat w m)

-- ---- what completes a round

module _ (v : RoundRules) (seat : Seat) (old : List Id) (h : List Word) where
  -- something is decided whose wanted commands are there
  pub record IsComplete (decided : Option (List ℕ)) (log : List Id) : Type 0 where
    pub vector : List ℕ
    pub is : decided ≡ Some vector
    pub there : all_pass (has_command h) (v.wanted seat.numbers vector) ≡ true
    pub log_is : log ≡ appended v seat.numbers vector old

  pub complete_by : (decided : Option (List ℕ)) (log : List Id) → completes_with v seat (Some old) decided h ≡ Some log → IsComplete decided log
  complete_by None log q = absurd cc
  complete_by (Some vector) log q = go (all_pass (has_command h) (v.wanted seat.numbers vector)) refl q
    where
      go : (b : Bool) → all_pass (has_command h) (v.wanted seat.numbers vector) ≡ b → (if b then Some (appended v seat.numbers vector old) else None) ≡ Some log
          → IsComplete (Some vector) log
      go true e q = record { vector = vector; is = refl; there = e; log_is = let same : appended v seat.numbers vector old ≡ log = cc in sym same }
      go false e q = absurd cc

  pub complete_where : (decided : Option (List ℕ)) (vector : List ℕ) → decided ≡ Some vector → all_pass (has_command h) (v.wanted seat.numbers vector) ≡ true
      → completes_with v seat (Some old) decided h ≡ Some (appended v seat.numbers vector old)
  complete_where decided vector is there =
      ap (λ (d : Option (List ℕ)). completes_with v seat (Some old) d h) is ∙ ap (λ (b : Bool). if b then Some (appended v seat.numbers vector old) else None) there

  pub incomplete_where : (decided : Option (List ℕ)) (vector : List ℕ) → decided ≡ Some vector → all_pass (has_command h) (v.wanted seat.numbers vector) ≡ false
      → completes_with v seat (Some old) decided h ≡ None
  incomplete_where decided vector is there =
      ap (λ (d : Option (List ℕ)). completes_with v seat (Some old) d h) is ∙ ap (λ (b : Bool). if b then Some (appended v seat.numbers vector old) else None) there

  pub undecided : (decided : Option (List ℕ)) → decided ≡ None → completes_with v seat (Some old) decided h ≡ None
  undecided decided none = ap (λ (d : Option (List ℕ)). completes_with v seat (Some old) d h) none

-- ---- one word

-- the current round doesn't become complete
pub record Stays (v : RoundRules) (seat : Seat) (c : Word) (w : List Word) : Type 0 where
  pub remains : Remains v seat c w
  pub incomplete : current v seat w < rounds → completes_now v seat c w ≡ None

-- or it does
pub record Goes (v : RoundRules) (seat : Seat) (c : Word) (w : List Word) : Type 0 where
  pub log : List Id
  pub small : current v seat w < rounds
  pub completes : completes_now v seat c w ≡ Some log
  pub advances : Advances v seat c w log

module _ (v : RoundRules) (laws : RoundLaws v) (seat : Seat) (session : IsSession seat.numbers) (c : Word) (w : List Word) (proper : AreProper (ordered v) seat (c ∷ w)) where
  pub stays_or_goes : Stays v seat c w ⊎ Goes v seat c w
  stays_or_goes =
      elim (cases_lt (current v seat w) rounds) [
        | inl small ↦ go small (completes_now v seat c w) refl
        | inr full ↦ inl (record { remains = remains_full v laws seat session c w proper full; incomplete = λ l. absurd (omega (arith, l, full)) })
      ]
    where
      go : current v seat w < rounds → (o : Option (List Id)) → completes_now v seat c w ≡ o → Stays v seat c w ⊎ Goes v seat c w
      go small None e = inl (record { remains = remains v laws seat session c w proper small e; incomplete = λ l. e })
      go small (Some log) e = inr (record { log = log; small = small; completes = e; advances = advances v laws seat session c w log proper small e })

  -- a round that was asked hears the word, and no more
  pub words_heard : (a : ℕ) → is_some (round_ask v seat a w) ≡ true → round_words v seat a (c ∷ w) ≡ heard_words v seat c w a
  words_heard a asked = let u = some_value (round_ask v seat a w) asked in words_asked v laws seat session a c w u.0 u.1

  -- the words of the current round, where it was asked
  pub words_same : is_some (round_ask v seat (current v seat w) w) ≡ true → words_now v seat c w ≡ heard_words v seat c w (current v seat w)
  words_same asked =
      let u = some_value (round_ask v seat (current v seat w) w) asked in
      go (round_ask v seat (current v seat w) w) u.0 u.1
    where
      go : (o : Option (List ℕ)) (x : List ℕ) → o ≡ Some x
          → newly_asked o (option_or o (next_ask v seat (c ∷ w) (log_now v seat w))) ++ heard_words v seat c w (current v seat w) ≡ heard_words v seat c w (current v seat w)
      go None x q = absurd cc
      go (Some y) x q = refl

  module _ (goes : Goes v seat c w) where
    abbrev n : ℕ
    n = current v seat w

    pub was_asked : is_some (round_ask v seat n w) ≡ true
    was_asked = ap is_some (asked_before v laws seat session c w goes.log proper goes.completes).1

    pub done : IsComplete v seat (log_now v seat w) (c ∷ w) (v.decision (round_desk v seat n) (words_now v seat c w)) goes.log
    done = complete_by v seat (log_now v seat w) (c ∷ w) (v.decision (round_desk v seat n) (words_now v seat c w)) goes.log goes.completes

    heard_is : round_words v seat n (c ∷ w) ≡ heard_words v seat c w n
    heard_is = words_heard n was_asked

    -- it isn't spent, before the word and after it
    later_not : v.spent (round_desk v seat n) (round_words v seat n (c ∷ w)) ≡ false
    later_not =
        false_from_ne_true _ (λ e.
        let none = laws.spent_alone (round_desk v seat n) (round_words v seat n (c ∷ w)) (round_met v (atomic_root v laws) seat n (c ∷ w) proper) e in
        let some = ap (v.decision (round_desk v seat n)) (heard_is ∙ sym (words_same was_asked)) ∙ done.is in
        none-some done.vector (sym none.0 ∙ some))

    pub not_spent_after : v.spent (round_desk v seat n) (heard_words v seat c w n) ≡ false
    not_spent_after = ap (v.spent (round_desk v seat n)) (sym heard_is) ∙ later_not

    pub not_spent_before : v.spent (round_desk v seat n) (round_words v seat n w) ≡ false
    not_spent_before = false_from_ne_true _ (λ e. both_ways _ later_not (spent_stay v laws seat n c w proper e))

-- a word that completes the current round isn't one of another round
pub only_current : (v : RoundRules) (laws : RoundLaws v) (seat : Seat) (session : IsSession seat.numbers) (c : Word) (w : List Word) (proper : AreProper (ordered v) seat (c ∷ w))
    → Goes v seat c w → (a : ℕ) → (a ≡ current v seat w → ⊥) → passed (is_of_round a) c ≡ []
only_current v laws seat session (Ask x) w proper goes a other = refl
only_current v laws seat session (Hear s x) w proper goes a other =
    elim (cases_Bool (is_of_round a s)) [
      | inl of ↦
          let t = and_parts (not (s.class == 1)) (s.a == a) of in
          let still = no_step v laws seat session s x w proper (not-true (s.class == 1) t.0) (ne_eqb s.a (current v seat w) (λ e. other (sym (eqb-true s.a a t.1) ∙ e))) in
          let same = still.same in
          let next = goes.advances.next in
          absurd (omega (arith, same, next))
      | inr not_of ↦ ap (λ (b : Bool). if b then Hear s x ∷ [] else []) not_of
    ]
