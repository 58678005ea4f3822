-- What one word does to the rounds: the laws of it, over any rounds with their laws.
use Rattle.std.specs.Prelude.{◌≡◌, ℕ, zero, suc, ◌<◌, ◌≤◌, ◌==◌, Bool, false, not, if◌then◌else◌, List, [], ◌∷◌, ◌++◌, Option, Some, None, refl, ◌⊎◌}
use Rattle.std.specs.Option.{option_or}
use Rattle.std.proofs.Common.{sym, ◌∙◌, ap, ap₂, subst, inl, inr, arith}
use Rattle.std.proofs.lemmas.Bool.{cases_order, cases_lt, and_right}
use Rattle.std.proofs.lemmas.Option.{none-some}
use Rattle.ritas_base.specs.declared.slot.Slot.{Slot}
use Rattle.ritas_base.specs.declared.id.Id.{Id}
use Rattle.ritas_base.specs.Numbers.{IsSession}
use Rattle.layer_api.specs.Words.{Word, Ask, Hear}
use Rattle.layer_api.specs.Service.{Seat, AreProper}
use Rattle.layer_api.specs.Part.{newly_asked}
use Rattle.ordered_rounds.specs.Box.{RoundRules, RoundLaws}
use Rattle.ordered_rounds.specs.Rounds.{begins_with, completes_with, completes_at, log_below, round_ask, round_words, rounds_say_below, rounds, ordered}
use Rattle.ordered_rounds.specs.Stepping.{current, log_now, heard_says, heard_words, next_ask, next_says, completes_now, RoundSteps, Remains, Advances}
use Rattle.ordered_rounds.specs.Laws.AskedFirst.{newly_same, words_more, ask_stays, words_asked, words_new, undecided_new}
use Rattle.ordered_rounds.specs.Laws.CompleteRounds.{complete_is, complete_all}
use Rattle.ordered_rounds.specs.Laws.NewlySaid.{IsRoundQuiet, quiet_says, quiet_asked, quiet_unasked, says_quiet, says_next}
use Rattle.ordered_rounds.specs.Laws.QuietRounds.{no_command, none_delivered, ask_same, log_same, count_same, last_same}
use Rattle.ordered_rounds.specs.Laws.LogsByRound.{log_complete, complete_small}
use Rattle.ordered_rounds.specs.Laws.CurrentRound.{log_here, asks_here, words_here, completes_here, log_next}
pub use Rattle.ordered_rounds.specs.Laws.AskedFirst.{unasked, asked_words}
pub use Rattle.ordered_rounds.specs.Laws.CurrentRound.{log_there, log_not_yet, asked_below, not_ahead, full_is, heard_asked, comes_to, may_ask}

-- no round is asked by this word, and none becomes complete
pub record IsStill (v : RoundRules) (seat : Seat) (c : Word) (w : List Word) : Type 0 where
  pub same : current v seat (c ∷ w) ≡ current v seat w
  pub log : log_now v seat (c ∷ w) ≡ log_now v seat w
  pub asks : (a : ℕ) → round_ask v seat a (c ∷ w) ≡ round_ask v seat a w
  pub words : (a : ℕ) → round_words v seat a (c ∷ w) ≡ heard_words v seat c w a
  pub says : rounds_say_below v seat rounds w c ≡ heard_says v seat w c

-- nothing completes a round that decided nothing
undecided_completes : (v : RoundRules) (seat : Seat) (before : Option (List Id)) (h : List Word) → completes_with v seat before None h ≡ None
undecided_completes v seat None h = refl
undecided_completes v seat (Some log) h = refl

module _ (v : RoundRules) (laws : RoundLaws v) (seat : Seat) (session : IsSession seat.numbers) where
  -- what holds by every word
  pub steps : (c : Word) (w : List Word) → AreProper (ordered v) seat (c ∷ w) → RoundSteps v seat c w
  steps c w proper = record {
    below = λ a l. let u = asked_below v laws seat session a w proper.1 l in words_asked v laws seat session a c w u.0 u.1;
    asks = λ l. asks_here v laws seat session c w;
    words = λ l. words_here v laws seat session c w;
  }

  -- ---- the current round remains

  -- rounds that were asked aren't asked anew
  quiet_below : (c : Word) (w : List Word) → AreProper (ordered v) seat w → (a : ℕ) → a < current v seat w → IsRoundQuiet v seat c w a
  quiet_below c w proper a l = let u = asked_below v laws seat session a w proper l in quiet_asked v laws seat session a c w u.0 u.1

  quiet_to : (c : Word) (w : List Word) (u : List ℕ) → AreProper (ordered v) seat w → round_ask v seat (current v seat w) w ≡ Some u
      → (a : ℕ) → a ≤ current v seat w → IsRoundQuiet v seat c w a
  quiet_to c w u proper q a l =
      elim (cases_order a (current v seat w)) [
        | inl same ↦ subst (λ (k : ℕ). IsRoundQuiet v seat c w k) (sym same) (quiet_asked v laws seat session (current v seat w) c w u q)
        | inr (inl less) ↦ quiet_below c w proper a less
        | inr (inr more) ↦ absurd (omega (arith, l, more))
      ]

  -- where the current round is the one it was, it alone may be asked
  remains_with : (c : Word) (w : List Word) → AreProper (ordered v) seat (c ∷ w) → current v seat (c ∷ w) ≡ current v seat w → log_now v seat (c ∷ w) ≡ log_now v seat w
      → Remains v seat c w
  remains_with c w proper same log = record {
    same = same;
    log = log;
    above = λ a l m. not_ahead v laws seat session a (c ∷ w) proper (omega (arith, same, l));
    says_old = λ u q. says_quiet v laws seat session c w proper (λ a l. old u q a (cases_lt (current v seat w) a));
    says_new = λ none.
        says_next v laws seat session (current v seat w) c w (log_now v seat w) proper (omega arith) (quiet_below c w proper.1) none (λ a more less. unasked_above a more)
        (asks_here v laws seat session c w ∙ ap (λ (o : Option (List ℕ)). option_or o (next_ask v seat (c ∷ w) (log_now v seat w))) none);
  }
    where
      unasked_above : (a : ℕ) → current v seat w < a → round_ask v seat a (c ∷ w) ≡ None
      unasked_above a l = (not_ahead v laws seat session a (c ∷ w) proper (omega (arith, same, l))).0

      old : (u : List ℕ) → round_ask v seat (current v seat w) w ≡ Some u → (a : ℕ) → (current v seat w < a) ⊎ (a ≤ current v seat w) → IsRoundQuiet v seat c w a
      old u q a (inl more) = quiet_unasked v laws seat session a c w (unasked_above a more)
      old u q a (inr l) = quiet_to c w u proper.1 q a l

  -- it does where it doesn't become complete
  pub remains : (c : Word) (w : List Word) → AreProper (ordered v) seat (c ∷ w) → current v seat w < rounds → completes_now v seat c w ≡ None → Remains v seat c w
  remains c w proper l none =
      let there = log_here v laws seat session c w in
      let k = complete_is v seat rounds (current v seat w) (c ∷ w) (log_now v seat w) (omega (arith, l)) there (log_next v laws seat session c w proper.1 ∙ none) in
      remains_with c w proper k.count k.log_is

  -- and where all rounds are complete
  pub remains_full : (c : Word) (w : List Word) → AreProper (ordered v) seat (c ∷ w) → rounds ≤ current v seat w → Remains v seat c w
  remains_full c w proper full =
      let same = full_is v laws seat session w full in
      let there = subst (λ (n : ℕ). log_below v seat n (c ∷ w) ≡ Some (log_now v seat w)) same (log_here v laws seat session c w) in
      let k = complete_all v seat rounds (c ∷ w) (log_now v seat w) (complete_small v seat rounds (c ∷ w)) there in
      remains_with c w proper (k.count ∙ sym same) k.log_is

  -- ---- it becomes complete

  -- no round that wasn't asked before does
  never : (a : ℕ) (c : Word) (w : List Word) → AreProper (ordered v) seat (c ∷ w) → round_ask v seat a w ≡ None → completes_at v seat a (log_below v seat a) (c ∷ w) ≡ None
  never a c w proper none =
      ap (λ (o : Option (List ℕ)). completes_with v seat (log_below v seat a (c ∷ w)) o (c ∷ w)) (undecided_new v laws seat session a c w proper none)
      ∙ undecided_completes v seat (log_below v seat a (c ∷ w)) (c ∷ w)

  pub asked_before : (c : Word) (w : List Word) (log : List Id) → AreProper (ordered v) seat (c ∷ w) → completes_now v seat c w ≡ Some log
      → (u : List ℕ) × (round_ask v seat (current v seat w) w ≡ Some u)
  asked_before c w log proper q = go (round_ask v seat (current v seat w) w) refl
    where
      go : (o : Option (List ℕ)) → round_ask v seat (current v seat w) w ≡ o → (u : List ℕ) × (round_ask v seat (current v seat w) w ≡ Some u)
      go (Some u) e = (u, e)
      go None e = absurd (none-some log (sym (never (current v seat w) c w proper e) ∙ (completes_here v laws seat session c w ∙ q)))

  -- so the next one doesn't by the same word
  module _ (c : Word) (w : List Word) (log : List Id) (proper : AreProper (ordered v) seat (c ∷ w)) (q : completes_now v seat c w ≡ Some log) where
    abbrev next : ℕ
    next = suc (current v seat w)

    unasked_next : round_ask v seat next w ≡ None
    unasked_next = (not_ahead v laws seat session next w proper.1 (omega arith)).0

    log_then : log_below v seat next (c ∷ w) ≡ Some log
    log_then = log_next v laws seat session c w proper.1 ∙ q

    log_not_after : log_below v seat (suc next) (c ∷ w) ≡ None
    log_not_after =
        ap₂ (λ (o p : Option (List Id)). option_or o p) (log_not_yet v laws seat session (suc next) w proper.1 (omega arith)) (never next c w proper unasked_next)

    asks_next : round_ask v seat next (c ∷ w) ≡ next_ask v seat (c ∷ w) log
    asks_next = ap₂ (λ (o : Option (List ℕ)) (before : Option (List Id)). option_or o (begins_with seat before (c ∷ w))) unasked_next log_then

    above_next : current v seat (c ∷ w) ≡ next → (a : ℕ) → next < a → (round_ask v seat a (c ∷ w) ≡ None) × (round_words v seat a (c ∷ w) ≡ [])
    above_next same a more = not_ahead v laws seat session a (c ∷ w) proper (omega (arith, same, more))

    says_then : current v seat (c ∷ w) ≡ next → rounds_say_below v seat rounds w c ≡ heard_says v seat w c ++ next_says v seat next (c ∷ w) log
    says_then same =
        let u = asked_before c w log proper q in
        says_next v laws seat session next c w log proper (omega arith) (λ a l. quiet_to c w u.0 proper.1 u.1 a (omega (arith, l))) unasked_next
        (λ a more less. (above_next same a more).0) asks_next

  pub advances : (c : Word) (w : List Word) (log : List Id) → AreProper (ordered v) seat (c ∷ w) → current v seat w < rounds → completes_now v seat c w ≡ Some log
      → Advances v seat c w log
  advances c w log proper l q =
      let k = complete_is v seat rounds (suc (current v seat w)) (c ∷ w) log (omega (arith, l)) (log_then c w log proper q) (log_not_after c w log proper q) in
      record {
        next = k.count;
        log_is = k.log_is;
        asks = λ m. asks_next c w log proper q;
        words = λ m.
            words_new v laws seat session (suc (current v seat w)) c w proper (unasked_next c w log proper q)
            ∙ ap (λ (o : Option (List ℕ)). newly_asked None o) (asks_next c w log proper q);
        above = λ a more less. above_next c w log proper q k.count a more;
        says = says_then c w log proper q k.count;
      }

  -- so the rounds that are complete are more by one at most
  pub rises : (c : Word) (w : List Word) → AreProper (ordered v) seat (c ∷ w) → current v seat (c ∷ w) ≤ suc (current v seat w)
  rises c w proper =
      elim (cases_lt (current v seat w) rounds) [
        | inl l ↦ go l (completes_now v seat c w) refl
        | inr full ↦ let same = (remains_full c w proper full).same in omega (arith, same)
      ]
    where
      go : current v seat w < rounds → (o : Option (List Id)) → completes_now v seat c w ≡ o → current v seat (c ∷ w) ≤ suc (current v seat w)
      go l None e = let same = (remains c w proper l e).same in omega (arith, same)
      go l (Some log) e = let next = (advances c w log proper l e).next in omega (arith, next)

  -- ---- no round is asked, and none becomes complete

  -- a round that is asked nothing new, hears its slots alone
  still_quiet : (a : ℕ) (c : Word) (w : List Word) → round_ask v seat a (c ∷ w) ≡ round_ask v seat a w → IsRoundQuiet v seat c w a
  still_quiet a c w same = ap (λ (o : Option (List ℕ)). newly_asked (round_ask v seat a w) o) same ∙ newly_same (round_ask v seat a w)

  still_words : (a : ℕ) (c : Word) (w : List Word) → round_ask v seat a (c ∷ w) ≡ round_ask v seat a w → round_words v seat a (c ∷ w) ≡ heard_words v seat c w a
  still_words a c w same =
      words_more v laws seat session a c w ∙ ap (λ (ds : List Word). ds ++ heard_words v seat c w a) (still_quiet a c w same)

  -- by an input all logs stay as they are
  input_log : (a : ℕ) (x : List ℕ) (w : List Word) → log_below v seat a (Ask x ∷ w) ≡ log_below v seat a w
  input_log zero x w = refl
  input_log (suc a) x w =
      let log = input_log a x w in
      log_same v seat a (Ask x) w (λ y. refl) log (still_words a (Ask x) w (ask_same v seat a (Ask x) w refl log))

  pub no_ask : (x : List ℕ) (w : List Word) → IsStill v seat (Ask x) w
  no_ask x w = record {
    same = count_same v seat rounds (Ask x) w (λ a. input_log a x w);
    log = last_same v seat rounds (Ask x) w (λ a. input_log a x w);
    asks = asks;
    words = λ a. still_words a (Ask x) w (asks a);
    says = quiet_says v seat (Ask x) w rounds (λ a l. still_quiet a (Ask x) w (asks a));
  }
    where
      asks : (a : ℕ) → round_ask v seat a (Ask x ∷ w) ≡ round_ask v seat a w
      asks a = ask_same v seat a (Ask x) w refl (input_log a x w)

  -- by what a slot of another round than the current one delivered, the current round is as it was
  module _ (s : Slot) (x : List ℕ) (w : List Word) (proper : AreProper (ordered v) seat (Hear s x ∷ w)) (other : (s.class == 1) ≡ false)
      (past : (s.a == current v seat w) ≡ false) where
    same_ask : round_ask v seat (current v seat w) (Hear s x ∷ w) ≡ round_ask v seat (current v seat w) w
    same_ask =
        ask_same v seat (current v seat w) (Hear s x) w (none_delivered s x w other) (log_here v laws seat session (Hear s x) w ∙ sym (log_complete v seat rounds w))

    same_words : round_words v seat (current v seat w) (Hear s x ∷ w) ≡ round_words v seat (current v seat w) w
    same_words =
        still_words (current v seat w) (Hear s x) w same_ask
        ∙ ap (λ (b : Bool). (if b then Hear s x ∷ [] else []) ++ round_words v seat (current v seat w) w) (and_right (not (s.class == 1)) _ past)

    same_next : log_below v seat (suc (current v seat w)) (Hear s x ∷ w) ≡ None
    same_next =
        log_same v seat (current v seat w) (Hear s x) w (no_command s x w other) (log_here v laws seat session (Hear s x) w ∙ sym (log_complete v seat rounds w)) same_words
        ∙ log_not_yet v laws seat session (suc (current v seat w)) w proper.1 (omega arith)

    same_remains : Remains v seat (Hear s x) w
    same_remains =
        elim (cases_lt (current v seat w) rounds) [
          | inl l ↦ remains (Hear s x) w proper l (sym (log_next v laws seat session (Hear s x) w proper.1) ∙ same_next)
          | inr full ↦ remains_full (Hear s x) w proper full
        ]

    same_asks : (a : ℕ) → round_ask v seat a (Hear s x ∷ w) ≡ round_ask v seat a w
    same_asks a =
        elim (cases_order a (current v seat w)) [
          | inl same ↦ subst (λ (k : ℕ). round_ask v seat k (Hear s x ∷ w) ≡ round_ask v seat k w) (sym same) same_ask
          | inr (inl less) ↦ let u = asked_below v laws seat session a w proper.1 less in ask_stays v laws seat session a (Hear s x) w u.0 u.1 ∙ sym u.1
          | inr (inr more) ↦
              let same = same_remains.same in (not_ahead v laws seat session a (Hear s x ∷ w) proper (omega (arith, same, more))).0 ∙ sym (not_ahead v laws seat session a w proper.1 more).0
        ]

  pub no_step : (s : Slot) (x : List ℕ) (w : List Word) → AreProper (ordered v) seat (Hear s x ∷ w) → (s.class == 1) ≡ false → (s.a == current v seat w) ≡ false
      → IsStill v seat (Hear s x) w
  no_step s x w proper other past =
      let r = same_remains s x w proper other past in
      record {
        same = r.same;
        log = r.log;
        asks = same_asks s x w proper other past;
        words = λ a. still_words a (Hear s x) w (same_asks s x w proper other past a);
        says = says_quiet v laws seat session (Hear s x) w proper (λ a l. still_quiet a (Hear s x) w (same_asks s x w proper other past a));
      }
