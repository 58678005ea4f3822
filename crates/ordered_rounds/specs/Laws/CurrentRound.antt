-- The rounds below the current one were asked, and those above it weren't. What a slot delivered comes to a round that was asked. What
-- the current round is after one word more.
use Rattle.std.specs.Prelude.{◌≡◌, ℕ, suc, ◌<◌, ◌≤◌, ◌==◌, nat_lt, Bool, true, false, not, if◌then◌else◌, List, [], ◌∷◌, ◌++◌, Option, Some, None, refl, ◌⊎◌}
use Rattle.std.specs.Option.{option_or}
use Rattle.std.proofs.Common.{sym, ◌∙◌, ap, ap₂, subst, inl, inr, arith}
use Rattle.std.proofs.lemmas.Bool.{cases_lt, and_parts, and_from, eq-eqb, ltb-true}
use Rattle.std.proofs.lemmas.Option.{none-some}
use Rattle.ritas_base.specs.declared.slot.Slot.{Slot}
use Rattle.ritas_base.specs.declared.id.Id.{Id}
use Rattle.ritas_base.specs.Numbers.{IsSession}
use Rattle.frame_codec.specs.Values.{ids_bytes}
use Rattle.layer_api.specs.Words.{Word, Ask, Hear}
use Rattle.layer_api.specs.Service.{Seat, AreProper}
use Rattle.layer_api.specs.Part.{newly_asked}
use Rattle.ordered_rounds.specs.Box.{RoundRules, RoundLaws, MayRound}
use Rattle.ordered_rounds.specs.Rounds.{pending, proposal, round_desk, is_of_round, begins_with, completes_with, completes_at, log_below, round_ask, round_words, complete_of, is_kept, rounds, ordered}
use Rattle.ordered_rounds.specs.Laws.Roots.{atomic_root}
use Rattle.ordered_rounds.specs.Stepping.{current, log_now, heard_words, asked_now, words_now, completes_now, ComesToRound}
use Rattle.ordered_rounds.specs.Laws.WordsMeet.{AreOfSession, first_good, pending_good, round_opened, round_hears}
use Rattle.ordered_rounds.specs.Laws.AskedFirst.{words_more, unheard, unasked, complete_asked, unasked_ahead, none_over}
use Rattle.ordered_rounds.specs.Laws.CompleteRounds.{complete_none, complete_there}
use Rattle.ordered_rounds.specs.Laws.LogsByRound.{log_stays, log_earlier, log_complete, complete_small}

-- a slot that isn't a command's is of its round
own_round : (s : Slot) → (s.class == 1) ≡ false → is_of_round s.a s ≡ true
own_round s other = and_from (not (s.class == 1)) _ (ap not other) (eq-eqb s.a s.a refl)

module _ (v : RoundRules) (laws : RoundLaws v) (seat : Seat) (session : IsSession seat.numbers) where
  -- ---- the rounds below the current one, and those above it

  -- logs are there up to the current round
  pub log_there : (a : ℕ) (w : List Word) → a ≤ current v seat w → (log : List Id) × (log_below v seat a w ≡ Some log)
  log_there a w l = complete_there v seat rounds a w l

  pub log_not_yet : (a : ℕ) (w : List Word) → AreProper (ordered v) seat w → current v seat w < a → log_below v seat a w ≡ None
  log_not_yet a w proper l = elim (cases_lt rounds a) [ inl over ↦ go over (log_below v seat a w) refl | inr few ↦ complete_none v seat rounds a w l few ]
    where
      go : rounds < a → (o : Option (List Id)) → log_below v seat a w ≡ o → log_below v seat a w ≡ None
      go over None e = e
      go over (Some log) e =
          let x = log_earlier v seat a (suc rounds) w log (omega (arith, over)) e in
          absurd (none-some x.old (sym (none_over v laws seat session w proper) ∙ x.there))

  -- rounds below the current one were asked, and those above it weren't
  pub asked_below : (a : ℕ) (w : List Word) → AreProper (ordered v) seat w → a < current v seat w → (u : List ℕ) × (round_ask v seat a w ≡ Some u)
  asked_below a w proper l = let t = log_there (suc a) w (omega (arith, l)) in complete_asked v laws seat session a w t.0 proper t.1

  pub not_ahead : (a : ℕ) (w : List Word) → AreProper (ordered v) seat w → current v seat w < a → (round_ask v seat a w ≡ None) × (round_words v seat a w ≡ [])
  not_ahead a w proper l =
      let none = unasked_ahead v laws seat session a w (log_not_yet a w proper l) in (none, unasked v laws seat session a w proper none)

  pub full_is : (w : List Word) → rounds ≤ current v seat w → current v seat w ≡ rounds
  full_is w full = let l = complete_small v seat rounds w in omega (arith, full, l)

  -- ---- what comes to a round

  -- a round whose slot is heard was asked
  pub heard_asked : (s : Slot) (x : List ℕ) (w : List Word) → AreProper (ordered v) seat (Hear s x ∷ w) → (s.class == 1) ≡ false → (u : List ℕ) × (round_ask v seat s.a w ≡ Some u)
  heard_asked s x w proper other = go (round_ask v seat s.a w) refl
    where
      go : (o : Option (List ℕ)) → round_ask v seat s.a w ≡ o → (u : List ℕ) × (round_ask v seat s.a w ≡ Some u)
      go (Some u) e = (u, e)
      go None e =
          let none = unheard v laws seat session s.a (Hear s x) w proper.0 (unasked v laws seat session s.a w proper.1 e) in
          absurd (let z : Hear s x ∷ [] ≡ [] = sym (ap (λ (b : Bool). if b then Hear s x ∷ [] else []) (own_round s other)) ∙ none in cc)

  pub comes_to : (s : Slot) (x : List ℕ) (w : List Word) → AreProper (ordered v) seat (Hear s x ∷ w) → (s.class == 1) ≡ false → ComesToRound v seat w s x
  comes_to s x w proper other =
      let o = and_parts (nat_lt s.a rounds) _ (round_opened v seat w s other proper.0.is_open) in
      let t = and_parts (is_kept seat.mode.version (complete_of v seat rounds w) s.a) _ o.1 in
      let u = heard_asked s x w proper other in
      record {
        round = ltb-true s.a rounds o.0;
        begun = begun (cases_lt (current v seat w) s.a) u.0 u.1;
        kept = t.0;
        may = round_hears v seat s.a s x w proper.0 (own_round s other);
      }
    where
      begun : (current v seat w < s.a) ⊎ (s.a ≤ current v seat w) → (u : List ℕ) → round_ask v seat s.a w ≡ Some u → s.a ≤ current v seat w
      begun (inr l) u e = l
      begun (inl l) u e = absurd (none-some u (sym (not_ahead s.a w proper.1 l).0 ∙ e))

  -- what a round begins with is a value of class 2
  pub may_ask : (a : ℕ) (h : List Word) (log : List Id) (x : Id) (xs : List Id) → AreProper (ordered v) seat h → pending h log ≡ x ∷ xs
      → MayRound v (round_desk v seat a) [] (Ask (ids_bytes (proposal seat.numbers.n (x ∷ xs))))
  may_ask a h log x xs proper q =
      let good = subst (AreOfSession seat.numbers.n) q (pending_good v seat h log proper) in
      (refl, first_good seat.numbers v.root (atomic_root v laws) session (x ∷ xs) (ids_bytes (proposal seat.numbers.n (x ∷ xs))) good refl, refl)

  -- ---- the current round, after one word more

  module _ (c : Word) (w : List Word) where
    abbrev here : ℕ
    here = current v seat w

    pub log_here : log_below v seat here (c ∷ w) ≡ Some (log_now v seat w)
    log_here = log_stays v seat here c w (log_now v seat w) (log_complete v seat rounds w)

    pub asks_here : round_ask v seat here (c ∷ w) ≡ asked_now v seat c w
    asks_here = ap (λ (before : Option (List Id)). option_or (round_ask v seat here w) (begins_with seat before (c ∷ w))) log_here

    pub words_here : round_words v seat here (c ∷ w) ≡ words_now v seat c w
    words_here =
        words_more v laws seat session here c w ∙ ap (λ (o : Option (List ℕ)). newly_asked (round_ask v seat here w) o ++ heard_words v seat c w here) asks_here

    -- whether it becomes complete, and with which log
    pub completes_here : completes_at v seat here (log_below v seat here) (c ∷ w) ≡ completes_now v seat c w
    completes_here =
        ap₂ (λ (before : Option (List Id)) (ds : List Word). completes_with v seat before (v.decision (round_desk v seat here) ds) (c ∷ w)) log_here words_here

    pub log_next : AreProper (ordered v) seat w → log_below v seat (suc here) (c ∷ w) ≡ completes_now v seat c w
    log_next proper =
        ap₂ (λ (o p : Option (List Id)). option_or o p) (log_not_yet (suc here) w proper (omega arith)) completes_here
