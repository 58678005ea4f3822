-- A round hears nothing before it is asked, and decides nothing before it hears something.
use Rattle.std.specs.Prelude.{◌≡◌, ℕ, suc, ◌≤◌, Bool, true, false, not, ◌==◌, nat_lt, if◌then◌else◌, List, [], ◌∷◌, ◌++◌, Option, Some, None, refl}
use Rattle.std.specs.Option.{option_or}
use Rattle.std.proofs.Common.{sym, ◌∙◌, ap, ap₂, subst, arith, append_assoc, append-nil}
use Rattle.std.proofs.lemmas.Bool.{and_parts, both_ways, eqb-true, ltb-true, not-true}
use Rattle.std.proofs.lemmas.Option.{none-some, same_Some}
use Rattle.ritas_base.specs.declared.id.Id.{Id}
use Rattle.ritas_base.specs.Numbers.{IsSession}
use Rattle.ritas_base.specs.Shortest.{option_or_parts}
use Rattle.layer_api.specs.Words.{Word, Ask, Hear}
use Rattle.layer_api.specs.Service.{Seat, MayWord, AreProper}
use Rattle.layer_api.specs.Part.{newly_asked, passed}
use Rattle.layer_api.specs.FedLaws.{shortest_at}
use Rattle.ordered_rounds.specs.Box.{RoundRules, RoundLaws}
use Rattle.ordered_rounds.specs.Rounds.{round_desk, is_of_round, begins_with, completes_at, log_below, round_ask, round_words, round_decides, rounds, ordered}
use Rattle.ordered_rounds.specs.Stepping.{heard_words}
use Rattle.ordered_rounds.specs.Laws.WordsMeet.{round_stays, round_nothing, round_opened, round_hears}
use Rattle.ordered_rounds.specs.Laws.LogsByRound.{completes_is, log_stays}

-- what is asked already isn't asked anew
pub newly_same : (o : Option (List ℕ)) → newly_asked o o ≡ []
newly_same None = refl
newly_same (Some u) = refl

-- what isn't there wasn't before
log_none : (v : RoundRules) (seat : Seat) (a : ℕ) (c : Word) (w : List Word) → log_below v seat a (c ∷ w) ≡ None → log_below v seat a w ≡ None
log_none v seat a c w none = go (log_below v seat a w) refl
  where
    go : (o : Option (List Id)) → log_below v seat a w ≡ o → log_below v seat a w ≡ None
    go None e = e
    go (Some log) e = absurd (none-some log (sym none ∙ log_stays v seat a c w log e))

module _ (v : RoundRules) (laws : RoundLaws v) (seat : Seat) (session : IsSession seat.numbers) where
  abbrev ask : ℕ → List Word → Option (List ℕ)
  ask a w = round_ask v seat a w

  abbrev words : ℕ → List Word → List Word
  words a w = round_words v seat a w

  -- what a word makes of the words of a round
  pub words_more : (a : ℕ) (c : Word) (w : List Word) → words a (c ∷ w) ≡ newly_asked (ask a w) (ask a (c ∷ w)) ++ heard_words v seat c w a
  words_more a c w = append_assoc (newly_asked (ask a w) (ask a (c ∷ w))) (passed (is_of_round a) c) (words a w)

  pub ask_stays : (a : ℕ) (c : Word) (w : List Word) (u : List ℕ) → ask a w ≡ Some u → ask a (c ∷ w) ≡ Some u
  ask_stays a c w u q = round_stays seat (log_below v seat a) c w u q

  pub unasked_before : (a : ℕ) (c : Word) (w : List Word) → ask a (c ∷ w) ≡ None → ask a w ≡ None
  unasked_before a c w q = (option_or_parts (ask a w) (begins_with seat (log_below v seat a (c ∷ w)) (c ∷ w)) q).0

  -- a round that was asked hears its slots, and nothing else is new to it
  pub words_asked : (a : ℕ) (c : Word) (w : List Word) (u : List ℕ) → ask a w ≡ Some u → words a (c ∷ w) ≡ heard_words v seat c w a
  words_asked a c w u q =
      words_more a c w
      ∙ ap₂ (λ (o p : Option (List ℕ)). newly_asked o p ++ heard_words v seat c w a) q (ask_stays a c w u q)

  -- at the slots of a round without words nothing is heard
  pub unheard : (a : ℕ) (c : Word) (w : List Word) → MayWord (ordered v) seat w c → words a w ≡ [] → passed (is_of_round a) c ≡ []
  unheard a (Ask x) w may none = refl
  unheard a (Hear s x) w may none = go (is_of_round a s) refl
    where
      go : (b : Bool) → is_of_round a s ≡ b → (if b then Hear s x ∷ [] else []) ≡ []
      go false e = refl
      go true e =
          absurd (both_ways (v.opens (round_desk v seat a) [] s)
          (laws.opens_first (round_desk v seat a) s)
          (subst (λ (u : List Word). v.opens (round_desk v seat a) u s ≡ true) none (round_hears v seat a s x w may e).is_open))

  -- so a round that wasn't asked has none
  pub unasked : (a : ℕ) (w : List Word) → AreProper (ordered v) seat w → ask a w ≡ None → words a w ≡ []
  unasked a [] proper none = refl
  unasked a (c ∷ w) proper none =
      let before = unasked a w proper.1 (unasked_before a c w none) in
      words_more a c w
      ∙ (ap (λ (o : Option (List ℕ)). newly_asked (ask a w) o ++ heard_words v seat c w a) none
      ∙ ap₂ (λ (ds u : List Word). ds ++ u) (unheard a c w proper.0 before) before)

  -- when it is asked, that is its one word
  pub words_new : (a : ℕ) (c : Word) (w : List Word) → AreProper (ordered v) seat (c ∷ w) → ask a w ≡ None → words a (c ∷ w) ≡ newly_asked None (ask a (c ∷ w))
  words_new a c w proper none =
      let before = unasked a w proper.1 none in
      words_more a c w
      ∙ (ap₂ (λ (o : Option (List ℕ)) (u : List Word). newly_asked o (ask a (c ∷ w)) ++ u) none (ap₂ (λ (ds u : List Word). ds ++ u) (unheard a c w proper.0 before) before)
      ∙ append-nil (newly_asked None (ask a (c ∷ w))))

  -- the oldest word of a round is what it was asked
  pub asked_words : (a : ℕ) (w : List Word) (u : List ℕ) → AreProper (ordered v) seat w → ask a w ≡ Some u → (later : List Word) × (words a w ≡ later ++ Ask u ∷ [])
  asked_words a [] u proper q = absurd (none-some u (sym (round_nothing seat (log_below v seat a)) ∙ q))
  asked_words a (c ∷ w) u proper q = go (ask a w) refl (λ x e. asked_words a w x proper.1 e)
    where
      more : (x : List ℕ) → ask a w ≡ Some x → (later : List Word) × (words a w ≡ later ++ Ask x ∷ []) → (later : List Word) × (words a (c ∷ w) ≡ later ++ Ask u ∷ [])
      more x e before =
          let same : x ≡ u = same_Some x u (sym (ask_stays a c w x e) ∙ q) in (
            passed (is_of_round a) c ++ before.0,
            words_asked a c w x e
                ∙ (ap (λ (t : List Word). passed (is_of_round a) c ++ t) (before.1 ∙ ap (λ (y : List ℕ). before.0 ++ Ask y ∷ []) same)
                ∙ sym (append_assoc (passed (is_of_round a) c) before.0 (Ask u ∷ []))),
          )

      go : (o : Option (List ℕ)) → ask a w ≡ o → ((x : List ℕ) → ask a w ≡ Some x → (later : List Word) × (words a w ≡ later ++ Ask x ∷ []))
          → (later : List Word) × (words a (c ∷ w) ≡ later ++ Ask u ∷ [])
      go None e before = ([], words_new a c w proper e ∙ ap (λ (o : Option (List ℕ)). newly_asked None o) q)
      go (Some x) e before = more x e (before x e)

  -- ---- what is decided

  undecided : (a : ℕ) (o : Option (List ℕ)) → v.decision (round_desk v seat a) (newly_asked None o) ≡ None
  undecided a None = laws.decision_first (round_desk v seat a)
  undecided a (Some u) = laws.decision_asked (round_desk v seat a) u session

  -- a round that wasn't asked decides nothing by the next word
  pub undecided_new : (a : ℕ) (c : Word) (w : List Word) → AreProper (ordered v) seat (c ∷ w) → ask a w ≡ None → round_decides v seat a (c ∷ w) ≡ None
  undecided_new a c w proper none = ap (v.decision (round_desk v seat a)) (words_new a c w proper none) ∙ undecided a (ask a (c ∷ w))

  -- nor has it before
  pub decided_asked : (a : ℕ) (w : List Word) (x : List ℕ) → AreProper (ordered v) seat w → round_decides v seat a w ≡ Some x → (u : List ℕ) × (ask a w ≡ Some u)
  decided_asked a w x proper q = go (ask a w) refl
    where
      go : (o : Option (List ℕ)) → ask a w ≡ o → (u : List ℕ) × (ask a w ≡ Some u)
      go (Some u) e = (u, e)
      go None e =
          absurd (none-some x (sym (laws.decision_first (round_desk v seat a)) ∙ (ap (v.decision (round_desk v seat a)) (sym (unasked a w proper e)) ∙ q)))

  -- a round that is complete was asked
  pub complete_asked : (a : ℕ) (w : List Word) (log : List Id) → AreProper (ordered v) seat w → log_below v seat (suc a) w ≡ Some log → (u : List ℕ) × (ask a w ≡ Some u)
  complete_asked a w log proper q =
      let t = shortest_at (λ (h : List Word). AreProper (ordered v) seat h × ((u : List ℕ) → ask a h ≡ Some u → ask a w ≡ Some u))
      (λ c h p. (p.0.1, λ u e. p.1 u (ask_stays a c h u e))) (completes_at v seat a (log_below v seat a)) w log (proper, λ u e. e) q in
      let x = completes_is v seat (log_below v seat a t.0) (round_decides v seat a t.0) t.0 log t.2 in
      let d = decided_asked a t.0 x.vector t.1.0 x.decides in
      (d.0, t.1.1 d.0 d.1)

  -- a round is asked nothing before those below it are complete
  pub unasked_ahead : (a : ℕ) (w : List Word) → log_below v seat a w ≡ None → ask a w ≡ None
  unasked_ahead a [] none = round_nothing seat (log_below v seat a)
  unasked_ahead a (c ∷ w) none =
      ap₂ (λ (o : Option (List ℕ)) (before : Option (List Id)). option_or o (begins_with seat before (c ∷ w))) (unasked_ahead a w (log_none v seat a c w none)) none

  -- ---- no round has a number from `rounds` on

  unheard_over : (a : ℕ) (c : Word) (w : List Word) → rounds ≤ a → MayWord (ordered v) seat w c → passed (is_of_round a) c ≡ []
  unheard_over a (Ask x) w over may = refl
  unheard_over a (Hear s x) w over may = go (is_of_round a s) refl
    where
      go : (b : Bool) → is_of_round a s ≡ b → (if b then Hear s x ∷ [] else []) ≡ []
      go false e = refl
      go true e =
          let u = and_parts (not (s.class == 1)) _ e in
          let same : s.a ≡ a = eqb-true s.a a u.1 in
          let o = and_parts (nat_lt s.a rounds) _ (round_opened v seat w s (not-true (s.class == 1) u.0) may.is_open) in
          let l = ltb-true s.a rounds o.0 in
          absurd (omega (arith, l, same, over))

  pub words_over : (a : ℕ) (w : List Word) → rounds ≤ a → AreProper (ordered v) seat w → words a w ≡ newly_asked None (ask a w)
  words_over a [] over proper = sym (ap (λ (o : Option (List ℕ)). newly_asked None o) (round_nothing seat (log_below v seat a)))
  words_over a (c ∷ w) over proper = go (ask a w) refl (words_over a w over proper.1)
    where
      go : (o : Option (List ℕ)) → ask a w ≡ o → words a w ≡ newly_asked None (ask a w) → words a (c ∷ w) ≡ newly_asked None (ask a (c ∷ w))
      go None e before = words_new a c w proper e
      go (Some u) e before =
          words_asked a c w u e
          ∙ (ap (λ (t : List Word). t ++ words a w) (unheard_over a c w over proper.0)
          ∙ (before ∙ ap (λ (o : Option (List ℕ)). newly_asked None o) (e ∙ sym (ask_stays a c w u e))))

  -- so none is complete
  pub none_over : (w : List Word) → AreProper (ordered v) seat w → log_below v seat (suc rounds) w ≡ None
  none_over w proper = go (log_below v seat (suc rounds) w) refl
    where
      go : (o : Option (List Id)) → log_below v seat (suc rounds) w ≡ o → log_below v seat (suc rounds) w ≡ None
      go None e = e
      go (Some log) e =
          let t = shortest_at (AreProper (ordered v) seat) (λ c h p. p.1) (completes_at v seat rounds (log_below v seat rounds)) w log proper e in
          let x = completes_is v seat (log_below v seat rounds t.0) (round_decides v seat rounds t.0) t.0 log t.2 in
          absurd (none-some x.vector
          (sym (undecided rounds (ask rounds t.0)) ∙ (ap (v.decision (round_desk v seat rounds)) (sym (words_over rounds t.0 (omega arith) t.1)) ∙ x.decides)))
