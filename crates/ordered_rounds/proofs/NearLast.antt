-- The last vector that a value of atomic broadcast shows after want of memory is that of before the word, or that of after it.
use Rattle.std.specs.Prelude.{◌≡◌, ℕ, zero, suc, ◌<◌, ◌≤◌, nat_lt, Bool, true, false, ◌&&◌, if◌then◌else◌, List, ◌∷◌, Option, Some, None, is_some, refl, ◌⊎◌}
use Rattle.std.specs.Option.{option_or}
use Rattle.std.proofs.Common.{sym, ◌∙◌, ap, ap₂, subst, inl, inr, arith}
use Rattle.std.proofs.lemmas.Bool.{cases_Bool, cases_lt, lt-ltb, le-ltb, and_left}
use Rattle.ritas_base.specs.Numbers.{IsSession}
use Rattle.ritas_base.specs.Slots.{has_tries}
use Rattle.layer_api.specs.Service.{Seat, AreProper, LastVector}
use Rattle.layer_api.specs.Words.{Word}
use Rattle.layer_api.specs.Part.{newly_asked}
use Rattle.layer_api.specs.Multi.{Desk}
use Rattle.ordered_rounds.specs.Box.{RoundRules, RoundLaws}
use Rattle.ordered_rounds.specs.BoxCalls.{RoundShown}
use Rattle.ordered_rounds.specs.Rounds.{round_desk, round_ask, round_words, round_decides, log_below, vector_of_round, last_complete, last_vector, rounds, ordered}
use Rattle.ordered_rounds.specs.Laws.Kept.{kept_near}
use Rattle.ordered_rounds.specs.Laws.LogsByRound.{log_complete, complete_small}
use Rattle.ordered_rounds.specs.Laws.RoundVectors.{completes_by}
use Rattle.ordered_rounds.specs.Laws.RoundsStay.{vector_stay}
use Rattle.ordered_rounds.specs.Stepping.{current, log_now, heard_words, next_ask}
use Rattle.ordered_rounds.specs.Laws.Stepping.{steps, full_is}
use Rattle.ordered_rounds.specs.Boxes.{box_at, vector_by_box, last_in, OldStand}
use Rattle.ordered_rounds.specs.OrderedStands.{has_begun}
use Rattle.ordered_rounds.specs.Turning.{IsNow}
use Rattle.ordered_rounds.specs.Laws.Getters.{AllShow, full_undecided, stood_vector}
use Rattle.ordered_rounds.specs.declared.boxes.Boxes.{Boxes}
use Rattle.ordered_rounds.proofs.Stepped.{Goes, stays_or_goes, words_heard, words_same, done}

-- what is first stays first
first_of : {X : Type 0} (o u : Option X) (x : X) → o ≡ Some x → option_or o u ≡ o
first_of None u x q = absurd cc
first_of (Some y) u x q = refl

module _ (v : RoundRules) (laws : RoundLaws v) (seat : Seat) (session : IsSession seat.numbers) where
  -- where rounds decide no vectors, no complete round has one
  untried_last : has_tries v.root ≡ false → (a : ℕ) (w : List Word) → last_complete v seat a w ≡ None
  untried_last off zero w = refl
  untried_last off (suc a) w = laws.vector_untried (round_desk v seat a) (round_words v seat a w) off

  -- the last complete round's vector stays
  complete_kept : (a : ℕ) (c : Word) (w : List Word) → AreProper (ordered v) seat (c ∷ w) → a ≡ current v seat w → last_complete v seat a w ≡ last_complete v seat a (c ∷ w)
  complete_kept zero c w m same = refl
  complete_kept (suc a) c w m same =
      elim (cases_Bool (has_tries v.root)) [
        | inl tries ↦
            let log = subst (λ (n : ℕ). log_below v seat n w ≡ Some (log_now v seat w)) (sym same) (log_complete v seat rounds w) in
            let x = completes_by v laws seat a w (log_now v seat w) m.1 log in
            let k = laws.vector_there (round_desk v seat a) (round_words v seat a w) x.vector tries x.decides in
            k.1 ∙ sym (vector_stay v laws seat a c w m k.0 k.1)
        | inr off ↦ untried_last off (suc a) w ∙ sym (untried_last off (suc a) (c ∷ w))
      ]

  -- a round that has no words but its proposal has no vector
  none_asked : (a : ℕ) (w : List Word) (o : Option (List ℕ)) → round_words v seat a w ≡ newly_asked None o → vector_of_round v seat a w ≡ None
  none_asked a w o q = laws.vector_none (round_desk v seat a) (round_words v seat a w) (ap (v.decision (round_desk v seat a)) q ∙ go o)
    where
      go : (o : Option (List ℕ)) → v.decision (round_desk v seat a) (newly_asked None o) ≡ None
      go None = laws.decision_first (round_desk v seat a)
      go (Some x) = laws.decision_asked (round_desk v seat a) x session

  none_full : (w : List Word) → AreProper (ordered v) seat w → vector_of_round v seat rounds w ≡ None
  none_full w m = laws.vector_none (round_desk v seat rounds) (round_words v seat rounds w) (full_undecided v seat laws w session m)

  module _ {V : Type 0} (stands : V → Desk → List Word → Type 0) (live : V → Bool) (shown : V → RoundShown) (shows : AllShow stands v live shown) (c : Word) (w : List Word)
      (met : AreProper (ordered v) seat (c ∷ w)) where
    abbrev n : ℕ
    n = current v seat w

    -- a round's vector is that of before, or that of its words with what the word brings
    abbrev pub IsNearVector : ℕ → Option V → Type 0
    IsNearVector a o =
        (vector_by_box shown o ≡ vector_of_round v seat a w)
        ⊎ (vector_by_box shown o ≡ v.vector (round_desk v seat a) (heard_words v seat c w a))

    -- that of the round before the current one is still what it was
    before_near : (b : Boxes V) (a : ℕ) → a ≡ n → ((k : ℕ) → suc k ≡ a → IsNearVector k (box_at b 1))
        → (if nat_lt 0 a then vector_by_box shown (box_at b 1) else None) ≡ last_complete v seat a w
    before_near b zero same near = refl
    before_near b (suc a) same near =
        ap (λ (t : Bool). if t then vector_by_box shown (box_at b 1) else None) (lt-ltb 0 (suc a) (omega arith))
        ∙ elim (near a refl) [
          | inl e ↦ e
          | inr e ↦
              let heard = (steps v laws seat session c w met).below a (omega (arith, same)) in
              e ∙ (ap (v.vector (round_desk v seat a)) (sym heard) ∙ sym (complete_kept (suc a) c w met same))
        ]

    -- after a round that becomes complete, the next has none yet
    next_none : Goes v seat c w → vector_of_round v seat (current v seat (c ∷ w)) (c ∷ w) ≡ None
    next_none goes =
        let next = goes.advances.next in
        elim (cases_lt (suc n) rounds) [
          | inl small ↦
              subst (λ (a : ℕ). vector_of_round v seat a (c ∷ w) ≡ None) (sym next) (none_asked (suc n) (c ∷ w) (next_ask v seat (c ∷ w) goes.log) (goes.advances.words small))
          | inr full ↦
              let l = goes.small in
              let same : suc n ≡ rounds = omega (arith, l, full) in
              subst (λ (a : ℕ). vector_of_round v seat a (c ∷ w) ≡ None) (sym (next ∙ same)) (none_full (c ∷ w) met)
        ]

    -- where the box of the current round shows what it decides with the word
    heard_near : (b : Boxes V) → is_some (round_ask v seat n w) ≡ true
        → vector_by_box shown b.current ≡ v.vector (round_desk v seat n) (heard_words v seat c w n)
        → (if nat_lt 0 n then vector_by_box shown (box_at b 1) else None) ≡ last_complete v seat n w → last_in shown n b ≡ last_vector v seat (c ∷ w)
    heard_near b asked e older =
        let is : vector_by_box shown b.current ≡ vector_of_round v seat n (c ∷ w) =
        e ∙ ap (v.vector (round_desk v seat n)) (sym (words_heard v laws seat session c w met n asked)) in
        elim (stays_or_goes v laws seat session c w met) [
          | inl stays ↦
              ap₂ (λ (o u : Option LastVector). option_or o u) is (older ∙ complete_kept n c w met refl)
              ∙ ap (λ (a : ℕ). option_or (vector_of_round v seat a (c ∷ w)) (last_complete v seat a (c ∷ w))) (sym stays.remains.same)
          | inr goes ↦
              let d = done v laws seat session c w met goes in
              let decides : round_decides v seat n (c ∷ w) ≡ Some d.vector =
              ap (v.decision (round_desk v seat n)) (words_heard v laws seat session c w met n asked ∙ sym (words_same v laws seat session c w met asked)) ∙ d.is in
              let next = goes.advances.next in
              let so = sym (ap (λ (o : Option LastVector). option_or o (last_complete v seat (current v seat (c ∷ w)) (c ∷ w))) (next_none goes)
              ∙ ap (λ (a : ℕ). last_complete v seat a (c ∷ w)) next) in
              elim (cases_Bool (has_tries v.root)) [
                | inl tries ↦
                    let there = laws.vector_there (round_desk v seat n) (round_words v seat n (c ∷ w)) d.vector tries decides in
                    first_of (vector_by_box shown b.current) _ there.0 (is ∙ there.1) ∙ (is ∙ so)
                | inr off ↦
                    ap₂ (λ (o u : Option LastVector). option_or o u) (is ∙ laws.vector_untried (round_desk v seat n) (round_words v seat n (c ∷ w)) off)
                    (older ∙ untried_last off n w)
                    ∙ (sym (untried_last off (suc n) (c ∷ w)) ∙ so)
              ]
        ]

    abbrev pub NearNow : Option V → Type 0
    NearNow None = vector_by_box shown None ≡ vector_of_round v seat n w
    NearNow (Some one) = IsNearVector n (Some one)

    pub last_near : (b : Boxes V) → is_some b.current ≡ has_begun v seat w → (n < rounds → NearNow b.current) → ((k : ℕ) → suc k ≡ n → IsNearVector k (box_at b 1))
        → (last_in shown n b ≡ last_vector v seat w) ⊎ (last_in shown n b ≡ last_vector v seat (c ∷ w))
    last_near b begun near older =
        elim (cases_lt n rounds) [
          | inl small ↦ go b.current refl (near small)
          | inr full ↦ inl (ap₂ (λ (x u : Option LastVector). option_or x u) (none_now full) o)
        ]
      where
        o : (if nat_lt 0 n then vector_by_box shown (box_at b 1) else None) ≡ last_complete v seat n w
        o = before_near b n refl older

        none_there : (x : Option V) → is_some x ≡ false → vector_by_box shown x ≡ None
        none_there None q = refl
        none_there (Some y) q = absurd cc

        none_now : rounds ≤ n → vector_by_box shown b.current ≡ vector_of_round v seat n w
        none_now full =
            none_there b.current (begun ∙ and_left (nat_lt n rounds) _ (le-ltb n rounds full))
            ∙ sym (subst (λ (a : ℕ). vector_of_round v seat a w ≡ None) (sym (full_is v laws seat session w full)) (none_full w met.1))

        both : (t u : Bool) → true ≡ (t && u) → u ≡ true
        both true u e = sym e
        both false u e = absurd cc

        go : (x : Option V) → b.current ≡ x → NearNow x → (last_in shown n b ≡ last_vector v seat w) ⊎ (last_in shown n b ≡ last_vector v seat (c ∷ w))
        go None is e = inl (ap₂ (λ (x u : Option LastVector). option_or x u) (ap (vector_by_box shown) is ∙ e) o)
        go (Some one) is (inl e) = inl (ap₂ (λ (x u : Option LastVector). option_or x u) (ap (vector_by_box shown) is ∙ e) o)
        go (Some one) is (inr e) =
            inr (heard_near b (both (nat_lt n rounds) (is_some (round_ask v seat n w)) (sym (ap is_some is) ∙ begun)) (ap (vector_by_box shown) is ∙ e) o)

    -- where a round became complete, and the next may have to begin
    pub last_poised : (b : Boxes V) → IsNow stands v shown b.current seat w c → OldStand stands v seat (current v seat (c ∷ w)) (λ a. round_words v seat a (c ∷ w)) b
        → last_in shown (current v seat (c ∷ w)) b ≡ last_vector v seat (c ∷ w)
    last_poised b here older =
        ap₂ (λ (x u : Option LastVector). option_or x u) (now b.current here) (before (current v seat (c ∷ w)) refl)
      where
        m : ℕ
        m = current v seat (c ∷ w)

        now : (x : Option V) → IsNow stands v shown x seat w c → vector_by_box shown x ≡ vector_of_round v seat m (c ∷ w)
        now None due =
            elim (cases_lt m rounds) [
              | inl small ↦ sym (none_asked m (c ∷ w) (next_ask v seat (c ∷ w) (log_now v seat (c ∷ w))) (due.words small))
              | inr full ↦ sym (subst (λ (a : ℕ). vector_of_round v seat a (c ∷ w) ≡ None) (sym (full_is v laws seat session (c ∷ w) full)) (none_full (c ∷ w) met))
            ]
        now (Some one) going =
            stood_vector stands v laws live shown shows (Some one) (round_desk v seat m) (round_words v seat m (c ∷ w)) going.stood

        before : (a : ℕ) → a ≡ m → (if nat_lt 0 a then vector_by_box shown (box_at b 1) else None) ≡ last_complete v seat a (c ∷ w)
        before zero same = refl
        before (suc a) same =
            let few = complete_small v seat rounds (c ∷ w) in
            ap (λ (t : Bool). if t then vector_by_box shown (box_at b 1) else None) (lt-ltb 0 (suc a) (omega arith))
            ∙ stood_vector stands v laws live shown shows (box_at b 1) (round_desk v seat a) (round_words v seat a (c ∷ w))
            (older a 1 (omega (arith, same)) (omega arith) (kept_near seat.mode.version m a (omega (arith, same))) (omega (arith, same, few)))
