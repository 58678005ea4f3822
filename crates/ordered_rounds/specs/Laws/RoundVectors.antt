-- Where rounds decide vectors a complete round has one, and what it has is the value of the attempt that decided it; so what
-- instances inside decided goes together with the last vector.
use Rattle.std.specs.Prelude.{◌≡◌, ℕ, zero, suc, ◌<◌, ◌≤◌, true, List, ◌∷◌, Option, Some, None, refl}
use Rattle.std.specs.Option.{option_or}
use Rattle.std.proofs.Common.{sym, ◌∙◌, ap, subst, inl, inr, arith}
use Rattle.std.proofs.lemmas.Bool.{cases_order}
use Rattle.std.proofs.lemmas.Option.{none-some}
use Rattle.ritas_base.specs.declared.id.Id.{Id}
use Rattle.ritas_base.specs.Numbers.{IsSession}
use Rattle.ritas_base.specs.Slots.{has_tries}
use Rattle.ordered_rounds.specs.Laws.Roots.{atomic_root}
use Rattle.ritas_base.specs.Shortest.{option_or_some, option_or_older}
use Rattle.layer_api.specs.Words.{Word}
use Rattle.layer_api.specs.Service.{Seat, OfVector, Value, LastVector, AreProper, IsAttemptOf, Insides}
use Rattle.layer_api.specs.FedLaws.{shortest_at}
use Rattle.ordered_rounds.specs.Box.{RoundRules, RoundLaws}
use Rattle.ordered_rounds.specs.Rounds.{round_desk, round_words, round_decides, completes_at, log_below, complete_of, vector_of_round, last_complete, last_vector, inside_of, rounds, ordered}
use Rattle.ordered_rounds.specs.Laws.WordsMeet.{round_met}
use Rattle.ordered_rounds.specs.Laws.LogsByRound.{Completes, completes_is, log_stays}
use Rattle.ordered_rounds.specs.Laws.RoundsStay.{decides_stay}
use Rattle.ordered_rounds.specs.Laws.CompleteRounds.{complete_there}
use Rattle.ordered_rounds.specs.Laws.CurrentRound.{not_ahead}

module _ (v : RoundRules) (laws : RoundLaws v) (seat : Seat) where
  -- what a round decided at a prefix it has now, and so has the log its entries
  record IsBefore (a : ℕ) (w h : List Word) : Type 0 where
    proper : AreProper (ordered v) seat h
    decides : (x : List ℕ) → round_decides v seat a h ≡ Some x → round_decides v seat a w ≡ Some x
    log : (l : List Id) → log_below v seat a h ≡ Some l → log_below v seat a w ≡ Some l

  -- that is so at each shorter prefix
  before_less : (a : ℕ) (w : List Word) (c : Word) (h : List Word) → IsBefore a w (c ∷ h) → IsBefore a w h
  before_less a w c h b = record {
    proper = b.proper.1;
    decides = λ x q. b.decides x (decides_stay v laws seat a c h b.proper x q);
    log = λ l q. b.log l (log_stays v seat a c h l q);
  }

  -- a complete round's log is that before it, with what its decision wants
  pub completes_by : (a : ℕ) (w : List Word) (log : List Id) → AreProper (ordered v) seat w → log_below v seat (suc a) w ≡ Some log
      → Completes v seat.numbers (log_below v seat a w) (round_decides v seat a w) log
  completes_by a w log proper q =
      let t = shortest_at (IsBefore a w) (before_less a w) (completes_at v seat a (log_below v seat a)) w log
      (record { proper = proper; decides = λ x r. r; log = λ l r. r }) q in
      let x = completes_is v seat (log_below v seat a t.0) (round_decides v seat a t.0) t.0 log t.2 in
      record { old = x.old; vector = x.vector; there = t.1.log x.old x.there; decides = t.1.decides x.vector x.decides; whole = x.whole }

  -- ---- what instances inside decided, and the last vector

  vector_decided : (a : ℕ) (w : List Word) (x : LastVector) → vector_of_round v seat a w ≡ Some x → IsAttemptOf (inside_of v seat w) x.round x.attempt x.value
  vector_decided a w x q =
      let d = laws.vector_is (round_desk v seat a) (round_words v seat a w) x q in
      let P : ℕ → Type 0 = λ k. IsAttemptOf (v.inside (round_desk v seat k) (round_words v seat k w)) x.round x.attempt x.value in
      let here : P x.round = subst P (sym d.round) d.attempt in
      record { vector = here.vector; value = here.value; failed = here.failed }

  last_decided : (w : List Word) (x : LastVector) → last_vector v seat w ≡ Some x → IsAttemptOf (inside_of v seat w) x.round x.attempt x.value
  last_decided w x q =
      let n = complete_of v seat rounds w in
      elim (option_or_some (vector_of_round v seat n w) (last_complete v seat n w) x q) [ inl y ↦ vector_decided n w x y | inr y ↦ complete n y.1 ]
    where
      complete : (n : ℕ) → last_complete v seat n w ≡ Some x → IsAttemptOf (inside_of v seat w) x.round x.attempt x.value
      complete zero q = absurd cc
      complete (suc a) q = vector_decided a w x q

  -- a last vector of this round or a later one
  record HasSince (a : ℕ) (o : Option LastVector) : Type 0 where
    last : LastVector
    is : o ≡ Some last
    since : a ≤ last.round

  -- of a round that is complete, or is the current one
  module _ (tries : has_tries v.root ≡ true) where
    since_complete : (a n : ℕ) (w : List Word) → AreProper (ordered v) seat w → n ≡ complete_of v seat rounds w → a < n → HasSince a (last_complete v seat n w)
    since_complete a zero w proper same l = absurd (omega (arith, l))
    since_complete a (suc b) w proper same l =
        let t = complete_there v seat rounds (suc b) w (omega (arith, same)) in
        let c = completes_by b w t.0 proper t.1 in
        let k = laws.vector_there (round_desk v seat b) (round_words v seat b w) c.vector tries c.decides in
        let r = (laws.vector_is (round_desk v seat b) (round_words v seat b w) k.0 k.1).round in
        record { last = k.0; is = k.1; since = omega (arith, l, r) }

    since_current : (a n : ℕ) (w : List Word) → a ≤ n → HasSince a (last_complete v seat n w)
        → HasSince a (option_or (vector_of_round v seat n w) (last_complete v seat n w))
    since_current a n w l h = go (vector_of_round v seat n w) refl
      where
        go : (o : Option LastVector) → vector_of_round v seat n w ≡ o → HasSince a (option_or o (last_complete v seat n w))
        go None e = h
        go (Some x) e = let r = (laws.vector_is (round_desk v seat n) (round_words v seat n w) x e).round in record { last = x; is = refl; since = omega (arith, l, r) }

    latest_of : (a : ℕ) (w : List Word) (x : List ℕ) → IsSession seat.numbers → AreProper (ordered v) seat w → round_decides v seat a w ≡ Some x
        → HasSince a (last_vector v seat w)
    latest_of a w x session proper d =
        let n : ℕ = complete_of v seat rounds w in
        elim (cases_order a n) [
          | inl same ↦
              let k = laws.vector_there (round_desk v seat a) (round_words v seat a w) x tries d in
              let now = subst (λ (b : ℕ). vector_of_round v seat b w ≡ Some k.0) same k.1 in
              let r = (laws.vector_is (round_desk v seat a) (round_words v seat a w) k.0 k.1).round in
              record { last = k.0; is = option_or_older (vector_of_round v seat n w) (last_complete v seat n w) _ now; since = omega (arith, r) }
          | inr (inl less) ↦ since_current a n w (omega (arith, less)) (since_complete a n w proper refl less)
          | inr (inr more) ↦
              let none = (not_ahead v laws seat session a w proper more).1 in
              absurd (none-some x (sym (ap (v.decision (round_desk v seat a)) none ∙ laws.decision_first (round_desk v seat a)) ∙ d))
        ]

  latest : (a : ℕ) (w : List Word) (x : List ℕ) → IsSession seat.numbers → AreProper (ordered v) seat w → inside_of v seat w (OfVector a) ≡ Some (Value x)
      → HasSince a (last_vector v seat w)
  latest a w x session proper q =
      let d = laws.vector_inside (round_desk v seat a) (round_words v seat a w) x q in latest_of d.0 a w d.1 session proper d.2

  pub insides : (w : List Word) → IsSession seat.numbers → seat.mode.root ≡ v.root → AreProper (ordered v) seat w → Insides (ordered v) seat w
  insides w session same proper = record {
    own = λ x q. absurd cc;
    last = λ x q. last_decided w x q;
    latest = λ a x q. let h = latest a w x session proper q in (h.last, h.is, h.since);
    bit = λ a k o q. laws.inside_bit (round_desk v seat a) (round_words v seat a w) a k session refl (round_met v (atomic_root v laws) seat a w proper) o q;
  }
