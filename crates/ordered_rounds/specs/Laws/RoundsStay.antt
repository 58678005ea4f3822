-- What a round decided stays so with more words, and so does what is open in it.
use Rattle.std.specs.Prelude.{◌≡◌, ℕ, true, List, [], ◌∷◌, ◌++◌, Some, refl}
use Rattle.ritas_base.specs.declared.slot.Slot.{Slot}
use Rattle.ritas_base.specs.Numbers.{IsSession}
use Rattle.layer_api.specs.Words.{Word}
use Rattle.layer_api.specs.Service.{Seat, Instance, Decision, LastVector, AreProper}
use Rattle.layer_api.specs.Part.{part_of}
use Rattle.layer_api.specs.Multi.{Desk}
use Rattle.ordered_rounds.specs.Box.{RoundRules, RoundLaws, AreRound}
use Rattle.ordered_rounds.specs.Rounds.{round_desk, is_of_round, round_ask, round_words, round_decides, ordered}
use Rattle.ordered_rounds.specs.Laws.Roots.{atomic_root}
use Rattle.ordered_rounds.specs.Laws.WordsMeet.{session_of, round_met}

-- ---- a box, over several words more

module _ (v : RoundRules) (at : Desk) (P : List Word → Type 0)
    (stays : (c : Word) (w : List Word) → AreRound v at (c ∷ w) → P w → P (c ∷ w)) where
  -- what each word keeps, several words keep
  over : (ds w : List Word) → AreRound v at (ds ++ w) → P w → P (ds ++ w)
  over [] w m h = h
  over (d ∷ ds) w m h = stays d (ds ++ w) m (over ds w m.1 h)

-- ---- a round, over one word more

module _ (v : RoundRules) (laws : RoundLaws v) (seat : Seat) (a : ℕ) (c : Word) (w : List Word) (proper : AreProper (ordered v) seat (c ∷ w)) where
  session : IsSession seat.numbers
  session = session_of v seat w c proper.0

  -- what holds of the round's words, and stays so
  round_keeps : (P : List Word → Type 0) → ((d : Word) (u : List Word) → AreRound v (round_desk v seat a) (d ∷ u) → P u → P (d ∷ u))
      → P (round_words v seat a w) → P (round_words v seat a (c ∷ w))
  round_keeps P stays h =
      over v (round_desk v seat a) P stays (part_of (round_ask v seat a) (is_of_round a) w c) (round_words v seat a w)
      (round_met v (atomic_root v laws) seat a (c ∷ w) proper) h

  -- what it decided stays
  pub decides_stay : (x : List ℕ) → round_decides v seat a w ≡ Some x → round_decides v seat a (c ∷ w) ≡ Some x
  decides_stay x q =
      round_keeps (λ u. v.decision (round_desk v seat a) u ≡ Some x) (λ d u m h. laws.decision_stays (round_desk v seat a) d u x session refl m h) q

  -- and so does its vector
  pub vector_stay : (x : LastVector) → v.vector (round_desk v seat a) (round_words v seat a w) ≡ Some x → v.vector (round_desk v seat a) (round_words v seat a (c ∷ w)) ≡ Some x
  vector_stay x q = round_keeps (λ u. v.vector (round_desk v seat a) u ≡ Some x) (λ d u m h. laws.vector_stays (round_desk v seat a) d u x session refl m h) q

  -- where its attempts are spent they stay so
  pub spent_stay : v.spent (round_desk v seat a) (round_words v seat a w) ≡ true → v.spent (round_desk v seat a) (round_words v seat a (c ∷ w)) ≡ true
  spent_stay q = round_keeps (λ u. v.spent (round_desk v seat a) u ≡ true) (λ d u m h. laws.spent_stays (round_desk v seat a) d u session refl m h) q

  -- what an instance inside decided stays
  pub inside_stay : (x : Instance) (d : Decision) → v.inside (round_desk v seat a) (round_words v seat a w) x ≡ Some d
      → v.inside (round_desk v seat a) (round_words v seat a (c ∷ w)) x ≡ Some d
  inside_stay x d q =
      round_keeps (λ u. v.inside (round_desk v seat a) u x ≡ Some d) (λ e u m h. laws.inside_stays (round_desk v seat a) e u x d session refl m h) q

  -- what is open stays open
  pub opens_stay : (s : Slot) → v.opens (round_desk v seat a) (round_words v seat a w) s ≡ true → v.opens (round_desk v seat a) (round_words v seat a (c ∷ w)) s ≡ true
  opens_stay s q = round_keeps (λ u. v.opens (round_desk v seat a) u s ≡ true) (λ d u m h. laws.opens_stays (round_desk v seat a) d u s session refl m h) q
