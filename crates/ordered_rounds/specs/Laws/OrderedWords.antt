-- The laws of a single value of atomic broadcast, from those of its rounds.
use Rattle.std.specs.Prelude.{◌≡◌, ℕ, suc, ◌+◌, Bool, true, false, ◌==◌, ◌&&◌, nat_lt, if◌then◌else◌, List, ◌∷◌, Some, None, refl}
use Rattle.std.proofs.Common.{sym, ◌∙◌, ap, subst, inl, inr, arith}
use Rattle.std.proofs.lemmas.Bool.{and_parts, and_from, cond-true, cases_Bool, cases_order, eqb-true}
use Rattle.std.proofs.lemmas.Option.{none-some}
use Rattle.ritas_base.specs.declared.slot.Slot.{Slot}
use Rattle.ritas_base.specs.declared.id.Id.{Id}
use Rattle.ritas_base.specs.Slots.{is_atomic, has_class}
use Rattle.ritas_base.specs.Versions.{has_past}
use Rattle.ordered_rounds.specs.Laws.Roots.{atomic_root}
use Rattle.layer_api.specs.Words.{Word, Hear, asked}
use Rattle.layer_api.specs.Service.{Seat, Instance, Decision, Spent, Undecided, Decided, Orders, purpose_of, AreProper, IsEndingOf, IsEnding, Meanings, is_past, WordLaws}
use Rattle.layer_api.specs.Purpose.{Rounds}
use Rattle.layer_api.specs.LogLengthLaws.{ids_fit}
use Rattle.ordered_rounds.specs.Box.{RoundRules, RoundLaws, is_round_slot, instance_round}
use Rattle.ordered_rounds.specs.Rounds.{round_scope, round_desk, log_below, complete_of, round_words, round_decides, round_opens, is_kept, inside_of, rounds, ordered}
use Rattle.ordered_rounds.specs.Laws.WordsMeet.{session_of, round_met, round_opened}
use Rattle.ordered_rounds.specs.Laws.Kept.{kept_near, kept_unpast, unpast_kept}
use Rattle.ordered_rounds.specs.Laws.LogsByRound.{complete_stays, log_complete, log_earlier, done_distinct}
use Rattle.ordered_rounds.specs.Laws.RoundsStay.{spent_stay, inside_stay, opens_stay}
use Rattle.ordered_rounds.specs.Laws.LogGrows.{least_is, base_stays, command_recent, done_grows, done_heard, done_nothing}
use Rattle.ordered_rounds.specs.Laws.SaidIsNew.{has_commands, says_new, says_good, commands_said}
use Rattle.ordered_rounds.specs.Laws.RoundVectors.{completes_by, insides}
use Rattle.ordered_rounds.specs.Laws.Stepping.{comes_to, rises, no_step}

-- ---- what the getters mean

-- the instance of a round may be spent, where it is one that can
spent_ending : (all : Rounds) (a : ℕ) (is_spent : Bool) → (is_spent ≡ true → IsEndingOf (all.instance a) (Decided Spent))
    → IsEnding (Orders all) (if is_spent then Decided Spent else Undecided)
spent_ending all a true ends = inr (refl, (a, ends refl))
spent_ending all a false ends = inl refl

module _ (v : RoundRules) (laws : RoundLaws v) (seat : Seat) where
  -- each getter is what its root service says
  meanings : (w : List Word) → seat.mode.root ≡ v.root → AreProper (ordered v) seat w → Meanings (ordered v) seat w
  meanings w same proper =
      let atomic : is_atomic seat.mode.root ≡ true = ap is_atomic same ∙ atomic_root v laws in
      let least = least_is ((ordered v).done seat w) in
      let a : ℕ = complete_of v seat rounds w in
      record {
        next_number = sym (cond-true (has_class seat.mode.root 1) (asked w) 0 (has_commands seat.mode.root atomic));
        given = refl;
        completed = λ low. absurd cc;
        base = λ o has. record { missing = (least o).missing; below = (least o).below };
        base_none = λ o one. absurd cc;
        done = λ low. absurd cc;
        done_few = ids_fit (ordered v) seat w ((ordered v).done seat w) proper (done_heard v seat w) (done_distinct v seat laws.wanted_sorted w);
        outcome = spent_ending v.rounds a _
            (λ q. (laws.spent_alone _ _ (round_met v (atomic_root v laws) seat a w proper) q).1);
      }

module _ (v : RoundRules) (laws : RoundLaws v) (seat : Seat) where
  -- ---- what is open stays open

  -- whether a slot is past, where it is a command's or not
  abbrev lies_past : List Word → Slot → Bool → Bool
  lies_past w s command =
      has_past seat.mode.version
      && (if command then nat_lt (s.a + 64) ((ordered v).base seat w s.origin) else nat_lt (s.a + 2) (complete_of v seat rounds w))

  -- a round's slot that isn't past has a round that is kept
  kept : (w : List Word) (s : Slot) → (s.class == 1) ≡ false → is_past (ordered v) seat w s ≡ false
      → is_kept seat.mode.version (complete_of v seat rounds w) s.a ≡ true
  kept w s other past =
      kept_unpast seat.mode.version (complete_of v seat rounds w) s.a (sym (ap (lies_past w s) other) ∙ past)

  -- an open slot of a round stays open where its round is kept
  round_opens_stays : (c : Word) (w : List Word) (s : Slot) → AreProper (ordered v) seat (c ∷ w)
      → is_kept seat.mode.version (complete_of v seat rounds (c ∷ w)) s.a ≡ true → round_opens v seat w s ≡ true → round_opens v seat (c ∷ w) s ≡ true
  round_opens_stays c w s proper l e =
      let x = and_parts (nat_lt s.a rounds) _ e in
      let y = and_parts (is_kept seat.mode.version (complete_of v seat rounds w) s.a) _ x.1 in
      let z = and_parts (is_round_slot v (round_scope v seat.numbers s.a) s) _ y.1 in
      and_from (nat_lt s.a rounds) _ x.0
      (and_from (is_kept seat.mode.version (complete_of v seat rounds (c ∷ w)) s.a) _ l
      (and_from (is_round_slot v (round_scope v seat.numbers s.a) s) _ z.0 (opens_stay v laws seat s.a c w proper s z.1)))

  -- what is open stays open, as long as its window isn't past
  opens_stays : (c : Word) (w : List Word) (s : Slot) → AreProper (ordered v) seat (c ∷ w) → (ordered v).opens seat w s ≡ true
      → is_past (ordered v) seat (c ∷ w) s ≡ false → (ordered v).opens seat (c ∷ w) s ≡ true
  opens_stays c w s proper e past =
      elim (cases_Bool (s.class == 1)) [
        | inl command ↦ ap (λ (b : Bool). if b then true else round_opens v seat (c ∷ w) s) command
        | inr other ↦
            ap (λ (b : Bool). if b then true else round_opens v seat (c ∷ w) s) other
            ∙ round_opens_stays c w s proper (kept (c ∷ w) s other past) (round_opened v seat w s other e)
      ]

  -- ---- what a word hears isn't past after it

  -- a word of the current round completes one round at most, and a word of an earlier one none
  heard_kept : (s : Slot) (x : List ℕ) (w : List Word) → AreProper (ordered v) seat (Hear s x ∷ w) → (s.class == 1) ≡ false
      → is_kept seat.mode.version (complete_of v seat rounds (Hear s x ∷ w)) s.a ≡ true
  heard_kept s x w proper other =
      let session = session_of v seat w (Hear s x) proper.0 in
      elim (cases_Bool (s.a == complete_of v seat rounds w)) [
        | inl now ↦
            let e = eqb-true s.a (complete_of v seat rounds w) now in
            let l = rises v laws seat session (Hear s x) w proper in
            kept_near seat.mode.version _ s.a (omega (arith, e, l))
        | inr earlier ↦
            let same = (no_step v laws seat session s x w proper other earlier).same in
            let k = (comes_to v laws seat session s x w proper other).kept in
            ap (λ (n : ℕ). is_kept seat.mode.version n s.a) same ∙ k
      ]

  -- a slot isn't past after the word that hears it
  heard_recent : (s : Slot) (x : List ℕ) (w : List Word) → AreProper (ordered v) seat (Hear s x ∷ w) → is_past (ordered v) seat (Hear s x ∷ w) s ≡ false
  heard_recent s x w proper =
      elim (cases_Bool (s.class == 1)) [
        | inl command ↦ command_recent v seat s x w command proper
        | inr other ↦
            ap (lies_past (Hear s x ∷ w) s) other
            ∙ unpast_kept seat.mode.version (complete_of v seat rounds (Hear s x ∷ w)) s.a (heard_kept s x w proper other)
      ]

  -- ---- what is decided stays

  -- nothing is decided where it is spent
  nothing_spent : (a : ℕ) (c : Word) (w : List Word) → AreProper (ordered v) seat (c ∷ w) → v.spent (round_desk v seat a) (round_words v seat a w) ≡ true
      → (v.spent (round_desk v seat a) (round_words v seat a (c ∷ w)) ≡ true) × (round_decides v seat a (c ∷ w) ≡ None)
  nothing_spent a c w proper q =
      let t = spent_stay v laws seat a c w proper q in
      (t, (laws.spent_alone (round_desk v seat a) (round_words v seat a (c ∷ w)) (round_met v (atomic_root v laws) seat a (c ∷ w) proper) t).0)

  -- what an instance decided stays
  decided_stays : (c : Word) (w : List Word) (x : Instance) (d : Decision) → AreProper (ordered v) seat (c ∷ w) → inside_of v seat w x ≡ Some d → inside_of v seat (c ∷ w) x ≡ Some d
  decided_stays c w x d proper q = inside_stay v laws seat (instance_round x) c w proper x d q

  -- ---- a round that is spent is never complete

  -- a round without a decision isn't complete
  never_complete : (a : ℕ) (w : List Word) (log : List Id) → AreProper (ordered v) seat w → round_decides v seat a w ≡ None → log_below v seat (suc a) w ≡ Some log → ⊥
  never_complete a w log proper none q = let x = completes_by v laws seat a w log proper q in none-some x.vector (sym none ∙ x.decides)

  -- where the current round is spent it stays the current one
  same_round : (c : Word) (w : List Word) → AreProper (ordered v) seat (c ∷ w)
      → v.spent (round_desk v seat (complete_of v seat rounds w)) (round_words v seat (complete_of v seat rounds w) w) ≡ true
      → complete_of v seat rounds (c ∷ w) ≡ complete_of v seat rounds w
  same_round c w proper q =
      let a = complete_of v seat rounds w in
      let b = complete_of v seat rounds (c ∷ w) in
      elim (cases_order a b) [
        | inl same ↦ sym same
        | inr (inl less) ↦
            let e = log_earlier v seat b (suc a) (c ∷ w) _ (omega (arith, less)) (log_complete v seat rounds (c ∷ w)) in
            absurd (never_complete a (c ∷ w) e.old proper (nothing_spent a c w proper q).1 e.there)
        | inr (inr more) ↦ absurd (let l = complete_stays v seat rounds c w in omega (arith, l, more))
      ]

  -- the outcome is that the current round is spent
  abbrev is_spent : ℕ → List Word → Bool
  is_spent a w = v.spent (round_desk v seat a) (round_words v seat a w)

  -- where the outcome is a decision it is that
  ending_of : (b : Bool) (d : Decision) → (if b then Decided Spent else Undecided) ≡ Decided d → (b ≡ true) × (d ≡ Spent)
  ending_of true d q = (refl, cc)
  ending_of false d q = absurd cc

  -- the outcome stays
  outcome_stays : (c : Word) (w : List Word) (d : Decision) → AreProper (ordered v) seat (c ∷ w) → (ordered v).outcome seat w ≡ Decided d → (ordered v).outcome seat (c ∷ w) ≡ Decided d
  outcome_stays c w d proper q =
      let a = complete_of v seat rounds w in
      let s = ending_of (is_spent a w) d q in
      let t : is_spent (complete_of v seat rounds (c ∷ w)) (c ∷ w) ≡ true =
      subst (λ (k : ℕ). is_spent k (c ∷ w) ≡ true) (sym (same_round c w proper s.0)) (spent_stay v laws seat a c w proper s.0) in
      ap (λ (b : Bool). if b then Decided Spent else Undecided) t ∙ ap Decided (sym s.1)

-- ---- the laws

-- the laws of a single value
pub ordered_word_laws : (v : RoundRules) → RoundLaws v → WordLaws (ordered v)
ordered_word_laws v laws = record {
  purpose = λ root serves. ap purpose_of (eqb-true root v.root serves) ∙ laws.purpose;
  meanings = λ seat w session serves proper. meanings v laws seat w (eqb-true seat.mode.root v.root serves) proper;
  insides = λ seat w session serves proper. insides v laws seat w session (eqb-true seat.mode.root v.root serves) proper;
  opens_stays = λ seat c w s proper opens past. opens_stays v laws seat c w s proper opens past;
  says_new = λ seat c w proper. says_new v laws seat (session_of v seat w c proper.0) c w proper;
  says_good = λ seat c w below proper. says_good v laws seat (session_of v seat w c proper.0) c w below proper;
  commands_said = λ seat c w proper. commands_said v laws seat (session_of v seat w c proper.0) c w proper;
  inputs_said = λ seat x w has proper. inl refl;
  completed_stays = λ seat c w proper. complete_stays v seat rounds c w;
  base_stays = λ seat c w o proper. base_stays v seat c w o;
  done_nothing = λ seat. done_nothing v seat;
  done_grows = λ seat c w proper. done_grows v seat laws.wanted_sorted c w proper;
  done_once = λ seat w proper. done_distinct v seat laws.wanted_sorted w;
  done_heard = λ seat w proper. done_heard v seat w;
  heard_recent = λ seat s x w proper. heard_recent v laws seat s x w proper;
  outcome_stays = λ seat c w d proper q. outcome_stays v laws seat c w d proper q;
  decided_stays = λ seat c w x d proper q. decided_stays v laws seat c w x d proper q;
}
