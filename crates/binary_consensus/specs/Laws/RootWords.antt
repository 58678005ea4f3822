-- The laws of binary consensus as a root service, from those of its box.
use Rattle.std.specs.Prelude.{◌≡◌, ℕ, ◌+◌, ◌<◌, ◌≤◌, Bool, true, false, ◌==◌, ◌&&◌, nat_le, if◌then◌else◌, List, [], ◌∷◌, Option, Some, None, option_map, refl}
use Rattle.std.specs.Str.{bytes_eq}
use Rattle.std.proofs.Common.{sym, ◌∙◌, ap, subst, arith}
use Rattle.std.proofs.lemmas.Bool.{and_parts, and_from, eqb-true, leb-true, le-leb, lt-ltb}
use Rattle.ritas_base.specs.declared.slot.Slot.{Slot}
use Rattle.ritas_base.specs.declared.item.Say.{Say}
use Rattle.ritas_base.specs.declared.mode.Mode.{Mode}
use Rattle.ritas_base.specs.Numbers.{Numbers}
use Rattle.ritas_base.specs.Slots.{within, has_class, slot_fault}
use Rattle.layer_api.specs.Service.{ServiceRules, Seat, Instance, OfBit, OfValue, OfVector, Decision, Bit, Decided, ending_decision, Decides, purpose_of, MayAsk, MayHear, AreProper, IsEnding, Insides, WordLaws}
use Rattle.layer_api.specs.Words.{Word, Ask, Hear, asked, bit_byte}
use Rattle.layer_api.specs.FreshLaws.{fresh_other}
use Rattle.layer_api.specs.OneInstance.{is_given, not_given, given_some, given_stays, HasOneInstance, IsInstanceSaid, served, asked_once, instance_word_laws}
use Rattle.layer_api.specs.Binary.{BinaryRules, IsStepSlot, IsVote, MayVote, AreVotes, IsVoteSaid, BoxLaws}
use Rattle.layer_api.specs.VoteLaws.{value_vote, vote_value, input_bit}
use Rattle.binary_consensus.specs.Root.{root_bench, is_root_step, binary_ending, binary_decided_in, binary_root}

module _ (b : BinaryRules) where
  abbrev r : ServiceRules
  r = binary_root b

  root_three : (seat : Seat) → r.serves seat.mode.root ≡ true → seat.mode.root ≡ 3
  root_three seat serves = eqb-true seat.mode.root 3 serves

  pub one : HasOneInstance r
  one = record {
    purpose = refl;
    serves = λ root e. ap purpose_of (eqb-true root 3 e);
    given = λ seat w. refl;
    completed = λ seat w. refl;
    base = λ seat w o. refl;
    next_number = λ seat w. refl;
    done = λ seat w. refl;
  }

  -- ---- words of the instance

  pub record IsOpen (seat : Seat) (w : List Word) (s : Slot) : Type 0 where
    pub given : is_given w ≡ true
    pub slot : IsStepSlot (root_bench seat) s
    pub near : s.bround ≤ b.round (root_bench seat) w + 1

  open_is : (seat : Seat) (w : List Word) (s : Slot) → r.opens seat w s ≡ true → IsOpen seat w s
  open_is seat w s e =
      let x = and_parts (is_given w) _ e in
      let y = and_parts (is_root_step s) _ x.1 in
      let c = and_parts (s.class == 5) _ y.0 in
      let n = and_parts (s.a == 0) _ c.1 in
      let t = and_parts (s.attempt == 0) _ n.1 in
      let z = and_parts (within 1 200 s.bround) _ t.1 in
      let k = and_parts (nat_le 1 s.bround) _ z.0 in
      let m = and_parts (nat_le 1 s.step) _ z.1 in
      record {
        given = x.0;
        slot = record {
          class = eqb-true s.class 5 c.0;
          number = eqb-true s.a 0 n.0;
          attempt = eqb-true s.attempt 0 t.0;
          first_round = leb-true 1 s.bround k.0;
          last_round = leb-true s.bround 200 k.1;
          first_step = leb-true 1 s.step m.0;
          last_step = leb-true s.step 3 m.1;
        };
        near = leb-true _ _ y.1;
      }

  -- what is heard is a vote
  pub hears_vote : (seat : Seat) (w : List Word) (s : Slot) (v : List ℕ) → MayHear r seat w s v → IsVote s.step v
  hears_vote seat w s v may = value_vote seat.numbers seat.mode.root s v (open_is seat w s may.is_open).slot.class may.good

  pub may_vote : (seat : Seat) (w : List Word) (s : Slot) (v : List ℕ) (vote : ℕ) → asked w ≤ 1 → MayHear r seat w s v → v ≡ vote ∷ []
      → MayVote b (root_bench seat) w s vote
  may_vote seat w s v vote once may whole =
      let is = open_is seat w s may.is_open in
      let some = given_some w is.given in
      let is_vote = hears_vote seat w s v may in
      let is_whole = is_vote.whole in
      let same : is_vote.vote ≡ vote = cc in
      let small = is_vote.small in
      record {
        proposed = let e : asked w ≡ 1 = omega (arith, once, some) in e;
        slot = is.slot;
        origin = may.origin;
        near = is.near;
        value = omega (arith, same, small);
        first = may.first;
      }

  -- an input is a bit
  pub asks_bit : (seat : Seat) (w : List Word) (v : List ℕ) → MayAsk r seat w v → v ≡ bit_byte (bytes_eq v (1 ∷ [])) ∷ []
  asks_bit seat w v may = input_bit seat.numbers seat.mode v (root_three seat may.served) may.good

  pub may_propose : (seat : Seat) (w : List Word) (v : List ℕ) → MayAsk r seat w v → asked w ≡ 0
  may_propose seat w v may = not_given w may.first

  pub are_votes : (seat : Seat) (w : List Word) → AreProper r seat w → AreVotes b (root_bench seat) w
  are_votes seat [] proper = tt
  are_votes seat (Ask v ∷ w) proper =
      ((may_propose seat w v proper.0, (bytes_eq v (1 ∷ []), asks_bit seat w v proper.0)), are_votes seat w proper.1)
  are_votes seat (Hear s v ∷ w) proper =
      let vote = hears_vote seat w s v proper.0 in
      ((vote.vote, vote.whole, may_vote seat w s v vote.vote (asked_once r one seat w proper.1) proper.0 vote.whole), are_votes seat w proper.1)

-- the slot of a step is one of root service 3
step_right : (p : Numbers) (mode : Mode) (seat : Seat) (s : Slot) → mode.root ≡ 3 → IsStepSlot (root_bench seat) s → s.origin < p.n → slot_fault p mode s ≡ None
unfolding slot_fault has_class
step_right p mode seat s root is within-n =
    rw (root, is.class, is.number, is.attempt, le-leb 1 s.bround is.first_round, le-leb s.bround 200 is.last_round, le-leb 1 s.step is.first_step, le-leb s.step 3 is.last_step, lt-ltb s.origin p.n within-n) refl

-- what the box says is right
vote_right : (seat : Seat) (y : Say) → seat.mode.root ≡ 3 → IsVoteSaid (root_bench seat) y → IsInstanceSaid seat y
vote_right seat y three said = record {
  origin = said.origin;
  no_command = ap (λ (k : ℕ). k == 1) said.slot.class;
  right = λ below. step_right seat.numbers seat.mode seat y.slot three said.slot (subst (λ (k : ℕ). k < seat.numbers.n) (sym said.origin) below);
  good = vote_value seat.numbers seat.mode.root y.slot y.value said.vote.vote said.slot.class said.vote.whole said.vote.small;
}

-- ---- what is decided

ending_stays : (o u : Option Bool) (p q : Bool) (d : Decision) → ((x : Bool) → o ≡ Some x → u ≡ Some x) → binary_ending o p ≡ Decided d → binary_ending u q ≡ Decided d
ending_stays None u true q d stays e = absurd cc
ending_stays None u false q d stays e = absurd cc
ending_stays (Some x) u p q d stays e = ap (λ (y : Option Bool). binary_ending y q) (stays x refl) ∙ e

decided_stay : (o u : Option Bool) (x : Instance) (d : Decision) → ((y : Bool) → o ≡ Some y → u ≡ Some y) → binary_decided_in o x ≡ Some d → binary_decided_in u x ≡ Some d
decided_stay o u (OfBit a attempt) d stays e = go (a == 0 && attempt == 0) o refl e
  where
    go : (c : Bool) (z : Option Bool) → o ≡ z → (if c then option_map Bit z else None) ≡ Some d → (if c then option_map Bit u else None) ≡ Some d
    go false z q e = absurd cc
    go true None q e = absurd cc
    go true (Some y) q e = ap (option_map Bit) (stays y q) ∙ e
decided_stay o u (OfValue a attempt) d stays e = absurd cc
decided_stay o u (OfVector a) d stays e = absurd cc

-- the bit is the outcome
own_decided : (o : Option Bool) (is_over : Bool) → binary_decided_in o (OfBit 0 0) ≡ ending_decision (binary_ending o is_over)
own_decided (Some bit) is_over = refl
own_decided None true = refl
own_decided None false = refl

-- an instance of one bit ends by a bit, or with its rounds
is_ending : (o : Option Bool) (is_over : Bool) → IsEnding (Decides (OfBit 0 0)) (binary_ending o is_over)
is_ending (Some bit) is_over = tt
is_ending None true = tt
is_ending None false = tt

module _ (b : BinaryRules) where
  module _ (laws : BoxLaws b) where
    opens_stays : (seat : Seat) (c : Word) (w : List Word) (s : Slot) → AreProper (binary_root b) seat (c ∷ w)
        → (binary_root b).opens seat w s ≡ true → (binary_root b).opens seat (c ∷ w) s ≡ true
    opens_stays seat c w s proper opens =
        let x = and_parts (is_given w) _ opens in
        let y = and_parts (is_root_step s) _ x.1 in
        let near = leb-true _ _ y.1 in
        let later = laws.round_stays (root_bench seat) c w (are_votes b seat (c ∷ w) proper) in
        and_from (is_given (c ∷ w)) _ (given_stays c w x.0)
        (and_from (is_root_step s) _ y.0 (le-leb s.bround (b.round (root_bench seat) (c ∷ w) + 1) (omega (arith, near, later))))

    stays : (seat : Seat) (c : Word) (w : List Word) (x : Bool) → AreProper (binary_root b) seat (c ∷ w)
        → b.decision (root_bench seat) w ≡ Some x → b.decision (root_bench seat) (c ∷ w) ≡ Some x
    stays seat c w x proper q = laws.decision_stays (root_bench seat) c w x (are_votes b seat (c ∷ w) proper) q

    insides : (seat : Seat) (w : List Word) → Insides (binary_root b) seat w
    insides seat w = record {
      own = λ x q.
          let o = b.decision (root_bench seat) w in
          let is_over = b.over (root_bench seat) w in
          let e : OfBit 0 0 ≡ x = cc in
          subst (λ (y : Instance). binary_decided_in o y ≡ ending_decision (binary_ending o is_over)) e (own_decided o is_over);
      last = λ x q. absurd cc;
      latest = λ a v q. absurd cc;
      bit = λ a k o q. absurd cc;
    }

    pub root_word_laws : WordLaws (binary_root b)
    root_word_laws = instance_word_laws (binary_root b) (one b) (record {
      ending = λ seat w serves. is_ending (b.decision (root_bench seat) w) (b.over (root_bench seat) w);
      says = λ seat c w proper.
          fresh_other (IsVoteSaid (root_bench seat)) (IsInstanceSaid seat) _ _ _
          (λ y h. vote_right seat y (root_three b seat (served (binary_root b) seat c w proper)) h) (λ y h none. none)
          (laws.says_new (root_bench seat) c w (are_votes b seat (c ∷ w) proper));
      opens_stays = opens_stays;
      outcome_stays = λ seat c w d proper e. ending_stays _ _ _ _ d (λ x q. stays seat c w x proper q) e;
      insides = λ seat w session serves proper. insides seat w;
      decided_stays = λ seat c w x d proper e. decided_stay _ _ x d (λ y q. stays seat c w y proper q) e;
    })
