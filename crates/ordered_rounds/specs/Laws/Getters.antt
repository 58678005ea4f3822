-- What the getters of a value of atomic broadcast answer is what the rules say.
use Rattle.std.specs.Prelude.{◌≡◌, ℕ, ◌-◌, ◌<◌, ◌≤◌, ◌==◌, nat_lt, nat_le, Bool, true, false, not, ◌&&◌, if◌then◌else◌, List, [], ◌∷◌, ◌++◌, slice_index, Option, Some, None, is_some, refl, zero, suc}
use Rattle.std.proofs.Common.{sym, ◌∙◌, ap, ap₂, subst, inl, inr, arith}
use Rattle.std.proofs.lemmas.Bool.{cases_Bool, cases_lt, lt-ltb, le-ltb, le-leb, lt-leb, and_right, and_left, or_from, or_left, cond-true, ne_eqb}
use Rattle.ritas_base.specs.declared.mode.FrameVersion.{FrameVersion}
use Rattle.ritas_base.specs.declared.slot.Slot.{Slot}
use Rattle.ritas_base.specs.declared.id.Id.{Id}
use Rattle.ritas_base.specs.Numbers.{IsSession}
use Rattle.layer_api.specs.Service.{Seat, AreProper, Decided, Undecided, Spent, LastVector}
use Rattle.layer_api.specs.ServiceCalls.{Shows}
use Rattle.layer_api.specs.Words.{Word, Ask, Hear}
use Rattle.layer_api.specs.Part.{newly_asked, passed}
use Rattle.layer_api.specs.Multi.{Desk}
use Rattle.ordered_rounds.specs.Box.{last_attempt, RoundRules, RoundLaws}
use Rattle.layer_api.specs.Vectors.{is_slot_in}
use Rattle.ordered_rounds.specs.BoxCalls.{RoundShown, ShowsRound}
use Rattle.ordered_rounds.specs.Rounds.{delivered_ids, least_without, is_of_round, round_desk, log_below, round_ask, round_words, round_opens, is_kept, rounds, ordered, round_decides, vector_of_round, last_complete, last_vector}
use Rattle.ordered_rounds.specs.Laws.Kept.{kept_near}
use Rattle.ordered_rounds.specs.Laws.WordsMeet.{round_stays, round_nothing}
use Rattle.ordered_rounds.specs.Stepping.{current, log_now}
use Rattle.ordered_rounds.specs.Laws.Stepping.{not_ahead, full_is}
use Rattle.ordered_rounds.specs.Early.{has_early}
use Rattle.ordered_rounds.specs.Ledger.{LedgerStands}
use Rattle.ordered_rounds.specs.Laws.LeastNumber.{least_from}
use Rattle.ordered_rounds.specs.Boxes.{box_at, opens_in, spent_in, Stood, BoxesStand, vector_by_box, last_in}
use Rattle.ordered_rounds.specs.OrderedGetters.{opens_round, base_in, ordered_shown}
use Rattle.ordered_rounds.specs.OrderedStands.{has_begun, OrderedStands}
use Rattle.ordered_rounds.specs.declared.ledger.Ledger.{Ledger}
use Rattle.ordered_rounds.specs.declared.boxes.Boxes.{Boxes}
use Rattle.ordered_rounds.specs.declared.ordered.Ordered.{Ordered}
use Rattle.std.specs.Option.{option_or}
use Rattle.ordered_rounds.specs.Laws.LogsByRound.{complete_small}

-- ---- whether a slot of a round is open, by what the box of its round takes

-- as a value tells it, and as the rules do
abbrev pub slot_told : FrameVersion → ℕ → ℕ → Slot → Bool → Bool
slot_told e f completed s takes = nat_lt s.a 1000000 && (nat_le s.a completed && (is_kept e completed s.a && (is_slot_in f s.a s && takes)))

abbrev pub ruled : FrameVersion → ℕ → ℕ → Slot → Bool → Bool
ruled e f completed s takes = nat_lt s.a rounds && (is_kept e completed s.a && (is_slot_in f s.a s && takes))

-- there is no such round
pub none_beyond : (e : FrameVersion) (f n m : ℕ) (s : Slot) (t u : Bool) → rounds ≤ s.a → slot_told e f n s t ≡ ruled e f m s u
unfolding rounds
none_beyond e f n m s t u far = and_left (nat_lt s.a 1000000) _ (le-ltb s.a 1000000 far) ∙ sym (and_left (nat_lt s.a 1000000) _ (le-ltb s.a 1000000 far))

-- the round began and is kept
pub same_inside : (e : FrameVersion) (f n m : ℕ) (s : Slot) (t u : Bool) → s.a < rounds → s.a ≤ n → is_kept e n s.a ≡ true
    → is_kept e m s.a ≡ true → t ≡ u → slot_told e f n s t ≡ ruled e f m s u
unfolding rounds
same_inside e f n m s t u small begun now later same =
    ap₂ (λ (x y : Bool). nat_lt s.a 1000000 && (x && (is_kept e n s.a && (is_slot_in f s.a s && y)))) (le-leb s.a n begun) same
    ∙ ap (λ (x : Bool). nat_lt s.a 1000000 && (x && (is_slot_in f s.a s && u))) (now ∙ sym later)

-- the round takes nothing
and_nothing : (a b c d : Bool) → d ≡ false → (a && (b && (c && d))) ≡ false
and_nothing a b c d none = and_right a _ (and_right b _ (and_right c d none))

pub ruled_nothing : (e : FrameVersion) (f m : ℕ) (s : Slot) (u : Bool) → u ≡ false → ruled e f m s u ≡ false
ruled_nothing e f m s u none = and_nothing (nat_lt s.a rounds) (is_kept e m s.a) (is_slot_in f s.a s) u none

pub ruled_past : (e : FrameVersion) (f m : ℕ) (s : Slot) (u : Bool) → is_kept e m s.a ≡ false → ruled e f m s u ≡ false
ruled_past e f m s u past = and_right (nat_lt s.a rounds) _ (and_left (is_kept e m s.a) _ past)

pub told_nothing : (e : FrameVersion) (f n : ℕ) (s : Slot) (t : Bool) → t ≡ false → slot_told e f n s t ≡ false
told_nothing e f n s t none = and_right (nat_lt s.a 1000000) _ (and_nothing (nat_le s.a n) (is_kept e n s.a) (is_slot_in f s.a s) t none)

pub told_past : (e : FrameVersion) (f n : ℕ) (s : Slot) (t : Bool) → is_kept e n s.a ≡ false → slot_told e f n s t ≡ false
told_past e f n s t past = and_right (nat_lt s.a 1000000) _ (and_right (nat_le s.a n) _ (and_left (is_kept e n s.a) _ past))

pub told_ahead : (e : FrameVersion) (f n : ℕ) (s : Slot) (t : Bool) → n < s.a → slot_told e f n s t ≡ false
told_ahead e f n s t ahead = and_right (nat_lt s.a 1000000) _ (and_left (nat_le s.a n) _ (lt-leb s.a n ahead))

-- ---- the words of round 1,000,000, which there isn't: it hears nothing

module _ (v : RoundRules) (seat : Seat) where
  none_passed : (c : Word) (w : List Word) → AreProper (ordered v) seat (c ∷ w) → passed (is_of_round rounds) c ≡ []
  unfolding rounds
  none_passed (Ask x) w m = refl
  none_passed (Hear s x) w m =
      let small = m.0.number in
      ap (λ (b : Bool). if b then Hear s x ∷ [] else []) (and_right (not (s.class == 1)) _ (ne_eqb s.a 1000000 (λ e. omega (arith, e, small))))

  one_more : (o u : Option (List ℕ)) (ps us : List Word) → ((x : List ℕ) → o ≡ Some x → u ≡ Some x) → ps ≡ [] → us ≡ newly_asked None o
      → (newly_asked o u ++ ps) ++ us ≡ newly_asked None u
  one_more None None ps us stays none same = ap₂ (λ (xs ys : List Word). xs ++ ys) none same
  one_more None (Some y) ps us stays none same = ap₂ (λ (xs ys : List Word). (Ask y ∷ xs) ++ ys) none same
  one_more (Some x) None ps us stays none same = absurd (let e = stays x refl in cc)
  one_more (Some x) (Some y) ps us stays none same =
      let e : Some y ≡ Some x = stays x refl in
      ap₂ (λ (xs ys : List Word). xs ++ ys) none same ∙ ap (newly_asked None) (sym e)

  full_words : (w : List Word) → AreProper (ordered v) seat w → round_words v seat rounds w ≡ newly_asked None (round_ask v seat rounds w)
  full_words [] m = sym (ap (newly_asked None) (round_nothing seat (log_below v seat rounds)))
  full_words (c ∷ w) m =
      one_more (round_ask v seat rounds w) (round_ask v seat rounds (c ∷ w)) (passed (is_of_round rounds) c) (round_words v seat rounds w)
      (round_stays seat (log_below v seat rounds) c w) (none_passed c w m) (full_words w m.1)

  -- so it is never spent
  pub full_not_spent : (laws : RoundLaws v) (w : List Word) → IsSession seat.numbers → AreProper (ordered v) seat w
      → v.spent (round_desk v seat rounds) (round_words v seat rounds w) ≡ false
  full_not_spent laws w session m = ap (v.spent (round_desk v seat rounds)) (full_words w m) ∙ go (round_ask v seat rounds w)
    where
      go : (o : Option (List ℕ)) → v.spent (round_desk v seat rounds) (newly_asked None o) ≡ false
      go None = laws.spent_first (round_desk v seat rounds)
      go (Some x) = laws.spent_asked (round_desk v seat rounds) x session

  -- and decides nothing
  pub full_undecided : (laws : RoundLaws v) (w : List Word) → IsSession seat.numbers → AreProper (ordered v) seat w → round_decides v seat rounds w ≡ None
  full_undecided laws w session m = ap (v.decision (round_desk v seat rounds)) (full_words w m) ∙ go (round_ask v seat rounds w)
    where
      go : (o : Option (List ℕ)) → v.decision (round_desk v seat rounds) (newly_asked None o) ≡ None
      go None = laws.decision_first (round_desk v seat rounds)
      go (Some x) = laws.decision_asked (round_desk v seat rounds) x session

-- ---- the base

pub base_is : (l : Ledger) (delivered log : List Id) (o : ℕ) → LedgerStands l delivered log → o < 31 → base_in l o ≡ least_without log o
base_is l delivered log o stands small =
    let base : ℕ = slice_index l.bases o in
    cond-true (nat_lt o 31) base 0 (lt-ltb o 31 small)
    ∙ least_from log o base (record {
      missing = sym (stands.known o base small) ∙ or_from _ _ (le-ltb base base (omega arith)) (stands.tight.missing o small);
      below = λ k before. sym (stands.known o k small) ∙ or_left (nat_lt k base) (has_early l.early o k) (lt-ltb k base before);
    })

-- ---- what the rules say

-- a value that stands for some words is live, and its getters answer what the rules say
abbrev pub AllShow : {V : Type 0} → (V → Desk → List Word → Type 0) → RoundRules → (V → Bool) → (V → RoundShown) → Type 0
AllShow {V} stands v live shown = (b : V) (at : Desk) (w : List Word) → stands b at w → (live b ≡ true) × ShowsRound v at w (shown b)

module _ {V : Type 0} (stands : V → Desk → List Word → Type 0) (v : RoundRules) (laws : RoundLaws v) (live : V → Bool) (shown : V → RoundShown) (shows : AllShow stands v live shown) where
  -- what a box takes, and whether it is spent
  pub stood_opens : (one : Option V) (at : Desk) (u : List Word) (s : Slot) → Stood stands one at u → opens_in shown one s ≡ v.opens at u s
  stood_opens None at u s none = sym (ap (λ (t : List Word). v.opens at t s) none ∙ laws.opens_first at s)
  stood_opens (Some x) at u s stood = (shows x at u stood).1.opens s

  pub stood_spent : (one : Option V) (at : Desk) (u : List Word) → Stood stands one at u → spent_in shown one ≡ v.spent at u
  stood_spent None at u none = sym (ap (v.spent at) none ∙ laws.spent_first at)
  stood_spent (Some x) at u stood = (shows x at u stood).1.spent

  -- and its vector
  pub stood_vector : (one : Option V) (at : Desk) (u : List Word) → Stood stands one at u → vector_by_box shown one ≡ v.vector at u
  stood_vector None at u none = sym (laws.vector_none at u (ap (v.decision at) none ∙ laws.decision_first at))
  stood_vector (Some x) at u stood = (shows x at u stood).1.vector

  module _ (seat : Seat) (session : IsSession seat.numbers) where
    -- a round ahead takes nothing
    pub nothing_ahead : (w : List Word) (s : Slot) → AreProper (ordered v) seat w → current v seat w < s.a → v.opens (round_desk v seat s.a) (round_words v seat s.a w) s ≡ false
    nothing_ahead w s m ahead =
        ap (λ (u : List Word). v.opens (round_desk v seat s.a) u s) (not_ahead v laws seat session s.a w m ahead).1 ∙ laws.opens_first (round_desk v seat s.a) s

    pub opens_is : (w : List Word) (b : Boxes V) (s : Slot) → AreProper (ordered v) seat w → BoxesStand stands v seat (current v seat w) (λ a. round_words v seat a w) b
        → opens_round shown seat.mode.version (last_attempt v seat.numbers) (current v seat w) b s ≡ round_opens v seat w s
    opens_is w b s m boxes =
        let n : ℕ = current v seat w in
        let e = seat.mode.version in
        elim (cases_lt s.a rounds) [
          | inr far ↦ none_beyond e (last_attempt v seat.numbers) n n s _ _ far
          | inl small ↦ elim (cases_lt n s.a) [
            | inl ahead ↦ told_ahead e (last_attempt v seat.numbers) n s _ ahead ∙ sym (ruled_nothing e (last_attempt v seat.numbers) n s _ (nothing_ahead w s m ahead))
            | inr begun ↦ elim (cases_Bool (is_kept e n s.a)) [
              | inr past ↦ told_past e (last_attempt v seat.numbers) n s _ past ∙ sym (ruled_past e (last_attempt v seat.numbers) n s _ past)
              | inl kept ↦
                  same_inside e (last_attempt v seat.numbers) n n s _ _ small begun kept kept
                  (stood_opens (box_at b (n - s.a)) (round_desk v seat s.a) (round_words v seat s.a w) s
                  (boxes s.a (n - s.a) (omega (arith, begun)) kept small))
            ]
          ]
        ]

    -- before it began, a round isn't spent
    pub spent_is : (w : List Word) (b : Boxes V) → AreProper (ordered v) seat w → is_some b.current ≡ has_begun v seat w
        → BoxesStand stands v seat (current v seat w) (λ a. round_words v seat a w) b
        → spent_in shown b.current ≡ v.spent (round_desk v seat (current v seat w)) (round_words v seat (current v seat w) w)
    spent_is w b m begun boxes =
        elim (cases_lt (current v seat w) rounds) [
          | inl small ↦
              stood_spent b.current (round_desk v seat (current v seat w)) (round_words v seat (current v seat w) w)
              (boxes (current v seat w) 0 (omega arith) (kept_near seat.mode.version _ _ (omega arith)) small)
          | inr full ↦
              none_there b.current (begun ∙ and_left (nat_lt (current v seat w) rounds) _ (le-ltb (current v seat w) rounds full))
              ∙ sym (subst (λ (a : ℕ). v.spent (round_desk v seat a) (round_words v seat a w) ≡ false) (sym (full_is v laws seat session w full)) (full_not_spent v seat laws w session m))
        ]
      where
        none_there : (o : Option V) → is_some o ≡ false → spent_in shown o ≡ false
        none_there None q = refl
        none_there (Some x) q = absurd cc

    -- the last vector is that of the current round, or of the one before it
    pub now_vector : (w : List Word) (b : Boxes V) → AreProper (ordered v) seat w → is_some b.current ≡ has_begun v seat w
        → BoxesStand stands v seat (current v seat w) (λ a. round_words v seat a w) b
        → vector_by_box shown b.current ≡ vector_of_round v seat (current v seat w) w
    now_vector w b m begun boxes =
        elim (cases_lt (current v seat w) rounds) [
          | inl small ↦
              stood_vector b.current (round_desk v seat (current v seat w)) (round_words v seat (current v seat w) w)
              (boxes (current v seat w) 0 (omega arith) (kept_near seat.mode.version _ _ (omega arith)) small)
          | inr full ↦
              let n : ℕ = current v seat w in
              let same = full_is v laws seat session w full in
              none_there b.current (begun ∙ and_left (nat_lt n rounds) _ (le-ltb n rounds full))
              ∙ sym (subst (λ (a : ℕ). vector_of_round v seat a w ≡ None) (sym same)
              (laws.vector_none (round_desk v seat rounds) (round_words v seat rounds w) (full_undecided v seat laws w session m)))
        ]
      where
        none_there : (o : Option V) → is_some o ≡ false → vector_by_box shown o ≡ None
        none_there None q = refl
        none_there (Some x) q = absurd cc

    pub before_vector : (w : List Word) (b : Boxes V) (n : ℕ) → n ≡ current v seat w
        → BoxesStand stands v seat (current v seat w) (λ a. round_words v seat a w) b
        → (if nat_lt 0 n then vector_by_box shown (box_at b 1) else None) ≡ last_complete v seat n w
    before_vector w b zero same boxes = refl
    before_vector w b (suc n) same boxes =
        let few = complete_small v seat rounds w in
        ap (λ (t : Bool). if t then vector_by_box shown (box_at b 1) else None) (lt-ltb 0 (suc n) (omega arith))
        ∙ stood_vector (box_at b 1) (round_desk v seat n) (round_words v seat n w)
        (boxes n 1 (omega (arith, same)) (kept_near seat.mode.version _ n (omega (arith, same))) (omega (arith, same, few)))

    pub last_is : (w : List Word) (b : Boxes V) → AreProper (ordered v) seat w → is_some b.current ≡ has_begun v seat w
        → BoxesStand stands v seat (current v seat w) (λ a. round_words v seat a w) b → last_in shown (current v seat w) b ≡ last_vector v seat w
    last_is w b m begun boxes =
        ap₂ (λ (o u : Option LastVector). option_or o u) (now_vector w b m begun boxes) (before_vector w b (current v seat w) refl boxes)

  pub shows_rules : (x : Ordered V) (seat : Seat) (w : List Word) → OrderedStands stands v shown x seat w → Shows (ordered v) seat w (ordered_shown shown x)
  shows_rules x seat w h =
      let seated = h.seated in
      let session = seated.session in
      record {
        opens = λ s.
            ap (λ (t : Bool). if s.class == 1 then true else t)
            (ap (λ (e : FrameVersion). opens_round shown e x.place.last x.completed x.boxes s) seated.version
            ∙ ap₂ (λ (f n : ℕ). opens_round shown seat.mode.version f n x.boxes s) seated.last h.completed ∙ opens_is seat session w x.boxes s seated.met h.boxes);
        completed = h.completed;
        base = λ o l. base_is x.ledger (delivered_ids w) (log_now v seat w) o h.ledger (let most = session.most in omega (arith, l, most));
        next_number = seated.inputs;
        given = refl;
        done = h.ledger.listed;
        outcome = ap (λ (t : Bool). if t then Decided Spent else Undecided) (spent_is seat session w x.boxes seated.met h.begun h.boxes);
        last = ap (λ (n : ℕ). last_in shown n x.boxes) h.completed ∙ last_is seat session w x.boxes seated.met h.begun h.boxes;
      }
