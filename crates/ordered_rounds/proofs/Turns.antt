-- What the code does after a word: the current round becomes complete or doesn't, and the next begins or doesn't.
use Rattle.std.specs.Prelude.{◌≡◌, ℕ, zero, suc, ◌+◌, ◌<◌, ◌≤◌, nat_lt, Bool, true, false, ◌&&◌, if◌then◌else◌, List, [], ◌∷◌, ◌++◌, Option, Some, None, is_some, refl}
use Rattle.std.specs.Option.{option_or}
use Rattle.std.specs.declared.vec.Vec.{Vec}
use Rattle.std.proofs.Common.{sym, ◌∙◌, ap, ap₂, subst, inl, inr, arith, append-nil}
use Rattle.std.proofs.lemmas.Bool.{cases_lt, and_left, and_right, and_from, lt-ltb, le-ltb, ltb-true}
use Rattle.std.proofs.lemmas.Option.{none-some}
use Rattle.ritas_base.specs.declared.id.Id.{Id}
use Rattle.ritas_base.specs.declared.item.Say.{Say}
use Rattle.ritas_base.specs.Numbers.{Numbers, IsSession}
use Rattle.ritas_base.specs.Versions.{has_past}
use Rattle.frame_codec.specs.Values.{ids_bytes}
use Rattle.layer_api.specs.Service.{Seat, AreProper}
use Rattle.layer_api.specs.Words.{Word, Ask}
use Rattle.layer_api.specs.Part.{newly_asked, says_in}
use Rattle.layer_api.specs.Multi.{Desk}
use Rattle.ordered_rounds.specs.Box.{RoundRules, RoundLaws}
use Rattle.ordered_rounds.specs.BoxCalls.{RoundShown}
use Rattle.ordered_rounds.specs.Rounds.{delivered_ids, round_desk, round_ask, round_words, rounds_say_below, rounds, is_kept, ordered}
use Rattle.ordered_rounds.specs.Laws.Kept.{kept_near, kept_before, kept_recent}
use Rattle.ordered_rounds.specs.Laws.AskedFirst.{ask_stays, words_new}
use Rattle.ordered_rounds.specs.Stepping.{current, log_now, heard_says, heard_words, next_ask, next_says}
use Rattle.ordered_rounds.specs.Laws.Stepping.{unasked, not_ahead, steps, full_is}
use Rattle.ordered_rounds.specs.Ledger.{LedgerStands}
use Rattle.ordered_rounds.specs.Boxes.{box_at, Stood, BoxesStand, OldStand, BeganAt}
use Rattle.ordered_rounds.specs.Waiting.{decision_in, Knows}
use Rattle.ordered_rounds.specs.Turning.{IsMidway, IsRoundDue, IsGoing, IsNow, Poised, Turned}
use Rattle.ordered_rounds.specs.Laws.Getters.{full_not_spent, AllShow}
use Rattle.ordered_rounds.specs.declared.place.Place.{Place}
use Rattle.ordered_rounds.specs.declared.ordered.Ordered.{Ordered}
use Rattle.ordered_rounds.proofs.Stepped.{some_value, Stays, Goes, words_heard, was_asked, not_spent_before}

-- what is there, where a test says so
pub begun_none : {X : Type 0} (o : Option X) (b : Bool) (u : Option (List ℕ)) → o ≡ None → is_some o ≡ (b && is_some u) → b ≡ true → u ≡ None
begun_none o true None none same t = refl
begun_none o true (Some x) none same t = absurd (let e : false ≡ true = sym (ap is_some none) ∙ same in cc)
begun_none o false u none same t = absurd cc

pub begun_some : {X : Type 0} (x : X) (b : Bool) (u : Option (List ℕ)) → true ≡ (b && is_some u) → (b ≡ true) × (is_some u ≡ true)
begun_some x true (Some y) e = (refl, refl)
begun_some x true None e = absurd cc
begun_some x false u e = absurd cc

-- round 1,000,000 says nothing
none_said : (v : RoundRules) (seat : Seat) (a : ℕ) (h : List Word) (log : List Id) → rounds ≤ a → next_says v seat a h log ≡ []
none_said v seat a h log far = ap (λ (b : Bool). if b then says_in (v.says (round_desk v seat a)) (newly_asked None (next_ask v seat h log)) [] else []) (le-ltb a rounds far)

-- where nothing is decided, it is known that nothing is waited for
knows_none : {Z : Type 0} (v : RoundRules) (p : Numbers) (d : Option (List ℕ)) (o : Option (Vec Id Z)) → o ≡ None → d ≡ None → Knows v p d o
knows_none v p d None e none = none
knows_none v p d (Some ids) e none = absurd cc

knows_new : {Z : Type 0} (v : RoundRules) (p : Numbers) (d e : Option (List ℕ)) (o : Option (Vec Id Z)) → Knows v p d o → d ≡ None → e ≡ None → Knows v p e o
knows_new v p d e None k none now = now
knows_new v p d e (Some ids) k none now = absurd (none-some k.value (sym none ∙ k.is))

module _ {V : Type 0} (stands : V → Desk → List Word → Type 0) (v : RoundRules) (laws : RoundLaws v) (live : V → Bool) (shown : V → RoundShown) (shows : AllShow stands v live shown) where
  -- ---- the current round stays

  module _ (x : Ordered V) (seat : Seat) (w : List Word) (c : Word) (m : IsMidway stands v shown x seat w c) (stays : Stays v seat c w) where
    abbrev n : ℕ
    n = current v seat w

    abbrev session : IsSession seat.numbers
    session = m.seated.session

    abbrev met : AreProper (ordered v) seat (c ∷ w)
    met = m.seated.met

    -- its box, where it began before
    going : (one : V) → x.boxes.current ≡ Some one → IsGoing stands v shown one seat w c
    going one is =
        let b = begun_some one (nat_lt n rounds) (round_ask v seat n w) (sym (ap is_some is) ∙ m.begun) in
        let u = some_value (round_ask v seat n w) b.1 in
        let small : n < rounds = ltb-true n rounds b.0 in
        let heard : Stood stands (Some one) (round_desk v seat n) (heard_words v seat c w n) =
        subst (λ (o : Option V). Stood stands o (round_desk v seat n) (heard_words v seat c w n)) is (m.boxes n 0 (omega arith) (kept_near seat.mode.version n n (omega arith)) small) in
        record {
          round = subst (λ (k : ℕ). k < rounds) (sym stays.remains.same) small;
          asked = ap (λ (k : ℕ). is_some (round_ask v seat k (c ∷ w))) stays.remains.same ∙ ap is_some (ask_stays v laws seat session n c w u.0 u.1);
          stood =
              subst (λ (k : ℕ). stands one (round_desk v seat k) (round_words v seat k (c ∷ w))) (sym stays.remains.same)
              (subst (λ (us : List Word). stands one (round_desk v seat n) us) (sym (words_heard v laws seat session c w met n b.1)) heard);
          says = stays.remains.says_old u.0 u.1;
        }

    no_ask : x.boxes.current ≡ None → n < rounds → round_ask v seat n w ≡ None
    no_ask none small = begun_none x.boxes.current (nat_lt n rounds) (round_ask v seat n w) none m.begun (lt-ltb n rounds small)

    -- what it says, where it hasn't begun
    due_says : x.boxes.current ≡ None → rounds_say_below v seat rounds w c ≡ heard_says v seat w c ++ next_says v seat n (c ∷ w) (log_now v seat w)
    due_says none =
        elim (cases_lt n rounds) [
          | inl small ↦ stays.remains.says_new (no_ask none small)
          | inr full ↦ go full (round_ask v seat n w) refl
        ]
      where
        go : rounds ≤ n → (o : Option (List ℕ)) → round_ask v seat n w ≡ o → rounds_say_below v seat rounds w c ≡ heard_says v seat w c ++ next_says v seat n (c ∷ w) (log_now v seat w)
        go full None e = stays.remains.says_new e
        go full (Some u) e =
            stays.remains.says_old u e
            ∙ sym (ap (λ (ys : List Say). heard_says v seat w c ++ ys) (none_said v seat n (c ∷ w) (log_now v seat w) full) ∙ append-nil (heard_says v seat w c))

    not_spent : x.boxes.current ≡ None → v.spent (round_desk v seat n) (round_words v seat n w) ≡ false
    not_spent none =
        elim (cases_lt n rounds) [
          | inl small ↦ ap (v.spent (round_desk v seat n)) (unasked v laws seat session n w met.1 (no_ask none small)) ∙ laws.spent_first (round_desk v seat n)
          | inr full ↦ subst (λ (a : ℕ). v.spent (round_desk v seat a) (round_words v seat a w) ≡ false) (sym (full_is v laws seat session w full)) (full_not_spent v seat laws w session met.1)
        ]

    due : x.boxes.current ≡ None → IsRoundDue stands v shown seat w c
    due none =
        let same = stays.remains.same in
        let log = stays.remains.log in
        let s = steps v laws seat session c w met in
        let asks : n < rounds → round_ask v seat n (c ∷ w) ≡ next_ask v seat (c ∷ w) (log_now v seat w) =
        λ l. s.asks l ∙ ap (λ (o : Option (List ℕ)). option_or o (next_ask v seat (c ∷ w) (log_now v seat w))) (no_ask none l) in
        record {
          asks = λ l.
              ap (λ (k : ℕ). round_ask v seat k (c ∷ w)) same
              ∙ (asks (subst (λ (k : ℕ). k < rounds) same l) ∙ ap (next_ask v seat (c ∷ w)) (sym log));
          words = λ l.
              let small = subst (λ (k : ℕ). k < rounds) same l in
              ap (λ (k : ℕ). round_words v seat k (c ∷ w)) same
              ∙ (words_new v laws seat session n c w met (no_ask none small)
              ∙ ap (newly_asked None) (asks small ∙ ap (next_ask v seat (c ∷ w)) (sym log)));
          says = due_says none ∙ ap₂ (λ (k : ℕ) (l : List Id). heard_says v seat w c ++ next_says v seat k (c ∷ w) l) (sym same) (sym log);
          unbegun = λ l.
              ap (λ (k : ℕ). round_words v seat k w) same ∙ unasked v laws seat session n w met.1 (no_ask none (subst (λ (k : ℕ). k < rounds) same l));
          not_spent = not_spent none;
        }

    pub here_stays : IsNow stands v shown x.boxes.current seat w c
    here_stays = go x.boxes.current refl
      where
        go : (o : Option V) → x.boxes.current ≡ o → IsNow stands v shown o seat w c
        go None e = due e
        go (Some one) e = going one e

    pub poised_stays : Knows v x.place.numbers (decision_in shown x.boxes.current) x.waits → Poised stands v shown x seat w c
    poised_stays knows =
        let same = stays.remains.same in
        record {
          seated = m.seated;
          ledger = subst (λ (log : List Id). LedgerStands x.ledger (delivered_ids (c ∷ w)) log) (sym stays.remains.log) m.ledger;
          completed = m.completed ∙ sym same;
          older = λ a k e more few small.
              let below : a < n = omega (arith, e, more, same) in
              subst (λ (u : List Word). Stood stands (box_at x.boxes k) (round_desk v seat a) u) (sym ((steps v laws seat session c w met).below a below))
              (m.boxes a k (e ∙ same) (ap (λ (i : ℕ). is_kept seat.mode.version i a) (sym same) ∙ few) small);
          here = here_stays;
          knows = knows;
        }

  -- ---- the current round is complete

  -- the boxes are shifted, and the round's identifiers appended
  pub record Shifted (x y : Ordered V) (delivered log : List Id) : Type 0 where
    pub place : y.place ≡ x.place
    pub inputs : y.inputs ≡ x.inputs
    pub as_live : y.live ≡ x.live
    pub ledger : LedgerStands y.ledger delivered log
    pub completed : y.completed ≡ suc x.completed
    pub current : y.boxes.current ≡ None
    pub older : (k : ℕ) → (has_past x.place.version ≡ true → k < 2) → box_at y.boxes (suc k) ≡ box_at x.boxes k
    pub waits : y.waits ≡ None

  module _ (x y : Ordered V) (seat : Seat) (w : List Word) (c : Word) (m : IsMidway stands v shown x seat w c) (goes : Goes v seat c w)
      (s : Shifted x y (delivered_ids (c ∷ w)) goes.log) where
    older_shifted : (a k : ℕ) → a + suc k ≡ suc (current v seat w) → is_kept seat.mode.version (suc (current v seat w)) a ≡ true → a < rounds
        → Stood stands (box_at x.boxes k) (round_desk v seat a) (round_words v seat a (c ∷ w))
    older_shifted a k e few small =
        subst (λ (u : List Word). Stood stands (box_at x.boxes k) (round_desk v seat a) u) (sym words) (m.boxes a k (omega (arith, e)) (kept_before seat.mode.version _ _ a (omega arith) few) small)
      where
        words : round_words v seat a (c ∷ w) ≡ heard_words v seat c w a
        words = elim (cases_lt a (current v seat w)) [
          | inl below ↦ (steps v laws seat m.seated.session c w m.seated.met).below a below
          | inr most ↦
              let same : a ≡ current v seat w = omega (arith, e, most) in
              words_heard v laws seat m.seated.session c w m.seated.met a
              (subst (λ (k : ℕ). is_some (round_ask v seat k w) ≡ true) (sym same) (was_asked v laws seat m.seated.session c w m.seated.met goes))
        ]

    older_next : OldStand stands v seat (current v seat (c ∷ w)) (λ a. round_words v seat a (c ∷ w)) y.boxes
    older_next a zero e more few small = absurd (omega (arith, more))
    older_next a (suc k) e more few small =
        subst (λ (o : Option V). Stood stands o (round_desk v seat a) (round_words v seat a (c ∷ w)))
        (sym (s.older k (λ past.
        let l = kept_recent seat.mode.version _ a few (sym (ap has_past m.seated.version) ∙ past) in omega (arith, e, l))))
        (older_shifted a k (e ∙ goes.advances.next) (ap (λ (i : ℕ). is_kept seat.mode.version i a) (sym goes.advances.next) ∙ few) small)

    due_next : IsRoundDue stands v shown seat w c
    due_next =
        let next = goes.advances.next in
        let log = goes.advances.log_is in
        record {
          asks = λ l.
              ap (λ (k : ℕ). round_ask v seat k (c ∷ w)) next
              ∙ (goes.advances.asks (subst (λ (k : ℕ). k < rounds) next l) ∙ ap (next_ask v seat (c ∷ w)) (sym log));
          words = λ l.
              ap (λ (k : ℕ). round_words v seat k (c ∷ w)) next
              ∙ (goes.advances.words (subst (λ (k : ℕ). k < rounds) next l) ∙ ap (λ (ids : List Id). newly_asked None (next_ask v seat (c ∷ w) ids)) (sym log));
          says = goes.advances.says ∙ ap₂ (λ (k : ℕ) (l : List Id). heard_says v seat w c ++ next_says v seat k (c ∷ w) l) (sym next) (sym log);
          unbegun = λ l. (not_ahead v laws seat m.seated.session (current v seat (c ∷ w)) w m.seated.met.1 (omega (arith, next))).1;
          not_spent = not_spent_before v laws seat m.seated.session c w m.seated.met goes;
        }

    pub poised_next : Poised stands v shown y seat w c
    poised_next = record {
      seated = record {
        session = m.seated.session;
        met = m.seated.met;
        numbers = ap (λ (q : Place). q.numbers) s.place ∙ m.seated.numbers;
        version = ap (λ (q : Place). q.version) s.place ∙ m.seated.version;
        last = ap (λ (q : Place). q.last) s.place ∙ m.seated.last;
        me = ap (λ (q : Place). q.me) s.place ∙ m.seated.me;
        inputs = s.inputs ∙ m.seated.inputs;
        live = s.as_live ∙ m.seated.live;
      };
      ledger = subst (λ (log : List Id). LedgerStands y.ledger (delivered_ids (c ∷ w)) log) (sym goes.advances.log_is) s.ledger;
      completed = s.completed ∙ (ap suc m.completed ∙ sym goes.advances.next);
      older = older_next;
      here = subst (λ (o : Option V). IsNow stands v shown o seat w c) (sym s.current) due_next;
      knows = knows_none v y.place.numbers (decision_in shown y.boxes.current) y.waits s.waits (ap (decision_in shown) s.current);
    }

  -- ---- the next round begins, or doesn't

  module _ (x : Ordered V) (seat : Seat) (w : List Word) (c : Word) (p : Poised stands v shown x seat w c) where
    abbrev m : ℕ
    m = current v seat (c ∷ w)

    -- the box of the current round beside the older ones
    all_stand : (o : Option V) → (m < rounds → Stood stands o (round_desk v seat m) (round_words v seat m (c ∷ w)))
        → BoxesStand stands v seat m (λ a. round_words v seat a (c ∷ w)) (record x.boxes { current = o })
    all_stand o now a zero e few small =
        let same : a ≡ m = omega (arith, e) in
        subst (λ (k : ℕ). Stood stands o (round_desk v seat k) (round_words v seat k (c ∷ w))) (sym same) (now (subst (λ (k : ℕ). k < rounds) same small))
    all_stand o now a (suc k) e few small = p.older a (suc k) e (omega arith) few small

    -- it began before
    pub turned_going : (one : V) (said : List Say) → x.boxes.current ≡ Some one → Turned stands v shown x seat w c said said
    turned_going one said is =
        let going = subst (λ (o : Option V). IsNow stands v shown o seat w c) is p.here in
        record {
          now = record {
            seated = p.seated;
            ledger = p.ledger;
            completed = p.completed;
            boxes = all_stand x.boxes.current (λ l. subst (λ (o : Option V). Stood stands o (round_desk v seat m) (round_words v seat m (c ∷ w))) (sym is) going.stood);
            begun = ap is_some is ∙ sym (and_from (nat_lt m rounds) _ (lt-ltb m rounds going.round) going.asked);
            waits = p.knows;
          };
          more = [];
          says = going.says ∙ sym (append-nil (heard_says v seat w c));
          made = sym (append-nil said);
        }

    -- none is left, or nothing is pending
    pub turned_none : (said : List Say) → x.boxes.current ≡ None → (m < rounds → next_ask v seat (c ∷ w) (log_now v seat (c ∷ w)) ≡ None) → Turned stands v shown x seat w c said said
    turned_none said is none =
        let due = subst (λ (o : Option V). IsNow stands v shown o seat w c) is p.here in
        record {
          now = record {
            seated = p.seated;
            ledger = p.ledger;
            completed = p.completed;
            boxes = all_stand x.boxes.current (λ l. subst (λ (o : Option V). Stood stands o (round_desk v seat m) (round_words v seat m (c ∷ w))) (sym is)
                (due.words l ∙ ap (newly_asked None) (none l)));
            begun = ap is_some is ∙ sym (elim (cases_lt m rounds) [
              | inl small ↦ ap (λ (o : Option (List ℕ)). nat_lt m rounds && is_some o) (due.asks small ∙ none small) ∙ and_right (nat_lt m rounds) false refl
              | inr full ↦ and_left (nat_lt m rounds) _ (le-ltb m rounds full)
            ]);
            waits = p.knows;
          };
          more = [];
          says = due.says ∙ ap (λ (ys : List Say). heard_says v seat w c ++ ys) (elim (cases_lt m rounds) [
            | inl small ↦ says_none small
            | inr full ↦ none_said v seat m (c ∷ w) (log_now v seat (c ∷ w)) full
          ]);
          made = sym (append-nil said);
        }
      where
        says_none : m < rounds → next_says v seat m (c ∷ w) (log_now v seat (c ∷ w)) ≡ []
        says_none small =
            ap (λ (b : Bool). if b then says_in (v.says (round_desk v seat m)) (newly_asked None (next_ask v seat (c ∷ w) (log_now v seat (c ∷ w)))) [] else []) (lt-ltb m rounds small)
            ∙ ap (λ (o : Option (List ℕ)). says_in (v.says (round_desk v seat m)) (newly_asked None o) []) (none small)

    -- it begins
    pub turned_begun : (y : Ordered V) (one : V) (ids : List Id) (before after : List Say) → x.boxes.current ≡ None → m < rounds
        → y ≡ record x { boxes = record x.boxes { current = Some one } }
        → next_ask v seat (c ∷ w) (log_now v seat (c ∷ w)) ≡ Some (ids_bytes ids) → BeganAt stands v (round_desk v seat m) ids one before after
        → Turned stands v shown y seat w c before after
    turned_begun y one ids before after is small made ask began =
        let due = subst (λ (o : Option V). IsNow stands v shown o seat w c) is p.here in
        let u : List ℕ = ids_bytes ids in
        subst (λ (z : Ordered V). Turned stands v shown z seat w c before after) (sym made) (record {
          now = record {
            seated = record { session = p.seated.session; met = p.seated.met; numbers = p.seated.numbers; version = p.seated.version; me = p.seated.me; last = p.seated.last; inputs = p.seated.inputs; live = p.seated.live };
            ledger = p.ledger;
            completed = p.completed;
            boxes = all_stand (Some one) (λ l. subst (λ (us : List Word). stands one (round_desk v seat m) us) (sym (due.words l ∙ ap (newly_asked None) ask)) began.grows);
            begun = sym (and_from (nat_lt m rounds) _ (lt-ltb m rounds small) (ap is_some (due.asks small ∙ ask)));
            waits =
                knows_new v x.place.numbers (decision_in shown x.boxes.current) (shown one).decision x.waits p.knows (ap (decision_in shown) is)
                ((shows one (round_desk v seat m) (Ask u ∷ []) began.grows).1.decision ∙ laws.decision_asked (round_desk v seat m) u p.seated.session);
          };
          more = v.says (round_desk v seat m) [] (Ask u);
          says = due.says ∙ ap (λ (ys : List Say). heard_says v seat w c ++ ys)
              (ap (λ (b : Bool). if b then says_in (v.says (round_desk v seat m)) (newly_asked None (next_ask v seat (c ∷ w) (log_now v seat (c ∷ w)))) [] else []) (lt-ltb m rounds small)
              ∙ ap (λ (o : Option (List ℕ)). says_in (v.says (round_desk v seat m)) (newly_asked None o) []) ask);
          made = began.made;
        })
