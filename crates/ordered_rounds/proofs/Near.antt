-- What the getters of a value of atomic broadcast answer after want of memory: each as before the word or as after it.
use Rattle.std.specs.Prelude.{◌≡◌, ℕ, ◌+◌, ◌-◌, ◌<◌, ◌≤◌, ◌==◌, nat_lt, Bool, true, false, ◌&&◌, if◌then◌else◌, List, [], ◌∷◌, ◌++◌, reverse, Option, Some, None, is_some, refl, ◌⊎◌}
use Rattle.std.proofs.Common.{sym, ◌∙◌, ap, ap₂, subst, inl, inr, arith}
use Rattle.std.proofs.lemmas.Bool.{cases_Bool, cases_lt, and_left, and_parts, le-ltb}
use Rattle.ritas_base.specs.declared.mode.FrameVersion.{FrameVersion}
use Rattle.ritas_base.specs.declared.slot.Slot.{Slot}
use Rattle.ritas_base.specs.declared.id.Id.{Id}
use Rattle.ritas_base.specs.Numbers.{IsSession}
use Rattle.layer_api.specs.Service.{Seat, AreProper, IsPart, Decided, Undecided, Spent}
use Rattle.layer_api.specs.Words.{Word, asked}
use Rattle.layer_api.specs.Part.{passed}
use Rattle.layer_api.specs.Multi.{Desk}
use Rattle.ordered_rounds.specs.Box.{last_attempt, RoundRules, RoundLaws}
use Rattle.ordered_rounds.specs.BoxCalls.{RoundShown}
use Rattle.ordered_rounds.specs.Rounds.{delivered_ids, least_without, is_of_round, round_desk, round_ask, round_words, round_opens, is_kept, rounds, ordered, last_vector}
use Rattle.ordered_rounds.specs.Laws.Kept.{kept_near, far_unkept}
use Rattle.ordered_rounds.specs.Laws.LogsByRound.{log_grows, complete_small}
use Rattle.ordered_rounds.specs.Stepping.{current, log_now, heard_words}
use Rattle.ordered_rounds.specs.Laws.Stepping.{steps, full_is}
use Rattle.ordered_rounds.specs.Boxes.{box_at, opens_in, spent_in, Stood, last_in}
use Rattle.ordered_rounds.specs.OrderedGetters.{opens_round, base_in}
use Rattle.ordered_rounds.specs.OrderedStands.{has_begun, OrderedStands}
use Rattle.ordered_rounds.specs.Turning.{IsMidway, IsNow, Poised, IsNear}
use Rattle.ordered_rounds.specs.Laws.Getters.{slot_told, ruled, none_beyond, same_inside, ruled_nothing, ruled_past, told_nothing, told_past, told_ahead, full_not_spent, base_is, AllShow, stood_opens, stood_spent, nothing_ahead, shows_rules, stood_vector}
use Rattle.ordered_rounds.specs.declared.boxes.Boxes.{Boxes}
use Rattle.ordered_rounds.specs.declared.ordered.Ordered.{Ordered}
use Rattle.ordered_rounds.proofs.Stepped.{stays_or_goes, words_heard, not_spent_before, not_spent_after, only_current}
use Rattle.ordered_rounds.proofs.NearLast.{IsNearVector, NearNow, last_near, last_poised}

-- of two answers one holds, behind a test
near_if : (t o a b d : Bool) → (a ≡ b) ⊎ (a ≡ d) → ((if t then o else a) ≡ (if t then o else b)) ⊎ ((if t then o else a) ≡ (if t then o else d))
near_if t o a b d (inl e) = inl (ap (λ (x : Bool). if t then o else x) e)
near_if t o a b d (inr e) = inr (ap (λ (x : Bool). if t then o else x) e)

ending_near : (a b d : Bool) → (a ≡ b) ⊎ (a ≡ d)
    → ((if a then Decided Spent else Undecided) ≡ (if b then Decided Spent else Undecided)) ⊎ ((if a then Decided Spent else Undecided) ≡ (if d then Decided Spent else Undecided))
ending_near a b d (inl e) = inl (ap (λ (x : Bool). if x then Decided Spent else Undecided) e)
ending_near a b d (inr e) = inr (ap (λ (x : Bool). if x then Decided Spent else Undecided) e)

some_there : {X : Type 0} (o : Option X) (b c : Bool) → is_some o ≡ (b && c) → (x : X) → o ≡ Some x → (b ≡ true) × (c ≡ true)
some_there o b c same x q = and_parts b c (sym same ∙ ap is_some q)

none_there : {X : Type 0} (o : Option X) → is_some o ≡ false → o ≡ None
none_there None q = refl
none_there (Some x) q = absurd cc

module _ {V : Type 0} (stands : V → Desk → List Word → Type 0) (v : RoundRules) (laws : RoundLaws v) (live : V → Bool) (shown : V → RoundShown) (shows : AllShow stands v live shown) where
  -- what a box shows is what the rules say of the words of its round, or of these and what the word makes it hear
  pub record BoxNear (one : V) (at : Desk) (u later : List Word) : Type 0 where
    pub opens : (s : Slot) → ((shown one).opens s ≡ v.opens at u s) ⊎ ((shown one).opens s ≡ v.opens at later s)
    pub spent : ((shown one).spent ≡ v.spent at u) ⊎ ((shown one).spent ≡ v.spent at later)
    pub decided : (((shown one).decision ≡ v.decision at u) × ((shown one).vector ≡ v.vector at u))
        ⊎ (((shown one).decision ≡ v.decision at later) × ((shown one).vector ≡ v.vector at later))

  abbrev pub OneNear : Option V → Desk → List Word → List Word → Type 0
  OneNear None at u later = u ≡ []
  OneNear (Some one) at u later = BoxNear one at u later

  pub near_stood : (one : V) (at : Desk) (u later : List Word) → stands one at u → BoxNear one at u later
  near_stood one at u later stood = let s = (shows one at u stood).1 in record { opens = λ q. inl (s.opens q); spent = inl s.spent; decided = inl (s.decision, s.vector) }

  pub near_later : (one : V) (at : Desk) (u later : List Word) → stands one at later → BoxNear one at u later
  near_later one at u later stood = let s = (shows one at later stood).1 in record { opens = λ q. inr (s.opens q); spent = inr s.spent; decided = inr (s.decision, s.vector) }

  abbrev pub NearBoxes : Seat → List Word → Word → Boxes V → Type 0
  NearBoxes seat w c b =
      (a k : ℕ) → a + k ≡ current v seat w → is_kept seat.mode.version (current v seat w) a ≡ true → a < rounds → OneNear (box_at b k) (round_desk v seat a) (round_words v seat a w) (heard_words v seat c w a)

  -- no round became complete yet: what the value shows
  pub record Before (x : Ordered V) (seat : Seat) (w : List Word) (c : Word) : Type 0 where
    pub session : IsSession seat.numbers
    pub met : AreProper (ordered v) seat (c ∷ w)
    pub numbers : x.place.numbers ≡ seat.numbers
    pub version : x.place.version ≡ seat.mode.version
    pub last : x.place.last ≡ last_attempt v seat.numbers
    pub inputs : (x.inputs ≡ asked w) ⊎ (x.inputs ≡ asked (c ∷ w))
    pub completed : x.completed ≡ current v seat w
    pub boxes : NearBoxes seat w c x.boxes
    pub begun : is_some x.boxes.current ≡ has_begun v seat w
    pub bases : (o : ℕ) → o < 31 → base_in x.ledger o ≡ least_without (log_now v seat w) o
    pub done_before : IsPart (log_now v seat w) (reverse x.ledger.log.items)
    pub done_after : IsPart (reverse x.ledger.log.items) (log_now v seat (c ∷ w))

  module _ (seat : Seat) (session : IsSession seat.numbers) (c : Word) (w : List Word) (met : AreProper (ordered v) seat (c ∷ w)) where
    abbrev n : ℕ
    n = current v seat w

    abbrev later : ℕ
    later = current v seat (c ∷ w)

    abbrev old_opens : Slot → Bool
    old_opens s = v.opens (round_desk v seat s.a) (round_words v seat s.a w) s

    abbrev new_opens : Slot → Bool
    new_opens s = v.opens (round_desk v seat s.a) (round_words v seat s.a (c ∷ w)) s

    -- the words of a round that began, as after the word
    words_later : (a : ℕ) → a ≤ n → a < rounds → (a ≡ n → is_some (round_ask v seat n w) ≡ true) → round_words v seat a (c ∷ w) ≡ heard_words v seat c w a
    words_later a l small asks =
        elim (cases_lt a n) [
          | inl below ↦ (steps v laws seat session c w met).below a below
          | inr most ↦
              let same : a ≡ n = omega (arith, l, most) in
              words_heard v laws seat session c w met a (subst (λ (k : ℕ). is_some (round_ask v seat k w) ≡ true) (sym same) (asks same))
        ]

    -- what a box that is kept takes
    box_near : (s : Slot) (t : Bool) → s.a < rounds → s.a ≤ n → is_kept seat.mode.version n s.a ≡ true → (s.a ≡ n → is_some (round_ask v seat n w) ≡ true)
        → (t ≡ old_opens s) ⊎ (t ≡ v.opens (round_desk v seat s.a) (heard_words v seat c w s.a) s)
        → (slot_told seat.mode.version (last_attempt v seat.numbers) n s t ≡ ruled seat.mode.version (last_attempt v seat.numbers) n s (old_opens s))
        ⊎ (slot_told seat.mode.version (last_attempt v seat.numbers) n s t ≡ ruled seat.mode.version (last_attempt v seat.numbers) later s (new_opens s))
    box_near s t small begun kept asks (inl e) = inl (same_inside seat.mode.version (last_attempt v seat.numbers) n n s _ _ small begun kept kept e)
    box_near s t small begun kept asks (inr e) =
        let f = (last_attempt v seat.numbers) in
        let is : t ≡ new_opens s = e ∙ ap (λ (u : List Word). v.opens (round_desk v seat s.a) u s) (sym (words_later s.a begun small asks)) in
        elim (stays_or_goes v laws seat session c w met) [
          | inl stays ↦
              inr (same_inside seat.mode.version f n later s _ _ small begun kept
              (ap (λ (i : ℕ). is_kept seat.mode.version i s.a) stays.remains.same ∙ kept) is)
          | inr goes ↦ elim (cases_Bool (is_kept seat.mode.version later s.a)) [
            | inl inside ↦ inr (same_inside seat.mode.version f n later s _ _ small begun kept inside is)
            | inr last ↦
                let next = goes.advances.next in
                let far = far_unkept seat.mode.version later s.a last in
                let other = only_current v laws seat session c w met goes s.a (λ same. omega (arith, same, far, next)) in
                let unheard : heard_words v seat c w s.a ≡ round_words v seat s.a w = ap (λ (ds : List Word). ds ++ round_words v seat s.a w) other in
                inl (same_inside seat.mode.version f n n s _ _ small begun kept kept (e ∙ ap (λ (u : List Word). v.opens (round_desk v seat s.a) u s) unheard))
          ]
        ]

    one_near : (s : Slot) (o : Option V) → s.a < rounds → s.a ≤ n → is_kept seat.mode.version n s.a ≡ true → ((x : V) → o ≡ Some x → s.a ≡ n → is_some (round_ask v seat n w) ≡ true)
        → OneNear o (round_desk v seat s.a) (round_words v seat s.a w) (heard_words v seat c w s.a)
        → (slot_told seat.mode.version (last_attempt v seat.numbers) n s (opens_in shown o s) ≡ ruled seat.mode.version (last_attempt v seat.numbers) n s (old_opens s))
        ⊎ (slot_told seat.mode.version (last_attempt v seat.numbers) n s (opens_in shown o s) ≡ ruled seat.mode.version (last_attempt v seat.numbers) later s (new_opens s))
    one_near s None small begun kept asks none = inl (same_inside seat.mode.version (last_attempt v seat.numbers) n n s _ _ small begun kept kept (stood_opens stands v laws live shown shows None (round_desk v seat s.a) (round_words v seat s.a w) s none))
    one_near s (Some one) small begun kept asks near = box_near s ((shown one).opens s) small begun kept (asks one refl) (near.opens s)

    opens_near : (b : Boxes V) → NearBoxes seat w c b → is_some b.current ≡ has_begun v seat w → (s : Slot)
        → (opens_round shown seat.mode.version (last_attempt v seat.numbers) n b s ≡ round_opens v seat w s)
        ⊎ (opens_round shown seat.mode.version (last_attempt v seat.numbers) n b s ≡ round_opens v seat (c ∷ w) s)
    opens_near b boxes begun s =
        let f = (last_attempt v seat.numbers) in
        elim (cases_lt s.a rounds) [
          | inr far ↦ inl (none_beyond seat.mode.version f n n s _ _ far)
          | inl small ↦ elim (cases_lt n s.a) [
            | inl ahead ↦
                inl (told_ahead seat.mode.version f n s _ ahead
                ∙ sym (ruled_nothing seat.mode.version f n s _ (nothing_ahead stands v laws live shown shows seat session w s met.1 ahead)))
            | inr there ↦ elim (cases_Bool (is_kept seat.mode.version n s.a)) [
              | inr past ↦ inl (told_past seat.mode.version f n s _ past ∙ sym (ruled_past seat.mode.version f n s _ past))
              | inl kept ↦
                  one_near s (box_at b (n - s.a)) small there kept
                  (λ x q same. (some_there b.current (nat_lt n rounds) (is_some (round_ask v seat n w)) begun x
                  (sym (ap (box_at b) (let e : n - s.a ≡ 0 = omega (arith, same) in e)) ∙ q)).1)
                  (boxes s.a (n - s.a) (omega (arith, there)) kept small)
            ]
          ]
        ]

    -- whether the current round is spent
    now_near : (o : Option V) → n < rounds → is_some o ≡ has_begun v seat w
        → OneNear o (round_desk v seat n) (round_words v seat n w) (heard_words v seat c w n)
        → (spent_in shown o ≡ v.spent (round_desk v seat n) (round_words v seat n w))
        ⊎ (spent_in shown o ≡ v.spent (round_desk v seat later) (round_words v seat later (c ∷ w)))
    now_near None small begun none = inl (stood_spent stands v laws live shown shows None (round_desk v seat n) (round_words v seat n w) none)
    now_near (Some one) small begun near =
        let asked = (some_there (Some one) (nat_lt n rounds) (is_some (round_ask v seat n w)) begun one refl).1 in
        elim near.spent [
          | inl e ↦ inl e
          | inr e ↦ elim (stays_or_goes v laws seat session c w met) [
            | inl stays ↦
                inr (e ∙ (ap (v.spent (round_desk v seat n)) (sym (words_heard v laws seat session c w met n asked))
                ∙ ap (λ (a : ℕ). v.spent (round_desk v seat a) (round_words v seat a (c ∷ w))) (sym stays.remains.same)))
            | inr goes ↦ inl (e ∙ (not_spent_after v laws seat session c w met goes ∙ sym (not_spent_before v laws seat session c w met goes)))
          ]
        ]

    spent_near : (b : Boxes V) → NearBoxes seat w c b → is_some b.current ≡ has_begun v seat w
        → (spent_in shown b.current ≡ v.spent (round_desk v seat n) (round_words v seat n w))
        ⊎ (spent_in shown b.current ≡ v.spent (round_desk v seat later) (round_words v seat later (c ∷ w)))
    spent_near b boxes begun =
        elim (cases_lt n rounds) [
          | inl small ↦ now_near b.current small begun (boxes n 0 (omega arith) (kept_near seat.mode.version n n (omega arith)) small)
          | inr full ↦
              inl (ap (spent_in shown) (none_there b.current (begun ∙ and_left (nat_lt n rounds) _ (le-ltb n rounds full)))
              ∙ sym (subst (λ (a : ℕ). v.spent (round_desk v seat a) (round_words v seat a w) ≡ false) (sym (full_is v laws seat session w full))
              (full_not_spent v seat laws w session met.1)))
        ]

    -- the vector of a round that is kept
    vector_near : (a : ℕ) (o : Option V) → OneNear o (round_desk v seat a) (round_words v seat a w) (heard_words v seat c w a)
        → IsNearVector v laws seat session stands live shown shows c w met a o
    vector_near a None none = inl (stood_vector stands v laws live shown shows None (round_desk v seat a) (round_words v seat a w) none)
    vector_near a (Some one) near =
        elim near.decided [
          | inl e ↦ inl e.1
          | inr e ↦ inr e.1
        ]

    vector_now : (o : Option V) → OneNear o (round_desk v seat n) (round_words v seat n w) (heard_words v seat c w n)
        → NearNow v laws seat session stands live shown shows c w met o
    vector_now None none = stood_vector stands v laws live shown shows None (round_desk v seat n) (round_words v seat n w) none
    vector_now (Some one) near = vector_near n (Some one) near

    vector_in_window : (b : Boxes V) → NearBoxes seat w c b → is_some b.current ≡ has_begun v seat w
        → (last_in shown n b ≡ last_vector v seat w) ⊎ (last_in shown n b ≡ last_vector v seat (c ∷ w))
    vector_in_window b boxes begun =
        last_near v laws seat session stands live shown shows c w met b begun (λ small. vector_now b.current (boxes n 0 (omega arith) (kept_near seat.mode.version n n (omega arith)) small))
        (λ k same.
        let few = complete_small v seat rounds w in
        vector_near k (box_at b 1) (boxes k 1 (omega (arith, same)) (kept_near seat.mode.version n k (omega (arith, same))) (omega (arith, same, few))))

  -- ---- all is near

  pub near_before : (x : Ordered V) (seat : Seat) (w : List Word) (c : Word) → Before x seat w c → IsNear stands v shown x seat w c
  near_before x seat w c b = record {
    opens = λ s.
        subst (λ (o : Bool). ((if s.class == 1 then true else o) ≡ (ordered v).opens seat w s) ⊎ ((if s.class == 1 then true else o) ≡ (ordered v).opens seat (c ∷ w) s))
        (sym (ap (λ (e : FrameVersion). opens_round shown e x.place.last x.completed x.boxes s) b.version
        ∙ ap₂ (λ (f k : ℕ). opens_round shown seat.mode.version f k x.boxes s) b.last b.completed))
        (near_if (s.class == 1) true _ _ _ (opens_near seat b.session c w b.met x.boxes b.boxes b.begun s));
    completed = inl b.completed;
    base = λ o l. let most = b.session.most in inl (b.bases o (omega (arith, l, most)));
    next_number = b.inputs;
    given = inl refl;
    done_before = b.done_before;
    done_after = b.done_after;
    outcome = ending_near _ _ _ (spent_near seat b.session c w b.met x.boxes b.boxes b.begun);
    last = subst (λ (k : ℕ). (last_in shown k x.boxes ≡ last_vector v seat w) ⊎ (last_in shown k x.boxes ≡ last_vector v seat (c ∷ w))) (sym b.completed)
        (vector_in_window seat b.session c w b.met x.boxes b.boxes b.begun);
  }

  both_nil : (xs ys : List Word) → xs ++ ys ≡ [] → ys ≡ []
  both_nil [] ys e = e
  both_nil (d ∷ xs) ys e = absurd cc

  stood_near : (o : Option V) (at : Desk) (ds u : List Word) → Stood stands o at (ds ++ u) → OneNear o at u (ds ++ u)
  stood_near None at ds u none = both_nil ds u none
  stood_near (Some one) at ds u stood = near_later one at u (ds ++ u) stood

  -- where the word was heard
  pub mid_before : (x : Ordered V) (seat : Seat) (w : List Word) (c : Word) → IsMidway stands v shown x seat w c → Before x seat w c
  mid_before x seat w c m = record {
    session = m.seated.session;
    met = m.seated.met;
    numbers = m.seated.numbers;
    version = m.seated.version;
    last = m.seated.last;
    inputs = inr m.seated.inputs;
    completed = m.completed;
    boxes = λ a k e l small. stood_near (box_at x.boxes k) (round_desk v seat a) (passed (is_of_round a) c) (round_words v seat a w) (m.boxes a k e l small);
    begun = m.begun;
    bases = λ o l. base_is x.ledger (delivered_ids (c ∷ w)) (log_now v seat w) o m.ledger l;
    done_before = ([], sym m.ledger.listed);
    done_after = subst (λ (ys : List Id). IsPart ys (log_now v seat (c ∷ w))) (sym m.ledger.listed) (log_grows v seat rounds c w);
  }

  -- where all stands as before the word, or as after it
  pub shows_before : (x : Ordered V) (seat : Seat) (w : List Word) (c : Word) → OrderedStands stands v shown x seat w → IsNear stands v shown x seat w c
  shows_before x seat w c h =
      let s = shows_rules stands v laws live shown shows x seat w h in
      record {
        opens = λ q. inl (s.opens q);
        completed = inl s.completed;
        base = λ o l. inl (s.base o l);
        next_number = inl s.next_number;
        given = inl refl;
        done_before = ([], sym s.done);
        done_after = subst (λ (ys : List Id). IsPart ys (log_now v seat (c ∷ w))) (sym s.done) (log_grows v seat rounds c w);
        outcome = inl s.outcome;
        last = inl s.last;
      }

  pub shows_after : (x : Ordered V) (seat : Seat) (w : List Word) (c : Word) → OrderedStands stands v shown x seat (c ∷ w) → IsNear stands v shown x seat w c
  shows_after x seat w c h =
      let s = shows_rules stands v laws live shown shows x seat (c ∷ w) h in
      record {
        opens = λ q. inr (s.opens q);
        completed = inr s.completed;
        base = λ o l. inr (s.base o l);
        next_number = inr s.next_number;
        given = inr refl;
        done_before = subst (λ (ys : List Id). IsPart (log_now v seat w) ys) (sym s.done) (log_grows v seat rounds c w);
        done_after = ([], s.done);
        outcome = inr s.outcome;
        last = inr s.last;
      }

  -- ---- where the current round may have to begin

  module _ (x : Ordered V) (seat : Seat) (w : List Word) (c : Word) (p : Poised stands v shown x seat w c) where
    here_opens : (s : Slot) (o : Option V) → s.a ≡ current v seat (c ∷ w) → s.a < rounds → IsNow stands v shown o seat w c
        → (slot_told seat.mode.version (last_attempt v seat.numbers) (current v seat (c ∷ w)) s (opens_in shown o s) ≡ ruled seat.mode.version (last_attempt v seat.numbers) (current v seat w) s (v.opens (round_desk v seat s.a) (round_words v seat s.a w) s))
        ⊎ (slot_told seat.mode.version (last_attempt v seat.numbers) (current v seat (c ∷ w)) s (opens_in shown o s) ≡ ruled seat.mode.version (last_attempt v seat.numbers) (current v seat (c ∷ w)) s (v.opens (round_desk v seat s.a) (round_words v seat s.a (c ∷ w)) s))
    here_opens s None same small due =
        let none : round_words v seat s.a w ≡ [] =
        ap (λ (a : ℕ). round_words v seat a w) same ∙ due.unbegun (subst (λ (a : ℕ). a < rounds) same small) in
        inl (told_nothing seat.mode.version (last_attempt v seat.numbers) (current v seat (c ∷ w)) s false refl
        ∙ sym (ruled_nothing seat.mode.version (last_attempt v seat.numbers) (current v seat w) s _ (ap (λ (u : List Word). v.opens (round_desk v seat s.a) u s) none ∙ laws.opens_first (round_desk v seat s.a) s)))
    here_opens s (Some one) same small going =
        let stood : stands one (round_desk v seat s.a) (round_words v seat s.a (c ∷ w)) =
        subst (λ (a : ℕ). stands one (round_desk v seat a) (round_words v seat a (c ∷ w))) (sym same) going.stood in
        let kept = kept_near seat.mode.version (current v seat (c ∷ w)) s.a (omega (arith, same)) in
        inr (same_inside seat.mode.version (last_attempt v seat.numbers) (current v seat (c ∷ w)) (current v seat (c ∷ w)) s _ _ small (omega (arith, same)) kept kept
        ((shows one (round_desk v seat s.a) (round_words v seat s.a (c ∷ w)) stood).1.opens s))

    poised_opens : (s : Slot)
        → (opens_round shown seat.mode.version (last_attempt v seat.numbers) (current v seat (c ∷ w)) x.boxes s ≡ round_opens v seat w s)
        ⊎ (opens_round shown seat.mode.version (last_attempt v seat.numbers) (current v seat (c ∷ w)) x.boxes s ≡ round_opens v seat (c ∷ w) s)
    poised_opens s =
        let f = (last_attempt v seat.numbers) in
        let m : ℕ = current v seat (c ∷ w) in
        elim (cases_lt s.a rounds) [
          | inr far ↦ inr (none_beyond seat.mode.version f m m s _ _ far)
          | inl small ↦ elim (cases_lt m s.a) [
            | inl ahead ↦
                inr (told_ahead seat.mode.version f m s _ ahead ∙ sym (ruled_nothing seat.mode.version f m s _ (nothing_ahead stands v laws live shown shows seat p.seated.session (c ∷ w) s p.seated.met ahead)))
            | inr there ↦ elim (cases_Bool (is_kept seat.mode.version m s.a)) [
              | inr past ↦ inr (told_past seat.mode.version f m s _ past ∙ sym (ruled_past seat.mode.version f m s _ past))
              | inl kept ↦ elim (cases_lt s.a m) [
                | inl older ↦
                    inr (same_inside seat.mode.version f m m s _ _ small there kept kept
                    (stood_opens stands v laws live shown shows (box_at x.boxes (m - s.a)) (round_desk v seat s.a) (round_words v seat s.a (c ∷ w)) s
                    (p.older s.a (m - s.a) (omega (arith, there)) (omega (arith, older)) kept small)))
                | inr now ↦
                    let same : s.a ≡ m = omega (arith, there, now) in
                    let first : m - s.a ≡ 0 = omega (arith, same) in
                    subst (λ (k : ℕ). (slot_told seat.mode.version f m s (opens_in shown (box_at x.boxes k) s) ≡ round_opens v seat w s) ⊎ (slot_told seat.mode.version f m s (opens_in shown (box_at x.boxes k) s) ≡ round_opens v seat (c ∷ w) s))
                    (sym first) (here_opens s x.boxes.current same small p.here)
              ]
            ]
          ]
        ]

    here_spent : (o : Option V) → IsNow stands v shown o seat w c
        → (spent_in shown o ≡ v.spent (round_desk v seat (current v seat w)) (round_words v seat (current v seat w) w))
        ⊎ (spent_in shown o ≡ v.spent (round_desk v seat (current v seat (c ∷ w))) (round_words v seat (current v seat (c ∷ w)) (c ∷ w)))
    here_spent None due = inl (sym due.not_spent)
    here_spent (Some one) going = inr (shows one (round_desk v seat (current v seat (c ∷ w))) (round_words v seat (current v seat (c ∷ w)) (c ∷ w)) going.stood).1.spent

    pub poised_near : IsNear stands v shown x seat w c
    poised_near = record {
      opens = λ s.
          subst (λ (o : Bool). ((if s.class == 1 then true else o) ≡ (ordered v).opens seat w s) ⊎ ((if s.class == 1 then true else o) ≡ (ordered v).opens seat (c ∷ w) s))
          (sym (ap (λ (e : FrameVersion). opens_round shown e x.place.last x.completed x.boxes s) p.seated.version
          ∙ ap₂ (λ (f k : ℕ). opens_round shown seat.mode.version f k x.boxes s) p.seated.last p.completed))
          (near_if (s.class == 1) true _ _ _ (poised_opens s));
      completed = inr p.completed;
      base = λ o l. let most = p.seated.session.most in inr (base_is x.ledger (delivered_ids (c ∷ w)) (log_now v seat (c ∷ w)) o p.ledger (omega (arith, l, most)));
      next_number = inr p.seated.inputs;
      given = inl refl;
      done_before = subst (λ (ys : List Id). IsPart (log_now v seat w) ys) (sym p.ledger.listed) (log_grows v seat rounds c w);
      done_after = ([], p.ledger.listed);
      outcome = ending_near _ _ _ (here_spent x.boxes.current p.here);
      last = inr (ap (λ (k : ℕ). last_in shown k x.boxes) p.completed ∙ last_poised v laws seat p.seated.session stands live shown shows c w p.seated.met x.boxes p.here p.older);
    }
