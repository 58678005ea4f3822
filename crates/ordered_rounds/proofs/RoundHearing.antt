-- What a slot of a round delivered is heard by the round's box, and by no other.
use Rattle.std.specs.Prelude.{◌≡◌, ℕ, ◌+◌, ◌-◌, ◌<◌, ◌≤◌, ◌==◌, Bool, true, false, not, if◌then◌else◌, List, [], ◌∷◌, ◌++◌, Option, Some, None, is_some, Ok, Err, refl}
use Rattle.std.specs.declared.vec.Vec.{Vec}
use Rattle.std.proofs.Common.{sym, ◌∙◌, ap, subst, inl, inr, arith}
use Rattle.std.proofs.lemmas.Bool.{cases_eq, and_right, and_from, eq-eqb, ne_eqb, both_ways}
use Rattle.ritas_base.specs.declared.bytes.Mem.{Mem}
use Rattle.ritas_base.specs.declared.id.Id.{Id}
use Rattle.ritas_base.specs.declared.slot.Slot.{Slot}
use Rattle.ritas_base.specs.declared.item.Say.{Say}
use Rattle.ritas_base.specs.Numbers.{Numbers, IsSession}
use Rattle.layer_api.specs.Service.{Seat, AreProper, IsPart, MayHear}
use Rattle.layer_api.specs.Words.{Word, Hear}
use Rattle.layer_api.specs.Calls.{IsCoin}
use Rattle.layer_api.specs.Part.{passed}
use Rattle.layer_api.specs.Multi.{Desk}
use Rattle.ordered_rounds.specs.Box.{RoundRules, RoundLaws, MayRound}
use Rattle.ordered_rounds.specs.BoxCalls.{RoundShown, RoundHears}
use Rattle.ordered_rounds.specs.Rounds.{delivered_ids, is_of_round, round_desk, round_words, is_kept, rounds, ordered}
use Rattle.ordered_rounds.specs.Laws.Roots.{atomic_root}
use Rattle.ordered_rounds.specs.Laws.WordsMeet.{round_met}
use Rattle.ordered_rounds.specs.Laws.LogsByRound.{log_grows}
use Rattle.ordered_rounds.specs.Stepping.{current, log_now, heard_says, heard_words}
use Rattle.ordered_rounds.specs.Laws.Stepping.{comes_to, no_step}
use Rattle.ordered_rounds.specs.Ledger.{LedgerStands}
use Rattle.ordered_rounds.specs.Boxes.{box_at, IsExchanged, Stood, BoxesStand, HearsBox}
use Rattle.ordered_rounds.specs.Waiting.{decision_in, Awaits, Knows}
use Rattle.ordered_rounds.specs.OrderedStands.{has_begun, OrderedStands}
use Rattle.ordered_rounds.specs.Turning.{IsMidway, IsWaitKnown, TookWord, IsNear}
use Rattle.ordered_rounds.specs.Laws.Getters.{base_is, AllShow}
use Rattle.ordered_rounds.specs.declared.boxes.Boxes.{Boxes}
use Rattle.ordered_rounds.specs.declared.ordered.Ordered.{Ordered}
use Rattle.ordered_rounds.proofs.Hearing.{knows_awaits, still_stands}
use Rattle.ordered_rounds.proofs.Near.{OneNear, NearBoxes, near_stood, near_before, BoxNear}

awaits_more : {Z : Type 0} (v : RoundRules) (p : Numbers) (d e : Option (List ℕ)) (o : Option (Vec Id Z)) → ((x : List ℕ) → d ≡ Some x → e ≡ Some x) → Awaits v p d o → Awaits v p e o
awaits_more v p d e None stays k = tt
awaits_more v p d e (Some ids) stays k = record { value = k.value; is = stays k.value k.is; ids_are = k.ids_are }

-- ---- one box exchanged

exchanged_same : {V : Type 0} (old new : Boxes V) (k j : ℕ) (one : V) → IsExchanged old new k one → j ≡ k → box_at new j ≡ Some one
exchanged_same old new k j one is same = is j ∙ ap (λ (t : Bool). if t then Some one else box_at old j) (eq-eqb j k same)

exchanged_other : {V : Type 0} (old new : Boxes V) (k j : ℕ) (one : V) → IsExchanged old new k one → (j ≡ k → ⊥) → box_at new j ≡ box_at old j
exchanged_other old new k j one is ne = is j ∙ ap (λ (t : Bool). if t then Some one else box_at old j) (ne_eqb j k ne)

module _ {V : Type 0} (stands : V → Desk → List Word → Type 0) (v : RoundRules) (laws : RoundLaws v) (live : V → Bool) (shown : V → RoundShown) (shows : AllShow stands v live shown) where
  module _ (x : Ordered V) (seat : Seat) (w : List Word) (s : Slot) (u : List ℕ) (h : OrderedStands stands v shown x seat w) (may : MayHear (ordered v) seat w s u)
      (other : (s.class == 1) ≡ false) where
    abbrev session : IsSession seat.numbers
    session = h.seated.session

    abbrev n : ℕ
    n = current v seat w

    -- it is of the round so many before the current one
    abbrev k : ℕ
    k = x.completed - s.a

    met : AreProper (ordered v) seat (Hear s u ∷ w)
    met = (may, h.seated.met)

    small : s.a < rounds
    small = (comes_to v laws seat session s u w met other).round

    begun : s.a ≤ n
    begun = (comes_to v laws seat session s u w met other).begun

    kept : is_kept seat.mode.version n s.a ≡ true
    kept = (comes_to v laws seat session s u w met other).kept

    may_inner : MayRound v (round_desk v seat s.a) (round_words v seat s.a w) (Hear s u)
    may_inner = (comes_to v laws seat session s u w met other).may

    k_is : s.a + k ≡ n
    k_is = let e = h.completed in let l = begun in omega (arith, e, l)

    -- its box is there
    there : (one : V) × (box_at x.boxes k ≡ Some one)
    there = go (box_at x.boxes k) refl (h.boxes s.a k k_is kept small)
      where
        go : (o : Option V) → box_at x.boxes k ≡ o → Stood stands o (round_desk v seat s.a) (round_words v seat s.a w) → (one : V) × (box_at x.boxes k ≡ Some one)
        go (Some one) e stood = (one, e)
        go None e none =
            absurd (both_ways (v.opens (round_desk v seat s.a) [] s) (laws.opens_first (round_desk v seat s.a) s)
            (subst (λ (t : List Word). v.opens (round_desk v seat s.a) t s ≡ true) none may_inner.is_open))

    takes : is_of_round s.a s ≡ true
    takes = and_from (not (s.class == 1)) _ (ap not other) (eq-eqb s.a s.a refl)

    mine : passed (is_of_round s.a) (Hear s u) ≡ Hear s u ∷ []
    mine = ap (λ (b : Bool). if b then Hear s u ∷ [] else []) takes

    not_mine : (a : ℕ) → (a ≡ s.a → ⊥) → passed (is_of_round a) (Hear s u) ≡ []
    not_mine a ne = ap (λ (b : Bool). if b then Hear s u ∷ [] else []) (and_right (not (s.class == 1)) _ (ne_eqb s.a a (λ e. ne (sym e))))

    pub round_says : heard_says v seat w (Hear s u) ≡ v.says (round_desk v seat s.a) (round_words v seat s.a w) (Hear s u)
    round_says = ap (λ (b : Bool). if b then [] else v.says (round_desk v seat s.a) (round_words v seat s.a w) (Hear s u)) other

    same_delivered : delivered_ids (Hear s u ∷ w) ≡ delivered_ids w
    same_delivered = ap (λ (b : Bool). if b then record { origin = s.origin; num = s.a } ∷ delivered_ids w else delivered_ids w) other

    module _ (b : Boxes V) (one next : V) (is : box_at x.boxes k ≡ Some one) (set : IsExchanged x.boxes b k next) where
      stood : stands one (round_desk v seat s.a) (round_words v seat s.a w)
      stood = subst (λ (o : Option V). Stood stands o (round_desk v seat s.a) (round_words v seat s.a w)) is (h.boxes s.a k k_is kept small)

      at_mine : (a j : ℕ) → a ≡ s.a → a + j ≡ n → box_at b j ≡ Some next
      at_mine a j same e =
          let i = k_is in
          let j_is : j ≡ k = omega (arith, same, e, i) in
          exchanged_same x.boxes b k j next set j_is

      at_other : (a j : ℕ) → (a ≡ s.a → ⊥) → a + j ≡ n → box_at b j ≡ box_at x.boxes j
      at_other a j ne e =
          let i = k_is in
          exchanged_other x.boxes b k j next set (λ same. ne (omega (arith, same, e, i)))

      heard_boxes : stands next (round_desk v seat s.a) (Hear s u ∷ round_words v seat s.a w) → BoxesStand stands v seat n (heard_words v seat (Hear s u) w) b
      heard_boxes heard a j e few less =
          elim (cases_eq a s.a) [
            | inl same ↦
                subst (λ (o : Option V). Stood stands o (round_desk v seat a) (heard_words v seat (Hear s u) w a)) (sym (at_mine a j same e))
                (subst (λ (i : ℕ). stands next (round_desk v seat i) (heard_words v seat (Hear s u) w i)) (sym same)
                (subst (λ (ds : List Word). stands next (round_desk v seat s.a) (ds ++ round_words v seat s.a w)) (sym mine) heard))
            | inr ne ↦
                subst (λ (o : Option V). Stood stands o (round_desk v seat a) (heard_words v seat (Hear s u) w a)) (sym (at_other a j ne e))
                (subst (λ (ds : List Word). Stood stands (box_at x.boxes j) (round_desk v seat a) (ds ++ round_words v seat a w)) (sym (not_mine a ne))
                (h.boxes a j e few less))
          ]

      -- the current round's box, where it is another or this one
      current_other : (s.a ≡ n → ⊥) → b.current ≡ x.boxes.current
      current_other ne = at_other n 0 (λ e. ne (sym e)) (omega arith)

      current_mine : s.a ≡ n → (b.current ≡ Some next) × (x.boxes.current ≡ Some one)
      current_mine same =
          let e = h.completed in
          let none : k ≡ 0 = omega (arith, same, e) in
          (at_mine n 0 (sym same) (omega arith), subst (λ (j : ℕ). box_at x.boxes j ≡ Some one) none is)

      begun_same : is_some b.current ≡ has_begun v seat w
      begun_same =
          elim (cases_eq s.a n) [
            | inl same ↦ let t = current_mine same in ap is_some t.0 ∙ (sym (ap is_some t.1) ∙ h.begun)
            | inr ne ↦ ap is_some (current_other ne) ∙ h.begun
          ]

      decided_still : stands next (round_desk v seat s.a) (Hear s u ∷ round_words v seat s.a w) → (y : List ℕ) → (shown one).decision ≡ Some y → (shown next).decision ≡ Some y
      decided_still heard y q =
          let old = (shows one (round_desk v seat s.a) (round_words v seat s.a w) stood).1.decision in
          let new = (shows next (round_desk v seat s.a) (Hear s u ∷ round_words v seat s.a w) heard).1.decision in
          new ∙ laws.decision_stays (round_desk v seat s.a) (Hear s u) (round_words v seat s.a w) y session refl (may_inner, round_met v (atomic_root v laws) seat s.a w h.seated.met) (sym old ∙ q)

      waits_still : stands next (round_desk v seat s.a) (Hear s u ∷ round_words v seat s.a w) → Awaits v x.place.numbers (decision_in shown b.current) x.waits
      waits_still heard =
          let k = knows_awaits v x.place.numbers (decision_in shown x.boxes.current) x.waits h.waits in
          elim (cases_eq s.a n) [
            | inl same ↦
                let t = current_mine same in
                awaits_more v x.place.numbers (decision_in shown x.boxes.current) (decision_in shown b.current) x.waits
                (λ y q. ap (decision_in shown) t.0 ∙ decided_still heard y (sym (ap (decision_in shown) t.1) ∙ q)) k
            | inr ne ↦ subst (λ (o : Option V). Awaits v x.place.numbers (decision_in shown o) x.waits) (sym (current_other ne)) k
          ]

      mid_round : stands next (round_desk v seat s.a) (Hear s u ∷ round_words v seat s.a w) → IsMidway stands v shown (record x { boxes = b }) seat w (Hear s u)
      mid_round heard = record {
        seated = record {
          session = session;
          met = met;
          numbers = h.seated.numbers;
          version = h.seated.version;
          last = h.seated.last;
          me = h.seated.me;
          inputs = h.seated.inputs;
          live = h.seated.live;
        };
        ledger = subst (λ (ids : List Id). LedgerStands x.ledger ids (log_now v seat w)) (sym same_delivered) h.ledger;
        completed = h.completed;
        boxes = heard_boxes heard;
        begun = begun_same;
        waits = waits_still heard;
      }

      -- another round than the current one hears it
      known_round : (s.a ≡ n → ⊥) → stands next (round_desk v seat s.a) (Hear s u ∷ round_words v seat s.a w) → IsWaitKnown stands v shown (record x { boxes = b }) seat w (Hear s u)
      known_round ne heard = record {
        mid = mid_round heard;
        knows = subst (λ (o : Option V). Knows v x.place.numbers (decision_in shown o) x.waits) (sym (current_other ne)) h.waits;
      }

      -- for want of memory
      near_boxes : BoxNear stands v laws live shown shows next (round_desk v seat s.a) (round_words v seat s.a w) (Hear s u ∷ round_words v seat s.a w)
          → NearBoxes stands v laws live shown shows seat w (Hear s u) b
      near_boxes near a j e few less =
          elim (cases_eq a s.a) [
            | inl same ↦
                subst (λ (o : Option V). OneNear stands v laws live shown shows o (round_desk v seat a) (round_words v seat a w) (heard_words v seat (Hear s u) w a)) (sym (at_mine a j same e))
                (subst (λ (i : ℕ). BoxNear stands v laws live shown shows next (round_desk v seat i) (round_words v seat i w) (heard_words v seat (Hear s u) w i)) (sym same)
                (subst (λ (ds : List Word). BoxNear stands v laws live shown shows next (round_desk v seat s.a) (round_words v seat s.a w) (ds ++ round_words v seat s.a w)) (sym mine) near))
            | inr ne ↦
                subst (λ (o : Option V). OneNear stands v laws live shown shows o (round_desk v seat a) (round_words v seat a w) (heard_words v seat (Hear s u) w a)) (sym (at_other a j ne e))
                (still_near (box_at x.boxes j) (round_desk v seat a) (round_words v seat a w) (heard_words v seat (Hear s u) w a) (h.boxes a j e few less))
          ]
        where
          still_near : (o : Option V) (at : Desk) (t later : List Word) → Stood stands o at t → OneNear stands v laws live shown shows o at t later
          still_near None at t later none = none
          still_near (Some y) at t later stood = near_stood stands v laws live shown shows y at t later stood

      before_round : BoxNear stands v laws live shown shows next (round_desk v seat s.a) (round_words v seat s.a w) (Hear s u ∷ round_words v seat s.a w)
          → IsNear stands v shown (record x { boxes = b }) seat w (Hear s u)
      before_round near =
          near_before stands v laws live shown shows (record x { boxes = b }) seat w (Hear s u) (record {
            session = session;
            met = met;
            numbers = h.seated.numbers;
            version = h.seated.version;
            last = h.seated.last;
            inputs = inl h.seated.inputs;
            completed = h.completed;
            boxes = near_boxes near;
            begun = begun_same;
            bases = λ o l. base_is x.ledger (delivered_ids w) (log_now v seat w) o h.ledger l;
            done_before = ([], sym h.ledger.listed);
            done_after = subst (λ (ys : List Id). IsPart ys (log_now v seat (Hear s u ∷ w))) (sym h.ledger.listed) (log_grows v seat rounds (Hear s u) w);
          })

    module _ (bits : Slot → Bool) (coin : IsCoin seat.coin bits) (b : Boxes V) (said made : List Say) where
      -- the current round's box heard it
      pub mid_heard : (j : ℕ) → j ≡ k → HearsBox stands v live shown bits j x.boxes b s u said made (Ok tt) → IsMidway stands v shown (record x { boxes = b }) seat w (Hear s u)
      mid_heard j same hears =
          let o = there in
          let y = subst (λ (i : ℕ). (one : V) → box_at x.boxes i ≡ Some one → (next : V) × IsExchanged x.boxes b i next × RoundHears stands v live shown bits one next s u said made (Ok tt)) same hears o.0 o.1 in
          mid_round b o.0 y.0 o.1 y.1 (y.2.grows (round_desk v seat s.a) (round_words v seat s.a w) (stood b o.0 y.0 o.1 y.1) (coin, may_inner))

      pub made_heard : (j : ℕ) → j ≡ k → HearsBox stands v live shown bits j x.boxes b s u said made (Ok tt) → made ≡ said ++ heard_says v seat w (Hear s u)
      made_heard j same hears =
          let o = there in
          let y = subst (λ (i : ℕ). (one : V) → box_at x.boxes i ≡ Some one → (next : V) × IsExchanged x.boxes b i next × RoundHears stands v live shown bits one next s u said made (Ok tt)) same hears o.0 o.1 in
          y.2.made (round_desk v seat s.a) (round_words v seat s.a w) (stood b o.0 y.0 o.1 y.1) (coin, may_inner) ∙ ap (λ (ys : List Say). said ++ ys) (sym round_says)

      -- another's did
      pub took_other : (j : ℕ) → j ≡ k → (j ≡ 0 → ⊥) → HearsBox stands v live shown bits j x.boxes b s u said made (Ok tt) → TookWord stands v shown (record x { boxes = b }) seat w (Hear s u) said made
      took_other j same ne hears =
          let o = there in
          let y = subst (λ (i : ℕ). (one : V) → box_at x.boxes i ≡ Some one → (next : V) × IsExchanged x.boxes b i next × RoundHears stands v live shown bits one next s u said made (Ok tt)) same hears o.0 o.1 in
          let e = h.completed in
          let apart : s.a ≡ n → ⊥ = λ now. ne (omega (arith, now, e, same)) in
          let still = no_step v laws seat session s u w met other (ne_eqb s.a n apart) in
          record {
            now =
                still_stands stands v laws live shown shows (record x { boxes = b }) seat w (Hear s u)
                (known_round b o.0 y.0 o.1 y.1 apart (y.2.grows (round_desk v seat s.a) (round_words v seat s.a w) (stood b o.0 y.0 o.1 y.1) (coin, may_inner))) still;
            made = made_heard j same hears ∙ ap (λ (ys : List Say). said ++ ys) (sym still.says);
          }

      pub near_heard : (j : ℕ) → j ≡ k → (e : Mem) → HearsBox stands v live shown bits j x.boxes b s u said made (Err e) → IsNear stands v shown (record x { boxes = b }) seat w (Hear s u)
      near_heard j same e hears =
          let o = there in
          let y = subst (λ (i : ℕ). (one : V) → box_at x.boxes i ≡ Some one → (next : V) × IsExchanged x.boxes b i next × RoundHears stands v live shown bits one next s u said made (Err e)) same hears o.0 o.1 in
          let near = y.2.shows (round_desk v seat s.a) (round_words v seat s.a w) (stood b o.0 y.0 o.1 y.1) (coin, may_inner) in
          before_round b o.0 y.0 o.1 y.1 (record { opens = near.opens; spent = elim near.ending [ inl e ↦ inl e.1 | inr e ↦ inr e.1 ]; decided = elim near.ending [ inl e ↦ inl (e.0, e.2) | inr e ↦ inr (e.0, e.2) ] })
