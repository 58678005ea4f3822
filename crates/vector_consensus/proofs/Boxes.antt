-- What a call does to a box: before any word, on the way to what is put out, and as that is put out.
use Rattle.std.specs.Prelude.{◌≡◌, ℕ, suc, ◌≤◌, ◌⊎◌, Bool, true, false, ◌==◌, ◌&&◌, nat_lt, if◌then◌else◌, List, [], ◌∷◌, ◌++◌, map, length, count_by, Option, Some, None, is_some, Result, Ok, Err, IfOk, refl}
use Rattle.std.specs.List.{slice_get}
use Rattle.std.proofs.Common.{sym, ◌∙◌, ap, ap₂, subst, inl, inr, arith}
use Rattle.std.proofs.lemmas.Bool.{cases_lt, lt-ltb, le-ltb}
use Rattle.std.proofs.lemmas.Result.{IfOk-at_ok, IfOk-weaker}
use Rattle.ritas_base.specs.declared.bytes.Mem.{Mem}
use Rattle.ritas_base.specs.declared.slot.Slot.{Slot}
use Rattle.ritas_base.specs.declared.item.Say.{Say}
use Rattle.ritas_base.specs.History.{replicas}
use Rattle.ritas_base.specs.Quorums.{count_no}
use Rattle.layer_api.specs.Words.{Word, Ask, Hear}
use Rattle.layer_api.specs.Calls.{IsCoin, WordDone}
use Rattle.layer_api.specs.Part.{proposed}
use Rattle.layer_api.specs.Multi.{Desk, MultiRules, MultiLaws}
use Rattle.layer_api.specs.MultiCalls.{MultiShown}
use Rattle.layer_api.specs.Vectors.{MayVector, is_slot_in, is_vector_slot}
use Rattle.layer_api.specs.VectorCalls.{ShowsVectorNear, VectorProposes, VectorHears}
use Rattle.std.specs.Option.{option_flatten}
use Rattle.vector_consensus.specs.Consensus.{props, try_desk, try_words, vector_opens, vectors}
use Rattle.vector_consensus.specs.Laws.Box.{decision_first, spent_first, try_stays}
use Rattle.vector_consensus.specs.Kept.{KeptProposals, AreKeptProposals}
use Rattle.vector_consensus.specs.Parts.{IsVectorPart}
use Rattle.vector_consensus.specs.Begun.{there_is, vector_of_attempt, IsDecidingAttempt}
use Rattle.vector_consensus.specs.Going.{KeepsAttempts}
use Rattle.vector_consensus.specs.Holding.{AttemptsHold, AttemptsHeard, StartsAttempts, AreNear}
use Rattle.vector_consensus.specs.Opening.{attempt_opens, is_slot_allowed, attempts_open, attempt_few}
use Rattle.vector_consensus.specs.Stands.{VectorStands, HearsSlot, NearSlot, KeepsCopies, VectorEnds, vector_in, vector_shown, shown_is, nothing_open, shows_vector, as_byte, attempt_at}
use Rattle.vector_consensus.specs.declared.part.Part.{Part}
use Rattle.vector_consensus.specs.declared.going.Progress.{Progress}
use Rattle.vector_consensus.specs.declared.vc.Vc.{Vc}
use Rattle.vector_consensus.proofs.Proposed.{props_length}
use Rattle.vector_consensus.proofs.Reaching.{Shows, has_vectors}

-- ---- before any word

abbrev no_value : Option (List ℕ)
no_value = None

none_there : (ks : List ℕ) → count_by is_some (map (λ k. no_value) ks) ≡ 0
none_there [] = refl
none_there (k ∷ ks) = count_no is_some no_value (map (λ k. no_value) ks) refl ∙ none_there ks

module _ {M : Type 0} (stands : M → Desk → List Word → Type 0) (m : MultiRules) (laws : MultiLaws m) where
  pub begins : (x : Vc M) (at : Desk) → IsVectorPart x.part at → ((os : List (Option (List ℕ))) → length os ≤ 32 → count_by is_some os ≡ 0 → AreKeptProposals os x.table) → x.tries.items ≡ []
      → x.place ≡ record { own = false; begun = 0; decided = None; spent = false } → x.live ≡ true → VectorStands stands m x at []
  begins x at is kept empty start live =
      let most = is.session.most in
      let size = props_length at.scope [] in
      let none : length x.tries.items ≡ 0 = ap length empty in
      record {
        holds = record {
          met = tt;
          part_is = is;
          owns = ap (λ (p : Progress). p.own) start;
          kept = kept (props at.scope []) (omega (arith, size, most)) (none_there (replicas at.scope.numbers.n));
          each = λ k b q. absurd (let e = ap (λ (ts : List M). slice_get ts k) (sym empty) ∙ q in cc);
          begun = record {
            asked = λ k l. absurd (omega (arith, l, none));
            failed = λ k l. absurd (omega (arith, l, none));
            unasked = λ k l last. refl;
            few = omega (arith, none);
          };
        };
        reached = record {
          owns = refl;
          begun = ap (λ (p : Progress). p.begun) start ∙ sym none;
          decided = subst (λ (o : Option ℕ). IsDecidingAttempt m at [] (length x.tries.items) o) (sym (ap (λ (p : Progress). p.decided) start)) (decision_first m laws at (suc at.scope.numbers.f));
          spent = ap (λ (p : Progress). p.spent) start ∙ sym (spent_first m laws at at.scope.numbers.f);
        };
        live = live;
      }

-- ---- of two answers one holds

near_where : (t a b d : Bool) → (t ≡ true → (a ≡ b) ⊎ (a ≡ d)) → ((t && a) ≡ (t && b)) ⊎ ((t && a) ≡ (t && d))
near_where true a b d near = near refl
near_where false a b d near = inl refl

near_if : (t o p q a b d : Bool) → o ≡ p → (t ≡ false → (a ≡ b) ⊎ (a ≡ d)) → ((if t then o else a) ≡ (if t then p else b)) ⊎ ((if t then o else a) ≡ (if t then q else d))
near_if true o p q a b d e near = inl e
near_if false o p q a b d e near = near refl

module _ {M : Type 0} (stands : M → Desk → List Word → Type 0) (m : MultiRules) (laws : MultiLaws m) (live : M → Bool) (shown : M → MultiShown) (shows : Shows stands m live shown) where
  -- ---- the getters

  pub open_answers : (x : Vc M) (at : Desk) (w : List Word) (s : Slot) (ts : List M) (found : Bool) → VectorStands stands m x at w → ts ≡ x.tries.items
      → found ≡ attempts_open shown x.part x.place ts s → found ≡ vector_opens m at w s
  open_answers x at w s ts found h same e =
      e ∙ (ap (λ (us : List M). attempts_open shown x.part x.place us s) same ∙ (shows_vector stands m laws live shown shows x at w h).1.opens s)

  pub decision_answers : (x : Vc M) (at : Desk) (w : List Word) (ts : List M) (found : Option (List ℕ)) → VectorStands stands m x at w → ts ≡ x.tries.items
      → found ≡ vector_in shown x.place.decided ts → found ≡ (vectors m).decision at w
  decision_answers x at w ts found h same e =
      e ∙ (ap (λ (us : List M). vector_in shown x.place.decided us) same ∙ (shows_vector stands m laws live shown shows x at w h).1.decision)

  pub attempt_answers : (x : Vc M) (at : Desk) (w : List Word) (found : Option ℕ) → VectorStands stands m x at w
      → found ≡ as_byte x.place.decided → found ≡ (vectors m).attempt at w
  attempt_answers x at w found h e = e ∙ (shows_vector stands m laws live shown shows x at w h).1.attempt

  -- ---- after want of memory

  -- those that stay show what they showed
  pub near_still : (x : Vc M) (at : Desk) (w : List Word) (c : Word) (new : List M) → VectorStands stands m x at w → KeepsAttempts x.tries.items new → AreNear shown m at w c x.tries.items new
  near_still x at w c new h more k b is =
      let s = shown_is stands m laws live shown shows x at w h k b is in
      (b, more k b is, record { opens = λ q. inl (s.opens q); decision = inl s.decision })

  module _ (x new : Vc M) (at : Desk) (w : List Word) (c : Word) (h : VectorStands stands m x at w) (may : MayVector (vectors m) at w c) (keeps : KeepsCopies x new)
      (near : AreNear shown m at w c x.tries.items new.tries.items) where
    -- what a slot of an attempt shows
    abbrev shown_there : Slot → Bool
    shown_there s = nat_lt s.attempt x.place.begun && attempt_opens shown (slice_get new.tries.items s.attempt) s

    try_near : (s : Slot) → s.attempt ≤ at.scope.numbers.f
        → (shown_there s ≡ m.opens (try_desk at s.attempt) (try_words m at s.attempt w) s) ⊎ (shown_there s ≡ m.opens (try_desk at s.attempt) (try_words m at s.attempt (c ∷ w)) s)
    try_near s most =
        elim (cases_lt s.attempt (length x.tries.items)) [
          | inl less ↦
              let b = there_is x.tries.items s.attempt less in
              let n = near s.attempt b.0 b.1 in
              let is : shown_there s ≡ (shown n.0).opens s =
              ap (λ (k : ℕ). nat_lt s.attempt k && attempt_opens shown (slice_get new.tries.items s.attempt) s) h.reached.begun
              ∙ ap₂ (λ (t : Bool) (o : Option M). t && attempt_opens shown o s) (lt-ltb s.attempt (length x.tries.items) less) n.1 in
              elim (n.2.opens s) [ inl o ↦ inl (is ∙ o) | inr o ↦ inr (is ∙ o) ]
          | inr past ↦
              inl (ap (λ (k : ℕ). nat_lt s.attempt k && attempt_opens shown (slice_get new.tries.items s.attempt) s) h.reached.begun
              ∙ (ap (λ (t : Bool). t && attempt_opens shown (slice_get new.tries.items s.attempt) s) (le-ltb s.attempt (length x.tries.items) past)
              ∙ sym (nothing_open stands m laws live shown shows x at w h s.attempt past most s)))
        ]

    allowed_near : (s : Slot) → is_vector_slot at.scope s ≡ true
        → (is_slot_allowed shown x.place new.tries.items s ≡ (if s.class == 2 then is_some (proposed w) else m.opens (try_desk at s.attempt) (try_words m at s.attempt w) s))
        ⊎ (is_slot_allowed shown x.place new.tries.items s ≡ (if s.class == 2 then is_some (proposed (c ∷ w)) else m.opens (try_desk at s.attempt) (try_words m at s.attempt (c ∷ w)) s))
    allowed_near s of = near_if (s.class == 2) _ _ _ _ _ _ h.holds.owns (λ other. try_near s (attempt_few at.scope s of other))

    opens_near : (s : Slot) → (attempts_open shown new.part new.place new.tries.items s ≡ vector_opens m at w s) ⊎ (attempts_open shown new.part new.place new.tries.items s ≡ vector_opens m at (c ∷ w) s)
    opens_near s =
        let is : attempts_open shown new.part new.place new.tries.items s ≡ (is_vector_slot at.scope s && is_slot_allowed shown x.place new.tries.items s) =
        ap₂ (λ (p : Part) (n : Progress). attempts_open shown p n new.tries.items s) keeps.part keeps.place
        ∙ ap₂ (λ (l a : ℕ). is_slot_in l a s && is_slot_allowed shown x.place new.tries.items s) h.holds.part_is.last h.holds.part_is.a in
        elim (near_where (is_vector_slot at.scope s) _ _ _ (λ of. allowed_near s of)) [ inl o ↦ inl (is ∙ o) | inr o ↦ inr (is ∙ o) ]

    -- what was decided stays
    decision_near : vector_in shown new.place.decided new.tries.items ≡ (vectors m).decision at w
    decision_near = ap (λ (p : Progress). vector_in shown p.decided new.tries.items) keeps.place ∙ go x.place.decided h.reached.decided
      where
        go : (o : Option ℕ) → IsDecidingAttempt m at w (length x.tries.items) o → vector_in shown o new.tries.items ≡ (vectors m).decision at w
        go None d = sym d
        go (Some k) d =
            let b = there_is x.tries.items k d.0 in
            let n = near k b.0 b.1 in
            let v = d.1.0 in
            let later = try_stays m laws at h.holds.part_is.session (has_vectors m at w c may) k c w (Some v) (may, h.holds.met) d.1.1 in
            let is : (shown n.0).decision ≡ Some (Some v) = elim n.2.decision [ inl e ↦ e ∙ d.1.1 | inr e ↦ e ∙ later ] in
            ap (vector_of_attempt shown) n.1 ∙ (ap option_flatten is ∙ sym d.1.2)

    shows_near : ShowsVectorNear (vectors m) at w c (vector_shown shown new)
    shows_near =
        let d = decision_near in
        let s = ap (λ (p : Progress). p.spent) keeps.place ∙ h.reached.spent in
        let a = ap (λ (p : Progress). as_byte p.decided) keeps.place ∙ attempt_at stands m laws live shown shows x at w h in
        record { opens = opens_near; decision = inl d; spent = inl s; ending = inl (d, s, a) }

  -- ---- a word is put out

  -- so far the box has come by the word, on the way to what is put out
  abbrev Hears : Vc M → Vc M → Word → (Desk → List Word → Type 0) → Progress → List Say → Type 0
  Hears x mid c may place made =
      (at : Desk) (w : List Word) → VectorStands stands m x at w → may at w → AttemptsHeard stands m x.part at w c place mid.table mid.tries.items [] made

  -- and what attempts show, for want of memory too
  abbrev IsClose : Vc M → Vc M → Word → (Desk → List Word → Type 0) → Type 0
  IsClose x mid c may = (at : Desk) (w : List Word) → VectorStands stands m x at w → may at w → AreNear shown m at w c x.tries.items mid.tries.items

  word_done : (x mid new : Vc M) (c : Word) (may : Desk → List Word → Type 0) (next : Result Progress Mem) (made before after : List Say) (result : Result (Unit {0}) Mem)
      → ((at : Desk) (w : List Word) → may at w → MayVector (vectors m) at w c) → KeepsCopies x mid → mid.live ≡ x.live → IsClose x mid c may → IfOk next (λ place. Hears x mid c may place made)
      → VectorEnds mid new next made before after result
      → WordDone (VectorStands stands m) (vectors m).says (λ at w d y. ShowsVectorNear (vectors m) at w d (vector_shown shown y)) (λ y. y.live) x new c may before after result
  word_done x mid new c may next made before after (Err e) meets keeps alive near hears ends = record {
    out = ends.1;
    dead = ap (λ (y : Vc M). y.live) ends.0;
    shows = λ at w s may_now.
        shows_near x new at w c s (meets at w may_now)
        (record { part = ap (λ (y : Vc M). y.part) ends.0 ∙ keeps.part; place = ap (λ (y : Vc M). y.place) ends.0 ∙ keeps.place })
        (subst (λ (y : Vc M). AreNear shown m at w c x.tries.items y.tries.items) (sym ends.0) (near at w s may_now));
  }
  word_done x mid new c may next made before after (Ok u) meets keeps alive near hears ends =
      let place = ends.0 in
      let heard = IfOk-at_ok (λ (n : Progress). Hears x mid c may n made) ends.1 hears in
      record {
        grows = λ at w s may_now. subst (λ (y : Vc M). VectorStands stands m y at (c ∷ w)) (sym ends.2) (record {
          holds = subst (λ (p : Part). AttemptsHold stands m p at (c ∷ w) place.own mid.table mid.tries.items) (sym keeps.part) (heard at w s may_now).holds;
          reached = (heard at w s may_now).reached;
          live = alive ∙ s.live;
        });
        made = λ at w s may_now. ends.3 ∙ ap (λ (ys : List Say). before ++ ys) (heard at w s may_now).made;
      }

  -- a proposal
  pub proposes : (x mid new : Vc M) (v : List ℕ) (next : Result Progress Mem) (none made before after : List Say) (result : Result (Unit {0}) Mem) → none ≡ []
      → KeepsCopies x mid → mid.live ≡ x.live → mid.table ≡ x.table → KeepsAttempts x.tries.items mid.tries.items
      → IfOk next (λ place. StartsAttempts stands m x.part x.table x.tries.items mid.tries.items none made place v) → VectorEnds mid new next made before after result
      → VectorProposes (VectorStands stands m) (vectors m) (λ y. y.live) (vector_shown shown) x new v before after result
  proposes x mid new v next none made before after result empty keeps alive table more starts ends =
      let may : Desk → List Word → Type 0 = λ at w. MayVector (vectors m) at w (Ask v) in
      word_done x mid new (Ask v) may next made before after result (λ at w now. now) keeps alive (λ at w h now. near_still x at w (Ask v) mid.tries.items h more)
      (IfOk-weaker next (λ place. StartsAttempts stands m x.part x.table x.tries.items mid.tries.items none made place v) (λ place. Hears x mid (Ask v) may place made)
      (λ place s at w h now.
      subst (λ (t : KeptProposals). AttemptsHeard stands m x.part at w (Ask v) place t mid.tries.items [] made) (sym table)
      (subst (λ (ys : List Say). AttemptsHeard stands m x.part at w (Ask v) place x.table mid.tries.items ys made) empty (s at w x.place.own h.holds now))) starts)
      ends

  -- and what a slot delivered
  pub hears_slot : (bits : Slot → Bool) (x mid new : Vc M) (s : Slot) (v : List ℕ) (next : Result Progress Mem) (none made before after : List Say) (result : Result (Unit {0}) Mem) → none ≡ []
      → IfOk next (λ place. HearsSlot stands m bits x s v mid.table mid.tries.items place none made) → NearSlot stands m shown bits x s v mid.tries.items → KeepsCopies x mid → mid.live ≡ x.live
      → VectorEnds mid new next made before after result
      → VectorHears (VectorStands stands m) (vectors m) (λ y. y.live) (vector_shown shown) bits x new s v before after result
  hears_slot bits x mid new s v next none made before after result empty hears near keeps alive ends =
      let may : Desk → List Word → Type 0 = λ at w. IsCoin at.coin bits × MayVector (vectors m) at w (Hear s v) in
      word_done x mid new (Hear s v) may next made before after result (λ at w now. now.1) keeps alive (λ at w h now. near at w h now.0 now.1)
      (IfOk-weaker next (λ place. HearsSlot stands m bits x s v mid.table mid.tries.items place none made) (λ place. Hears x mid (Hear s v) may place made)
      (λ place f at w h now.
      subst (λ (ys : List Say). AttemptsHeard stands m x.part at w (Hear s v) place mid.table mid.tries.items ys made) empty (f at w h now.0 now.1)) hears)
      ends
