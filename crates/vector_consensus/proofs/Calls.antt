-- What a call does to the parts of a box.
use Rattle.std.specs.Prelude.{◌≡◌, ℕ, suc, ◌<◌, ◌≤◌, Bool, true, false, not, ◌==◌, ◌&&◌, if◌then◌else◌, List, [], ◌∷◌, ◌++◌, length, Option, Some, None, is_some, Result, Ok, Err, refl, slice_set}
use Rattle.std.specs.List.{slice_get}
use Rattle.std.specs.Option.{option_or}
use Rattle.std.proofs.Common.{sym, ◌∙◌, ap, ap₂, subst, inl, inr, arith, append_assoc, append-nil}
use Rattle.std.proofs.lemmas.Bool.{and_from, and_right, both_ways, cases_eq, cases_lt, eq-eqb, ne_eqb}
use Rattle.std.proofs.lemmas.List.{get_or-set_same, get_or-set_other, length-set}
use Rattle.std.proofs.lemmas.Option.{slice_get-get_or, slice_get_past, same_Some}
use Rattle.ritas_base.specs.declared.bytes.Mem.{Mem}
use Rattle.ritas_base.specs.declared.slot.Slot.{Slot}
use Rattle.ritas_base.specs.declared.item.Say.{Say}
use Rattle.layer_api.specs.Words.{Word, Ask, Hear}
use Rattle.layer_api.specs.Calls.{IsCoin}
use Rattle.layer_api.specs.Part.{proposed, newly, passed, says_in}
use Rattle.layer_api.specs.FedLaws.{unasked}
use Rattle.layer_api.specs.RoundListLaws.{same_props}
use Rattle.layer_api.specs.Multi.{Desk, MultiRules, MultiLaws, MayMulti}
use Rattle.layer_api.specs.MultiCalls.{MultiShown, MultiHears}
use Rattle.layer_api.specs.Vectors.{MayVectorHear, AreVector}
use Rattle.vector_consensus.specs.Consensus.{prop_slot, props, is_of_try, try_desk, try_words, attempts_say_below, vectors}
use Rattle.vector_consensus.specs.Laws.Tries.{feeds, opens_try, untold_words}
use Rattle.vector_consensus.specs.Kept.{KeptProposals, AreKeptProposals, KeepsProposal}
use Rattle.vector_consensus.specs.Parts.{IsVectorPart, own_proposal_slot}
use Rattle.vector_consensus.specs.Begun.{there_is, IsBegun, Each}
use Rattle.vector_consensus.specs.Going.{KeepsAttempts, mid, asks_below, AreMidway, Went, AttemptsGoOn}
use Rattle.vector_consensus.specs.Holding.{AttemptsHold, AttemptsHeard, StartsAttempts, FollowsProposal, FollowsTry, HearsIn, IsAttemptNear, AreNear, NearTries}
use Rattle.vector_consensus.specs.Opening.{attempt_few}
use Rattle.vector_consensus.specs.declared.part.Part.{Part}
use Rattle.vector_consensus.specs.declared.going.Progress.{Progress}
use Rattle.vector_consensus.proofs.Proposed.{is_proposal}
use Rattle.vector_consensus.proofs.Turns.{heard, quiet, alone, say_order, words_begun}
use Rattle.vector_consensus.proofs.Reaching.{Shows, has_vectors}

newly_same : (s : Slot) (o : Option (List ℕ)) → newly s o o ≡ []
newly_same s None = refl
newly_same s (Some v) = refl

module _ {M : Type 0} (stands : M → Desk → List Word → Type 0) (m : MultiRules) (laws : MultiLaws m) (part : Part) where
  -- ---- what was said before the pass, and in it

  closes : (at : Desk) (w : List Word) (c : Word) (own : Bool) (table : KeptProposals) (old new : List M) (before middle after said : List Say) (now : Progress)
      → AreMidway stands m at w c part own table old → Went stands m at w c own now new middle after → middle ≡ before ++ said
      → (vectors m).says at w c ≡ said ++ asks_below m at (suc at.scope.numbers.f) w c → AttemptsHeard stands m part at w c now table new before after
  closes at w c own table old new before middle after said now here went e says = record {
    holds = record { met = here.met; part_is = here.part_is; owns = went.reached.owns ∙ here.owns; kept = here.kept; each = went.each; begun = went.begun };
    reached = record { owns = refl; begun = went.reached.begun; decided = went.reached.decided; spent = went.reached.spent };
    made =
        went.made
        ∙ (ap (λ (ys : List Say). ys ++ asks_below m at (suc at.scope.numbers.f) w c) e
        ∙ (append_assoc before said (asks_below m at (suc at.scope.numbers.f) w c) ∙ ap (λ (ys : List Say). before ++ ys) (sym says)));
  }

  -- where no attempt hears the word
  quiet_says : (at : Desk) (w : List Word) (c : Word) (n : ℕ) → AreVector (vectors m) at (c ∷ w) → IsBegun m at w n → ((k : ℕ) → passed (is_of_try k) c ≡ [])
      → attempts_say_below m at (suc at.scope.numbers.f) w c ≡ asks_below m at (suc at.scope.numbers.f) w c
  quiet_says at w c n met begun none =
      say_order m at w c laws met n begun (suc at.scope.numbers.f) (omega arith)
      ∙ ap (λ (ys : List Say). ys ++ asks_below m at (suc at.scope.numbers.f) w c) (quiet m at w c (suc at.scope.numbers.f) none)

  -- ---- a proposal of one's own

  own_is : (at : Desk) → IsVectorPart part at → own_proposal_slot part ≡ prop_slot at.scope at.me
  own_is at is = ap₂ (λ (a k : ℕ). record { class = 2; a = a; attempt = 0; bround = 0; step = 0; origin = k }) is.a is.me

  pub starts : (table : KeptProposals) (old new : List M) (before middle after : List Say) (now : Progress) (v u : List ℕ) (slot : Slot)
      → middle ≡ before ++ record { slot = slot; value = u } ∷ [] → slot ≡ own_proposal_slot part → u ≡ v → AttemptsGoOn stands m part true table old new middle after now
      → StartsAttempts stands m part table old new before after now v
  starts table old new before middle after now v u slot pushed own_one same goes = λ at w own h may.
      let none = unasked w may.0 in
      let first : proposed (Ask v ∷ w) ≡ Some v = ap (λ (o : Option (List ℕ)). option_or o (Some v)) none in
      let say : Say = record { slot = prop_slot at.scope at.me; value = v } in
      let here : AreMidway stands m at w (Ask v) part true table old = record {
        met = (may, h.met);
        part_is = h.part_is;
        owns = sym (ap is_some first);
        kept = h.kept;
        each = h.each;
        begun = h.begun;
      } in
      closes at w (Ask v) true table old new before middle after (say ∷ []) now here (goes at w (Ask v) here)
      (pushed ∙ ap₂ (λ (s : Slot) (x : List ℕ). before ++ record { slot = s; value = x } ∷ []) (own_one ∙ own_is at h.part_is) same)
      (ap₂ (λ (xs ys : List Say). xs ++ ys) (ap₂ (newly (prop_slot at.scope at.me)) none first) (quiet_says at w (Ask v) (length old) (may, h.met) h.begun (λ k. refl)))

  -- ---- what a slot delivered

  pub follows_proposal : (own : Bool) (table kept : KeptProposals) (old new : List M) (before after : List Say) (now : Progress) (k : ℕ) (v : List ℕ)
      → KeepsProposal k v table kept → AttemptsGoOn stands m part own kept old new before after now → FollowsProposal stands m part own table kept old new before after now k v
  follows_proposal own table kept old new before after now k v puts goes = λ at w s h may two origin.
      let is = is_proposal (vectors m) at w s v may two in
      let there : slice_get (props at.scope w) k ≡ Some None = ap (slice_get (props at.scope w)) (sym origin) ∙ is.none in
      let off : (j : ℕ) → passed (is_of_try j) (Hear s v) ≡ [] = λ j. ap (λ (b : Bool). if not b && (s.attempt == j) then Hear s v ∷ [] else []) (eq-eqb s.class 2 two) in
      let here : AreMidway stands m at w (Hear s v) part own kept old = record {
        met = (may, h.met);
        part_is = h.part_is;
        owns = h.owns;
        kept = subst (λ (os : List (Option (List ℕ))). AreKeptProposals os kept) (sym (is.more ∙ ap (λ (i : ℕ). slice_set (props at.scope w) i (Some v)) origin)) (puts (props at.scope w) h.kept there is.short);
        each = λ j b q. subst (λ (xs : List Word). stands b (try_desk at j) (xs ++ try_words m at j w)) (sym (off j)) (h.each j b q);
        begun = h.begun;
      } in
      closes at w (Hear s v) own kept old new before before after [] now here (goes at w (Hear s v) here) (sym (append-nil before))
      (ap₂ (λ (xs ys : List Say). xs ++ ys) (newly_same (prop_slot at.scope at.me) (proposed w)) (quiet_says at w (Hear s v) (length old) (may, h.met) h.begun off))

-- ---- what a slot of an attempt delivered

set_here : {X : Type 0} (xs : List X) (k : ℕ) (y : X) → k < length xs → slice_get (slice_set xs k y) k ≡ Some y
set_here xs k y l = slice_get-get_or (slice_set xs k y) k y (let e = length-set xs k y in omega (arith, e, l)) ∙ ap Some (get_or-set_same xs k y y l)

set_elsewhere : {X : Type 0} (xs : List X) (k j : ℕ) (y : X) → (j ≡ k → ⊥) → slice_get (slice_set xs k y) j ≡ slice_get xs j
set_elsewhere xs k j y other =
    elim (cases_lt j (length xs)) [
      | inl l ↦
          slice_get-get_or (slice_set xs k y) j y (let e = length-set xs k y in omega (arith, e, l))
          ∙ (ap Some (get_or-set_other xs k j y y other) ∙ sym (slice_get-get_or xs j y l))
      | inr g ↦ slice_get_past (slice_set xs k y) j (let e = length-set xs k y in omega (arith, e, g)) ∙ sym (slice_get_past xs j g)
    ]

module _ {M : Type 0} (stands : M → Desk → List Word → Type 0) (m : MultiRules) (laws : MultiLaws m) (live : M → Bool) (shown : M → MultiShown) (shows : Shows stands m live shown)
    (part : Part) (bits : Slot → Bool) (own : Bool) (table : KeptProposals) (old middle : List M) (s : Slot) (v : List ℕ) where
  module _ (at : Desk) (w : List Word) (h : AttemptsHold stands m part at w own table old) (coin : IsCoin at.coin bits) (may : MayVectorHear (vectors m) at w s v) (other : (s.class == 2) ≡ false) where
    met : AreVector (vectors m) at (Hear s v ∷ w)
    met = (may, h.met)

    takes : is_of_try s.attempt s ≡ true
    takes = and_from (not (s.class == 2)) _ (ap not other) (eq-eqb s.attempt s.attempt refl)

    few : s.attempt ≤ at.scope.numbers.f
    few = attempt_few at.scope s may.slot other

    -- the attempt began
    inside : s.attempt < length old
    inside =
        elim (cases_lt s.attempt (length old)) [
          | inl less ↦ less
          | inr most ↦
              let none = untold_words m laws at s.attempt w h.met (h.begun.unasked s.attempt most few) in
              absurd (both_ways (m.opens (try_desk at s.attempt) [] s) (laws.opens_first (try_desk at s.attempt) s)
              (subst (λ (u : List Word). m.opens (try_desk at s.attempt) u s ≡ true) none (opens_try m at s.attempt w s takes may.is_open)))
        ]

    mine : passed (is_of_try s.attempt) (Hear s v) ≡ Hear s v ∷ []
    mine = ap (λ (b : Bool). if b then Hear s v ∷ [] else []) takes

    not_mine : (j : ℕ) → (j ≡ s.attempt → ⊥) → passed (is_of_try j) (Hear s v) ≡ []
    not_mine j ne = ap (λ (b : Bool). if b then Hear s v ∷ [] else []) (and_right (not (s.class == 2)) _ (ne_eqb s.attempt j (λ z. ne (sym z))))

    words_mine : try_words m at s.attempt (Hear s v ∷ w) ≡ Hear s v ∷ try_words m at s.attempt w
    words_mine = words_begun m at w (Hear s v) laws met (length old) h.begun s.attempt inside ∙ ap (λ (xs : List Word). xs ++ try_words m at s.attempt w) mine

    may_inner : MayMulti m (try_desk at s.attempt) (try_words m at s.attempt w) (Hear s v)
    may_inner = (feeds m laws at.scope h.part_is.session (has_vectors m at w (Hear s v) may) (λ i. at.coin) s.attempt).hears at.me s v w met takes

    -- ---- it heard the word

    module _ (one next : M) (is : slice_get old s.attempt ≡ Some one) (set : middle ≡ slice_set old s.attempt next) where
      stood : stands one (try_desk at s.attempt) (try_words m at s.attempt w)
      stood = h.each s.attempt one is

      now_there : slice_get middle s.attempt ≡ Some next
      now_there = ap (λ (ts : List M). slice_get ts s.attempt) set ∙ set_here old s.attempt next inside

      elsewhere : (j : ℕ) → (j ≡ s.attempt → ⊥) → slice_get middle j ≡ slice_get old j
      elsewhere j ne = ap (λ (ts : List M). slice_get ts j) set ∙ set_elsewhere old s.attempt j next ne

      each_heard : stands next (try_desk at s.attempt) (Hear s v ∷ try_words m at s.attempt w) → Each stands at (mid m at w (Hear s v)) middle
      each_heard heard j x q =
          elim (cases_eq j s.attempt) [
            | inl same ↦
                let e = same_Some next x (sym now_there ∙ (ap (λ (i : ℕ). slice_get middle i) (sym same) ∙ q)) in
                subst (λ (i : ℕ). stands x (try_desk at i) (mid m at w (Hear s v) i)) (sym same)
                (subst (λ (xs : List Word). stands x (try_desk at s.attempt) (xs ++ try_words m at s.attempt w)) (sym mine)
                (subst (λ (y : M). stands y (try_desk at s.attempt) (Hear s v ∷ try_words m at s.attempt w)) e heard))
            | inr ne ↦
                subst (λ (xs : List Word). stands x (try_desk at j) (xs ++ try_words m at j w)) (sym (not_mine j ne)) (h.each j x (sym (elsewhere j ne) ∙ q))
          ]

      size : length middle ≡ length old
      size = ap length set ∙ length-set old s.attempt next

      -- ---- what is shown

      near_here : IsAttemptNear m at w (Hear s v) s.attempt (shown next) → AreNear shown m at w (Hear s v) old middle
      near_here here j b q =
          elim (cases_eq j s.attempt) [
            | inl same ↦ (next, ap (λ (i : ℕ). slice_get middle i) same ∙ now_there, subst (λ (i : ℕ). IsAttemptNear m at w (Hear s v) i (shown next)) (sym same) here)
            | inr ne ↦
                let still = (shows b (try_desk at j) (try_words m at j w) (h.each j b q)).1 in
                (b, elsewhere j ne ∙ q, record { opens = λ r. inl (still.opens r); decision = inl still.decision })
          ]

      near_heard : stands next (try_desk at s.attempt) (Hear s v ∷ try_words m at s.attempt w) → IsAttemptNear m at w (Hear s v) s.attempt (shown next)
      near_heard heard =
          let now = (shows next (try_desk at s.attempt) (Hear s v ∷ try_words m at s.attempt w) heard).1 in
          record {
            opens = λ r. inr (now.opens r ∙ ap (λ (u : List Word). m.opens (try_desk at s.attempt) u r) (sym words_mine));
            decision = inr (now.decision ∙ ap (m.decision (try_desk at s.attempt)) (sym words_mine));
          }

      near_by : (before after : List Say) (result : Result (Unit {0}) Mem) → MultiHears stands m live shown bits one next s v before after result → IsAttemptNear m at w (Hear s v) s.attempt (shown next)
      near_by before after (Ok u) hears = near_heard (hears.grows (try_desk at s.attempt) (try_words m at s.attempt w) stood (coin, may_inner))
      near_by before after (Err e) hears =
          let near = hears.shows (try_desk at s.attempt) (try_words m at s.attempt w) stood (coin, may_inner) in
          record {
            opens = λ r. elim (near.opens r) [ inl o ↦ inl o | inr o ↦ inr (o ∙ ap (λ (u : List Word). m.opens (try_desk at s.attempt) u r) (sym words_mine)) ];
            decision = elim near.decision [ inl d ↦ inl d | inr d ↦ inr (d ∙ ap (m.decision (try_desk at s.attempt)) (sym words_mine)) ];
          }

    near_in : (before after : List Say) (result : Result (Unit {0}) Mem) → HearsIn stands m live shown bits old middle s v before after result → AreNear shown m at w (Hear s v) old middle
    near_in before after result hears =
        let one = there_is old s.attempt inside in
        let x = hears one.0 one.1 in
        near_here one.0 x.0 one.1 x.1 (near_by one.0 x.0 one.1 x.1 before after result x.2)

    follows : (before now after : List Say) (new : List M) (next : Progress) → HearsIn stands m live shown bits old middle s v before now (Ok tt)
        → AttemptsGoOn stands m part own table middle new now after next → AttemptsHeard stands m part at w (Hear s v) next table new before after
    follows before now after new next hears goes =
        let one = there_is old s.attempt inside in
        let x = hears one.0 one.1 in
        let grown = x.2.grows (try_desk at s.attempt) (try_words m at s.attempt w) (stood one.0 x.0 one.1 x.1) (coin, may_inner) in
        let here : AreMidway stands m at w (Hear s v) part own table middle = record {
          met = met;
          part_is = h.part_is;
          owns = h.owns;
          kept = subst (λ (os : List (Option (List ℕ))). AreKeptProposals os table) (sym (same_props at.scope w s v other)) h.kept;
          each = each_heard one.0 x.0 one.1 x.1 grown;
          begun = subst (λ (n : ℕ). IsBegun m at w n) (sym (size one.0 x.0 one.1 x.1)) h.begun;
        } in
        let said = m.says (try_desk at s.attempt) (try_words m at s.attempt w) (Hear s v) in
        let low : s.attempt < suc at.scope.numbers.f = let l = few in omega (arith, l) in
        let order =
        say_order m at w (Hear s v) laws met (length old) h.begun (suc at.scope.numbers.f) (omega arith)
        ∙ ap (λ (ys : List Say). ys ++ asks_below m at (suc at.scope.numbers.f) w (Hear s v))
        (alone m at w (Hear s v) s.attempt (suc at.scope.numbers.f) not_mine low ∙ ap (λ (xs : List Word). says_in (m.says (try_desk at s.attempt)) xs (try_words m at s.attempt w)) mine) in
        closes stands m laws part at w (Hear s v) own table middle new before now after said next here (goes at w (Hear s v) here)
        (x.2.made (try_desk at s.attempt) (try_words m at s.attempt w) (stood one.0 x.0 one.1 x.1) (coin, may_inner))
        (ap₂ (λ (xs ys : List Say). xs ++ ys) (newly_same (prop_slot at.scope at.me) (proposed w)) order)

  -- ---- and the pass after it

  pub near_lost : (before after : List Say) (result : Result (Unit {0}) Mem) → HearsIn stands m live shown bits old middle s v before after result
      → NearTries stands m part shown bits own table old middle s v
  near_lost before after result hears = λ at w h coin may other. near_in at w h coin may other before after result hears

  pub near_after : (before now : List Say) (result : Result (Unit {0}) Mem) (new : List M) → HearsIn stands m live shown bits old middle s v before now result → KeepsAttempts middle new
      → NearTries stands m part shown bits own table old new s v
  near_after before now result new hears more = λ at w h coin may other k b is.
      let x = near_in at w h coin may other before now result hears k b is in
      (x.0, more k x.0 x.1, x.2)

  pub follows_try : (before now after : List Say) (new : List M) (next : Progress) → HearsIn stands m live shown bits old middle s v before now (Ok tt)
      → AttemptsGoOn stands m part own table middle new now after next → FollowsTry stands m part bits own table old new before after next s v
  follows_try before now after new next hears goes = λ at w h coin may other. follows at w h coin may other before now after new next hears goes
