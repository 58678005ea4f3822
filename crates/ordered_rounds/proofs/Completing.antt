-- A round is complete exactly where its decision is known and all that this wants is there.
use Rattle.std.specs.Prelude.{◌≡◌, ℕ, zero, suc, ◌+◌, ◌<◌, ◌≤◌, nat_lt, Bool, true, false, List, [], ◌∷◌, take, reverse, Option, Some, None, is_some, if◌then◌else◌, slice_index, Result, Ok, Err, OnErr, refl}
use Rattle.std.specs.List.{AllByRecursion, slice_get}
use Rattle.std.specs.declared.vec.Vec.{Vec}
use Rattle.std.proofs.Common.{sym, ◌∙◌, ap, ap₂, subst, inl, inr, arith}
use Rattle.std.proofs.lemmas.Bool.{and_parts, and_from, both_ways, lt-ltb, ltb-true}
use Rattle.std.proofs.lemmas.Option.{none-some, same_Some}
use Rattle.ritas_base.specs.declared.id.Id.{Id}
use Rattle.ritas_base.specs.Numbers.{Numbers}
use Rattle.ritas_base.specs.Versions.{has_past}
use Rattle.ritas_base.specs.declared.mode.FrameVersion.{FrameVersion}
use Rattle.layer_api.specs.Service.{Seat, has_id, IsPart}
use Rattle.layer_api.specs.Words.{Word}
use Rattle.layer_api.specs.Multi.{Desk}
use Rattle.ordered_rounds.specs.Box.{RoundRules, RoundLaws}
use Rattle.ordered_rounds.specs.BoxCalls.{RoundShown}
use Rattle.ordered_rounds.specs.Identifiers.{passing_ids, is_without, all_pass, append_ids, IsSorted}
use Rattle.ordered_rounds.specs.Rounds.{delivered_ids, has_command, round_desk, round_ask, rounds}
use Rattle.ordered_rounds.specs.Laws.Kept.{kept_near}
use Rattle.ordered_rounds.specs.Laws.WordsMeet.{delivered_good}
use Rattle.ordered_rounds.specs.Stepping.{current, log_now, heard_words, words_now}
use Rattle.ordered_rounds.specs.Ledger.{LedgerStands, IsReady, Between}
use Rattle.ordered_rounds.specs.Boxes.{box_at, Stood, older_then}
use Rattle.ordered_rounds.specs.Waiting.{decision_in, AreWantedIds, Awaits, Knows}
use Rattle.ordered_rounds.specs.Turning.{IsMidway, IsWaitKnown, Poised, IsNear}
use Rattle.ordered_rounds.specs.Laws.Getters.{AllShow}
use Rattle.ordered_rounds.specs.declared.boxes.Boxes.{Boxes}
use Rattle.ordered_rounds.specs.declared.ledger.Ledger.{Ledger}
use Rattle.ordered_rounds.specs.declared.ordered.Ordered.{Ordered}
use Rattle.ordered_rounds.proofs.Pending.{above_all}
use Rattle.ordered_rounds.proofs.Stepped.{some_value, all_delivered, complete_where, Goes, stays_or_goes, words_same, was_asked, done}
use Rattle.ordered_rounds.proofs.Near.{near_before, mid_before}
use Rattle.ordered_rounds.proofs.Turns.{begun_some, poised_stays, poised_next}

-- ---- what is wanted is ready

ready_all : (delivered xs : List Id) → AllByRecursion (λ x. (x.origin < 31) × (x.num < 1000000)) delivered → all_pass (has_id delivered) xs ≡ true
    → AllByRecursion (IsReady delivered) xs
ready_all delivered [] good q = tt
ready_all delivered (x ∷ xs) good q =
    let t = and_parts (has_id delivered x) _ q in
    let g = above_all (λ y. (y.origin < 31) × (y.num < 1000000)) delivered x good t.0 in
    (record { has = t.0; origin = g.0; number = g.1 }, ready_all delivered xs good t.1)

good_all : (n : ℕ) (xs : List Id) → n ≤ 31 → AllByRecursion (λ x. (x.origin < n) × (x.num < 1000000)) xs → AllByRecursion (λ x. (x.origin < 31) × (x.num < 1000000)) xs
good_all n [] most all = tt
good_all n (x ∷ xs) most all = let l = all.0.0 in ((omega (arith, l, most), all.0.1), good_all n xs most all.1)

pub on_err_any : {T E : Type 0} (r : Result T E) (P : Type 0) → P → OnErr r P
on_err_any (Ok x) P p = tt
on_err_any (Err e) P p = p

-- a number of a round can be raised
one_more : (n k : ℕ) → n < rounds → k ≡ n → Prim.Native.Nat.min (k + 1) 4294967295 ≡ suc k
unfolding rounds
one_more n k l e = omega (arith, l, e)

-- ---- the boxes, where the current round is complete

first_same : {V : Type 0} (xs : List V) (k : ℕ) → k < 1 → slice_get (take 1 xs) k ≡ slice_get xs k
first_same [] zero l = refl
first_same (x ∷ xs) zero l = refl
first_same xs (suc k) l = absurd (omega (arith, l))

-- each box is that of a round one further back
older_at : {V : Type 0} (b c : Boxes V) (version : FrameVersion) (one : V) → b.current ≡ Some one → c.older.items ≡ older_then version b.older.items one
    → (k : ℕ) → (has_past version ≡ true → k < 2) → box_at c (suc k) ≡ box_at b k
older_at b c version one is same zero few = ap (λ (xs : List _). slice_get xs 0) same ∙ sym is
older_at b c version one is same (suc k) few = ap (λ (xs : List _). slice_get xs (suc k)) same ∙ go (has_past version) few
  where
    go : (past : Bool) → (past ≡ true → suc k < 2) → slice_get (if past then take 1 b.older.items else b.older.items) k ≡ slice_get b.older.items k
    go false less = refl
    go true less = let l = less refl in first_same b.older.items k (omega (arith, l))

module _ {V : Type 0} (stands : V → Desk → List Word → Type 0) (v : RoundRules) (laws : RoundLaws v) (live : V → Bool) (shown : V → RoundShown) (shows : AllShow stands v live shown) where
  -- where memory for a box was taken, or wasn't there, all is as it was
  pub regained : (x : Ordered V) (b : Boxes V) (seat : Seat) (w : List Word) (c : Word) → b.current ≡ x.boxes.current → b.older.items ≡ x.boxes.older.items
      → IsWaitKnown stands v shown x seat w c → IsWaitKnown stands v shown (record x { boxes = b }) seat w c
  regained x b seat w c now older k = record {
    mid = record {
      seated = record {
        session = k.mid.seated.session;
        met = k.mid.seated.met;
        numbers = k.mid.seated.numbers;
        version = k.mid.seated.version;
        me = k.mid.seated.me;
        last = k.mid.seated.last;
        inputs = k.mid.seated.inputs;
        live = k.mid.seated.live;
      };
      ledger = k.mid.ledger;
      completed = k.mid.completed;
      boxes = λ a j e kept small.
          subst (λ (o : Option V). Stood stands o (round_desk v seat a) (heard_words v seat c w a)) (sym (same j)) (k.mid.boxes a j e kept small);
      begun = ap is_some now ∙ k.mid.begun;
      waits = subst (λ (o : Option V). Awaits v x.place.numbers (decision_in shown o) x.waits) (sym now) k.mid.waits;
    };
    knows = subst (λ (o : Option V). Knows v x.place.numbers (decision_in shown o) x.waits) (sym now) k.knows;
  }
    where
      same : (j : ℕ) → box_at b j ≡ box_at x.boxes j
      same zero = now
      same (suc j) = ap (λ (xs : List V). slice_get xs j) older

  pub lost_room : (x : Ordered V) (seat : Seat) (w : List Word) (c : Word) → IsWaitKnown stands v shown x seat w c → IsNear stands v shown x seat w c
  lost_room x seat w c k = near_before stands v laws live shown shows x seat w c (mid_before stands v laws live shown shows x seat w c k.mid)

  module _ (x : Ordered V) (seat : Seat) (w : List Word) (c : Word) (k : IsWaitKnown stands v shown x seat w c) where
    abbrev m : IsMidway stands v shown x seat w c
    m = k.mid

    abbrev n : ℕ
    n = current v seat w

    abbrev decided : Option (List ℕ)
    decided = decision_in shown x.boxes.current

    -- what the current box decided, where it is there
    box_decided : (one : V) → x.boxes.current ≡ Some one → (n < rounds) × (is_some (round_ask v seat n w) ≡ true) × (decided ≡ v.decision (round_desk v seat n) (words_now v seat c w))
    box_decided one is =
        let b = begun_some one (nat_lt n rounds) (round_ask v seat n w) (sym (ap is_some is) ∙ m.begun) in
        let small : n < rounds = ltb-true n rounds b.0 in
        let stood : Stood stands (Some one) (round_desk v seat n) (heard_words v seat c w n) =
        subst (λ (o : Option V). Stood stands o (round_desk v seat n) (heard_words v seat c w n)) is (m.boxes n 0 (omega arith) (kept_near seat.mode.version n n (omega arith)) small) in (
          small,
          b.1,
          ap (decision_in shown) is
              ∙ ((shows one (round_desk v seat n) (heard_words v seat c w n) stood).1.decision
              ∙ ap (v.decision (round_desk v seat n)) (sym (words_same v laws seat m.seated.session c w m.seated.met b.1))),
        )

    -- where the round becomes complete, something is decided
    goes_decided : (goes : Goes v seat c w) → decided ≡ Some (done v laws seat m.seated.session c w m.seated.met goes).vector
    goes_decided goes =
        let asked = was_asked v laws seat m.seated.session c w m.seated.met goes in
        let one = some_value x.boxes.current (m.begun ∙ and_from (nat_lt n rounds) _ (lt-ltb n rounds goes.small) asked) in
        (box_decided one.0 one.1).2 ∙ (done v laws seat m.seated.session c w m.seated.met goes).is

    -- the identifiers that its decision wants
    wanted_goes : (ids : List Id) (goes : Goes v seat c w) → AreWantedIds v x.place.numbers decided ids → ids ≡ v.wanted seat.numbers (done v laws seat m.seated.session c w m.seated.met goes).vector
    wanted_goes ids goes are =
        let same : are.value ≡ (done v laws seat m.seated.session c w m.seated.met goes).vector = same_Some _ _ (sym are.is ∙ goes_decided goes) in
        are.ids_are ∙ ap₂ v.wanted m.seated.numbers same

    -- nothing is waited for
    pub waits_none : x.waits ≡ None → Poised stands v shown x seat w c
    waits_none none =
        elim (stays_or_goes v laws seat m.seated.session c w m.seated.met) [
          | inl stays ↦ poised_stays stands v laws live shown shows x seat w c m stays k.knows
          | inr goes ↦
              let undecided : decided ≡ None = nothing x.waits none k.knows in
              absurd (none-some _ (sym undecided ∙ goes_decided goes))
        ]
      where
        nothing : {Z : Type 0} (o : Option (Vec Id Z)) → o ≡ None → Knows v x.place.numbers decided o → decided ≡ None
        nothing None e q = q
        nothing (Some ids) e q = absurd cc

    pub are_wanted : {Z : Type 0} (o : Option (Vec Id Z)) (ids : Vec Id Z) → o ≡ Some ids → Knows v x.place.numbers decided o → AreWantedIds v x.place.numbers decided ids.items
    are_wanted o ids e q = subst (λ (t : Option (Vec Id _)). Knows v x.place.numbers decided t) e q

    module _ (ids : List Id) (are : AreWantedIds v x.place.numbers decided ids) where
      all_there : all_pass (has_id (delivered_ids (c ∷ w))) ids ≡ all_pass (has_command (c ∷ w)) (v.wanted seat.numbers are.value)
      all_there =
          all_delivered v seat (c ∷ w) m.seated.met ids
          ∙ ap (all_pass (has_command (c ∷ w))) (are.ids_are ∙ ap (λ (p : Numbers). v.wanted p are.value) m.seated.numbers)

      -- not all is there
      pub waits_more : (there : Bool) → there ≡ all_pass (has_id (delivered_ids (c ∷ w))) ids → there ≡ false → Poised stands v shown x seat w c
      waits_more there is lacks =
          elim (stays_or_goes v laws seat m.seated.session c w m.seated.met) [
            | inl stays ↦ poised_stays stands v laws live shown shows x seat w c m stays k.knows
            | inr goes ↦
                let d = done v laws seat m.seated.session c w m.seated.met goes in
                let same = wanted_goes ids goes are in
                absurd (both_ways _ (sym is ∙ lacks) (all_delivered v seat (c ∷ w) m.seated.met ids ∙ (ap (all_pass (has_command (c ∷ w))) same ∙ d.there)))
          ]

      -- all is there
      module _ (there : Bool) (is : there ≡ all_pass (has_id (delivered_ids (c ∷ w))) ids) (all : there ≡ true) where
        box_is : (one : V) × (x.boxes.current ≡ Some one)
        box_is = go x.boxes.current refl
          where
            go : (o : Option V) → x.boxes.current ≡ o → (one : V) × (x.boxes.current ≡ Some one)
            go (Some one) e = (one, e)
            go None e = absurd (none-some _ (sym (ap (decision_in shown) e) ∙ are.is))

        pub completes : Goes v seat c w
        completes =
            elim (stays_or_goes v laws seat m.seated.session c w m.seated.met) [
              | inr goes ↦ goes
              | inl stays ↦
                  let b = box_decided box_is.0 box_is.1 in
                  let now = complete_where v seat (log_now v seat w) (c ∷ w) (v.decision (round_desk v seat n) (words_now v seat c w)) are.value (sym b.2 ∙ are.is)
                  (sym all_there ∙ (sym is ∙ all)) in
                  absurd (none-some _ (sym (stays.incomplete b.0) ∙ now))
            ]

        log_is : completes.log ≡ append_ids (passing_ids (is_without (log_now v seat w)) ids) (log_now v seat w)
        log_is =
            (done v laws seat m.seated.session c w m.seated.met completes).log_is
            ∙ ap (λ (xs : List Id). append_ids (passing_ids (is_without (log_now v seat w)) xs) (log_now v seat w)) (sym (wanted_goes ids completes are))

        pub are_ready : AllByRecursion (IsReady (delivered_ids (c ∷ w))) ids
        are_ready =
            ready_all (delivered_ids (c ∷ w)) ids
            (good_all seat.numbers.n (delivered_ids (c ∷ w)) m.seated.session.most (delivered_good v seat (c ∷ w) m.seated.met)) (sym is ∙ all)

        pub are_sorted : IsSorted ids
        are_sorted = subst IsSorted (sym are.ids_are) (laws.wanted_sorted x.place.numbers are.value)

        -- they are appended
        pub completed : (y : Ordered V) (xs : List Id) → xs ≡ ids → y.place ≡ x.place → y.inputs ≡ x.inputs → y.live ≡ x.live
            → ((delivered log : List Id) → AllByRecursion (IsReady delivered) xs → IsSorted xs → LedgerStands x.ledger delivered log
            → LedgerStands y.ledger delivered (append_ids (passing_ids (is_without log) xs) log))
            → y.completed ≡ Prim.Native.Nat.min (x.completed + 1) 4294967295 → y.boxes.current ≡ None
            → ((one : V) → x.boxes.current ≡ Some one → y.boxes.older.items ≡ older_then x.place.version x.boxes.older.items one) → y.waits ≡ None
            → Poised stands v shown y seat w c
        completed y xs same place inputs alive appends count none older waits =
            let appends_ids = subst (λ (zs : List Id). (delivered log : List Id) → AllByRecursion (IsReady delivered) zs → IsSorted zs → LedgerStands x.ledger delivered log
            → LedgerStands y.ledger delivered (append_ids (passing_ids (is_without log) zs) log)) same appends in
            poised_next stands v laws live shown shows x y seat w c m completes (record {
              place = place;
              inputs = inputs;
              as_live = alive;
              ledger =
                  subst (λ (log : List Id). LedgerStands y.ledger (delivered_ids (c ∷ w)) log) (sym log_is)
                  (appends_ids (delivered_ids (c ∷ w)) (log_now v seat w) are_ready are_sorted m.ledger);
              completed = count ∙ one_more n x.completed completes.small m.completed;
              current = none;
              older = λ i few. older_at x.boxes y.boxes x.place.version box_is.0 box_is.1 (older box_is.0 box_is.1) i few;
              waits = waits;
            })

        -- for want of memory some of them are
        pub not_completed : (l : Ledger) (xs : List Id) → xs ≡ ids
            → ((delivered log : List Id) → AllByRecursion (IsReady delivered) xs → IsSorted xs → LedgerStands x.ledger delivered log → Between x.ledger l xs log)
            → IsNear stands v shown (record x { ledger = l }) seat w c
        not_completed l xs same appends =
            let appends_ids = subst (λ (zs : List Id). (delivered log : List Id) → AllByRecursion (IsReady delivered) zs → IsSorted zs → LedgerStands x.ledger delivered log
            → Between x.ledger l zs log) same appends in
            let between = appends_ids (delivered_ids (c ∷ w)) (log_now v seat w) are_ready are_sorted m.ledger in
            let b = mid_before stands v laws live shown shows x seat w c m in
            near_before stands v laws live shown shows (record x { ledger = l }) seat w c (record {
              session = b.session;
              met = b.met;
              numbers = b.numbers;
              version = b.version;
              last = b.last;
              inputs = b.inputs;
              completed = b.completed;
              boxes = b.boxes;
              begun = b.begun;
              bases = λ o less. ap (λ (bs : List ℕ). if nat_lt o 31 then slice_index bs o else 0) between.bases ∙ b.bases o less;
              done_before = between.grown;
              done_after = subst (λ (log : List Id). IsPart (reverse l.log.items) log) (sym log_is ∙ sym completes.advances.log_is) between.within;
            })
