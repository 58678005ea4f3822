-- The pass over the attempts: each that is due begins.
use Rattle.std.specs.Prelude.{◌≡◌, ℕ, zero, suc, ◌+◌, ◌<◌, ◌≤◌, Bool, true, false, ◌&&◌, nat_le, if◌then◌else◌, List, [], ◌∷◌, ◌++◌, length, count_by, Option, Some, None, is_some, refl}
use Rattle.std.specs.List.{slice_get}
use Rattle.std.specs.Option.{option_or}
use Rattle.std.proofs.Common.{sym, ◌∙◌, ap, ap₂, subst, inl, inr, arith, append_assoc, append-nil}
use Rattle.std.proofs.lemmas.Bool.{and_from, and_right, cases_lt, leb-true, le-leb}
use Rattle.std.proofs.lemmas.Option.{slice_get_within, same_Some}
use Rattle.ritas_base.specs.declared.item.Say.{Say}
use Rattle.ritas_base.specs.Numbers.{IsSession, wait_of}
use Rattle.layer_api.specs.Words.{Word, Ask}
use Rattle.layer_api.specs.Part.{proposed, newly_asked, passed, says_in}
use Rattle.layer_api.specs.Multi.{Desk, MultiRules, MultiLaws, MayMulti}
use Rattle.layer_api.specs.MultiCalls.{MultiShown}
use Rattle.layer_api.specs.Vectors.{HasVectors}
use Rattle.vector_consensus.specs.Consensus.{props, vector_of, is_of_try, try_desk, failed_below, try_words, try_ask}
use Rattle.vector_consensus.specs.Laws.Tries.{feeds, ask_stays}
use Rattle.vector_consensus.specs.Laws.Box.{failed_stays}
use Rattle.vector_consensus.specs.Kept.{KeptProposals}
use Rattle.vector_consensus.specs.Begun.{all_failed, is_attempt_due, attempts_progress, IsBegun, Each}
use Rattle.vector_consensus.specs.Going.{AttemptBegan, AttemptBegins, KeepsAttempts, mid, asks_below, AreMidway, Went}
use Rattle.vector_consensus.specs.declared.part.Part.{Part}
use Rattle.vector_consensus.specs.declared.going.Progress.{Progress}
use Rattle.vector_consensus.proofs.KeptLaws.{kept_count}
use Rattle.vector_consensus.proofs.Turns.{words_begun, mid_nothing, asked_early, asked_nothing}
use Rattle.vector_consensus.proofs.Reaching.{Shows, has_vectors, all_failed_is, stuck, reached}

-- ---- a list with one more at its end

get_before : {X : Type 0} (xs : List X) (y : X) (k : ℕ) → k < length xs → slice_get (xs ++ y ∷ []) k ≡ slice_get xs k
get_before [] y k l = absurd (omega (arith, l))
get_before (x ∷ xs) y zero l = refl
get_before (x ∷ xs) y (suc k) l = get_before xs y k (omega (arith, l))

get_last : {X : Type 0} (xs : List X) (y : X) → slice_get (xs ++ y ∷ []) (length xs) ≡ Some y
get_last [] y = refl
get_last (x ∷ xs) y = get_last xs y

one_longer : {X : Type 0} (xs : List X) (y : X) → length (xs ++ y ∷ []) ≡ suc (length xs)
one_longer [] y = refl
one_longer (x ∷ xs) y = ap suc (one_longer xs y)

pub extends_more : {X : Type 0} (xs ys zs : List X) (y : X) → KeepsAttempts xs ys → zs ≡ ys ++ y ∷ [] → KeepsAttempts xs zs
extends_more xs ys zs y more e k x is =
    let there = more k x is in
    ap (λ (us : List _). slice_get us k) e ∙ (get_before ys y k (slice_get_within ys k x there) ∙ there)

-- ---- tests

-- what the code's test of what is due answered
pub due_as : {M : Type 0} (shown : M → MultiShown) (part : Part) (own : Bool) (table : KeptProposals) (xs ts : List M) (count : ℕ) (found is : Bool)
    → count ≡ length table.entries → xs ≡ ts → found ≡ is_attempt_due shown part own count xs → found ≡ is → is_attempt_due shown part own (length table.entries) ts ≡ is
due_as shown part own table xs ts count found is many same e answer = ap₂ (λ n us. is_attempt_due shown part own n us) (sym many) (sym same) ∙ (sym e ∙ answer)

pub progress_as : {M : Type 0} (shown : M → MultiShown) (part : Part) (own : Bool) (xs ts : List M) (next : Progress) → xs ≡ ts → next ≡ attempts_progress shown part own xs → next ≡ attempts_progress shown part own ts
progress_as shown part own xs ts next same e = e ∙ ap (λ us. attempts_progress shown part own us) same

-- what is due by the code's order of tests is due by the rules'
due_parts : (a l e f : Bool) → (a && (l && (e && f))) ≡ true → (a ≡ true) × (l ≡ true) × (e ≡ true) × (f ≡ true)
due_parts true true true true q = (refl, refl, refl, refl)
due_parts true true true false q = absurd cc
due_parts true true false f q = absurd cc
due_parts true false e f q = absurd cc
due_parts false l e f q = absurd cc

-- and so is what isn't, where an attempt is left
not_due : (a l e f : Bool) → (a && (l && (e && f))) ≡ false → l ≡ true → (a && (f && e)) ≡ false
not_due false l e f q r = refl
not_due true true true true q r = absurd cc
not_due true true true false q r = refl
not_due true true false true q r = refl
not_due true true false false q r = refl
not_due true false e f q r = absurd cc

module _ {M : Type 0} (stands : M → Desk → List Word → Type 0) (m : MultiRules) (at : Desk) (w : List Word) (c : Word) where
  -- so far the pass has come from these: those began, and have said what they say as they are asked
  pub record BegunTo (old ts : List M) (before after : List Say) : Type 0 where
    pub each : Each stands at (λ k. try_words m at k (c ∷ w)) ts
    pub asked : (k : ℕ) → k < length ts → is_some (try_ask m at k (c ∷ w)) ≡ true
    pub failed : (k : ℕ) → k < length ts → failed_below m at k (c ∷ w) ≡ true
    pub least : length old ≤ length ts
    pub few : length ts ≤ suc at.scope.numbers.f
    pub made : after ≡ before ++ asks_below m at (length ts) w c

module _ {M : Type 0} (stands : M → Desk → List Word → Type 0) (m : MultiRules) (laws : MultiLaws m) (live : M → Bool) (shown : M → MultiShown) (shows : Shows stands m live shown)
    (at : Desk) (w : List Word) (c : Word) (part : Part) (own : Bool) (table : KeptProposals) (old : List M) (here : AreMidway stands m at w c part own table old) where
  -- the numbers are a session's, and the values of class 3 are vectors
  abbrev session : IsSession at.scope.numbers
  session = here.part_is.session

  abbrev has : HasVectors at.scope
  has = has_vectors m at w c here.met.0

  -- what was asked is asked
  still_asked : (k : ℕ) → is_some (try_ask m at k w) ≡ true → is_some (try_ask m at k (c ∷ w)) ≡ true
  still_asked k q = go (try_ask m at k w) refl q
    where
      go : (o : Option (List ℕ)) → try_ask m at k w ≡ o → is_some o ≡ true → is_some (try_ask m at k (c ∷ w)) ≡ true
      go None e q = absurd cc
      go (Some v) e q = ap is_some (ask_stays at.scope k (failed_below m at k) c w v e)

  -- no other began yet
  pub first : (before : List Say) → BegunTo stands m at w c old old before before
  first before = record {
    each = λ k b q.
        let l = slice_get_within old k b q in
        subst (λ (u : List Word). stands b (try_desk at k) u) (sym (words_begun m at w c laws here.met (length old) here.begun k l)) (here.each k b q);
    asked = λ k l. still_asked k (here.begun.asked k l);
    failed = λ k l. failed_stays m laws at session has k c w here.met (here.begun.failed k l);
    least = omega arith;
    few = here.begun.few;
    made = sym (append-nil before) ∙ ap (λ (ys : List Say). before ++ ys) (sym (asked_early m at w c laws here.met (length old) here.begun (length old) (omega arith)));
  }

  -- ---- one that is due

  -- whether attempt k is due, by the words
  abbrev guard : ℕ → Bool
  guard k = is_some (proposed (c ∷ w)) && (failed_below m at k (c ∷ w) && nat_le (wait_of at.scope.numbers + k) (count_by is_some (props at.scope (c ∷ w))))

  abbrev vector : List ℕ
  vector = vector_of at.scope (c ∷ w)

  -- what it is asked, where it wasn't asked before
  now_asked : (k : ℕ) (b : Bool) → try_ask m at k w ≡ None → guard k ≡ b → try_ask m at k (c ∷ w) ≡ (if b then Some vector else None)
  now_asked k b e g = ap₂ (λ (o : Option (List ℕ)) (t : Bool). option_or o (if t then Some vector else None)) e g

  -- as far as the next one, of this number
  module _ (ts : List M) (before now : List Say) (to : BegunTo stands m at w c old ts before now) where
    abbrev k : ℕ
    k = length ts

    failed_now : all_failed shown ts ≡ failed_below m at k (c ∷ w)
    failed_now = all_failed_is stands m laws live shown shows at (c ∷ w) here.met ts to.each to.failed

    unasked : (j : ℕ) → k ≤ j → j ≤ at.scope.numbers.f → try_ask m at j w ≡ None
    unasked j l last = let least = to.least in here.begun.unasked j (omega (arith, least, l)) last

    enough_is : nat_le (part.wait + k) (length table.entries) ≡ nat_le (wait_of at.scope.numbers + k) (count_by is_some (props at.scope (c ∷ w)))
    enough_is = ap₂ (λ (x y : ℕ). nat_le (x + k) y) here.part_is.wait (kept_count (props at.scope (c ∷ w)) table here.kept)

    module _ (due : is_attempt_due shown part own (length table.entries) ts ≡ true) where
      low : k ≤ at.scope.numbers.f
      low =
          let parts = due_parts own (nat_le k part.last) (nat_le (part.wait + k) (length table.entries)) (all_failed shown ts) due in
          let l = leb-true k part.last parts.1 in
          let last = here.part_is.last in
          omega (arith, l, last)

      failed : failed_below m at k (c ∷ w) ≡ true
      failed = sym failed_now ∙ (due_parts own (nat_le k part.last) (nat_le (part.wait + k) (length table.entries)) (all_failed shown ts) due).3

      ready : guard k ≡ true
      ready =
          let parts = due_parts own (nat_le k part.last) (nat_le (part.wait + k) (length table.entries)) (all_failed shown ts) due in
          and_from (is_some (proposed (c ∷ w))) _ (sym here.owns ∙ parts.0) (and_from (failed_below m at k (c ∷ w)) _ failed (sym enough_is ∙ parts.2))

      none : try_ask m at k w ≡ None
      none = unasked k (omega arith) low

      asks : try_ask m at k (c ∷ w) ≡ Some vector
      asks = now_asked k true none ready

      empty : mid m at w c k ≡ []
      empty = let least = to.least in mid_nothing m at w c laws here.met (length old) here.begun k (omega (arith, least)) low

      newly : newly_asked (try_ask m at k w) (try_ask m at k (c ∷ w)) ≡ Ask vector ∷ []
      newly = ap₂ newly_asked none asks

      words : try_words m at k (c ∷ w) ≡ Ask vector ∷ []
      words = ap (λ (xs : List Word). (xs ++ passed (is_of_try k) c) ++ try_words m at k w) newly ∙ ap (λ (u : List Word). Ask vector ∷ u) empty

      -- it may be asked its vector, as its first word
      may : MayMulti m (try_desk at k) [] (Ask vector)
      may =
          subst (λ (u : List Word). MayMulti m (try_desk at k) u (Ask vector)) empty
          ((feeds m laws at.scope session has (λ i. at.coin) k).asks at.me c w vector here.met none asks)

      step : (b : M) (new : List M) (after : List Say) → new ≡ ts ++ b ∷ [] → AttemptBegan stands m (try_desk at k) vector b now after → BegunTo stands m at w c old new before after
      step b new after is began =
          subst (λ (xs : List M). BegunTo stands m at w c old xs before after) (sym is) (record {
            each = λ j x q. each j x q;
            asked = λ j l. elim (cases_lt j k) [ inl less ↦ to.asked j less | inr most ↦ subst (λ (i : ℕ). is_some (try_ask m at i (c ∷ w)) ≡ true) (last j l most) (ap is_some asks) ];
            failed = λ j l. elim (cases_lt j k) [ inl less ↦ to.failed j less | inr most ↦ subst (λ (i : ℕ). failed_below m at i (c ∷ w) ≡ true) (last j l most) failed ];
            least = let size = one_longer ts b in let least = to.least in omega (arith, size, least);
            few = let size = one_longer ts b in let l = low in omega (arith, size, l);
            made =
                began.made
                ∙ (ap₂ (λ (ys : List Say) (xs : List Word). ys ++ says_in (m.says (try_desk at k)) (Ask vector ∷ []) xs) to.made (sym empty)
                ∙ (append_assoc before (asks_below m at k w c) _
                ∙ (ap (λ (xs : List Word). before ++ (asks_below m at k w c ++ says_in (m.says (try_desk at k)) xs (mid m at w c k))) (sym newly)
                ∙ ap (λ (n : ℕ). before ++ asks_below m at n w c) (sym (one_longer ts b)))));
          })
        where
          last : (j : ℕ) → j < length (ts ++ b ∷ []) → k ≤ j → k ≡ j
          last j l most = let size = one_longer ts b in omega (arith, l, most, size)

          each : (j : ℕ) (x : M) → slice_get (ts ++ b ∷ []) j ≡ Some x → stands x (try_desk at j) (try_words m at j (c ∷ w))
          each j x q =
              elim (cases_lt j k) [
                | inl less ↦ to.each j x (sym (get_before ts b j less) ∙ q)
                | inr most ↦
                    let same = last j (slice_get_within (ts ++ b ∷ []) j x q) most in
                    let here_is : b ≡ x = same_Some b x (sym (get_last ts b) ∙ (ap (λ (i : ℕ). slice_get (ts ++ b ∷ []) i) same ∙ q)) in
                    subst (λ (i : ℕ). stands x (try_desk at i) (try_words m at i (c ∷ w))) same
                    (subst (λ (u : List Word). stands x (try_desk at k) u) (sym words) (subst (λ (y : M). stands y (try_desk at k) (Ask vector ∷ [])) here_is began.grows))
              ]

      pub begins : (new : List M) (after : List Say) → AttemptBegins stands m part table ts new now after → BegunTo stands m at w c old new before after
      begins new after b = step b.0 new after b.1 (b.2 at (c ∷ w) here.part_is here.kept may)

    -- ---- where none is due

    module _ (due : is_attempt_due shown part own (length table.entries) ts ≡ false) where
      next_unasked : k ≤ at.scope.numbers.f → try_ask m at k (c ∷ w) ≡ None
      next_unasked l =
          let last = here.part_is.last in
          let inside = le-leb k part.last (omega (arith, l, last)) in
          let no = not_due own (nat_le k part.last) (nat_le (part.wait + k) (length table.entries)) (all_failed shown ts) due inside in
          now_asked k false (unasked k (omega arith) l)
          (ap₂ (λ (x y : Bool). x && y) (sym here.owns) (ap₂ (λ (x y : Bool). x && y) (sym failed_now) (sym enough_is)) ∙ no)

      still_unasked : (j : ℕ) → k ≤ j → j ≤ at.scope.numbers.f → try_ask m at j (c ∷ w) ≡ None
      still_unasked j l last =
          elim (cases_lt k j) [
            | inl less ↦
                now_asked j false (unasked j l last)
                (and_right (is_some (proposed (c ∷ w))) _
                (ap (λ (b : Bool). b && nat_le (wait_of at.scope.numbers + j) (count_by is_some (props at.scope (c ∷ w))))
                (stuck stands m laws live shown shows at (c ∷ w) here.met ts to.each k j (next_unasked (omega (arith, l, last))) less)))
            | inr most ↦
                let same : k ≡ j = omega (arith, l, most) in
                subst (λ (i : ℕ). try_ask m at i (c ∷ w) ≡ None) same (next_unasked (omega (arith, same, last)))
          ]

      begun : IsBegun m at (c ∷ w) k
      begun = record { asked = to.asked; failed = to.failed; unasked = still_unasked; few = to.few }

      no_more : (n : ℕ) → k ≤ n → n ≤ suc at.scope.numbers.f → asks_below m at n w c ≡ asks_below m at k w c
      no_more zero l most = let same : 0 ≡ k = omega (arith, l) in ap (λ (i : ℕ). asks_below m at i w c) same
      no_more (suc n) l most =
          elim (cases_lt n k) [
            | inl less ↦ let same : suc n ≡ k = omega (arith, l, less) in ap (λ (i : ℕ). asks_below m at i w c) same
            | inr further ↦
                ap₂ (λ (xs ys : List Say). xs ++ ys) (no_more n further (omega (arith, most)))
                (asked_nothing m at w c n (ap (λ (o : Option (List ℕ)). newly_asked (try_ask m at n w) o) (still_unasked n further (omega (arith, most)))))
                ∙ append-nil (asks_below m at k w c)
          ]

      pub ended : (next : Progress) → next ≡ attempts_progress shown part own ts → Went stands m at w c own next ts before now
      ended next e = record {
        each = to.each;
        begun = begun;
        reached = reached stands m laws live shown shows at (c ∷ w) here.met ts to.each begun part own next here.part_is.last e;
        made = to.made ∙ ap (λ (ys : List Say). before ++ ys) (sym (no_more (suc at.scope.numbers.f) to.few (omega arith)));
      }
