-- The run that the steps of a layer make of an instance inside it is a run of that instance.
use Rattle.std.specs.Prelude.{◌≡◌, ℕ, Bool, true, false, ◌||◌, if◌then◌else◌, List, [], ◌∷◌, ◌++◌, Option, Some, None, is_some, refl}
use Rattle.std.specs.Option.{option_or}
use Rattle.std.proofs.Common.{sym, ◌∙◌, ap, subst, inl, inr, arith, append_assoc}
use Rattle.ritas_base.specs.declared.slot.Slot.{Slot}
use Rattle.ritas_base.specs.declared.item.Say.{Say}
use Rattle.ritas_base.specs.Shortest.{not_there}
use Rattle.ritas_base.specs.SlotOrder.{is_slot}
use Rattle.layer_api.specs.Runs.{ReplicaStep, calls_of, steps_by, Has, Inner, inner, inner_run}
use Rattle.layer_api.specs.RunsLaws.{inner_calls, same}
use Rattle.layer_api.specs.Words.{Word, Ask, Hear, HasSay, asked, is_heard, value_at, all_said}
use Rattle.layer_api.specs.Part.{newly_asked, passed, part_of, part_words, says_in}
use Rattle.layer_api.specs.Fed.{Play, Met, Brings, IsFedRun}
use Rattle.layer_api.specs.FedLaws.{say_append, say_later, say_earlier, part_value, Stays, met}

-- a slot was heard exactly where a value was
pub heard_is : (w : List Word) (s : Slot) → is_heard w s ≡ is_some (value_at w s)
heard_is [] s = refl
heard_is (Ask v ∷ w) s = heard_is w s
heard_is (Hear q v ∷ w) s = ap (λ (b : Bool). is_slot q s || b) (heard_is w s) ∙ go (is_slot q s) (value_at w s)
  where
    go : (b : Bool) (o : Option (List ℕ)) → (b || is_some o) ≡ is_some (option_or o (if b then Some v else None))
    go true None = refl
    go true (Some u) = refl
    go false None = refl
    go false (Some u) = refl

-- so what wasn't heard has no value
pub unheard : (w : List Word) (s : Slot) → is_heard w s ≡ false → value_at w s ≡ None
unheard w s e = not_there (value_at w s) (sym (heard_is w s) ∙ e)

if_some_none : (b : Bool) (o : Option (List ℕ)) → o ≡ None → is_some (if b then o else None) ≡ false
if_some_none true o e = ap is_some e
if_some_none false o e = refl

pub own_value : (takes : Slot → Bool) (s : Slot) (o : Option (List ℕ)) (v : List ℕ) → (if takes s then o else None) ≡ Some v → (takes s ≡ true) × (o ≡ Some v)
own_value takes s o v q = go (takes s) refl q
  where
    go : (b : Bool) → takes s ≡ b → (if b then o else None) ≡ Some v → (takes s ≡ true) × (o ≡ Some v)
    go true e q = (e, q)
    go false e q = absurd cc

module _ (ask : List Word → Option (List ℕ)) (takes : Slot → Bool) where
  -- what wasn't heard, it hasn't heard
  pub part_heard : (w : List Word) (s : Slot) → is_heard w s ≡ false → is_heard (part_words ask takes w) s ≡ false
  part_heard w s q =
      heard_is (part_words ask takes w) s
      ∙ (ap is_some (part_value ask takes w s) ∙ if_some_none (takes s) (value_at w s) (unheard w s q))

  pub part_value_of : (w : List Word) (s : Slot) (v : List ℕ) → value_at (part_words ask takes w) s ≡ Some v → value_at w s ≡ Some v
  part_value_of w s v q = (own_value takes s (value_at w s) v (sym (part_value ask takes w s) ∙ q)).1

  asked_passed : (c : Word) (u : List Word) → asked (passed takes c ++ u) ≡ asked u
  asked_passed (Ask v) u = refl
  asked_passed (Hear s v) u = go (takes s)
    where
      go : (b : Bool) → asked ((if b then Hear s v ∷ [] else []) ++ u) ≡ asked u
      go true = refl
      go false = refl

  abbrev one_if : Option (List ℕ) → ℕ
  one_if o = if is_some o then 1 else 0

  asked_newly : (before after : Option (List ℕ)) (u : List Word) → ((v : List ℕ) → before ≡ Some v → after ≡ Some v) → asked u ≡ one_if before
      → asked (newly_asked before after ++ u) ≡ one_if after
  asked_newly None None u keep q = q
  asked_newly None (Some v) u keep q = omega (arith, q)
  asked_newly (Some x) None u keep q = absurd (let z = keep x refl in cc)
  asked_newly (Some x) (Some v) u keep q = q

  has_passed : (c : Word) (u : List Word) (v : List ℕ) → Has (passed takes c ++ u) (Ask v) → Has u (Ask v)
  has_passed (Ask x) u v h = h
  has_passed (Hear s x) u v h = go (takes s) h
    where
      go : (b : Bool) → Has ((if b then Hear s x ∷ [] else []) ++ u) (Ask v) → Has u (Ask v)
      go true (inl e) = absurd (let z : Hear s x ≡ Ask v = e in cc)
      go true (inr h) = h
      go false h = h

  has_newly : (before after : Option (List ℕ)) (u : List Word) (v : List ℕ) → ((x : List ℕ) → before ≡ Some x → after ≡ Some x) → (Has u (Ask v) → before ≡ Some v)
      → Has (newly_asked before after ++ u) (Ask v) → after ≡ Some v
  has_newly None None u v keep old h = old h
  has_newly None (Some x) u v keep old (inl e) = cc
  has_newly None (Some x) u v keep old (inr h) = absurd (let z = old h in cc)
  has_newly (Some x) None u v keep old h = absurd (let z = keep x refl in cc)
  has_newly (Some x) (Some y) u v keep old h = keep v (old h)

  module _ (stays : Stays ask) (nothing : ask [] ≡ None) where
    -- it was proposed something once, where that is there
    pub part_asked : (w : List Word) → asked (part_words ask takes w) ≡ one_if (ask w)
    part_asked [] = ap one_if (sym nothing)
    part_asked (c ∷ w) =
        ap asked (append_assoc (newly_asked (ask w) (ask (c ∷ w))) (passed takes c) (part_words ask takes w))
        ∙ asked_newly (ask w) (ask (c ∷ w)) (passed takes c ++ part_words ask takes w) (λ v. stays c w v)
        (asked_passed c (part_words ask takes w) ∙ part_asked w)

    -- and it was that
    pub part_has : (w : List Word) (v : List ℕ) → Has (part_words ask takes w) (Ask v) → ask w ≡ Some v
    part_has [] v h = absurd h
    part_has (c ∷ w) v h =
        has_newly (ask w) (ask (c ∷ w)) (passed takes c ++ part_words ask takes w) v (λ x. stays c w x)
        (λ u. part_has w v (has_passed c (part_words ask takes w) v u))
        (subst (λ (u : List Word). Has u (Ask v)) (append_assoc (newly_asked (ask w) (ask (c ∷ w))) (passed takes c) (part_words ask takes w)) h)

    pub part_asked_once : (w : List Word) (v : List ℕ) → ask w ≡ Some v → asked (part_words ask takes w) ≡ 1
    part_asked_once w v q = part_asked w ∙ ap one_if q

    pub part_asked_none : (w : List Word) → ask w ≡ None → asked (part_words ask takes w) ≡ 0
    part_asked_none w q = part_asked w ∙ ap one_if q

    pub part_asked_still : (c : Word) (w : List Word) → ask w ≡ None → asked (passed takes c ++ part_words ask takes w) ≡ 0
    part_asked_still c w q = asked_passed c (part_words ask takes w) ∙ part_asked_none w q

-- ---- what an instance says in a call, and in all of them

pub says_in_all : (says : List Word → Word → List Say) (ds before : List Word) (y : Say) → HasSay (says_in says ds before) y → HasSay (all_said says (ds ++ before)) y
says_in_all says [] before y h = absurd h
says_in_all says (d ∷ ds) before y h =
    elim (say_append (says_in says ds before) (says (ds ++ before) d) y h) [
      | inl a ↦ say_later (says (ds ++ before) d) (all_said says (ds ++ before)) y (says_in_all says ds before y a)
      | inr b ↦ say_earlier (says (ds ++ before) d) (all_said says (ds ++ before)) y b
    ]

pub all_said_later : (says : List Word → Word → List Say) (ds before : List Word) (y : Say) → HasSay (all_said says before) y → HasSay (all_said says (ds ++ before)) y
all_said_later says [] before y h = h
all_said_later says (d ∷ ds) before y h = say_later (says (ds ++ before) d) (all_said says (ds ++ before)) y (all_said_later says ds before y h)

-- ---- the run of the instance

-- the proposals of an instance inside, and what it hears, meet its conditions
pub record Feeds (g h : Play) (ask : ℕ → List Word → Option (List ℕ)) (takes : Slot → Bool) : Type 0 where
  pub asks : (i : ℕ) (c : Word) (w : List Word) (v : List ℕ) → Met g i (c ∷ w) → ask i w ≡ None → ask i (c ∷ w) ≡ Some v
      → h.may i (passed takes c ++ part_words (ask i) takes w) (Ask v)
  pub hears : (i : ℕ) (s : Slot) (v : List ℕ) (w : List Word) → Met g i (Hear s v ∷ w) → takes s ≡ true
      → h.may i (part_words (ask i) takes w) (Hear s v)

-- and what the layer says at the instance's slots, the instance says
pub record Passes (g h : Play) (ask : ℕ → List Word → Option (List ℕ)) (takes : Slot → Bool) : Type 0 where
  pub feeds : Feeds g h ask takes
  pub says : (i : ℕ) (s : Slot) (v : List ℕ) (w : List Word) → Met g i w → takes s ≡ true → s.origin ≡ i
      → HasSay (g.said i w) (record { slot = s; value = v }) → HasSay (h.said i (part_words (ask i) takes w)) (record { slot = s; value = v })

module _ (g h : Play) (ask : ℕ → List Word → Option (List ℕ)) (takes : Slot → Bool) (p : Feeds g h ask takes) (i : ℕ) where
  passed_met : (c : Word) (w : List Word) → Met g i (c ∷ w) → Met h i (part_words (ask i) takes w) → Met h i (passed takes c ++ part_words (ask i) takes w)
  passed_met (Ask v) w m rest = rest
  passed_met (Hear s v) w m rest = go (takes s) refl
    where
      go : (b : Bool) → takes s ≡ b → Met h i ((if b then Hear s v ∷ [] else []) ++ part_words (ask i) takes w)
      go false e = rest
      go true e = (p.hears i s v w m e, rest)

  asked_met : (c : Word) (w : List Word) → Met g i (c ∷ w) → Met h i (passed takes c ++ part_words (ask i) takes w)
      → (before after : Option (List ℕ)) → ask i w ≡ before → ask i (c ∷ w) ≡ after
      → Met h i (newly_asked before after ++ (passed takes c ++ part_words (ask i) takes w))
  asked_met c w m rest before None e f = rest
  asked_met c w m rest (Some u) (Some v) e f = rest
  asked_met c w m rest None (Some v) e f = (p.asks i c w v m e f, rest)

  -- the instance's words met their conditions
  pub part_met : (w : List Word) → Met g i w → Met h i (part_words (ask i) takes w)
  part_met [] m = tt
  part_met (c ∷ w) m =
      subst (λ (u : List Word). Met h i u)
      (sym (append_assoc (newly_asked (ask i w) (ask i (c ∷ w))) (passed takes c) (part_words (ask i) takes w)))
      (asked_met c w m (passed_met c w m (part_met w m.1)) (ask i w) (ask i (c ∷ w)) refl refl)

module _ (ask : ℕ → List Word → Option (List ℕ)) (takes : Slot → Bool) where
  abbrev pub part_inner : Inner Word Word
  part_inner i w c = part_of (ask i) takes w c

  inner_words : (i : ℕ) (w : List Word) → inner part_inner i w ≡ part_words (ask i) takes w
  inner_words i [] = refl
  inner_words i (c ∷ w) = ap (λ (ys : List Word). part_of (ask i) takes w c ++ ys) (inner_words i w)

  pub part_calls : (i : ℕ) (xs : List (ReplicaStep Word)) → calls_of i (inner_run part_inner xs) ≡ part_words (ask i) takes (calls_of i xs)
  part_calls i xs = inner_calls part_inner i xs ∙ inner_words i (calls_of i xs)

module _ (g h : Play) (is_correct : ℕ → Bool) (ask : ℕ → List Word → Option (List ℕ)) (takes : Slot → Bool) (p : Passes g h ask takes) where
  abbrev run : List (ReplicaStep Word) → List (ReplicaStep Word)
  run xs = inner_run (part_inner ask takes) xs

  passed_fed : (xs : List (ReplicaStep Word)) (i : ℕ) (c : Word) → is_correct i ≡ true → Met g i (c ∷ calls_of i xs) → IsFedRun g is_correct xs
      → Brings g is_correct xs c → IsFedRun h is_correct (run xs) → IsFedRun h is_correct (steps_by i (passed takes c) (run xs))
  passed_fed xs i (Ask v) ci m all fed rest = rest
  passed_fed xs i (Hear s v) ci m all fed rest = go (takes s) refl
    where
      go : (b : Bool) → takes s ≡ b → IsFedRun h is_correct (steps_by i (if b then Hear s v ∷ [] else []) (run xs))
      go false e = rest
      go true e = (
        ci,
        (
          subst (λ (w : List Word). h.may i w (Hear s v)) (sym (part_calls ask takes i xs)) (p.feeds.hears i s v (calls_of i xs) m e),
          record {
            same = λ j u cj q.
                fed.same j u cj (part_value_of (ask j) takes (calls_of j xs) s u (ap (λ (w : List Word). value_at w s) (sym (part_calls ask takes j xs)) ∙ q));
            said = λ co.
                subst (λ (w : List Word). HasSay (h.said s.origin w) (record { slot = s; value = v })) (sym (part_calls ask takes s.origin xs))
                (p.says s.origin s v (calls_of s.origin xs) (met g is_correct xs all s.origin) e refl (fed.said co));
          },
        ),
        rest,
      )

  asked_fed : (xs : List (ReplicaStep Word)) (i : ℕ) (c : Word) → is_correct i ≡ true → Met g i (c ∷ calls_of i xs)
      → IsFedRun h is_correct (steps_by i (passed takes c) (run xs))
      → (before after : Option (List ℕ)) → ask i (calls_of i xs) ≡ before → ask i (c ∷ calls_of i xs) ≡ after
      → IsFedRun h is_correct (steps_by i (newly_asked before after ++ passed takes c) (run xs))
  asked_fed xs i c ci m rest before None e f = rest
  asked_fed xs i c ci m rest (Some u) (Some v) e f = rest
  asked_fed xs i c ci m rest None (Some v) e f = (
    ci,
    (
      subst (λ (w : List Word). h.may i w (Ask v))
          (sym (same i (passed takes c) (run xs) ∙ ap (λ (ys : List Word). passed takes c ++ ys) (part_calls ask takes i xs)))
          (p.feeds.asks i c (calls_of i xs) v m e f),
      tt,
    ),
    rest,
  )

  -- a run of the layer gives a run of the instance
  pub part_fed : (xs : List (ReplicaStep Word)) → IsFedRun g is_correct xs → IsFedRun h is_correct (run xs)
  part_fed [] fed = tt
  part_fed (x ∷ xs) fed =
      let m : Met g x.who (x.call ∷ calls_of x.who xs) = (fed.1.0, met g is_correct xs fed.2 x.who) in
      asked_fed xs x.who x.call fed.0 m (passed_fed xs x.who x.call fed.0 m fed.2 fed.1.1 (part_fed xs fed.2))
      (ask x.who (calls_of x.who xs)) (ask x.who (x.call ∷ calls_of x.who xs)) refl refl
