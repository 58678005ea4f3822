-- What holds in every run: one value is heard at a slot, and the values of a correct origin were said; and the run that the
-- steps of a layer make of an instance inside is a run.
use Rattle.std.specs.Prelude.{◌≡◌, ℕ, Bool, true, false, ◌==◌, if◌then◌else◌, List, [], ◌∷◌, ◌++◌, Option, Some, None, refl, ◌⊎◌}
use Rattle.std.specs.Option.{option_or}
use Rattle.std.proofs.Common.{sym, ◌∙◌, ap, subst, inl, inr, arith, append_assoc}
use Rattle.std.proofs.lemmas.Bool.{cond_both, eqb-true}
use Rattle.ritas_base.specs.declared.slot.Slot.{Slot}
use Rattle.ritas_base.specs.declared.item.Say.{Say}
use Rattle.ritas_base.specs.Shortest.{option_or_some, option_or_older, option_or_none, at_shortest}
use Rattle.ritas_base.specs.SlotOrder.{is_slot, same_slot}
use Rattle.layer_api.specs.Runs.{ReplicaStep, calls_of, Has}
use Rattle.layer_api.specs.Words.{Word, Ask, Hear, asked, AllMet, HasSay, value_at}
use Rattle.layer_api.specs.Part.{proposed, newly, newly_asked, passed, part_words}
use Rattle.layer_api.specs.Fed.{Play, Met, IsGenuine, Brings, IsFedRun}

-- ---- lists

pub some_if : {X : Type 0} (b : Bool) (u v : X) → (if b then Some u else None) ≡ Some v → (b ≡ true) × (u ≡ v)
some_if true u v q = (refl, cc)
some_if false u v q = absurd cc

pub say_append : (xs ys : List Say) (y : Say) → HasSay (xs ++ ys) y → HasSay xs y ⊎ HasSay ys y
say_append [] ys y h = inr h
say_append (x ∷ xs) ys y (inl e) = inl (inl e)
say_append (x ∷ xs) ys y (inr h) = elim (say_append xs ys y h) [ inl a ↦ inl (inr a) | inr b ↦ inr b ]

pub say_later : (xs ys : List Say) (y : Say) → HasSay ys y → HasSay (xs ++ ys) y
say_later [] ys y h = h
say_later (x ∷ xs) ys y h = inr (say_later xs ys y h)

pub say_earlier : (xs ys : List Say) (y : Say) → HasSay xs y → HasSay (xs ++ ys) y
say_earlier [] ys y h = absurd h
say_earlier (x ∷ xs) ys y (inl e) = inl e
say_earlier (x ∷ xs) ys y (inr h) = inr (say_earlier xs ys y h)

-- where at_shortest gives something, f gives it at some prefix, of which P holds
pub shortest_at : {C V : Type 0} (P : List C → Type 0) → ((c : C) (h : List C) → P (c ∷ h) → P h) → (f : List C → Option V) (h : List C) (v : V)
    → P h → at_shortest f h ≡ Some v → (g : List C) × P g × (f g ≡ Some v)
shortest_at P less f [] v h q = ([], h, q)
shortest_at P less f (c ∷ cs) v h q =
    elim (option_or_some (at_shortest f cs) (f (c ∷ cs)) v q) [ inl a ↦ shortest_at P less f cs v (less c cs h) a | inr b ↦ (c ∷ cs, h, b.1) ]

-- ---- what is said

pub newly_said : (slot : Slot) (before after : Option (List ℕ)) (s : Slot) (v : List ℕ) → HasSay (newly slot before after) (record { slot = s; value = v }) → (slot ≡ s) × (after ≡ Some v)
newly_said slot before None s v h = absurd h
newly_said slot None (Some u) s v (inl e) = (ap (λ (y : Say). y.slot) e, ap (λ (y : Say). Some y.value) e)
newly_said slot None (Some u) s v (inr h) = absurd h
newly_said slot (Some x) (Some u) s v h = absurd h

pub proposed_stays : (c : Word) (w : List Word) (v : List ℕ) → proposed w ≡ Some v → proposed (c ∷ w) ≡ Some v
proposed_stays (Ask u) w v q = option_or_older (proposed w) (Some u) v q
proposed_stays (Hear s u) w v q = q

-- where no proposal came, nothing is proposed
pub unasked : (w : List Word) → asked w ≡ 0 → proposed w ≡ None
unasked [] e = refl
unasked (Ask v ∷ w) e = absurd (omega (arith, e))
unasked (Hear s v ∷ w) e = unasked w e

pub proposed_has : (w : List Word) (v : List ℕ) → proposed w ≡ Some v → Has w (Ask v)
proposed_has [] v q = absurd cc
proposed_has (Hear s u ∷ w) v q = inr (proposed_has w v q)
proposed_has (Ask u ∷ w) v q =
    elim (option_or_some (proposed w) (Some u) v q) [
      | inl a ↦ inr (proposed_has w v a)
      | inr b ↦ let e : u ≡ v = cc b.1 in inl (ap Ask e)
    ]

-- ---- what is heard

pub value_stays : (c : Word) (w : List Word) (s : Slot) (v : List ℕ) → value_at w s ≡ Some v → value_at (c ∷ w) s ≡ Some v
value_stays (Ask u) w s v q = q
value_stays (Hear r u) w s v q = option_or_older (value_at w s) _ v q

-- the value at a slot is older, or the word is it
pub value_now : (c : Word) (w : List Word) (s : Slot) (v : List ℕ) → value_at (c ∷ w) s ≡ Some v → (value_at w s ≡ Some v) ⊎ (c ≡ Hear s v)
value_now (Ask u) w s v q = inl q
value_now (Hear r u) w s v q =
    elim (option_or_some (value_at w s) (if is_slot r s then Some u else None) v q) [
      | inl a ↦ inl a
      | inr b ↦
          let i = some_if (is_slot r s) u v b.1 in
          let e : r ≡ s = same_slot r s i.0 in
          let f : u ≡ v = i.1 in
          inr cc
    ]

-- what was heard met its conditions when it came
pub heard_met : (may : List Word → Word → Type 0) (w : List Word) (s : Slot) (v : List ℕ) → AllMet may w → value_at w s ≡ Some v
    → (u : List Word) × may u (Hear s v)
heard_met may [] s v m q = absurd cc
heard_met may (c ∷ w) s v m q =
    elim (value_now c w s v q) [ inl a ↦ heard_met may w s v m.1 a | inr e ↦ (w, subst (λ (y : Word). may w y) e m.0) ]

-- what holds still after one more word that met its conditions holds after several
pub kept_over : (may : List Word → Word → Type 0) (P : List Word → Type 0) → ((d : Word) (u : List Word) → AllMet may (d ∷ u) → P u → P (d ∷ u))
    → (ds u : List Word) → AllMet may (ds ++ u) → P u → P (ds ++ u)
kept_over may P keeps [] u met p = p
kept_over may P keeps (d ∷ ds) u met p = keeps d (ds ++ u) met (kept_over may P keeps ds u met.1 p)

-- ---- a run

module _ (g : Play) (is_correct : ℕ → Bool) where
  value_step : (i : ℕ) (x : ReplicaStep Word) (xs : List (ReplicaStep Word)) (s : Slot) (v : List ℕ) → value_at (calls_of i (x ∷ xs)) s ≡ Some v
      → (value_at (calls_of i xs) s ≡ Some v) ⊎ (x.call ≡ Hear s v)
  value_step i x xs s v q =
      cond_both (x.who == i) (x.call ∷ calls_of i xs) (calls_of i xs)
      (λ (w : List Word). value_at w s ≡ Some v → (value_at (calls_of i xs) s ≡ Some v) ⊎ (x.call ≡ Hear s v))
      (λ e r. value_now x.call (calls_of i xs) s v r) (λ e r. inl r) q

  brought : (xs : List (ReplicaStep Word)) (c : Word) (s : Slot) (v : List ℕ) → c ≡ Hear s v → Brings g is_correct xs c
      → IsGenuine g is_correct xs (record { slot = s; value = v })
  brought xs c s v e h = subst (λ (y : Word). Brings g is_correct xs y) e h

  -- one value is heard at a slot
  pub one_value : (xs : List (ReplicaStep Word)) → IsFedRun g is_correct xs → (i j : ℕ) (s : Slot) (v u : List ℕ) → is_correct i ≡ true → is_correct j ≡ true
      → value_at (calls_of i xs) s ≡ Some v → value_at (calls_of j xs) s ≡ Some u → v ≡ u
  one_value [] fed i j s v u ci cj q r = absurd cc
  one_value (x ∷ xs) fed i j s v u ci cj q r =
      elim (value_step i x xs s v q) [
        | inl a ↦ elim (value_step j x xs s u r) [
          | inl c ↦ one_value xs fed.2 i j s v u ci cj a c
          | inr c ↦ (brought xs x.call s u c fed.1.1).same i v ci a
        ]
        | inr a ↦ elim (value_step j x xs s u r) [
          | inl c ↦ sym ((brought xs x.call s v a fed.1.1).same j u cj c)
          | inr c ↦ let e : Hear s v ≡ Hear s u = sym a ∙ c in cc
        ]
      ]

  module _ (more : (k : ℕ) (c : Word) (w : List Word) (y : Say) → HasSay (g.said k w) y → HasSay (g.said k (c ∷ w)) y) where
    says_stay : (k : ℕ) (x : ReplicaStep Word) (xs : List (ReplicaStep Word)) (y : Say) → HasSay (g.said k (calls_of k xs)) y → HasSay (g.said k (calls_of k (x ∷ xs))) y
    says_stay k x xs y h =
        cond_both (x.who == k) (x.call ∷ calls_of k xs) (calls_of k xs) (λ (w : List Word). HasSay (g.said k w) y)
        (λ e. more k x.call (calls_of k xs) y h) (λ e. h)

    -- a value heard from a correct origin was said there
    pub heard_said : (xs : List (ReplicaStep Word)) → IsFedRun g is_correct xs → (i : ℕ) (s : Slot) (v : List ℕ) → value_at (calls_of i xs) s ≡ Some v
        → is_correct s.origin ≡ true → HasSay (g.said s.origin (calls_of s.origin xs)) (record { slot = s; value = v })
    heard_said [] fed i s v q co = absurd cc
    heard_said (x ∷ xs) fed i s v q co =
        says_stay s.origin x xs _
        (elim (value_step i x xs s v q) [
          | inl a ↦ heard_said xs fed.2 i s v a co
          | inr a ↦ (brought xs x.call s v a fed.1.1).said co
        ])

  -- each replica's words met their conditions
  pub met : (xs : List (ReplicaStep Word)) → IsFedRun g is_correct xs → (i : ℕ) → Met g i (calls_of i xs)
  met [] fed i = tt
  met (x ∷ xs) fed i =
      cond_both (x.who == i) (x.call ∷ calls_of i xs) (calls_of i xs) (λ (w : List Word). Met g i w)
      (λ e.
      let same : x.who ≡ i = eqb-true x.who i e in
      (subst (λ (k : ℕ). g.may k (calls_of k xs) x.call) same fed.1.0, met xs fed.2 i))
      (λ e. met xs fed.2 i)

-- a run of one kind of values is one of another, where these have the same words and say the same
module _ (g h : Play) (is_correct : ℕ → Bool)
    (may : (i : ℕ) (c : Word) (w : List Word) → Met g i (c ∷ w) → h.may i w c)
    (says : (i : ℕ) (w : List Word) (y : Say) → Met g i w → HasSay (g.said i w) y → HasSay (h.said i w) y) where
  same_brings : (xs : List (ReplicaStep Word)) → IsFedRun g is_correct xs → (c : Word) → Brings g is_correct xs c → Brings h is_correct xs c
  same_brings xs fed (Ask v) b = tt
  same_brings xs fed (Hear s v) b = record {
    same = b.same;
    said = λ co. says s.origin (calls_of s.origin xs) (record { slot = s; value = v }) (met g is_correct xs fed s.origin) (b.said co);
  }

  pub same_fed : (xs : List (ReplicaStep Word)) → IsFedRun g is_correct xs → IsFedRun h is_correct xs
  same_fed [] fed = tt
  same_fed (x ∷ xs) fed = (
    fed.0,
    (
      may x.who x.call (calls_of x.who xs) (fed.1.0, met g is_correct xs fed.2 x.who),
      same_brings xs fed.2 x.call fed.1.1,
    ),
    same_fed xs fed.2,
  )

-- ---- an instance inside

-- what is proposed to it is never another
abbrev pub Stays : (List Word → Option (List ℕ)) → Type 0
Stays ask = (c : Word) (w : List Word) (v : List ℕ) → ask w ≡ Some v → ask (c ∷ w) ≡ Some v

abbrev no_value : Option (List ℕ)
no_value = None

if_none : (b : Bool) → (if b then no_value else no_value) ≡ no_value
if_none true = refl
if_none false = refl

module _ (ask : List Word → Option (List ℕ)) (takes : Slot → Bool) where
  abbrev words : List Word → List Word
  words = part_words ask takes

  -- ---- what it hears
  value_asked : (before after : Option (List ℕ)) (s : Slot) (w : List Word) → value_at (newly_asked before after ++ w) s ≡ value_at w s
  value_asked before None s w = refl
  value_asked None (Some v) s w = refl
  value_asked (Some u) (Some v) s w = refl

  abbrev own : Slot → Option (List ℕ) → Option (List ℕ)
  own s o = if takes s then o else None

  none_own : (s : Slot) → own s None ≡ None
  none_own s = if_none (takes s)

  value_passed : (c : Word) (s : Slot) (w u : List Word) → value_at w s ≡ own s (value_at u s) → value_at (passed takes c ++ w) s ≡ own s (value_at (c ∷ u) s)
  value_passed (Ask v) s w u h = h
  value_passed (Hear r v) s w u h = go (takes r) (is_slot r s) refl refl h
    where
      go : (t b : Bool) → takes r ≡ t → is_slot r s ≡ b → value_at w s ≡ own s (value_at u s)
          → value_at ((if t then Hear r v ∷ [] else []) ++ w) s ≡ own s (option_or (value_at u s) (if b then Some v else None))
      go true true e f h =
          let same : takes s ≡ true = ap takes (sym (same_slot r s f)) ∙ e in
          let x : value_at w s ≡ value_at u s = h ∙ ap (λ (b : Bool). if b then value_at u s else None) same in
          ap (λ (b : Bool). option_or (value_at w s) (if b then Some v else None)) f
          ∙ (ap (λ o. option_or o (Some v)) x ∙ sym (ap (λ (b : Bool). if b then option_or (value_at u s) (Some v) else None) same))
      go true false e f h =
          ap (λ (b : Bool). option_or (value_at w s) (if b then Some v else None)) f
          ∙ (option_or_none (value_at w s) ∙ (h ∙ ap (own s) (sym (option_or_none (value_at u s)))))
      go false true e f h =
          let same : takes s ≡ false = ap takes (sym (same_slot r s f)) ∙ e in
          h ∙ (ap (λ (b : Bool). if b then value_at u s else None) same ∙ sym (ap (λ (b : Bool). if b then option_or (value_at u s) (Some v) else None) same))
      go false false e f h = h ∙ ap (own s) (sym (option_or_none (value_at u s)))

  -- it hears at a slot of its own what the layer heard there, and nothing at another
  pub part_value : (w : List Word) (s : Slot) → value_at (words w) s ≡ own s (value_at w s)
  part_value [] s = sym (none_own s)
  part_value (c ∷ w) s =
      value_more (newly_asked (ask w) (ask (c ∷ w)))
      (λ u. value_asked (ask w) (ask (c ∷ w)) s u)
      (value_passed c s (words w) w (part_value w s))
    where
      value_more : (xs : List Word) → ((u : List Word) → value_at (xs ++ u) s ≡ value_at u s) → value_at (passed takes c ++ words w) s ≡ own s (value_at (c ∷ w) s)
          → value_at ((xs ++ passed takes c) ++ words w) s ≡ own s (value_at (c ∷ w) s)
      value_more xs h q = ap (λ u. value_at u s) (append_assoc xs (passed takes c) (words w)) ∙ (h (passed takes c ++ words w) ∙ q)
