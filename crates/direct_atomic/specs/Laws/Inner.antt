-- The run of the instance inside a round: it is a run of its boxes, and what the round says at its slots, the instance says.
use Rattle.std.specs.Prelude.{◌≡◌, ℕ, zero, suc, ◌+◌, ◌<◌, ◌≤◌, Bool, true, false, not, ◌==◌, ◌&&◌, nat_le, if◌then◌else◌, List, [], ◌∷◌, ◌++◌, count_by, length, take, Option, Some, None, is_some, refl, ◌⊎◌}
use Rattle.std.specs.List.{AllByRecursion}
use Rattle.std.proofs.Common.{sym, ◌∙◌, ap, subst, inl, inr, arith}
use Rattle.std.proofs.lemmas.Bool.{and_parts, and_from, both_ways, eqb-true, eqb-false, eq-eqb, ne_eqb, leb-true, le-leb, not-true, cases_order}
use Rattle.ritas_base.specs.declared.slot.Slot.{Slot}
use Rattle.ritas_base.specs.declared.item.Say.{Say}
use Rattle.ritas_base.specs.declared.id.Id.{Id}
use Rattle.ritas_base.specs.declared.root_service.RootService.TheVariants.{Direct}
use Rattle.ritas_base.specs.RootServices.{root_number}
use Rattle.ritas_base.specs.Limits.{number_limit}
use Rattle.ritas_base.specs.Numbers.{Numbers, IsSession, wait_of}
use Rattle.ritas_base.specs.History.{replicas}
use Rattle.ritas_base.specs.Shortest.{option_or_older}
use Rattle.ritas_base.specs.Slots.{within}
use Rattle.frame_codec.specs.Limits.{most_ids}
use Rattle.frame_codec.specs.Format.{Format, Is}
use Rattle.frame_codec.specs.Grammar.{ids, any_ids, class2, class3}
use Rattle.frame_codec.specs.Ids.{IsBelow, AreAnyIds}
use Rattle.frame_codec.specs.IdLaws.{any_written, list_words}
use Rattle.frame_codec.specs.Values.{ids_bytes, ids_of}
use Rattle.layer_api.specs.Runs.{ReplicaStep, calls_of, inner_run}
use Rattle.layer_api.specs.Words.{Word, Ask, Hear, HasSay, value_at, all_said}
use Rattle.layer_api.specs.Part.{proposed, newly, passed, part_of}
use Rattle.layer_api.specs.Fed.{Play, Met, IsFedRun}
use Rattle.layer_api.specs.FedLaws.{some_if, say_append, newly_said, proposed_stays, heard_met, Stays, shortest_at}
use Rattle.layer_api.specs.PartLaws.{part_heard, part_asked_still, says_in_all, all_said_later, Feeds, Passes, part_met, part_inner, part_calls, part_fed}
use Rattle.layer_api.specs.FreshLaws.{said_each}
use Rattle.layer_api.specs.Multi.{Scope, Desk, desk_at, MultiRules, MultiLaws, is_multi_slot, MayMulti, AreMulti, IsMultiSaid, multi_play}
use Rattle.layer_api.specs.Vectors.{is_slot_in}
use Rattle.layer_api.specs.RoundLists.{prop_slot, props, present}
use Rattle.layer_api.specs.RoundListLaws.{present_all, prop_value}
use Rattle.ordered_rounds.specs.Identifiers.{IsSorted, in_order}
use Rattle.layer_api.specs.Proposals.{backers}
use Rattle.ordered_rounds.specs.Rounds.{entry_ids, backed}
use Rattle.ordered_rounds.specs.Box.{MayRound, AreRound, round_play}
use Rattle.ordered_rounds.specs.Laws.Ordered.{in_order_sorted, in_order_all, kept_sorted, kept_all, sorted_ascends}
use Rattle.direct_atomic.specs.Lists.{least_backed, lists_at, inner_asked, is_inner, inner_scope, inner_desk, inner_words, lists}

-- ---- slots

-- a slot of the instance: its class is not that of a list
pub record IsInner (s : Slot) : Type 0 where
  pub class : 3 ≤ s.class
  pub takes : is_inner s ≡ true

pub of_inner : (at : Scope) (s : Slot) → is_multi_slot (inner_scope at) s ≡ true → IsInner s
of_inner at s e =
    let p = and_parts (within 3 5 s.class) _ e in
    let l = leb-true 3 s.class (and_parts (nat_le 3 s.class) _ p.0).0 in
    record { class = l; takes = ap not (ne_eqb s.class 2 (λ z. omega (arith, z, l))) }

-- from 2 on, what isn't 2 is from 3 on
bigger : (c : ℕ) → 2 ≤ c → (c == 2) ≡ false → 3 ≤ c
bigger c l e =
    elim (cases_order c 2) [
      | inl same ↦ absurd (eqb-false c 2 e same)
      | inr (inl less) ↦ absurd (omega (arith, l, less))
      | inr (inr more) ↦ more
    ]

-- a slot of the round that isn't of a list is one of the instance
pub inner_slot : (at : Scope) (s : Slot) → is_slot_in 0 at.a s ≡ true → is_inner s ≡ true → is_multi_slot (inner_scope at) s ≡ true
inner_slot at s e t =
    let x = and_parts (within 2 5 s.class) _ e in
    let w = and_parts (nat_le 2 s.class) _ x.0 in
    let y = and_parts (s.a == at.a) _ x.1 in
    let z = and_parts (if s.class == 2 then s.attempt == 0 else nat_le s.attempt 0) _ y.1 in
    let other = not-true (s.class == 2) t in
    let l = bigger s.class (leb-true 2 s.class w.0) other in
    let few = leb-true s.attempt 0 (sym (ap (λ (b : Bool). if b then s.attempt == 0 else nat_le s.attempt 0) other) ∙ z.0) in
    and_from (within 3 5 s.class) _ (and_from (nat_le 3 s.class) _ (le-leb 3 s.class l) w.1)
    (and_from (s.a == at.a) _ y.0 (and_from (s.attempt == 0) _ (eq-eqb s.attempt 0 (omega (arith, few))) z.1))

-- and the other way
pub outer_slot : (at : Scope) (s : Slot) → is_multi_slot (inner_scope at) s ≡ true → is_slot_in 0 at.a s ≡ true
outer_slot at s e =
    let l = (of_inner at s e).class in
    let p = and_parts (within 3 5 s.class) _ e in
    let q = and_parts (s.a == at.a) _ p.1 in
    let r = and_parts (s.attempt == 0) _ q.1 in
    let t = and_parts (nat_le 3 s.class) _ p.0 in
    let same = eqb-true s.attempt 0 r.0 in
    let other : (s.class == 2) ≡ false = ne_eqb s.class 2 (λ z. omega (arith, z, l)) in
    and_from (within 2 5 s.class) _ (and_from (nat_le 2 s.class) _ (le-leb 2 s.class (omega (arith, l))) t.1)
    (and_from (s.a == at.a) _ q.0
    (and_from (if s.class == 2 then s.attempt == 0 else nat_le s.attempt 0) _
    (ap (λ (b : Bool). if b then s.attempt == 0 else nat_le s.attempt 0) other ∙ le-leb s.attempt 0 (omega (arith, same))) r.1))

-- where such a slot is open, it is open in the instance
pub opens_inner : (m : MultiRules) (at : Desk) (w : List Word) (s : Slot) → is_inner s ≡ true → (lists m).opens at w s ≡ true
    → m.opens (inner_desk at) (inner_words at.scope w) s ≡ true
opens_inner m at w s of e =
    let o = and_parts (is_slot_in 0 at.scope.a s) _ e in
    sym (ap (λ (b : Bool). if b then is_some (proposed w) else m.opens (inner_desk at) (inner_words at.scope w) s) (not-true (s.class == 2) of)) ∙ o.1

-- ---- what the instance is asked

-- it is asked once, and nothing before any word
pub ask_stays : (at : Scope) → Stays (inner_asked at)
ask_stays at c w v q = option_or_older (inner_asked at w) (lists_at at (c ∷ w)) v q

pub ask_nothing : (at : Scope) → inner_asked at [] ≡ None
ask_nothing at = refl

-- ---- identifiers that enough lists name

take_all : (P : Id → Type 0) (k : ℕ) (xs : List Id) → AllByRecursion P xs → AllByRecursion P (take k xs)
take_all P zero xs all = tt
take_all P (suc k) [] all = tt
take_all P (suc k) (x ∷ xs) all = (all.0, take_all P k xs all.1)

take_sorted : (k : ℕ) (xs : List Id) → IsSorted xs → IsSorted (take k xs)
take_sorted zero xs s = tt
take_sorted (suc k) [] s = tt
take_sorted (suc k) (x ∷ xs) s = (take_all (IsBelow x) k xs s.0, take_sorted k xs s.1)

append_all : (P : Id → Type 0) (xs ys : List Id) → AllByRecursion P xs → AllByRecursion P ys → AllByRecursion P (xs ++ ys)
append_all P [] ys a b = b
append_all P (x ∷ xs) ys a b = (a.0, append_all P xs ys a.1 b)

-- they are in the grammar where the lists are
abbrev pub InRange : ℕ → Id → Type 0
InRange n x = (x.origin < n) × (x.num < number_limit)

entries_all : (P : Id → Type 0) (es : List (List ℕ)) → AllByRecursion (λ e. AllByRecursion P (ids_of e)) es → AllByRecursion P (entry_ids es)
entries_all P [] all = tt
entries_all P (e ∷ es) all = append_all P (ids_of e) (entry_ids es) all.0 (entries_all P es all.1)

pub least_range : (p : Numbers) (es : List (List ℕ)) → AllByRecursion (λ e. AllByRecursion (InRange p.n) (ids_of e)) es → AllByRecursion (InRange p.n) (least_backed p es)
least_range p es all =
    take_all (InRange p.n) most_ids (backed p es)
    (kept_all (InRange p.n) (λ x. nat_le (p.f + 1) (backers es x)) (in_order (entry_ids es)) (in_order_all (InRange p.n) (entry_ids es) (entries_all (InRange p.n) es all)))

least_good : (p : Numbers) (es : List (List ℕ)) → AllByRecursion (λ e. AllByRecursion (InRange p.n) (ids_of e)) es → AreAnyIds p.n (least_backed p es)
least_good p es all = record {
  most = length-take-few most_ids (backed p es);
  in_range = least_range p es all;
  ascending =
      sorted_ascends (least_backed p es)
      (take_sorted most_ids (backed p es) (kept_sorted (λ x. nat_le (p.f + 1) (backers es x)) (in_order (entry_ids es)) (in_order_sorted (entry_ids es))));
}
  where
    length-take-few : (k : ℕ) (xs : List Id) → length (take k xs) ≤ k
    length-take-few zero xs = omega arith
    length-take-few (suc k) [] = omega arith
    length-take-few (suc k) (x ∷ xs) = omega (arith, length-take-few k xs)

-- ---- the root service

list_class : (p : Numbers) (root : ℕ) → root ≡ root_number Direct → class2 p root ≡ ids p.n
unfolding class2
list_class p root seven = subst (λ (r : ℕ). class2 p r ≡ ids p.n) (sym seven) refl

decided_class : (p : Numbers) (root : ℕ) → root ≡ root_number Direct → class3 p root ≡ any_ids p.n
unfolding class3
decided_class p root seven = subst (λ (r : ℕ). class3 p r ≡ any_ids p.n) (sym seven) refl

module _ (m : MultiRules) (laws : MultiLaws m) (at : Scope) (session : IsSession at.numbers) (has : at.root ≡ root_number Direct) (coins : ℕ → Slot → Bool) where
  abbrev pub list_play : Play
  list_play = round_play (lists m) at coins

  abbrev pub list_desk : ℕ → Desk
  list_desk i = desk_at at coins i

  abbrev pub ask_inner : ℕ → List Word → Option (List ℕ)
  ask_inner i = inner_asked at

  abbrev pub inside_play : Play
  inside_play = multi_play m (inner_scope at) coins

  -- the newest words of the instance, and all that it says
  abbrev new_words : List Word → Word → List Word
  new_words w c = part_of (inner_asked at) is_inner w c

  abbrev pub told : ℕ → List Word → List Say
  told i w = all_said (m.says (inner_desk (list_desk i))) (inner_words at w)

  -- a list that was heard is an identifier list
  pub heard_list : (i : ℕ) (w : List Word) (k : ℕ) (u : List ℕ) → AreRound (lists m) (list_desk i) w → value_at w (prop_slot at k) ≡ Some u
      → AllByRecursion (InRange at.numbers.n) (ids_of u)
  heard_list i w k u met q =
      let may = (heard_met (MayRound (lists m) (list_desk i)) w (prop_slot at k) u met q).1 in
      let good = subst (λ (f : Format). Is f u) (prop_value at.numbers at.root at k ∙ list_class at.numbers at.root has) may.good in
      let some = session.some in
      let most = session.most in
      (list_words at.numbers.n u (omega (arith, some)) (omega (arith, most)) good).in_range

  pub lists_range : (i : ℕ) (w : List Word) → AreRound (lists m) (list_desk i) w → AllByRecursion (λ e. AllByRecursion (InRange at.numbers.n) (ids_of e)) (present (props at w))
  lists_range i w met =
      present_all (λ e. AllByRecursion (InRange at.numbers.n) (ids_of e)) (λ k. value_at w (prop_slot at k)) (λ k u q. heard_list i w k u met q) (replicas at.numbers.n)

  -- what it is asked at a prefix is a list of those that stand in f + 1 lists
  pub record AskedAt (i : ℕ) (w : List Word) (v : List ℕ) : Type 0 where
    pub prefix : List Word
    pub met : AreRound (lists m) (list_desk i) prefix
    pub value : v ≡ ids_bytes (least_backed at.numbers (present (props at prefix)))

  -- it is asked a list of the grammar
  asked_good : (i : ℕ) (w : List Word) (v : List ℕ) → Met list_play i w → inner_asked at w ≡ Some v → Is (class3 at.numbers at.root) v
  asked_good i w v met q =
      let t = shortest_at (AreRound (lists m) (list_desk i)) (λ c h g. g.1) (lists_at at) w v met q in
      let s = some_if (is_some (proposed t.0) && nat_le (wait_of at.numbers) (count_by is_some (props at t.0)))
      (ids_bytes (least_backed at.numbers (present (props at t.0)))) v t.2 in
      subst (λ (u : List ℕ). Is (class3 at.numbers at.root) u) s.1
      (subst (λ (f : Format). Is f (ids_bytes (least_backed at.numbers (present (props at t.0))))) (sym (decided_class at.numbers at.root has))
      (any_written at.numbers.n (least_backed at.numbers (present (props at t.0))) (least_good at.numbers (present (props at t.0)) (lists_range i t.0 t.1))))

  -- its proposals and what it hears meet its conditions
  asks : (i : ℕ) (c : Word) (w : List Word) (v : List ℕ) → Met list_play i (c ∷ w) → inner_asked at w ≡ None → inner_asked at (c ∷ w) ≡ Some v
      → MayMulti m (inner_desk (list_desk i)) (passed is_inner c ++ inner_words at w) (Ask v)
  asks i c w v met none now = (
    part_asked_still (inner_asked at) is_inner (ask_stays at) (ask_nothing at) c w none,
    asked_good i (c ∷ w) v met now,
  )

  hears : (i : ℕ) (s : Slot) (v : List ℕ) (w : List Word) → Met list_play i (Hear s v ∷ w) → is_inner s ≡ true
      → MayMulti m (inner_desk (list_desk i)) (inner_words at w) (Hear s v)
  hears i s v w met of =
      let h = met.0 in
      record {
        slot = inner_slot at s h.slot of;
        origin = h.origin;
        is_open = opens_inner m (list_desk i) w s of h.is_open;
        first = part_heard (inner_asked at) is_inner w s h.first;
        good = h.good;
      }

  pub feeds : Feeds list_play inside_play ask_inner is_inner
  feeds = record { asks = asks; hears = hears }

  -- the instance's words met their conditions
  pub words_met : (i : ℕ) (w : List Word) → Met list_play i w → AreMulti m (inner_desk (list_desk i)) (inner_words at w)
  words_met i w met = part_met list_play inside_play ask_inner is_inner feeds i w met

  -- ---- what is said

  -- what the instance says is as it must be
  pub told_good : (i : ℕ) (w : List Word) (y : Say) → Met list_play i w → HasSay (told i w) y → IsMultiSaid (inner_desk (list_desk i)) y
  told_good i w y met h =
      said_each (m.says (inner_desk (list_desk i))) (MayMulti m (inner_desk (list_desk i))) (IsMultiSaid (inner_desk (list_desk i)))
      (λ c u n. laws.says_new (inner_desk (list_desk i)) c u session n) (inner_words at w) y (words_met i w met) h

  -- what replica i said is its list, or what its instance said
  abbrev pub IsSaidInRound : ℕ → List Word → Slot → List ℕ → Type 0
  IsSaidInRound i w s v = ((prop_slot at i ≡ s) × (proposed w ≡ Some v)) ⊎ HasSay (told i w) (record { slot = s; value = v })

  -- it is still so after a word more
  one_later : (i : ℕ) (c : Word) (w : List Word) (s : Slot) (v : List ℕ) → IsSaidInRound i w s v → IsSaidInRound i (c ∷ w) s v
  one_later i c w s v (inl x) = inl (x.0, proposed_stays c w v x.1)
  one_later i c w s v (inr x) = inr (all_said_later (m.says (inner_desk (list_desk i))) (new_words w c) (inner_words at w) _ x)

  pub said_is : (i : ℕ) (w : List Word) (s : Slot) (v : List ℕ) → HasSay (list_play.said i w) (record { slot = s; value = v }) → IsSaidInRound i w s v
  said_is i [] s v h = absurd h
  said_is i (c ∷ w) s v h =
      elim (say_append ((lists m).says (list_desk i) w c) _ _ h) [
        | inl a ↦ elim (say_append (newly (prop_slot at i) (proposed w) (proposed (c ∷ w))) _ _ a) [
          | inl x ↦ inl (newly_said _ _ _ s v x)
          | inr x ↦ inr (says_in_all (m.says (inner_desk (list_desk i))) (new_words w c) (inner_words at w) _ x)
        ]
        | inr a ↦ one_later i c w s v (said_is i w s v a)
      ]

  -- what the round says at a slot of the instance, the instance says
  pub inner_said : (i : ℕ) (w : List Word) (s : Slot) (v : List ℕ) → Met list_play i w → is_inner s ≡ true → HasSay (list_play.said i w) (record { slot = s; value = v })
      → HasSay (told i w) (record { slot = s; value = v })
  inner_said i w s v met of h =
      elim (said_is i w s v h) [
        | inl x ↦
            let e : 2 ≡ s.class = ap (λ (q : Slot). q.class) x.0 in
            absurd (both_ways (s.class == 2) (not-true (s.class == 2) of) (eq-eqb s.class 2 (sym e)))
        | inr x ↦ x
      ]

  -- and what it says at the slot of its list is the list
  pub prop_said : (i : ℕ) (w : List Word) (v : List ℕ) → Met list_play i w → HasSay (list_play.said i w) (record { slot = prop_slot at i; value = v }) → proposed w ≡ Some v
  prop_said i w v met h =
      elim (said_is i w (prop_slot at i) v h) [
        | inl x ↦ x.1
        | inr x ↦ absurd (let l = (of_inner at (prop_slot at i) (told_good i w _ met x).slot).class in omega (arith, l))
      ]

  -- ---- the run of the instance

  pub passes : Passes list_play inside_play ask_inner is_inner
  passes = record { feeds = feeds; says = λ i s v w met of mine h. inner_said i w s v met of h }

  abbrev pub inside_run : List (ReplicaStep Word) → List (ReplicaStep Word)
  inside_run xs = inner_run (part_inner ask_inner is_inner) xs

  pub inside_fed : (is_correct : ℕ → Bool) (xs : List (ReplicaStep Word)) → IsFedRun list_play is_correct xs → IsFedRun inside_play is_correct (inside_run xs)
  inside_fed is_correct xs fed = part_fed list_play inside_play is_correct ask_inner is_inner passes xs fed

  pub inside_calls : (i : ℕ) (xs : List (ReplicaStep Word)) → calls_of i (inside_run xs) ≡ inner_words at (calls_of i xs)
  inside_calls i xs = part_calls ask_inner is_inner i xs
