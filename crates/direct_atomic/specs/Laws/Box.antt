-- The laws of a single value of a round, from those of its multi-valued consensus.
use Rattle.std.specs.Prelude.{◌≡◌, ℕ, Bool, true, false, ◌==◌, ◌&&◌, if◌then◌else◌, List, [], ◌∷◌, ◌++◌, count_by, Option, Some, None, is_some, option_map, unwrap_or, refl}
use Rattle.std.proofs.Common.{sym, ◌∙◌, ap, subst, inl, inr, arith}
use Rattle.std.proofs.lemmas.Bool.{and_parts, and_from, and_right, both_ways, lt-leb, eq-eqb}
use Rattle.std.proofs.lemmas.Option.{none-some}
use Rattle.ritas_base.specs.declared.slot.Slot.{Slot}
use Rattle.ritas_base.specs.declared.item.Say.{Say}
use Rattle.ritas_base.specs.declared.id.Id.{Id}
use Rattle.ritas_base.specs.declared.root_service.RootService.TheVariants.{Direct}
use Rattle.ritas_base.specs.RootServices.{root_number}
use Rattle.ritas_base.specs.Numbers.{Numbers, IsSession, wait_of}
use Rattle.ritas_base.specs.History.{replicas}
use Rattle.ritas_base.specs.Quorums.{count_by-map, count_none}
use Rattle.ritas_base.specs.Shortest.{option_or_some}
use Rattle.frame_codec.specs.Format.{Format, Is}
use Rattle.frame_codec.specs.Grammar.{class2}
use Rattle.frame_codec.specs.Values.{ids_bytes, ids_in, ids_of}
use Rattle.layer_api.specs.Service.{Instance, OfBit, OfValue, OfVector, Decision, Bit, value_decision, GoesByBit, has_id}
use Rattle.layer_api.specs.Purpose.{list_wants}
use Rattle.layer_api.specs.DecisionLaws.{if_stays}
use Rattle.layer_api.specs.Words.{Word, Ask, Hear, value_at, HasSay, is_said, all_said, AreFresh}
use Rattle.layer_api.specs.Part.{proposed, newly, newly_asked, part_of, says_in}
use Rattle.layer_api.specs.FedLaws.{newly_said, proposed_stays, kept_over}
use Rattle.layer_api.specs.PartLaws.{says_in_all}
use Rattle.layer_api.specs.FreshLaws.{unsaid, has_said, fresh_append, fresh_other, fresh_newly, fresh_in}
use Rattle.layer_api.specs.Multi.{Scope, Desk, MultiRules, MayMulti, AreMulti, IsMultiSaid, MultiLaws}
use Rattle.layer_api.specs.Vectors.{is_slot_in}
use Rattle.layer_api.specs.RoundLists.{prop_slot, props, present}
use Rattle.layer_api.specs.RoundListLaws.{prop_value}
use Rattle.ordered_rounds.specs.Identifiers.{in_order}
use Rattle.ordered_rounds.specs.Box.{AreRound, IsRoundSaid, IsDecidedInside, RoundLaws}
use Rattle.ordered_rounds.specs.Laws.Ordered.{in_order_sorted}
use Rattle.ordered_rounds.specs.Laws.ListedIds.{in_order_has}
use Rattle.direct_atomic.specs.Lists.{least_backed, inner_asked, is_inner, inner_desk, inner_words, inner_decides, decided_list, list_opens, list_inside, lists}
use Rattle.direct_atomic.specs.Laws.Inner.{IsInner, of_inner, outer_slot, words_met, told_good, inner_said, prop_said}

-- ---- before any word

module _ (m : MultiRules) (laws : MultiLaws m) (at : Desk) where
  -- nothing is open, and nothing is decided
  pub opens_first : (s : Slot) → list_opens m at [] s ≡ false
  opens_first s = and_right (is_slot_in 0 at.scope.a s) _ (go (s.class == 2))
    where
      go : (b : Bool) → (if b then false else m.opens (inner_desk at) [] s) ≡ false
      go true = refl
      go false = laws.opens_first (inner_desk at) s

  pub decision_first : decided_list (inner_decides m at []) ≡ None
  decision_first = ap decided_list (laws.decision_first (inner_desk at))

  -- nor where only a list was proposed
  none_there : (v : List ℕ) → count_by is_some (props at.scope (Ask v ∷ [])) ≡ 0
  none_there v =
      count_by-map is_some (λ k. value_at (Ask v ∷ []) (prop_slot at.scope k)) (replicas at.scope.numbers.n)
      ∙ count_none (λ k. is_some (value_at (Ask v ∷ []) (prop_slot at.scope k))) (replicas at.scope.numbers.n) (λ k q. let z : false ≡ true = q in cc)

  not_asked : (v : List ℕ) → IsSession at.scope.numbers → inner_asked at.scope (Ask v ∷ []) ≡ None
  not_asked v session =
      let enough = session.enough in
      let none = none_there v in
      let few = lt-leb (wait_of at.scope.numbers) (count_by is_some (props at.scope (Ask v ∷ []))) (omega (arith, none, enough)) in
      ap (λ (b : Bool). if b then Some (ids_bytes (least_backed at.scope.numbers (present (props at.scope (Ask v ∷ []))))) else None) few

  quiet : (v : List ℕ) → IsSession at.scope.numbers → inner_words at.scope (Ask v ∷ []) ≡ []
  quiet v session = ap (λ (o : Option (List ℕ)). (newly_asked None o ++ []) ++ []) (not_asked v session)

  pub decision_asked : (v : List ℕ) → IsSession at.scope.numbers → decided_list (inner_decides m at (Ask v ∷ [])) ≡ None
  decision_asked v session = ap (λ (w : List Word). decided_list (m.decision (inner_desk at) w)) (quiet v session) ∙ decision_first

  -- nor did any instance inside decide anything
  nothing_inside : (w : List Word) (b : Bool) (x : Instance) → inner_words at.scope w ≡ []
      → (if b then m.inside (inner_desk at) (inner_words at.scope w) x else None) ≡ None
  nothing_inside w false x none = refl
  nothing_inside w true x none =
      ap (λ (u : List Word). m.inside (inner_desk at) u x) none ∙ laws.inside_first (inner_desk at) x

  unasked_inside : (w : List Word) (x : Instance) → inner_words at.scope w ≡ [] → list_inside m at w x ≡ None
  unasked_inside w (OfBit a k) none = nothing_inside w (a == at.scope.a && k == 0) (OfBit a k) none
  unasked_inside w (OfValue a k) none = nothing_inside w (a == at.scope.a && k == 0) (OfValue a k) none
  unasked_inside w (OfVector a) none = refl

  pub inside_first : (x : Instance) → list_inside m at [] x ≡ None
  inside_first x = unasked_inside [] x refl

  pub inside_asked : (v : List ℕ) (x : Instance) → IsSession at.scope.numbers → list_inside m at (Ask v ∷ []) x ≡ None
  inside_asked v x session = unasked_inside (Ask v ∷ []) x (quiet v session)

-- ---- what stays

still_some : {X : Type 0} (o u : Option X) → ((x : X) → o ≡ Some x → u ≡ Some x) → is_some o ≡ true → is_some u ≡ true
still_some None u stays q = absurd cc
still_some (Some x) u stays q = ap is_some (stays x refl)

-- a decision is that no value is, or a list
pub decided_by : (o : Option (Option (List ℕ))) (v : List ℕ) → decided_list o ≡ Some v → (d : Option (List ℕ)) × (o ≡ Some d) × (unwrap_or d [] ≡ v)
decided_by None v q = absurd cc
decided_by (Some d) v q = (d, refl, cc)

-- ---- what the instance decided

-- no bytes are no identifiers
pub no_ids : (x : Id) → has_id (ids_of []) x ≡ false
unfolding ids_in
no_ids x = refl

-- its decision wants what the list has
same_wants : (p : Numbers) (d : Option (List ℕ)) (x : Id)
    → list_wants p (value_decision d) x ≡ has_id (in_order (ids_of (unwrap_or d []))) x
same_wants p None x = sym (in_order_has (ids_of []) x ∙ no_ids x)
same_wants p (Some u) x = sym (in_order_has (ids_of u) x)

module _ (m : MultiRules) (laws : MultiLaws m) (at : Desk) (w : List Word) where
  -- what the instance of the round shows is what it decided
  own_inside : list_inside m at w (OfValue at.scope.a 0) ≡ m.inside (inner_desk at) (inner_words at.scope w) (OfValue at.scope.a 0)
  own_inside =
      ap (λ (b : Bool). if b then m.inside (inner_desk at) (inner_words at.scope w) (OfValue at.scope.a 0) else None)
      (and_from (at.scope.a == at.scope.a) true (eq-eqb at.scope.a at.scope.a refl) refl)

  pub decided_inside : (v : List ℕ) → decided_list (inner_decides m at w) ≡ Some v → IsDecidedInside (lists m) at w v
  decided_inside v q =
      let x = decided_by (inner_decides m at w) v q in
      record {
        decision = value_decision x.0;
        decides = own_inside ∙ (laws.inside_own (inner_desk at) (inner_words at.scope w) ∙ ap (option_map value_decision) x.1);
        wants = λ i. same_wants at.scope.numbers x.0 i ∙ ap (λ (u : List ℕ). has_id (in_order (ids_of u)) i) x.2;
      }

-- ---- what each word keeps

module _ (m : MultiRules) (laws : MultiLaws m) (at : Desk) (session : IsSession at.scope.numbers) (has : at.scope.root ≡ root_number Direct) where
  abbrev coins : ℕ → Slot → Bool
  coins i = at.coin

  abbrev scope : Scope
  scope = at.scope

  abbrev new_words : List Word → Word → List Word
  new_words w c = part_of (inner_asked scope) is_inner w c

  -- the instance's words met their conditions
  pub inner_met : (w : List Word) → AreRound (lists m) at w → AreMulti m (inner_desk at) (inner_words scope w)
  inner_met w met = words_met m laws scope session has coins at.me w met

  -- what each word of the instance keeps, a word of the round keeps
  inner_keeps : (P : List Word → Type 0) → ((d : Word) (u : List Word) → AreMulti m (inner_desk at) (d ∷ u) → P u → P (d ∷ u))
      → (c : Word) (w : List Word) → AreRound (lists m) at (c ∷ w) → P (inner_words scope w) → P (inner_words scope (c ∷ w))
  inner_keeps P keeps c w met q = kept_over (MayMulti m (inner_desk at)) P keeps (new_words w c) (inner_words scope w) (inner_met (c ∷ w) met) q

  -- what is decided stays
  pub decision_stays : (c : Word) (w : List Word) (v : List ℕ) → AreRound (lists m) at (c ∷ w)
      → decided_list (inner_decides m at w) ≡ Some v → decided_list (inner_decides m at (c ∷ w)) ≡ Some v
  decision_stays c w v met q =
      let x = decided_by (inner_decides m at w) v q in
      let d = inner_keeps (λ u. m.decision (inner_desk at) u ≡ Some x.0) (λ e u all. laws.decision_stays (inner_desk at) e u x.0 all) c w met x.1 in
      ap decided_list d ∙ ap Some x.2

  -- what the instance and its bit decided stays
  pub inside_stays : (c : Word) (w : List Word) (x : Instance) (d : Decision) → AreRound (lists m) at (c ∷ w)
      → list_inside m at w x ≡ Some d → list_inside m at (c ∷ w) x ≡ Some d
  inside_stays c w (OfBit a k) d met q = one c w (OfBit a k) (a == scope.a && k == 0) d met q
    where
      one : (c : Word) (w : List Word) (x : Instance) (b : Bool) (d : Decision) → AreRound (lists m) at (c ∷ w)
          → (if b then m.inside (inner_desk at) (inner_words scope w) x else None) ≡ Some d → (if b then m.inside (inner_desk at) (inner_words scope (c ∷ w)) x else None) ≡ Some d
      one c w x b d met q =
          if_stays b (m.inside (inner_desk at) (inner_words scope w) x) (m.inside (inner_desk at) (inner_words scope (c ∷ w)) x) d
          (λ e r. inner_keeps (λ u. m.inside (inner_desk at) u x ≡ Some e) (λ y u met. laws.inside_stays (inner_desk at) y u x e met) c w met r) q
  inside_stays c w (OfValue a k) d met q =
      if_stays (a == scope.a && k == 0) (m.inside (inner_desk at) (inner_words scope w) (OfValue a k)) (m.inside (inner_desk at) (inner_words scope (c ∷ w)) (OfValue a k)) d
      (λ e r. inner_keeps (λ u. m.inside (inner_desk at) u (OfValue a k) ≡ Some e) (λ y u met. laws.inside_stays (inner_desk at) y u (OfValue a k) e met) c w met r) q
  inside_stays c w (OfVector a) d met q = absurd cc

  -- and the multi-valued consensus went by its bit
  pub inside_bit : (w : List Word) (a k : ℕ) → AreRound (lists m) at w → GoesByBit (list_inside m at w) a k
  inside_bit w a k met o q = go (a == scope.a && k == 0) q
    where
      go : (b : Bool) → (if b then m.inside (inner_desk at) (inner_words scope w) (OfValue a k) else None) ≡ Some (value_decision o)
          → (if b then m.inside (inner_desk at) (inner_words scope w) (OfBit a k) else None) ≡ Some (Bit (is_some o))
      go false e = absurd cc
      go true e = laws.inside_bit (inner_desk at) (inner_words scope w) a k (inner_met w met) o e

  -- what is open stays open
  pub opens_stays : (c : Word) (w : List Word) (s : Slot) → AreRound (lists m) at (c ∷ w) → list_opens m at w s ≡ true → list_opens m at (c ∷ w) s ≡ true
  opens_stays c w s met q =
      let x = and_parts (is_slot_in 0 scope.a s) _ q in
      and_from (is_slot_in 0 scope.a s) _ x.0 (go (s.class == 2) x.1)
    where
      go : (b : Bool) → (if b then is_some (proposed w) else m.opens (inner_desk at) (inner_words scope w) s) ≡ true
          → (if b then is_some (proposed (c ∷ w)) else m.opens (inner_desk at) (inner_words scope (c ∷ w)) s) ≡ true
      go true e = still_some (proposed w) (proposed (c ∷ w)) (proposed_stays c w) e
      go false e = inner_keeps (λ u. m.opens (inner_desk at) u s ≡ true) (λ d u all. laws.opens_stays (inner_desk at) d u s all) c w met e

  -- ---- what is said, and where

  abbrev inner_says : List Word → Word → List Say
  inner_says w c = m.says (inner_desk at) w c

  -- what a word newly says in the instance, and all that was said before
  abbrev new_says : List Word → Word → List Say
  new_says w c = says_in inner_says (new_words w c) (inner_words scope w)

  abbrev before : List Word → List Say
  before w = all_said ((lists m).says at) w

  -- what a word newly says in the instance is at its slots
  new_said : (w : List Word) (c : Word) (y : Say) → AreRound (lists m) at (c ∷ w) → HasSay (new_says w c) y → IsInner y.slot
  new_said w c y met h =
      of_inner scope y.slot
      (told_good m laws scope session has coins at.me (c ∷ w) y met (says_in_all inner_says (new_words w c) (inner_words scope w) y h)).slot

  -- what is proposed is of class 2
  proposed_good : (w : List Word) (v : List ℕ) → AreRound (lists m) at w → proposed w ≡ Some v → Is (class2 scope.numbers scope.root) v
  proposed_good [] v met q = absurd cc
  proposed_good (Hear s u ∷ w) v met q = proposed_good w v met.1 q
  proposed_good (Ask u ∷ w) v met q =
      elim (option_or_some (proposed w) (Some u) v q) [
        | inl a ↦ proposed_good w v met.1 a
        | inr a ↦ let e : u ≡ v = cc a.1 in subst (λ (x : List ℕ). Is (class2 scope.numbers scope.root) x) e met.0.1
      ]

  -- the slot of the list is one of the round
  prop_is_own : is_slot_in 0 scope.a (prop_slot scope at.me) ≡ true
  prop_is_own = and_from (scope.a == scope.a) true (eq-eqb scope.a scope.a refl) refl

  -- ---- what a word says is new

  -- the list is
  own_fresh : (w : List Word) (c : Word) → AreRound (lists m) at (c ∷ w)
      → AreFresh (IsRoundSaid (lists m) at) (before w) (newly (prop_slot scope at.me) (proposed w) (proposed (c ∷ w)))
  own_fresh w c met = fresh_newly (IsRoundSaid (lists m) at) (before w) (prop_slot scope at.me) (proposed w) (proposed (c ∷ w)) (λ v none now. (
    record {
      slot = prop_is_own;
      origin = refl;
      good = subst (λ (f : Format). Is f v) (sym (prop_value scope.numbers scope.root scope at.me)) (proposed_good (c ∷ w) v met now);
    },
    unsaid (before w) (prop_slot scope at.me) (λ u h. none-some u (sym none ∙ prop_said m laws scope session has coins at.me w u met.1 h)),
  ))

  -- what the instance says is as it must be here
  wider : (y : Say) → IsMultiSaid (inner_desk at) y → IsRoundSaid (lists m) at y
  wider y h = record { slot = outer_slot scope y.slot h.slot; origin = h.origin; good = h.good }

  -- and new here where it is new there
  inner_unsaid : (w : List Word) → AreRound (lists m) at w → (y : Say) → IsMultiSaid (inner_desk at) y
      → is_said (all_said inner_says (inner_words scope w)) y.slot ≡ false → is_said (before w) y.slot ≡ false
  inner_unsaid w met y h none =
      unsaid (before w) y.slot (λ v s.
      both_ways _ none
      (has_said (all_said inner_says (inner_words scope w)) (record { slot = y.slot; value = v })
      (inner_said m laws scope session has coins at.me w y.slot v met (of_inner scope y.slot h.slot).takes s)))

  -- so what it newly says is new here
  inner_fresh : (w : List Word) (c : Word) → AreRound (lists m) at (c ∷ w) → AreFresh (IsRoundSaid (lists m) at) (before w) (new_says w c)
  inner_fresh w c met =
      fresh_other (IsMultiSaid (inner_desk at)) (IsRoundSaid (lists m) at) (all_said inner_says (inner_words scope w)) (before w) (new_says w c) wider (inner_unsaid w met.1)
      (fresh_in inner_says (MayMulti m (inner_desk at)) (IsMultiSaid (inner_desk at)) (λ d u n. laws.says_new (inner_desk at) d u session n)
      (new_words w c) (inner_words scope w) (inner_met (c ∷ w) met))

  -- nor is anything that the instance says at the slot of the list
  own_apart : (w : List Word) (c : Word) → AreRound (lists m) at (c ∷ w) → (y : Say) → HasSay (newly (prop_slot scope at.me) (proposed w) (proposed (c ∷ w))) y
      → is_said (new_says w c) y.slot ≡ false
  own_apart w c met y h =
      subst (λ (s : Slot). is_said (new_says w c) s ≡ false) (newly_said (prop_slot scope at.me) (proposed w) (proposed (c ∷ w)) y.slot y.value h).0
      (unsaid (new_says w c) (prop_slot scope at.me) (λ v s.
      let l = (new_said w c (record { slot = prop_slot scope at.me; value = v }) met s).class in
      omega (arith, l)))

  -- and all that a word newly says
  pub says_new : (c : Word) (w : List Word) → AreRound (lists m) at (c ∷ w) → AreFresh (IsRoundSaid (lists m) at) (before w) ((lists m).says at w c)
  says_new c w met =
      fresh_append (IsRoundSaid (lists m) at) (before w) (newly (prop_slot scope at.me) (proposed w) (proposed (c ∷ w))) (new_says w c)
      (own_fresh w c met) (inner_fresh w c met) (own_apart w c met)

-- the laws of a single value
pub list_laws : (m : MultiRules) → MultiLaws m → RoundLaws (lists m)
list_laws m laws = record {
  purpose = refl;
  instance_of = λ a. refl;
  wanted_sorted = λ p v. in_order_sorted (ids_of v);
  says_new = λ at c w session has met. says_new m laws at session has c w met;
  opens_stays = λ at c w s session has met q. opens_stays m laws at session has c w s met q;
  opens_first = λ at s. opens_first m laws at s;
  decision_first = λ at. decision_first m laws at;
  spent_first = λ at. refl;
  decision_asked = λ at v session. decision_asked m laws at v session;
  spent_asked = λ at v session. refl;
  decision_stays = λ at c w v session has met q. decision_stays m laws at session has c w v met q;
  spent_stays = λ at c w session has met q. absurd cc;
  spent_alone = λ at w met q. absurd cc;
  vector_none = λ at w q. refl;
  vector_untried = λ at w off. refl;
  vector_stays = λ at c w x session has met q. absurd cc;
  vector_there = λ at w v tries q. absurd cc;
  vector_is = λ at w x q. absurd cc;
  vector_inside = λ at w v q. absurd cc;
  inside_decided = λ at w v q. decided_inside m laws at w v q;
  inside_bit = λ at w a k session has met. inside_bit m laws at session has w a k met;
  inside_stays = λ at c w x d session has met q. inside_stays m laws at session has c w x d met q;
  inside_first = λ at x. inside_first m laws at x;
  inside_asked = λ at v x session. inside_asked m laws at v x session;
}
