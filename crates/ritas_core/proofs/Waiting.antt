-- Held items wait: none is open or past, and those of a group open and end together.
use Rattle.std.proofs.Common.{◌≡◌, ℕ, ◌+◌, zero, suc, Bool, true, false, not, cond, ◌==◌, ◌&&◌, ◌||◌, nat_lt, ◌≤◌, Option, None, Some, List, [], ◌∷◌, ◌++◌, map, replicate, get_or, set, refl, sym, ◌∙◌, ap, ap₂, subst, inl, inr}
use Rattle.std.specs.Prelude.{nat_le}
use Rattle.std.specs.Option.{is_some}
use Rattle.std.specs.FinMap.{get}
use Rattle.std.specs.List.{AllByRecursion}
use Rattle.std.proofs.lemmas.Bool.{cases_Bool, cond-false, and_parts, and_from, eqb-true, lt-ltb, false_from_ne_true, both_ways}
use Rattle.ritas_base.specs.declared.slot.Slot.{Slot}
use Rattle.ritas_base.specs.declared.mode.FrameVersion.{FrameVersion}
use Rattle.ritas_base.specs.Versions.{has_past}
use Rattle.ritas_base.specs.declared.slot.SlotFault.{SlotFault}
use Rattle.ritas_base.specs.declared.item.Item.{Item}
use Rattle.ritas_base.specs.declared.item.Kind.{Kind}
use Rattle.ritas_base.specs.declared.item.Kind.TheVariants as kinds
use Rattle.ritas_base.specs.declared.mode.Mode.{Mode}
use Rattle.ritas_base.specs.Numbers.{Numbers}
use Rattle.ritas_base.specs.SlotOrder.{is_slot, same_slot}
use Rattle.ritas_base.specs.Slots.{slot_fault}
use Rattle.ritas_base.specs.Messages.{kind_eq}
use Rattle.ritas_base.specs.History.{Call, Take}
use Rattle.frame_codec.specs.Body.{is_of_form}
use Rattle.layer_api.specs.Broadcast.{BroadcastRules}
use Rattle.layer_api.specs.OpeningLaws.{IsNoLater, OpensDown, ReadyByKind}
use Rattle.layer_api.specs.Service.{Seat}
use Rattle.layer_api.specs.Words.{Word}
use Rattle.layer_api.specs.Windows.{command_window, rounds_kept, rounds_ahead, lies_behind, lies_beyond}
use Rattle.ooc_buffers.specs.Lists.{HeldItem, held_of_peer, with_item_held, passing, failing, released, remaining}
use Rattle.ooc_buffers.specs.Groups.{group_of, plain_slot, OpensByGroups, EndsByGroups, AreAllRight}
use Rattle.ooc_buffers.specs.declared.group.Group.{Group}
use Rattle.ritas_core.specs.declared.change.Change.{Change}
use Rattle.ritas_core.specs.declared.change.Change.TheVariants as changes
use Rattle.ritas_core.specs.declared.layers.Layers.{Layers}
use Rattle.ritas_core.specs.declared.route.Route.{Route}
use Rattle.ritas_core.specs.declared.route.Route.TheVariants as routes
use Rattle.ritas_core.specs.Rules.{Rules, rules_by, seat_of, place_at, route_of}
use Rattle.ritas_core.specs.Casts.{called}
use Rattle.ritas_core.specs.CastCalls.{is_ready_in}
use Rattle.ritas_core.specs.Parts.{Parts, Entry, Took, Given, parts, taken_at, heard_at, item_delivers}
use Rattle.ritas_core.specs.Checks.{is_item_past, is_item_ahead, is_open, IsGood, MayEnter}
use Rattle.ritas_core.specs.Stands.{Meaning, rules_of, LayersStand, AreGoodKept, AreGoodLists, Waits, Each, AreWaiting}
use Rattle.ritas_core.specs.LayerCalls.{CanTakeItem, ChangesOnly, is_past_in, is_open_in}
use Rattle.ritas_core.specs.Laws.{LayerLaws}
use Rattle.ritas_core.specs.Waiting.{NonePasses, is_column_at, AreGrouped, AreColumns, AreEnding, MayLeave}
use Rattle.ritas_core.proofs.TestLaws.{left_false, right_false}
use Rattle.ritas_core.proofs.Goodness.{good_remaining}
use Rattle.ritas_core.proofs.HeldSteps.{past_same, open_same}
use Rattle.ritas_core.proofs.GoodSlots.{slot_origin, slot_counts, kind_fits}
use Rattle.ritas_core.proofs.Lookup.{ready_always}

-- ---- what is said of each held item

each_of : (P : Item → Type 0) (held : List (List HeldItem)) (peer : ℕ) → Each P held → AllByRecursion (λ k. P k.item) (get_or held peer [])
each_of P [] peer all = tt
each_of P (kept ∷ held) zero all = all.0
each_of P (kept ∷ held) (suc peer) all = each_of P held peer all.1

each_set : (P : Item → Type 0) (held : List (List HeldItem)) (peer : ℕ) (kept : List HeldItem) → Each P held → AllByRecursion (λ k. P k.item) kept → Each P (set held peer kept)
each_set P [] peer kept all new = tt
each_set P (old ∷ held) zero kept all new = (new, all.1)
each_set P (old ∷ held) (suc peer) kept all new = (all.0, each_set P held peer kept all.1 new)

each_behind : (P : Item → Type 0) (ks : List HeldItem) (k : HeldItem) → AllByRecursion (λ k. P k.item) ks → P k.item → AllByRecursion (λ k. P k.item) (ks ++ k ∷ [])
each_behind P [] k all one = (one, tt)
each_behind P (x ∷ ks) k all one = (all.0, each_behind P ks k all.1 one)

pub each_with : (P : Item → Type 0) (held : List (List HeldItem)) (item : Item) (len : ℕ) → Each P held → P item → Each P (with_item_held held item len)
each_with P held item len all one =
    each_set P held item.from (held_of_peer held item.from ++ record { item = item; len = len } ∷ []) all
    (each_behind P (held_of_peer held item.from) (record { item = item; len = len }) (each_of P held item.from all) one)

pub each_none : (P : Item → Type 0) (n : ℕ) → Each P (replicate n [])
each_none P zero = tt
each_none P (suc n) = (tt, each_none P n)

-- what holds of the good ones that it was said of
kept_good : (r : Rules) (P Q : Item → Type 0) → ((x : Item) → IsGood r x → P x → Q x) → (ks : List HeldItem) → AreGoodKept r ks → AllByRecursion (λ k. P k.item) ks
    → AllByRecursion (λ k. Q k.item) ks
kept_good r P Q from [] good all = tt
kept_good r P Q from (k ∷ ks) good all = (from k.item good.0 all.0, kept_good r P Q from ks good.1 all.1)

pub each_good : (r : Rules) (P Q : Item → Type 0) → ((x : Item) → IsGood r x → P x → Q x) → (held : List (List HeldItem)) → AreGoodLists r held → Each P held → Each Q held
each_good r P Q from [] good all = tt
each_good r P Q from (kept ∷ held) good all = (kept_good r P Q from kept good.0 all.0, each_good r P Q from held good.1 all.1)

kept_all : (r : Rules) (ks : List HeldItem) → AreGoodKept r ks → AllByRecursion (λ k. IsGood r k.item) ks
kept_all r [] good = tt
kept_all r (k ∷ ks) good = (good.0, kept_all r ks good.1)

pub each_is_good : (r : Rules) (held : List (List HeldItem)) → AreGoodLists r held → Each (IsGood r) held
each_is_good r [] good = tt
each_is_good r (kept ∷ held) good = (kept_all r kept good.0, each_is_good r held good.1)

-- ---- none passes

fails_if : (t : Item → Bool) (k : HeldItem) (ks : List HeldItem) (b : Bool) → t k.item ≡ b → AllByRecursion (λ k. t k.item ≡ false) ks
    → AllByRecursion (λ k. t k.item ≡ false) (cond (not b) (k ∷ ks) ks)
fails_if t k ks true is rest = rest
fails_if t k ks false is rest = (is, rest)

kept_fails : (t : Item → Bool) (ks : List HeldItem) → AllByRecursion (λ k. t k.item ≡ false) (failing t ks)
kept_fails t [] = tt
kept_fails t (k ∷ ks) = fails_if t k (failing t ks) (t k.item) refl (kept_fails t ks)

-- none passes of those that failed
pub each_fails : (t : Item → Bool) (held : List (List HeldItem)) → Each (λ x. t x ≡ false) (remaining t held)
each_fails t [] = tt
each_fails t (kept ∷ held) = (kept_fails t kept, each_fails t held)

none_kept : (t : Item → Bool) (ks : List HeldItem) → AllByRecursion (λ k. t k.item ≡ false) ks → (passing t ks ≡ []) × (failing t ks ≡ ks)
none_kept t [] all = (refl, refl)
none_kept t (k ∷ ks) all =
    let rest = none_kept t ks all.1 in (
      cond-false (t k.item) (k ∷ passing t ks) (passing t ks) all.0 ∙ rest.0,
      ap (λ (b : Bool). cond (not b) (k ∷ failing t ks) (failing t ks)) all.0 ∙ ap (λ (l : List HeldItem). k ∷ l) rest.1,
    )

pub none_passes : (t : Item → Bool) (held : List (List HeldItem)) → Each (λ x. t x ≡ false) held → NonePasses t held
none_passes t [] all = record { none = refl; same = refl }
none_passes t (kept ∷ held) all =
    let first = none_kept t kept all.0 in
    let rest = none_passes t held all.1 in
    record {
      none = ap (λ (l : List HeldItem). map (λ k. k.item) l ++ released t held) first.0 ∙ rest.none;
      same = ap₂ (λ (l : List HeldItem) (ls : List (List HeldItem)). l ∷ ls) first.1 rest.same;
    }

-- ---- two tests agree

kept_agree : (t u : Item → Bool) (ks : List HeldItem) → AllByRecursion (λ k. t k.item ≡ u k.item) ks → (passing t ks ≡ passing u ks) × (failing t ks ≡ failing u ks)
kept_agree t u [] all = (refl, refl)
kept_agree t u (k ∷ ks) all =
    let rest = kept_agree t u ks all.1 in (
      ap₂ (λ (b : Bool) (l : List HeldItem). cond b (k ∷ l) l) all.0 rest.0,
      ap₂ (λ (b : Bool) (l : List HeldItem). cond (not b) (k ∷ l) l) all.0 rest.1,
    )

each_agree : (t u : Item → Bool) (held : List (List HeldItem)) → Each (λ x. t x ≡ u x) held → (released t held ≡ released u held) × (remaining t held ≡ remaining u held)
each_agree t u [] all = (refl, refl)
each_agree t u (kept ∷ held) all =
    let first = kept_agree t u kept all.0 in
    let rest = each_agree t u held all.1 in (
      ap₂ (λ (l : List HeldItem) (ls : List Item). map (λ k. k.item) l ++ ls) first.0 rest.0,
      ap₂ (λ (l : List HeldItem) (ls : List (List HeldItem)). l ∷ ls) first.1 rest.1,
    )

-- a test that asks first what each that passes has
abbrev pub both : (Item → Bool) → (Item → Bool) → Item → Bool
both first t x = first x && t x

has_both : (a b : Bool) → (b ≡ true → a ≡ true) → (a && b) ≡ b
has_both true b from = refl
has_both false true from = from refl
has_both false false from = refl

kept_both : (first t : Item → Bool) (ks : List HeldItem) → AllByRecursion (λ k. t k.item ≡ true → first k.item ≡ true) ks → AllByRecursion (λ k. both first t k.item ≡ t k.item) ks
kept_both first t [] all = tt
kept_both first t (k ∷ ks) all = (has_both (first k.item) (t k.item) all.0, kept_both first t ks all.1)

each_both : (first t : Item → Bool) (held : List (List HeldItem)) → Each (λ x. t x ≡ true → first x ≡ true) held → Each (λ x. both first t x ≡ t x) held
each_both first t [] all = tt
each_both first t (kept ∷ held) all = (kept_both first t kept all.0, each_both first t held all.1)

pub both_same : (first t : Item → Bool) (held : List (List HeldItem)) → Each (λ x. t x ≡ true → first x ≡ true) held
    → (released (both first t) held ≡ released t held) × (remaining (both first t) held ≡ remaining t held)
both_same first t held all = each_agree (both first t) t held (each_both first t held all)

-- ---- an item that is taken quietly

column_form : (form : ℕ) (k : Kind) → kind_eq k kinds.Column ≡ true → is_of_form form k ≡ true → form ≡ 2
column_form form kinds.Init is has = absurd (cc)
column_form form kinds.Echo is has = absurd (cc)
column_form form kinds.Ready is has = absurd (cc)
column_form form kinds.Send is has = absurd (cc)
column_form form kinds.Hashes is has = absurd (cc)
column_form form kinds.Column is has = eqb-true form 2 has
column_form form kinds.Want is has = absurd (cc)
column_form form kinds.Value is has = absurd (cc)

module _ (r : Rules) (laws : LayerLaws r) (p : Parts) (item x : Item) (good : IsGood r item) (held : IsGood r x) where
  no_column : is_of_form 2 item.kind ≡ false → item.slot ≡ x.slot → kind_eq x.kind kinds.Column ≡ true → ⊥
  no_column other same column =
      let its = kind_fits r laws x held.in_grammar in
      let form : (r.casts.at_slot x.slot).form ≡ 2 = column_form (r.casts.at_slot x.slot).form x.kind column its in
      let mine : is_of_form (r.casts.at_slot x.slot).form item.kind ≡ true =
      subst (λ (s : Slot). is_of_form (r.casts.at_slot s).form item.kind ≡ true) same (kind_fits r laws item good.in_grammar) in
      both_ways (is_of_form 2 item.kind) other (subst (λ (n : ℕ). is_of_form n item.kind ≡ true) form mine)

  -- only columns of its slot become ready by it
  ready_elsewhere : is_column_at item.slot x ≡ false →
      (r.casts.at_slot x.slot).ready (place_at r.casts x.slot) r.casts.tags (called p.calls item.slot (Take item) x.slot) x
      ≡ (r.casts.at_slot x.slot).ready (place_at r.casts x.slot) r.casts.tags (p.calls x.slot) x
  ready_elsewhere elsewhere =
      let here = r.casts.at_slot x.slot in
      let at = place_at r.casts x.slot in
      let fits = kind_fits r laws x held.in_grammar in
      elim (cases_Bool (is_slot item.slot x.slot)) [
        | inl same ↦
            let plain : kind_eq x.kind kinds.Column ≡ false =
            false_from_ne_true (kind_eq x.kind kinds.Column) (λ column. both_ways (is_column_at item.slot x) elsewhere (and_from (kind_eq x.kind kinds.Column) _ column same)) in
            ready_always here (laws.casts x.slot) at r.casts.tags (called p.calls item.slot (Take item) x.slot) x fits plain
            ∙ sym (ready_always here (laws.casts x.slot) at r.casts.tags (p.calls x.slot) x fits plain)
        | inr apart ↦ ap (λ (h : List Call). here.ready at r.casts.tags h x) (cond-false (is_slot item.slot x.slot) (Take item ∷ p.calls x.slot) (p.calls x.slot) apart)
      ]

  pub open_elsewhere : is_column_at item.slot x ≡ false → is_open r (taken_at item p) x ≡ is_open r p x
  open_elsewhere elsewhere =
      ap (λ (b : Bool). not (is_item_past r p x) && (not (is_item_ahead r p x) && (r.service.opens (seat_of r) p.words x.slot && b))) (ready_elsewhere elsewhere)

  -- and none where its slot has no columns
  pub open_as_before : is_of_form 2 item.kind ≡ false → is_open r (taken_at item p) x ≡ is_open r p x
  open_as_before other =
      open_elsewhere (false_from_ne_true (is_column_at item.slot x) (λ at.
      let parts = and_parts (kind_eq x.kind kinds.Column) (is_slot item.slot x.slot) at in
      no_column other (same_slot item.slot x.slot parts.1) parts.0))

-- ---- groups

-- a slot in the grammar
abbrev pub is_right : Numbers → Mode → Slot → Bool
is_right n mode s = not (is_some (slot_fault n mode s))

right_slot : (o : Option SlotFault) → not (is_some o) ≡ true → o ≡ None
right_slot None right = refl
right_slot (Some x) right = absurd (cc)

column_is : (k : Kind) → kind_eq k kinds.Column ≡ true → k ≡ kinds.Column
column_is kinds.Init is = absurd (cc)
column_is kinds.Echo is = absurd (cc)
column_is kinds.Ready is = absurd (cc)
column_is kinds.Send is = absurd (cc)
column_is kinds.Hashes is = absurd (cc)
column_is kinds.Column is = refl
column_is kinds.Want is = absurd (cc)
column_is kinds.Value is = absurd (cc)

-- of one group are columns of one slot, or other items whose slots are so far the same
slot_by : (x : Item) (b : Bool) → kind_eq x.kind kinds.Column ≡ b → (group_of x).slot ≡ cond b x.slot (plain_slot x.slot)
slot_by x b is = ap (λ (c : Bool). cond c x.slot (plain_slot x.slot)) is

-- where a test opens by groups, so it does of the columns of one slot
pub columns_by_groups : (slot : Slot) (right : Slot → Bool) (t : Item → Bool) → OpensByGroups right t → OpensByGroups right (both (is_column_at slot) t)
columns_by_groups slot right t opens x y fine other same low passes =
    let its = and_parts (is_column_at slot y) (t y) passes in
    let at = and_parts (kind_eq y.kind kinds.Column) (is_slot slot y.slot) its.0 in
    let column : kind_eq x.kind kinds.Column ≡ true = ap (λ (g : Group). g.is_column) same ∙ at.0 in
    let slots : x.slot ≡ y.slot = sym (slot_by x true column) ∙ (ap (λ (g : Group). g.slot) same ∙ slot_by y true at.0) in
    and_from (is_column_at slot x) (t x)
    (and_from (kind_eq x.kind kinds.Column) (is_slot slot x.slot) column (ap (is_slot slot) slots ∙ at.1))
    (opens x y fine other same low its.1)

by_origin : (g : ℕ → Bool) (k b : Bool) (o o' : ℕ) → cond b o 0 ≡ cond b o' 0 → cond b (g o) k ≡ cond b (g o') k
by_origin g k true o o' e = ap g e
by_origin g k false o o' e = refl

origins : (s q : Slot) → plain_slot s ≡ plain_slot q → cond (q.class == 1) s.origin 0 ≡ cond (q.class == 1) q.origin 0
origins s q e = ap (λ (c : ℕ). cond (c == 1) s.origin 0) (sym (ap (λ (z : Slot). z.class) e)) ∙ ap (λ (z : Slot). z.origin) e

behind_same : (version : FrameVersion) (base : ℕ → ℕ) (done : ℕ) (s q : Slot) → plain_slot s ≡ plain_slot q
    → lies_behind version s (base s.origin) done ≡ lies_behind version q (base q.origin) done
behind_same version base done s q e =
    ap (λ (b : Bool). has_past version && b)
    (ap₂ (λ (c a : ℕ). cond (c == 1) (nat_lt (a + command_window) (base s.origin)) (nat_lt (a + rounds_kept) done)) (ap (λ (z : Slot). z.class) e) (ap (λ (z : Slot). z.a) e)
    ∙ by_origin (λ o. nat_lt (q.a + command_window) (base o)) (nat_lt (q.a + rounds_kept) done) (q.class == 1) s.origin q.origin (origins s q e))

beyond_same : (base : ℕ → ℕ) (done : ℕ) (s q : Slot) → plain_slot s ≡ plain_slot q → lies_beyond s (base s.origin) done ≡ lies_beyond q (base q.origin) done
beyond_same base done s q e =
    ap₂ (λ (c a : ℕ). cond (c == 1) (nat_le (base s.origin + command_window) a) (nat_lt (done + rounds_ahead) a)) (ap (λ (z : Slot). z.class) e) (ap (λ (z : Slot). z.a) e)
    ∙ by_origin (λ o. nat_le (base o + command_window) q.a) (nat_lt (done + rounds_ahead) q.a) (q.class == 1) s.origin q.origin (origins s q e)

by_route : (other : BroadcastRules) → ReadyByKind other → (route : Route) → ReadyByKind (rules_by route other)
by_route other by_kind routes.Values = λ at tags h x y same. refl
by_route other by_kind routes.Digests = λ at tags h x y same. refl
by_route other by_kind routes.Other = by_kind

module _ {S E C T : Type 0} (m : Meaning S E C T) (down : (seat : Seat) (w : List Word) → OpensDown (m.service.opens seat w)) (by_kind : ReadyByKind m.cast)
    (layers : Layers S E C T) (p : Parts) where
  abbrev pub right : Slot → Bool
  right = is_right layers.params layers.mode

  in_grammar : (x : Item) → right x.slot ≡ true → slot_fault layers.params layers.mode x.slot ≡ None
  in_grammar x fine = right_slot (slot_fault layers.params layers.mode x.slot) fine

  own_origin : (x : Item) → right x.slot ≡ true → nat_lt x.slot.origin layers.params.n ≡ true
  own_origin x fine = lt-ltb x.slot.origin layers.params.n (slot_origin layers.params layers.mode x.slot (in_grammar x fine))

  -- whether it is open, by its slot and by whether its broadcast can take it
  by_slot : Slot → Bool → Bool
  by_slot s b =
      let r = rules_of m layers in
      let seat = seat_of r in
      nat_lt s.origin layers.params.n
      && (not (lies_behind seat.mode.version s (m.service.base seat p.words s.origin) (m.service.completed seat p.words))
      && (not (lies_beyond s (m.service.base seat p.words s.origin) (m.service.completed seat p.words)) && (m.service.opens seat p.words s && b)))

  -- columns of one slot open together
  columns_open : (x y : Item) → kind_eq x.kind kinds.Column ≡ true → kind_eq y.kind kinds.Column ≡ true → x.slot ≡ y.slot → is_open_in m layers p x ≡ is_open_in m layers p y
  unfolding by_slot
  columns_open x y one other same =
      let c = (rules_of m layers).casts in
      let kind : x.kind ≡ y.kind = column_is x.kind one ∙ sym (column_is y.kind other) in
      let ready : is_ready_in c layers.casts p.calls x ≡ is_ready_in c layers.casts p.calls y =
      ap (λ (b : Bool). not b || (is_some (get layers.casts x.slot) && (c.at_slot x.slot).ready (place_at c x.slot) c.tags (p.calls x.slot) x)) (one ∙ sym other)
      ∙ (ap (λ (s : Slot). not (kind_eq y.kind kinds.Column) || (is_some (get layers.casts s) && (c.at_slot s).ready (place_at c s) c.tags (p.calls s) x)) same
      ∙ ap (λ (b : Bool). not (kind_eq y.kind kinds.Column) || (is_some (get layers.casts y.slot) && b))
      (by_route m.cast by_kind (route_of layers.mode y.slot) (place_at c y.slot) c.tags (p.calls y.slot) x y kind)) in
      ap₂ by_slot same ready

  -- and others where none is later
  plain_opens : (x y : Item) → right x.slot ≡ true → kind_eq x.kind kinds.Column ≡ false → plain_slot x.slot ≡ plain_slot y.slot → x.slot.bround ≤ y.slot.bround
      → is_open_in m layers p y ≡ true → is_open_in m layers p x ≡ true
  plain_opens x y fine plain same low opened =
      let r = rules_of m layers in
      let seat = seat_of r in
      let base = m.service.base seat p.words in
      let done = m.service.completed seat p.words in
      let c = r.casts in
      let counts = slot_counts layers.params layers.mode x.slot (in_grammar x fine) in
      let a = (and_parts (nat_lt y.slot.origin layers.params.n) _ opened).1 in
      let b = and_parts (not (lies_behind seat.mode.version y.slot (base y.slot.origin) done)) _ a in
      let d = and_parts (not (lies_beyond y.slot (base y.slot.origin) done)) _ b.1 in
      let e = and_parts (m.service.opens seat p.words y.slot) _ d.1 in
      let near : IsNoLater x.slot y.slot = record {
        class = ap (λ (z : Slot). z.class) same;
        number = ap (λ (z : Slot). z.a) same;
        attempt = ap (λ (z : Slot). z.attempt) same;
        bround = low;
        round = counts.0;
        step = counts.1;
      } in
      and_from (nat_lt x.slot.origin layers.params.n) _ (own_origin x fine)
      (and_from (not (lies_behind seat.mode.version x.slot (base x.slot.origin) done)) _ (ap not (behind_same seat.mode.version base done x.slot y.slot same) ∙ b.0)
      (and_from (not (lies_beyond x.slot (base x.slot.origin) done)) _ (ap not (beyond_same base done x.slot y.slot same) ∙ d.0)
      (and_from (m.service.opens seat p.words x.slot) _ (down seat p.words x.slot y.slot near e.0)
      (ap (λ (b : Bool). not b || (is_some (get layers.casts x.slot) && (c.at_slot x.slot).ready (place_at c x.slot) c.tags (p.calls x.slot) x)) plain))))

  pub opens_by_groups : OpensByGroups right (is_open_in m layers p)
  opens_by_groups x y fine other same low opened =
      let kinds_same : kind_eq x.kind kinds.Column ≡ kind_eq y.kind kinds.Column = ap (λ (g : Group). g.is_column) same in
      let slots = ap (λ (g : Group). g.slot) same in
      elim (cases_Bool (kind_eq x.kind kinds.Column)) [
        | inl column ↦
            let its = sym kinds_same ∙ column in
            columns_open x y column its (sym (slot_by x true column) ∙ (slots ∙ slot_by y true its)) ∙ opened
        | inr plain ↦
            plain_opens x y fine plain (sym (slot_by x false plain) ∙ (slots ∙ slot_by y false (sym kinds_same ∙ plain))) low opened
      ]

  pub ends_by_groups : EndsByGroups right (λ x. is_past_in m layers p x.slot)
  ends_by_groups x y fine other same past =
      let seat = seat_of (rules_of m layers) in
      let kinds_same : kind_eq x.kind kinds.Column ≡ kind_eq y.kind kinds.Column = ap (λ (g : Group). g.is_column) same in
      let slots = ap (λ (g : Group). g.slot) same in
      elim (cases_Bool (kind_eq x.kind kinds.Column)) [
        | inl column ↦
            ap (is_past_in m layers p) (sym (slot_by x true column) ∙ (slots ∙ slot_by y true (sym kinds_same ∙ column))) ∙ past
        | inr plain ↦
            and_from (nat_lt x.slot.origin layers.params.n) _ (own_origin x fine)
            (behind_same seat.mode.version (m.service.base seat p.words) (m.service.completed seat p.words) x.slot y.slot
            (sym (slot_by x false plain) ∙ (slots ∙ slot_by y false (sym kinds_same ∙ plain)))
            ∙ (and_parts (nat_lt y.slot.origin layers.params.n) _ past).1)
      ]

  all_right : (held : List (List HeldItem)) → AreGoodLists (rules_of m layers) held → AreAllRight right held
  all_right held good =
      each_good (rules_of m layers) (IsGood (rules_of m layers)) (λ x. right x.slot ≡ true) (λ x one _. ap (λ (o : Option SlotFault). not (is_some o)) one.in_grammar.slot) held good
      (each_is_good (rules_of m layers) held good)

  pub grouped : (held : List (List HeldItem)) → AreGoodLists (rules_of m layers) held → AreGrouped (is_open_in m layers p) held
  grouped held good = record { right = right; opens = opens_by_groups; all = all_right held good }

  pub ending : (held : List (List HeldItem)) → AreGoodLists (rules_of m layers) held → AreEnding (λ x. is_past_in m layers p x.slot) held
  ending held good = record { right = right; ends = ends_by_groups; all = all_right held good }

-- ---- what may leave after an entry

-- the laws of opening
pub record OpensWell {S E C T : Type 0} (m : Meaning S E C T) : Type 0 where
  pub down : (seat : Seat) (w : List Word) → OpensDown (m.service.opens seat w)
  pub by_kind : ReadyByKind m.cast

-- the item's slot delivers nothing by it
abbrev DeliversNoneAt : Rules → Parts → Item → Type 0
DeliversNoneAt r p item = item_delivers r item p ≡ None

-- an entry changed only so much
abbrev pub HeldChange : Change → Entry → Rules → Parts → Type 0
HeldChange changes.Service e r p = Unit {0}
HeldChange (changes.Columns slot) (Took item) r p = DeliversNoneAt r p item × (slot ≡ item.slot)
HeldChange (changes.Columns slot) (Given v) r p = ⊥
HeldChange changes.Cast (Took item) r p = DeliversNoneAt r p item × (is_of_form 2 item.kind ≡ false)
HeldChange changes.Cast (Given v) r p = ⊥

pub held_by : {S E C T : Type 0} (m : Meaning S E C T) (layers : Layers S E C T) (item : Item) (change : Change) (p : Parts) → CanTakeItem m layers item p
    → ChangesOnly m layers item change → HeldChange change (Took item) (rules_of m layers) p
held_by m layers item changes.Service p can only = tt
held_by m layers item (changes.Columns slot) p can only = (only.0 p can, only.1)
held_by m layers item changes.Cast p can only = (only.0 p can, only.1)

left_if : (P : Item → Type 0) (k : HeldItem) (ks : List HeldItem) (b : Bool) → P k.item → AllByRecursion (λ k. P k.item) ks → AllByRecursion (λ k. P k.item) (cond (not b) (k ∷ ks) ks)
left_if P k ks true one all = all
left_if P k ks false one all = (one, all)

kept_left : (P : Item → Type 0) (t : Item → Bool) (ks : List HeldItem) → AllByRecursion (λ k. P k.item) ks → AllByRecursion (λ k. P k.item) (failing t ks)
kept_left P t [] all = tt
kept_left P t (k ∷ ks) all = left_if P k (failing t ks) (t k.item) all.0 (kept_left P t ks all.1)

each_left : (P : Item → Type 0) (t : Item → Bool) (held : List (List HeldItem)) → Each P held → Each P (remaining t held)
each_left P t [] all = tt
each_left P t (kept ∷ held) all = (kept_left P t kept all.0, each_left P t held all.1)

module _ {S E C T : Type 0} (m : Meaning S E C T) (opening : OpensWell m) (layers : Layers S E C T) (laws : LayerLaws (rules_of m layers)) (h : List Entry) where
  -- what an item that delivers nothing leaves the service with
  quiet_parts : (item : Item) → DeliversNoneAt (rules_of m layers) (parts (rules_of m layers) h) item →
      parts (rules_of m layers) (Took item ∷ h) ≡ taken_at item (parts (rules_of m layers) h)
  quiet_parts item quiet =
      let r = rules_of m layers in
      ap (λ (d : Option (List ℕ)). heard_at r item.slot d (taken_at item (parts r h))) quiet

  module _ (held : List (List HeldItem)) (good : AreGoodLists (rules_of m layers) held)
      (waiting : AreWaiting (rules_of m layers) (parts (rules_of m layers) h) held) where
    past_none : (item : Item) → DeliversNoneAt (rules_of m layers) (parts (rules_of m layers) h) item →
        LayersStand m layers (parts (rules_of m layers) (Took item ∷ h)) →
        NonePasses (λ x. is_past_in m layers (parts (rules_of m layers) (Took item ∷ h)) x.slot)
        (remaining (is_open_in m layers (parts (rules_of m layers) (Took item ∷ h))) held)
    past_none item quiet stood =
        let r = rules_of m layers in
        let p = parts r (Took item ∷ h) in
        let past = λ (x : Item). is_past_in m layers p x.slot in
        let fails : Each (λ x. past x ≡ false) held =
        each_good r (Waits r (parts r h)) (λ x. past x ≡ false) (λ x one waits.
        past_same m layers laws p stood x one
        ∙ (ap (λ (q : Parts). is_item_past r q x) (quiet_parts item quiet) ∙ right_false (is_open r (parts r h) x) (is_item_past r (parts r h) x) waits)) held good waiting in
        none_passes past (remaining (is_open_in m layers p) held) (each_left (λ x. past x ≡ false) (is_open_in m layers p) held fails)

    open_none : (item : Item) → IsGood (rules_of m layers) item → DeliversNoneAt (rules_of m layers) (parts (rules_of m layers) h) item →
        is_of_form 2 item.kind ≡ false → LayersStand m layers (parts (rules_of m layers) (Took item ∷ h)) →
        NonePasses (is_open_in m layers (parts (rules_of m layers) (Took item ∷ h))) held
    open_none item fine quiet other stood =
        let r = rules_of m layers in
        let p = parts r (Took item ∷ h) in
        none_passes (is_open_in m layers p) held
        (each_good r (Waits r (parts r h)) (λ x. is_open_in m layers p x ≡ false) (λ x one waits.
        open_same m layers laws p stood x one
        ∙ (ap (λ (q : Parts). is_open r q x) (quiet_parts item quiet)
        ∙ (open_as_before r laws (parts r h) item x fine one other ∙ left_false (is_open r (parts r h) x) (is_item_past r (parts r h) x) waits))) held good waiting)

    columns_only : (item : Item) (slot : Slot) → IsGood (rules_of m layers) item → DeliversNoneAt (rules_of m layers) (parts (rules_of m layers) h) item → slot ≡ item.slot →
        LayersStand m layers (parts (rules_of m layers) (Took item ∷ h)) →
        Each (λ x. is_open_in m layers (parts (rules_of m layers) (Took item ∷ h)) x ≡ true → is_column_at slot x ≡ true) held
    columns_only item slot fine quiet at stood =
        let r = rules_of m layers in
        let p = parts r (Took item ∷ h) in
        each_good r (Waits r (parts r h)) (λ x. is_open_in m layers p x ≡ true → is_column_at slot x ≡ true) (λ x one waits opened.
        elim (cases_Bool (is_column_at slot x)) [
          | inl column ↦ column
          | inr elsewhere ↦
              let fails : is_open_in m layers p x ≡ false =
              open_same m layers laws p stood x one
              ∙ (ap (λ (q : Parts). is_open r q x) (quiet_parts item quiet)
              ∙ (open_elsewhere r laws (parts r h) item x fine one (sym (ap (λ (s : Slot). is_column_at s x) at) ∙ elsewhere)
              ∙ left_false (is_open r (parts r h) x) (is_item_past r (parts r h) x) waits)) in
              absurd (both_ways (is_open_in m layers p x) fails opened)
        ]) held good waiting

    leave_so : (e : Entry) (change : Change) → MayEnter (rules_of m layers) (parts (rules_of m layers) h) e → HeldChange change e (rules_of m layers) (parts (rules_of m layers) h) →
        LayersStand m layers (parts (rules_of m layers) (e ∷ h)) → MayLeave m change layers (parts (rules_of m layers) (e ∷ h)) held
    leave_so e changes.Service may only stood =
        let r = rules_of m layers in
        let p = parts r (e ∷ h) in
        record {
          opens = grouped m opening.down opening.by_kind layers p held good;
          ends = ending m opening.down opening.by_kind layers p (remaining (is_open_in m layers p) held) (good_remaining r (is_open_in m layers p) held good);
        }
    leave_so (Took item) (changes.Columns slot) may only stood = record {
      opens = record {
        grouped = grouped m opening.down opening.by_kind layers (parts (rules_of m layers) (Took item ∷ h)) held good;
        columns = columns_only item slot may.good only.0 only.1 stood;
      };
      ends = past_none item only.0 stood;
    }
    leave_so (Took item) changes.Cast may only stood = record {
      opens = open_none item may.good only.0 only.1 stood;
      ends = past_none item only.0 stood;
    }
    leave_so (Given v) (changes.Columns slot) may only stood = absurd only
    leave_so (Given v) changes.Cast may only stood = absurd only

pub may_leave : {S E C T : Type 0} (m : Meaning S E C T) → OpensWell m → (layers : Layers S E C T) → LayerLaws (rules_of m layers) → (h : List Entry) (e : Entry) (change : Change)
    → MayEnter (rules_of m layers) (parts (rules_of m layers) h) e → HeldChange change e (rules_of m layers) (parts (rules_of m layers) h)
    → LayersStand m layers (parts (rules_of m layers) (e ∷ h)) → (held : List (List HeldItem)) → AreGoodLists (rules_of m layers) held
    → AreWaiting (rules_of m layers) (parts (rules_of m layers) h) held → MayLeave m change layers (parts (rules_of m layers) (e ∷ h)) held
may_leave m opening layers laws h e change may only stood held good waiting = leave_so m opening layers laws h held good waiting e change may only stood
