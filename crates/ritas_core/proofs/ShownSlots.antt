-- What a slot shows as delivered, by one of two histories, of which the later has at most one entry more.
use Rattle.std.proofs.Common.{◌≡◌, ℕ, ◌+◌, Bool, true, false, cond, ◌&&◌, Option, Some, None, List, ◌∷◌, ◌⊎◌, inl, inr, refl, sym, ◌∙◌, ap, subst, arith}
use Rattle.std.specs.Option.{is_some, option_or}
use Rattle.std.proofs.Math.Dec.{eqb, leb, ltb}
use Rattle.std.proofs.lemmas.Bool.{both_ways, ltb-false, ltb-true}
use Rattle.ritas_base.specs.declared.slot.Slot.{Slot}
use Rattle.ritas_base.specs.Versions.{has_past}
use Rattle.ritas_base.specs.SlotOrder.{is_slot, same_slot}
use Rattle.ritas_base.specs.Shortest.{option_or_none}
use Rattle.layer_api.specs.Service.{ServiceRules, Seat, WordLaws, AreProper, is_past}
use Rattle.layer_api.specs.Words.{Word, Ask, Hear, value_at}
use Rattle.layer_api.specs.ServiceCalls.{ShowsBetween, ServiceShown}
use Rattle.ritas_core.specs.Rules.{Rules, seat_of}
use Rattle.ritas_core.specs.Parts.{Entry, Took, Given, Parts, parts, heard_at, taken_at, item_delivers}
use Rattle.ritas_core.specs.Checks.{IsHistory}
use Rattle.ritas_core.specs.Laws.{LayerLaws}
use Rattle.ritas_core.specs.HeardLaws.{heard_delivered}
use Rattle.ritas_core.specs.Machine.{with_entry}
use Rattle.layer_api.specs.Windows.{is_behind}
use Rattle.ritas_core.specs.Drops.{mark_shown, is_past_shown, hides_shown}
use Rattle.ritas_core.specs.Shown.{delivered_at, is_hidden, shown_at}
use Rattle.ritas_core.proofs.TestLaws.{and_false}
use Rattle.ritas_core.proofs.Conditions.{words_proper}
use Rattle.ritas_core.proofs.GoodSlots.{slot_origin}
use Rattle.ritas_core.proofs.Lookup.{was_not_past}
use Rattle.ritas_core.proofs.Window.{delivered_right}

-- ---- one word more

-- of two lists of words: where a slot is past by the later, both have one value there, and else it isn't past by the first
record Widens (r : ServiceRules) (seat : Seat) (w : List Word) (s : Slot) (later : List Word) : Type 0 where
  same : is_past r seat later s ≡ true → value_at later s ≡ value_at w s
  near : is_past r seat later s ≡ false → is_past r seat w s ≡ false

widens_itself : (r : ServiceRules) (seat : Seat) (w : List Word) (s : Slot) → Widens r seat w s w
widens_itself r seat w s = record { same = λ past. refl; near = λ near. near }

-- a slot that is past afterwards was not heard by it
module _ (r : ServiceRules) (laws : WordLaws r) (seat : Seat) (w : List Word) (s : Slot) where
  past_same : (c : Word) → AreProper r seat (c ∷ w) → is_past r seat (c ∷ w) s ≡ true → value_at (c ∷ w) s ≡ value_at w s
  past_same (Ask v) proper past = refl
  past_same (Hear q v) proper past = go (is_slot q s) refl
    where
      go : (b : Bool) → is_slot q s ≡ b → option_or (value_at w s) (cond b (Some v) None) ≡ value_at w s
      go true here =
          let near = subst (λ (x : Slot). is_past r seat (Hear q v ∷ w) x ≡ false) (same_slot q s here) (laws.heard_recent seat q v w proper) in
          absurd (both_ways _ near past)
      go false here = option_or_none (value_at w s)

  widens : (c : Word) → AreProper r seat (c ∷ w) → Widens r seat w s (c ∷ w)
  widens c proper = record { same = past_same c proper; near = was_not_past r laws seat c w proper s }

-- ---- one entry more
abbrev WidensTo : Rules → Slot → Parts → Parts → Type 0
WidensTo r s p later = Widens r.service (seat_of r) p.words s later.words

widens_heard : (r : Rules) → LayerLaws r → (s q : Slot) (d : Option (List ℕ)) (p : Parts) → AreProper r.service (seat_of r) (heard_at r q d p).words →
    WidensTo r s p (heard_at r q d p)
widens_heard r laws s q None p proper = widens_itself r.service (seat_of r) p.words s
widens_heard r laws s q (Some v) p proper = widens r.service laws.words (seat_of r) p.words s (Hear q v) proper

widens_entry : (r : Rules) → LayerLaws r → (s : Slot) (e : Entry) (h : List Entry) → IsHistory r (e ∷ h) → WidensTo r s (parts r h) (parts r (e ∷ h))
widens_entry r laws s (Took item) h met =
    widens_heard r laws s item.slot (item_delivers r item (parts r h)) (taken_at item (parts r h)) (words_proper r laws (Took item ∷ h) met)
widens_entry r laws s (Given v) h met =
    widens r.service laws.words (seat_of r) (parts r h).words s (Ask v) (words_proper r laws (Given v ∷ h) met)

widens_lost : (r : Rules) → LayerLaws r → (s : Slot) (o : Option Entry) (h : List Entry) → IsHistory r (with_entry o h) →
    WidensTo r s (parts r h) (parts r (with_entry o h))
widens_lost r laws s None h met = widens_itself r.service (seat_of r) (parts r h).words s
widens_lost r laws s (Some e) h met = widens_entry r laws s e h met

-- ---- what is shown, where each getter is by the one or by the other
abbrev ShownBy : Bool → Bool → Option (List ℕ) → Option (List ℕ)
ShownBy high past d = cond (high && past) None d

between : (high before after past : Bool) (was now d : Option (List ℕ)) → (after ≡ true → now ≡ was) → (after ≡ false → before ≡ false) →
    (past ≡ before) ⊎ (past ≡ after) → ((high && past) ≡ false → (d ≡ was) ⊎ (d ≡ now)) → (ShownBy high past d ≡ ShownBy high before was) ⊎ (ShownBy high past d ≡ ShownBy high after now)
between false before after past was now d same near hid out = out refl
between true true false past was now d same near hid out = let wrong = near refl in absurd (cc)
between true true true past was now d same near hid out = inl (ap (λ (b : Bool). cond b None d) (elim hid [ inl e ↦ e | inr e ↦ e ]))
between true false false past was now d same near hid out =
    let e : past ≡ false = elim hid [ inl e ↦ e | inr e ↦ e ] in
    let is = ap (λ (b : Bool). cond b None d) e in
    elim (out e) [ inl q ↦ inl (is ∙ q) | inr q ↦ inr (is ∙ q) ]
between true false true past was now d same near hid out =
    elim hid [
      | inl e ↦ inl (ap (λ (b : Bool). cond b None d) e ∙ elim (out e) [ inl q ↦ q | inr q ↦ q ∙ same refl ])
      | inr e ↦ inr (ap (λ (b : Bool). cond b None d) e)
    ]

-- a slot is past by the getters where it is by the one or by the other
pub past_either : (has one : Bool) (a base completed base_before base_after completed_before completed_after : ℕ) →
    (base ≡ base_before) ⊎ (base ≡ base_after) → (completed ≡ completed_before) ⊎ (completed ≡ completed_after) →
    ((has && cond one (ltb (a + 64) (cond one base completed)) (ltb (a + 2) (cond one base completed))) ≡ (has && cond one (ltb (a + 64) base_before) (ltb (a + 2) completed_before)))
    ⊎ ((has && cond one (ltb (a + 64) (cond one base completed)) (ltb (a + 2) (cond one base completed))) ≡ (has && cond one (ltb (a + 64) base_after) (ltb (a + 2) completed_after)))
past_either has true a base completed b b' c c' bases rounds =
    elim bases [ inl e ↦ inl (ap (λ (k : ℕ). has && ltb (a + 64) k) e) | inr e ↦ inr (ap (λ (k : ℕ). has && ltb (a + 64) k) e) ]
past_either has false a base completed b b' c c' bases rounds =
    elim rounds [ inl e ↦ inl (ap (λ (k : ℕ). has && ltb (a + 2) k) e) | inr e ↦ inr (ap (λ (k : ℕ). has && ltb (a + 2) k) e) ]

-- nothing has delivered of an origin that isn't a replica
none_from : (o : Option (List ℕ)) → (is_some o ≡ true → ⊥) → o ≡ None
none_from None never = refl
none_from (Some v) never = absurd (never refl)

none_beyond : (r : Rules) → LayerLaws r → (h : List Entry) → IsHistory r h → (s : Slot) → ltb s.origin r.casts.numbers.n ≡ false → delivered_at r h s ≡ None
none_beyond r laws h met s beyond =
    none_from (delivered_at r h s) (λ there.
    let within = slot_origin r.casts.numbers r.mode s (delivered_right r laws h met s there) in
    absurd (omega (arith, within, ltb-false s.origin r.casts.numbers.n beyond)))

-- ---- what a slot shows, where the getters of the service and what its broadcast delivered are each by one of two histories
module _ (r : Rules) (laws : LayerLaws r) (s : Slot) (o : Option Entry) (h : List Entry) (met : IsHistory r h) (whole : IsHistory r (with_entry o h))
    (shown : ServiceShown) (by : ShowsBetween r.service (seat_of r) (parts r h).words (parts r (with_entry o h)).words shown)
    (d : Option (List ℕ)) (out : hides_shown r.mode shown r.casts.numbers.n s ≡ false → (d ≡ delivered_at r h s) ⊎ (d ≡ delivered_at r (with_entry o h) s)) where
  abbrev Shown : Type 0
  Shown =
      (cond (hides_shown r.mode shown r.casts.numbers.n s) None d ≡ shown_at r h s)
      ⊎ (cond (hides_shown r.mode shown r.casts.numbers.n s) None d ≡ shown_at r (with_entry o h) s)

  none_by : (a b : Bool) → d ≡ None → delivered_at r h s ≡ None → cond a None d ≡ cond b None (delivered_at r h s)
  none_by true true e f = refl
  none_by true false e f = sym f
  none_by false true e f = e
  none_by false false e f = e ∙ sym f

  shown_beyond : ltb s.origin r.casts.numbers.n ≡ false → Shown
  shown_beyond beyond =
      let was = none_beyond r laws h met s beyond in
      let now = none_beyond r laws (with_entry o h) whole s beyond in
      let bare = ap (λ (b : Bool). leb 3 r.mode.root && (b && is_behind r.mode.version s (mark_shown shown s))) beyond ∙ and_false (leb 3 r.mode.root) in
      inl (none_by (hides_shown r.mode shown r.casts.numbers.n s) (is_hidden r h s) (elim (out bare) [ inl e ↦ e ∙ was | inr e ↦ e ∙ now ]) was)

  shown_within : ltb s.origin r.casts.numbers.n ≡ true → Shown
  shown_within within =
      let seat = seat_of r in
      let w = (parts r h).words in
      let later = (parts r (with_entry o h)).words in
      let wide = widens_lost r laws s o h whole in
      let either =
      past_either (has_past r.mode.version) (eqb s.class 1) s.a (shown.base s.origin) shown.completed
      (r.service.base seat w s.origin) (r.service.base seat later s.origin) (r.service.completed seat w) (r.service.completed seat later)
      (by.base s.origin (ltb-true s.origin r.casts.numbers.n within)) by.completed in
      let inside : (past : Bool) → is_behind r.mode.version s (mark_shown shown s) ≡ past → is_past_shown r.mode.version shown r.casts.numbers.n s ≡ past = λ past e.
      ap (λ (b : Bool). b && is_behind r.mode.version s (mark_shown shown s)) within ∙ e in
      between (leb 3 r.mode.root) (is_past r.service seat w s) (is_past r.service seat later s) (is_past_shown r.mode.version shown r.casts.numbers.n s)
      (delivered_at r h s) (delivered_at r (with_entry o h) s) d
      (λ past. sym (heard_delivered r laws (with_entry o h) s) ∙ wide.same past ∙ heard_delivered r laws h s)
      wide.near
      (elim either [ inl e ↦ inl (inside _ e) | inr e ↦ inr (inside _ e) ])
      out

  pub shown_either : Shown
  shown_either = by_origin (ltb s.origin r.casts.numbers.n) refl
    where
      by_origin : (b : Bool) → ltb s.origin r.casts.numbers.n ≡ b → Shown
      by_origin true within = shown_within within
      by_origin false beyond = shown_beyond beyond
