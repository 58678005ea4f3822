-- Which broadcasts are dropped, by what the service shows, and that the others stay.
use Rattle.std.proofs.Common.{◌≡◌, ℕ, ◌+◌, ◌<◌, Bool, true, false, cond, ◌&&◌, Option, Some, None, List, [], ◌∷◌, inl, inr, refl, sym, ◌∙◌, ap, subst}
use Rattle.std.specs.FinMap.{get}
use Rattle.std.proofs.Math.Dec.{eqb, ltb}
use Rattle.std.proofs.lemmas.Bool.{both_ways, ltb-true}
use Rattle.ritas_base.specs.declared.slot.Slot.{Slot}
use Rattle.ritas_base.specs.declared.mode.FrameVersion.{FrameVersion}
use Rattle.ritas_base.specs.Versions.{has_past}
use Rattle.ritas_base.specs.Slots.{within}
use Rattle.ritas_base.specs.Messages.{Place}
use Rattle.ritas_base.specs.Tags.{Tags}
use Rattle.ritas_base.specs.History.{Call}
use Rattle.layer_api.specs.Service.{Seat, WordLaws, AreProper, is_past}
use Rattle.layer_api.specs.ServiceCalls.{ServiceShown, Shows, ShowsBetween}
use Rattle.layer_api.specs.Windows.{is_behind}
use Rattle.layer_api.specs.Words.{Word}
use Rattle.instance_tree.specs.SlotMaps.{SlotMap}
use Rattle.ritas_core.specs.Rules.{Rules, CastRules, seat_of}
use Rattle.ritas_core.specs.Drops.{is_dropped, mark_shown, is_dropped_shown, DropsPast}
use Rattle.ritas_core.specs.Casts.{CastsStand}
use Rattle.ritas_core.proofs.TestLaws.{and_false}
use Rattle.ritas_core.proofs.Lookup.{was_not_past}
use Rattle.ritas_core.proofs.ShownSlots.{past_either}

-- ---- two tests in front of a third
both_before : (a b x y : Bool) → (b ≡ true → x ≡ y) → (a && (b && x)) ≡ (a && (b && y))
both_before false b x y same = refl
both_before true false x y same = refl
both_before true true x y same = same refl

-- what holds of the third where it is false, if the first two hold
both_false : (a b x y : Bool) → (b ≡ true → x ≡ false → y ≡ false) → (a && (b && x)) ≡ false → (a && (b && y)) ≡ false
both_false false b x y same h = refl
both_false true false x y same h = refl
both_false true true x y same h = same refl h

-- and where it is true
both_true : (a b x y : Bool) → (b ≡ true → x ≡ true → y ≡ true) → (a && (b && x)) ≡ true → (a && (b && y)) ≡ true
both_true false b x y same h = h
both_true true false x y same h = h
both_true true true x y same h = same refl h

-- ---- a slot that isn't past isn't dropped
pub not_dropped : (r : Rules) (w : List Word) (s : Slot) → is_past r.service (seat_of r) w s ≡ false → is_dropped r w s ≡ false
not_dropped r w s near =
    ap (λ (b : Bool). within 1 5 s.class && (ltb s.origin r.casts.numbers.n && b)) near
    ∙ ap (λ (b : Bool). within 1 5 s.class && b) (and_false (ltb s.origin r.casts.numbers.n)) ∙ and_false (within 1 5 s.class)

-- ---- by what the service shows
by_mark : (has one : Bool) (a base completed base_is completed_is : ℕ) → base ≡ base_is → completed ≡ completed_is →
    (has && cond one (ltb (a + 64) (cond one base completed)) (ltb (a + 2) (cond one base completed)))
    ≡ (has && cond one (ltb (a + 64) base_is) (ltb (a + 2) completed_is))
by_mark has true a base completed b c bases rounds = ap (λ (k : ℕ). has && ltb (a + 64) k) bases
by_mark has false a base completed b c bases rounds = ap (λ (k : ℕ). has && ltb (a + 2) k) rounds

module _ (r : Rules) (w : List Word) (shown : ServiceShown) (s : Slot) where
  pub dropped_same : Shows r.service (seat_of r) w shown → is_dropped_shown r.mode.version shown r.casts.numbers.n s ≡ is_dropped r w s
  dropped_same shows =
      both_before (within 1 5 s.class) (ltb s.origin r.casts.numbers.n) (is_behind r.mode.version s (mark_shown shown s)) (is_past r.service (seat_of r) w s)
      (λ inside. by_mark (has_past r.mode.version) (eqb s.class 1) s.a (shown.base s.origin) shown.completed (r.service.base (seat_of r) w s.origin) (r.service.completed (seat_of r) w)
      (shows.base s.origin (ltb-true s.origin r.casts.numbers.n inside)) shows.completed)

  -- where the service shows what it does by one of two lists of words
  pub dropped_between : WordLaws r.service → (c : Word) → AreProper r.service (seat_of r) (c ∷ w) → ShowsBetween r.service (seat_of r) w (c ∷ w) shown →
      is_dropped_shown r.mode.version shown r.casts.numbers.n s ≡ false → is_dropped r w s ≡ false
  dropped_between laws c proper by =
      both_false (within 1 5 s.class) (ltb s.origin r.casts.numbers.n) (is_behind r.mode.version s (mark_shown shown s)) (is_past r.service (seat_of r) w s)
      (λ inside near. near_before (ltb-true s.origin r.casts.numbers.n inside) near)
    where
      seat : Seat
      seat = seat_of r

      near_before : s.origin < r.casts.numbers.n → is_behind r.mode.version s (mark_shown shown s) ≡ false → is_past r.service seat w s ≡ false
      near_before inside near =
          elim (past_either (has_past r.mode.version) (eqb s.class 1) s.a (shown.base s.origin) shown.completed
          (r.service.base seat w s.origin) (r.service.base seat (c ∷ w) s.origin) (r.service.completed seat w) (r.service.completed seat (c ∷ w))
          (by.base s.origin inside) by.completed) [
            | inl e ↦ sym e ∙ near
            | inr e ↦ was_not_past r.service laws seat c w proper s (sym e ∙ near)
          ]

-- the number of replicas may be written in another way
pub dropped_by : {B : Type 0} (version : FrameVersion) (shown : ServiceShown) (old new : SlotMap B) (n is : ℕ) → n ≡ is →
    DropsPast (is_dropped_shown version shown n) n old new → DropsPast (is_dropped_shown version shown is) is old new
dropped_by version shown old new n is same drops = subst (λ (k : ℕ). DropsPast (is_dropped_shown version shown k) k old new) same drops

-- what is dropped stays so by a word more
still_past : (a b : Bool) → (b ≡ false → a ≡ false) → a ≡ true → b ≡ true
still_past a true near past = refl
still_past a false near past = let not = near refl in absurd (both_ways a not past)

pub dropped_stays : (r : Rules) (laws : WordLaws r.service) (c : Word) (w : List Word) → AreProper r.service (seat_of r) (c ∷ w) → (s : Slot) →
    is_dropped r w s ≡ true → is_dropped r (c ∷ w) s ≡ true
dropped_stays r laws c w proper s =
    both_true (within 1 5 s.class) (ltb s.origin r.casts.numbers.n) (is_past r.service (seat_of r) w s) (is_past r.service (seat_of r) (c ∷ w) s)
    (λ _. still_past (is_past r.service (seat_of r) w s) (is_past r.service (seat_of r) (c ∷ w) s) (was_not_past r.service laws (seat_of r) c w proper s))

-- ---- a map from which more is dropped
some_none : {B : Type 0} (o : Option B) (e : B) → o ≡ Some e → o ≡ None → ⊥
some_none o e found none = let wrong = sym found ∙ none in cc

module _ {B : Type 0} (stands : B → Place → Tags → List Call → Type 0) (c : CastRules) (d e : Slot → Bool) (h : Slot → List Call) where
  -- tests that agree
  pub casts_alike : (m : SlotMap B) → ((s : Slot) → d s ≡ e s) → CastsStand stands c d m h → CastsStand stands c e m h
  casts_alike m same all = record {
    made = all.made;
    used = all.used;
    placed = all.placed;
    gone = λ s past. all.gone s (same s ∙ past);
    unmade = λ s near. all.unmade s (same s ∙ near);
  }

  module _ (more : (s : Slot) → d s ≡ true → e s ≡ true) (m n : SlotMap B) (drops : DropsPast e c.numbers.n m n) (all : CastsStand stands c d m h) where
    -- a value that is there was
    was_there : (s : Slot) (b : B) (o : Option B) (past : Bool) → get m s ≡ o → e s ≡ past → get n s ≡ Some b → get m s ≡ Some b
    was_there s b None past was is found = absurd (some_none (get n s) b found (drops.none s was))
    was_there s b (Some x) true was is found = absurd (some_none (get n s) b found (drops.gone s is))
    was_there s b (Some x) false was is found = sym (drops.kept s (all.placed s x was) is) ∙ found

    there : (s : Slot) (b : B) → get n s ≡ Some b → get m s ≡ Some b
    there s b found = was_there s b (get m s) (e s) refl refl found

    near_before : (b : Bool) (s : Slot) → d s ≡ b → e s ≡ false → d s ≡ false
    near_before true s is near = absurd (both_ways (e s) near (more s is))
    near_before false s is near = is

    unmade_at : (s : Slot) (o : Option B) → get m s ≡ o → e s ≡ false → get n s ≡ None → h s ≡ []
    unmade_at s None was near none = all.unmade s (near_before (d s) s refl near) was
    unmade_at s (Some x) was near none = absurd (some_none (get n s) x (drops.kept s (all.placed s x was) near ∙ was) none)

    pub casts_fewer : CastsStand stands c e n h
    casts_fewer = record {
      made = λ s b found. all.made s b (there s b found);
      used = λ s b found. all.used s b (there s b found);
      placed = λ s b found. all.placed s b (there s b found);
      gone = drops.gone;
      unmade = λ s near none. unmade_at s (get m s) refl near none;
    }
