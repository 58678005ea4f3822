-- What the drops of a tree take: the rounds that are past, and each origin's commands that are.
use Rattle.std.proofs.Common.{◌≡◌, ℕ, ◌+◌, ◌-◌, ◌<◌, Bool, true, false, cond, not, ◌&&◌, ◌||◌, Option, None, refl, sym, ◌∙◌, ap, arith}
use Rattle.std.proofs.Math.Bool.{or-false}
use Rattle.std.proofs.Math.Dec.{eqb, leb, ltb}
use Rattle.std.proofs.lemmas.Bool.{leb-true, leb-false, le-leb, lt-leb, lt-ltb, le-ltb, ltb-true, ltb-false, eqb-true, eqb-false, eq-eqb}
use Rattle.std.specs.FinMap.{get, get-retain_keys}
use Rattle.ritas_base.specs.declared.slot.Slot.{Slot}
use Rattle.ritas_base.specs.declared.mode.FrameVersion.{FrameVersion}
use Rattle.ritas_base.specs.Versions.{has_past}
use Rattle.ritas_base.specs.SlotOrder.{exact_slots}
use Rattle.ritas_base.specs.Slots.{within}
use Rattle.layer_api.specs.ServiceCalls.{ServiceShown}
use Rattle.layer_api.specs.Windows.{is_behind}
use Rattle.instance_tree.specs.SlotMaps.{SlotMap, without_slots, is_before_round, is_command_below}
use Rattle.ritas_core.specs.Drops.{mark_shown, is_dropped_shown, DropsPast}

-- of the rounds, and of the commands of the first origins
abbrev pub is_taken : ServiceShown → ℕ → Slot → Bool
is_taken shown i s = is_before_round (shown.completed - 2) s || (ltb s.origin i && is_command_below s.origin (shown.base s.origin - 64) s)

-- ---- one drop
get_without : {B : Type 0} (gone : Slot → Bool) (m : SlotMap B) (s : Slot) → get (without_slots gone m) s ≡ cond (gone s) None (get m s)
get_without gone m s =
    get-retain_keys m (λ q. not (gone q)) s (λ q e. ap (λ (x : Slot). not (gone x)) (sym (exact_slots s q e))) ∙ turned (gone s)
  where
    turned : (b : Bool) → cond (not b) (get m s) None ≡ cond b None (get m s)
    turned true = refl
    turned false = refl

without_same : {B : Type 0} (gone : Slot → Bool) (m n : SlotMap B) (s : Slot) → n ≡ without_slots gone m → get n s ≡ cond (gone s) None (get m s)
without_same {B} gone m n s is = ap (λ (x : SlotMap B). get x s) is ∙ get_without gone m s

or_none : {X : Type 0} (a b : Bool) (x : Option X) → cond a None x ≡ cond (a || (false && b)) None x
or_none true b x = refl
or_none false b x = refl

pub rounds_taken : {B : Type 0} (shown : ServiceShown) (k : ℕ) (m n : SlotMap B) → k ≡ shown.completed - 2 → n ≡ without_slots (is_before_round k) m →
    (s : Slot) → get n s ≡ cond (is_taken shown 0 s) None (get m s)
rounds_taken shown k m n few is s =
    without_same (is_before_round k) m n s is ∙ ap (λ (x : ℕ). cond (is_before_round x s) None (get m s)) few
    ∙ or_none (is_before_round (shown.completed - 2) s) (is_command_below s.origin (shown.base s.origin - 64) s) (get m s)
    ∙ ap (λ (b : Bool). cond (is_before_round (shown.completed - 2) s || (b && is_command_below s.origin (shown.base s.origin - 64) s)) None (get m s))
    (sym (le-ltb s.origin 0 (omega arith)))

-- ---- one origin more
one_more : {X : Type 0} (round one here low below next cmd : Bool) (x : Option X) → (here ≡ true → ((one && here) && low) ≡ cmd) → (here ≡ true → next ≡ true) →
    (here ≡ false → next ≡ below) →
    cond ((one && here) && low) None (cond (round || (below && cmd)) None x) ≡ cond (round || (next && cmd)) None x
one_more round one true low below next cmd x same there apart =
    ap (λ (b : Bool). cond b None (cond (round || (below && cmd)) None x)) (same refl) ∙ by cmd round below
    ∙ sym (ap (λ (b : Bool). cond (round || (b && cmd)) None x) (there refl))
  where
    by : (cmd round below : Bool) → cond cmd None (cond (round || (below && cmd)) None x) ≡ cond (round || cmd) None x
    by true true below = refl
    by true false below = refl
    by false true below = refl
    by false false true = refl
    by false false false = refl
one_more round true false low below next cmd x same there apart = sym (ap (λ (b : Bool). cond (round || (b && cmd)) None x) (apart refl))
one_more round false false low below next cmd x same there apart = sym (ap (λ (b : Bool). cond (round || (b && cmd)) None x) (apart refl))

not_last : (o i : ℕ) → eqb o i ≡ false → ltb o (i + 1) ≡ ltb o i
not_last o i apart = by (ltb o i) refl
  where
    by : (b : Bool) → ltb o i ≡ b → ltb o (i + 1) ≡ ltb o i
    by true is = let below = ltb-true o i is in lt-ltb o (i + 1) (omega (arith, below)) ∙ sym is
    by false is =
        let far = ltb-false o i is in
        let other = eqb-false o i apart in
        le-ltb o (i + 1) (omega (arith, far, other)) ∙ sym is

pub command_taken : {B : Type 0} (shown : ServiceShown) (i k : ℕ) (m l n : SlotMap B) (s : Slot) → k ≡ shown.base i - 64 → n ≡ without_slots (is_command_below i k) l →
    get l s ≡ cond (is_taken shown i s) None (get m s) → get n s ≡ cond (is_taken shown (i + 1) s) None (get m s)
command_taken shown i k m l n s few is before =
    without_same (is_command_below i k) l n s is
    ∙ ap (λ (x : Option _). cond (is_command_below i k s) None x) before
    ∙ ap (λ (x : ℕ). cond (is_command_below i x s) None (cond (is_taken shown i s) None (get m s))) few
    ∙ one_more (is_before_round (shown.completed - 2) s) (eqb s.class 1) (eqb s.origin i) (ltb s.a (shown.base i - 64)) (ltb s.origin i) (ltb s.origin (i + 1))
    (is_command_below s.origin (shown.base s.origin - 64) s) (get m s)
    (λ here. ap (λ (o : ℕ). is_command_below o (shown.base o - 64) s) (sym (eqb-true s.origin i here)))
    (λ here. let same = eqb-true s.origin i here in lt-ltb s.origin (i + 1) (omega (arith, same)))
    (not_last s.origin i)

-- ---- all of them
less_or_more : (a k b : ℕ) → ltb a (b - k) ≡ ltb (a + k) b
less_or_more a k b = by (ltb (a + k) b) refl
  where
    by : (t : Bool) → ltb (a + k) b ≡ t → ltb a (b - k) ≡ ltb (a + k) b
    by true is = let low = ltb-true (a + k) b is in lt-ltb a (b - k) (omega (arith, low)) ∙ sym is
    by false is = let high = ltb-false (a + k) b is in le-ltb a (b - k) (omega (arith, high)) ∙ sym is

from_two : (class : ℕ) → eqb class 1 ≡ false → within 2 5 class ≡ within 1 5 class
from_two class other = ap (λ (b : Bool). b && leb class 5) (by (leb 1 class) refl)
  where
    by : (b : Bool) → leb 1 class ≡ b → leb 2 class ≡ leb 1 class
    by true is =
        let some = leb-true 1 class is in
        let apart = eqb-false class 1 other in
        le-leb 2 class (omega (arith, some, apart)) ∙ sym is
    by false is = let none = leb-false 1 class is in lt-leb 2 class (omega (arith, none)) ∙ sym is

-- whether a slot lies behind a mark, where there is a past
abbrev is_left : Slot → ℕ → Bool
is_left s mark = cond (eqb s.class 1) (ltb (s.a + 64) mark) (ltb (s.a + 2) mark)

module _ (version : FrameVersion) (has : has_past version ≡ true) (shown : ServiceShown) (n : ℕ) (s : Slot) (inside : s.origin < n) where
  taken_by : (one : Bool) → eqb s.class 1 ≡ one →
      (within 2 5 s.class && ltb s.a (shown.completed - 2)) || (true && ((one && true) && ltb s.a (shown.base s.origin - 64)))
      ≡ within 1 5 s.class && (true && cond one (ltb (s.a + 64) (cond one (shown.base s.origin) shown.completed)) (ltb (s.a + 2) (cond one (shown.base s.origin) shown.completed)))
  taken_by true is =
      let one = eqb-true s.class 1 is in
      ap (λ (k : ℕ). (within 2 5 k && ltb s.a (shown.completed - 2)) || ltb s.a (shown.base s.origin - 64)) one
      ∙ less_or_more s.a 64 (shown.base s.origin)
      ∙ sym (ap (λ (k : ℕ). within 1 5 k && ltb (s.a + 64) (shown.base s.origin)) one)
  taken_by false is =
      or-false (within 2 5 s.class && ltb s.a (shown.completed - 2))
      ∙ ap (λ (b : Bool). b && ltb s.a (shown.completed - 2)) (from_two s.class is)
      ∙ ap (λ (b : Bool). within 1 5 s.class && b) (less_or_more s.a 2 shown.completed)

  pub taken_dropped : is_taken shown n s ≡ is_dropped_shown version shown n s
  taken_dropped =
      ap (λ (b : Bool). is_before_round (shown.completed - 2) s || (b && is_command_below s.origin (shown.base s.origin - 64) s)) (lt-ltb s.origin n inside)
      ∙ ap (λ (b : Bool). is_before_round (shown.completed - 2) s || (true && ((eqb s.class 1 && b) && ltb s.a (shown.base s.origin - 64)))) (eq-eqb s.origin s.origin refl)
      ∙ taken_by (eqb s.class 1) refl
      ∙ sym (ap (λ (b : Bool). within 1 5 s.class && (true && (b && is_left s (mark_shown shown s)))) has)
      ∙ sym (ap (λ (b : Bool). within 1 5 s.class && (b && is_behind version s (mark_shown shown s))) (lt-ltb s.origin n inside))

taken_none : {X : Type 0} (b : Bool) (x : Option X) → x ≡ None → cond b None x ≡ None
taken_none true x e = refl
taken_none false x e = e

pub drops_past : {B : Type 0} (version : FrameVersion) → has_past version ≡ true → (shown : ServiceShown) (k : ℕ) (m l : SlotMap B) → ((s : Slot) → get l s ≡ cond (is_taken shown k s) None (get m s)) →
    DropsPast (is_dropped_shown version shown k) k m l
drops_past {B} version has shown k m l taken = record {
  gone = λ s past. gone_at s (ltb s.origin k) refl past;
  kept = λ s inside near. taken s ∙ ap (λ (b : Bool). cond b None (get m s)) (taken_dropped version has shown k s inside ∙ near);
  none = λ s e. taken s ∙ taken_none (is_taken shown k s) (get m s) e;
}
  where
    never : (a b x : Bool) → b ≡ false → (a && (b && x)) ≡ true → ⊥
    never true true x e h = cc
    never true false x e h = cc
    never false b x e h = cc

    gone_at : (s : Slot) (b : Bool) → ltb s.origin k ≡ b → is_dropped_shown version shown k s ≡ true → get l s ≡ None
    gone_at s true is past =
        taken s ∙ ap (λ (b : Bool). cond b None (get m s)) (taken_dropped version has shown k s (ltb-true s.origin k is) ∙ past)
    gone_at s false is past = absurd (never (within 1 5 s.class) (ltb s.origin k) (is_behind version s (mark_shown shown s)) is past)

-- ---- where there is no past
pub drops_nothing : {B : Type 0} (version : FrameVersion) → has_past version ≡ false → (shown : ServiceShown) (k : ℕ) (m : SlotMap B) →
    DropsPast (is_dropped_shown version shown k) k m m
drops_nothing version none shown k m = record {
  gone = λ s past. absurd (never (within 1 5 s.class) (ltb s.origin k) (has_past version) (is_left s (mark_shown shown s)) none past);
  kept = λ s inside near. refl;
  none = λ s e. e;
}
  where
    never : (a b has x : Bool) → has ≡ false → (a && (b && (has && x))) ≡ true → ⊥
    never true true true x none h = cc
    never true true false x none h = cc
    never true false has x none h = cc
    never false b has x none h = cc
