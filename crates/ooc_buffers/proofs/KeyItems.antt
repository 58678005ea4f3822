-- Items held as one have one key, and items that aren't columns are held as one where their keys are.
use Rattle.std.specs.Prelude.{◌≡◌, ℕ, ◌+◌, ◌≤◌, Bool, true, false, not, ◌==◌, ◌||◌, cond, List, [], ◌∷◌, count_by, refl}
use Rattle.std.proofs.Common.{◌∙◌, ap, ap₂, subst, inl, inr, arith}
use Rattle.std.specs.List.{list_any}
use Rattle.std.proofs.lemmas.List.Sums.{sum_by-cons}
use Rattle.std.specs.Str.{bytes_eq}
use Rattle.std.specs.Cmp.Lexicographic.{bytes_decides}
use Rattle.std.proofs.lemmas.Bool.{cases_Bool, and_parts, and_from, or_left, or_from, or_right, eqb-true, eq-eqb, false_from_ne_true, both_ways}
use Rattle.ritas_base.specs.declared.slot.Slot.{Slot}
use Rattle.ritas_base.specs.declared.item.Item.{Item}
use Rattle.ritas_base.specs.declared.item.Kind.TheVariants.{Column}
use Rattle.ritas_base.specs.Messages.{kind_rank, kind_eq}
use Rattle.ritas_base.specs.SlotOrder.{is_slot, same_slot, slot_itself}
use Rattle.indexmap.specs.IndexMap.{IndexMap}
use Rattle.ooc_buffers.specs.declared.key.Key.{Key}
use Rattle.ooc_buffers.specs.Lists.{HeldItem, is_same_item}
use Rattle.ooc_buffers.specs.Keys.{value_mark, item_key, key_eq, count_at, CountsKeys}
use Rattle.ooc_buffers.proofs.KeyLaws.{key_exact, key_itself}

-- the mark, by whether the item is a column
abbrev mark_by : Bool → List ℕ → ℕ
mark_by column value = cond column (value_mark value) 0

marks_same : (column other : Bool) (x y : List ℕ) → column ≡ other → (not column || bytes_eq x y) ≡ true → (bytes_eq x y ≡ true → x ≡ y) → mark_by column x ≡ mark_by other y
marks_same true true x y e same exact = ap value_mark (exact same)
marks_same false false x y e same exact = refl
marks_same true false x y e same exact = absurd (cc)
marks_same false true x y e same exact = absurd (cc)

abbrev make : ℕ → Slot → ℕ → Key
make kind slot mark = record {
  kind = kind;
  class = slot.class;
  a = slot.a;
  attempt = slot.attempt;
  bround = slot.bround;
  step = slot.step;
  origin = slot.origin;
  mark = mark;
}

key_from : (k k' : ℕ) (s s' : Slot) (m m' : ℕ) → k ≡ k' → s ≡ s' → m ≡ m' → make k s m ≡ make k' s' m'
key_from k k' s s' m m' kinds slots marks =
    ap (λ (n : ℕ). make n s m) kinds ∙ (ap (λ (q : Slot). make k' q m) slots ∙ ap (λ (n : ℕ). make k' s' n) marks)

pub key_if_same : (x y : Item) → is_same_item x y ≡ true → item_key x ≡ item_key y
key_if_same x y h =
    let first = and_parts (kind_eq x.kind y.kind) _ h in
    let second = and_parts (is_slot x.slot y.slot) (not (kind_eq x.kind Column) || bytes_eq x.value y.value) first.1 in
    let kinds : kind_rank x.kind ≡ kind_rank y.kind = eqb-true _ _ first.0 in
    let slots : x.slot ≡ y.slot = same_slot x.slot y.slot second.0 in
    let columns : kind_eq x.kind Column ≡ kind_eq y.kind Column = ap (λ (n : ℕ). n == 5) kinds in
    let marks : mark_by (kind_eq x.kind Column) x.value ≡ mark_by (kind_eq y.kind Column) y.value =
    marks_same (kind_eq x.kind Column) (kind_eq y.kind Column) x.value y.value columns second.1 (bytes_decides x.value y.value).0 in
    key_from (kind_rank x.kind) (kind_rank y.kind) x.slot y.slot (mark_by (kind_eq x.kind Column) x.value) (mark_by (kind_eq y.kind Column) y.value) kinds slots marks

-- items of other keys aren't held as one
pub other_key : (x y : Item) → key_eq (item_key x) (item_key y) ≡ false → is_same_item x y ≡ false
other_key x y other =
    false_from_ne_true (is_same_item x y) (λ same.
    both_ways _ other (subst (λ (k : Key). key_eq (item_key x) k ≡ true) (key_if_same x y same) (key_itself (item_key x))))

abbrev slot_in : Key → Slot
slot_in k = record { class = k.class; a = k.a; attempt = k.attempt; bround = k.bround; step = k.step; origin = k.origin }

-- items of one key that aren't columns are held as one
pub same_if_key : (x y : Item) → kind_eq x.kind Column ≡ false → key_eq (item_key x) (item_key y) ≡ true → is_same_item x y ≡ true
same_if_key x y plain same =
    let keys = key_exact (item_key x) (item_key y) same in
    let kinds : kind_rank x.kind ≡ kind_rank y.kind = ap (λ (k : Key). k.kind) keys in
    let slots : x.slot ≡ y.slot = ap slot_in keys in
    and_from _ _ (eq-eqb _ _ kinds)
    (and_from _ _ (subst (λ (s : Slot). is_slot x.slot s ≡ true) slots (slot_itself x.slot))
    (or_left (not (kind_eq x.kind Column)) (bytes_eq x.value y.value) (ap not plain)))

-- how many of these have the item's key
abbrev pub alike : Item → List HeldItem → ℕ
alike x kept = count_by (λ k. key_eq (item_key x) (item_key k.item)) kept

-- what an index counts for the item's key
pub alike_from : {S : Type 0} (index : IndexMap Key ℕ S) (x : Item) (kept now : List HeldItem) (key : Key) (count : ℕ)
    → CountsKeys index kept → kept ≡ now → key ≡ item_key x → count ≡ count_at index key → count ≡ alike x now
alike_from index x kept now key count counts same is counted =
    counted ∙ (counts key ∙ ap₂ (λ (k : Key) (l : List HeldItem). count_by (λ e. key_eq k (item_key e.item)) l) is same)

alike_more : (x : Item) (k : HeldItem) (kept : List HeldItem) (b : Bool) → key_eq (item_key x) (item_key k.item) ≡ b → alike x (k ∷ kept) ≡ cond b 1 0 + alike x kept
alike_more x k kept b is =
    sum_by-cons (λ (q : HeldItem). cond {A = ℕ} (key_eq (item_key x) (item_key q.item)) 1 0) k kept ∙ ap (λ (c : Bool). cond c 1 0 + alike x kept) is

-- none has, and the item isn't among them
pub none_alike : (x : Item) (kept : List HeldItem) → alike x kept ≡ 0 → list_any (λ k. is_same_item x k.item) kept ≡ false
none_alike x [] none = refl
none_alike x (k ∷ kept) none =
    elim (cases_Bool (key_eq (item_key x) (item_key k.item))) [
      | inl same ↦
          absurd (omega (arith, none, alike_more x k kept true same))
      | inr other ↦
          let rest : alike x kept ≡ 0 = omega (arith, none, alike_more x k kept false other) in
          or_from _ _ (other_key x k.item other) (none_alike x kept rest)
    ]

-- one has, and an item that isn't a column is among them
pub one_alike : (x : Item) (kept : List HeldItem) → kind_eq x.kind Column ≡ false → 1 ≤ alike x kept → list_any (λ k. is_same_item x k.item) kept ≡ true
one_alike x [] plain one = absurd (omega (arith, one))
one_alike x (k ∷ kept) plain one =
    elim (cases_Bool (key_eq (item_key x) (item_key k.item))) [
      | inl same ↦ or_left (is_same_item x k.item) (list_any (λ q. is_same_item x q.item) kept) (same_if_key x k.item plain same)
      | inr other ↦
          let rest : 1 ≤ alike x kept = omega (arith, one, alike_more x k kept false other) in
          or_right (is_same_item x k.item) (list_any (λ q. is_same_item x q.item) kept) (one_alike x kept plain rest)
    ]
