-- What of an item is looked up, and an index that counts it.
use Rattle.std.specs.Prelude.{◌≡◌, ℕ, ◌*◌, ◌%◌, ◌^◌, Bool, ◌==◌, ◌&&◌, List, fold, bit_xor, count_by, sum_by, unwrap_or, if◌then◌else◌}
use Rattle.indexmap.specs.IndexMap.{IndexMap, get}
use Rattle.ritas_base.specs.declared.item.Item.{Item}
use Rattle.ritas_base.specs.declared.item.Kind.TheVariants.{Column}
use Rattle.ritas_base.specs.Messages.{kind_rank, kind_eq}
use Rattle.ooc_buffers.specs.Lists.{HeldItem}
use Rattle.ooc_buffers.specs.declared.key.Key.{Key}

-- the hash FNV-1a of 64 bits
unfoldable pub value_mark : List ℕ → ℕ
value_mark value = fold (λ h b. bit_xor h b * 1099511628211 % 2 ^ 64) 14695981039346656037 value

-- of a column, the mark of its value
abbrev pub mark_of : Item → ℕ
mark_of item = if kind_eq item.kind Column then value_mark item.value else 0

-- the kind and slot, and for a column a mark of its value
abbrev pub item_key : Item → Key
item_key item = record {
  kind = kind_rank item.kind;
  class = item.slot.class;
  a = item.slot.a;
  attempt = item.slot.attempt;
  bround = item.slot.bround;
  step = item.slot.step;
  origin = item.slot.origin;
  mark = mark_of item;
}

abbrev pub key_eq : Key → Key → Bool
key_eq x y =
    x.kind == y.kind
    && (x.class == y.class
    && (x.a == y.a
    && (x.attempt == y.attempt && (x.bround == y.bround && (x.step == y.step && (x.origin == y.origin && x.mark == y.mark))))))

-- how many an index counts for a key
abbrev pub count_at : {S : Type 0} → IndexMap Key ℕ S → Key → ℕ
count_at index key = unwrap_or (get key_eq index key) 0

-- the index counts how many items of the list have each key
abbrev pub CountsKeys : {S : Type 0} → IndexMap Key ℕ S → List HeldItem → Type 0
CountsKeys index kept = (key : Key) → count_at index key ≡ count_by (λ k. key_eq key (item_key k.item)) kept

-- the index and the number of bytes are those of the list
pub record IsKeyIndexed {S : Type 0} (index : IndexMap Key ℕ S) (bytes : ℕ) (kept : List HeldItem) : Type 0 where
  pub counts : CountsKeys index kept
  pub sum : bytes ≡ sum_by (λ k. k.len) kept
