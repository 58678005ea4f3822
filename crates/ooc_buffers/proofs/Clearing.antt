-- An item leaves, and the index counts the others.
use Rattle.std.specs.Prelude.{◌≡◌, ℕ, ◌+◌, ◌-◌, ◌≤◌, cond, List, [], ◌∷◌, ◌++◌, length, map, count_by}
use Rattle.std.proofs.Common.{◌∙◌, ap, sym, arith, append_assoc}
use Rattle.std.proofs.lemmas.List.{append-nil}
use Rattle.ritas_base.specs.declared.item.Item.{Item}
use Rattle.ooc_buffers.specs.Spots.{Spotted, held_in}
use Rattle.std.proofs.lemmas.List.Sums.{sum_by-cons}
use Rattle.indexmap.specs.IndexMap.{IndexMap}
use Rattle.ooc_buffers.specs.declared.key.Key.{Key}
use Rattle.ooc_buffers.specs.Lists.{HeldItem}
use Rattle.ooc_buffers.specs.Keys.{item_key, key_eq, count_at, CountsKeys}

pub counted_out : {S : Type 0} (old new : IndexMap Key ℕ S) (k : HeldItem) (all kept : List HeldItem) → all ≡ k ∷ kept → CountsKeys old all
    → ((q : Key) → count_at new q ≡ count_at old q - cond {A = ℕ} (key_eq q (item_key k.item)) 1 0) → CountsKeys new kept
counted_out old new k all kept is counts out = λ q.
    let one : ℕ = cond {A = ℕ} (key_eq q (item_key k.item)) 1 0 in
    let was : count_at old q ≡ one + count_by (λ e. key_eq q (item_key e.item)) kept =
    counts q ∙ (ap (λ (l : List HeldItem). count_by (λ e. key_eq q (item_key e.item)) l) is
    ∙ sum_by-cons (λ (e : HeldItem). cond {A = ℕ} (key_eq q (item_key e.item)) 1 0) k kept) in
    let gone = out q in
    omega (arith, was, gone)

-- some items have moved on, and the others are to
pub record IsPassing (all left : List Spotted) (before after : List Item) (len many : ℕ) : Type 0 where
  pub items : after ++ map (λ k. k.item) (held_in left) ≡ before ++ map (λ k. k.item) (held_in all)
  pub count : many + length left ≡ len + length all

pub passing_more : (all left rest : List Spotted) (before after after' : List Item) (len many many' : ℕ) (e : Spotted) (item : Item) → left ≡ e ∷ rest → item ≡ e.1.item
    → after' ≡ after ++ item ∷ [] → many' ≡ many + 1 → IsPassing all left before after len many → IsPassing all rest before after' len many'
passing_more all left rest before after after' len many many' e item is mine moved more was =
    let long = ap length is in
    let count = was.count in
    record {
      items = ap (λ (l : List Item). l ++ map (λ k. k.item) (held_in rest)) moved
          ∙ (append_assoc after (item ∷ []) (map (λ k. k.item) (held_in rest))
          ∙ (ap (λ (x : Item). after ++ x ∷ map (λ k. k.item) (held_in rest)) mine
          ∙ (sym (ap (λ (l : List Spotted). after ++ map (λ k. k.item) (held_in l)) is) ∙ was.items)));
      count = omega (arith, long, count, more);
    }

-- there is room for one that is to move
pub passing_room : (all left rest : List Spotted) (before after : List Item) (len many cap : ℕ) (e : Spotted) → left ≡ e ∷ rest → len + length all ≤ cap
    → IsPassing all left before after len many → many + 1 ≤ cap
passing_room all left rest before after len many cap e is room was =
    let long = ap length is in
    let count = was.count in
    omega (arith, long, count, room)

pub passing_all : (all left : List Spotted) (before after : List Item) (len many : ℕ) → left ≡ [] → IsPassing all left before after len many
    → (after ≡ before ++ map (λ k. k.item) (held_in all)) × (many ≡ len + length all)
passing_all all left before after len many none was =
    let few = ap length none in
    let count = was.count in
    (sym (append-nil after) ∙ (sym (ap (λ (l : List Spotted). after ++ map (λ k. k.item) (held_in l)) none) ∙ was.items), omega (arith, few, count))
