-- How the held items of a peer are kept: by groups, rounds and stamps, and the stamps are in the order in which they were held.
use Rattle.std.specs.Prelude.{◌≡◌, ℕ, ◌<◌, ◌≤◌, ◌==◌, nat_lt, Bool, true, not, List, [], ◌∷◌, ◌++◌, length, map, filter, count_by, Option, Some, None, IsSome, if◌then◌else◌}
use Rattle.std.specs.declared.cmp.Ordering.{Ordering}
use Rattle.std.specs.Ordering.{nat_cmp, bool_cmp, then_cmp, on}
use Rattle.std.specs.declared.ops.Bound.{Bound}
use Rattle.std.specs.declared.ops.Bound.TheVariants.{Excluded, Unbounded}
use Rattle.std.specs.BTreeMap.{is_at}
use Rattle.std.specs.BTreeMap.Range.{entries_between}
use Rattle.std.specs.Map.{lookup}
use Rattle.std.specs.List.{AllByRecursion}
use Rattle.indexmap.specs.IndexMap.{IndexMap}
use Rattle.ritas_base.specs.declared.item.Item.{Item}
use Rattle.ritas_base.specs.SlotOrder.{slot_cmp}
use Rattle.ooc_buffers.specs.Lists.{HeldItem}
use Rattle.ooc_buffers.specs.Groups.{group_of}
use Rattle.ooc_buffers.specs.Keys.{mark_of, IsKeyIndexed}
use Rattle.ooc_buffers.specs.declared.group.Group.{Group}
use Rattle.ooc_buffers.specs.declared.group.Spot.{Spot}
use Rattle.ooc_buffers.specs.declared.key.Key.{Key}

-- the order of spots: by group, then by round, then by mark, then by stamp
abbrev pub group_cmp : Group → Group → Ordering
group_cmp = then_cmp (on (λ g. g.is_column) bool_cmp) (on (λ g. g.slot) slot_cmp)

abbrev pub spot_cmp : Spot → Spot → Ordering
spot_cmp = then_cmp (on (λ s. s.group) group_cmp) (then_cmp (on (λ s. s.bround) nat_cmp) (then_cmp (on (λ s. s.mark) nat_cmp) (on (λ s. s.stamp) nat_cmp)))

-- an item with its spot
abbrev pub Spotted : Type 0
Spotted = Spot × HeldItem

abbrev pub held_in : List Spotted → List HeldItem
held_in xs = map (λ e. e.1) xs

-- an item put behind those of no later stamp
abbrev pub put : Spotted → List Spotted → List Spotted
put e [] = e ∷ []
put e (x ∷ xs) = if nat_lt e.0.stamp x.0.stamp then e ∷ x ∷ xs else x ∷ put e xs

-- these put into a list, one after another
abbrev pub put_all : List Spotted → List Spotted → List Spotted
put_all xs [] = xs
put_all xs (e ∷ es) = put_all (put e xs) es

-- the items in the order of their stamps
abbrev pub in_order : List Spotted → List HeldItem
in_order xs = held_in (put_all [] xs)

-- those that pass a test, and those that don't
abbrev pub pass : (Item → Bool) → List Spotted → List Spotted
pass t xs = filter (λ e. t e.1.item) xs

abbrev pub fail : (Item → Bool) → List Spotted → List Spotted
fail t xs = filter (λ e. not (t e.1.item)) xs

-- an item stands where its group, its round, its mark and a stamp say
pub record IsAt (next : ℕ) (e : Spotted) : Type 0 where
  pub group : e.0.group ≡ group_of e.1.item
  pub bround : e.0.bround ≡ e.1.item.slot.bround
  pub mark : e.0.mark ≡ mark_of e.1.item
  pub stamp : e.0.stamp < next

abbrev pub AreAt : ℕ → List Spotted → Type 0
AreAt next xs = AllByRecursion (IsAt next) xs

-- how many have a stamp
abbrev pub with_stamp : ℕ → List Spotted → ℕ
with_stamp k xs = count_by (λ e. e.0.stamp == k) xs

-- no two have the same stamp
abbrev pub AreApart : List Spotted → Type 0
AreApart xs = (k : ℕ) → with_stamp k xs ≤ 1

-- the items stand where they should, each with a stamp of its own, and the index and the number of bytes are those of all
pub record AreSpotted {S : Type 0} (index : IndexMap Key ℕ S) (bytes next : ℕ) (xs : List Spotted) : Type 0 where
  pub ats : AreAt next xs
  pub apart : AreApart xs
  pub keyed : IsKeyIndexed index bytes (held_in xs)

-- those from a spot on
abbrev pub rest_from : Bound Spot → List Spotted → List Spotted
rest_from from xs = entries_between spot_cmp from Unbounded xs

-- behind all of a spot's group
abbrev pub spot_behind : Spot → Spot
spot_behind spot = record { group = spot.group; bround = 255; mark = 18446744073709551615; stamp = 18446744073709551615 }

-- there is an item at the spot, which is from there on
pub record Steps (from : Bound Spot) (xs : List Spotted) (spot : Spot) : Type 0 where
  pub is : IsSome (lookup (is_at (spot_cmp spot)) xs)
  pub fewer : length (rest_from (Excluded spot) xs) < length (rest_from from xs)

-- the item at the spot is the first that passes from there on
pub record IsFound (t : Item → Bool) (from : Bound Spot) (xs : List Spotted) (spot : Spot) : Type 0 where
  pub item : HeldItem
  pub is : lookup (is_at (spot_cmp spot)) xs ≡ Some item
  pub passes : t item.item ≡ true
  pub first : pass t (rest_from from xs) ≡ (spot, item) ∷ pass t (rest_from (Excluded spot) xs)

-- the first item that passes from there on, if there is one
abbrev pub IsNext : (Item → Bool) → Bound Spot → List Spotted → Option Spot → Type 0
IsNext t from xs None = pass t (rest_from from xs) ≡ []
IsNext t from xs (Some spot) = IsFound t from xs spot

-- an item has left these
pub record Leaves (e : Spotted) (old new : List Spotted) : Type 0 where
  pub front : List Spotted
  pub back : List Spotted
  pub was : old ≡ front ++ e ∷ back
  pub now : new ≡ front ++ back

-- the first item that passes has left, and of the others that pass all are behind it
pub record HasLeft (t : Item → Bool) (from from' : Bound Spot) (old new : List Spotted) (e : Spotted) : Type 0 where
  pub passes : t e.1.item ≡ true
  pub first : pass t (rest_from from old) ≡ e ∷ pass t (rest_from from' new)
  pub kept : fail t new ≡ fail t old
  pub behind : length (pass t new) ≡ length (pass t (rest_from from' new))

abbrev pub Takes : (Item → Bool) → Bound Spot → Bound Spot → List Spotted → List Spotted → Option Spotted → Type 0
Takes t from from' old new None = pass t (rest_from from old) ≡ []
Takes t from from' old new (Some e) = HasLeft t from from' old new e
