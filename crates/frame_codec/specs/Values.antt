-- What stands in values: identifiers, entries by place, rows by place; and how these are written.
use Rattle.std.specs.Prelude.{◌≡◌, ◌==◌, Bool, true, false, ℕ, zero, suc, ◌≤◌, ◌/◌, List, [], ◌∷◌, ◌++◌, length, take, drop, Option, Some, None, if◌then◌else◌}
use Rattle.std.specs.List.{flat_map, slice_get, filter, range_with_len, AllByRecursion}
use Rattle.std.specs.Int.RustNames.{count_ones}
use Rattle.std.specs.Int.{w16, w32, to_be_bytes, from_be_bytes}
use Rattle.ritas_base.specs.Members.{has_member, member_count}
use Rattle.ritas_base.specs.declared.id.Id.{Id}
use Rattle.ritas_base.specs.Numbers.{Numbers, wait_of, support_of}
use Rattle.frame_codec.specs.Format.{Is}
use Rattle.frame_codec.specs.Grammar.{id_of, is_places, class2, class3}

-- ---- identifier lists

abbrev pub id_bytes : Id → List ℕ
id_bytes x = x.origin ∷ to_be_bytes w32 x.num

abbrev pub ids_bytes : List Id → List ℕ
ids_bytes xs = flat_map id_bytes xs

unfoldable pub ids_in : ℕ → List ℕ → List Id
ids_in zero bytes = []
ids_in (suc count) bytes = id_of (take 5 bytes) ∷ ids_in count (drop 5 bytes)

abbrev pub ids_of : List ℕ → List Id
ids_of value = ids_in (length value / 5) value

-- ---- what is there for each place of a mask, ascending

unfoldable pub mask_of : List ℕ → ℕ
mask_of value = from_be_bytes w32 (take 4 value)

-- the members of a mask, ascending
unfoldable pub places : ℕ → List ℕ
places mask = filter (has_member mask) (range_with_len 0 32)

unfoldable pub at_place : {A : Type 0} → ℕ → List A → ℕ → Option A
at_place mask xs k = if has_member mask k then slice_get xs (member_count k mask) else None

-- ---- vectors

abbrev pub entry_bytes : List ℕ → List ℕ
entry_bytes e = to_be_bytes w16 (length e) ++ e

abbrev pub vector_bytes : ℕ → List (List ℕ) → List ℕ
vector_bytes mask entries = to_be_bytes w32 mask ++ flat_map entry_bytes entries

unfoldable pub len_in : List ℕ → ℕ
len_in bytes = from_be_bytes w16 (take 2 bytes)

abbrev pub entry_in_front : List ℕ → List ℕ
entry_in_front bytes = take (len_in bytes) (drop 2 bytes)

abbrev pub after_entry : List ℕ → List ℕ
after_entry bytes = drop (len_in bytes) (drop 2 bytes)

unfoldable pub entries_in : ℕ → List ℕ → List (List ℕ)
entries_in zero bytes = []
entries_in (suc count) bytes = entry_in_front bytes ∷ entries_in count (after_entry bytes)

-- all entries of a vector
abbrev pub vector_entries : List ℕ → List (List ℕ)
vector_entries vector = entries_in (count_ones (mask_of vector)) (drop 4 vector)

-- the entry at a replica's place, if it has one
abbrev pub entry_at_place : List ℕ → ℕ → Option (List ℕ)
entry_at_place vector k = at_place (mask_of vector) (vector_entries vector) k

-- whether something is there that passes a test
abbrev pub is_passed : (List ℕ → Bool) → Option (List ℕ) → Bool
is_passed test None = false
is_passed test (Some e) = test e

-- so many entries stand in front
unfoldable pub HasEntries : ℕ → List ℕ → Type 0
HasEntries zero bytes = Unit {0}
HasEntries (suc count) bytes = (2 ≤ length bytes) × (len_in bytes ≤ length (drop 2 bytes)) × HasEntries count (after_entry bytes)

unfoldable pub nth_entry : ℕ → List ℕ → List ℕ
nth_entry zero bytes = entry_in_front bytes
nth_entry (suc at) bytes = nth_entry at (after_entry bytes)

-- ---- columns

abbrev pub column_bytes : ℕ → List (List ℕ) → List ℕ
column_bytes mask rows = to_be_bytes w32 mask ++ flat_map (λ row. row) rows

unfoldable pub rows_in : ℕ → List ℕ → List (List ℕ)
rows_in zero bytes = []
rows_in (suc count) bytes = take 32 bytes ∷ rows_in count (drop 32 bytes)

-- a row, if it is whole
abbrev pub if_whole : Option (List ℕ) → Option (List ℕ)
if_whole None = None
if_whole (Some row) = if length row == 32 then Some row else None

-- the whole row that a column has for an echoer, if it has one
abbrev pub column_row : List ℕ → ℕ → Option (List ℕ)
column_row column echoer = if_whole (at_place (mask_of column) (rows_in (count_ones (mask_of column)) (drop 4 column)) echoer)

-- ---- VECTs that aren't none

abbrev pub vect_bytes : ℕ → List ℕ → List ℕ
vect_bytes mask value = to_be_bytes w32 mask ++ value

-- ---- what vectors, columns and VECTs are, in words on the whole value

pub record IsVector (p : Numbers) (root mask : ℕ) (es : List (List ℕ)) (value : List ℕ) : Type 0 where
  pub places : is_places p.n (wait_of p) mask ≡ true
  pub one_each : length es ≡ count_ones mask
  pub spelled : value ≡ vector_bytes mask es
  pub right : AllByRecursion (Is (class2 p root)) es

pub record IsColumn (n mask : ℕ) (rows : List (List ℕ)) (value : List ℕ) : Type 0 where
  pub places : is_places n 1 mask ≡ true
  pub one_each : length rows ≡ count_ones mask
  pub spelled : value ≡ column_bytes mask rows
  pub right : AllByRecursion (λ row. length row ≡ 32) rows

pub record IsVect (p : Numbers) (root mask : ℕ) (inner value : List ℕ) : Type 0 where
  pub places : is_places p.n (support_of p) mask ≡ true
  pub spelled : value ≡ vect_bytes mask inner
  pub right : Is (class3 p root) inner
