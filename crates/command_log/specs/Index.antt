-- The index of a log: a client's number and a request's are one key, under which the position stands.
use Rattle.std.specs.Prelude.{◌≡◌, ℕ, ◌+◌, ◌*◌, ◌<◌, List, length}
use Rattle.std.specs.Ordering.{nat_cmp}
use Rattle.std.specs.BTreeMap.{BTreeMap, get}
use Rattle.command_log.specs.Rows.{Row, position_of, AreOnce, HasRow}

-- the key: the client's number in the upper 32 bits, the request's in the lower
abbrev pub row_key : ℕ → ℕ → ℕ
row_key client request = client * 4294967296 + request

-- the numbers of clients and of requests have four bytes
abbrev pub HaveFourBytes : List Row → Type 0
HaveFourBytes rows = (r : Row) → HasRow rows r → (r.client < 4294967296) × (r.request < 4294967296)

-- the index has each row's position and no other, each client and request has one row, and positions and numbers fit
pub record IsIndexed (index : BTreeMap ℕ ℕ) (rows : List Row) : Type 0 where
  pub finds : (client request : ℕ) → client < 4294967296 → request < 4294967296 → get nat_cmp index (row_key client request) ≡ position_of rows client request
  pub once : AreOnce rows
  pub many : length rows < 4294967296
  pub numbers : HaveFourBytes rows
