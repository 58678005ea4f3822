-- What the value stands for that keeps the identifiers of delivered commands: the log, and those that aren't in it.
use Rattle.std.specs.Prelude.{◌≡◌, ℕ, ◌<◌, true, List, reverse, slice_index}
use Rattle.std.specs.List.{AllByRecursion}
use Rattle.ritas_base.specs.declared.id.Id.{Id}
use Rattle.ritas_base.specs.Limits.{number_limit}
use Rattle.layer_api.specs.Service.{has_id, IsPart}
use Rattle.ordered_rounds.specs.Identifiers.{passing_ids, is_without, append_ids}
use Rattle.ordered_rounds.specs.Early.{is_known, IsTight}
use Rattle.ordered_rounds.specs.Pending.{HoldsIds}
use Rattle.ordered_rounds.specs.declared.ledger.Ledger.{Ledger}

-- by the identifiers that were delivered, and the log; each the newest first
pub record LedgerStands (l : Ledger) (delivered log : List Id) : Type 0 where
  pub pending : HoldsIds l.pending (passing_ids (is_without log) delivered)
  pub listed : reverse l.log.items ≡ log
  pub known : (o k : ℕ) → o < 31 → is_known (slice_index l.bases o) l.early o k ≡ has_id log (record { origin = o; num = k })
  pub tight : IsTight 31 l.bases l.early
  pub origins : AllByRecursion (λ x. x.origin < 31) delivered
  pub heard : (x : Id) → has_id log x ≡ true → has_id delivered x ≡ true

-- the command was delivered, and has a number of the session
pub record IsReady (delivered : List Id) (x : Id) : Type 0 where
  pub has : has_id delivered x ≡ true
  pub origin : x.origin < 31
  pub number : x.num < number_limit

-- the ledger with these bases
abbrev pub at_bases : Ledger → List ℕ → Ledger
at_bases l bases = record l { bases = bases }

-- of these the first are appended, where the log didn't have them, and so many are left
pub record Appending (l : Ledger) (delivered log all rest : List Id) : Type 0 where
  pub now : List Id
  pub stands : LedgerStands l delivered now
  pub grown : IsPart log now
  pub ends : append_ids (passing_ids (is_without now) rest) now ≡ append_ids (passing_ids (is_without log) all) log

-- some of the wanted ones are appended, in their order, and the bases are as before
pub record Between (before after : Ledger) (wanted log : List Id) : Type 0 where
  pub grown : IsPart log (reverse after.log.items)
  pub within : IsPart (reverse after.log.items) (append_ids (passing_ids (is_without log) wanted) log)
  pub bases : after.bases ≡ before.bases
