use Rattle.std.proofs.Common.{◌≡◌, ℕ, ◌+◌, ◌<◌, length, List, true}
use Rattle.std.specs.List.{AllByRecursion}
use Rattle.ritas_base.specs.declared.id.Id.{Id}
use Rattle.keyed_channel.specs.KeyRow.{KeyRow}
use Rattle.ritas_core.specs.Rules.{Rules}
use Rattle.ritas_core.specs.Machine.{CoreState}
use Rattle.ritas_core.specs.Stands.{Meaning, CoreStands}
use Rattle.ritas_core.specs.declared.kernel.Core.{Core}
use Rattle.command_log.specs.Rows.{entries_of_log}
use Rattle.command_log.specs.Standing.{Ledger, StandsFor}
use Rattle.replica.specs.Replica.{with_keys}
use Rattle.replica.specs.CommandRows.{command_of, HasCommand}
use Rattle.replica.proofs.FollowSteps.{first_ids}
use Rattle.replica.proofs.following.follow.Given as goal

-- the log after the first i identifiers
pub record HasFollowed {S E C : Type 0} (m : Meaning S E C KeyRow) (core : Core S E C KeyRow) (ids : List Id) (i : ℕ) (old now : Ledger) : Type 0 where
  pub f : now.f ≡ old.f
  pub start : now.start ≡ old.start
  pub stands : (r : Rules) (st : CoreState) → CoreStands m core r st → st.live ≡ true → AllByRecursion (HasCommand r st.history) ids
      → (xs : List Id) → length old.start.base + length xs + length ids < 4294967295 → StandsFor old (entries_of_log (command_of r st.history) xs)
      → StandsFor now (entries_of_log (command_of r st.history) (first_ids ids i xs))

abbrev pub invariant-loop-id : goal.invariant-loop-id
invariant-loop-id g l =
    let b = g.E.Broadcast in
    HasFollowed (with_keys g.S.Service.stands g.S.Service.rules g.S.Service.shown b.stands b.rules b.shown g.C.Coin.bits) l.core l.ids l.id-index l.initial.log l.log
