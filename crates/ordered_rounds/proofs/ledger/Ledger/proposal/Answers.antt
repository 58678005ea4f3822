use Rattle.std.proofs.Common.{◌<◌}
use Rattle.ordered_rounds.specs.Identifiers.{passing_ids, is_without}
use Rattle.ordered_rounds.specs.Laws.Ordered.{kept_all}
use Rattle.ordered_rounds.proofs.ledger.Ledger.proposal.Goals as goal

pub returns : goal.returns
returns c = λ delivered log stands.
    c.in_ok-taken.ensures (passing_ids (is_without log) delivered) stands.pending (kept_all (λ x. x.origin < 31) (is_without log) delivered stands.origins)
