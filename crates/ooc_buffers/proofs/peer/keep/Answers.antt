use Rattle.std.proofs.Common.{sym, subst, List}
use Rattle.ooc_buffers.specs.Spots.{Spotted, Leaves}
use Rattle.ooc_buffers.proofs.InOrder.{added}
use Rattle.ooc_buffers.proofs.peer.keep.Goals as goal

pub returns-clause-ok : goal.returns-clause-ok
returns-clause-ok c = λ next new ats.
    subst (λ (l : List Spotted). Leaves (c.args.spot, c.args.entry) l c.args.items.now.entries) (sym c.in_ok-insert.ensures.entries)
    (added next c.args.spot c.args.entry c.args.items.now.entries new ats)
