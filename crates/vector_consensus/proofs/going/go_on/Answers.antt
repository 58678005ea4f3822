use Rattle.std.proofs.Common.{true, false}
use Rattle.vector_consensus.proofs.Beginning.{extends_more, due_as, progress_as, first, begins, ended}
use Rattle.vector_consensus.proofs.going.go_on.Goals as goal

pub loop-alloc-init : goal.loop-alloc-init
loop-alloc-init g c = (
  λ k b is. is,
  λ at w d here.
      first g.M.MultiBox.stands g.M.MultiBox.rules g.met.M.MultiBox.multi_laws g.M.MultiBox.live g.M.MultiBox.shown g.met.M.MultiBox.shows at w d
      c.args.part.now c.args.own c.args.table.now c.args.tries.now.items here c.args.made.now.items,
)

pub loop-alloc-preserved : goal.loop-alloc-preserved
loop-alloc-preserved g c =
    let more = c.in_ok-begin.ensures.ok in
    let due =
    due_as g.M.MultiBox.shown c.args.part.now c.args.own c.args.table.now c.deref.result.now c.loop-alloc.tries.items c.count-count.result c.is_due.result true
    c.count-count.ensures c.deref.ensures.value c.is_due.ensures c.loop-alloc-test.true in (
      extends_more c.args.tries.now.items c.loop-alloc.tries.items c.begin.new.tries.items more.0 c.loop-alloc.invariant.0 more.1,
      λ at w d here.
          begins g.M.MultiBox.stands g.M.MultiBox.rules g.met.M.MultiBox.multi_laws g.M.MultiBox.live g.M.MultiBox.shown g.met.M.MultiBox.shows at w d
          c.args.part.now c.args.own c.args.table.now c.args.tries.now.items here c.loop-alloc.tries.items c.args.made.now.items c.loop-alloc.made.items
          (c.loop-alloc.invariant.1 at w d here) due c.begin.new.tries.items c.begin.new.made.items more,
    )

pub returns-clause-ok : goal.returns-clause-ok
returns-clause-ok g c =
    let due =
    due_as g.M.MultiBox.shown c.args.part.now c.args.own c.args.table.now c.deref.result.now c.loop-alloc.tries.items c.count-count.result c.is_due.result false
    c.count-count.ensures c.deref.ensures.value c.is_due.ensures c.loop-alloc-test.false in
    let next = progress_as g.M.MultiBox.shown c.args.part.now c.args.own c.deref-2.result.now c.loop-alloc.tries.items c.progress_of.result c.deref-2.ensures.value c.progress_of.ensures in
    λ at w d here.
    ended g.M.MultiBox.stands g.M.MultiBox.rules g.met.M.MultiBox.multi_laws g.M.MultiBox.live g.M.MultiBox.shown g.met.M.MultiBox.shows at w d
    c.args.part.now c.args.own c.args.table.now c.args.tries.now.items here c.loop-alloc.tries.items c.args.made.now.items c.loop-alloc.made.items
    (c.loop-alloc.invariant.1 at w d here) due c.progress_of.result next
