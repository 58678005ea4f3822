use Rattle.std.proofs.Common.{List, sym, subst, map, take}
use Rattle.std.proofs.lemmas.List.{take_all}
use Rattle.std.proofs.lemmas.Result.{err_from_is_err_and}
use Rattle.replica.specs.Out.{OutFrame}
use Rattle.node_loop.specs.Peers.{Peers}
use Rattle.node_loop.specs.PeersStanding.{AreKept, made_as}
use Rattle.node_loop.specs.Recovering.{all_newest}
use Rattle.node_loop.proofs.Recalling.{newest_next}
use Rattle.node_loop.proofs.recall.all_newest.Goals as goal

pub loop-frame-init : goal.loop-frame-init
loop-frame-init c = λ v n i k p kept. kept

pub loop-frame-preserved : goal.loop-frame-preserved
loop-frame-preserved c = λ v n i k p kept.
    let xs = c.args.frames.now in
    let x : OutFrame = c.frame-item.result in
    let q : Peers = all_newest v (map (made_as k i) (take c.loop-frame.frame-index xs)) p in
    subst (λ (r : Peers). AreKept v n i c.keep_newest.new.resume r.keeping) (sym (newest_next v k i xs c.loop-frame.frame-index x p c.loop-frame-test.true c.frame-item.is))
    (c.in_ok-keep_newest.ensures.keeps v n i k q (c.loop-frame.invariant v n i k p kept))

pub returns : goal.returns
returns c = record {
  keeps = λ v n i k p kept.
      subst (λ (l : List OutFrame). AreKept v n i c.loop-frame.resume (all_newest v (map (made_as k i) l) p).keeping)
      (take_all c.loop-frame.frame-index c.args.frames.now c.loop-frame-test.false) (c.loop-frame.invariant v n i k p kept);
  memory = λ v n i k p kept. tt;
}

pub returns-in_err-keep_newest-clause-memory : goal.returns-in_err-keep_newest-clause-memory
returns-in_err-keep_newest-clause-memory c = λ v n i k p kept.
    let failed = err_from_is_err_and c.from_residual.result c.from_residual.ensures.1 in
    let x : OutFrame = c.frame-item.result in
    let q : Peers = all_newest v (map (made_as k i) (take c.loop-frame.frame-index c.args.frames.now)) p in
    rw failed.1 (c.loop-frame.frame-index, x, c.loop-frame-test.true, sym c.frame-item.is, c.in_err-keep_newest.ensures.memory v n i q (c.loop-frame.invariant v n i k p kept))
