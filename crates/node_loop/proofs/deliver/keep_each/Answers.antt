use Rattle.std.proofs.Common.{List, sym, subst, map, take, arith}
use Rattle.std.proofs.lemmas.Result.{err_from_is_err_and}
use Rattle.std.proofs.lemmas.List.{take_all}
use Rattle.replica.specs.Out.{OutFrame}
use Rattle.node_loop.specs.Peers.{Peers, keep_all}
use Rattle.node_loop.specs.PeersStanding.{AreKept, made_as}
use Rattle.node_loop.proofs.Keeping.{keep_next}
use Rattle.node_loop.proofs.deliver.keep_each.Goals as goal

pub loop-frame-init : goal.loop-frame-init
loop-frame-init c = λ v n i k p kept. kept

pub loop-frame-preserved : goal.loop-frame-preserved
loop-frame-preserved c = λ v n i k p kept.
    let xs = c.args.frames.now in
    let x : OutFrame = c.frame-item.result in
    let q : Peers = keep_all v (map (made_as k i) (take c.loop-frame.frame-index xs)) p in
    subst (λ (r : Peers). AreKept v n i c.keep.new.resume r.keeping) (sym (keep_next v k i xs c.loop-frame.frame-index x p c.loop-frame-test.true c.frame-item.is))
    (c.in_ok-keep.ensures.kept v n i q (c.loop-frame.invariant v n i k p kept))

pub returns : goal.returns
returns c = record {
  keeps = λ v n i k p kept.
      subst (λ (l : List OutFrame). AreKept v n i c.loop-frame.resume (keep_all v (map (made_as k i) l) p).keeping)
      (take_all c.loop-frame.frame-index c.args.frames.now c.loop-frame-test.false) (c.loop-frame.invariant v n i k p kept);
  memory = λ v n i k p kept. tt;
}

pub returns-in_err-keep-clause-memory : goal.returns-in_err-keep-clause-memory
returns-in_err-keep-clause-memory c = λ v n i k p kept.
    let failed = err_from_is_err_and c.from_residual.result c.from_residual.ensures.1 in
    let x : OutFrame = c.frame-item.result in
    let many = (c.loop-frame.invariant v n i k p kept).many in
    let of_peer = c.in_err-keep.ensures.err.0 in
    rw failed.1 (c.loop-frame.frame-index, x, c.loop-frame-test.true, sym c.frame-item.is, omega (arith, many, of_peer))
