use Rattle.std.proofs.Common.{ℕ, List, length, ap, sym, Err, ◌∙◌, arith}
use Rattle.std.proofs.lemmas.Option.{get_or_from_slice_get}
use Rattle.std.proofs.lemmas.Result.{err_from_is_err_and}
use Rattle.std.specs.Map.Iter.{deref}
use Rattle.std.proofs.lemmas.Map.Iter.{iter_turn, iter_end}
use Rattle.std.proofs.lemmas.List.{length_push, take_all}
use Rattle.link_resume.specs.declared.kept.Kept.{Kept}
use Rattle.link_resume.specs.Lists.{kept_for}
use Rattle.outside.specs.declared.link.LinkFault.{LinkFault}
use Rattle.node_loop.specs.PeersStanding.{kept_by}
use Rattle.node_loop.proofs.Taking.{given_none, each_given, each_stops}
use Rattle.node_loop.proofs.deliver.send_kept.Goals as goal

pub loop-kept-init : goal.loop-kept-init
loop-kept-init g c = given_none _ _ _

pub loop-kept-preserved : goal.loop-kept-preserved
loop-kept-preserved g c =
    let kept : List Kept = kept_for c.args.resume.now.lists c.args.peer in
    let k : Kept = c.in-Some.kept.now in
    let place : ℕ = length c.loop-kept.yielded in
    let turn = iter_turn deref kept c.loop-kept.yielded c.into_iter-kept-iterator.result c.loop-kept.kept-iterator c.next.new.self c.next.result
    (c.into_iter-kept-iterator.ensures.into_iter_gives ∙ c.frames-kept-items.ensures) c.loop-kept.yielded_by c.in-Some.kept c.in-Some.is c.next.ensures.steps in
    rw (length_push c.loop-kept.yielded c.in-Some.kept)
    (each_given (kept_by c.args.at c.args.peer) kept place k k _ _ _ _ _ _ _ turn.0 (sym (get_or_from_slice_get kept place k k turn.1)) c.loop-kept.invariant
    c.in_ok-send_frame.ensures.sends)

pub returns-in_err-send_frame : goal.returns-in_err-send_frame
returns-in_err-send_frame g c = record {
  sends =
      let kept : List Kept = kept_for c.args.resume.now.lists c.args.peer in
      let k : Kept = c.in-Some.kept.now in
      let place : ℕ = length c.loop-kept.yielded in
      let turn = iter_turn deref kept c.loop-kept.yielded c.into_iter-kept-iterator.result c.loop-kept.kept-iterator c.next.new.self c.next.result
      (c.into_iter-kept-iterator.ensures.into_iter_gives ∙ c.frames-kept-items.ensures) c.loop-kept.yielded_by c.in-Some.kept c.in-Some.is c.next.ensures.steps in
      let fault = err_from_is_err_and c.from_residual.result c.from_residual.ensures.1 in
      rw (fault.1 ∙ ap (λ (x : LinkFault). Err x) fault.2)
      (each_stops (kept_by c.args.at c.args.peer) kept place k k _ _ _ _ _ _ _ _ turn.0 (sym (get_or_from_slice_get kept place k k turn.1)) c.loop-kept.invariant
      c.in_err-send_frame.ensures.sends);
}

pub returns : goal.returns
returns g c = record {
  sends =
      let kept : List Kept = kept_for c.args.resume.now.lists c.args.peer in
      let end = iter_end deref kept c.loop-kept.yielded c.into_iter-kept-iterator.result c.loop-kept.kept-iterator c.next.new.self c.next.result
      (c.into_iter-kept-iterator.ensures.into_iter_gives ∙ c.frames-kept-items.ensures) c.loop-kept.yielded_by c.in-None.is c.next.ensures.steps in
      rw (take_all (length c.loop-kept.yielded) kept (omega (arith, end.1))) at c.loop-kept.invariant;
}
