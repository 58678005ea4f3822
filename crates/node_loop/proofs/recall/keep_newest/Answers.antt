use Rattle.std.proofs.Common.{ℕ, List, OnOk, subst, arith}
use Rattle.std.proofs.lemmas.Result.{on_ok_weaker, on_err_weaker}
use Rattle.link_resume.specs.Lists.{most_kept, room_for}
use Rattle.node_loop.specs.Peers.{with_list, keeps}
use Rattle.node_loop.specs.PeersStanding.{AreKept}
use Rattle.node_loop.proofs.Recalling.{kept_in_room}
use Rattle.node_loop.proofs.recall.keep_newest.Goals as goal

pub returns : goal.returns
returns c = record {
  keeps = λ v n i k p kept.
      let to = c.args.frame.now.to in
      let bytes = c.args.frame.now.bytes in
      let room : ℕ → List _ = λ size. room_for (most_kept v) size (p.keeping i to) in
      subst (λ (size : ℕ). OnOk c.keep.result (AreKept v n i c.keep.new.resume (with_list i to (keeps v bytes (room size)) p).keeping)) c.len.ensures.is
      (on_ok_weaker c.keep.result (kept_in_room v n i to bytes (room c.len.result) c.keep.new.resume p)
      (c.keep.ensures.kept v n i (with_list i to (room c.len.result) p) (c.make_room.ensures.room v n i p kept)));
  memory = λ v n i p kept.
      let many = (c.make_room.ensures.room v n i p kept).many in
      on_err_weaker c.keep.result (λ wanted. omega (arith, many, wanted.0)) c.keep.ensures.err;
}
