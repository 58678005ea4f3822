use Rattle.std.proofs.Common.{ap, Err, ◌+◌, ◌<◌, ◌≤◌, inl, inr, length, refl, arith}
use Rattle.std.proofs.lemmas.Bool.{cases_Bool}
use Rattle.link_resume.specs.Lists.{kept_for, bytes_in, may_have, IsWithin}
use Rattle.node_loop.proofs.Keeping.{kept_more, kept_full, kept_none}
use Rattle.node_loop.proofs.peers.keep.Goals as goal

pub returns-then-from-peers : goal.returns-then-from-peers
returns-then-from-peers c = record {
  kept = λ v n i p kept.
      let past : n ≤ c.args.peer = omega (arith, c.if-from-peers.true, c.peers.ensures, c.from.ensures, kept.many) in
      kept_none v n i c.args.peer _ c.args.resume.now p kept past;
  err = tt;
}

pub returns-in-Ok : goal.returns-in-Ok
returns-in-Ok c = record {
  kept = λ v n i p kept.
      let here : c.args.peer < n = omega (arith, c.if-from-peers.false, c.peers.ensures, c.from.ensures, kept.many) in
      let old = c.args.resume.now in
      let bytes = bytes_in (kept_for old.lists c.args.peer) in
      let room : IsWithin old.limit (bytes + length c.args.frame.now) =
      elim (cases_Bool (may_have old.limit (bytes + length c.args.frame.now))) [
        | inl fits ↦ fits
        | inr over ↦ absurd (let e = (c.in-Ok.ensures.full bytes).1 (refl, over) in cc)
      ] in
      kept_more v n i c.args.peer c.parts.result.seq c.args.frame.now old c.keep.new.self p kept here c.parts.ensures.1 c.in-Ok.ensures.ok room;
  err = tt;
}

pub returns-in-Err-QueueFull : goal.returns-in-Err-QueueFull
returns-in-Err-QueueFull c = record {
  kept = λ v n i p kept.
      let here : c.args.peer < n = omega (arith, c.if-from-peers.false, c.peers.ensures, c.from.ensures, kept.many) in
      let old = c.args.resume.now in
      let said = (c.in-Err-QueueFull.ensures.full c.in-Err-QueueFull.field-0-0).0 (ap Err c.in-Err-QueueFull.field-0-is) in
      kept_full v n i c.args.peer c.args.frame.now old c.keep.new.self p kept here c.in-Err-QueueFull.ensures.err
      (rw (← said.0) said.1);
  err = tt;
}

pub returns-in-Err-Mem : goal.returns-in-Err-Mem
returns-in-Err-Mem c = record {
  kept = λ v n i p kept. tt;
  err =
      let old = c.args.resume.now in
      let bytes = bytes_in (kept_for old.lists c.args.peer) in (
        omega (arith, c.if-from-peers.false, c.peers.ensures, c.from.ensures),
        elim (cases_Bool (may_have old.limit (bytes + length c.args.frame.now))) [
          | inl fits ↦ fits
          | inr over ↦ absurd (let e = (c.in-Err-Mem.ensures.full bytes).1 (refl, over) in cc)
        ],
      );
}
