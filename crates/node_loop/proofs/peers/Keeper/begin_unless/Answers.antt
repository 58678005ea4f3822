use Rattle.std.proofs.Common.{◌≡◌, ◌<◌, ℕ, Option, Some, None, nat_lt, slice_set, sym, ap, ◌∙◌, arith}
use Rattle.std.proofs.lemmas.Bool.{lt-ltb, le-ltb, cond-true, cond-false}
use Rattle.node_loop.specs.declared.peers.Pending.{Pending}
use Rattle.node_loop.specs.Peers.{with_pending}
use Rattle.node_loop.specs.Resending.{nothing_more, newest_in, begins_at, begins_unless}
use Rattle.node_loop.proofs.Hearing.{pending_there}
use Rattle.node_loop.proofs.Sending.{both_of, answers_as, answers_nothing}
use Rattle.node_loop.proofs.peers.Keeper.begin_unless.Goals as goal

pub returns-then-pending-seq : goal.returns-then-pending-seq
returns-then-pending-seq c = record {
  begins = λ w i p is.
      let peer : ℕ = c.args.peer in
      let seq : ℕ = c.args.seq in
      let q : Pending = c.in-Some.pending in
      let below : peer < w.numbers.n = omega (arith, c.requires, is.kept.many) in
      let pending : p.pending i peer ≡ Some q = sym (is.pending.each peer below) ∙ (sym c.pending_of.ensures.pending ∙ c.in-Some.is) in
      let up_to : ℕ → Option Pending = λ e. Some (record q { end = e }) in
      let now : Option Pending = up_to (newest_in (p.keeping i peer)) in
      let end = c.newest-end.ensures ∙ ap newest_in (is.kept.each peer below) in
      let stands = pending_there w.mode.version w.numbers.n i peer now c.args.self.now c.note_pending.new.self p is c.note_pending.ensures.rest
      (c.note_pending.ensures.pending ∙ ap (λ (e : ℕ). slice_set c.args.self.now.pending.items peer (up_to e)) end) in
      both_of w i _ _ _ (answers_as w i _ _ (nothing_more (with_pending i peer now p)) (begins_unless i peer seq (p.pending i peer) p)
      (sym (ap (λ (o : Option Pending). begins_unless i peer seq o p) pending
      ∙ cond-true (nat_lt q.last seq) (nothing_more (with_pending i peer now p)) (begins_at i peer seq p) (lt-ltb q.last seq c.if-pending-seq.true)))
      (answers_nothing w i _ (with_pending i peer now p) stands));
}

pub returns-else-pending-seq : goal.returns-else-pending-seq
returns-else-pending-seq c = record {
  begins = λ w i p is.
      let peer : ℕ = c.args.peer in
      let seq : ℕ = c.args.seq in
      let q : Pending = c.in-Some.pending in
      let below : peer < w.numbers.n = omega (arith, c.requires, is.kept.many) in
      let pending : p.pending i peer ≡ Some q = sym (is.pending.each peer below) ∙ (sym c.pending_of.ensures.pending ∙ c.in-Some.is) in
      let now : Option Pending = Some (record q { end = newest_in (p.keeping i peer) }) in
      let said = c.begin_at.ensures.begins w i p is in
      both_of w i _ _ _ (answers_as w i _ _ (begins_at i peer seq p) (begins_unless i peer seq (p.pending i peer) p)
      (sym (ap (λ (o : Option Pending). begins_unless i peer seq o p) pending
      ∙ cond-false (nat_lt q.last seq) (nothing_more (with_pending i peer now p)) (begins_at i peer seq p) (le-ltb q.last seq c.if-pending-seq.false)))
      (record { stands = said.0; more = said.1 }));
}

pub returns-in-None : goal.returns-in-None
returns-in-None c = record {
  begins = λ w i p is.
      let peer : ℕ = c.args.peer in
      let below : peer < w.numbers.n = omega (arith, c.requires, is.kept.many) in
      let pending : p.pending i peer ≡ None = sym (is.pending.each peer below) ∙ (sym c.pending_of.ensures.pending ∙ c.in-None.is) in
      let said = c.begin_at-in-None.ensures.begins w i p is in
      both_of w i _ _ _ (answers_as w i _ _ (begins_at i peer c.args.seq p) (begins_unless i peer c.args.seq (p.pending i peer) p)
      (sym (ap (λ (o : Option Pending). begins_unless i peer c.args.seq o p) pending)) (record { stands = said.0; more = said.1 }));
}
