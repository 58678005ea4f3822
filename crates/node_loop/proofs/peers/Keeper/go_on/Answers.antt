use Rattle.std.proofs.Common.{◌≡◌, ◌<◌, ℕ, Option, Some, None, true, false, sym, ap, ◌∙◌, arith}
use Rattle.std.proofs.lemmas.Bool.{cond-true, cond-false}
use Rattle.link_resume.specs.Lists.{between}
use Rattle.node_loop.specs.declared.peers.Pending.{Pending}
use Rattle.node_loop.specs.Resending.{nothing_more, has_none, sends_batch, goes_on}
use Rattle.node_loop.proofs.Sending.{both_of, answers_as, answers_nothing}
use Rattle.node_loop.proofs.peers.Keeper.go_on.Goals as goal

pub returns-then-is_taken : goal.returns-then-is_taken
returns-then-is_taken c = record {
  goes = λ w i p is.
      let peer : ℕ = c.args.peer in
      let q : Pending = c.in-Some.pending in
      let below : peer < w.numbers.n = omega (arith, c.requires, is.kept.many) in
      let pending : p.pending i peer ≡ Some q = sym (is.pending.each peer below) ∙ (sym c.pending_of.ensures.pending ∙ c.in-Some.is) in
      let taken : has_none (between q.after q.last (p.keeping i peer)) ≡ true =
      ap (λ ks. has_none (between q.after q.last ks)) (sym (is.kept.each peer below)) ∙ (sym c.is_taken.ensures ∙ c.if-is_taken.true) in
      let said = c.send_batch.ensures.batch w i p is in
      both_of w i _ _ _ (answers_as w i _ _ (sends_batch i peer (Some q.last) q.end q.most p) (goes_on i peer (p.pending i peer) p)
      (sym (ap (λ (o : Option Pending). goes_on i peer o p) pending
      ∙ cond-true (has_none (between q.after q.last (p.keeping i peer))) (sends_batch i peer (Some q.last) q.end q.most p) (nothing_more p) taken))
      (record { stands = said.0; more = said.1 }));
}

pub returns-else-is_taken : goal.returns-else-is_taken
returns-else-is_taken c = record {
  goes = λ w i p is.
      let peer : ℕ = c.args.peer in
      let q : Pending = c.in-Some.pending in
      let below : peer < w.numbers.n = omega (arith, c.requires, is.kept.many) in
      let pending : p.pending i peer ≡ Some q = sym (is.pending.each peer below) ∙ (sym c.pending_of.ensures.pending ∙ c.in-Some.is) in
      let left : has_none (between q.after q.last (p.keeping i peer)) ≡ false =
      ap (λ ks. has_none (between q.after q.last ks)) (sym (is.kept.each peer below)) ∙ (sym c.is_taken.ensures ∙ c.if-is_taken.false) in
      both_of w i _ _ _ (answers_as w i _ _ (nothing_more p) (goes_on i peer (p.pending i peer) p)
      (sym (ap (λ (o : Option Pending). goes_on i peer o p) pending
      ∙ cond-false (has_none (between q.after q.last (p.keeping i peer))) (sends_batch i peer (Some q.last) q.end q.most p) (nothing_more p) left))
      (answers_nothing w i _ p is));
}

pub returns-in-None : goal.returns-in-None
returns-in-None c = record {
  goes = λ w i p is.
      let peer : ℕ = c.args.peer in
      let below : peer < w.numbers.n = omega (arith, c.requires, is.kept.many) in
      let pending : p.pending i peer ≡ None = sym (is.pending.each peer below) ∙ (sym c.pending_of.ensures.pending ∙ c.in-None.is) in
      both_of w i _ _ _ (answers_as w i _ _ (nothing_more p) (goes_on i peer (p.pending i peer) p)
      (sym (ap (λ (o : Option Pending). goes_on i peer o p) pending)) (answers_nothing w i _ p is));
}
