use Rattle.std.proofs.Common.{◌≡◌, ◌<◌, ◌≤◌, ℕ, None, nat_lt, sym, ◌∙◌, ap, arith}
use Rattle.std.proofs.lemmas.Bool.{lt-ltb, le-ltb, cond-true, cond-false}
use Rattle.ritas_base.specs.declared.mode.FrameVersion.TheVariants.{Three}
use Rattle.node_loop.specs.declared.output.Part.TheVariants as parts_are
use Rattle.node_loop.specs.Resending.{nothing_more, connected, newest_in, batch_step, sends_batch}
use Rattle.node_loop.proofs.Sending.{both_of, answers_as, answers_nothing, answers_part, connected_earlier, connected_three, not_three}
use Rattle.node_loop.proofs.peers.Keeper.connected.Goals as goal

pub returns-then-from-peers : goal.returns-then-from-peers
returns-then-from-peers c = record {
  connected = λ w i p is.
      let past : w.numbers.n ≤ c.args.peer = omega (arith, c.if-from-peers.true, c.peers.ensures, c.from.ensures, is.kept.many) in
      both_of w i _ _ _ (answers_as w i _ _ _ _
      (sym (cond-false (nat_lt c.args.peer w.numbers.n) (connected w.mode.version i c.args.peer p) (nothing_more p) (le-ltb c.args.peer w.numbers.n past)))
      (answers_nothing w i _ p is));
}

pub returns-in-Three : goal.returns-in-Three
returns-in-Three c = record {
  connected = λ w i p is.
      let below : c.args.peer < w.numbers.n = omega (arith, c.if-from-peers.false, c.peers.ensures, c.from.ensures, is.kept.many) in
      let three : w.mode.version ≡ Three = sym is.version_is ∙ c.in-Three.is in
      let end = c.newest-end.ensures ∙ ap newest_in (is.kept.each c.args.peer below) in
      let said = c.send_batch.ensures.batch w i p is in
      both_of w i _ _ _ (answers_as w i _ _ _ _
      (ap (λ (e : ℕ). sends_batch i c.args.peer None e batch_step p) end
      ∙ (sym (connected_three w.mode.version i c.args.peer p three)
      ∙ sym (cond-true (nat_lt c.args.peer w.numbers.n) (connected w.mode.version i c.args.peer p) (nothing_more p) (lt-ltb c.args.peer w.numbers.n below))))
      (record { stands = said.0; more = said.1 }));
}

pub returns-in-One : goal.returns-in-One
returns-in-One c = record {
  connected = λ w i p is.
      let below : c.args.peer < w.numbers.n = omega (arith, c.if-from-peers.false, c.peers.ensures, c.from.ensures, is.kept.many) in
      both_of w i _ _ _ (answers_as w i _ _ _ _
      (sym (connected_earlier w.mode.version i c.args.peer p (λ three. not_three c.args.self.now.version c.in-One.is (is.version_is ∙ three)))
      ∙ sym (cond-true (nat_lt c.args.peer w.numbers.n) (connected w.mode.version i c.args.peer p) (nothing_more p) (lt-ltb c.args.peer w.numbers.n below)))
      (answers_part w i c.args.peer parts_are.All _ p is below));
}
