use Rattle.std.proofs.Common.{◌≡◌, sym, ◌∙◌, arith}
use Rattle.ritas_base.specs.declared.mode.FrameVersion.TheVariants.{Three}
use Rattle.node_loop.specs.declared.output.Part.TheVariants as parts_are
use Rattle.node_loop.proofs.Sending.{both_of, answers_as, answers_part, asked_earlier, asked_three, not_three}
use Rattle.node_loop.proofs.peers.Keeper.asked.Goals as goal

pub returns-then-from-peers : goal.returns-then-from-peers
returns-then-from-peers c = record {
  asked = λ w i p is below. absurd (omega (arith, c.if-from-peers.true, c.peers.ensures, c.from.ensures, is.kept.many, below));
}

pub returns-in-One : goal.returns-in-One
returns-in-One c = record {
  asked = λ w i p is below.
      both_of w i _ _ _ (answers_as w i _ _ _ _
      (sym (asked_earlier w.mode.version i c.args.peer c.args.seq p (λ three. not_three c.args.self.now.version c.in-One.is (is.version_is ∙ three))))
      (answers_part w i c.args.peer parts_are.All _ p is below));
}

pub returns-in-Three : goal.returns-in-Three
returns-in-Three c = record {
  asked = λ w i p is below.
      let three : w.mode.version ≡ Three = sym is.version_is ∙ c.in-Three.is in
      let said = c.begin_unless.ensures.begins w i p is in
      both_of w i _ _ _ (answers_as w i _ _ _ _ (sym (asked_three w.mode.version i c.args.peer c.args.seq p three)) (record { stands = said.0; more = said.1 }));
}
