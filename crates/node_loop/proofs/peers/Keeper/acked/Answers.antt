use Rattle.std.proofs.Common.{◌≡◌, refl, sym, ◌∙◌, arith}
use Rattle.ritas_base.specs.declared.mode.FrameVersion.TheVariants.{Three}
use Rattle.node_loop.specs.Peers.{acknowledged}
use Rattle.node_loop.proofs.Sending.{both_of, answers_as, answers_nothing, taken_there, acked_earlier, acked_three, not_three}
use Rattle.node_loop.proofs.peers.Keeper.acked.Goals as goal

pub returns-then-from-peers : goal.returns-then-from-peers
returns-then-from-peers c = record {
  acked = λ w i p is below. absurd (omega (arith, c.if-from-peers.true, c.peers.ensures, c.from.ensures, is.kept.many, below));
}

pub returns-in-Three : goal.returns-in-Three
returns-in-Three c = record {
  acked = λ w i p is below.
      let three : w.mode.version ≡ Three = sym is.version_is ∙ c.in-Three.is in
      let taken = taken_there w.mode.version w.numbers.n i c.args.peer c.args.seq c.args.self.now (record c.args.self.now { resume = c.acked.new.self }) p is below refl c.acked.ensures in
      let said = c.go_on.ensures.goes w i (acknowledged i c.args.peer c.args.seq p) taken in
      both_of w i _ _ _ (answers_as w i _ _ _ _ (sym (acked_three w.mode.version i c.args.peer c.args.seq p three)) (record { stands = said.0; more = said.1 }));
}

pub returns-in-One : goal.returns-in-One
returns-in-One c = record {
  acked = λ w i p is below.
      let taken = taken_there w.mode.version w.numbers.n i c.args.peer c.args.seq c.args.self.now (record c.args.self.now { resume = c.acked.new.self }) p is below refl c.acked.ensures in
      both_of w i _ _ _ (answers_as w i _ _ _ _
      (sym (acked_earlier w.mode.version i c.args.peer c.args.seq p (λ three. not_three c.args.self.now.version c.in-One.is (is.version_is ∙ three))))
      (answers_nothing w i _ (acknowledged i c.args.peer c.args.seq p) taken));
}
