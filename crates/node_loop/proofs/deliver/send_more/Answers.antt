use Rattle.std.proofs.Common.{refl, subst}
use Rattle.node_loop.proofs.Taking.{given_none, given_one}
use Rattle.node_loop.specs.declared.output.More.{More}
use Rattle.node_loop.specs.Deeds.{sends}
use Rattle.node_loop.specs.Groups.{FitsPeers}
use Rattle.node_loop.proofs.deliver.send_more.Goals as goal

pub returns-in-Nothing : goal.returns-in-Nothing
returns-in-Nothing g c = record {
  sends = λ w es numbers ws p stands fits. rw c.in-Nothing.is (given_none _ _ _);
}

pub returns-in-Note : goal.returns-in-Note
returns-in-Note g c = record {
  sends = λ w es numbers ws p stands fits.
      let act = sends c.args.at c.in-Note.peer c.in-Note.bytes in
      rw c.in-Note.is (given_one _ act act _ _ _ _ _ refl c.send.ensures.ok c.send.ensures.err c.send.ensures.cause c.send.ensures.count);
}

pub returns-in-Kept : goal.returns-in-Kept
returns-in-Kept g c = record {
  sends = λ w es numbers ws p stands fits.
      rw c.in-Kept.is (c.send_again.ensures.sends w es numbers ws p stands (subst (λ (more : More). FitsPeers w p.keeping c.args.at more) c.in-Kept.is fits));
}
