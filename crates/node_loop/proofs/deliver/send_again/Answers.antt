use Rattle.std.proofs.Common.{List, Ok, sym, subst}
use Rattle.outside.specs.LinkCalls.{each_act}
use Rattle.link_resume.specs.declared.kept.Kept.{Kept}
use Rattle.node_loop.specs.Outs.{LinkTook}
use Rattle.node_loop.specs.PeersStanding.{kept_by}
use Rattle.node_loop.specs.Resending.{part_of}
use Rattle.node_loop.proofs.Taking.{given_none}
use Rattle.node_loop.proofs.deliver.send_again.Goals as goal

pub returns-in-Some : goal.returns-in-Some
returns-in-Some g c = record {
  sends = λ w es numbers ws p stands fits.
      subst (λ (kept : List Kept). LinkTook g.L.Link (each_act (kept_by c.args.at c.args.peer) (part_of c.args.part kept)) c.args.link.now c.send_part.new.link c.send_part.result)
      (c.in-Some.ensures.kept w es numbers ws p c.args.part stands fits) c.send_part.ensures.sends;
}

pub returns-in-None : goal.returns-in-None
returns-in-None g c = record {
  sends = λ w es numbers ws p stands fits.
      subst (λ (kept : List Kept). LinkTook g.L.Link (each_act (kept_by c.args.at c.args.peer) kept) c.args.link.now c.args.link.now (Ok tt))
      (sym (c.in-None.ensures.kept w es numbers ws p c.args.part stands fits)) (given_none _ _ _);
}
