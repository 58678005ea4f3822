use Rattle.std.proofs.Common.{sym, ◌∙◌, subst}
use Rattle.std.proofs.lemmas.Bool.{eqb-true, eqb-false}
use Rattle.node_loop.specs.declared.output.More.{More}
use Rattle.node_loop.specs.Groups.{FitsPeers}
use Rattle.node_loop.specs.Standing.{IsMore}
use Rattle.node_loop.proofs.Grouping.{now_as, now_none, now_some}
use Rattle.node_loop.proofs.deliver.more_now.Goals as goal

pub returns-in_default : goal.returns-in_default
returns-in_default g c = record { goes = λ w es numbers ws brings stands fits besides. now_as w c.args.at c.args.more brings (λ peer part is. c.in_default.not-Kept peer part is) besides }

pub returns-then-is_empty : goal.returns-then-is_empty
returns-then-is_empty g c = record {
  goes = λ w es numbers ws brings stands fits besides.
      let is = c.in-Kept.is in
      let kept = subst (λ (m : More). FitsPeers w brings.peers.keeping c.args.at m) is fits in
      now_none w c.args.at c.in-Kept.peer c.in-Kept.part brings (subst (λ (m : More). IsMore w c.args.at m brings) is besides)
      (eqb-true _ 0 (sym (c.is_empty.ensures.nothing w es numbers ws brings.peers stands kept) ∙ c.if-is_empty.true));
}

pub returns : goal.returns
returns g c = record {
  goes = λ w es numbers ws brings stands fits besides.
      let is = c.in-Kept.is in
      let kept = subst (λ (m : More). FitsPeers w brings.peers.keeping c.args.at m) is fits in
      now_some w c.args.at c.in-Kept.peer c.in-Kept.part brings (subst (λ (m : More). IsMore w c.args.at m brings) is besides)
      (eqb-false _ 0 (sym (c.is_empty.ensures.nothing w es numbers ws brings.peers stands kept) ∙ c.if-is_empty.false));
}
