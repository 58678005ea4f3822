use Rattle.std.proofs.Common.{◌≡◌, List, None, map, refl, ap, sym, subst, ◌∙◌}
use Rattle.std.proofs.lemmas.Bool.{both_ways}
use Rattle.replica.specs.Out.{OutFrame}
use Rattle.node_loop.specs.declared.output.Reply.{Reply}
use Rattle.node_loop.specs.Peers.{with_mark}
use Rattle.node_loop.specs.Resending.{asks_for_more}
use Rattle.node_loop.specs.Standing.{IsMore, frame_by, reply_by}
use Rattle.node_loop.proofs.house.House.remind.Goals as goal

pub returns-in_default-clause-comes : goal.returns-in_default-clause-comes
returns-in_default-clause-comes g c = λ w es numbers ws p stands right below.
    absurd (both_ways (w.is_correct c.args.pair.at) (c.in_default.ensures.place w es numbers stands.here) right)

pub returns-clause-comes : goal.returns-clause-comes
returns-clause-comes g c = λ w es numbers ws p stands right below.
    let at = c.args.pair.at in
    let peer = c.args.pair.peer in
    let o = c.clear.new.self in
    let same : o.at ≡ at = c.clear.ensures.at in
    let none = c.clear.ensures.none in
    let placed = (c.in-Some.ensures.place w es numbers stands.here).1 in
    let now = c.unmark.ensures.unmarks w es numbers ws p at stands placed in
    let asks = c.again_to-output.ensures.note w es numbers ws p at stands placed below in
    record {
      event = none.0;
      keeps = none.4;
      frames = ap (λ (fs : List OutFrame). map (frame_by o.at) fs) none.1;
      besides = subst (λ x. IsMore w x c.again_to-output.result (asks_for_more w.mode.version at peer p)) (sym same) asks;
      nowhere = λ wrong. absurd (both_ways (w.is_correct at) (ap w.is_correct (sym same) ∙ wrong) right);
      replies = ap (λ (rs : List Reply). map (reply_by o.at) rs) none.3;
      before = with_mark at peer None p;
      kept = refl;
      stands = now;
    }
