use Rattle.std.proofs.Common.{◌≡◌, true, false, List, ◌∷◌, length, map, Some, refl, subst, arith}
use Rattle.std.proofs.lemmas.Bool.{both_ways}
use Rattle.std.proofs.lemmas.Option.{slice_get_read, slice_get_within}
use Rattle.std.proofs.lemmas.Result.{on_ok_weaker}
use Rattle.replica.specs.Out.{OutFrame}
use Rattle.node_loop.specs.PeersStanding.{AreKept, made_as}
use Rattle.node_loop.specs.Recovering.{recalled, all_newest}
use Rattle.node_loop.specs.Serving.{frames_made_by}
use Rattle.node_loop.proofs.KeptFrames.{house_put}
use Rattle.node_loop.proofs.Recalling.{newest, all_put_newest, same_newest}
use Rattle.node_loop.proofs.house.House.recall.Goals as goal

pub returns-in_default : goal.returns-in_default
returns-in_default g c = record {
  happens = λ w es numbers ws p stand served.
      let happened = c.in_ok-happen.ensures.happens w es numbers ws p stand served in
      absurd (both_ways (w.is_correct c.happen.new.output.at) (c.in_default.ensures.place w (c.args.event.now ∷ es) numbers happened.0.here) happened.2);
}

pub returns-in-Some-get_mut : goal.returns-in-Some-get_mut
returns-in-Some-get_mut g c = record {
  happens = λ w es numbers ws p stand served.
      let e = c.args.event.now in
      let happened = c.in_ok-happen.ensures.happens w es numbers ws p stand served in
      let house = c.happen.new.self in
      let at = c.happen.new.output.at in
      let frames = c.happen.new.output.frames.items in
      let old = c.in-Some-get_mut.keeper.now in
      let number = (c.in-Some.ensures.place w (e ∷ es) numbers happened.0.here).1 in
      let keepers = house.keepers.items in
      let there = slice_get_read keepers (length keepers) c.in-Some.place old refl c.in-Some-get_mut.ensures.item.3.0 c.in-Some-get_mut.ensures.value in
      let v = w.mode.version in
      on_ok_weaker c.all_newest.result
      (λ kept. house_put (newest v) _ w (e ∷ es) numbers house (recalled w es e ws).waiting p (all_newest v (frames_made_by w es (Some e)) p) (all_newest v (map (made_as 0 at) frames) p) 0 at c.in-Some.place frames old _
      happened.0 number there (all_put_newest v (map (made_as 0 at) frames) p) (same_newest w es (Some e) 0 at frames p happened.1)
      (subst (λ (fs : List OutFrame). AreKept v w.numbers.n at c.all_newest.new.resume (all_newest v (map (made_as 0 at) fs) p).keeping) c.as_slice.ensures.value kept))
      (c.all_newest.ensures.keeps v w.numbers.n at 0 p (happened.0.keepers c.in-Some.place at old number there).kept);
}

pub returns-in-None : goal.returns-in-None
returns-in-None g c = record {
  happens = λ w es numbers ws p stand served.
      let happened = c.in_ok-happen.ensures.happens w es numbers ws p stand served in
      let number = (c.in-Some.ensures.place w (c.args.event.now ∷ es) numbers happened.0.here).1 in
      let within = slice_get_within numbers c.in-Some.place c.happen.new.output.at number in
      let many = happened.0.many in
      let none : false ≡ true = c.in-None.ensures.variant.1 (omega (arith, within, many)) in
      absurd (cc);
}
