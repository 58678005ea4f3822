use Rattle.std.proofs.Common.{◌≡◌, ◌<◌, true, false, List, length, map, refl, ◌∙◌, subst, arith}
use Rattle.std.specs.List.{Any}
use Rattle.std.proofs.lemmas.Option.{slice_get_read, slice_get_within}
use Rattle.std.proofs.lemmas.Result.{on_ok_weaker, on_err_weaker}
use Rattle.replica.specs.Out.{OutFrame}
use Rattle.node_loop.specs.Peers.{keep_all}
use Rattle.node_loop.specs.PeersStanding.{AreKept, made_as}
use Rattle.node_loop.specs.Serving.{onto}
use Rattle.node_loop.proofs.KeptFrames.{same_kept, house_kept, none_kept}
use Rattle.node_loop.proofs.deliver.keep_frames.Goals as goal

pub returns-in_default : goal.returns-in_default
returns-in_default g c = record {
  keeps = λ w es numbers did more comes.
      let away = c.in_default.ensures.place w (onto did.event es) numbers comes.stands.here in
      none_kept _ w es numbers _ did.waiting did.event comes.before more.peers (comes.nowhere away).0 comes.kept comes.stands;
  memory = λ w es numbers did more comes. tt;
}

pub returns-in-Some-get_mut : goal.returns-in-Some-get_mut
returns-in-Some-get_mut g c = record {
  keeps = λ w es numbers did more comes.
      let at = c.args.output.now.at in
      let frames = c.args.output.now.frames.items in
      let old = c.in-Some-get_mut.keeper.now in
      let number = (c.in-Some.ensures.place w (onto did.event es) numbers comes.stands.here).1 in
      let keepers = c.args.house.now.keepers.items in
      let there = slice_get_read keepers (length keepers) c.in-Some.place old refl c.in-Some-get_mut.ensures.item.3.0 c.in-Some-get_mut.ensures.value in
      let same : keep_all w.mode.version (map (made_as 0 at) frames) comes.before ≡ more.peers = same_kept w es did.event 0 at frames comes.before comes.frames ∙ comes.kept in
      on_ok_weaker c.keep_each.result
      (λ kept. house_kept _ w (onto did.event es) numbers c.args.house.now did.waiting comes.before more.peers 0 at c.in-Some.place frames old _ comes.stands number there same
      (subst (λ (fs : List OutFrame). AreKept w.mode.version w.numbers.n at c.keep_each.new.resume (keep_all w.mode.version (map (made_as 0 at) fs) comes.before).keeping) c.as_slice.ensures.value kept))
      (c.keep_each.ensures.keeps w.mode.version w.numbers.n at 0 comes.before (comes.stands.keepers c.in-Some.place at old number there).kept);
  memory = λ w es numbers did more comes.
      let at = c.args.output.now.at in
      let frames = c.args.output.now.frames.items in
      let old = c.in-Some-get_mut.keeper.now in
      let placed = c.in-Some.ensures.place w (onto did.event es) numbers comes.stands.here in
      let keepers = c.args.house.now.keepers.items in
      let there = slice_get_read keepers (length keepers) c.in-Some.place old refl c.in-Some-get_mut.ensures.item.3.0 c.in-Some-get_mut.ensures.value in
      on_err_weaker c.keep_each.result
      (λ some. (placed.0, subst (λ (fs : List OutFrame). Any (λ f. f.to < w.numbers.n) fs) c.as_slice.ensures.value some))
      (c.keep_each.ensures.memory w.mode.version w.numbers.n at 0 comes.before (comes.stands.keepers c.in-Some.place at old placed.1 there).kept);
}

pub returns-in-None : goal.returns-in-None
returns-in-None g c = record {
  keeps = λ w es numbers did more comes.
      let number = (c.in-Some.ensures.place w (onto did.event es) numbers comes.stands.here).1 in
      let within = slice_get_within numbers c.in-Some.place c.args.output.now.at number in
      let many = comes.stands.many in
      let none : false ≡ true = c.in-None.ensures.variant.1 (omega (arith, within, many)) in
      absurd (cc);
  memory = λ w es numbers did more comes. tt;
}
