use Rattle.node_loop.specs.Serving.{so_far, at_call, outcome, brought, onto, after_from}
use Rattle.node_loop.proofs.Grouping.{fits_as, added}
use Rattle.node_loop.proofs.deliver.gather.Goals as goal

pub returns : goal.returns
returns g c = record {
  joins = λ w past numbers start x newest comes holds joins.
      let s = after_from w past start newest in
      let es = so_far past (at_call x s) in
      let did = outcome w past x s in
      let more = brought w past x s in
      let o = c.args.output in
      let stands = c.in_ok-keep_frames.ensures.keeps w es numbers did more comes in
      let now = c.more_now-output.ensures.goes w (onto did.event es) numbers did.waiting more stands (fits_as w o.at o.more more comes.besides (λ away. (comes.nowhere away).1)) comes.besides in
      added _ w past numbers start x newest c.args.house.now c.keep_frames.new.house c.args.group.now c.add.new.self o c.more_now-output.result c.add.result comes stands now holds joins
      c.add.ensures.text c.add.ensures.kept c.add.ensures.outputs c.add.ensures.resends;
}
