use Rattle.std.proofs.Common.{◌<◌, drop, length, refl, arith}
use Rattle.std.specs.VecDeque.{deque_len}
use Rattle.ritas_core.proofs.WholeCalls.{front_split}
use Rattle.ritas_core.proofs.kernel.Core.judged_front.Goals as goal

pub returns-in-Some : goal.returns-in-Some
returns-in-Some g c =
    let waiting = c.args.self.now.inbox.items in
    let some : 0 < length waiting = let there : 0 < deque_len c.args.self.now.inbox = c.in-Some.ensures.variant.0 refl in omega arith in
    record {
      item = c.in-Some.item.now;
      rest = drop 1 waiting;
      front = front_split waiting c.in-Some.item.now some c.in-Some.ensures.lookup;
      told = c.judged.ensures;
    }
