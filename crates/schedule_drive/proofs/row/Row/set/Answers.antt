use Rattle.std.proofs.Common.{◌<◌, length, arith}
use Rattle.schedule_drive.proofs.Choosing.{open_most, now_open, now_shut}
use Rattle.schedule_drive.proofs.row.Row.set.Goals as goal

pub overflow_add-self : goal.overflow_add-self
overflow_add-self c =
    let below : c.args.place < length c.self.inside.flags.items = omega (arith, c.len.ensures) in
    let more = now_open c.self.inside.flags.items c.args.place c.args.is_open c.index.result.now below c.index.ensures c.if-index-is_open.true c.if-is_open.true in
    let most = open_most c.self.inside.flags.items in
    omega (arith, more, most, c.self.invariant, c.len.ensures)

pub invariant_of-self : goal.invariant_of-self
invariant_of-self c =
    let below : c.args.place < length c.self.inside.flags.items = omega (arith, c.len.ensures) in
    let more = now_open c.self.inside.flags.items c.args.place c.args.is_open c.index.result.now below c.index.ensures c.if-index-is_open.true c.if-is_open.true in
    omega (arith, more, c.self.invariant)

pub overflow_sub-self : goal.overflow_sub-self
overflow_sub-self c =
    let below : c.args.place < length c.self.inside.flags.items = omega (arith, c.len.ensures) in
    let less = now_shut c.self.inside.flags.items c.args.place c.args.is_open c.index.result.now below c.index.ensures c.if-index-is_open.true c.if-is_open.false in
    omega (arith, less, c.self.invariant)

pub invariant_of-self-else-is_open : goal.invariant_of-self-else-is_open
invariant_of-self-else-is_open c =
    let below : c.args.place < length c.self.inside.flags.items = omega (arith, c.len.ensures) in
    let less = now_shut c.self.inside.flags.items c.args.place c.args.is_open c.index.result.now below c.index.ensures c.if-index-is_open.true c.if-is_open.false in
    omega (arith, less, c.self.invariant)
