use Rattle.std.proofs.Common.{◌<◌, arith}
use Rattle.keyed_channel.specs.Keyed.{pair_key}
use Rattle.keyed_channel.proofs.KeyRows.{row_more, row_done}
use Rattle.keyed_channel.proofs.keys.dealt_row.Goals as goal

pub loop-j-preserved : goal.loop-j-preserved
loop-j-preserved c =
    let lt : c.loop-j.j < 31 = omega arith in
    let f = pair_key c.args.master.now c.args.session c.args.me in
    rw c.pair_key.ensures (row_more f c.loop-j.row c.loop-j.j lt c.loop-j.invariant)

pub returns : goal.returns
returns c =
    let f = pair_key c.args.master.now c.args.session c.args.me in
    row_done f c.loop-j.row c.args.n c.loop-j.j (omega arith) c.loop-j.invariant
