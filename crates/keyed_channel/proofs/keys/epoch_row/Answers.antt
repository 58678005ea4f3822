use Rattle.keyed_channel.specs.Epochs.{epoch_key}
use Rattle.keyed_channel.proofs.KeyRows.{epoch_row_more, epoch_row_done}
use Rattle.keyed_channel.proofs.keys.epoch_row.Goals as goal

pub loop-j-preserved : goal.loop-j-preserved
loop-j-preserved c =
    let f = epoch_key c.args.session c.args.epoch in
    rw c.epoch_key.ensures (epoch_row_more f c.args.keys.now c.loop-j.row c.loop-j.j _ c.requires c.loop-j-test.true c.loop-j.invariant)

pub returns : goal.returns
returns c =
    let f = epoch_key c.args.session c.args.epoch in
    epoch_row_done f c.args.keys.now c.loop-j.row c.loop-j.j c.loop-j-test.false c.loop-j.invariant c.loop-j.auto.j-end
