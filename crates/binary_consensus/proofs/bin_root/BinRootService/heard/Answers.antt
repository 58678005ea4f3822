use Rattle.std.proofs.Common.{refl}
use Rattle.binary_consensus.proofs.RootCalls.{root_heard}
use Rattle.binary_consensus.proofs.bin_root.BinRootService.heard.Goals as goal

pub returns : goal.returns
returns g c = root_heard g.B.BinaryBox.stands g.B.BinaryBox.rules g.B.BinaryBox.live g.B.BinaryBox.shown (g.C.Coin.bits c.args.coin.now)
    c.args.self.now (record { inner = c.heard.new.self; given = c.args.self.now.given }) c.args.slot.now c.args.value.now c.vote_of.result c.args.says.now.items c.heard.new.says.items c.heard.result
    c.vote_of.ensures.vote c.heard.ensures refl
