use Rattle.std.proofs.Common.{◌∙◌, inr}
use Rattle.std.proofs.lemmas.Result.{on_ok_weaker, on_err_weaker}
use Rattle.keyed_channel.specs.KeyRow.{KeyRow}
use Rattle.ritas_core.specs.Stands.{Meaning}
use Rattle.replica.specs.Replica.{with_keys}
use Rattle.replica.proofs.Feeding.{puts_out, sent_kept, some_kept, feeds_kept}
use Rattle.replica.proofs.replica.Replica.pass_on.Goals as goal

pub returns-clause-ok : goal.returns-clause-ok
returns-clause-ok g c =
    let b = g.E.Broadcast in
    let m : Meaning g.row.S.Denot g.row.E.Denot g.row.C.Denot KeyRow = with_keys g.S.Service.stands g.S.Service.rules g.S.Service.shown b.stands b.rules b.shown g.C.Coin.bits in
    let only = c.feed.ensures.only in
    let same = c.put_out.ensures.same in
    on_ok_weaker c.put_out.result
    (λ puts. (
      puts_out m c.args.self.now c.feed.new.self c.put_out.new.self only same _ _ _ puts,
      feeds_kept m c.args.self.now c.feed.new.self c.put_out.new.self only same c.in_ok-feed.ensures.ok,
    ))
    c.put_out.ensures.ok

pub returns-clause-err : goal.returns-clause-err
returns-clause-err g c =
    let b = g.E.Broadcast in
    let m : Meaning g.row.S.Denot g.row.E.Denot g.row.C.Denot KeyRow = with_keys g.S.Service.stands g.S.Service.rules g.S.Service.shown b.stands b.rules b.shown g.C.Coin.bits in
    let only = c.feed.ensures.only in
    let same = c.put_out.ensures.same in
    on_err_weaker c.put_out.result
    (λ kept. (
      kept.0,
      kept.1 ∙ sent_kept m c.args.self.now c.feed.new.self c.put_out.new.self only same,
      some_kept m c.args.self.now c.feed.new.self c.put_out.new.self only same c.in_ok-feed.ensures.ok.some,
    ))
    c.put_out.ensures.err

pub returns-clause-memory : goal.returns-clause-memory
returns-clause-memory g c = on_err_weaker c.put_out.result (λ some. inr some) c.put_out.ensures.memory
