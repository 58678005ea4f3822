use Rattle.std.proofs.Common.{◌-◌, ◌<◌, subst, sym, arith}
use Rattle.observer.specs.Reading.{AreWhole}
use Rattle.observer.proofs.Rows.{first_whole, behind, rows_more, on_ok}
use Rattle.observer.proofs.reading.+read_rows.Goals as goal

pub payload_size-size-requires : goal.payload_size-size-requires
payload_size-size-requires t c =
    let whole = first_whole c.args.count c.args.bytes.now (omega (arith, c.if-count-eq0.false)) c.requires in
    omega (arith, whole.first)

pub read_rows-requires : goal.read_rows-requires
read_rows-requires t c =
    let some : 0 < c.args.count = omega (arith, c.if-count-eq0.false) in
    let whole = first_whole c.args.count c.args.bytes.now some c.requires in
    let less : c.args.count - 1 < t = omega (arith, c.decreases, some) in
    (less, subst (AreWhole (c.args.count - 1)) (sym (behind c.args.bytes.now c.payload_size-size.result (c.payload_size-size.ensures))) whole.others)

pub returns-clause-rows : goal.returns-clause-rows
returns-clause-rows t c =
    let some : 0 < c.args.count = omega (arith, c.if-count-eq0.false) in
    on_ok c.read_rows.result
    (rows_more c.args.rows.now.items c.push.new.self.items c.read_rows.new.rows.items c.args.count c.args.bytes.now _ c.in_ok-row_at_front.field-0 some
    (behind c.args.bytes.now c.payload_size-size.result (c.payload_size-size.ensures)) c.in_ok-row_at_front.ensures c.in_ok-push.ensures.items)
    c.read_rows.ensures.rows
