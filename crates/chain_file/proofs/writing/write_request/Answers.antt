use Rattle.std.proofs.Common.{length, refl}
use Rattle.std.specs.Int.{w16, to_be_bytes}
use Rattle.chain_file.proofs.Written.{then_at, fails_at}
use Rattle.chain_file.proofs.writing.write_request.Goals as goal

pub returns-in_err-write_all : goal.returns-in_err-write_all
returns-in_err-write_all g c =
    let r = c.args.request.now in
    fails_at c.to_be_bytes.result (to_be_bytes w16 (length r)) r c.to_be_bytes.ensures _ _ _ _ _ _ _ c.from_residual.ensures.0 c.in_err-write_all.ensures

pub returns : goal.returns
returns g c =
    let r = c.args.request.now in
    then_at c.to_be_bytes.result r (to_be_bytes w16 (length r)) r c.to_be_bytes.ensures refl _ _ _ _ _ _ _ _ c.in_ok-write_all.ensures c.write_all-2.ensures
