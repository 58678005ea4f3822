use Rattle.std.proofs.Common.{length, ap, arith}
use Rattle.chain_file.proofs.Lists.{match_leads}
use Rattle.chain_file.proofs.length.row_len.Goals as goal

pub returns : goal.returns
returns c =
    let row = c.args.row.now in
    let long = ap length c.as_slice.ensures in
    match_leads c.len_of.result
    (λ much fits. let low = fits.payload in omega (arith, much, long, low))
    (λ len is. let size = is.5 in let low = is.4 in (
      record { origin = is.0; num = is.1; client = is.2; request = is.3; payload = omega (arith, is.4, long) },
      omega (arith, size, long),
      omega (arith, size, low),
    ))
    c.len_of.ensures
