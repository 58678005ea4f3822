use Rattle.std.proofs.Common.{◌≡◌, ◌<◌, ◌≤◌, length, arith}
use Rattle.std.proofs.lemmas.List.FromFn.{length-map-range_with_len}
use Rattle.keyed_channel.specs.Keyed.{pair_key, dealt_keys}
use Rattle.keyed_channel.proofs.KeyRows.{filled_row_is}
use Rattle.keyed_channel.proofs.keys.Keys.deal.Goals as goal

pub invariant_of-result : goal.invariant_of-result
invariant_of-result c =
    let master = c.args.master.now in
    let n = c.n-n.result in
    let keys = dealt_keys master c.args.session n c.args.me in
    let long : length keys ≡ n = length-map-range_with_len (pair_key master c.args.session c.args.me) 0 n in
    let mine : c.args.me < n = omega (arith, c.n-n.ensures.value, c.requires) in
    let most : n ≤ 31 = omega (arith, c.n-n.ensures.value, c.n-n.ensures.session.most) in
    rw c.dealt_row-row.ensures (filled_row_is c.args.session n c.args.me keys long mine most)
