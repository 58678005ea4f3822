use Rattle.std.proofs.Common.{◌≡◌, length, sym, ◌∙◌, ap}
use Rattle.std.specs.List.{concat, flat_map, each_same}
use Rattle.std.proofs.lemmas.List.Concat.{concat_is}
use Rattle.std.proofs.lemmas.List.FromFn.{length-map-range_with_len}
use Rattle.keyed_channel.specs.KeyRow.{KeyRow}
use Rattle.keyed_channel.specs.Keyed.{pair_key, dealt_keys}
use Rattle.key_rows.proofs.write.shared_keys.Goals as goal

pub returns : goal.returns
returns c =
    let n = c.args.p.now.n in
    let keys = dealt_keys c.args.master.now c.args.session n c.args.i in
    let all : length keys ≡ c.deal-keys.result.n =
    length-map-range_with_len (pair_key c.args.master.now c.args.session c.args.i) 0 n ∙ sym (ap (λ (k : KeyRow). k.n) c.deal-keys.ensures) in
    let row : c.row.result.now ≡ keys = c.row.ensures.given keys all (ap (λ (k : KeyRow). k.row) c.deal-keys.ensures) in
    let joined : c.in_ok-joined.joined.items ≡ concat keys =
    each_same _ _ c.in_ok-joined.ensures.ok ∙ (ap (flat_map (λ x. x)) row ∙ sym (concat_is keys)) in
    rw (c.as_slice.ensures.value ∙ joined) at c.encode.ensures
