use Rattle.std.proofs.Common.{◌≡◌, ℕ, List, ap, ap₂, ◌∙◌}
use Rattle.keyed_channel.specs.KeyRow.{KeyRow}
use Rattle.keyed_channel.specs.Keyed.{tags_of}
use Rattle.world_model.proofs.met.tagged_pair.Goals as goal

pub returns : goal.returns
returns c =
    let k = c.args.keys.now in
    let own : c.me-me.result ≡ k.me = c.me-me.ensures.value ∙ ap (λ (x : KeyRow). x.me) c.keys.ensures in
    ap₂ (λ (x y : List ℕ). record { given = x; expected = y })
    (c.entry.ensures ∙ ap (λ (i : ℕ). (tags_of k).entry c.args.slot.now i c.args.other c.args.digest.now) own)
    (c.entry-2.ensures ∙ ap (λ (i : ℕ). (tags_of k).entry c.args.slot.now c.args.other i c.args.digest.now) own)
