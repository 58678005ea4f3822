-- The tests that need no key, and then the tag.
use Rattle.std.proofs.Common.{◌≡◌, sym, ◌∙◌, ap, ap₂}
use Rattle.std.specs.Prelude.{Ok}
use Rattle.std.specs.Str.{bytes_eq}
use Rattle.std.proofs.lemmas.Result.{err_from_is_err_and}
use Rattle.keyed_channel.specs.Hmac.{hmac_of}
use Rattle.keyed_channel.specs.KeyRow.{KeyRow, key_with}
use Rattle.keyed_channel.specs.Frames.{plain_fault, sender_of, is_tagged}
use Rattle.keyed_channel.proofs.Opens.{opening_plain, opening_untagged, opening_tagged, false_from_not, true_from_not}
use Rattle.keyed_channel.proofs.channel.Channel.open.Goals as goal

pub returns-in_err-check : goal.returns-in_err-check
returns-in_err-check c =
    let bytes = c.args.bytes.now in
    let p = err_from_is_err_and c.from_residual.result c.from_residual.ensures.1 in
    let fault = ap (λ (k : KeyRow). plain_fault k bytes) (sym c.self.view_is) ∙ c.in_err-check.ensures.fault in
    rw (p.1, p.2) (opening_plain c.args.self.now bytes _ fault)

pub returns-then-ne : goal.returns-then-ne
returns-then-ne c =
    let bytes = c.args.bytes.now in
    let fault = ap (λ (k : KeyRow). plain_fault k bytes) (sym c.self.view_is) ∙ c.in_ok-check.ensures.fault in
    let wanted = c.as_slice.ensures ∙ c.tag-wanted.ensures ∙ ap (hmac_of (key_with c.args.self.now (sender_of bytes))) c.split_at.ensures.front in
    let same : bytes_eq c.as_slice.result.now c.split_at.result.1.now ≡ is_tagged c.args.self.now bytes =
    ap₂ bytes_eq wanted c.split_at.ensures.back in
    opening_untagged c.args.self.now bytes fault (sym same ∙ false_from_not _ _ c.ne.ensures c.if-ne.true)

pub returns : goal.returns
returns c =
    let bytes = c.args.bytes.now in
    let fault = ap (λ (k : KeyRow). plain_fault k bytes) (sym c.self.view_is) ∙ c.in_ok-check.ensures.fault in
    let wanted = c.as_slice.ensures ∙ c.tag-wanted.ensures ∙ ap (hmac_of (key_with c.args.self.now (sender_of bytes))) c.split_at.ensures.front in
    let same : bytes_eq c.as_slice.result.now c.split_at.result.1.now ≡ is_tagged c.args.self.now bytes =
    ap₂ bytes_eq wanted c.split_at.ensures.back in
    opening_tagged c.args.self.now bytes fault (sym same ∙ true_from_not _ _ c.ne.ensures c.if-ne.false) ∙ ap Ok (sym c.as_opened.ensures)
