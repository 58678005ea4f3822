-- The tests that need no key, and then the tag.
use Rattle.std.proofs.Common.{sym, ◌∙◌, ap}
use Rattle.std.proofs.lemmas.Result.{err_from_is_err_and}
use Rattle.keyed_channel.specs.KeyRow.{KeyRow}
use Rattle.keyed_channel.specs.Frames.{plain_fault}
use Rattle.keyed_channel.proofs.Opens.{opening_plain, opening_untagged, opening_tagged}
use Rattle.keyed_channel.proofs.channel.Channel.open_lazily.Goals as goal

pub returns-in_err-check : goal.returns-in_err-check
returns-in_err-check c =
    let bytes = c.args.frame.now in
    let p = err_from_is_err_and c.from_residual.result c.from_residual.ensures.1 in
    let fault = ap (λ (k : KeyRow). plain_fault k bytes) (sym c.self.view_is) ∙ c.in_err-check.ensures.fault in
    rw (p.1, p.2) (opening_plain c.args.self.now bytes _ fault)

pub returns-then-not-is_tagged : goal.returns-then-not-is_tagged
returns-then-not-is_tagged c =
    let bytes = c.args.frame.now in
    let fault = ap (λ (k : KeyRow). plain_fault k bytes) (sym c.self.view_is) ∙ c.in_ok-check.ensures.fault in
    opening_untagged c.args.self.now bytes fault (sym c.is_tagged.ensures ∙ c.if-not-is_tagged.true)

pub returns : goal.returns
returns c =
    let bytes = c.args.frame.now in
    let fault = ap (λ (k : KeyRow). plain_fault k bytes) (sym c.self.view_is) ∙ c.in_ok-check.ensures.fault in
    let parts = c.parts-from.ensures in
    rw (parts.0, parts.1, parts.2) (opening_tagged c.args.self.now bytes fault (sym c.is_tagged.ensures ∙ c.if-not-is_tagged.false))
