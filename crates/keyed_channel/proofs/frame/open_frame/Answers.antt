-- The tests that need no key, and then the tag.
use Rattle.std.proofs.Common.{sym, ◌∙◌, ap}
use Rattle.std.specs.Prelude.{Ok}
use Rattle.std.proofs.lemmas.Result.{err_from_is_err_and}
use Rattle.keyed_channel.proofs.Opens.{opening_plain, opening_untagged, opening_tagged}
use Rattle.keyed_channel.proofs.frame.open_frame.Goals as goal

pub returns-in_err-check : goal.returns-in_err-check
returns-in_err-check c =
    let p = err_from_is_err_and c.from_residual.result c.from_residual.ensures.1 in
    rw (p.1, p.2) (opening_plain _ _ _ c.in_err-check.ensures.fault)

pub returns-then-not-is_tagged : goal.returns-then-not-is_tagged
returns-then-not-is_tagged c = opening_untagged _ _ c.in_ok-check.ensures.fault (sym c.is_tagged.ensures ∙ c.if-not-is_tagged.true)

pub returns : goal.returns
returns c =
    opening_tagged _ _ c.in_ok-check.ensures.fault (sym c.is_tagged.ensures ∙ c.if-not-is_tagged.false) ∙ ap Ok (sym c.as_opened.ensures)
