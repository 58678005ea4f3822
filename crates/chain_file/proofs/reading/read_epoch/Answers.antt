use Rattle.std.proofs.Common.{length, ap, sym, ◌∙◌}
use Rattle.std.proofs.lemmas.Bool.{eqb-false}
use Rattle.chain_file.specs.Reading.{epoch_read}
use Rattle.chain_file.proofs.Epoch.{nothing_behind}
use Rattle.chain_file.proofs.reading.read_epoch.Goals as goal

pub returns-then-not-is_empty-clause-format : goal.returns-then-not-is_empty-clause-format
returns-then-not-is_empty-clause-format c = λ same e is.
    let rest = c.in_ok-epoch.rest.now in
    let d = epoch_read c.in_ok-epoch.epoch.rows.items c.in_ok-epoch.epoch.waiting.items in
    let none = (nothing_behind c.args.text.now rest d e c.in_ok-epoch.ensures is).1 in
    eqb-false (length rest) 0 (sym c.is_empty.ensures ∙ c.if-not-is_empty.true) (ap length none)

pub returns-then-not-is_empty-clause-only : goal.returns-then-not-is_empty-clause-only
returns-then-not-is_empty-clause-only c = λ e is.
    let rest = c.in_ok-epoch.rest.now in
    let d = epoch_read c.in_ok-epoch.epoch.rows.items c.in_ok-epoch.epoch.waiting.items in
    let none = (nothing_behind c.args.text.now rest d e c.in_ok-epoch.ensures is).1 in
    absurd (eqb-false (length rest) 0 (sym c.is_empty.ensures ∙ c.if-not-is_empty.true) (ap length none))

pub returns-clause-only : goal.returns-clause-only
returns-clause-only c = λ e is.
    let d = epoch_read c.in_ok-epoch.epoch.rows.items c.in_ok-epoch.epoch.waiting.items in
    (nothing_behind c.args.text.now c.in_ok-epoch.rest.now d e c.in_ok-epoch.ensures is).0
