use Rattle.std.proofs.Common.{◌≤◌, ◌<◌, ◌+◌, ◌*◌, ℕ, ap, subst, sym, ◌∙◌, arith, length, eqb-true}
use Rattle.std.specs.Int.RustNames.{count_ones}
use Rattle.std.proofs.lemmas.Bool.{eq-eqb, le-leb}
use Rattle.echo_bcast.proofs.EntrySteps.{column_parts, column_from}
use Rattle.echo_bcast.proofs.entries.is_column.Goals as goal

pub returns-then-value-lt4-clause-all : goal.returns-then-value-lt4-clause-all
returns-then-value-lt4-clause-all c = λ n is. let long = (column_parts n c.args.value.now is).0 in let short = c.if-value-lt4.true in absurd (omega (arith, long, short))

pub returns-then-rows-ge1-clause-right : goal.returns-then-rows-ge1-clause-right
returns-then-rows-ge1-clause-right c = λ e.
    let value = c.args.value.now in
    let mask = c.mask_of.ensures in
    column_from value (subst (λ (m : ℕ). m < 4294967296) mask c.mask_of.type_inv) c.if-value-lt4.false (subst (λ (m : ℕ). 1 ≤ count_ones m) mask c.if-rows-ge1.true)
    (eqb-true (length value) (4 + 32 * count_ones c.mask_of.result) e ∙ ap (λ (m : ℕ). 4 + 32 * count_ones m) mask)

pub returns-then-rows-ge1-clause-all : goal.returns-then-rows-ge1-clause-all
returns-then-rows-ge1-clause-all c = λ n is.
    eq-eqb (length c.args.value.now) (4 + 32 * count_ones c.mask_of.result) ((column_parts n c.args.value.now is).2 ∙ ap (λ (m : ℕ). 4 + 32 * count_ones m) (sym c.mask_of.ensures))

pub returns-else-rows-ge1-clause-all : goal.returns-else-rows-ge1-clause-all
returns-else-rows-ge1-clause-all c = λ n is.
    le-leb 1 (count_ones c.mask_of.result) (subst (λ (m : ℕ). 1 ≤ count_ones m) (sym c.mask_of.ensures) (column_parts n c.args.value.now is).1)
