use Rattle.std.proofs.Common.{◌∙◌, subst, sym, refl, length, ℕ}
use Rattle.std.specs.Prelude.{Option}
use Rattle.std.proofs.lemmas.Option.{slice_get_read}
use Rattle.multivalued.specs.Least.{has_enough_backers, LeastTo}
use Rattle.multivalued.proofs.LeastLaws.{next_fails, next_first, next_weighed}
use Rattle.multivalued.proofs.Placing.{is_none}
use Rattle.multivalued.proofs.least.better.Goals as goal

pub returns-then-not-is_enough : goal.returns-then-not-is_enough
returns-then-not-is_enough c =
    let es = c.args.entries.now in
    next_fails (has_enough_backers c.args.support c.args.valid) es c.args.at c.index-entries-at.result
    (slice_get_read es (length es) c.args.at c.index-entries-at.result refl c.requires c.index-entries-at.is) c.requires c.args.best (sym c.is_enough.ensures ∙ c.if-not-is_enough.true)

pub returns-in_default : goal.returns-in_default
returns-in_default c = λ h.
    let es = c.args.entries.now in
    let test = has_enough_backers c.args.support c.args.valid in
    next_first test es c.args.at c.index-entries-at.result
    (slice_get_read es (length es) c.args.at c.index-entries-at.result refl c.requires c.index-entries-at.is) c.requires (sym c.is_enough.ensures ∙ c.if-not-is_enough.false)
    (subst (λ (o : Option ℕ). LeastTo test es c.args.at o) (is_none c.args.best c.in_default.not-Some) h)

pub returns : goal.returns
returns c = λ h.
    let es = c.args.entries.now in
    let test = has_enough_backers c.args.support c.args.valid in
    let here = subst (λ (o : Option ℕ). LeastTo test es c.args.at o) c.in-Some.is h in
    next_weighed test es c.args.at c.in-Some.best c.lesser.result c.index-entries-at.result here.1.0
    (slice_get_read es (length es) c.args.at c.index-entries-at.result refl c.requires c.index-entries-at.is) c.requires here.1.1 (sym c.is_enough.ensures ∙ c.if-not-is_enough.false)
    c.lesser.ensures here
