use Rattle.std.proofs.Common.{ℕ, sym, ◌∙◌, ap, subst, List, length}
use Rattle.std.specs.Prelude.{position}
use Rattle.std.specs.Str.{bytes_eq}
use Rattle.multivalued.specs.Entries.{HasEntryPlace, KeepsValues}
use Rattle.multivalued.proofs.TableLaws.{keeps_same}
use Rattle.multivalued.specs.declared.entry.Entry.{Entry}
use Rattle.multivalued.proofs.Placing.{is_none, place_found, made, none_found}
use Rattle.multivalued.proofs.table.place_for.Goals as goal

pub returns-in-Some-clause-ok : goal.returns-in-Some-clause-ok
returns-in-Some-clause-ok c =
    place_found c.args.entries.now.items c.args.value.now c.in-Some.at
    (ap (λ (l : List Entry). position (λ (e : Entry). bytes_eq e.value c.args.value.now) l) (sym c.deref.ensures.value) ∙ (sym c.place_of.ensures ∙ c.in-Some.is))

pub returns-clause-ok : goal.returns-clause-ok
returns-clause-ok c =
    let es = c.args.entries.now.items in
    let v = c.args.value.now in
    let fresh = none_found es v (ap (λ (l : List Entry). position (λ (e : Entry). bytes_eq e.value v) l) (sym c.deref.ensures.value) ∙ (sym c.place_of.ensures ∙ is_none c.place_of.result c.in_default.not-Some)) in
    subst (λ (i : ℕ). HasEntryPlace v i es c.push.new.self.items) (sym (c.len-at.ensures ∙ c.args.entries.now.ok.0))
    (subst (λ (l : List Entry). HasEntryPlace v (length es) es l) (sym c.in_ok-push.ensures.items)
    (made es _ v c.in_ok-from_slice.ensures c.empty.ensures c.new.ensures.items c.empty-2.ensures fresh))

pub returns-in_err-push-clause-keeps : goal.returns-in_err-push-clause-keeps
returns-in_err-push-clause-keeps c =
    let es = c.args.entries.now.items in
    subst (λ (l : List Entry). KeepsValues es l) (sym c.in_err-push.ensures.items) (keeps_same es)

pub returns-clause-keeps : goal.returns-clause-keeps
returns-clause-keeps c = (returns-clause-ok c).keeps
