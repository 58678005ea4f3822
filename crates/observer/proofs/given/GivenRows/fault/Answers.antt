use Rattle.std.proofs.Common.{◌≡◌, ℕ, ◌<◌, length, take, drop, ◌-◌, sym, ◌∙◌, ap, subst, arith}
use Rattle.std.proofs.lemmas.List.{take_all, length-drop}
use Rattle.ritas_base.specs.Numbers.{Numbers}
use Rattle.observer.specs.Reading.{form_fault}
use Rattle.observer.specs.Giving.{rows_given}
use Rattle.observer.specs.Places.{Window, AreKeptIn}
use Rattle.observer.proofs.Faults.{nobody, formless, too_far, changed_as}
use Rattle.observer.proofs.given.GivenRows.fault.Goals as goal
use Rattle.observer.proofs.given.GivenRows.fault.Goals.{else-count-gt0-via-then-count-gt0+else-from, else-count-gt0-via-else-count-gt0}

pub returns-then-from-self-clause-exact : goal.returns-then-from-self-clause-exact
returns-then-from-self-clause-exact c = λ p first h stands.
    let n : c.self.inside.n ≡ p.n = ap (λ (w : Window). w.numbers.n) c.self.view_is ∙ ap (λ (q : Numbers). q.n) stands.numbers in
    sym (nobody p (rows_given first h) c.args.from c.args.bytes.now (omega (arith, n, c.if-from-self.true)))

pub returns-in-Some-clause-exact : goal.returns-in-Some-clause-exact
returns-in-Some-clause-exact c = λ p first h stands.
    let n : c.self.inside.n ≡ p.n = ap (λ (w : Window). w.numbers.n) c.self.view_is ∙ ap (λ (q : Numbers). q.n) stands.numbers in
    sym (formless p (rows_given first h) c.args.from c.in-Some.at c.args.bytes.now (omega (arith, n, c.if-from-self.false)) (ap (λ k. form_fault k c.args.bytes.now) (sym n) ∙ sym c.in-Some.ensures.value))

pub returns-then-from-clause-exact : goal.returns-then-from-clause-exact
returns-then-from-clause-exact c = λ p first h stands.
    let n : c.self.inside.n ≡ p.n = ap (λ (w : Window). w.numbers.n) c.self.view_is ∙ ap (λ (q : Numbers). q.n) stands.numbers in
    let len : c.self.inside.len ≡ (rows_given first h).len = ap (λ (w : Window). w.len) c.self.view_is ∙ stands.len in
    sym (too_far p (rows_given first h) c.args.from c.self.inside.len c.args.bytes.now len (omega (arith, n, c.if-from-self.false))
    (ap (λ k. form_fault k c.args.bytes.now) (sym n) ∙ sym c.in_default.ensures.value) c.if-count-gt0.true
    (omega (arith, c.if-from.true, c.from.ensures, c.from-then-count-gt0.ensures, c.from-then-count-gt0-2.ensures, c.from-then-count-gt0-3.ensures, c.number_at-first.ensures)))

pub returns-clause-exact : goal.returns-clause-exact
returns-clause-exact c = λ p first h stands.
    let n : c.self.inside.n ≡ p.n = ap (λ (w : Window). w.numbers.n) c.self.view_is ∙ ap (λ (q : Numbers). q.n) stands.numbers in
    let at : c.self.inside.len ≡ c.args.self.now.len = ap (λ (w : Window). w.len) c.self.view_is in
    let rest = take_all (length c.args.bytes.now - 6) (drop 6 c.args.bytes.now) (omega (arith, length-drop 6 c.args.bytes.now)) in
    let within : c.args.from < p.n = omega (arith, n, c.if-from-self.false) in
    c.change_fault.ensures.fault ∙ sym (changed_as p (rows_given first h) c.args.from c.self.inside.len c.number_at-first.result c.args.bytes.now (take (length c.args.bytes.now - 6) (drop 6 c.args.bytes.now))
    c.args.self.now.places c.as_slice.result.now _ (at ∙ stands.len) (c.as_slice.ensures.value ∙ ap (λ (w : Window). w.places) c.self.view_is) c.number_at-first.ensures rest
    (subst (λ (k : ℕ). AreKeptIn k c.args.self.now.places (rows_given first h).kept) (sym at) stands.kept) (omega (arith, within, n, c.self.invariant.few)) within
    (ap (λ k. form_fault k c.args.bytes.now) (sym n) ∙ sym c.in_default.ensures.value)
    (λ some. elim c.else-count-gt0.branch [
      | else-count-gt0-via-then-count-gt0+else-from w ↦
          omega (arith, w.if-from.false, w.from.ensures, w.from-then-count-gt0.ensures, w.from-then-count-gt0-2.ensures, w.from-then-count-gt0-3.ensures, c.number_at-first.ensures)
      | else-count-gt0-via-else-count-gt0 w ↦ absurd (omega (arith, some, w.if-count-gt0.false))
    ])
    c.changed.ensures)
