use Rattle.std.proofs.Common.{◌∙◌, sym, ap, subst, ℕ, None}
use Rattle.ritas_base.specs.Numbers.{Numbers, support_of}
use Rattle.multivalued.specs.Tables.{IsTable}
use Rattle.multivalued.proofs.Calls.{begins}
use Rattle.multivalued.proofs.mvc.MvcMultiBox.new.Goals as goal

pub returns : goal.returns
returns g c = λ at numbers me a attempt.
    let support = c.support.ensures ∙ sym (ap (λ (p : Numbers). support_of p) numbers) in
    begins g.B.BinaryBox.stands g.B.BinaryBox.rules g.met.B.BinaryBox.box_laws c.new.result c.in_ok-new.field-0 c.new-3.result at (c.new.ensures at numbers me a attempt)
    (subst (λ (s : ℕ). IsTable at.scope.numbers.n s (λ k. None) (λ k. None) c.new-3.result) support (c.new-3.ensures at.scope.numbers.n))
    (c.in_ok-new.ensures _ numbers me a attempt)
