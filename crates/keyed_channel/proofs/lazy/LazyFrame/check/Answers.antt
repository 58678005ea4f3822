use Rattle.std.proofs.Common.{◌≡◌, sym, ◌∙◌, ap, ap₂, subst, length, ℕ}
use Rattle.std.specs.Prelude.{Option, Some, None, MatchResult}
use Rattle.ritas_base.specs.Places.{first_failed}
use Rattle.keyed_channel.specs.Frames.{parts_tests, plain_fault}
use Rattle.keyed_channel.specs.declared.frame.OpenFault.{OpenFault}
use Rattle.keyed_channel.proofs.Lazily.{plain_by_parts}
use Rattle.keyed_channel.proofs.lazy.LazyFrame.check.Goals as goal

pub returns-clause-fault : goal.returns-clause-fault
returns-clause-fault c =
    let f = c.self.inside in
    let k = c.args.keys.now in
    let P : Option OpenFault → Type 0 = λ x. MatchResult c.check_parts.result (λ _. x ≡ None) (λ fault. x ≡ Some fault) in
    let same : first_failed (parts_tests k c.len.result c.byte.result f.from f.to) ≡ plain_fault k c.args.self.now =
    ap₂ (λ (l v : ℕ). first_failed (parts_tests k l v f.from f.to)) (c.len.ensures.is ∙ ap length (sym c.self.view_is)) c.byte.ensures
    ∙ plain_by_parts k f.version f.from f.to f.seq f.body.value f.key.value
    ∙ ap (plain_fault k) c.self.view_is in
    subst P same c.check_parts.ensures.fault
