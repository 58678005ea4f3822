use Rattle.std.proofs.Common.{arith, length-drop, refl, ap, ◌∙◌}
use Rattle.std.proofs.lemmas.Result.{IfOk-from_err}
use Rattle.outside.proofs.Pieces.{after_piece}
use Rattle.outside.specs.Faults.{count_after}
use Rattle.outside.specs.FaultsLaws.{rose_after}
use Rattle.outside.specs.WritingLaws.{front_of}
use Rattle.outside.proofs.sink.write_all.Goals as goal

pub loop-at-preserved : goal.loop-at-preserved
loop-at-preserved g c = (
  omega (arith, c.in_ok-at.ensures.count, length-drop c.loop-at.at c.args.bytes.now),
  c.in_ok-at.ensures.counts ∙ c.loop-at.invariant.1,
  λ tells. after_piece _ _ _ _ _ _ (c.loop-at.invariant.2 tells) (c.in_ok-at.ensures.bytes tells),
)

pub returns-in_err-at : goal.returns-in_err-at
returns-in_err-at g c =
    let same = c.loop-at.invariant.1 in
    record {
      whole = λ _. IfOk-from_err c.from_residual.result _ c.from_residual.ensures.0;
      front = λ tells. front_of _ _ _ c.loop-at.at (c.in_err-at.ensures.err tells ∙ c.loop-at.invariant.2 tells);
      later = omega (arith, c.in_err-at.ensures.cause.later, same);
      cause = λ _. rose_after _ _ _ (omega (arith, same)) (c.in_err-at.ensures.cause.cause refl);
      counts = record { stands = IfOk-from_err c.from_residual.result _ c.from_residual.ensures.0; rises = λ _. c.in_err-at.ensures.counts ∙ ap count_after same; others = λ not. absurd (not c.from_residual.ensures.0) };
    }
