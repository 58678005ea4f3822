use Rattle.std.proofs.Common.{◌≡◌, Err, refl, arith, ap, ◌∙◌}
use Rattle.outside.specs.declared.link.FaultCounts.{FaultCounts}
use Rattle.outside.specs.declared.link.LinkFault.TheVariants.{Failed}
use Rattle.outside.specs.declared.link.LinkItem.{LinkItem}
use Rattle.outside.specs.FaultsLaws.{rose_after}
use Rattle.outside.specs.Links.{faults_after}
use Rattle.tcp_link.proofs.link.TcpLinkLink.next.Goals as goal

pub returns-in-Err-clause-cause : goal.returns-in-Err-clause-cause
returns-in-Err-clause-cause g c = record {
  later = omega (arith, ap (λ (n : FaultCounts). n.failed) c.loop.invariant.same, c.in-Err.ensures.cause.later);
  cause = λ e.
      let same : c.in-Err.fault ≡ Failed = cc in
      rose_after _ _ _ (omega (arith, ap (λ (n : FaultCounts). n.failed) c.loop.invariant.same)) (c.in-Err.ensures.cause.cause (rw same refl));
}

pub returns-in-Err-clause-count : goal.returns-in-Err-clause-count
returns-in-Err-clause-count g c =
    c.in-Err.ensures.count ∙ ap (λ (n : FaultCounts). faults_after {A = LinkItem} n (Err c.in-Err.fault)) c.loop.invariant.same
