use Rattle.std.proofs.Common.{◌≡◌, ℕ, ◌+◌, Err, ◌∷◌, arith, refl, ap, ◌∙◌, subst}
use Rattle.std.proofs.lemmas.Result.{err_from_is_err_and}
use Rattle.schedule_file.specs.FileBytes.{limit}
use Rattle.schedule_file.specs.Place.{spot}
use Rattle.schedule_file.specs.SourceFaults.{file_faults_after}
use Rattle.schedule_file.specs.ReadHeader.{heading}
use Rattle.schedule_file.specs.Scopes.{scope_of}
use Rattle.schedule_file.specs.declared.scope.Scope.{Scope}
use Rattle.ritas_base.specs.Events.{MayHappen}
use Rattle.schedule_replay.proofs.Feeding.{goes_on, fails, ends, too_many, all_read}
use Rattle.schedule_replay.proofs.played.Played.play.Goals as goal

pub returns-in_err-next-clause-exact : goal.returns-in_err-next-clause-exact
returns-in_err-next-clause-exact g c = λ tells before stands.
    let p = err_from_is_err_and c.from_residual.result c.from_residual.ensures.1 in
    let so_far = c.loop.invariant.5 tells before stands in
    rw (p.1, p.2) (fails c.in_err-next.field-0.0 so_far.0 (limit + 1) c.loop.counter c.loop.reader.scope (spot c.loop.reader.held (g.I.Source.left c.loop.input)) _
    c.loop-test.true (c.in_err-next.ensures.exact c.loop.invariant.0 tells) so_far.2)

pub returns-in_err-next-clause-counts : goal.returns-in_err-next-clause-counts
returns-in_err-next-clause-counts g c =
    let p = err_from_is_err_and c.from_residual.result c.from_residual.ensures.1 in
    rw (p.1, p.2) (c.in_err-next.ensures.counts c.loop.invariant.0 ∙ ap (λ (n : ℕ). file_faults_after {A = Unit {0}} n (Err c.in_err-next.field-0.0)) c.loop.invariant.3)

pub returns-in-None-clause-end : goal.returns-in-None-clause-end
returns-in-None-clause-end g c = λ tells.
    all_read c.loop.reader.scope (spot c.loop.reader.held (g.I.Source.left c.loop.input)) c.next.new.self.held (g.I.Source.left c.next.new.src)
    (rw c.in-None.is at (c.in_ok-next.ensures.exact c.loop.invariant.0 tells))

pub returns-in-None-clause-exact : goal.returns-in-None-clause-exact
returns-in-None-clause-exact g c = λ tells before stands.
    let so_far = c.loop.invariant.5 tells before stands in
    let read = rw c.in-None.is at (c.in_ok-next.ensures.exact c.loop.invariant.0 tells) in (
      so_far.0,
      so_far.1,
      ends so_far.0 (limit + 1) c.loop.counter c.loop.reader.scope (spot c.loop.reader.held (g.I.Source.left c.loop.input))
          (spot c.next.new.self.held (g.I.Source.left c.next.new.src)) _ c.loop-test.true read so_far.2,
    )

pub loop-preserved : goal.loop-preserved
loop-preserved g c =
    let event = rw c.in-Some.is at c.in_ok-next.ensures.event in
    let same : c.loop.reader.scope ≡ scope_of (heading c.loop.self.header) = c.loop.invariant.1 ∙ (c.requires.scope ∙ rw c.loop.invariant.2 refl) in
    let may = subst (λ (scope : Scope). MayHappen scope.n c.in-Some.event) same event.0 in
    let stage = rw c.in-Some.is at (c.in_ok-next.ensures.stage c.loop.invariant.0) in (
      stage,
      c.in_ok-next.ensures.scope ∙ c.loop.invariant.1,
      c.in_ok-event-in-Some.ensures.header ∙ c.loop.invariant.2,
      c.in_ok-next.ensures.counts c.loop.invariant.0 ∙ c.loop.invariant.3,
      omega (arith, c.in_ok-event-in-Some.ensures.one, c.loop.invariant.4),
      λ tells before stands.
          let so_far = c.loop.invariant.5 tells before stands in
          let read = rw c.in-Some.is at (c.in_ok-next.ensures.exact c.loop.invariant.0 tells) in
          let more = goes_on so_far.0 (limit + 1) c.loop.counter c.loop.reader.scope (spot c.loop.reader.held (g.I.Source.left c.loop.input)) c.in-Some.event
          (spot c.next.new.self.held (g.I.Source.left c.next.new.src)) _ c.loop-test.true read so_far.2 in
          (c.in-Some.event ∷ so_far.0, c.in_ok-event-in-Some.ensures.stands so_far.0 so_far.1 may, rw c.in_ok-next.ensures.scope more),
    )

pub returns-clause-exact : goal.returns-clause-exact
returns-clause-exact g c = λ tells before stands own.
    let so_far = c.loop.invariant.5 tells before stands in
    too_many so_far.0 (limit + 1) c.loop.counter c.loop.reader.scope (spot c.loop.reader.held (g.I.Source.left c.loop.input)) _ c.loop-test.false so_far.2
