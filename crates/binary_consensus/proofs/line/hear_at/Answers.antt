use Rattle.std.proofs.Common.{◌<◌, ◌∙◌, ℕ, set, ap, subst, arith}
use Rattle.binary_consensus.specs.declared.line.StepVotes.{StepVotes}
use Rattle.binary_consensus.specs.Counts.{heards}
use Rattle.binary_consensus.proofs.Lines.{index_row, heard_but, hears_byte, byte_read}
use Rattle.binary_consensus.proofs.line.hear_at.Goals as goal
use Rattle.binary_consensus.proofs.line.hear_at.Goals.{then-value-limit-via-then-value-limit, then-value-limit-via-else-value-limit+then-origin-n, then-value-limit-via-else-value-limit+else-origin-n+then-steps-at}

pub settle-requires : goal.settle-requires
settle-requires c =
    let rows = c.args.steps.now in
    let at = c.args.at in
    let inside = c.requires.inside in
    let size = (c.requires.line.votes at).whole in
    let most = c.n.ensures.session.most in
    let n = c.from-n.ensures in
    let value = c.n.ensures.value in
    let within = c.if-origin-n.false in
    rw (index_row rows at inside) (heard_but c.args.p.now rows at c.args.origin c.args.value inside (omega (arith, size, most, n, value, within)) c.requires.line
    (subst (λ (k : ℕ). c.args.value < k) c.limit.ensures c.if-value-limit.false))

pub returns-clause-heard : goal.returns-clause-heard
returns-clause-heard c = λ within free small.
    let rows = c.args.steps.now in
    let at = c.args.at in
    let inside = c.requires.inside in
    let size = (c.requires.line.votes at).whole in
    let most = c.n.ensures.session.most in
    hears_byte rows c.settle.new.steps at c.args.origin c.args.value inside (omega (arith, size, most, within))
    (c.settle.ensures.same
    ∙ ap (λ (r : StepVotes). heards (set rows at (record { heard = set r.heard c.args.origin c.args.value; accepted = r.accepted }))) (index_row rows at inside))

pub returns-then-value-limit-clause-heard : goal.returns-then-value-limit-clause-heard
returns-then-value-limit-clause-heard c = λ within free small.
    let rows = c.args.steps.now in
    let at = c.args.at in
    let limit = c.limit.ensures in
    let n = c.from-n.ensures in
    let value = c.n.ensures.value in
    let size = (c.requires.line.votes at).whole in
    let most = c.n.ensures.session.most in
    elim c.then-value-limit.branch [
      | then-value-limit-via-then-value-limit w ↦ let past = w.if-value-limit.true in absurd (omega (arith, past, limit, small))
      | then-value-limit-via-else-value-limit+then-origin-n w ↦ let past = w.if-origin-n.true in absurd (omega (arith, past, n, value, within))
      | then-value-limit-via-else-value-limit+else-origin-n+then-steps-at w ↦
          let read = byte_read rows at c.args.origin c.requires.inside (omega (arith, size, most, within)) in absurd (w.if-steps-at.true (read ∙ free))
    ]
