use Rattle.std.proofs.Common.{◌≡◌, ◌<◌, sym, ◌∙◌, ap, [], get_or, add-one, length, length-set, arith, rules}
use Rattle.binary_consensus.specs.declared.line.StepVotes.{StepVotes}
use Rattle.binary_consensus.specs.Counts.{none}
use Rattle.binary_consensus.proofs.Lines.{before_small, index_row, settled_here, settled_next, heards_set, taken_here}
use Rattle.binary_consensus.proofs.line.settle.Goals as goal

pub taken-accepted-requires-clause-bits : goal.taken-accepted-requires-clause-bits
taken-accepted-requires-clause-bits c = rw c.votes_before.ensures (before_small c.args.p.now c.loop-t.steps c.loop-t.t c.loop-t.invariant.line).bits

pub taken-accepted-requires-clause-few : goal.taken-accepted-requires-clause-few
taken-accepted-requires-clause-few c = rw c.votes_before.ensures (before_small c.args.p.now c.loop-t.steps c.loop-t.t c.loop-t.invariant.line).few

pub loop-t-preserved : goal.loop-t-preserved
loop-t-preserved c =
    let p = c.args.p.now in
    let rows = c.loop-t.steps in
    let t = c.loop-t.t in
    let size = c.loop-t.invariant.size in
    let test = c.loop-t-test.true in
    let inside : t < length rows = omega (arith, size, test) in
    let is = taken_here p rows t c.from-n.result c.votes_before.result c.taken-accepted.result (c.from-n.ensures ∙ c.n.ensures.value) inside c.votes_before.ensures c.taken-accepted.ensures in
    rw (index_row rows t inside, add-one t, length-set) (record {
      line = settled_next p rows t c.taken-accepted.result inside c.loop-t.invariant.line is;
      same = heards_set rows t c.taken-accepted.result ∙ c.loop-t.invariant.same;
      size = c.loop-t.invariant.size;
    })

pub returns-then-eq-clause-line : goal.returns-then-eq-clause-line
returns-then-eq-clause-line c =
    let p = c.args.p.now in
    let rows = c.loop-t.steps in
    let t = c.loop-t.t in
    let size = c.loop-t.invariant.size in
    let test = c.loop-t-test.true in
    let inside : t < length rows = omega (arith, size, test) in
    let is = taken_here p rows t c.from-n.result c.votes_before.result c.taken-accepted.result (c.from-n.ensures ∙ c.n.ensures.value) inside c.votes_before.ensures c.taken-accepted.ensures in
    let same : c.taken-accepted.result ≡ (get_or rows t (record { heard = []; accepted = none })).accepted = search rules in
    settled_here p rows t c.loop-t.invariant.line (ap (λ (r : StepVotes). r.accepted) (sym (index_row rows t inside)) ∙ (sym same ∙ is))
