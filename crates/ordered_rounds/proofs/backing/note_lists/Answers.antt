use Rattle.std.proofs.Common.{◌≡◌, ◌-◌, ap₂, arith, ℕ, List, subst}
use Rattle.std.specs.Int.RustNames.{count_ones}
use Rattle.frame_codec.specs.Values.{mask_of, entries_in, vector_entries}
use Rattle.ordered_rounds.proofs.BackingSteps.{IsNoting, noting_first, noting_step, noting_done, nothing_noted}
use Rattle.ordered_rounds.proofs.backing.note_lists.Goals as goal

pub returns-then-vector-lt4 : goal.returns-then-vector-lt4
returns-then-vector-lt4 c = λ x.
    nothing_noted c.new-noted.result c.args.vector.now (count_ones (mask_of c.args.vector.now)) x c.new-noted.ensures.empty (omega arith)

pub loop-k-init : goal.loop-k-init
loop-k-init c =
    let count : ℕ = c.split_count-count.result.0 in
    let rest : List ℕ = c.split_count-count.result.1.now in
    let all : count ≡ count - 0 = omega arith in
    subst (λ (n : ℕ). IsNoting c.new-noted.result 0 n rest (vector_entries c.args.vector.now)) all
    (noting_first c.new-noted.result count rest (vector_entries c.args.vector.now) c.new-noted.ensures.empty
    (ap₂ entries_in c.split_count-count.ensures.count c.split_count-count.ensures.rest))

pub loop-k-preserved : goal.loop-k-preserved
loop-k-preserved c =
    noting_step c.loop-k.noted c.note_list.new.noted c.loop-k.k c.split_count-count.result.0 c.loop-k.rest.now c.split_list.result.0.now c.split_list.result.1.now
    (vector_entries c.args.vector.now) c.loop-k-test.true c.split_count-count.ensures.few c.split_list.ensures.list c.split_list.ensures.rest
    c.in_ok-note_list.ensures c.loop-k.invariant

pub returns : goal.returns
returns c = λ x.
    let past : c.split_count-count.result.0 - c.loop-k.k ≡ 0 = omega arith in
    noting_done c.loop-k.noted c.loop-k.k _ c.loop-k.rest.now (vector_entries c.args.vector.now) x past c.loop-k.invariant
