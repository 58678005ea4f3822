use Rattle.std.proofs.Common.{◌≡◌, suc, ◌+◌, ◌<◌, ◌∷◌, ◌++◌, List, [], Some, None, refl, sym, subst, arith, ap, ◌∙◌, add-one}
use Rattle.ritas_base.specs.declared.item.Say.{Say}
use Rattle.ritas_base.specs.declared.slot.Slot.{Slot}
use Rattle.binary_consensus.specs.Steps.{line_slot, heard, accepted}
use Rattle.binary_consensus.specs.Going.{own_step_slot, Gone}
use Rattle.binary_consensus.proofs.Turning.{stay, move, stop}
use Rattle.binary_consensus.proofs.Moves.{own_is, tally_now, wait_is, leaves_at, next_at}
use Rattle.binary_consensus.proofs.going.go_on.Goals as goal

pub returns-then-votes-wait : goal.returns-then-votes-wait
returns-then-votes-wait g c = λ at x w start part tosses are said-is below passing known.
    let t = c.loop-t.t in
    let tally = tally_now c.args.part.now c.args.line.now at (x ∷ w) t c.accepted-votes.result part are c.loop-t.invariant.below c.accepted-votes.ensures.counted in
    let wait = wait_is c.args.part.now c.args.line.now at c.params-p.result c.wait.result part c.params-p.ensures c.wait.ensures in
    let all = tally.all in
    let few = c.if-votes-wait.true in
    stay at start c.args.says.now.items x w c.loop-t.says.items c.loop-t.decided t _ (add-one t) refl refl c.loop-t.invariant.below
    (c.loop-t.invariant.gone at x w start part tosses are said-is below passing known) (omega (arith, wait, all, few))

pub say-requires : goal.say-requires
say-requires g c =
    let below = c.loop-t.invariant.below in
    let last : c.loop-t.t ≡ 599 → ⊥ = λ e. let z : None ≡ Some c.in-Some.next = sym (c.leave-left.ensures.last e) ∙ c.in-Some.is in absurd cc in
    omega (arith, below, last)

pub returns-in_default : goal.returns-in_default
returns-in_default g c = λ at x w start part tosses are said-is below passing known.
    let t = c.loop-t.t in
    let tally = tally_now c.args.part.now c.args.line.now at (x ∷ w) t c.accepted-votes.result part are c.loop-t.invariant.below c.accepted-votes.ensures.counted in
    let wait = wait_is c.args.part.now c.args.line.now at c.params-p.result c.wait.result part c.params-p.ensures c.wait.ensures in
    let all = tally.all in
    let many = c.if-votes-wait.false in
    let leaves = leaves_at c.args.part.now c.args.line.now c.params-p.result at (g.C.Coin.bits c.args.coin.now) t c.accepted-votes.result c.loop-t.decided c.leave-left.result
    (accepted at.numbers (heard at (x ∷ w)) t) c.leave-left.ensures.leaves c.params-p.ensures part tosses tally in
    stop at start c.args.says.now.items x w c.loop-t.says.items c.loop-t.decided c.leave-left.result.decided t _ (add-one t) refl refl c.loop-t.invariant.below
    (c.loop-t.invariant.gone at x w start part tosses are said-is below passing known) (omega (arith, wait, all, many)) leaves.0 (sym c.in_default.is ∙ leaves.1)

pub loop-t-preserved : goal.loop-t-preserved
loop-t-preserved g c =
    let t = c.loop-t.t in
    let inside = c.loop-t.invariant.below in
    let last : t ≡ 599 → ⊥ = λ e. let z : None ≡ Some c.in-Some.next = sym (c.leave-left.ensures.last e) ∙ c.in-Some.is in absurd cc in
    let more : t < 599 = omega (arith, inside, last) in
    record {
      below = omega (arith, more);
      gone = λ at x w start part tosses are said-is below passing known.
          let tally = tally_now c.args.part.now c.args.line.now at (x ∷ w) t c.accepted-votes.result part are c.loop-t.invariant.below c.accepted-votes.ensures.counted in
          let wait = wait_is c.args.part.now c.args.line.now at c.params-p.result c.wait.result part c.params-p.ensures c.wait.ensures in
          let all = tally.all in
          let many = c.if-votes-wait.false in
          let leaves = leaves_at c.args.part.now c.args.line.now c.params-p.result at (g.C.Coin.bits c.args.coin.now) t c.accepted-votes.result c.loop-t.decided c.leave-left.result
          (accepted at.numbers (heard at (x ∷ w)) t) c.leave-left.ensures.leaves c.params-p.ensures part tosses tally in
          let next = next_at at t c.loop-t.decided (accepted at.numbers (heard at (x ∷ w)) t) c.in-Some.next more (sym c.in-Some.is ∙ leaves.1) in
          let m = move at start c.args.says.now.items x w c.loop-t.says.items c.loop-t.decided c.leave-left.result.decided t c.in-Some.next more
          (c.loop-t.invariant.gone at x w start part tosses are said-is below passing known) (omega (arith, wait, all, many)) leaves.0 next in
          let slot : own_step_slot c.args.part.now (t + 1) ≡ line_slot at (suc t) at.me =
          ap (own_step_slot c.args.part.now) (add-one t) ∙ own_is c.args.part.now c.args.line.now.numbers at (suc t) part in
          let items : c.say.new.says.items ≡ c.loop-t.says.items ++ record { slot = line_slot at (suc t) at.me; value = c.in-Some.next ∷ [] } ∷ [] =
          c.in_ok-say.ensures.said ∙ ap (λ (s : Slot). let y : Say = record { slot = s; value = c.in-Some.next ∷ [] } in c.loop-t.says.items ++ y ∷ []) slot in
          rw (add-one t) (subst (λ (xs : List Say). Gone at start (suc t) c.args.says.now.items xs c.leave-left.result.decided x w) (sym items) m);
    }

pub returns : goal.returns
returns g c = λ at x w start part tosses are said-is below passing known.
    let inside = c.loop-t.invariant.below in
    let past = c.loop-t-test.false in
    absurd (omega (arith, inside, past))
