use Rattle.std.proofs.Common.{◌%◌, sym, ap, ◌∙◌, ℕ, arith}
use Rattle.instance_tree.proofs.Walk.{ring_taken, walk_takes, walk_step}
use Rattle.instance_tree.proofs.ring.Ring.take_below.Goals as goal

pub invariant_of-self-in-Some : goal.invariant_of-self-in-Some
invariant_of-self-in-Some c =
    ring_taken c.loop-step.self-inside.width c.loop-step.self-inside.low c.args.bound c.loop-step.self-inside.buckets.items c.take_at.new.buckets.items
    c.place_of.result c.in-Some.spot c.loop-step.invariant.walked.ring c.in-Some.ensures.takes c.in-Some.ensures.others

pub returns-in-Some : goal.returns-in-Some
returns-in-Some c =
    walk_takes c.args.self.now c.loop-step.self-inside.width c.self.inside.low c.args.bound c.loop-step._step c.loop-step.self-inside.low c.place_of.result
    c.loop-step.self-inside.buckets.items c.take_at.new.buckets.items c.in-Some.spot c.loop-step.invariant.walked c.in-Some.ensures.takes
    c.in-Some.ensures.others

pub loop-step-preserved : goal.loop-step-preserved
loop-step-preserved c = record {
  walked =
      walk_step c.args.self.now c.loop-step.self-inside.width c.self.inside.low c.args.bound c.loop-step._step c.loop-step.self-inside.low c.place_of.result
      c.loop-step.self-inside.buckets.items c.take_at.new.buckets.items c.take_at.result c.loop-step.invariant.walked (omega arith)
      (c.place_of.ensures ∙ ap (λ (w : ℕ). c.loop-step.self-inside.low % w) (sym c.loop-step.invariant.width)) c.in_default.is c.take_at.ensures.takes
      c.take_at.ensures.others;
  width = c.loop-step.invariant.width;
}
