use Rattle.std.proofs.Common.{ℕ, List, ◌++◌, refl, sym, ap, ◌∙◌, subst}
use Rattle.outside.specs.Writing.{TookFront}
use Rattle.node_loop.proofs.Delivering.{wrote_all, wrote_front}
use Rattle.node_loop.proofs.deliver.write.Goals as goal

pub returns-in-Ok-clause-steps : goal.returns-in-Ok-clause-steps
returns-in-Ok-clause-steps g c = λ tells base told link_faults news older acts outs same text agrees.
    wrote_all tells base _ _ _ _ told link_faults news older acts agrees
    (λ t. c.in-Ok.ensures.whole (sym same ∙ t) ∙ ap (λ (l : List ℕ). g.K.Sink.taken c.args.tape.now ++ l) text) c.in-Ok.ensures.counts.stands

pub returns-in-Err-clause-steps : goal.returns-in-Err-clause-steps
returns-in-Err-clause-steps g c = λ tells base told link_faults news older acts outs same text agrees.
    wrote_front tells base _ _ _ _ told link_faults news older acts outs agrees
    (λ t. subst (λ (l : List ℕ). TookFront (g.K.Sink.taken c.args.tape.now) (g.K.Sink.taken c.write_all.new.sink) l) text (c.in-Err.ensures.front (sym same ∙ t)))
    c.in-Err.ensures.later (c.in-Err.ensures.counts.rises refl)
