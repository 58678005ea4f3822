use Rattle.std.proofs.Common.{refl, arith}
use Rattle.outside.specs.Courses.{told_of}
use Rattle.outside.proofs.course.Course.new.Goals as goal

pub invariant_of-result : goal.invariant_of-result
unfolding told_of
invariant_of-result c = rw (c.new.ensures.items, c.new-2.ensures.items, c.new-3.ensures.items, c.new-4.ensures.items)
    (record { short = c.requires; ended = λ has. absurd (omega (arith, has.1)); plans_told = refl; frames_told = refl; replies_told = refl })

pub returns : goal.returns
unfolding told_of
returns c = rw c.new.ensures.items refl
