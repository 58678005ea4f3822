-- Drawn numbers, and the frames of garbage that are made of them.
use Rattle.std.specs.Prelude.{ℕ, not, List, [], ◌∷◌, ◌++◌, filter, replicate}
use Rattle.rand_core.specs.Pcg32Seed.{pcg32_seed}
use Rattle.rand_pcg.specs.Lcg.{Lcg}
use Rattle.rand_pcg.specs.Pcg.{pcg32, pcg32_of_seed}
use Rattle.ritas_base.specs.History.{replicas}
use Rattle.ritas_base.specs.declared.plan.Plan.{Plan}
use Rattle.ritas_base.specs.declared.plan.Attack.{Attack}
use Rattle.ritas_base.specs.declared.plan.Attack.TheVariants.{Garbage}
use Rattle.world_model.specs.Players.{Step, Throw}
use Rattle.schedule_plan.specs.Plans.{correct_of, is_correct_in}
use Rattle.schedule_plan.specs.Inputs.{number_text}

-- where the words of a plan start
abbrev pub words_start : Plan → Lcg
words_start p = pcg32_of_seed (pcg32_seed 16 p.start_number)

-- the next two words, and 32 zero bytes
abbrev pub filler : Lcg → List ℕ
filler g = number_text (pcg32 g).0 ++ number_text (pcg32 (pcg32 g).1).0 ++ replicate 32 0

abbrev pub after_filler : Lcg → Lcg
after_filler g = (pcg32 (pcg32 g).1).1

-- a frame for each of these receivers, and the words that are left
abbrev pub throws_to : ℕ → List ℕ → Lcg → List Step × Lcg
throws_to i [] g = ([], g)
throws_to i (j ∷ js) g = let more = throws_to i js (after_filler g) in (Throw i j (filler g) ∷ more.0, more.1)

abbrev pub throws_by : List ℕ → List ℕ → Lcg → List Step × Lcg
throws_by [] js g = ([], g)
throws_by (i ∷ is) js g = let first = throws_to i js g in let more = throws_by is js first.1 in (first.0 ++ more.0, more.1)

abbrev pub faulty_of : Plan → List ℕ
faulty_of p = filter (λ i. not (is_correct_in p i)) (replicas p.p.n)

-- each faulty replica throws a frame to each correct one, where the attack is garbage
abbrev pub throws_of : Plan → Attack → Lcg → List Step × Lcg
throws_of p Garbage g = throws_by (faulty_of p) (replicas (correct_of p)) g
throws_of p _ g = ([], g)
