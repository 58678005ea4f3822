-- Words name one job, and are refused for want of memory where they name one.
use Rattle.std.proofs.Common.{◌≡◌, List, ℕ, Some, None, refl, sym, ◌∙◌}
use Rattle.ritas_base.specs.declared.what.What.{What}
use Rattle.cluster_config.specs.declared.job.Job.{Job}
use Rattle.cluster_config.specs.declared.job.Job.TheVariants as jobs
use Rattle.cluster_config.specs.declared.words.WordsFault.{WordsFault}
use Rattle.cluster_config.specs.declared.words.WordsFault.TheVariants as faults
use Rattle.cluster_config.specs.Words.{job_of}

same_job : (a b : Job) → Some a ≡ Some b → a ≡ b
same_job a b e = cc

pub one_job : (words : List (List ℕ)) (a b : Job) → job_of words ≡ Some a → job_of words ≡ Some b → a ≡ b
one_job words a b first second = same_job a b (sym first ∙ second)

pub same_what : (a b : What) → jobs.Replay a ≡ jobs.Replay b → a ≡ b
same_what a b e = cc

pub only_memory : (fault : WordsFault) → ¬ (fault ≡ faults.Usage) → fault ≡ faults.Mem
only_memory faults.Usage other = absurd (other refl)
only_memory faults.Mem other = refl

pub named_none : (words : List (List ℕ)) (job : Job) → job_of words ≡ None → job_of words ≡ Some job → ⊥
named_none words job none some = let both : None ≡ Some job = sym none ∙ some in cc
