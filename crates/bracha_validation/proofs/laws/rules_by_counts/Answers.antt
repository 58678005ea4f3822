use Rattle.bracha_validation.specs.RuleLaws.{first_gives, second_gives, third_gives, first_may, second_may, third_may}
use Rattle.bracha_validation.proofs.laws.rules_by_counts.Goals as goal

pub returns-clause-first : goal.returns-clause-first
returns-clause-first c = λ p vs v. (first_gives p vs v, first_may p vs v)

pub returns-clause-second : goal.returns-clause-second
returns-clause-second c = λ p vs v. (second_gives p vs v, second_may p vs v)

pub returns-clause-third : goal.returns-clause-third
returns-clause-third c = λ p vs v. (third_gives p vs v, third_may p vs v)
