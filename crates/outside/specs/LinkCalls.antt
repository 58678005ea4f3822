-- What several calls of a link told. Lists of its calls have the newest first.
use Rattle.std.specs.Prelude.{◌≡◌, ◌≤◌, Bool, true, List, ◌++◌, map, reverse, Result, Err, OnOk}
use Rattle.outside.specs.Faults.{Rose}
use Rattle.outside.specs.Links.{LinkAct, faults_after}
use Rattle.outside.specs.declared.link.FaultCounts.{FaultCounts}
use Rattle.outside.specs.declared.link.LinkFault.{LinkFault}
use Rattle.outside.specs.declared.link.LinkFault.TheVariants.{Failed}

-- of these calls the older ones were told, up to a point
pub record TookBack (old new acts : List LinkAct) : Type 0 where
  pub rest : List LinkAct
  pub back : List LinkAct
  pub parts : acts ≡ rest ++ back
  pub told : new ≡ back ++ old

-- At Ok all these calls were told, and in any case the older ones up to a point. No call of the link failed or was without memory but the
-- one that ended it.
pub record LinkDid (tells : Bool) (acts old new : List LinkAct) (before now : FaultCounts) (result : Result (Unit {0}) LinkFault) : Type 0 where
  pub whole : tells ≡ true → OnOk result (new ≡ acts ++ old)
  pub back : tells ≡ true → TookBack old new acts
  pub later : before.failed ≤ now.failed
  pub cause : result ≡ Err Failed → Rose before.failed now.failed
  pub count : now ≡ faults_after before result

-- a call for each of a list, in its order
abbrev pub each_act : {A : Type 0} → (A → LinkAct) → List A → List LinkAct
each_act f xs = reverse (map f xs)
