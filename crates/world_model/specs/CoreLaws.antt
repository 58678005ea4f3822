-- The laws of the crates below that those of worlds rest on.
use Rattle.frame_codec.specs.Laws.{InputsFaultless}
use Rattle.ritas_core.specs.Laws.{StartsWhatWasSaid, WordsAreProper, CallsAreGood, NewIsDue, DueStays, NewIsGood}
use Rattle.ritas_core.specs.Laws.{MayStartGiven, MayHearTaken, MayStartHeard, TakenIsTakable, GivenIsGivable}

-- the laws of the core and of inputs
pub record CoreLaws : Type 0 where
  pub started : StartsWhatWasSaid
  pub proper : WordsAreProper
  pub calls : CallsAreGood
  pub due : NewIsDue
  pub due_stays : DueStays
  pub sent : NewIsGood
  pub given : MayStartGiven
  pub hears : MayHearTaken
  pub heard : MayStartHeard
  pub takable : TakenIsTakable
  pub givable : GivenIsGivable
  pub faultless : InputsFaultless
