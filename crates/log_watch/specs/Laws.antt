-- What whoever watches may rely on.
use Rattle.std.specs.Prelude.{◌≡◌, ℕ, ◌-◌, ◌≤◌, Bool, true, List, [], ◌∷◌, count_by}
use Rattle.ritas_base.specs.Numbers.{Numbers}
use Rattle.ritas_base.specs.History.{replicas}
use Rattle.layer_api.specs.Service.{IsPart}
use Rattle.outside.specs.declared.link.LinkItem.{LinkItem}
use Rattle.outside.specs.declared.link.LinkItem.TheVariants as items
use Rattle.command_log.specs.Rows.{Row}
use Rattle.observer.specs.Reading.{piece_in}
use Rattle.observer.specs.Laws.{AreWithin, IsPieceOf}
use Rattle.log_watch.specs.Watching.{log_after}

-- a reply of a correct node is a piece of its log at some moment
abbrev pub IsTrueAnswer : (ℕ → Bool) → (ℕ → List Row) → LinkItem → Type 0
IsTrueAnswer is_correct log (items.Frame to bytes) = Unit {0}
IsTrueAnswer is_correct log (items.Client at conn bytes) = Unit {0}
IsTrueAnswer is_correct log (items.Reply from bytes) = is_correct from ≡ true → IsPieceOf (log from) (piece_in bytes)
IsTrueAnswer is_correct log (items.Up at peer) = Unit {0}
IsTrueAnswer is_correct log (items.Down at peer) = Unit {0}
IsTrueAnswer is_correct log (items.Left at conn) = Unit {0}
IsTrueAnswer is_correct log items.End = Unit {0}

abbrev pub AreTrueAnswers : (ℕ → Bool) → (ℕ → List Row) → List LinkItem → Type 0
AreTrueAnswers is_correct log [] = Unit {0}
AreTrueAnswers is_correct log (item ∷ older) = IsTrueAnswer is_correct log item × AreTrueAnswers is_correct log older

-- the log that is watched is a prefix of the longest correct log
abbrev pub WatchLaw : Type 0
WatchLaw = (p : Numbers) (is_correct : ℕ → Bool) (log : ℕ → List Row) (longest : List Row) (older : List LinkItem)
    → p.n - p.f ≤ count_by is_correct (replicas p.n)
    → AreWithin p is_correct log longest
    → AreTrueAnswers is_correct log older
    → IsPart (log_after p older) longest
