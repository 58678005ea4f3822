-- What one part of watching does after another.
use Rattle.std.specs.Prelude.{◌≡◌, ℕ, Bool, true, List, ◌++◌, Result, Ok, Err}
use Rattle.ritas_base.specs.Numbers.{Numbers}
use Rattle.outside.specs.Links.{LinkAct}
use Rattle.outside.specs.declared.link.FaultCounts.{FaultCounts}
use Rattle.outside.specs.declared.link.LinkFault.{LinkFault}
use Rattle.outside.specs.declared.link.LinkFault.TheVariants as faults
use Rattle.outside.specs.declared.link.LinkItem.{LinkItem}
use Rattle.observer.specs.Standing.{Watcher, StandsForGifts}
use Rattle.log_watch.specs.declared.end.WatchEnd.{WatchEnd}
use Rattle.log_watch.specs.declared.end.WatchEnd.TheVariants as ends
use Rattle.log_watch.specs.Watching.{gifts_of, watching_acts, KeepsWatching, Watches}

-- a fault of the link as an end
abbrev pub IsWatchEndOf : LinkFault → WatchEnd → Type 0
IsWatchEndOf faults.Failed end = end ≡ ends.LinkFault
IsWatchEndOf faults.Mem end = end ≡ ends.Mem

-- since base, watching was begun, items were taken with which it goes on, what they ask for was asked, and no call
-- failed or was without memory; the observer stands for their pieces
pub record AwaitsRows (p : Numbers) (nodes : List (List ℕ)) (until : ℕ) (tells : Bool) (base now : List LinkAct)
    (before after : FaultCounts) (observer : Watcher) : Type 0 where
  pub items : List LinkItem
  pub on : KeepsWatching p until items
  pub none_failed : after ≡ before
  pub told : tells ≡ true → now ≡ watching_acts p nodes items ++ base
  pub stands : StandsForGifts p (gifts_of p items) observer

-- it waits on, or ended
abbrev pub AwaitsRowsOrEnds : Numbers → List (List ℕ) → ℕ → Bool → List LinkAct → List LinkAct → FaultCounts
    → FaultCounts → Watcher → Result (Unit {0}) WatchEnd → Type 0
AwaitsRowsOrEnds p nodes until tells base now before after observer (Ok done) =
    AwaitsRows p nodes until tells base now before after observer
AwaitsRowsOrEnds p nodes until tells base now before after observer (Err end) =
    Watches p nodes until observer.rows tells base now before after end
