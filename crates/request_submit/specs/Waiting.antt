-- What one part of handing in a request does after another.
use Rattle.std.specs.Prelude.{◌≡◌, ℕ, Bool, true, List, ◌++◌, map, Result, Ok, Err}
use Rattle.outside.specs.Links.{LinkAct, Gives}
use Rattle.outside.specs.declared.link.FaultCounts.{FaultCounts}
use Rattle.outside.specs.declared.link.LinkFault.{LinkFault}
use Rattle.outside.specs.declared.link.LinkFault.TheVariants as faults
use Rattle.outside.specs.declared.link.LinkItem.{LinkItem}
use Rattle.client_port.specs.Votes.{Wanted, Ballots, VotesStand}
use Rattle.request_submit.specs.declared.end.SubmitEnd.{SubmitEnd}
use Rattle.request_submit.specs.declared.end.SubmitEnd.TheVariants as ends
use Rattle.request_submit.specs.Submitting.{handed_in, reply_calls, GoesOn, Submits}

-- a fault of the link as an end
abbrev pub IsSubmitEndOf : LinkFault → SubmitEnd → Type 0
IsSubmitEndOf faults.Failed end = end ≡ ends.LinkFault
IsSubmitEndOf faults.Mem end = end ≡ ends.Mem

-- since base, the request was handed in, items were taken with which it goes on, and no call failed or was without memory; the votes stand for their replies
pub record Waits (w : Wanted) (nodes : List (List ℕ)) (payload : List ℕ) (tells : Bool) (base now : List LinkAct) (before after : FaultCounts) (votes : Ballots) : Type 0 where
  pub items : List LinkItem
  pub on : GoesOn w items
  pub none_failed : after ≡ before
  pub told : tells ≡ true → now ≡ (map Gives items ++ handed_in w nodes payload) ++ base
  pub stands : VotesStand w (reply_calls items) votes

-- it waits on, or ended
abbrev pub WaitsOrEnds : Wanted → List (List ℕ) → List ℕ → Bool → List LinkAct → List LinkAct → FaultCounts → FaultCounts → Ballots → Result (Unit {0}) SubmitEnd → Type 0
WaitsOrEnds w nodes payload tells base now before after votes (Ok done) = Waits w nodes payload tells base now before after votes
WaitsOrEnds w nodes payload tells base now before after votes (Err end) = Submits w nodes payload tells base now before after end
