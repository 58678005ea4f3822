-- What handing in a request does to a link, and how it ends. Lists of the link's calls, of its items and of the calls of the votes have
-- the newest first.
use Rattle.std.specs.Prelude.{◌≡◌, ◌⊎◌, ℕ, ◌≤◌, Bool, true, List, [], ◌∷◌, ◌++◌, map, Option, Some, None, Result, Ok, Err}
use Rattle.ritas_base.specs.History.{replicas}
use Rattle.outside.specs.Faults.{Rose}
use Rattle.outside.specs.LinkCalls.{TookBack, each_act}
use Rattle.outside.specs.Links.{LinkAct, Starts, Gives, Sends, failed_once, short_once}
use Rattle.outside.specs.declared.link.FaultCounts.{FaultCounts}
use Rattle.outside.specs.declared.link.LinkItem.{LinkItem}
use Rattle.outside.specs.declared.link.LinkItem.TheVariants as items
use Rattle.outside.specs.declared.link.LinkPlan.{LinkPlan}
use Rattle.outside.specs.declared.link.LinkPlan.TheVariants as plans
use Rattle.client_port.specs.Messages.{request_bytes}
use Rattle.client_port.specs.Votes.{Wanted, ReplyCall, answer_of}
use Rattle.client_port.specs.declared.votes.ReplyFault.{ReplyFault}
use Rattle.request_submit.specs.declared.end.SubmitEnd.{SubmitEnd}
use Rattle.request_submit.specs.declared.end.SubmitEnd.TheVariants as ends

-- ---- handing in

-- the link is started for a client of these nodes
abbrev pub plan_of : List (List ℕ) → LinkPlan
plan_of nodes = plans.Client nodes

-- the message goes to a node
abbrev pub message_sent_to : List ℕ → ℕ → LinkAct
message_sent_to message node = Sends (record { at = 0; to = node; bytes = message })

-- it goes to each of n nodes, in ascending order
abbrev pub sent_to_each : ℕ → List ℕ → List LinkAct
sent_to_each n message = each_act (message_sent_to message) (replicas n)

-- the calls with which a request with this payload is handed in to these nodes
abbrev pub handed_in : Wanted → List (List ℕ) → List ℕ → List LinkAct
handed_in w nodes payload =
    sent_to_each w.numbers.n (request_bytes (record { client = w.client; request = w.request; payload = payload })) ++ Starts (plan_of nodes) ∷ []

-- ---- what items settle

-- of items the replies, as calls of the votes
abbrev pub reply_calls : List LinkItem → List ReplyCall
reply_calls [] = []
reply_calls (items.Frame to bytes ∷ older) = reply_calls older
reply_calls (items.Client at conn bytes ∷ older) = reply_calls older
reply_calls (items.Reply from bytes ∷ older) = record { from = from; bytes = bytes } ∷ reply_calls older
reply_calls (items.Up at peer ∷ older) = reply_calls older
reply_calls (items.Down at peer ∷ older) = reply_calls older
reply_calls (items.Left at conn ∷ older) = reply_calls older
reply_calls (items.End ∷ older) = reply_calls older

-- the position that an answer of the votes has: a reply that is refused has none
abbrev pub position_answered : Result (Option ℕ) ReplyFault → Option ℕ
position_answered (Ok position) = position
position_answered (Err fault) = None

-- the position that an item settles behind older ones: that of a reply with which f + 1 nodes have replied it
abbrev pub settles : Wanted → List LinkItem → LinkItem → Option ℕ
settles w older (items.Frame to bytes) = None
settles w older (items.Client at conn bytes) = None
settles w older (items.Reply from bytes) = position_answered (answer_of w (reply_calls older) (record { from = from; bytes = bytes }))
settles w older (items.Up at peer) = None
settles w older (items.Down at peer) = None
settles w older (items.Left at conn) = None
settles w older items.End = None

-- an item that isn't the link's end, and settles nothing behind older ones
pub record SettlesNothing (w : Wanted) (older : List LinkItem) (item : LinkItem) : Type 0 where
  pub more : item ≡ items.End → ⊥
  pub quiet : settles w older item ≡ None

-- each of these items is such a one behind the older ones
abbrev pub GoesOn : Wanted → List LinkItem → Type 0
GoesOn w [] = Unit {0}
GoesOn w (item ∷ older) = SettlesNothing w older item × GoesOn w older

-- ---- how it ends

-- behind these items one came with which this position is settled, and then there was no further call
pub record SettledBy (w : Wanted) (older : List LinkItem) (position : ℕ) (tells : Bool) (old new acts : List LinkAct) : Type 0 where
  pub item : LinkItem
  pub settled : settles w older item ≡ Some position
  pub told : tells ≡ true → new ≡ Gives item ∷ acts ++ old

-- each end, where these items were taken and these calls were made or to be made
abbrev pub SubmittingEndsSo : Wanted → List LinkItem → List LinkAct → Bool → List LinkAct → List LinkAct → FaultCounts → FaultCounts → SubmitEnd → Type 0
SubmittingEndsSo w older acts tells old new before after (ends.Position position) = SettledBy w older position tells old new acts
SubmittingEndsSo w older acts tells old new before after ends.NoPosition = tells ≡ true → new ≡ Gives items.End ∷ acts ++ old
SubmittingEndsSo w older acts tells old new before after ends.LinkFault = Rose before.failed after.failed × (tells ≡ true → TookBack old new acts)
SubmittingEndsSo w older acts tells old new before after ends.Mem = tells ≡ true → TookBack old new acts

-- the link's counts: one of its calls failed where that ended it, at most one was without memory where that did, and else none
abbrev pub HasSubmitCause : FaultCounts → FaultCounts → SubmitEnd → Type 0
HasSubmitCause before after (ends.Position position) = after ≡ before
HasSubmitCause before after ends.NoPosition = after ≡ before
HasSubmitCause before after ends.LinkFault = after ≡ failed_once before
HasSubmitCause before after ends.Mem = (after ≡ before) ⊎ (after ≡ short_once before)

-- There are items, of which none was the link's end and none settled a position, after which it ended so. The link had been started with
-- the nodes and given the request for each of them, in order, before it gave the first of these items.
pub record Submits (w : Wanted) (nodes : List (List ℕ)) (payload : List ℕ) (tells : Bool) (old new : List LinkAct) (before after : FaultCounts) (end : SubmitEnd) : Type 0 where
  pub items : List LinkItem
  pub on : GoesOn w items
  pub later : before.failed ≤ after.failed
  pub cause : HasSubmitCause before after end
  pub so : SubmittingEndsSo w items (map Gives items ++ handed_in w nodes payload) tells old new before after end
