-- What a link gives and is given. Lists of its calls have the newest first.
use Rattle.std.specs.Prelude.{ℕ, List, [], ◌∷◌, Option, Some, None, Result, Ok, Err}
use Rattle.outside.specs.Faults.{count_after}
use Rattle.outside.specs.declared.link.FaultCounts.{FaultCounts}
use Rattle.outside.specs.declared.link.LinkFault.{LinkFault}
use Rattle.outside.specs.declared.link.LinkFault.TheVariants as faults
use Rattle.outside.specs.declared.link.LinkItem.{LinkItem}
use Rattle.outside.specs.declared.link.LinkItem.TheVariants as items
use Rattle.outside.specs.declared.link.LinkPlan.{LinkPlan}
use Rattle.outside.specs.declared.link.Sent.{Sent}

-- a call that answered Ok: a plan was started, an item given, by the call that may wait or by the one that never does, a frame sent, or a
-- reply sent
pub data LinkAct : Type 0 where
  Starts : LinkPlan → LinkAct
  Gives : LinkItem → LinkAct
  GivesNow : LinkItem → LinkAct
  Sends : Sent → LinkAct
  Replies : Sent → LinkAct

-- the counts after one call more that failed
abbrev pub failed_once : FaultCounts → FaultCounts
failed_once n = record n { failed = count_after n.failed }

-- after one call more that was without memory
abbrev pub short_once : FaultCounts → FaultCounts
short_once n = record n { short = count_after n.short }

-- after one call more, by its answer
abbrev pub faults_after : {A : Type 0} → FaultCounts → Result A LinkFault → FaultCounts
faults_after n (Ok x) = n
faults_after n (Err faults.Failed) = failed_once n
faults_after n (Err faults.Mem) = short_once n

-- the bytes of an item
abbrev pub bytes_of : LinkItem → List ℕ
bytes_of (items.Frame to bytes) = bytes
bytes_of (items.Client at conn bytes) = bytes
bytes_of (items.Reply from bytes) = bytes
bytes_of (items.Up at peer) = []
bytes_of (items.Down at peer) = []
bytes_of (items.Left at conn) = []
bytes_of items.End = []

-- what a call that never waits tells: the item that it gave, and nothing where it gave none
abbrev pub now_given : Option LinkItem → List LinkAct
now_given None = []
now_given (Some item) = GivesNow item ∷ []

-- of these calls, the plans that were started
abbrev pub plans_in : List LinkAct → List LinkPlan
plans_in [] = []
plans_in (Starts plan ∷ acts) = plan ∷ plans_in acts
plans_in (Gives item ∷ acts) = plans_in acts
plans_in (GivesNow item ∷ acts) = plans_in acts
plans_in (Sends sent ∷ acts) = plans_in acts
plans_in (Replies sent ∷ acts) = plans_in acts

-- the items that were given
abbrev pub items_in : List LinkAct → List LinkItem
items_in [] = []
items_in (Starts plan ∷ acts) = items_in acts
items_in (Gives item ∷ acts) = item ∷ items_in acts
items_in (GivesNow item ∷ acts) = item ∷ items_in acts
items_in (Sends sent ∷ acts) = items_in acts
items_in (Replies sent ∷ acts) = items_in acts

-- the frames that were sent
abbrev pub frames_in : List LinkAct → List Sent
frames_in [] = []
frames_in (Starts plan ∷ acts) = frames_in acts
frames_in (Gives item ∷ acts) = frames_in acts
frames_in (GivesNow item ∷ acts) = frames_in acts
frames_in (Sends sent ∷ acts) = sent ∷ frames_in acts
frames_in (Replies sent ∷ acts) = frames_in acts

-- the replies that were sent
abbrev pub replies_in : List LinkAct → List Sent
replies_in [] = []
replies_in (Starts plan ∷ acts) = replies_in acts
replies_in (Gives item ∷ acts) = replies_in acts
replies_in (GivesNow item ∷ acts) = replies_in acts
replies_in (Sends sent ∷ acts) = replies_in acts
replies_in (Replies sent ∷ acts) = sent ∷ replies_in acts
