-- A link in memory: what it holds, and what a call does.
use Rattle.std.specs.Prelude.{◌≡◌, ℕ, ◌↔◌, ◌<◌, ◌^◌, List, [], ◌∷◌, ◌++◌, length, Option, Some, None, Result, Err, IfOk, OnErr}
use Rattle.outside.specs.Faults.{count_after}
use Rattle.outside.specs.Memory.{FailingCalls, IsFault}
use Rattle.outside.specs.Links.{LinkAct, bytes_of, faults_after}
use Rattle.outside.specs.declared.link.FaultCounts.{FaultCounts}
use Rattle.outside.specs.declared.link.LinkFault.{LinkFault}
use Rattle.outside.specs.declared.link.LinkFault.TheVariants as faults
use Rattle.outside.specs.declared.link.LinkItem.{LinkItem}
use Rattle.outside.specs.declared.link.LinkItem.TheVariants as item

-- the items that are left, the calls that answered Ok, those that fail, and how many were without memory
pub record LinkState : Type 0 where
  pub left : List LinkItem
  pub told : List LinkAct
  pub calls : FailingCalls
  pub short : ℕ

-- how many of its calls answered each fault
abbrev pub faults_of : LinkState → FaultCounts
faults_of s = record { failed = s.calls.faults; short = s.short }

-- ---- which items are given

-- an item has at most 65,535 bytes
abbrev pub IsShort : LinkItem → Type 0
IsShort item = length (bytes_of item) < 2 ^ 16

-- what is given where these are left
abbrev pub first_of : List LinkItem → LinkItem
first_of [] = item.End
first_of (x ∷ left) = x

-- what is given there by a call that never waits: an `End` isn't
abbrev pub now_of : List LinkItem → Option LinkItem
now_of [] = None
now_of (item.End ∷ left) = None
now_of (item.Frame to bytes ∷ left) = Some (item.Frame to bytes)
now_of (item.Client at conn bytes ∷ left) = Some (item.Client at conn bytes)
now_of (item.Reply from bytes ∷ left) = Some (item.Reply from bytes)
now_of (item.Up at peer ∷ left) = Some (item.Up at peer)
now_of (item.Down at peer ∷ left) = Some (item.Down at peer)
now_of (item.Left at conn ∷ left) = Some (item.Left at conn)

-- what is then left by either: what stands after an `End` is never given
abbrev pub rest_of : List LinkItem → List LinkItem
rest_of [] = []
rest_of (item.End ∷ left) = item.End ∷ left
rest_of (item.Frame to bytes ∷ left) = left
rest_of (item.Client at conn bytes ∷ left) = left
rest_of (item.Reply from bytes ∷ left) = left
rest_of (item.Up at peer ∷ left) = left
rest_of (item.Down at peer ∷ left) = left
rest_of (item.Left at conn ∷ left) = left

-- ---- what a call does

-- A call fails exactly where its number is listed. Where it answers Ok, these acts are told and this is left.
pub record LinksTelling {A : Type 0} (acts : A → List LinkAct) (left : List LinkItem) (old new : LinkState) (result : Result A LinkFault) : Type 0 where
  pub fails : (result ≡ Err faults.Failed) ↔ IsFault old.calls
  pub listed : new.calls.fails ≡ old.calls.fails
  pub number : new.calls.number ≡ count_after old.calls.number
  pub faults : faults_of new ≡ faults_after (faults_of old) result
  pub told : IfOk result (λ x. new.told ≡ acts x ++ old.told)
  pub rest : IfOk result (λ _. new.left ≡ left)
  pub same : OnErr result ((new.told ≡ old.told) × (new.left ≡ old.left))

-- one act is told
abbrev pub LinksMemory : {A : Type 0} → (A → LinkAct) → List LinkItem → LinkState → LinkState → Result A LinkFault → Type 0
LinksMemory act left old new result = LinksTelling (λ x. act x ∷ []) left old new result
