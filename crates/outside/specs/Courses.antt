-- What a link in memory keeps: what each call did, and with what, the oldest first.
use Rattle.std.specs.Prelude.{◌≡◌, ℕ, List, [], ◌∷◌, reverse, drop, Contains, All}
use Rattle.outside.specs.Links.{LinkAct, Starts, Gives, GivesNow, Sends, Replies, plans_in, items_in, frames_in, replies_in}
use Rattle.outside.specs.MemoryLink.{IsShort, first_of}
use Rattle.outside.specs.declared.link.LinkItem.{LinkItem}
use Rattle.outside.specs.declared.link.LinkItem.TheVariants as item
use Rattle.outside.specs.declared.link.LinkPlan.{LinkPlan}
use Rattle.outside.specs.declared.link.Sent.{Sent}
use Rattle.outside.specs.declared.course.Did.{Did}
use Rattle.outside.specs.declared.course.Did.TheVariants.{Start, Next, Now, Send, Reply}

-- the items that are left, and the calls that answered Ok, the newest first
pub record CourseState : Type 0 where
  pub left : List LinkItem
  pub told : List LinkAct

-- an act of the first of a list, before these acts
abbrev pub with_first : {A : Type 0} → (A → LinkAct) → List A → List LinkAct → List LinkAct
with_first act [] acts = acts
with_first act (x ∷ xs) acts = act x ∷ acts

-- what was told, where what was done, and with what, has the newest first
abbrev pub merged : List LinkItem → List Did → List LinkPlan → List Sent → List Sent → List LinkAct
merged items [] plans frames replies = []
merged items (Start ∷ dids) plans frames replies = with_first Starts plans (merged items dids (drop 1 plans) frames replies)
merged items (Next at ∷ dids) plans frames replies = Gives (first_of (drop at items)) ∷ merged items dids plans frames replies
merged items (Now at ∷ dids) plans frames replies = GivesNow (first_of (drop at items)) ∷ merged items dids plans frames replies
merged items (Send ∷ dids) plans frames replies = with_first Sends frames (merged items dids plans (drop 1 frames) replies)
merged items (Reply ∷ dids) plans frames replies = with_first Replies replies (merged items dids plans frames (drop 1 replies))

-- what was told
unfoldable pub told_of : List LinkItem → List Did → List LinkPlan → List Sent → List Sent → List LinkAct
told_of items dids plans frames replies = merged items (reverse dids) (reverse plans) (reverse frames) (reverse replies)

-- each item is short, once an `End` was given it is the next item, and what is shown is what was told
pub record Fits (items : List LinkItem) (at : ℕ) (dids : List Did) (plans : List LinkPlan) (frames replies : List Sent) : Type 0 where
  pub short : All IsShort items
  pub ended : Contains (items_in (told_of items dids plans frames replies)) item.End → first_of (drop at items) ≡ item.End
  pub plans_told : reverse plans ≡ plans_in (told_of items dids plans frames replies)
  pub frames_told : reverse frames ≡ frames_in (told_of items dids plans frames replies)
  pub replies_told : reverse replies ≡ replies_in (told_of items dids plans frames replies)
