-- Worked rows of a link in memory: what is given where these items are left, what is then left, and what is told.
use Rattle.std.specs.Prelude.{◌≡◌, List, [], ◌∷◌, ◌++◌, Some, None, refl}
use Rattle.outside.specs.Links.{LinkAct, Starts, Gives, GivesNow, Sends, Replies, now_given, plans_in, items_in, frames_in, replies_in}
use Rattle.outside.specs.MemoryLink.{first_of, rest_of, now_of}
use Rattle.outside.specs.declared.link.LinkItem.{LinkItem}
use Rattle.outside.specs.declared.link.LinkItem.TheVariants as item
use Rattle.outside.specs.declared.link.LinkPlan.{LinkPlan}
use Rattle.outside.specs.declared.link.LinkPlan.TheVariants as plan
use Rattle.outside.specs.declared.link.Sent.{Sent}

-- ---- items that are left

abbrev up : LinkItem
up = item.Up 0 1

abbrev frame : LinkItem
frame = item.Frame 0 (97 ∷ 98 ∷ [])

-- two, then an `End`, and one behind it
abbrev four : List LinkItem
four = up ∷ frame ∷ item.End ∷ up ∷ []

now_gives_the_first : now_of four ≡ Some up
now_gives_the_first = refl

then_the_next : now_of (rest_of four) ≡ Some frame
then_the_next = refl

-- the `End` is given by the call that may wait alone, and stays
now_gives_no_end : now_of (rest_of (rest_of four)) ≡ None
now_gives_no_end = refl

next_gives_the_end : first_of (rest_of (rest_of four)) ≡ item.End
next_gives_the_end = refl

end_stays : rest_of (rest_of (rest_of four)) ≡ item.End ∷ up ∷ []
end_stays = refl

none_is_left : now_of [] ≡ None
none_is_left = refl

then_the_end_is_next : first_of [] ≡ item.End
then_the_end_is_next = refl

none_stays : rest_of [] ≡ []
none_stays = refl

-- ---- what is told

abbrev sent : Sent
sent = record { at = 0; to = 2; bytes = 99 ∷ [] }

abbrev alone : LinkPlan
alone = plan.Client []

-- a call of each kind, the newest first, and one that gave nothing, which tells nothing
abbrev acts : List LinkAct
acts = Replies sent ∷ now_given None ++ now_given (Some frame) ++ Sends sent ∷ Gives up ∷ Starts alone ∷ []

each_is_told : acts ≡ Replies sent ∷ GivesNow frame ∷ Sends sent ∷ Gives up ∷ Starts alone ∷ []
each_is_told = refl

both_calls_give : items_in acts ≡ frame ∷ up ∷ []
both_calls_give = refl

one_plan : plans_in acts ≡ alone ∷ []
one_plan = refl

one_frame : frames_in acts ≡ sent ∷ []
one_frame = refl

one_reply : replies_in acts ≡ sent ∷ []
one_reply = refl
