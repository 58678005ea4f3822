-- Rounds in groups. What comes of a group's rounds is delivered together: the link gives the items of all of them, and then takes what goes out of each.
-- Lists of rounds, of groups, of events, of deeds and of the link's calls have the newest first.
use Rattle.std.specs.Prelude.{◌≡◌, ◌⊎◌, ℕ, ◌≤◌, ◌<◌, Bool, true, false, List, [], ◌∷◌, ◌++◌, length, map}
use Rattle.ritas_base.specs.declared.event.Event.{Event}
use Rattle.outside.specs.Links.{LinkAct, Gives, GivesNow}
use Rattle.outside.specs.declared.link.Sent.{Sent}
use Rattle.world_model.specs.World.{Setting}
use Rattle.world_model.specs.MadeOrder.{MadeFrame}
use Rattle.node_loop.specs.declared.limits.Limits.{Limits}
use Rattle.node_loop.specs.Deeds.{Deed, Came, Made, Replied, pushed, has_resent}
use Rattle.node_loop.specs.Outs.{events_text}
use Rattle.node_loop.specs.Serving.{Serving, so_far, sent_of, onto, frames_made_by, Turns, wants, Round, Began, Turned, Closed, Reminded, Took, at_call, outcome, brought, after_from, AreWantedFrom}

-- ---- the rounds of a group

-- the item that the link gave for the first round of a group, for which it may have waited
abbrev pub given_first : Round → List LinkAct
given_first (Took item) = Gives item ∷ []
given_first other = []

-- and for one behind it, which was there by then
abbrev pub given_behind : Round → List LinkAct
given_behind (Took item) = GivesNow item ∷ []
given_behind other = []

-- for a round, where these of its group are before it
abbrev pub given_for : Round → List Round → List LinkAct
given_for x [] = given_first x
given_for x (y ∷ group) = given_behind x

-- the items of a group
abbrev pub given_in : List Round → List LinkAct
given_in [] = []
given_in (x ∷ group) = given_for x group ++ given_in group

-- what goes out of these rounds
abbrev pub news_from : Setting → List Event → Serving → List Round → List LinkAct
news_from w past start [] = []
news_from w past start (x ∷ group) = let s = after_from w past start group in
    sent_of w (so_far past (at_call x s)) (outcome w past x s) (brought w past x s) ++ news_from w past start group

-- their events
abbrev pub events_from : Setting → List Event → Serving → List Round → List Event
events_from w past start [] = []
events_from w past start (x ∷ group) = onto (outcome w past x (after_from w past start group)).event (events_from w past start group)

-- ---- what a group may be

-- a group has at most so many rounds, and no round joins where the text of its events has so many bytes
abbrev pub most_rounds : ℕ
most_rounds = 256

abbrev pub enough_bytes : ℕ
enough_bytes = 65536

-- a turn or an item that the link gave
abbrev pub MayJoin : Round → Type 0
MayJoin (Began item) = ⊥
MayJoin (Turned i) = Unit {0}
MayJoin (Closed i epoch) = ⊥
MayJoin (Reminded i j) = ⊥
MayJoin (Took item) = Unit {0}

-- frames go out again by a round
abbrev pub resends_by : Setting → List Event → Round → Serving → Bool
resends_by w past x s = has_resent (brought w past x s).deeds

-- A round stands behind these of its group: it is of any kind where there is none; and else a turn or an item, where the newest of them sends
-- nothing again, and their events don't have enough bytes.
abbrev pub Joins : Setting → List Event → Serving → Round → List Round → Type 0
Joins w past start x [] = Unit {0}
Joins w past start x (y ∷ group) = MayJoin x × (resends_by w past y (after_from w past start group) ≡ false)
    × (length (events_text (events_from w past start (y ∷ group))) < enough_bytes)

abbrev pub AreJoined : Setting → List Event → Serving → List Round → Type 0
AreJoined w past start [] = Unit {0}
AreJoined w past start (x ∷ group) = Joins w past start x group × AreJoined w past start group

-- these rounds are a group: there is one, each is what the rules said, and each behind the first joins
pub record IsGroup (w : Setting) (past : List Event) (limits : Limits) (start : Serving) (group : List Round) : Type 0 where
  pub some : group ≡ [] → ⊥
  pub wanted : AreWantedFrom w past limits start group
  pub joined : AreJoined w past start group
  pub most : length group ≤ most_rounds

-- one of the first items was taken up
abbrev pub is_taken_up : Round → Bool
is_taken_up (Began item) = true
is_taken_up other = false

-- No round joins these: the newest takes up a first item, or sends something again; or there are as many as a group may have; or their events have
-- enough bytes.
abbrev pub IsFull : Setting → List Event → Serving → List Round → Type 0
IsFull w past start [] = ⊥
IsFull w past start (x ∷ group) = (is_taken_up x ≡ true) ⊎ ((resends_by w past x (after_from w past start group) ≡ true)
    ⊎ ((most_rounds ≤ length (x ∷ group)) ⊎ (enough_bytes ≤ length (events_text (events_from w past start (x ∷ group))))))

-- a group is over only where no turn is left for it
abbrev pub IsGroupOver : Setting → List Event → Limits → Serving → List Round → Type 0
IsGroupOver w past limits start group = (i : ℕ) → wants w past limits (after_from w past start group) ≡ Turns i → IsFull w past start group

-- ---- groups

-- what stands after these
abbrev pub after_groups : Setting → List Event → Serving → List (List Round) → Serving
after_groups w past start [] = start
after_groups w past start (group ∷ older) = after_from w past (after_groups w past start older) group

-- the newest of these is over
abbrev pub IsNewestOver : Setting → List Event → Limits → Serving → List (List Round) → Type 0
IsNewestOver w past limits start [] = Unit {0}
IsNewestOver w past limits start (group ∷ older) = IsGroupOver w past limits (after_groups w past start older) group

-- each is a group, and begins where the one before it is over
abbrev pub AreGroups : Setting → List Event → Limits → Serving → List (List Round) → Type 0
AreGroups w past limits start [] = Unit {0}
AreGroups w past limits start (group ∷ older) = IsGroup w past limits (after_groups w past start older) group
    × IsNewestOver w past limits start older × AreGroups w past limits start older

-- all calls of the link
abbrev pub told_from : Setting → List Event → Serving → List (List Round) → List LinkAct
told_from w past start [] = []
told_from w past start (group ∷ older) =
    news_from w past (after_groups w past start older) group ++ (given_in group ++ told_from w past start older)

-- of the newest group, if there is one, what goes out; and all calls before these, the last of which gave its items
abbrev pub newest_calls : Setting → List Event → Serving → List (List Round) → List LinkAct
newest_calls w past start [] = []
newest_calls w past start (group ∷ older) = news_from w past (after_groups w past start older) group

abbrev pub sooner : Setting → List Event → Serving → List (List Round) → List LinkAct
sooner w past start [] = []
sooner w past start (group ∷ older) = given_in group ++ told_from w past start older

-- what stood before it, and its events
abbrev pub before_newest : Setting → List Event → Serving → List (List Round) → Serving
before_newest w past start [] = start
before_newest w past start (group ∷ older) = after_groups w past start older

abbrev pub newest_events : Setting → List Event → Serving → List (List Round) → List Event
newest_events w past start [] = []
newest_events w past start (group ∷ older) = events_from w past (after_groups w past start older) group

-- their rounds in one list
abbrev pub all_rounds : List (List Round) → List Round
all_rounds [] = []
all_rounds (group ∷ older) = group ++ all_rounds older

-- ---- the deeds

-- the items of a group, as deeds
abbrev pub came_for : Round → List Round → List Deed
came_for (Took item) [] = Came false item ∷ []
came_for (Took item) (y ∷ group) = Came true item ∷ []
came_for other group = []

abbrev pub came_in : List Round → List Deed
came_in [] = []
came_in (x ∷ group) = came_for x group ++ came_in group

-- with what goes out of a round: its frames, what goes to peers besides, and its replies
abbrev pub with_deeds : List MadeFrame → List Deed → List Sent → List Deed → List Deed
with_deeds frames more replies ds = pushed (map Replied replies) (pushed more (pushed (map Made frames) ds))

-- with what goes out of these rounds
abbrev pub newest_deeds : Setting → List Event → Serving → List Deed → List Round → List Deed
newest_deeds w past start ds [] = ds
newest_deeds w past start ds (x ∷ group) = let s = after_from w past start group in
    with_deeds (frames_made_by w (so_far past s) (outcome w past x s).event) (brought w past x s).deeds (outcome w past x s).replies
    (newest_deeds w past start ds group)

-- what the link gave and was given in these groups, with why, behind these deeds
abbrev pub deeds_from : Setting → List Event → Serving → List Deed → List (List Round) → List Deed
deeds_from w past start ds [] = ds
deeds_from w past start ds (group ∷ older) =
    newest_deeds w past (after_groups w past start older) (came_in group ++ deeds_from w past start ds older) group
