-- Worked rows: what the link gives for groups of rounds, which rounds join one, and what goes out for the first time.
use Rattle.std.specs.Prelude.{◌≡◌, ℕ, true, false, List, [], ◌∷◌, ◌++◌, refl}
use Rattle.ritas_base.specs.declared.event.Event.{Event}
use Rattle.outside.specs.Links.{Gives, GivesNow}
use Rattle.outside.specs.declared.link.LinkItem.{LinkItem}
use Rattle.outside.specs.declared.link.Sent.{Sent}
use Rattle.world_model.specs.MadeOrder.{MadeFrame}
use Rattle.world_model.specs.World.{Setting}
use Rattle.node_loop.specs.Deeds.{Came, Made, Resent, Acked, Replied}
use Rattle.node_loop.specs.Laws.{sent_as}
use Rattle.node_loop.specs.LivesPrint.{first_sendings}
use Rattle.node_loop.specs.Serving.{Serving, Round, Began, Turned, Reminded, Took, after_from}
use Rattle.node_loop.specs.Told.{given_in, came_in, news_from, told_from, deeds_from, newest_deeds, all_rounds, Joins, is_taken_up}

-- the first item may be waited for, and those behind it are there; a turn takes none
two_items : (a b : LinkItem) → given_in (Turned 1 ∷ Took b ∷ Turned 0 ∷ Took a ∷ []) ≡ GivesNow b ∷ Gives a ∷ []
two_items a b = refl

came_row : (a b : LinkItem) → came_in (Turned 1 ∷ Took b ∷ Turned 0 ∷ Took a ∷ []) ≡ Came true b ∷ Came false a ∷ []
came_row a b = refl

-- behind a turn or a wish for more every item is there
behind_turn : (a : LinkItem) → given_in (Took a ∷ Turned 0 ∷ []) ≡ GivesNow a ∷ []
behind_turn a = refl

behind_wish : (a : LinkItem) → given_in (Took a ∷ Reminded 0 1 ∷ []) ≡ GivesNow a ∷ []
behind_wish a = refl

-- the first items aren't of the link
first_row : (a : LinkItem) → given_in (Began a ∷ []) ≡ []
first_row a = refl

-- of two groups: the items of the older, what went out of it, and then those of the newer
module _ (w : Setting) (past : List Event) (start : Serving) (a b : LinkItem) where
  told_row : told_from w past start ((Took b ∷ []) ∷ (Turned 0 ∷ Took a ∷ []) ∷ [])
      ≡ news_from w past (after_from w past start (Turned 0 ∷ Took a ∷ [])) (Took b ∷ []) ++ (Gives b ∷ (news_from w past start (Turned 0 ∷ Took a ∷ []) ++ (Gives a ∷ [])))
  told_row = refl

  deeds_row : deeds_from w past start [] ((Took b ∷ Took a ∷ []) ∷ []) ≡ newest_deeds w past start (Came true b ∷ Came false a ∷ []) (Took b ∷ Took a ∷ [])
  deeds_row = refl

  -- a wish for more and a first item join no group
  no_wish : (x : Round) (i j : ℕ) → Joins w past start (Reminded i j) (x ∷ []) → ⊥
  no_wish x i j joins = joins.0

  no_first : (x : Round) → Joins w past start (Began a) (x ∷ []) → ⊥
  no_first x joins = joins.0

rounds_row : (a b : Round) → all_rounds ((b ∷ []) ∷ (a ∷ []) ∷ []) ≡ b ∷ a ∷ []
rounds_row a b = refl

-- behind one of the first items a group is full
full_row : (a : LinkItem) → is_taken_up (Began a) ≡ true
full_row a = refl

turn_row : is_taken_up (Turned 0) ≡ false
turn_row = refl

-- frames of calls, in the order in which they went out; one that goes out again is none, nor are notes, replies and items
sendings_row : (f g : MadeFrame) (frame : List ℕ) (reply : Sent) (item : LinkItem)
    → first_sendings (Replied reply ∷ Made g ∷ Acked 0 1 2 ∷ Resent 0 1 frame ∷ Made f ∷ Came false item ∷ [])
    ≡ sent_as f ∷ sent_as g ∷ []
sendings_row f g frame reply item = refl
