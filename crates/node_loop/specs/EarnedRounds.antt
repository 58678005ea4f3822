-- An acknowledgement, and the round of which it goes out.
use Rattle.std.specs.Prelude.{◌≡◌, ℕ, false, List, [], ◌∷◌, ◌++◌, map, Some, Ok}
use Rattle.ritas_base.specs.declared.event.Event.{Event}
use Rattle.ritas_base.specs.declared.event.Event.TheVariants as events
use Rattle.outside.specs.declared.link.LinkItem.TheVariants as items
use Rattle.keyed_channel.specs.Frames.{opening}
use Rattle.world_model.specs.World.{Setting, seen_of}
use Rattle.node_loop.specs.Deeds.{Deed, Came, Made, Resent, Acked, Wished, Replied, pushed}
use Rattle.node_loop.specs.Resending.{is_deferred}
use Rattle.node_loop.specs.Serving.{Serving, so_far, Round, Took, frames_made_by, outcome, brought, after_from}
use Rattle.node_loop.specs.Told.{after_groups, came_in, newest_deeds, deeds_from}

-- a round earns it: it took a frame of j with this number, which opened, and whose call was answered otherwise than that it is to come again; and
-- this is all that goes to a peer besides the frames of the call
pub record Earns (w : Setting) (past : List Event) (s : Serving) (x : Round) (i j seq : ℕ) : Type 0 where
  pub bytes : List ℕ
  pub item : x ≡ Took (items.Frame i bytes)
  pub called : (outcome w past x s).event ≡ Some (events.Frame i bytes)
  pub body : List ℕ
  pub opens : opening (w.keys i) bytes ≡ Ok (record { from = j; seq = seq; body = body })
  pub taken : is_deferred (seen_of w (so_far past s) (events.Frame i bytes)) ≡ false
  pub alone : (brought w past x s).deeds ≡ Acked i j seq ∷ []

-- one of the rounds earns it, and it stands right behind the frames of that round's call: before these is what went out of earlier rounds of its
-- group, and then the items of the group, of which its frame is one
pub record IsEarnedIn (w : Setting) (past : List Event) (start : Serving) (groups : List (List Round)) (i j seq : ℕ) (ds : List Deed) : Type 0 where
  pub newer : List (List Round)
  pub older : List (List Round)
  pub later : List Round
  pub x : Round
  pub sooner : List Round
  pub are : groups ≡ newer ++ (later ++ x ∷ sooner) ∷ older
  pub earns : Earns w past (after_from w past (after_groups w past start older) sooner) x i j seq
  pub behind : let s = after_from w past (after_groups w past start older) sooner in
      ds ≡ pushed (map Made (frames_made_by w (so_far past s) (outcome w past x s).event))
      (newest_deeds w past (after_groups w past start older) (came_in (later ++ x ∷ sooner) ++ deeds_from w past start [] older) sooner)

-- so it is of each acknowledgement, with the deeds before it
abbrev pub EachAck : (ℕ → ℕ → ℕ → List Deed → Type 0) → List Deed → Type 0
EachAck P [] = Unit {0}
EachAck P (Came now item ∷ ds) = EachAck P ds
EachAck P (Made f ∷ ds) = EachAck P ds
EachAck P (Resent i j frame ∷ ds) = EachAck P ds
EachAck P (Acked i j seq ∷ ds) = P i j seq ds × EachAck P ds
EachAck P (Wished i j seq ∷ ds) = EachAck P ds
EachAck P (Replied sent ∷ ds) = EachAck P ds

abbrev pub AcksAreOfRounds : Type 0
AcksAreOfRounds = (w : Setting) (past : List Event) (start : Serving) (groups : List (List Round))
    → EachAck (IsEarnedIn w past start groups) (deeds_from w past start [] groups)
