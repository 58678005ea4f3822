-- What is made by the events that a stop leaves in a journal: each frame that went out for the first time in the life
-- before it. Lists of events, of deeds and of the link's calls have the newest first.
use Rattle.std.specs.Prelude.{◌≡◌, ℕ, true, false, List, [], ◌∷◌, ◌++◌, length, map, reverse}
use Rattle.std.specs.List.{AllByRecursion}
use Rattle.ritas_base.specs.declared.event.Event.{Event}
use Rattle.keyed_channel.specs.KeyRow.{KeyRow}
use Rattle.layer_api.specs.Service.{IsPart}
use Rattle.ritas_core.specs.Stands.{Meaning}
use Rattle.replica.specs.declared.replica.Replica.{Replica}
use Rattle.outside.specs.Disks.{MayLeave, disk_state_of}
use Rattle.outside.specs.Links.{LinkAct}
use Rattle.outside.specs.declared.disk.Disk.{Ghosts as DiskGhosts}
use Rattle.outside.specs.declared.link.LinkItem.TheVariants as items
use Rattle.outside.specs.declared.link.Sent.{Sent}
use Rattle.event_journal.specs.Appending.{JournalState}
use Rattle.event_journal.specs.Journal.{OpensAs}
use Rattle.world_model.specs.Stands.{NoneStops}
use Rattle.world_model.specs.World.{Setting}
use Rattle.node_loop.specs.declared.limits.Limits.{Limits}
use Rattle.node_loop.specs.declared.end.ServeEnd.{ServeEnd}
use Rattle.node_loop.specs.Again.{ServesAgain}
use Rattle.node_loop.specs.Deeds.{Deed, Came, act_of, firsts_in}
use Rattle.node_loop.specs.Journals.{journal_moment}
use Rattle.node_loop.specs.Laws.{all_frames_of, sent_as}
use Rattle.node_loop.specs.Outs.{Outs, Tells}
use Rattle.node_loop.specs.Recovering.{recovered}
use Rattle.node_loop.specs.Serving.{Round}
use Rattle.node_loop.specs.Told.{deeds_from}

-- ---- one life

-- the frames that went out for the first time, the oldest first
abbrev pub first_sendings : List Deed → List Sent
first_sendings ds = map sent_as (reverse (firsts_in ds))

-- The events es make the frames that the past ones make, and then those that went out for the first time by these
-- deeds, all of them in their order. What more they make didn't go out by these.
abbrev pub MakesFirsts : Setting → List Event → List Event → List Deed → Type 0
MakesFirsts w past es ds =
    (later : List Sent) × (all_frames_of w es ≡ all_frames_of w past ++ (first_sendings ds ++ later))

-- Of the deeds of a life the link did the older ones, up to a point: since it told `before`, it told their calls and
-- no others. The events es have those behind them after which the life began, and make what these deeds sent first.
pub record PrintsLife (w : Setting) (past es : List Event) (deeds : List Deed) (before now : List LinkAct)
    : Type 0 where
  pub rest : List Deed
  pub done : List Deed
  pub parts : deeds ≡ rest ++ done
  pub told : now ≡ map (act_of w.keys) done ++ before
  pub grown : IsPart past es
  pub makes : MakesFirsts w past es done

-- what the link gives and is given in a life of these groups, and its end, which comes last, if it comes
abbrev pub life_deeds : Setting → List Event → List (List Round) → List Deed
life_deeds w past groups = Came false items.End ∷ deeds_from w past (recovered w past) [] groups

-- Whatever ends a life, the events as which an image opens that its disk may leave then make what left in it. The
-- premises are met where `serve_kept` returns: no replica of the world is stopped by its premise `AreHere`, and
-- it serves so by its clause `serves`; the head is what `event_journal::journal_head` writes. The disk and the link
-- tell. The image is one that a stop leaves, and `event_journal::open_journal` gives the events as which it opens.
module _ {S E C D : Type 0} (m : Meaning S E C KeyRow) (storage : DiskGhosts D) where
  abbrev pub LivesPrint : Type 0
  LivesPrint = (head : List ℕ) (w : Setting) (past : List Event) (numbers : List ℕ) (here : List (Replica S E C))
      (tells : Tells) (base outs : Outs) (me : ℕ) (old new : D) (journal : JournalState) (end : ServeEnd)
      (limits : Limits) → NoneStops w → length head ≡ 51 → storage.tells ≡ true → tells.link ≡ true
      → (served : ServesAgain m w past numbers here tells base
      (journal_moment storage head past me old outs journal new) end limits)
      → (image : List ℕ) (es : List Event) → MayLeave (disk_state_of (storage.told new)) image
      → OpensAs me head image es → PrintsLife w past es (life_deeds w past served.groups) base.told outs.told

-- ---- several lives

-- a life that began after these events, and the deeds that its link did
pub record Life : Type 0 where
  pub past : List Event
  pub done : List Deed

-- Lives one after the other, the newest first. The newest left the events es, and each other those after which the
-- next began. Each left what makes its first sendings.
abbrev pub AreLives : Setting → List Event → List Life → Type 0
AreLives w es [] = Unit {0}
AreLives w es (life ∷ older) = MakesFirsts w life.past es life.done × AreLives w life.past older

-- Events that have those behind them which the newest left make the first sendings of each of them: so do those which
-- it left, and those of the file of a later life.
abbrev pub AllLivesPrint : Type 0
AllLivesPrint = (w : Setting) (es more : List Event) (lives : List Life) → AreLives w es lives
    → AllByRecursion (λ life. MakesFirsts w life.past (more ++ es) life.done) lives
