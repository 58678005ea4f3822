-- Serving the session of a header: what an output and a link took of it. Lists of events and of the link's calls have the newest first.
use Rattle.std.specs.Prelude.{◌≡◌, ◌≤◌, true, List, [], ◌∷◌, ◌++◌, length, map, reverse}
use Rattle.std.specs.List.{All, AllByRecursion}
use Rattle.ritas_base.specs.Slots.{is_atomic}
use Rattle.ritas_base.specs.declared.event.Event.{Event}
use Rattle.outside.specs.LinkCalls.{TookBack}
use Rattle.outside.specs.Links.{LinkAct, Starts, Gives, replies_in}
use Rattle.outside.specs.Writing.{TookFront}
use Rattle.outside.specs.declared.link.LinkItem.{LinkItem}
use Rattle.outside.specs.declared.link.LinkItem.TheVariants as items
use Rattle.outside.specs.declared.link.LinkPlan.{LinkPlan}
use Rattle.schedule_file.specs.FileBytes as file
use Rattle.schedule_file.specs.ReadHeader.{heading}
use Rattle.schedule_file.specs.Spelling.{FileOf, IsFile, IsHeading}
use Rattle.schedule_file.specs.declared.header.Header.{Header}
use Rattle.world_model.specs.declared.audit.Audit.TheVariants.{Holds}
use Rattle.world_model.specs.Agree.{Agree}
use Rattle.world_model.specs.Audit.{audit_of}
use Rattle.world_model.specs.World.{Setting}
use Rattle.node_loop.specs.declared.end.ServeEnd.{ServeEnd}
use Rattle.node_loop.specs.declared.end.ServeEnd.TheVariants as ends
use Rattle.node_loop.specs.Deeds.{Deed, act_of, firsts_in}
use Rattle.node_loop.specs.Laws.{sent_as, all_frames_of, AreOpen, AreEarned, IsTrueReply}
use Rattle.node_loop.specs.Outs.{Outs, NoneFailed, TapeFailed, LinkFailed, FellShort, Tells, Agrees}
use Rattle.node_loop.specs.PieceLaws.{IsPieceRead}
use Rattle.node_loop.specs.Served.{MayBegin, Breaks}
use Rattle.node_loop.specs.Serving.{Serving, Want, Begins, Ends, Finishes, Overflows, Turns, Closes, Halts, Reminds, Asks, Round, begin, wants}
use Rattle.node_loop.specs.Told.{AreGroups, after_groups, before_newest, told_from, newest_calls, sooner, deeds_from}
use Rattle.node_session.specs.declared.session.Session.{Session}
use Rattle.node_session.specs.Opening.{HasBegun, HasFailed}

-- ---- what a session is served with

-- the header may stand in a file, its root service orders commands, and the items with which it begins are messages of clients
pub record IsServable (s : Session) (first : List LinkItem) : Type 0 where
  pub heading : IsHeading (heading s.header)
  pub atomic : is_atomic s.header.mode.root ≡ true
  pub firsts : All MayBegin first

-- ---- what is served

-- the output took the file of the events, the link was started with the plan and told these calls, and no call of them failed or was without memory
pub record TookAll (h : Header) (plan : LinkPlan) (tells : Tells) (base now : Outs) (events : List Event) (acts : List LinkAct) : Type 0 where
  pub file : tells.tape ≡ true → now.taken ≡ base.taken ++ FileOf (heading h) events
  pub told : tells.link ≡ true → now.told ≡ (acts ++ Starts plan ∷ []) ++ base.told
  pub none_failed : NoneFailed base now

-- up to a point
pub record TookPart (h : Header) (plan : LinkPlan) (tells : Tells) (base now : Outs) (events : List Event) (acts : List LinkAct) : Type 0 where
  pub file : tells.tape ≡ true → TookFront base.taken now.taken (FileOf (heading h) events)
  pub told : tells.link ≡ true → TookBack base.told now.told (acts ++ Starts plan ∷ [])

-- the calls at the end of serving: where the link was to be asked, it gave its end
abbrev pub last_acts : Want → List LinkAct → List LinkAct
last_acts (Begins item) acts = acts
last_acts Ends acts = acts
last_acts Finishes acts = acts
last_acts (Overflows x) acts = acts
last_acts (Turns i) acts = acts
last_acts (Closes i epoch) acts = acts
last_acts Halts acts = acts
last_acts (Reminds i j) acts = acts
last_acts Asks acts = Gives items.End ∷ acts

-- How far it came at a fault, where the events before the newest group's are `earlier`, the calls of that group are `news`, and those before are
-- `sooner`: the link wasn't started, or serving broke, or all was served and the end mark wasn't written.
pub data CameTo (h : Header) (plan : LinkPlan) (tells : Tells) (base now : Outs) (end : ServeEnd) (earlier : List Event) (s : Serving) (sooner news : List LinkAct)
    (rule : Want) : Type 0 where
  NotStarted : HasFailed (heading h) plan tells base now end → CameTo h plan tells base now end earlier s sooner news rule
  Broke : (mid : Outs) → HasBegun (heading h) plan tells base mid → Breaks tells mid now end earlier s.events sooner news
      → CameTo h plan tells base now end earlier s sooner news rule
  NotClosed : (mid whole : Outs) → HasBegun (heading h) plan tells base mid → Agrees tells mid whole s.events (last_acts rule (news ++ sooner)) → end ≡ ends.TapeFault
      → (tells.tape ≡ true → TookFront whole.taken now.taken (0 ∷ [])) → now.told ≡ whole.told → CameTo h plan tells base now end earlier s sooner news rule

-- each end: the rule that applied, or the fault that came, which is that of the first call that failed or was without memory
abbrev pub SessionEnds : Header → LinkPlan → Tells → Outs → Outs → ServeEnd → List Event → Serving → List LinkAct → List LinkAct → Want → Type 0
SessionEnds h plan tells base now ends.Over earlier s sooner news rule = (rule ≡ Ends) × TookAll h plan tells base now s.events (news ++ sooner)
SessionEnds h plan tells base now ends.Done earlier s sooner news rule = (rule ≡ Finishes) × TookAll h plan tells base now s.events (news ++ sooner)
SessionEnds h plan tells base now ends.Limit earlier s sooner news rule = (rule ≡ Halts) × TookAll h plan tells base now s.events (news ++ sooner)
SessionEnds h plan tells base now ends.End earlier s sooner news rule = (rule ≡ Asks) × TookAll h plan tells base now s.events (Gives items.End ∷ (news ++ sooner))
SessionEnds h plan tells base now (ends.KeptFull x) earlier s sooner news rule = (rule ≡ Overflows x) × TookAll h plan tells base now s.events (news ++ sooner)
SessionEnds h plan tells base now ends.LinkFault earlier s sooner news rule =
    LinkFailed base now × TookPart h plan tells base now s.events (news ++ sooner) × CameTo h plan tells base now ends.LinkFault earlier s sooner news rule
SessionEnds h plan tells base now ends.TapeFault earlier s sooner news rule =
    TapeFailed base now × TookPart h plan tells base now s.events (last_acts rule (news ++ sooner)) × CameTo h plan tells base now ends.TapeFault earlier s sooner news rule
SessionEnds h plan tells base now ends.Mem earlier s sooner news rule =
    FellShort base now × TookPart h plan tells base now s.events (news ++ sooner) × CameTo h plan tells base now ends.Mem earlier s sooner news rule
SessionEnds h plan tells base now ends.DiskFault earlier s sooner news rule = ⊥
SessionEnds h plan tells base now (ends.JournalFull x) earlier s sooner news rule = ⊥

-- What is true of the events and the calls of a session, in its world w, where the link's calls are these deeds, and the earlier ones are those
-- of lives before, of which a journal kept the events: a file of these events is one; the frames that went out for the first time, with the
-- earlier ones, are those that its replicas made, in their order; each that went out again did so after its first time, with no acknowledgement
-- of it between the two; each acknowledgement is of a frame that came, opened, and was answered otherwise than that it is to come again; each
-- reply of a position is true; each piece is read without a fault, as one of the log of its replica; and where the audit holds the replicas agree.
pub record IsTrueSession (h : Header) (w : Setting) (events : List Event) (earlier deeds : List Deed) (acts : List LinkAct) : Type 0 where
  pub file : length (FileOf (heading h) events) ≤ file.limit → IsFile (FileOf (heading h) events) (heading h) events
  pub calls : acts ≡ map (act_of w.keys) deeds
  pub frames : all_frames_of w events ≡ map sent_as (reverse (firsts_in (deeds ++ earlier)))
  pub resends : AreOpen w (deeds ++ earlier)
  pub acknowledged : AreEarned w events deeds
  pub replies : AllByRecursion (IsTrueReply w events) (replies_in acts)
  pub pieces : AllByRecursion (IsPieceRead w events) (replies_in acts)
  pub agree : audit_of w events ≡ Holds → Agree w events

-- There are groups of rounds, each round what the rules of serving say, after which the session ended so.
pub record ServesSession (s : Session) (first : List LinkItem) (w : Setting) (tells : Tells) (base now : Outs) (end : ServeEnd) : Type 0 where
  pub groups : List (List Round)
  pub are : AreGroups w [] s.limits (begin first) groups
  pub so : SessionEnds s.header s.plan tells base now end (before_newest w [] (begin first) groups).events (after_groups w [] (begin first) groups)
      (sooner w [] (begin first) groups) (newest_calls w [] (begin first) groups) (wants w [] s.limits (after_groups w [] (begin first) groups))
  pub true_of : IsTrueSession s.header w (after_groups w [] (begin first) groups).events [] (deeds_from w [] (begin first) [] groups) (told_from w [] (begin first) groups)
  pub tape_later : base.tape_faults ≤ now.tape_faults
  pub link_later : base.link_faults.failed ≤ now.link_faults.failed
