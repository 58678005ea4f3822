-- What the status of serving says.
use Rattle.std.proofs.Common.{◌≡◌, ◌≢◌, ℕ, ◌≤◌, false, List, [], ◌∷◌, ◌++◌, refl, sym, ◌∙◌, ap, inl, inr, subst, arith}
use Rattle.outside.specs.Links.{LinkAct, Gives}
use Rattle.outside.specs.declared.link.LinkItem.{LinkItem}
use Rattle.outside.specs.declared.link.LinkItem.TheVariants as items
use Rattle.outside.specs.declared.link.LinkPlan.{LinkPlan}
use Rattle.ritas_base.specs.declared.event.Event.{Event}
use Rattle.schedule_file.specs.declared.header.Header.{Header}
use Rattle.schedule_replay.specs.Layers.{setting_of}
use Rattle.world_model.specs.World.{Setting}
use Rattle.node_loop.specs.declared.end.ServeEnd.{ServeEnd}
use Rattle.node_loop.specs.declared.end.ServeEnd.TheVariants as ends
use Rattle.node_loop.specs.Outs.{Outs, Tells}
use Rattle.node_loop.specs.Deeds.{Deed, Came}
use Rattle.node_loop.specs.Serving.{Serving, Want, Round, begin}
use Rattle.node_loop.specs.Told.{after_groups, told_from, newest_calls, sooner, deeds_from}
use Rattle.node_session.specs.declared.session.Session.{Session}
use Rattle.node_session.specs.Session.{TookAll, SessionEnds, IsTrueSession, ServesSession}
use Rattle.ritas.specs.Configs.{AnswersSession, Unserved, Served, HasServed, IsIdle}
use Rattle.schedule_replay.specs.Replay.{CountsIf}
use Rattle.ritas.specs.Run.{LinkCounts, Runs}
use Rattle.ritas.specs.Statuses.{end_status}
use Rattle.ritas.proofs.Counts.{none_failed, one_failed, link_stood, link_failed, link_short}

pub no_four : (end : ServeEnd) → end_status end ≢ 4
no_four ends.Over e = omega (arith, e)
no_four ends.Done e = omega (arith, e)
no_four ends.Limit e = omega (arith, e)
no_four ends.End e = omega (arith, e)
no_four (ends.KeptFull x) e = omega (arith, e)
no_four ends.LinkFault e = omega (arith, e)
no_four ends.TapeFault e = omega (arith, e)
no_four ends.Mem e = omega (arith, e)
no_four ends.DiskFault e = omega (arith, e)
no_four (ends.JournalFull x) e = omega (arith, e)

pub no_two : (end : ServeEnd) → end_status end ≢ 2
no_two ends.Over e = omega (arith, e)
no_two ends.Done e = omega (arith, e)
no_two ends.Limit e = omega (arith, e)
no_two ends.End e = omega (arith, e)
no_two (ends.KeptFull x) e = omega (arith, e)
no_two ends.LinkFault e = omega (arith, e)
no_two ends.TapeFault e = omega (arith, e)
no_two ends.Mem e = omega (arith, e)
no_two ends.DiskFault e = omega (arith, e)
no_two (ends.JournalFull x) e = omega (arith, e)

pub low : (end : ServeEnd) → end_status end ≤ 9
low ends.Over = omega arith
low ends.Done = omega arith
low ends.Limit = omega arith
low ends.End = omega arith
low (ends.KeptFull x) = omega arith
low ends.LinkFault = omega arith
low ends.TapeFault = omega arith
low ends.Mem = omega arith
low ends.DiskFault = omega arith
low (ends.JournalFull x) = omega arith

pub tape_counts : (h : Header) (plan : LinkPlan) (tells : Tells) (base now : Outs) (end : ServeEnd) (earlier : List Event) (s : Serving) (sooner news : List LinkAct) (rule : Want)
    → SessionEnds h plan tells base now end earlier s sooner news rule
    → CountsIf base.tape_faults now.tape_faults (end_status end ≡ 5)
tape_counts h plan tells base now ends.Over earlier s sooner news rule so = none_failed _ _ (λ e. omega (arith, e)) so.1.none_failed.0
tape_counts h plan tells base now ends.Done earlier s sooner news rule so = none_failed _ _ (λ e. omega (arith, e)) so.1.none_failed.0
tape_counts h plan tells base now ends.Limit earlier s sooner news rule so = none_failed _ _ (λ e. omega (arith, e)) so.1.none_failed.0
tape_counts h plan tells base now ends.End earlier s sooner news rule so = none_failed _ _ (λ e. omega (arith, e)) so.1.none_failed.0
tape_counts h plan tells base now (ends.KeptFull x) earlier s sooner news rule so = none_failed _ _ (λ e. omega (arith, e)) so.1.none_failed.0
tape_counts h plan tells base now ends.LinkFault earlier s sooner news rule so = none_failed _ _ (λ e. omega (arith, e)) so.0.0
tape_counts h plan tells base now ends.TapeFault earlier s sooner news rule so = one_failed _ _ refl so.0.0
tape_counts h plan tells base now ends.Mem earlier s sooner news rule so = none_failed _ _ (λ e. omega (arith, e)) so.0.0
tape_counts h plan tells base now ends.DiskFault earlier s sooner news rule so = absurd so
tape_counts h plan tells base now (ends.JournalFull x) earlier s sooner news rule so = absurd so

pub link_counts : (h : Header) (plan : LinkPlan) (tells : Tells) (base now : Outs) (end : ServeEnd) (earlier : List Event) (s : Serving) (sooner news : List LinkAct) (rule : Want)
    → SessionEnds h plan tells base now end earlier s sooner news rule
    → LinkCounts base.link_faults now.link_faults (end_status end)
link_counts h plan tells base now ends.Over earlier s sooner news rule so = link_stood _ _ 0 (λ e. omega (arith, e)) so.1.none_failed.1
link_counts h plan tells base now ends.Done earlier s sooner news rule so = link_stood _ _ 0 (λ e. omega (arith, e)) so.1.none_failed.1
link_counts h plan tells base now ends.Limit earlier s sooner news rule so = link_stood _ _ 0 (λ e. omega (arith, e)) so.1.none_failed.1
link_counts h plan tells base now ends.End earlier s sooner news rule so = link_stood _ _ 0 (λ e. omega (arith, e)) so.1.none_failed.1
link_counts h plan tells base now (ends.KeptFull x) earlier s sooner news rule so = link_stood _ _ 7 (λ e. omega (arith, e)) so.1.none_failed.1
link_counts h plan tells base now ends.LinkFault earlier s sooner news rule so = link_failed _ _ 6 refl so.0.1
link_counts h plan tells base now ends.TapeFault earlier s sooner news rule so = link_stood _ _ 5 (λ e. omega (arith, e)) so.0.1
link_counts h plan tells base now ends.Mem earlier s sooner news rule so = link_short _ _ 8 refl so.0.1
link_counts h plan tells base now ends.DiskFault earlier s sooner news rule so = absurd so
link_counts h plan tells base now (ends.JournalFull x) earlier s sooner news rule so = absurd so

-- a session that was served gives these counts
pub session_runs : {K : Type 0} (faults : K → ℕ) (old new : K) (session : Session) (first : List LinkItem) (w : Setting) (tells : Tells) (base now : Outs) (end : ServeEnd)
    → base.tape_faults ≡ faults old → now.tape_faults ≡ faults new → ServesSession session first w tells base now end
    → Runs faults old new base.link_faults now.link_faults (end_status end)
session_runs faults old new session first w tells base now end before later serves = record {
  ends = record {
    listed = low end;
    counts =
        let counts = tape_counts session.header session.plan tells base now end _ _ _ _ _ serves.so in
        subst (λ (n : ℕ). CountsIf (faults old) n (end_status end ≡ 5)) later (subst (λ (n : ℕ). CountsIf n now.tape_faults (end_status end ≡ 5)) before counts);
    unread = λ e. absurd (no_four end e);
  };
  link_counts = link_counts session.header session.plan tells base now end _ _ _ _ _ serves.so;
  words_are_right = no_two end;
}

pub session_unread : (end : ServeEnd) → end_status end ≢ 4
session_unread end = no_four end

-- what the link told behind its start are the calls of the newest group, and those before them
pub took_told : (session : Session) (tells : Tells) (base now : Outs) (events : List Event) (last : List LinkAct) (w : Setting) (past : List Event) (start : Serving)
    (groups : List (List Round)) → TookAll session.header session.plan tells base now events (last ++ (newest_calls w past start groups ++ sooner w past start groups))
    → TookAll session.header session.plan tells base now events (last ++ told_from w past start groups)
took_told session tells base now events last w past start [] took = took
took_told session tells base now events last w past start (group ∷ older) took = took

-- the same is true where the link gave its end too
pub with_end : (h : Header) (w : Setting) (events : List Event) (earlier deeds : List Deed) (acts : List LinkAct) → IsTrueSession h w events earlier deeds acts
    → IsTrueSession h w events earlier (Came false items.End ∷ deeds) (Gives items.End ∷ acts)
with_end h w events earlier deeds acts true_of = record {
  file = true_of.file;
  calls = ap (λ (l : List LinkAct). Gives items.End ∷ l) true_of.calls;
  frames = true_of.frames;
  resends = true_of.resends;
  acknowledged = true_of.acknowledged;
  replies = true_of.replies;
  pieces = true_of.pieces;
  agree = true_of.agree;
}

-- at 0 events were served to their end
pub has_served : (session : Session) (first : List LinkItem) (tells : Tells) (base now : Outs) (untouched : Type 0) (status : ℕ)
    → AnswersSession session first tells base now untouched status → status ≡ 0 → HasServed session [] tells base now
has_served session first tells base now untouched status (Unserved idle same) zero = absurd (no_zero idle)
  where
    no_zero : IsIdle status → ⊥
    no_zero (inl four) = omega (arith, four, zero)
    no_zero (inr eight) = omega (arith, eight, zero)
has_served session first tells base now untouched status (Served end is serves) zero = by_end end (sym is ∙ zero) serves
  where
    w : Setting
    w = setting_of session.header

    start : Serving
    start = begin first

    by_end : (x : ServeEnd) → end_status x ≡ 0 → ServesSession session first w tells base now x → HasServed session [] tells base now
    by_end ends.Over e run = record {
      events = (after_groups w [] start run.groups).events;
      deeds = deeds_from w [] start [] run.groups;
      acts = told_from w [] start run.groups;
      took = took_told session tells base now _ [] w [] start run.groups run.so.1;
      true_of = run.true_of;
    }
    by_end ends.Done e run = record {
      events = (after_groups w [] start run.groups).events;
      deeds = deeds_from w [] start [] run.groups;
      acts = told_from w [] start run.groups;
      took = took_told session tells base now _ [] w [] start run.groups run.so.1;
      true_of = run.true_of;
    }
    by_end ends.Limit e run = record {
      events = (after_groups w [] start run.groups).events;
      deeds = deeds_from w [] start [] run.groups;
      acts = told_from w [] start run.groups;
      took = took_told session tells base now _ [] w [] start run.groups run.so.1;
      true_of = run.true_of;
    }
    by_end ends.End e run = record {
      events = (after_groups w [] start run.groups).events;
      deeds = Came false items.End ∷ deeds_from w [] start [] run.groups;
      acts = Gives items.End ∷ told_from w [] start run.groups;
      took = took_told session tells base now _ (Gives items.End ∷ []) w [] start run.groups run.so.1;
      true_of = with_end session.header w _ [] _ _ run.true_of;
    }
    by_end ends.LinkFault e run = absurd (omega (arith, e))
    by_end ends.TapeFault e run = absurd (omega (arith, e))
    by_end ends.Mem e run = absurd (omega (arith, e))
    by_end (ends.KeptFull x) e run = absurd (omega (arith, e))
    by_end ends.DiskFault e run = absurd (omega (arith, e))
    by_end (ends.JournalFull x) e run = absurd (omega (arith, e))
