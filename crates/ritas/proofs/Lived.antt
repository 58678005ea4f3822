-- What the status of a node with a journal says.
use Rattle.std.proofs.Common.{◌≡◌, ◌≢◌, ◌↔◌, ℕ, Bool, true, false, List, [], ◌∷◌, Ok, Err, refl, sym, ap, ◌∙◌, inl, inr, subst, arith}
use Rattle.outside.specs.Links.{LinkAct, Gives}
use Rattle.outside.specs.declared.link.LinkItem.{LinkItem}
use Rattle.outside.specs.declared.link.LinkItem.TheVariants as items
use Rattle.node_session.specs.declared.session.Session.{Session}
use Rattle.outside.specs.declared.link.LinkPlan.{LinkPlan}
use Rattle.ritas_base.specs.declared.event.Event.{Event}
use Rattle.schedule_file.specs.declared.header.Header.{Header}
use Rattle.schedule_replay.specs.Layers.{setting_of}
use Rattle.schedule_replay.specs.Replay.{CountsIf}
use Rattle.world_model.specs.World.{Setting}
use Rattle.cluster_config.specs.declared.node.NodeConfig.{NodeConfig}
use Rattle.event_journal.specs.declared.fault.JournalFault.{JournalFault}
use Rattle.event_journal.specs.declared.fault.JournalFault.TheVariants as journal_faults
use Rattle.node_loop.specs.declared.end.ServeEnd.{ServeEnd}
use Rattle.node_loop.specs.declared.end.ServeEnd.TheVariants as ends
use Rattle.node_loop.specs.Archives.{moment}
use Rattle.node_loop.specs.Deeds.{Came}
use Rattle.node_loop.specs.Outs.{Outs, Tells}
use Rattle.node_loop.specs.Recovering.{recovered, recalled_deeds}
use Rattle.node_loop.specs.Serving.{Serving, Want, so_far}
use Rattle.node_loop.specs.Told.{after_groups, told_from, deeds_from}
use Rattle.node_session.specs.Configs.{node_header, node_session}
use Rattle.node_session.specs.Lives.{DiskBreaks, DiskKeeps, DiskSeen, HasDiskFailed, LifeEnds, ServesLife, ServesNode, Unopened, head_in}
use Rattle.node_session.specs.Session.{ServesSession}
use Rattle.ritas.specs.Configs.{AnswersBoth, RunsNode, Idle, Refused, Lived, Served, Unserved, AnswersSession, HasLived, IsIdle, RefusesJournal}
use Rattle.ritas.specs.Run.{IsOwnStatus, LinkCounts, Replies, Runs}
use Rattle.ritas.specs.Statuses.{end_status}
use Rattle.ritas.proofs.Counts.{none_failed, link_stood}
use Rattle.ritas.proofs.Served.{low, no_four, no_two, tape_counts, link_counts, session_runs, took_told, with_end}

-- ---- the counts of the output and the link

life_tape : (h : Header) (plan : LinkPlan) (tells : Tells) (base now : Outs) (end : ServeEnd) (earlier : List Event) (s : Serving) (sooner news : List LinkAct) (rule : Want)
    → LifeEnds h plan tells base now end earlier s sooner news rule
    → CountsIf base.tape_faults now.tape_faults (end_status end ≡ 5)
life_tape h plan tells base now ends.Over earlier s sooner news rule so = tape_counts h plan tells base now ends.Over earlier s sooner news rule so
life_tape h plan tells base now ends.Done earlier s sooner news rule so = tape_counts h plan tells base now ends.Done earlier s sooner news rule so
life_tape h plan tells base now ends.Limit earlier s sooner news rule so = tape_counts h plan tells base now ends.Limit earlier s sooner news rule so
life_tape h plan tells base now ends.End earlier s sooner news rule so = tape_counts h plan tells base now ends.End earlier s sooner news rule so
life_tape h plan tells base now (ends.KeptFull x) earlier s sooner news rule so = tape_counts h plan tells base now (ends.KeptFull x) earlier s sooner news rule so
life_tape h plan tells base now ends.LinkFault earlier s sooner news rule so = tape_counts h plan tells base now ends.LinkFault earlier s sooner news rule so
life_tape h plan tells base now ends.TapeFault earlier s sooner news rule so = tape_counts h plan tells base now ends.TapeFault earlier s sooner news rule so
life_tape h plan tells base now ends.Mem earlier s sooner news rule so = tape_counts h plan tells base now ends.Mem earlier s sooner news rule so
life_tape h plan tells base now ends.DiskFault earlier s sooner news rule so = none_failed _ _ (λ e. omega (arith, e)) so.0.0
life_tape h plan tells base now (ends.JournalFull x) earlier s sooner news rule so = none_failed _ _ (λ e. omega (arith, e)) so.0.0

life_link : (h : Header) (plan : LinkPlan) (tells : Tells) (base now : Outs) (end : ServeEnd) (earlier : List Event) (s : Serving) (sooner news : List LinkAct) (rule : Want)
    → LifeEnds h plan tells base now end earlier s sooner news rule
    → LinkCounts base.link_faults now.link_faults (end_status end)
life_link h plan tells base now ends.Over earlier s sooner news rule so = link_counts h plan tells base now ends.Over earlier s sooner news rule so
life_link h plan tells base now ends.Done earlier s sooner news rule so = link_counts h plan tells base now ends.Done earlier s sooner news rule so
life_link h plan tells base now ends.Limit earlier s sooner news rule so = link_counts h plan tells base now ends.Limit earlier s sooner news rule so
life_link h plan tells base now ends.End earlier s sooner news rule so = link_counts h plan tells base now ends.End earlier s sooner news rule so
life_link h plan tells base now (ends.KeptFull x) earlier s sooner news rule so = link_counts h plan tells base now (ends.KeptFull x) earlier s sooner news rule so
life_link h plan tells base now ends.LinkFault earlier s sooner news rule so = link_counts h plan tells base now ends.LinkFault earlier s sooner news rule so
life_link h plan tells base now ends.TapeFault earlier s sooner news rule so = link_counts h plan tells base now ends.TapeFault earlier s sooner news rule so
life_link h plan tells base now ends.Mem earlier s sooner news rule so = link_counts h plan tells base now ends.Mem earlier s sooner news rule so
life_link h plan tells base now ends.DiskFault earlier s sooner news rule so = link_stood _ _ 9 (λ e. omega (arith, e)) so.0.1
life_link h plan tells base now (ends.JournalFull x) earlier s sooner news rule so = link_stood _ _ 7 (λ e. omega (arith, e)) so.0.1

node_runs : {K : Type 0} (faults : K → ℕ) (old new : K) (config : NodeConfig) (tells : Tells) (base now : Outs) (d : DiskSeen) (end : ServeEnd)
    → base.tape_faults ≡ faults old → now.tape_faults ≡ faults new → ServesNode config tells base now d end
    → Runs faults old new base.link_faults now.link_faults (end_status end)
node_runs faults old new config tells base now d end before later serves =
    let session = node_session config in
    record {
      ends = record {
        listed = low end;
        counts =
            let counts = life_tape session.header session.plan tells base now end _ _ _ _ _ serves.life.so in
            subst (λ (n : ℕ). CountsIf (faults old) n (end_status end ≡ 5)) later (subst (λ (n : ℕ). CountsIf n now.tape_faults (end_status end ≡ 5)) before counts);
        unread = λ e. absurd (no_four end e);
      };
      link_counts = life_link session.header session.plan tells base now end _ _ _ _ _ serves.life.so;
      words_are_right = no_two end;
    }

-- ---- the counts of the disk

nine_is : (end : ServeEnd) → end_status end ≡ 9 → end ≡ ends.DiskFault
nine_is ends.Over e = absurd (omega (arith, e))
nine_is ends.Done e = absurd (omega (arith, e))
nine_is ends.Limit e = absurd (omega (arith, e))
nine_is ends.End e = absurd (omega (arith, e))
nine_is (ends.KeptFull x) e = absurd (omega (arith, e))
nine_is ends.LinkFault e = absurd (omega (arith, e))
nine_is ends.TapeFault e = absurd (omega (arith, e))
nine_is ends.Mem e = absurd (omega (arith, e))
nine_is ends.DiskFault e = refl
nine_is (ends.JournalFull x) e = absurd (omega (arith, e))

-- the disk failed just at 9, where it was served
pub served_count : (few many : ℕ) (end : ServeEnd) → CountsIf few many (HasDiskFailed (Ok end)) → CountsIf few many (end_status end ≡ 9)
served_count few many end counts = record {
  rises = λ e. counts.rises (inl (ap Ok (nine_is end e)));
  stands = λ not. counts.stands (λ failed. not (by failed));
}
  where
    by : HasDiskFailed (Ok end) → end_status end ≡ 9
    by (inl is) = let same : end ≡ ends.DiskFault = cc is in ap end_status same
    by (inr is) = absurd (cc is)

-- and where its journal couldn't be opened
pub refused_count : (few many status : ℕ) (fault : JournalFault) → (status ≡ 9) ↔ (fault ≡ journal_faults.Disk) → CountsIf few many (HasDiskFailed (Err fault)) → CountsIf few many (status ≡ 9)
refused_count few many status fault nine counts = record {
  rises = λ e. counts.rises (inr (ap Err (nine.0 e)));
  stands = λ not. counts.stands (λ failed. not (by failed));
}
  where
    by : HasDiskFailed (Err fault) → status ≡ 9
    by (inl is) = absurd (cc is)
    by (inr is) = nine.1 (cc is)

pub no_disk : (session : Session) (first : List LinkItem) (w : Setting) (tells : Tells) (base now : Outs) (end : ServeEnd) → ServesSession session first w tells base now end → end_status end ≢ 9
no_disk session first w tells base now ends.Over serves e = omega (arith, e)
no_disk session first w tells base now ends.Done serves e = omega (arith, e)
no_disk session first w tells base now ends.Limit serves e = omega (arith, e)
no_disk session first w tells base now ends.End serves e = omega (arith, e)
no_disk session first w tells base now (ends.KeptFull x) serves e = omega (arith, e)
no_disk session first w tells base now ends.LinkFault serves e = omega (arith, e)
no_disk session first w tells base now ends.TapeFault serves e = omega (arith, e)
no_disk session first w tells base now ends.Mem serves e = omega (arith, e)
no_disk session first w tells base now ends.DiskFault serves e = absurd serves.so
no_disk session first w tells base now (ends.JournalFull x) serves e = omega (arith, e)

-- ---- a node, with a journal or without one

module _ {K : Type 0} (config : NodeConfig) (tells : Tells) (taken : K → List ℕ) (old new : K) (base now : Outs) (d : DiskSeen) (still undisked : Type 0) where
  -- it was served
  pub both_served : (end : ServeEnd) (status : ℕ) → status ≡ end_status end
      → (config.journal ≡ false → ServesSession (node_session config) [] (setting_of (node_header config)) tells base now end)
      → (config.journal ≡ false → undisked) → (config.journal ≡ true → ServesNode config tells base now d end)
      → AnswersBoth config tells taken old new base now d still undisked status config.journal
  both_served end status is without same with_it = by_journal config.journal refl
    where
      by_journal : (b : Bool) → config.journal ≡ b → AnswersBoth config tells taken old new base now d still undisked status b
      by_journal true kept = Lived end is (with_it kept)
      by_journal false none = (Served end is (without none), same none)

  -- it wasn't
  pub both_refused : (fault : JournalFault) (status : ℕ) → RefusesJournal tells.tape taken old new status fault → still
      → (config.journal ≡ false → undisked) → (config.journal ≡ false → fault ≡ journal_faults.Mem) → (config.journal ≡ true → Unopened config d fault)
      → AnswersBoth config tells taken old new base now d still undisked status config.journal
  both_refused fault status refuses link same short unopened = by_journal config.journal refl
    where
      by_journal : (b : Bool) → config.journal ≡ b → AnswersBoth config tells taken old new base now d still undisked status b
      by_journal true kept = Refused fault (unopened kept) refuses link
      by_journal false none =
          let mem : (status ≡ 8) × (new ≡ old) = subst (λ (f : JournalFault). RefusesJournal tells.tape taken old new status f) (short none) refuses in
          (Unserved (inr mem.0) (mem.1, link), same none)

-- ---- its counts

pub both_run : {K : Type 0} (faults : K → ℕ) (old new : K) (config : NodeConfig) (tells : Tells) (base now : Outs) (d : DiskSeen) (end : ServeEnd) → base.tape_faults ≡ faults old → now.tape_faults ≡ faults new
    → (config.journal ≡ false → ServesSession (node_session config) [] (setting_of (node_header config)) tells base now end)
    → (config.journal ≡ true → ServesNode config tells base now d end) → Runs faults old new base.link_faults now.link_faults (end_status end)
both_run faults old new config tells base now d end before later without with_it = by_journal config.journal refl
  where
    by_journal : (b : Bool) → config.journal ≡ b → Runs faults old new base.link_faults now.link_faults (end_status end)
    by_journal true kept = node_runs faults old new config tells base now d end before later (with_it kept)
    by_journal false none = session_runs faults old new (node_session config) [] (setting_of (node_header config)) tells base now end before later (without none)

-- ---- at 0

module _ {K : Type 0} (config : NodeConfig) (tells : Tells) (taken : K → List ℕ) (old new : K) (base now : Outs) (d : DiskSeen) (still undisked : Type 0) (status : ℕ) (zero : status ≡ 0) where
  no_idle : IsIdle status → ⊥
  no_idle (inl four) = omega (arith, four, zero)
  no_idle (inr eight) = omega (arith, eight, zero)

  no_own : (own : ℕ) (text : List ℕ) → Replies tells.tape taken old new status own text → own ≢ 0 → ⊥
  no_own own text replies other =
      let is_own : IsOwnStatus status = (λ e. omega (arith, e, zero), λ e. omega (arith, e, zero), λ e. omega (arith, e, zero)) in
      other (sym (replies.answer is_own) ∙ zero)

  no_fault : (fault : JournalFault) → RefusesJournal tells.tape taken old new status fault → ⊥
  no_fault (journal_faults.Foreign p) refuses = no_own 3 _ refuses (λ e. omega (arith, e))
  no_fault (journal_faults.Broken p) refuses = no_own 3 _ refuses (λ e. omega (arith, e))
  no_fault (journal_faults.Full x) refuses = no_own 7 _ refuses (λ e. omega (arith, e))
  no_fault journal_faults.Disk refuses = omega (arith, refuses.0, zero)
  no_fault journal_faults.Mem refuses = omega (arith, refuses.0, zero)

  lived : (end : ServeEnd) → end_status end ≡ 0 → ServesNode config tells base now d end → HasLived config tells base now d
  lived end ended serves = by_end end ended serves.life
    where
      w : Setting
      w = setting_of (node_header config)

      past : List Event
      past = serves.past

      start : Serving
      start = recovered w past

      by_end : (e : ServeEnd) → end_status e ≡ 0
          → ServesLife (node_session config) past w tells base (moment now (DiskKeeps config.me (head_in config) past d) (DiskBreaks config.me (head_in config) past d)) e
          → HasLived config tells base now d
      by_end ends.Over e life = record {
        past = past;
        later = (after_groups w past start life.groups).events;
        opened = serves.opened;
        served = record {
          events = so_far past (after_groups w past start life.groups);
          deeds = deeds_from w past start [] life.groups;
          acts = told_from w past start life.groups;
          took = took_told (node_session config) tells base now _ [] w past start life.groups life.so.1;
          true_of = life.true_of;
        };
        all = refl;
        kept = life.kept;
      }
      by_end ends.Done e life = record {
        past = past;
        later = (after_groups w past start life.groups).events;
        opened = serves.opened;
        served = record {
          events = so_far past (after_groups w past start life.groups);
          deeds = deeds_from w past start [] life.groups;
          acts = told_from w past start life.groups;
          took = took_told (node_session config) tells base now _ [] w past start life.groups life.so.1;
          true_of = life.true_of;
        };
        all = refl;
        kept = life.kept;
      }
      by_end ends.Limit e life = record {
        past = past;
        later = (after_groups w past start life.groups).events;
        opened = serves.opened;
        served = record {
          events = so_far past (after_groups w past start life.groups);
          deeds = deeds_from w past start [] life.groups;
          acts = told_from w past start life.groups;
          took = took_told (node_session config) tells base now _ [] w past start life.groups life.so.1;
          true_of = life.true_of;
        };
        all = refl;
        kept = life.kept;
      }
      by_end ends.End e life = record {
        past = past;
        later = (after_groups w past start life.groups).events;
        opened = serves.opened;
        served = record {
          events = so_far past (after_groups w past start life.groups);
          deeds = Came false items.End ∷ deeds_from w past start [] life.groups;
          acts = Gives items.End ∷ told_from w past start life.groups;
          took = took_told (node_session config) tells base now _ (Gives items.End ∷ []) w past start life.groups life.so.1;
          true_of = with_end (node_header config) w _ (recalled_deeds w past) _ _ life.true_of;
        };
        all = refl;
        kept = life.kept;
      }
      by_end ends.LinkFault e life = absurd (omega (arith, e))
      by_end ends.TapeFault e life = absurd (omega (arith, e))
      by_end ends.Mem e life = absurd (omega (arith, e))
      by_end (ends.KeptFull x) e life = absurd (omega (arith, e))
      by_end ends.DiskFault e life = absurd (omega (arith, e))
      by_end (ends.JournalFull x) e life = absurd (omega (arith, e))

  has_lived_so : RunsNode config tells taken old new base now d still undisked status → HasLived config tells base now d
  has_lived_so (Idle idle same link disk) = absurd (no_idle idle)
  has_lived_so (Refused fault unopened refuses link) = absurd (no_fault fault refuses)
  has_lived_so (Lived end is serves) = lived end (sym is ∙ zero) serves

  pub has_lived : config.journal ≡ true → AnswersBoth config tells taken old new base now d still undisked status config.journal → HasLived config tells base now d
  has_lived kept answers = has_lived_so (subst (AnswersBoth config tells taken old new base now d still undisked status) kept answers)

  pub without_journal : config.journal ≡ false → AnswersBoth config tells taken old new base now d still undisked status config.journal
      → AnswersSession (node_session config) [] tells base now ((new ≡ old) × still) status × undisked
  without_journal none answers = subst (AnswersBoth config tells taken old new base now d still undisked status) none answers
