-- What is true of a life of a node with a journal.
use Rattle.std.proofs.Common.{◌≡◌, ℕ, ◌≤◌, Bool, true, false, List, [], ◌∷◌, ◌++◌, reverse, refl, sym, ◌∙◌, ap, subst, append_assoc, arith, inl, inr}
use Rattle.std.specs.List.{AllByRecursion}
use Rattle.std.proofs.lemmas.List.{reverse-reverse}
use Rattle.std.proofs.lemmas.List.Elements.{All-from_recursion}
use Rattle.layer_api.specs.Broadcast.{BroadcastRules}
use Rattle.layer_api.specs.Service.{ServiceRules}
use Rattle.ritas_base.specs.Members.{has_member}
use Rattle.event_journal.specs.Journal.{IsRecord}
use Rattle.schedule_file.specs.Spelling.{IsHeading, header_text}
use Rattle.schedule_file.specs.declared.header.Header.{Header}
use Rattle.world_model.specs.EveryWorld.{IsWorld, AgreementLaw}
use Rattle.world_model.specs.MadeOrder.{all_made}
use Rattle.node_loop.specs.declared.limits.Limits.{Limits}
use Rattle.node_loop.specs.Deeds.{firsts_in}
use Rattle.node_loop.specs.Laws.{ActsAreDeeds, DeedsAreBehind, FramesAreMade, ResendsAreOpen, RecalledAreSent, RecalledAreOpen, AcksAreEarned, EventsFit, RepliesAreTrue, IsServed}
use Rattle.node_loop.specs.PieceLaws.{HasSoundBase, PiecesAreOfLogs}
use Rattle.node_loop.specs.Queries.{QueriesFit}
use Rattle.node_loop.specs.Served.{MayBegin}
use Rattle.node_loop.proofs.AfterPast.{record_served}
use Rattle.node_session.proofs.Sessions.{all_back, is_true}
use Rattle.ritas_base.specs.declared.event.Event.{Event}
use Rattle.outside.specs.Links.{LinkAct, Starts}
use Rattle.schedule_file.specs.ReadHeader.{heading}
use Rattle.replica.specs.declared.replica.Replica.{Replica}
use Rattle.keyed_channel.specs.KeyRow.{KeyRow}
use Rattle.ritas_core.specs.Stands.{Meaning}
use Rattle.world_model.specs.World.{Setting}
use Rattle.node_loop.specs.declared.archive.ArchiveFault.{ArchiveFault}
use Rattle.node_loop.specs.declared.archive.ArchiveFault.TheVariants as archive
use Rattle.node_loop.specs.declared.end.ServeEnd.{ServeEnd}
use Rattle.node_loop.specs.declared.end.ServeEnd.TheVariants as ends
use Rattle.node_loop.specs.Again.{ServesAgain}
use Rattle.node_loop.specs.Archives.{Moment, Reach, KeptAt, moment, reach}
use Rattle.node_loop.specs.Keeping.{kept_of}
use Rattle.node_loop.specs.Outs.{Outs, Tells, AllWritten, NoneCame, NoneFailed, NoneSent, StopsPartway, events_text}
use Rattle.node_loop.specs.Recovering.{earlier_with, recovered, recalled_deeds, with_past}
use Rattle.node_loop.specs.ServedKept.{BreaksOff, EndsKept, earlier_kept, newest_kept}
use Rattle.node_loop.specs.Serving.{Serving, so_far, Want, wants, Round}
use Rattle.node_loop.specs.Told.{AreGroups, after_groups, told_from, newest_calls, sooner, deeds_from}
use Rattle.node_session.specs.declared.session.Session.{Session}
use Rattle.node_session.specs.Lives.{BrokeAt, HasRecord, LifeEnds, LifeKept, NothingCame, NothingMore, ServesLife, life_reach}
use Rattle.node_session.specs.Opening.{HasBegun, HasFailed, Closes, Closed, Failed, is_reason}
use Rattle.node_session.specs.Session.{IsTrueSession, SessionEnds, TookPart}
use Rattle.node_session.proofs.Composing.{not_begun}
use Rattle.node_session.proofs.Ending.{same_failed, breaks, ended, tape_on, link_on, end_on}

-- each end of any session is one of a life
to_life : (x : Session) (tells : Tells) (base now : Outs) (end : ServeEnd) (earlier : List Event) (s : Serving) (sooner news : List LinkAct) (rule : Want)
    → SessionEnds x.header x.plan tells base now end earlier s sooner news rule → LifeEnds x.header x.plan tells base now end earlier s sooner news rule
to_life x tells base now ends.DiskFault earlier s sooner news rule so = absurd so
to_life x tells base now (ends.JournalFull size) earlier s sooner news rule so = absurd so
to_life x tells base now end earlier s sooner news rule so = so

-- ---- what was kept

-- nothing was given yet
none_given : (now : Moment) (x : Session) (tells : Tells) (base outs : Outs) (end : ServeEnd) (events : List Event) (sooner : List LinkAct)
    → HasFailed (heading x.header) x.plan tells base outs end → now.stands [] → LifeKept now (life_reach x.header x.plan tells base outs [] events sooner) [] [] [] end
none_given now x tells base outs ends.LinkFault events sooner failed here = inr (inr (refl, record { taken = failed.taken; told = failed.told }), here)
none_given now x tells base outs ends.TapeFault events sooner failed here = inl here
none_given now x tells base outs ends.Mem events sooner failed here = inr (inr (refl, record { taken = failed.taken; told = failed.told }), here)
none_given now x tells base outs end events sooner failed here = absurd failed.cause

-- the end mark was written, or the output failed, and all was kept
all_kept : (now : Moment) (far : Reach) (kept group older : List Event) (tells : Bool) (old new : List ℕ) (before after : ℕ) (end result : ServeEnd) → is_reason end ≡ true
    → now.stands kept → Closes tells old new before after end result → LifeKept now far kept group older result
all_kept now far kept group older tells old new before after end result reason stands (Closed is counts closed) = subst (LifeKept now far kept group older) (sym is) (here end reason)
  where
    here : (e : ServeEnd) → is_reason e ≡ true → LifeKept now far kept group older e
    here ends.Over is = stands
    here ends.Done is = stands
    here ends.Limit is = stands
    here ends.End is = stands
    here (ends.KeptFull bytes) is = stands
    here end is = absurd (cc is)
all_kept now far kept group older tells old new before after end result reason stands (Failed is rises later lost) = subst (LifeKept now far kept group older) (sym is) (inl stands)

module _ (x : Session) (w : Setting) (tells : Tells) {S E C : Type 0} (m : Meaning S E C KeyRow) (numbers : List ℕ) (here : List (Replica S E C))
    (base mid now last : Outs) (begun : HasBegun (heading x.header) x.plan tells base mid) (earlier : List Event) (s : Serving) (sooner news : List LinkAct) (rule : Want) where
  -- behind the start of the link
  behind_start : last ≡ now → NoneSent tells mid now sooner → tells.link ≡ true → last.told ≡ sooner ++ Starts x.plan ∷ base.told
  behind_start same none t = ap (λ (o : Outs). o.told) same ∙ (none t ∙ ap (λ (l : List LinkAct). sooner ++ l) (begun.told t))

  nothing_more : last ≡ now → NoneSent tells mid now sooner → NothingMore x.plan tells base last sooner
  nothing_more same none = λ t. inl (behind_start same none t)

  -- behind the header
  recorded : (es : List Event) → last ≡ now → AllWritten tells mid now es → HasRecord x.header tells base last es
  recorded es same written t =
      ap (λ (o : Outs). o.taken) same
      ∙ (written t
      ∙ (ap (λ (l : List ℕ). l ++ events_text es) (begun.taken t) ∙ append_assoc base.taken (header_text (heading x.header)) (events_text es)))

  nothing_came : last ≡ now → NoneCame tells mid now earlier sooner → NothingCame x.header x.plan tells base last earlier sooner
  nothing_came same none = inl (recorded earlier same none.0, behind_start same none.1)

  abbrev far_at : Reach
  far_at = life_reach x.header x.plan tells base last earlier s.events sooner

  life_ended : (end result : ServeEnd) → EndsKept m w [] numbers here tells mid now end earlier s sooner news rule → last.told ≡ now.told
      → last.link_faults ≡ now.link_faults
      → (is_reason end ≡ true → Closes tells.tape now.taken last.taken now.tape_faults last.tape_faults end result)
      → (is_reason end ≡ false → (result ≡ end) × (last ≡ now)) → LifeEnds x.header x.plan tells base last result earlier s sooner news rule
  life_ended end result so same link closed kept = by_end end so closed kept
    where
      at : ServeEnd → Type 0
      at e = LifeEnds x.header x.plan tells base last e earlier s sooner news rule

      none_failed : NoneFailed mid now → last ≡ now → NoneFailed base last
      none_failed cause same = rw same (cause.0 ∙ begun.tape_stands, cause.1 ∙ begun.link_stands)

      -- the journal failed
      over : (e : ServeEnd) (fault : _) → BreaksOff tells mid now e earlier s.events sooner news → StopsPartway tells mid now fault earlier s.events sooner news → NoneFailed mid now → last ≡ now
          → NoneFailed base last × TookPart x.header x.plan tells base last s.events (news ++ sooner) × BrokeAt x.header x.plan tells base last e earlier s.events sooner news
      over e fault off stops cause same = (
        none_failed cause same,
        breaks x w tells m numbers here base mid now last begun earlier s sooner news rule fault [] stops same,
        record { mid = mid; begun = begun; stops = subst (λ (o : Outs). BreaksOff tells mid o e earlier s.events sooner news) (sym same) off },
      )

      by_end : (e : ServeEnd) → EndsKept m w [] numbers here tells mid now e earlier s sooner news rule
          → (is_reason e ≡ true → Closes tells.tape now.taken last.taken now.tape_faults last.tape_faults e result)
          → (is_reason e ≡ false → (result ≡ e) × (last ≡ now)) → LifeEnds x.header x.plan tells base last result earlier s sooner news rule
      by_end ends.DiskFault so closed kept = subst at (sym (kept refl).0) (over ends.DiskFault _ so.0 so.0 so.0.cause (kept refl).1)
      by_end (ends.JournalFull size) so closed kept = subst at (sym (kept refl).0) (over (ends.JournalFull size) _ so.0 so.0 so.0.cause (kept refl).1)
      by_end e so closed kept =
          to_life x tells base last result earlier s sooner news rule (ended x w tells m numbers here base mid now last begun earlier s sooner news rule e result so same link closed kept)

  -- what the archive stands for at the end of serving is what it stands for at the end of the session
  life_kept : (stands : List Event → Type 0) (fails : ArchiveFault → List Event → List Event → Type 0) (kept group older : List Event) (end result : ServeEnd)
      → EndsKept m w [] numbers here tells mid now end earlier s sooner news rule
      → KeptAt (moment now stands fails) (reach tells mid now earlier s.events sooner) kept group older end
      → (is_reason end ≡ true → Closes tells.tape now.taken last.taken now.tape_faults last.tape_faults end result)
      → (is_reason end ≡ false → (result ≡ end) × (last ≡ now))
      → LifeKept (moment last stands fails) far_at kept group older result
  life_kept stands fails kept group older end result so held closed same = by_end end so held closed same
    where
      at : ServeEnd → Type 0
      at e = LifeKept (moment last stands fails) far_at kept group older e

      by_end : (e : ServeEnd) → EndsKept m w [] numbers here tells mid now e earlier s sooner news rule
          → KeptAt (moment now stands fails) (reach tells mid now earlier s.events sooner) kept group older e
          → (is_reason e ≡ true → Closes tells.tape now.taken last.taken now.tape_faults last.tape_faults e result)
          → (is_reason e ≡ false → (result ≡ e) × (last ≡ now)) → at result
      by_end ends.Over so held closed same = all_kept (moment last stands fails) _ kept group older _ _ _ _ _ ends.Over result refl held (closed refl)
      by_end ends.Done so held closed same = all_kept (moment last stands fails) _ kept group older _ _ _ _ _ ends.Done result refl held (closed refl)
      by_end ends.Limit so held closed same = all_kept (moment last stands fails) _ kept group older _ _ _ _ _ ends.Limit result refl held (closed refl)
      by_end ends.End so held closed same = all_kept (moment last stands fails) _ kept group older _ _ _ _ _ ends.End result refl held (closed refl)
      by_end (ends.KeptFull bytes) so held closed same =
          all_kept (moment last stands fails) _ kept group older _ _ _ _ _ (ends.KeptFull bytes) result refl held (closed refl)
      by_end ends.LinkFault so held closed same = subst at (sym (same refl).0) (elim held [
        | inl all ↦ inl (recorded s.events (same refl).1 all.0, all.1)
        | inr some ↦ inr (nothing_came (same refl).1 some.0, some.1)
      ])
      by_end ends.TapeFault so held closed same = subst at (sym (same refl).0) (inr (nothing_more (same refl).1 so.0.order, held))
      by_end ends.Mem so held closed same = subst at (sym (same refl).0) (elim held [
        | inl all ↦ inl (recorded s.events (same refl).1 all.0, elim all.1 [ inl stood ↦ inl stood | inr broke ↦ inr (nothing_more (same refl).1 broke.0, broke.1) ])
        | inr some ↦ inr (nothing_came (same refl).1 some.0, some.1)
      ])
      by_end e so held closed same = subst at (sym (same refl).0) held

  life_tape_on : (end : ServeEnd) → EndsKept m w [] numbers here tells mid now end earlier s sooner news rule → mid.tape_faults ≤ now.tape_faults
  life_tape_on ends.DiskFault so = so.0.tape_later
  life_tape_on (ends.JournalFull size) so = so.0.tape_later
  life_tape_on end so = tape_on x w tells m numbers here base mid now last begun earlier s sooner news rule end so

  life_link_on : (end : ServeEnd) → EndsKept m w [] numbers here tells mid now end earlier s sooner news rule → mid.link_faults.failed ≤ now.link_faults.failed
  life_link_on ends.DiskFault so = so.0.link_later
  life_link_on (ends.JournalFull size) so = so.0.link_later
  life_link_on end so = link_on x w tells m numbers here base mid now last begun earlier s sooner news rule end so

-- ---- a life

-- what is true of a life that began with these events
pub is_life : (h : Header) (w : Setting) → IsHeading (heading h) → (service : ServiceRules) (other : BroadcastRules) → IsWorld service other w → HasSoundBase w → w.numbers ≡ h.p
    → ((i : ℕ) → w.is_correct i ≡ true → has_member h.correct i ≡ true) → ActsAreDeeds → DeedsAreBehind → FramesAreMade → ResendsAreOpen → AcksAreEarned → EventsFit
    → RepliesAreTrue service other → PiecesAreOfLogs service other → AgreementLaw service other → RecalledAreSent → RecalledAreOpen → (limits : Limits) (me : ℕ) (events : List Event) → w.is_correct me ≡ true
    → AllByRecursion (IsRecord me) events → (groups : List (List Round)) → AreGroups w (reverse events) limits (recovered w (reverse events)) groups
    → QueriesFit w (reverse events) (recovered w (reverse events)) groups
    → IsTrueSession h w (so_far (reverse events) (after_groups w (reverse events) (recovered w (reverse events)) groups)) (recalled_deeds w (reverse events))
    (deeds_from w (reverse events) (recovered w (reverse events)) [] groups) (told_from w (reverse events) (recovered w (reverse events)) groups)
is_life h w is service other kind base numbers correct done behind made kept earned fit replied pieces agreed sent again limits me events right own groups are queries =
    let past = reverse events in
    let made_first : all_made w past ≡ reverse (firsts_in (recalled_deeds w past)) = sym (ap reverse (again w past).1 ∙ reverse-reverse (all_made w past)) in
    is_true h w is service other kind base numbers correct done behind made kept earned fit replied pieces agreed past limits (recovered w past) (recalled_deeds w past) groups refl
    (All-from_recursion MayBegin [] tt) made_first (sent w past) (again w past).0 (all_back (IsServed w) events (record_served w me events right own)) are queries

module _ (x : Session) (past : List Event) (w : Setting) (tells : Tells) (stands : List Event → Type 0) (fails : ArchiveFault → List Event → List Event → Type 0)
    (session : (groups : List (List Round)) → AreGroups w past x.limits (recovered w past) groups → QueriesFit w past (recovered w past) groups
    → IsTrueSession x.header w (so_far past (after_groups w past (recovered w past) groups)) (recalled_deeds w past)
    (deeds_from w past (recovered w past) [] groups) (told_from w past (recovered w past) groups)) where
  -- it ended before it was served
  pub life_fails : (base now : Outs) (end : ServeEnd) → HasFailed (heading x.header) x.plan tells base now end → stands []
      → ServesLife x past w tells base (moment now stands fails) end
  life_fails base now end failed held = record {
    groups = [];
    are = tt;
    so = to_life x tells base now end [] _ [] [] _
        (not_begun x.header x.plan tells base now [] (with_past past (recovered w past)) [] [] (wants w past x.limits (recovered w past)) end failed);
    kept = none_given (moment now stands fails) x tells base now end (so_far past (recovered w past)) [] failed held;
    true_of = session [] tt tt;
    tape_later = failed.tape_later;
    link_later = failed.link_later;
  }

  pub lives : {S E C : Type 0} (m : Meaning S E C KeyRow) (numbers : List ℕ) (here : List (Replica S E C)) (base mid now last : Outs)
      → HasBegun (heading x.header) x.plan tells base mid → (end result : ServeEnd)
      → ServesAgain m w past numbers here tells mid (moment now stands fails) end x.limits → last.told ≡ now.told → last.link_faults ≡ now.link_faults
      → (is_reason end ≡ true → Closes tells.tape now.taken last.taken now.tape_faults last.tape_faults end result)
      → (is_reason end ≡ false → (result ≡ end) × (last ≡ now)) → ServesLife x past w tells base (moment last stands fails) result
  lives m numbers here base mid now last begun end result run same same_count closed kept =
      let start = recovered w past in
      let later = after_groups w past start run.groups in
      let earlier = earlier_with w past run.groups in
      let s = with_past past later in
      let old = sooner w past start run.groups in
      let new = newest_calls w past start run.groups in
      let rule = wants w past x.limits later in
      record {
        groups = run.groups;
        are = run.are;
        so = life_ended x w tells m numbers here base mid now last begun earlier s old new rule end result run.so same same_count closed kept;
        kept = life_kept x w tells m numbers here base mid now last begun earlier s old new rule stands fails
            (kept_of w past later.events) (newest_kept w past start run.groups) (earlier_kept w past start run.groups) end result run.so run.kept closed kept;
        true_of = session run.groups run.are run.queries;
        tape_later = omega (
          arith,
          begun.tape_stands,
          life_tape_on x w tells m numbers here base mid now last begun earlier s old new rule end run.so,
          end_on x w tells m numbers here base mid now last begun end result (is_reason end) refl closed kept,
        );
        link_later = omega (arith, same_failed begun.link_stands, life_link_on x w tells m numbers here base mid now last begun earlier s old new rule end run.so, same_failed same_count);
      }

-- what is told of the archive may be said otherwise
pub life_weaker : (x : Session) (past : List Event) (w : Setting) (tells : Tells) (base outs : Outs) (stands more_stands : List Event → Type 0)
    (fails more_fails : ArchiveFault → List Event → List Event → Type 0) (end : ServeEnd) → ((given : List Event) → stands given → more_stands given)
    → ((fault : ArchiveFault) (group older : List Event) → fails fault group older → more_fails fault group older)
    → ServesLife x past w tells base (moment outs stands fails) end → ServesLife x past w tells base (moment outs more_stands more_fails) end
life_weaker x past w tells base outs stands more_stands fails more_fails end one two life = record {
  groups = life.groups;
  are = life.are;
  so = life.so;
  kept = by_end end _ _ _ _ life.kept;
  true_of = life.true_of;
  tape_later = life.tape_later;
  link_later = life.link_later;
}
  where
    by_end : (e : ServeEnd) (far : Reach) (kept group older : List Event) → LifeKept (moment outs stands fails) far kept group older e
        → LifeKept (moment outs more_stands more_fails) far kept group older e
    by_end ends.LinkFault far kept group older held = elim held [ inl all ↦ inl (all.0, one kept all.1) | inr some ↦ inr (some.0, one older some.1) ]
    by_end ends.TapeFault far kept group older held = elim held [ inl all ↦ inl (one kept all) | inr some ↦ inr (some.0, one older some.1) ]
    by_end ends.Mem far kept group older held = elim held [
      | inl all ↦ inl (all.0, elim all.1 [ inl stood ↦ inl (one kept stood) | inr broke ↦ inr (broke.0, two archive.Mem group older broke.1) ])
      | inr some ↦ inr (some.0, one older some.1)
    ]
    by_end ends.DiskFault far kept group older held = two archive.Disk group older held
    by_end (ends.JournalFull size) far kept group older held = two (archive.Full size) group older held
    by_end e far kept group older held = one kept held

-- ---- another world of a header

pub life_in : (x : Session) (past : List Event) (w v : Setting) (tells : Tells) (base : Outs) (now : Moment) (end : ServeEnd) → w ≡ v
    → ServesLife x past w tells base now end → ServesLife x past v tells base now end
life_in x past w v tells base now end same life = subst (λ (z : Setting). ServesLife x past z tells base now end) same life
