-- Serving that begins after events that a journal kept.
use Rattle.std.proofs.Common.{◌≡◌, ℕ, ◌≤◌, Bool, true, List, [], ◌∷◌, ◌++◌, refl, sym, ap, ◌∙◌, subst, append_assoc, arith, inl, inr, ◌⊎◌}
use Rattle.std.specs.List.{AllByRecursion}
use Rattle.std.proofs.lemmas.List.{append-nil}
use Rattle.ritas_base.specs.declared.event.Event.{Event}
use Rattle.ritas_base.specs.declared.event.Event.TheVariants as events
use Rattle.keyed_channel.specs.KeyRow.{KeyRow}
use Rattle.ritas_core.specs.Stands.{Meaning}
use Rattle.outside.specs.Disks.{DiskState, disk_state_of}
use Rattle.outside.specs.DisksLaws.{leaves_none}
use Rattle.outside.specs.Faults.{count_after}
use Rattle.outside.specs.LinkCallsLaws.{back_none}
use Rattle.outside.specs.Links.{LinkAct}
use Rattle.outside.specs.Writing.{TookFront}
use Rattle.outside.specs.WritingLaws.{front_then, none_written}
use Rattle.replica.specs.declared.replica.Replica.{Replica}
use Rattle.schedule_file.specs.Spelling.{IsSized}
use Rattle.event_journal.specs.Appending.{AllOpen, JournalState, JournalStandsFor}
use Rattle.event_journal.specs.Journal.{IsRecord}
use Rattle.world_model.specs.World.{Setting}
use Rattle.node_loop.specs.declared.limits.Limits.{Limits}
use Rattle.node_loop.specs.declared.end.Fault.{Fault}
use Rattle.node_loop.specs.declared.end.Fault.TheVariants as faults
use Rattle.node_loop.specs.declared.end.ServeEnd.{ServeEnd}
use Rattle.node_loop.specs.declared.end.ServeEnd.TheVariants as ends
use Rattle.node_loop.specs.declared.house.House.{House}
use Rattle.node_loop.specs.Again.{ServesAgain}
use Rattle.node_loop.specs.Archives.{Moment, KeptAt, reach}
use Rattle.node_loop.specs.Journals.{OpensSome, JournalStands}
use Rattle.node_loop.specs.Keeping.{kept_of}
use Rattle.node_loop.specs.Laws.{IsServed}
use Rattle.node_loop.specs.Outs.{events_text, Outs, Tells, Agrees, HasCauses, AllWritten, InOrder, NoneSent, StopsPartway}
use Rattle.node_loop.specs.Recovering.{earlier_with, recalled_waiting, recalled_peers, recovered, with_past}
use Rattle.node_loop.specs.Running.{Running}
use Rattle.node_loop.specs.Served.{AreHere, Whole}
use Rattle.node_loop.specs.ServedKept.{EndsKept, ServesKept, earlier_kept, newest_kept}
use Rattle.node_loop.specs.Serving.{Serving, so_far, Want, Round}
use Rattle.node_loop.specs.Told.{after_groups, before_newest, sooner}
use Rattle.node_loop.specs.Standing.{HouseStands}
use Rattle.node_loop.proofs.Grouping.{text_parts}
use Rattle.node_loop.proofs.Gathering.{runs_first}
use Rattle.node_loop.proofs.Serverwise.{agrees_none}

-- ---- the events of a journal

pub record_sized : (me : ℕ) (es : List Event) → AllByRecursion (IsRecord me) es → AllByRecursion IsSized es
record_sized me [] all = tt
record_sized me (e ∷ es) all = (all.0.fits, record_sized me es all.1)

one_served : (w : Setting) (me : ℕ) (e : Event) → w.is_correct me ≡ true → IsRecord me e → IsServed w e
one_served w me (events.Frame to bytes) right is = (ap w.is_correct is.alone ∙ right, is.fits)
one_served w me (events.Input at bytes) right is = (ap w.is_correct is.alone ∙ right, is.fits)
one_served w me (events.Turn at) right is = ap w.is_correct is.alone ∙ right
one_served w me (events.Pass from to m) right is = is.alone
one_served w me (events.Sealed from to body) right is = is.alone

pub record_served : (w : Setting) (me : ℕ) (es : List Event) → w.is_correct me ≡ true → AllByRecursion (IsRecord me) es → AllByRecursion (IsServed w) es
record_served w me [] right all = tt
record_served w me (e ∷ es) right all = (one_served w me e right all.0, record_served w me es right all.1)

-- before any is given
pub kept_past : (head : List ℕ) (past : List Event) (journal : JournalState) (tells : Bool) (now : List DiskState) (count : ℕ)
    → (tells ≡ true → JournalStandsFor journal head past × AllOpen journal.me head past (disk_state_of now)) → JournalStands head past [] journal tells now now count count
kept_past head past journal tells now count stands = record {
  kept = λ t. record { stands = (stands t).0; images = (stands t).1; since = leaves_none (OpensSome journal.me head past []) now };
  none_failed = refl;
}

-- ---- what the tape took

-- it took the past events first
module _ (tells : Tells) (base : Outs) (taken : List ℕ) (count : ℕ) (past : List Event) (wrote : tells.tape ≡ true → taken ≡ base.taken ++ events_text past)
    (still : count ≡ base.tape_faults) where
  abbrev pub mid : Outs
  mid = record base { taken = taken; tape_faults = count }

  all_with : (now : Outs) (es : List Event) → AllWritten tells mid now es → AllWritten tells base now (es ++ past)
  all_with now es written t =
      written t ∙ (ap (λ (l : List ℕ). l ++ events_text es) (wrote t) ∙ (append_assoc base.taken (events_text past) (events_text es) ∙ ap (λ (l : List ℕ). base.taken ++ l) (sym (text_parts es past))))

  agrees_with : (now : Outs) (es : List Event) (acts : List LinkAct) → Agrees tells mid now es acts → Agrees tells base now (es ++ past) acts
  agrees_with now es acts agrees = record {
    taken = all_with now es agrees.taken;
    told = agrees.told;
    tape_stands = agrees.tape_stands ∙ still;
    link_stands = agrees.link_stands;
  }

  -- where the tape took these, it took the earlier ones or all of them
  abbrev Earlier : Outs → List Event → List Event → List Event → Type 0
  Earlier now before earlier es = AllWritten tells mid now before → AllWritten tells base now (es ++ past) ⊎ AllWritten tells base now earlier

  either_with : (now : Outs) (before earlier es : List Event) (sooner : List LinkAct) → Earlier now before earlier es
      → AllWritten tells mid now es ⊎ (AllWritten tells mid now before × NoneSent tells mid now sooner)
      → AllWritten tells base now (es ++ past) ⊎ (AllWritten tells base now earlier × NoneSent tells base now sooner)
  either_with now before earlier es sooner with_it (inl written) = inl (all_with now es written)
  either_with now before earlier es sooner with_it (inr none) = elim (with_it none.0) [
    | inl all ↦ inl all
    | inr some ↦ inr (some, none.1)
  ]

  order_with : (now : Outs) (fault : Fault) (before earlier es : List Event) (sooner : List LinkAct) → Earlier now before earlier es → InOrder tells mid now fault before es sooner
      → InOrder tells base now fault earlier (es ++ past) sooner
  order_with now faults.Tape before earlier es sooner with_it order = order
  order_with now faults.Link before earlier es sooner with_it order = either_with now before earlier es sooner with_it order
  order_with now faults.Mem before earlier es sooner with_it order = either_with now before earlier es sooner with_it order
  order_with now faults.Disk before earlier es sooner with_it order = (all_with now es order.0, order.1)
  order_with now (faults.Full x) before earlier es sooner with_it order = (all_with now es order.0, order.1)

  cause_with : (now : Outs) (fault : Fault) → HasCauses mid now fault → HasCauses base now fault
  cause_with now faults.Tape cause = (cause.0 ∙ ap count_after still, cause.1)
  cause_with now faults.Link cause = (cause.0 ∙ still, cause.1)
  cause_with now faults.Mem cause = (cause.0 ∙ still, cause.1)
  cause_with now faults.Disk cause = (cause.0 ∙ still, cause.1)
  cause_with now (faults.Full x) cause = (cause.0 ∙ still, cause.1)

  stops_with : (now : Outs) (fault : Fault) (before earlier es : List Event) (sooner news : List LinkAct) → Earlier now before earlier es
      → StopsPartway tells mid now fault before es sooner news → StopsPartway tells base now fault earlier (es ++ past) sooner news
  stops_with now fault before earlier es sooner news with_it stops = record {
    taken = λ t. front_then base.taken taken now.taken (events_text past) (events_text es) [] (events_text (es ++ past))
        (text_parts es past ∙ ap (λ (l : List ℕ). events_text past ++ l) (sym (append-nil (events_text es)))) (wrote t) (stops.taken t);
    told = stops.told;
    order = order_with now fault before earlier es sooner with_it stops.order;
    tape_later = let later = stops.tape_later in omega (arith, still, later);
    link_later = stops.link_later;
    cause = cause_with now fault stops.cause;
  }

  module _ {S E C : Type 0} (m : Meaning S E C KeyRow) (w : Setting) (numbers : List ℕ) (here : List (Replica S E C)) where
    stand_with : (s : Serving) → AreHere m w (so_far past s) numbers here → AreHere m w (so_far [] (with_past past s)) numbers here
    stand_with s stand = subst (λ (es : List Event). AreHere m w es numbers here) (sym (append-nil (so_far past s))) stand

    whole_with : (now : Outs) (s : Serving) (acts : List LinkAct) (rule reason : Want) → Whole m w past numbers here tells mid now s acts rule reason
        → Whole m w [] numbers here tells base now (with_past past s) acts rule reason
    whole_with now s acts rule reason whole = record { why = whole.why; agrees = agrees_with now s.events acts whole.agrees; stand = stand_with s whole.stand }

    ends_with : (now : Outs) (end : ServeEnd) (before earlier : List Event) (s : Serving) (sooner news : List LinkAct) (rule : Want) → Earlier now before earlier s.events
        → EndsKept m w past numbers here tells mid now end before s sooner news rule → EndsKept m w [] numbers here tells base now end earlier (with_past past s) sooner news rule
    ends_with now ends.Over before earlier s sooner news rule with_it so = whole_with now s _ rule _ so
    ends_with now ends.Done before earlier s sooner news rule with_it so = whole_with now s _ rule _ so
    ends_with now ends.Limit before earlier s sooner news rule with_it so = whole_with now s _ rule _ so
    ends_with now ends.End before earlier s sooner news rule with_it so = whole_with now s _ rule _ so
    ends_with now (ends.KeptFull x) before earlier s sooner news rule with_it so = whole_with now s _ rule _ so
    ends_with now ends.LinkFault before earlier s sooner news rule with_it so = (stops_with now faults.Link before earlier s.events sooner news with_it so.0, stand_with s so.1)
    ends_with now ends.TapeFault before earlier s sooner news rule with_it so = (stops_with now faults.Tape before earlier s.events sooner news with_it so.0, stand_with s so.1)
    ends_with now ends.Mem before earlier s sooner news rule with_it so = stops_with now faults.Mem before earlier s.events sooner news with_it so
    ends_with now ends.DiskFault before earlier s sooner news rule with_it so = (stops_with now faults.Disk before earlier s.events sooner news with_it so.0, stand_with s so.1)
    ends_with now (ends.JournalFull x) before earlier s sooner news rule with_it so =
        (stops_with now (faults.Full x) before earlier s.events sooner news with_it so.0, stand_with s so.1)

    -- before the first group the tape took the past ones alone
    earlier_then : (now : Outs) (groups : List (List Round))
        → Earlier now (before_newest w past (recovered w past) groups).events (earlier_with w past groups) (after_groups w past (recovered w past) groups).events
    earlier_then now [] written = inl (all_with now [] written)
    earlier_then now (group ∷ older) written = inr (all_with now (after_groups w past (recovered w past) older).events written)

    kept_with : (now : Moment) (groups : List (List Round)) (end : ServeEnd)
        → KeptAt now (reach tells mid now.outs (before_newest w past (recovered w past) groups).events (after_groups w past (recovered w past) groups).events (sooner w past (recovered w past) groups))
        (kept_of w past (after_groups w past (recovered w past) groups).events) (newest_kept w past (recovered w past) groups) (earlier_kept w past (recovered w past) groups) end
        → KeptAt now (reach tells base now.outs (earlier_with w past groups) (so_far past (after_groups w past (recovered w past) groups)) (sooner w past (recovered w past) groups))
        (kept_of w past (after_groups w past (recovered w past) groups).events) (newest_kept w past (recovered w past) groups) (earlier_kept w past (recovered w past) groups) end
    kept_with now groups ends.Over held = held
    kept_with now groups ends.Done held = held
    kept_with now groups ends.Limit held = held
    kept_with now groups ends.End held = held
    kept_with now groups (ends.KeptFull x) held = held
    kept_with now groups ends.TapeFault held = held
    kept_with now groups ends.DiskFault held = held
    kept_with now groups (ends.JournalFull x) held = held
    kept_with now groups ends.LinkFault (inl all) = inl (all_with now.outs (after_groups w past (recovered w past) groups).events all.0, all.1)
    kept_with now [] ends.LinkFault (inr none) = inl (all_with now.outs [] none.0.0, none.1)
    kept_with now (group ∷ older) ends.LinkFault (inr none) = inr ((all_with now.outs (after_groups w past (recovered w past) older).events none.0.0, none.0.1), none.1)
    kept_with now groups ends.Mem (inl all) = inl (all_with now.outs (after_groups w past (recovered w past) groups).events all.0, all.1)
    kept_with now [] ends.Mem (inr none) = inl (all_with now.outs [] none.0.0, inl none.1)
    kept_with now (group ∷ older) ends.Mem (inr none) = inr ((all_with now.outs (after_groups w past (recovered w past) older).events none.0.0, none.0.1), none.1)

    -- and then it was served
    pub serves_with : (now : Moment) (end : ServeEnd) (limits : Limits) → ServesKept m w past numbers here tells mid now end limits (recovered w past)
        → ServesAgain m w past numbers here tells base now end limits
    serves_with now end limits served = record {
      groups = served.groups;
      are = served.are;
      queries = served.queries;
      so = ends_with now.outs end _ _ _ _ _ _ (earlier_then now.outs served.groups) served.so;
      kept = kept_with now served.groups end served.kept;
    }

-- ---- it begins

module _ {S E C : Type 0} (m : Meaning S E C KeyRow) (w : Setting) (past : List Event) (numbers : List ℕ) (tells : Tells) where
  pub runs_again : (house : House S E C) (now : Moment) (taken : ℕ) (limits : Limits) → taken ≡ 0 → HouseStands m w past numbers house (recalled_waiting w past) (recalled_peers w past)
      → now.stands [] → Running m w past numbers house tells now.outs now taken limits (recovered w past) []
  runs_again house now taken limits none stands stood =
      subst (λ (n : ℕ). Running m w past numbers house tells now.outs now n limits (recovered w past) []) (sym none)
      (runs_first m w past numbers tells now.outs limits (recovered w past) house now refl stands (agrees_none tells now.outs) stood)

  -- memory ran out before
  pub again_short : (here : List (Replica S E C)) (now : Moment) (limits : Limits) → now.stands [] → ServesAgain m w past numbers here tells now.outs now ends.Mem limits
  again_short here now limits stood = record {
    groups = [];
    are = tt;
    queries = tt;
    so = record {
      taken = λ t. none_written now.outs.taken (events_text past);
      told = λ t. back_none now.outs.told [];
      order = inr (nothing now, λ t. refl);
      tape_later = omega arith;
      link_later = omega arith;
      cause = (refl, inl refl);
    };
    kept = inr ((nothing now, λ t. refl), stood);
  }
    where
      nothing : (now : Moment) → AllWritten tells now.outs now.outs []
      nothing now t = sym (append-nil now.outs.taken)

  -- the tape failed over the past events
  pub again_unwritten : (here : List (Replica S E C)) (base : Outs) (now : Moment) (limits : Limits) → AreHere m w past numbers here → now.stands []
      → (tells.tape ≡ true → TookFront base.taken now.outs.taken (events_text past)) → now.outs.tape_faults ≡ count_after base.tape_faults → base.tape_faults ≤ now.outs.tape_faults
      → now.outs.told ≡ base.told → now.outs.link_faults ≡ base.link_faults → ServesAgain m w past numbers here tells base now ends.TapeFault limits
  again_unwritten here base now limits stand stood front rises later told faults_are = record {
    groups = [];
    are = tt;
    queries = tt;
    so = (
      record {
        taken = front;
        told = λ t. rw told (back_none base.told []);
        order = λ t. told;
        tape_later = later;
        link_later = omega (arith, ap (λ (n : _). n.failed) faults_are);
        cause = (rises, faults_are);
      },
      subst (λ (es : List Event). AreHere m w es numbers here) (sym (append-nil past)) stand,
    );
    kept = stood;
  }
