-- The count of a disk's failed calls, by how a session ended.
use Rattle.std.proofs.Common.{◌≡◌, ℕ, List, Result, Ok, Err, refl, sym, ◌∙◌, inl, inr}
use Rattle.std.specs.Prelude.{IsErr, IfErr}
use Rattle.ritas_base.specs.declared.event.Event.{Event}
use Rattle.outside.specs.declared.link.LinkItem.{LinkItem}
use Rattle.world_model.specs.World.{Setting}
use Rattle.schedule_replay.proofs.Ending.{none_failed}
use Rattle.schedule_replay.specs.Replay.{CountsIf}
use Rattle.cluster_config.specs.declared.node.NodeConfig.{NodeConfig}
use Rattle.event_journal.specs.declared.fault.JournalFault.{JournalFault}
use Rattle.event_journal.specs.declared.fault.JournalFault.TheVariants as journal_faults
use Rattle.node_loop.specs.declared.end.ServeEnd.{ServeEnd}
use Rattle.node_loop.specs.declared.end.ServeEnd.TheVariants as ends
use Rattle.node_loop.specs.Archives.{Reach, moment}
use Rattle.node_loop.specs.Outs.{Outs, Tells}
use Rattle.node_session.specs.Lives.{DiskBreaks, DiskKeeps, DiskSeen, IsFaultOf, HasDiskFailed, LifeKept, ServesNode, Unopened, head_in}
use Rattle.node_session.specs.Session.{ServesSession}
use Rattle.node_session.specs.declared.session.Session.{Session}

served_otherwise : (end : ServeEnd) → ¬ (end ≡ ends.DiskFault) → ¬ HasDiskFailed (Ok end)
served_otherwise end other (inl is) = other (cc is)
served_otherwise end other (inr is) = absurd (cc is)

-- at any other end none did
pub stood : (few many : ℕ) (end : ServeEnd) → ¬ (end ≡ ends.DiskFault) → many ≡ few → CountsIf few many (HasDiskFailed (Ok end))
stood few many end other same = none_failed few many (served_otherwise end other) same

kept_counts : (me : ℕ) (head : List ℕ) (past : List Event) (outs : Outs) (d : DiskSeen) (far : Reach) (kept group older : List Event) (end : ServeEnd)
    → LifeKept (moment outs (DiskKeeps me head past d) (DiskBreaks me head past d)) far kept group older end → CountsIf d.few d.many (HasDiskFailed (Ok end))
kept_counts me head past outs d far kept group older ends.Over held = stood _ _ _ (λ e. cc e) held.none_failed
kept_counts me head past outs d far kept group older ends.Done held = stood _ _ _ (λ e. cc e) held.none_failed
kept_counts me head past outs d far kept group older ends.Limit held = stood _ _ _ (λ e. cc e) held.none_failed
kept_counts me head past outs d far kept group older ends.End held = stood _ _ _ (λ e. cc e) held.none_failed
kept_counts me head past outs d far kept group older (ends.KeptFull x) held = stood _ _ _ (λ e. cc e) held.none_failed
kept_counts me head past outs d far kept group older ends.LinkFault (inl held) = stood _ _ _ (λ e. cc e) held.1.none_failed
kept_counts me head past outs d far kept group older ends.LinkFault (inr held) = stood _ _ _ (λ e. cc e) held.1.none_failed
kept_counts me head past outs d far kept group older ends.TapeFault (inl held) = stood _ _ _ (λ e. cc e) held.none_failed
kept_counts me head past outs d far kept group older ends.TapeFault (inr held) = stood _ _ _ (λ e. cc e) held.1.none_failed
kept_counts me head past outs d far kept group older ends.Mem (inl (written, inl held)) = stood _ _ _ (λ e. cc e) held.none_failed
kept_counts me head past outs d far kept group older ends.Mem (inl (written, inr held)) = stood _ _ _ (λ e. cc e) (held.1.none_failed (λ e. cc e))
kept_counts me head past outs d far kept group older ends.Mem (inr held) = stood _ _ _ (λ e. cc e) held.1.none_failed
kept_counts me head past outs d far kept group older ends.DiskFault held = record { rises = λ _. held.one_failed refl; stands = λ not. absurd (not (inl refl)) }
kept_counts me head past outs d far kept group older (ends.JournalFull x) held = stood _ _ _ (λ e. cc e) (held.none_failed (λ e. cc e))

pub node_counts : (config : NodeConfig) (tells : Tells) (base now : Outs) (d : DiskSeen) (end : ServeEnd) → ServesNode config tells base now d end
    → CountsIf d.few d.many (HasDiskFailed (Ok end))
node_counts config tells base now d end serves = kept_counts config.me (head_in config) serves.past now d _ _ _ _ end serves.life.kept

-- and where it couldn't be opened
pub unopened_counts : (config : NodeConfig) (d : DiskSeen) (fault : JournalFault) → Unopened config d fault → CountsIf d.few d.many (HasDiskFailed (Err fault))
unopened_counts config d fault unopened = by_fault fault unopened.cause unopened.none_failed
  where
    other : (e : JournalFault) → ¬ (e ≡ journal_faults.Disk) → ¬ HasDiskFailed (Err e)
    other e not (inl is) = absurd (cc is)
    other e not (inr is) = not (cc is)

    by_fault : (e : JournalFault) → IsFaultOf config.me (head_in config) d e → (¬ (e ≡ journal_faults.Disk) → d.many ≡ d.few) → CountsIf d.few d.many (HasDiskFailed (Err e))
    by_fault journal_faults.Disk cause none = record { rises = λ _. cause; stands = λ not. absurd (not (inr refl)) }
    by_fault (journal_faults.Foreign p) cause none = none_failed _ _ (other (journal_faults.Foreign p) (λ e. cc e)) (none (λ e. cc e))
    by_fault (journal_faults.Broken p) cause none = none_failed _ _ (other (journal_faults.Broken p) (λ e. cc e)) (none (λ e. cc e))
    by_fault (journal_faults.Full x) cause none = none_failed _ _ (other (journal_faults.Full x) (λ e. cc e)) (none (λ e. cc e))
    by_fault journal_faults.Mem cause none = none_failed _ _ (other journal_faults.Mem (λ e. cc e)) (none (λ e. cc e))

-- so it is of an answer that is one of these
pub refused_counts : (config : NodeConfig) (d : DiskSeen) (P Q : Type 0) (result : Result ServeEnd JournalFault) → IsErr result → IfErr result (λ fault. Unopened config d fault × P × Q)
    → CountsIf d.few d.many (HasDiskFailed result)
refused_counts config d P Q (Ok end) failed unopened = absurd cc
refused_counts config d P Q (Err fault) failed unopened = unopened_counts config d fault unopened.0

-- ---- a session without a journal

-- no disk is its cause
unkept : (session : Session) (first : List LinkItem) (w : Setting) (tells : Tells) (base now : Outs) (end : ServeEnd) → ServesSession session first w tells base now end → ¬ (end ≡ ends.DiskFault)
unkept session first w tells base now ends.DiskFault serves is = absurd serves.so
unkept session first w tells base now end serves is = absurd (cc is)

pub session_counts : (few many : ℕ) (session : Session) (first : List LinkItem) (w : Setting) (tells : Tells) (base now : Outs) (end : ServeEnd) → many ≡ few
    → ServesSession session first w tells base now end → CountsIf few many (HasDiskFailed (Ok end))
session_counts few many session first w tells base now end same serves = stood few many end (unkept session first w tells base now end serves) same

-- memory ran out before it began
pub short_counts : (few many : ℕ) (result : Result ServeEnd JournalFault) → result ≡ Err journal_faults.Mem → many ≡ few → CountsIf few many (HasDiskFailed result)
short_counts few many result is same = none_failed few many (λ failed. not failed) same
  where
    not : HasDiskFailed result → ⊥
    not (inl served) = absurd (let both : Err journal_faults.Mem ≡ Ok ends.DiskFault = sym is ∙ served in cc both)
    not (inr opened) = absurd (let both : Err journal_faults.Mem ≡ Err journal_faults.Disk = sym is ∙ opened in cc both)
