-- Why a journal couldn't be opened.
use Rattle.std.proofs.Common.{◌≡◌, ℕ, ◌+◌, ◌<◌, ◌≤◌, ◌^◌, ◌==◌, true, List, length, Result, Err, sym, ap, ◌∙◌, subst}
use Rattle.std.proofs.lemmas.Nat.Bits.{bit_at-pow_same}
use Rattle.outside.specs.Disks.{LeavesOnly, disk_state_of}
use Rattle.outside.specs.Faults.{CountsFault}
use Rattle.ritas_base.specs.Members.{has_member}
use Rattle.schedule_file.specs.FileBytes.{limit}
use Rattle.cluster_config.specs.declared.node.NodeConfig.{NodeConfig}
use Rattle.event_journal.specs.Reading.{IsBroken, IsForeign, OpensAsKept}
use Rattle.event_journal.specs.declared.fault.JournalFault.{JournalFault}
use Rattle.event_journal.specs.declared.fault.JournalFault.TheVariants as faults
use Rattle.node_session.specs.Lives.{DiskSeen, IsFaultOf, Unopened, head_in}

-- what the call that opens says, of the fault that it answered
pub unopened : {A : Type 0} (config : NodeConfig) (head : List ℕ) (d : DiskSeen) (result : Result A JournalFault) (fault : JournalFault) → result ≡ Err fault → head ≡ head_in config
    → (d.tells ≡ true → LeavesOnly (OpensAsKept config.me head (disk_state_of d.before)) d.before d.now)
    → (d.tells ≡ true → (p : ℕ) → result ≡ Err (faults.Foreign p) → IsForeign head (disk_state_of d.before).seen p)
    → (d.tells ≡ true → (p : ℕ) → result ≡ Err (faults.Broken p) → IsBroken config.me head (disk_state_of d.before).seen p)
    → ((x : ℕ) → result ≡ Err (faults.Full x) → (x ≡ limit + 1) × (d.tells ≡ true → limit < length (disk_state_of d.before).seen))
    → d.few ≤ d.many → CountsFault d.few d.many result (result ≡ Err faults.Disk) → Unopened config d fault
unopened config head d result fault is named since foreign broken full later counts = record {
  cause = by_fault fault is;
  since = λ t. subst (λ (h : List ℕ). LeavesOnly (OpensAsKept config.me h (disk_state_of d.before)) d.before d.now) named (since t);
  later = later;
  none_failed = λ other. counts.others (λ failed. let same : Err fault ≡ Err faults.Disk = sym is ∙ failed in other (cc same));
}
  where
    by_fault : (e : JournalFault) → result ≡ Err e → IsFaultOf config.me (head_in config) d e
    by_fault (faults.Foreign p) same = λ t. subst (λ (h : List ℕ). IsForeign h (disk_state_of d.before).seen p) named (foreign t p same)
    by_fault (faults.Broken p) same = λ t. subst (λ (h : List ℕ). IsBroken config.me h (disk_state_of d.before).seen p) named (broken t p same)
    by_fault (faults.Full x) same = full x same
    by_fault faults.Disk same = counts.rises same
    by_fault faults.Mem same = tt

-- a replica is the one of its own mask
pub own_member : (me : ℕ) → has_member (2 ^ me) me ≡ true
unfolding has_member
own_member me = ap (λ (x : ℕ). x == 1) (bit_at-pow_same me)
