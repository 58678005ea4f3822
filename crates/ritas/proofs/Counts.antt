-- Counts of faults, by how a call ended.
use Rattle.std.proofs.Common.{◌≡◌, ◌≢◌, ◌+◌, ◌<◌, ◌≤◌, ℕ, List, length, Err, refl, ap, inl, inr, arith}
use Rattle.std.specs.Prelude.{◌⊎◌, ◌↔◌, Bool}
use Rattle.outside.specs.Faults.{count_after}
use Rattle.outside.specs.Links.{failed_once, short_once}
use Rattle.outside.specs.Wholes.{read_faults_after}
use Rattle.outside.specs.declared.link.FaultCounts.{FaultCounts}
use Rattle.outside.specs.declared.whole.ReadFault.{ReadFault}
use Rattle.outside.specs.declared.whole.ReadFault.TheVariants as read_faults
use Rattle.request_submit.specs.declared.end.SubmitEnd.{SubmitEnd}
use Rattle.request_submit.specs.declared.end.SubmitEnd.TheVariants as submit_ends
use Rattle.request_submit.specs.Submitting.{HasSubmitCause}
use Rattle.log_watch.specs.declared.end.WatchEnd.{WatchEnd}
use Rattle.log_watch.specs.declared.end.WatchEnd.TheVariants as watch_ends
use Rattle.log_watch.specs.Watching.{HasWatchCause}
use Rattle.schedule_replay.specs.Replay.{CountsIf}
use Rattle.ritas.specs.Run.{LinkCounts}
use Rattle.ritas.specs.Configs.{RefusesText, TakesText}
use Rattle.ritas.specs.Statuses.{text_limit}

-- ---- one count

pub none_failed : {F : Type 0} (x y : ℕ) → ¬ F → y ≡ x → CountsIf x y F
none_failed x y not same = record { rises = λ f. absurd (not f); stands = λ _. same }

pub one_failed : {F : Type 0} (x y : ℕ) → F → y ≡ count_after x → CountsIf x y F
one_failed x y is more = record { rises = λ _. more; stands = λ not. absurd (not is) }

-- ---- those of a link

pub link_stood : (x y : FaultCounts) (status : ℕ) → status ≢ 6 → y ≡ x → LinkCounts x y status
link_stood x y status other same = record {
  failed = none_failed x.failed y.failed other (ap (λ (n : FaultCounts). n.failed) same);
  short = inl (ap (λ (n : FaultCounts). n.short) same);
}

pub link_failed : (x y : FaultCounts) (status : ℕ) → status ≡ 6 → y ≡ failed_once x → LinkCounts x y status
link_failed x y status six more = record {
  failed = one_failed x.failed y.failed six (ap (λ (n : FaultCounts). n.failed) more);
  short = inl (ap (λ (n : FaultCounts). n.short) more);
}

pub link_short : (x y : FaultCounts) (status : ℕ) → status ≡ 8 → (y ≡ x) ⊎ (y ≡ short_once x) → LinkCounts x y status
link_short x y status eight (inl same) = link_stood x y status (λ six. omega (arith, eight, six)) same
link_short x y status eight (inr more) = record {
  failed = none_failed x.failed y.failed (λ six. omega (arith, eight, six)) (ap (λ (n : FaultCounts). n.failed) more);
  short = inr (eight, ap (λ (n : FaultCounts). n.short) more);
}

-- those of a request that was handed in
pub submit_counts : (x y : FaultCounts) (status : ℕ) (end : SubmitEnd) → (status ≡ 6) ↔ (end ≡ submit_ends.LinkFault) → (end ≡ submit_ends.Mem → status ≡ 8) → HasSubmitCause x y end
    → LinkCounts x y status
submit_counts x y status (submit_ends.Position position) six eight cause = link_stood x y status (λ e. let same = six.0 e in cc) cause
submit_counts x y status submit_ends.NoPosition six eight cause = link_stood x y status (λ e. let same = six.0 e in cc) cause
submit_counts x y status submit_ends.LinkFault six eight cause = link_failed x y status (six.1 refl) cause
submit_counts x y status submit_ends.Mem six eight cause = link_short x y status (eight refl) cause

-- those of a log that was watched
pub watch_counts : (x y : FaultCounts) (status : ℕ) (end : WatchEnd) → (status ≡ 6) ↔ (end ≡ watch_ends.LinkFault) → (end ≡ watch_ends.Mem → status ≡ 8) → HasWatchCause x y end
    → LinkCounts x y status
watch_counts x y status watch_ends.Rows six eight cause = link_stood x y status (λ e. let same = six.0 e in cc) cause
watch_counts x y status watch_ends.End six eight cause = link_stood x y status (λ e. let same = six.0 e in cc) cause
watch_counts x y status watch_ends.LinkFault six eight cause = link_failed x y status (six.1 refl) cause
watch_counts x y status watch_ends.Mem six eight cause = link_short x y status (eight refl) cause

-- ---- an input that has a text

-- the text wasn't read whole
pub text_counts : (x y status : ℕ) (fault : ReadFault) → (status ≡ 4) ↔ (fault ≡ read_faults.Failed) → y ≡ read_faults_after {A = Unit {0}} x (Err fault) → CountsIf x y (status ≡ 4)
text_counts x y status read_faults.TooLong four is = none_failed x y (λ e. let same = four.0 e in cc) is
text_counts x y status read_faults.Failed four is = one_failed x y (four.1 refl) is
text_counts x y status read_faults.Mem four is = none_failed x y (λ e. let same = four.0 e in cc) is

pub text_taken : {K : Type 0} (tells : Bool) (taken : K → List ℕ) (old new : K) (status : ℕ) (before after : List ℕ) (fault : ReadFault)
    → (fault ≢ read_faults.Failed → fault ≢ read_faults.Mem → fault ≡ read_faults.TooLong → text_limit < length before) → RefusesText tells taken old new status fault
    → length before ≤ length after + text_limit + 1 → TakesText before after status
unfolding text_limit
text_taken tells taken old new status before after read_faults.TooLong over refuses most = record {
  most = most;
  all = λ within four eight. absurd (omega (arith, within, over (λ e. cc) (λ e. cc) refl));
}
text_taken tells taken old new status before after read_faults.Failed over refuses most = record { most = most; all = λ within four eight. absurd (four refuses.0) }
text_taken tells taken old new status before after read_faults.Mem over refuses most = record { most = most; all = λ within four eight. absurd (eight refuses.0) }
