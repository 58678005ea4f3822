-- How a call ends where reading met a fault, which writes nothing.
use Rattle.std.proofs.Common.{◌≡◌, ◌≢◌, ◌⊎◌, ℕ, Bool, false, List, [], Result, Ok, Err, refl, sym, ◌∙◌, inl, inr, arith}
use Rattle.std.proofs.lemmas.List.{append-nil}
use Rattle.ritas_base.specs.declared.event.Event.{Event}
use Rattle.schedule_file.specs.declared.fault.FileFault.{FileFault}
use Rattle.schedule_file.specs.declared.fault.FileFault.TheVariants as faults
use Rattle.schedule_file.specs.declared.header.Header.{Header}
use Rattle.schedule_file.specs.FileBytes.{is_outside, Fails}
use Rattle.schedule_file.specs.SourceFaults.{file_faults_after}
use Rattle.world_model.specs.declared.audit.Audit.{Audit}
use Rattle.world_model.specs.Audit.{audit_of}
use Rattle.world_model.specs.World.{Setting}
use Rattle.schedule_replay.specs.declared.end.ReplayEnd.TheVariants as ends
use Rattle.ritas_base.specs.declared.what.What.{What}
use Rattle.schedule_replay.specs.Replay.{text_on, end_at_fault, IsReplayEndOf, IsEndAt, CountsIf, ReplayEnded, ShowsWorld}

-- a fault is of the source, or of memory, or of the file
kinds : (fault : FileFault) → (fault ≡ faults.Read) ⊎ ((fault ≡ faults.Mem) ⊎ ((is_outside fault ≡ false) × (end_at_fault fault ≡ ends.File fault)))
kinds faults.Magic = inr (inr (refl, refl))
kinds faults.Version = inr (inr (refl, refl))
kinds (faults.Header p) = inr (inr (refl, refl))
kinds (faults.Event p) = inr (inr (refl, refl))
kinds (faults.Truncated p) = inr (inr (refl, refl))
kinds (faults.Trailing p) = inr (inr (refl, refl))
kinds faults.TooLong = inr (inr (refl, refl))
kinds faults.Read = inl refl
kinds faults.Mem = inr (inl refl)

-- a world's bytes have no fault
pub end_of_world : {Y : Type 0} (fault : FileFault) (read : Result Y FileFault) (y : Y) (audit : Audit) → Fails fault read → read ≡ Ok y → IsReplayEndOf audit (end_at_fault fault)
end_of_world fault read y audit fails ok =
    elim (kinds fault) [
      | inl e ↦ rw e refl
      | inr (inl e) ↦ rw e tt
      | inr (inr own) ↦ absurd (let both = sym (fails own.0) ∙ ok in cc)
    ]

-- bytes have one fault
pub end_of_bytes : {Y : Type 0} (fault : FileFault) (read : Result Y FileFault) (e : FileFault) → Fails fault read → read ≡ Err e → IsEndAt e (end_at_fault fault)
end_of_bytes fault read e fails err =
    elim (kinds fault) [
      | inl is ↦ rw is (inr refl)
      | inr (inl is) ↦ rw is tt
      | inr (inr own) ↦ rw own.1 (inl (let both = sym (fails own.0) ∙ err in cc))
    ]

end_file : (fault e : FileFault) → end_at_fault fault ≡ ends.File e → (fault ≡ e) × (e ≢ faults.Mem)
end_file fault e file =
    elim (kinds fault) [
      | inl is ↦ let same = rw is at file in ((cc), λ m. cc)
      | inr (inl is) ↦ let same = rw is at file in absurd cc
      | inr (inr own) ↦ let same = sym own.1 ∙ file in ((cc), λ m. cc)
    ]

-- nothing was written
pub never_written : (fault : FileFault) → (end_at_fault fault ≢ ends.Write) × ((a : Audit) → end_at_fault fault ≢ ends.Done a)
never_written fault =
    elim (kinds fault) [
      | inl is ↦ rw is ((λ e. cc), λ a e. cc)
      | inr (inl is) ↦ rw is ((λ e. cc), λ a e. cc)
      | inr (inr own) ↦ rw own.1 ((λ e. cc), λ a e. cc)
    ]

-- of the source one call failed just at its own fault
read_fails : (x y : ℕ) (fault : FileFault) → y ≡ file_faults_after {A = Unit {0}} x (Err fault) → CountsIf x y (end_at_fault fault ≡ ends.File faults.Read)
read_fails x y faults.Read is = record { rises = λ _. is; stands = λ not. absurd (not refl) }
read_fails x y faults.Magic is = record { rises = λ e. absurd cc; stands = λ _. is }
read_fails x y faults.Version is = record { rises = λ e. absurd cc; stands = λ _. is }
read_fails x y (faults.Header p) is = record { rises = λ e. absurd cc; stands = λ _. is }
read_fails x y (faults.Event p) is = record { rises = λ e. absurd cc; stands = λ _. is }
read_fails x y (faults.Truncated p) is = record { rises = λ e. absurd cc; stands = λ _. is }
read_fails x y (faults.Trailing p) is = record { rises = λ e. absurd cc; stands = λ _. is }
read_fails x y faults.TooLong is = record { rises = λ e. absurd cc; stands = λ _. is }
read_fails x y faults.Mem is = record { rises = λ e. absurd cc; stands = λ _. is }

-- no call failed
pub none_failed : {F : Type 0} (x y : ℕ) → (F → ⊥) → y ≡ x → CountsIf x y F
none_failed x y not same = record { rises = λ f. absurd (not f); stands = λ _. same }

pub ended_at : {S K : Type 0} (source_faults : S → ℕ) (before after : S) (sink_faults : K → ℕ) (k : K) (what : What) (fault : FileFault)
    → source_faults after ≡ file_faults_after {A = Unit {0}} (source_faults before) (Err fault) → ReplayEnded source_faults before after sink_faults k k what (end_at_fault fault)
ended_at source_faults before after sink_faults k what fault counts = record {
  source = read_fails (source_faults before) (source_faults after) fault counts;
  sink = none_failed (sink_faults k) (sink_faults k) (never_written fault).0 refl;
  own = λ e. (end_file fault faults.Mem e).1 refl;
  unread = λ e file. refl;
  wanting = λ report mem. refl;
}

pub shows_nothing : {K : Type 0} (tells : Bool) (taken : K → List ℕ) (k : K) (what : What) (fault : FileFault) (h : Header) (w : Setting) (es : List Event)
    → IsReplayEndOf (audit_of w es) (end_at_fault fault) → ShowsWorld tells taken k k what (end_at_fault fault) h w es
shows_nothing tells taken k what fault h w es is = record {
  answer = is;
  whole = λ tells a e. absurd ((never_written fault).1 a e);
  front = λ tells. record { front = []; rest = text_on what h w es; parts = refl; taken = sym (append-nil (taken k)) };
  agree = λ e. absurd ((never_written fault).1 _ e);
  vectors = λ asked e. absurd ((never_written fault).1 _ e);
}
