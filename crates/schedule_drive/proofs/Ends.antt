-- How writing what came of a plan's schedule ends.
use Rattle.std.proofs.Common.{◌≡◌, ◌≢◌, ℕ, Bool, true, List, [], ◌∷◌, ◌++◌, Some, None, refl, sym, ◌∙◌, ap, inl, inr, arith}
use Rattle.std.proofs.lemmas.List.{append-nil}
use Rattle.std.specs.Prelude.{◌⊎◌}
use Rattle.outside.specs.Writing.{TookFront}
use Rattle.ritas_base.specs.declared.plan.Plan.{Plan}
use Rattle.ritas_base.specs.declared.what.What.TheVariants as whats
use Rattle.ritas_base.specs.declared.what.DriveWhat.{DriveWhat}
use Rattle.ritas_base.specs.declared.what.DriveWhat.TheVariants as drives
use Rattle.schedule_file.specs.declared.fault.FileFault.{FileFault}
use Rattle.schedule_file.specs.ReadHeader.{heading}
use Rattle.schedule_file.specs.Spelling.{FrontOf}
use Rattle.schedule_file.specs.SpellingLaws.{file_ends}
use Rattle.schedule_replay.specs.declared.end.ReplayEnd.{ReplayEnd}
use Rattle.schedule_replay.specs.declared.end.ReplayEnd.TheVariants as replay_ends
use Rattle.schedule_replay.specs.Replay.{CountsIf, ShowsWorld}
use Rattle.world_model.specs.declared.audit.Audit.{Audit}
use Rattle.world_model.specs.declared.audit.Audit.TheVariants.{Holds, Collision}
use Rattle.world_model.specs.Agree.{Agree}
use Rattle.world_model.specs.Audit.{audit_of}
use Rattle.world_model.specs.Forging.{ForgesNothing}
use Rattle.world_model.specs.World.{Setting}
use Rattle.schedule_plan.specs.Plans.{header_of}
use Rattle.schedule_plan.specs.Schedule.{schedule, limit_met}
use Rattle.schedule_drive.specs.declared.end.DriveEnd.TheVariants as ends
use Rattle.schedule_stage.specs.declared.halt.Halt.{Halt}
use Rattle.schedule_stage.specs.declared.halt.Halt.TheVariants as halts
use Rattle.schedule_stage.specs.Worlds.{HaltsBy}
use Rattle.schedule_drive.specs.Drive.{events_in, text_in, end_at_halt, drive_end_of, DriveEnded, ShowsIn}

-- nothing in a plan's schedule is forged
pub record IsUnforged (w : Setting) (p : Plan) : Type 0 where
  pub law : ForgesNothing w (events_in w p)
  pub audit : (audit_of w (events_in w p) ≡ Holds) ⊎ ((k : ℕ) × (audit_of w (events_in w p) ≡ Collision k))

-- its audit, and the one that was answered
either : (w : Setting) (p : Plan) → IsUnforged w p → (a : Audit) → a ≡ audit_of w (events_in w p) → (a ≡ Holds) ⊎ ((k : ℕ) × (a ≡ Collision k))
either w p unforged a same = elim unforged.audit [ inl holds ↦ inl (same ∙ holds) | inr x ↦ inr (x.0, same ∙ x.1) ]

same_end : (a b : Audit) → ends.Done a ≡ ends.Done b → a ≡ b
same_end a b e = cc

-- a front of a text that nothing was written of
pub no_front : {K : Type 0} (taken : K → List ℕ) (old new : K) (text : List ℕ) → new ≡ old → TookFront (taken old) (taken new) text
no_front taken old new text same = record { front = []; rest = text; parts = refl; taken = ap taken same ∙ sym (append-nil (taken old)) }

-- ---- reports

module _ {K : Type 0} (tells : Bool) (taken : K → List ℕ) (old new : K) (w : Setting) (p : Plan) (unforged : IsUnforged w p) where
  pub report_shows : limit_met w p (schedule w p) ≡ None → (end : ReplayEnd) → ((e : FileFault) → end ≢ replay_ends.File e)
      → ShowsWorld tells taken old new whats.Report end (header_of p) w (events_in w p)
      → ShowsIn tells taken old new drives.Report (drive_end_of end) w p
  report_shows none (replay_ends.Done a) own shows = record {
    done = λ b e. (none, sym (same_end a b e) ∙ shows.answer);
    limit = λ x e. absurd cc;
    write = λ e. absurd cc;
    whole = λ told b e. shows.whole told a refl;
    front = shows.front;
    unforged = unforged.law;
    audit = λ b e. either w p unforged b (sym (same_end a b e) ∙ shows.answer);
    agree = λ e. shows.agree (ap replay_ends.Done (same_end a Holds e));
  }
  report_shows none (replay_ends.File fault) own shows = absurd (own fault refl)
  report_shows none replay_ends.Write own shows = record {
    done = λ b e. absurd cc;
    limit = λ x e. absurd cc;
    write = λ e. none;
    whole = λ told b e. absurd cc;
    front = shows.front;
    unforged = unforged.law;
    audit = λ b e. absurd cc;
    agree = λ e. absurd cc;
  }
  report_shows none replay_ends.Mem own shows = record {
    done = λ b e. absurd cc;
    limit = λ x e. absurd cc;
    write = λ e. absurd cc;
    whole = λ told b e. absurd cc;
    front = shows.front;
    unforged = unforged.law;
    audit = λ b e. absurd cc;
    agree = λ e. absurd cc;
  }

  -- nothing was written: a limit is passed, or memory ran out
  limit_shows : (what : DriveWhat) (x : ℕ) → new ≡ old → limit_met w p (schedule w p) ≡ Some x → ShowsIn tells taken old new what (ends.Limit x) w p
  limit_shows what x same met = record {
    done = λ b e. absurd cc;
    limit = λ y e. met ∙ ap Some (let same : ends.Limit x ≡ ends.Limit y = e in cc);
    write = λ e. absurd cc;
    whole = λ told b e. absurd cc;
    front = λ told. no_front taken old new (text_in what w p (events_in w p)) same;
    unforged = unforged.law;
    audit = λ b e. absurd cc;
    agree = λ e. absurd cc;
  }

  nothing_shows : (what : DriveWhat) → new ≡ old → ShowsIn tells taken old new what ends.Mem w p
  nothing_shows what same = record {
    done = λ b e. absurd cc;
    limit = λ y e. absurd cc;
    write = λ e. absurd cc;
    whole = λ told b e. absurd cc;
    front = λ told. no_front taken old new (text_in what w p (events_in w p)) same;
    unforged = unforged.law;
    audit = λ b e. absurd cc;
    agree = λ e. absurd cc;
  }

  pub halt_shows : (what : DriveWhat) (halt : Halt) → new ≡ old → HaltsBy w p (schedule w p) halt → ShowsIn tells taken old new what (end_at_halt halt) w p
  halt_shows what (halts.Limit x) same met = limit_shows what x same met
  halt_shows what halts.Mem same met = nothing_shows what same

  -- ---- files

  -- what is written is the file
  pub is_file : (file : List ℕ) → file ≡ FrontOf (heading (header_of p)) (events_in w p) → file ++ 0 ∷ [] ≡ text_in drives.Schedule w p (events_in w p)
  is_file file kept = ap (λ (t : List ℕ). t ++ 0 ∷ []) kept ∙ sym (file_ends (heading (header_of p)) (events_in w p))

  pub file_shows : limit_met w p (schedule w p) ≡ None → (a : Audit) → a ≡ audit_of w (events_in w p) → (a ≡ Holds → Agree w (events_in w p))
      → (tells ≡ true → taken new ≡ taken old ++ text_in drives.Schedule w p (events_in w p))
      → (tells ≡ true → TookFront (taken old) (taken new) (text_in drives.Schedule w p (events_in w p)))
      → ShowsIn tells taken old new drives.Schedule (ends.Done a) w p
  file_shows none a is agree whole front = record {
    done = λ b e. (none, sym (same_end a b e) ∙ is);
    limit = λ x e. absurd cc;
    write = λ e. absurd cc;
    whole = λ told b e. whole told;
    front = front;
    unforged = unforged.law;
    audit = λ b e. either w p unforged b (sym (same_end a b e) ∙ is);
    agree = λ e. agree (same_end a Holds e);
  }

  pub file_cut : limit_met w p (schedule w p) ≡ None → (tells ≡ true → TookFront (taken old) (taken new) (text_in drives.Schedule w p (events_in w p)))
      → ShowsIn tells taken old new drives.Schedule ends.Write w p
  file_cut none front = record {
    done = λ b e. absurd cc;
    limit = λ x e. absurd cc;
    write = λ e. none;
    whole = λ told b e. absurd cc;
    front = front;
    unforged = unforged.law;
    audit = λ b e. absurd cc;
    agree = λ e. absurd cc;
  }

-- ---- every sink

none_failed : {F : Type 0} (x y : ℕ) → (F → ⊥) → y ≡ x → CountsIf x y F
none_failed x y not same = record { rises = λ f. absurd (not f); stands = λ _. same }

pub report_ended : {K : Type 0} (faults : K → ℕ) (old new : K) (end : ReplayEnd) → ((e : FileFault) → end ≢ replay_ends.File e)
    → CountsIf (faults old) (faults new) (end ≡ replay_ends.Write) → (end ≡ replay_ends.Mem → new ≡ old) → DriveEnded faults old new (drive_end_of end)
report_ended faults old new (replay_ends.Done a) own counts memory = record {
  counts = none_failed (faults old) (faults new) (λ e. cc) (counts.stands (λ e. cc));
  limit = λ x e. absurd cc;
  wanting = λ e. absurd cc;
}
report_ended faults old new (replay_ends.File fault) own counts memory = absurd (own fault refl)
report_ended faults old new replay_ends.Write own counts memory = record {
  counts = record { rises = λ _. counts.rises refl; stands = λ not. absurd (not refl) };
  limit = λ x e. absurd cc;
  wanting = λ e. absurd cc;
}
report_ended faults old new replay_ends.Mem own counts memory = record {
  counts = none_failed (faults old) (faults new) (λ e. cc) (counts.stands (λ e. cc));
  limit = λ x e. absurd cc;
  wanting = λ e. memory refl;
}

pub halt_ended : {K : Type 0} (faults : K → ℕ) (old new : K) (halt : Halt) → new ≡ old → DriveEnded faults old new (end_at_halt halt)
halt_ended faults old new (halts.Limit x) same = record {
  counts = none_failed (faults old) (faults new) (λ e. cc) (ap faults same);
  limit = λ y e. same;
  wanting = λ e. absurd cc;
}
halt_ended faults old new halts.Mem same = record {
  counts = none_failed (faults old) (faults new) (λ e. cc) (ap faults same);
  limit = λ y e. absurd cc;
  wanting = λ e. same;
}
