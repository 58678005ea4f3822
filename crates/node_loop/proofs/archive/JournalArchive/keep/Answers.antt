use Rattle.std.proofs.Common.{reverse, Err, ap, refl, sym, ◌∙◌, subst}
use Rattle.event_journal.specs.Appending.{JournalState}
use Rattle.node_loop.specs.declared.archive.ArchiveFault.TheVariants as archive
use Rattle.node_loop.specs.Journals.{JournalFails, head_named}
use Rattle.node_loop.proofs.Journaling.{stands_on, fails_so, fails_full, fails_untaken}
use Rattle.node_loop.proofs.archive.JournalArchive.keep.Goals as goal

pub append_all-requires-clause-own : goal.append_all-requires-clause-own
append_all-requires-clause-own g c = (c.if-not-takes_all.ensures.takes refl).1

pub append_all-requires-clause-live : goal.append_all-requires-clause-live
append_all-requires-clause-live g c = (c.if-not-takes_all.ensures.takes refl).0

pub returns-then-not-takes_all : goal.returns-then-not-takes_all
returns-then-not-takes_all g c = record {
  keeps = λ name before past given stands. (stands.0, fails_untaken (head_named name) past given (reverse c.args.events.now) _ _ _ _ _ c.args.self.now stands.1);
}

pub returns-in-Ok : goal.returns-in-Ok
returns-in-Ok g c = record {
  keeps = λ name before past given stands. (
    c.in-Ok.ensures.me ∙ stands.0,
    stands_on (head_named name) past given (reverse c.args.events.now) _ _ _ _ _ c.args.self.now stands.1 c.append_all.new.self _ _ c.in-Ok.ensures.me c.in-Ok.ensures.counts.stands c.in-Ok.ensures.kept,
  );
}

pub returns-in-Err-Disk : goal.returns-in-Err-Disk
returns-in-Err-Disk g c = record {
  keeps = λ name before past given stands. (
    c.in-Err-Disk.ensures.me ∙ stands.0,
    fails_so (head_named name) past given (reverse c.args.events.now) _ _ _ _ _ c.args.self.now stands.1 c.append_all.new.self _ _ c.in-Err-Disk.field-0 archive.Disk c.in-Err-Disk.ensures.me
        c.in-Err-Disk.ensures.cause.later c.in-Err-Disk.ensures.kept (λ is. c.in-Err-Disk.ensures.counts.rises (ap Err c.in-Err-Disk.field-0-is)) (λ other. absurd (other refl)) (λ x is. cc is),
  );
}

pub returns-in-Err-Full : goal.returns-in-Err-Full
returns-in-Err-Full g c = record {
  keeps = λ name before past given stands.
      let head = head_named name in
      let size = c.in-Err-Full.size in
      let group = reverse c.args.events.now in
      let full = (c.in-Err-Full.ensures.full size).0 (ap Err c.in-Err-Full.field-0-is) in
      let same = c.in-Err-Full.ensures.same size (ap Err c.in-Err-Full.field-0-is) in
      let fails = fails_full head past given group _ _ _ _ _ c.args.self.now stands.1 size full.0 full.1 in (
        c.in-Err-Full.ensures.me ∙ stands.0,
        subst (λ d. JournalFails head past group given c.append_all.new.self g.D.Disk.tells (g.D.Disk.told before) (g.D.Disk.told d) (g.D.Disk.faults before) (g.D.Disk.faults d) (archive.Full size)) (sym same.1)
            (subst (λ (j : JournalState). JournalFails head past group given j g.D.Disk.tells (g.D.Disk.told before) (g.D.Disk.told c.args.disk.now) (g.D.Disk.faults before) (g.D.Disk.faults c.args.disk.now) (archive.Full size)) (sym same.0) fails),
      );
}

pub returns-in-Err-Mem : goal.returns-in-Err-Mem
returns-in-Err-Mem g c = record {
  keeps = λ name before past given stands. (
    c.in-Err-Mem.ensures.me ∙ stands.0,
    fails_so (head_named name) past given (reverse c.args.events.now) _ _ _ _ _ c.args.self.now stands.1 c.append_all.new.self _ _ c.in-Err-Mem.field-0 archive.Mem c.in-Err-Mem.ensures.me
        c.in-Err-Mem.ensures.cause.later c.in-Err-Mem.ensures.kept (λ is. cc is)
        (λ _. c.in-Err-Mem.ensures.counts.others (λ failed. let other = sym (ap Err c.in-Err-Mem.field-0-is) ∙ failed in cc other)) (λ x is. cc is),
  );
}

pub returns-in-Err-Foreign : goal.returns-in-Err-Foreign
returns-in-Err-Foreign g c = record {
  keeps = λ name before past given stands. (
    c.in-Err-Foreign.ensures.me ∙ stands.0,
    fails_so (head_named name) past given (reverse c.args.events.now) _ _ _ _ _ c.args.self.now stands.1 c.append_all.new.self _ _ c.in-Err-Foreign.field-0 archive.Mem c.in-Err-Foreign.ensures.me
        c.in-Err-Foreign.ensures.cause.later c.in-Err-Foreign.ensures.kept (λ is. cc is)
        (λ _. c.in-Err-Foreign.ensures.counts.others (λ failed. let other = sym (ap Err c.in-Err-Foreign.field-0-is) ∙ failed in cc other)) (λ x is. cc is),
  );
}

pub returns-in-Err-Broken : goal.returns-in-Err-Broken
returns-in-Err-Broken g c = record {
  keeps = λ name before past given stands. (
    c.in-Err-Broken.ensures.me ∙ stands.0,
    fails_so (head_named name) past given (reverse c.args.events.now) _ _ _ _ _ c.args.self.now stands.1 c.append_all.new.self _ _ c.in-Err-Broken.field-0 archive.Mem c.in-Err-Broken.ensures.me
        c.in-Err-Broken.ensures.cause.later c.in-Err-Broken.ensures.kept (λ is. cc is)
        (λ _. c.in-Err-Broken.ensures.counts.others (λ failed. let other = sym (ap Err c.in-Err-Broken.field-0-is) ∙ failed in cc other)) (λ x is. cc is),
  );
}
