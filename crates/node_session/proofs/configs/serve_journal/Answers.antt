use Rattle.std.proofs.Common.{rules, ◌≡◌, ℕ, Err, List, [], refl, sym, subst, ap, ◌∙◌, reverse}
use Rattle.std.proofs.lemmas.Result.{err_from_is_err_and}
use Rattle.outside.specs.Disks.{LeavesOnly, disk_state_of}
use Rattle.event_journal.specs.Appending.{AllOpen}
use Rattle.event_journal.specs.Reading.{OpensAsKept}
use Rattle.event_journal.specs.declared.fault.JournalFault.{JournalFault}
use Rattle.event_journal.specs.declared.fault.JournalFault.TheVariants as faults
use Rattle.std.proofs.lemmas.List.Elements.{All-from_recursion}
use Rattle.node_loop.specs.Served.{MayBegin}
use Rattle.node_session.specs.Session.{IsServable}
use Rattle.node_session.specs.declared.session.Session.{Session}
use Rattle.node_session.specs.Lives.{Unopened, disk_seen}
use Rattle.node_session.proofs.Headings.{node_servable}
use Rattle.node_session.proofs.Counted.{node_counts, refused_counts}
use Rattle.node_session.proofs.Kept.{node_life}
use Rattle.node_session.proofs.Unopened.{unopened, own_member}
use Rattle.node_session.proofs.configs.serve_journal.Goals as goal

pub serve_life-requires-clause-servable : goal.serve_life-requires-clause-servable
serve_life-requires-clause-servable g c =
    subst (λ (s : Session). IsServable s []) (sym c.session_of.ensures.session)
    (node_servable c.args.config [] (search rules) (search rules) (search rules) c.requires.fits.keys (search rules) c.requires.fits (All-from_recursion MayBegin [] tt))

pub serve_life-requires-clause-member : goal.serve_life-requires-clause-member
serve_life-requires-clause-member g c =
    let me : c.in_ok-journal.journal.me ≡ c.args.config.me = c.in_ok-journal.ensures.live.0 in
    rw c.session_of.ensures.session (rw me (own_member c.args.config.me))

pub returns-in_err-journal-clause-unserved : goal.returns-in_err-journal-clause-unserved
returns-in_err-journal-clause-unserved g c =
    let e = c.in_err-journal.ensures in
    let fault = err_from_is_err_and c.from_residual.result c.from_residual.ensures.1 in
    rw (fault.1 ∙ ap (λ (x : JournalFault). Err x) fault.2) (
      unopened c.args.config c.journal_head-head.result (disk_seen g.D.Disk c.args.disk.now c.open_journal.new.disk) _ c.in_err-journal.field-0.0 refl
          c.journal_head-head.ensures.exact e.since e.foreign e.broken e.full e.cause.later e.counts,
      refl,
      refl,
    )

pub returns-clause-served : goal.returns-clause-served
returns-clause-served g c =
    let e = c.in_ok-journal.ensures in
    let journal = c.in_ok-journal.journal in
    let past = reverse c.in_ok-journal.recovered.items in
    let head = c.journal_head-head.result in
    let told = g.D.Disk.told in
    let count = g.D.Disk.faults in
    node_life c.args.config head c.journal_head-head.ensures.exact past g.D.Disk.tells (told c.args.disk.now) (told c.open_journal.new.disk) (told c.serve_life.new.disk)
    (count c.args.disk.now) (count c.open_journal.new.disk) (count c.serve_life.new.disk) journal c.serve_life.new.life.journal e.live.0 e.since e.counts.stands
    c.session_of.result _ _ _ c.in_ok-serve_life.field-0 c.session_of.ensures.session e.gives
    (c.in_ok-serve_life.ensures.served head (λ t. (
      (e.opened t).0,
      subst (λ (i : ℕ). AllOpen i head past (disk_state_of (told c.open_journal.new.disk))) (sym e.live.0) (e.opened t).1,
    )))

pub returns-in_err-serve_life-clause-unserved : goal.returns-in_err-serve_life-clause-unserved
returns-in_err-serve_life-clause-unserved g c =
    let e = c.in_ok-journal.ensures in
    let fault = err_from_is_err_and c.from_residual-in_err-serve_life.result c.from_residual-in_err-serve_life.ensures.1 in
    let same = c.in_err-serve_life.ensures.unserved in
    let d = disk_seen g.D.Disk c.args.disk.now c.open_journal.new.disk in
    let short : Unopened c.args.config d faults.Mem = record {
      cause = tt;
      since = λ t. subst (λ (h : List ℕ). LeavesOnly (OpensAsKept c.args.config.me h (disk_state_of d.before)) d.before d.now) c.journal_head-head.ensures.exact (e.since t);
      later = e.cause.later;
      none_failed = λ _. e.counts.stands;
    } in
    rw (fault.1 ∙ ap (λ (x : JournalFault). Err x) fault.2)
    (subst (λ disk. Unopened c.args.config (disk_seen g.D.Disk c.args.disk.now disk) faults.Mem) (sym same.2) short, same.0, same.1)

-- its disk

pub returns-in_err-journal-clause-disk_counts : goal.returns-in_err-journal-clause-disk_counts
returns-in_err-journal-clause-disk_counts g c =
    refused_counts c.args.config (disk_seen g.D.Disk c.args.disk.now c.open_journal.new.disk) (c.args.output.now ≡ c.args.output.now) (c.args.link.now ≡ c.args.link.now) c.from_residual.result
    c.from_residual.ensures.0 (returns-in_err-journal-clause-unserved g c)

pub returns-clause-disk_counts : goal.returns-clause-disk_counts
returns-clause-disk_counts g c =
    node_counts c.args.config _ _ _ (disk_seen g.D.Disk c.args.disk.now c.serve_life.new.disk) c.in_ok-serve_life.field-0 (returns-clause-served g c)

pub returns-in_err-serve_life-clause-disk_counts : goal.returns-in_err-serve_life-clause-disk_counts
returns-in_err-serve_life-clause-disk_counts g c =
    refused_counts c.args.config (disk_seen g.D.Disk c.args.disk.now c.serve_life.new.disk) (c.serve_life.new.output ≡ c.args.output.now) (c.serve_life.new.link ≡ c.args.link.now)
    c.from_residual-in_err-serve_life.result c.from_residual-in_err-serve_life.ensures.0 (returns-in_err-serve_life-clause-unserved g c)
