-- What a journal stands for, as what the disk has since before it was opened.
use Rattle.std.proofs.Common.{◌≡◌, ℕ, ◌+◌, ◌-◌, ◌^◌, min, Bool, true, List, ◌++◌, length, ◌∙◌, ap, subst, arith, inl, inr}
use Rattle.ritas_base.specs.declared.event.Event.{Event}
use Rattle.outside.specs.Disks.{DiskState, LeavesOnly, disk_state_of}
use Rattle.outside.specs.DisksLaws.{leaves_then, leaves_weaker}
use Rattle.outside.specs.Faults.{count_after}
use Rattle.event_journal.specs.Appending.{AllOpen, JournalState}
use Rattle.event_journal.specs.Journal.{OpensAs, records}
use Rattle.cluster_config.specs.declared.node.NodeConfig.{NodeConfig}
use Rattle.schedule_replay.specs.Layers.{setting_of}
use Rattle.node_loop.specs.declared.end.ServeEnd.{ServeEnd}
use Rattle.node_loop.specs.Archives.{moment}
use Rattle.node_loop.specs.Outs.{Outs, Tells}
use Rattle.node_session.specs.Configs.{node_header, node_session}
use Rattle.node_session.specs.declared.session.Session.{Session}
use Rattle.node_session.proofs.Lives.{life_weaker}
use Rattle.event_journal.specs.Reading.{OpensAsKept}
use Rattle.node_loop.specs.declared.archive.ArchiveFault.{ArchiveFault}
use Rattle.node_loop.specs.Journals.{HasKept, IsFull, JournalStands, JournalFails, OpensNewest, OpensSome}
use Rattle.node_session.specs.Lives.{DiskBreaks, DiskKeeps, DiskSeen, IsOfLife, IsJournalTooLong, ServesLife, ServesNode, head_in}

module _ (me : ℕ) (head : List ℕ) (past : List Event) (tells : Bool) (old mid new : List DiskState) (few some many : ℕ) (journal : JournalState) (own : journal.me ≡ me)
    (opened : tells ≡ true → LeavesOnly (OpensAsKept me head (disk_state_of old)) old mid) (first : some ≡ few) where
  abbrev seen : DiskSeen
  seen = record { tells = tells; before = old; now = new; few = few; many = many }

  -- since it was opened, and before
  since_all : (given : List Event) → tells ≡ true → LeavesOnly (OpensSome journal.me head past given) mid new → LeavesOnly (IsOfLife me head past given (disk_state_of old)) old new
  since_all given t later =
      leaves_then (IsOfLife me head past given (disk_state_of old)) old mid new
      (leaves_weaker (OpensAsKept me head (disk_state_of old)) (IsOfLife me head past given (disk_state_of old)) old mid (λ image is. inl is) (opened t))
      (leaves_weaker (OpensSome journal.me head past given) (IsOfLife me head past given (disk_state_of old)) mid new
      (λ image is. inr (subst (λ (i : ℕ). OpensSome i head past given image) own is)) later)

  pub keeps : (given : List Event) → JournalStands head past given journal tells mid new some many → DiskKeeps me head past seen given
  keeps given stands = record {
    images = λ t. subst (λ (i : ℕ). AllOpen i head (given ++ past) (disk_state_of new)) own (stands.kept t).images;
    since = λ t. since_all given t (stands.kept t).since;
    none_failed = stands.none_failed ∙ first;
  }

  too_long : (group older : List Event) (x : ℕ) → IsFull head past group older journal tells mid new x → IsJournalTooLong me head past seen group older x
  too_long group older x full = (
    full.1,
    λ t.
        let kept : HasKept head past older journal mid new = full.2 t in
        (full.0 ∙ ap (λ (n : ℕ). min (n + 1 + length (records group)) (2 ^ 64 - 1)) kept.stands, subst (λ (i : ℕ). AllOpen i head (older ++ past) (disk_state_of new)) own kept.images),
  )

  pub breaks : (fault : ArchiveFault) (group older : List Event) → JournalFails head past group older journal tells mid new some many fault → DiskBreaks me head past seen fault group older
  breaks fault group older fails = record {
    left = λ t. subst (λ (i : ℕ). OpensNewest i head past group older (disk_state_of new)) own (fails.left t);
    since = λ t. since_all (group ++ older) t (fails.since t);
    later = omega (arith, first, fails.later);
    one_failed = λ is. fails.one_failed is ∙ ap count_after first;
    none_failed = λ other. fails.none_failed other ∙ first;
    full = λ x is. too_long group older x (fails.full x is);
  }

-- ---- a node's life

module _ (config : NodeConfig) (head : List ℕ) (named : head ≡ head_in config) (past : List Event) (tells : Bool) (old mid new : List DiskState) (few some many : ℕ)
    (opened later : JournalState) (own : opened.me ≡ config.me) (since : tells ≡ true → LeavesOnly (OpensAsKept config.me head (disk_state_of old)) old mid) (first : some ≡ few) where
  abbrev node_disk : DiskSeen
  node_disk = record { tells = tells; before = old; now = new; few = few; many = many }

  node_keeps : (given : List Event) → (later.me ≡ opened.me) × JournalStands head past given later tells mid new some many → DiskKeeps config.me (head_in config) past node_disk given
  node_keeps given stands =
      subst (λ (h : List ℕ). DiskKeeps config.me h past node_disk given) named
      (keeps config.me head past tells old mid new few some many later (stands.0 ∙ own) since first given stands.1)

  node_breaks : (fault : ArchiveFault) (group older : List Event) → (later.me ≡ opened.me) × JournalFails head past group older later tells mid new some many fault
      → DiskBreaks config.me (head_in config) past node_disk fault group older
  node_breaks fault group older fails =
      subst (λ (h : List ℕ). DiskBreaks config.me h past node_disk fault group older) named
      (breaks config.me head past tells old mid new few some many later (fails.0 ∙ own) since first fault group older fails.1)

  pub node_life : (x : Session) (outs : Tells) (base now : Outs) (end : ServeEnd) → x ≡ node_session config → (tells ≡ true → OpensAs config.me head (disk_state_of old).seen past)
      → ServesLife x past (setting_of x.header) outs base
      (moment now (λ given. (later.me ≡ opened.me) × JournalStands head past given later tells mid new some many)
      (λ fault group older. (later.me ≡ opened.me) × JournalFails head past group older later tells mid new some many fault)) end
      → ServesNode config outs base now node_disk end
  node_life x outs base now end same read life = record {
    past = past;
    opened = λ t. subst (λ (h : List ℕ). OpensAs config.me h (disk_state_of old).seen past) named (read t);
    life = life_weaker (node_session config) past (setting_of (node_header config)) outs base now _ _ _ _ end node_keeps node_breaks
        (subst (λ (y : Session). ServesLife y past (setting_of y.header) outs base
        (moment now (λ given. (later.me ≡ opened.me) × JournalStands head past given later tells mid new some many)
        (λ fault group older. (later.me ≡ opened.me) × JournalFails head past group older later tells mid new some many fault)) end) same life);
  }
