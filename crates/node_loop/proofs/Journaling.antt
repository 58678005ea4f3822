-- What a journal kept goes on.
use Rattle.std.proofs.Common.{◌≡◌, ◌≢◌, ℕ, ◌≤◌, ◌<◌, ◌-◌, ◌^◌, min, Bool, true, List, [], ◌∷◌, ◌++◌, Result, Ok, Err, inl, inr, refl, sym, ap, ◌∙◌, subst, append_assoc, arith}
use Rattle.std.specs.List.{AllByRecursion}
use Rattle.ritas_base.specs.declared.event.Event.{Event}
use Rattle.outside.specs.Disks.{DiskState, MayLeave, LeavesOnly, disk_state_of}
use Rattle.outside.specs.DisksLaws.{leaves_then, leaves_weaker}
use Rattle.outside.specs.Faults.{count_after}
use Rattle.schedule_file.specs.FileBytes.{limit}
use Rattle.event_journal.specs.Journal.{Opens}
use Rattle.event_journal.specs.Appending.{JournalState, AllOpen, JournalStandsFor, OpensWithout, AppendsEvents, length_with}
use Rattle.event_journal.specs.declared.fault.JournalFault.{JournalFault}
use Rattle.node_loop.specs.declared.archive.ArchiveFault.{ArchiveFault}
use Rattle.node_loop.specs.declared.archive.ArchiveFault.TheVariants as archive
use Rattle.node_loop.specs.Journals.{OpensSome, OpensNewest, JournalStands, JournalFails}

-- a group more was given
some_more : (me : ℕ) (head : List ℕ) (past group given : List Event) (image : List ℕ) → OpensSome me head past given image → OpensSome me head past (group ++ given) image
some_more me head past group given image opens = record {
  later = group ++ opens.later;
  first = opens.first;
  parts = ap (λ (l : List Event). group ++ l) opens.parts ∙ sym (append_assoc group opens.later opens.first);
  opens = opens.opens;
}

-- with all of it or with none
group_more : (me : ℕ) (head : List ℕ) (past group given : List Event) (image : List ℕ) → OpensWithout me head (given ++ past) group image → OpensSome me head past (group ++ given) image
group_more me head past group given image (inl with_it) = record {
  later = [];
  first = group ++ given;
  parts = refl;
  opens = subst (λ (es : List Event). Opens me head image es) (sym (append_assoc group given past)) with_it;
}
group_more me head past group given image (inr without) = record { later = group; first = given; parts = refl; opens = without }

since_more : (me : ℕ) (head : List ℕ) (past group given : List Event) (before now : List DiskState)
    → LeavesOnly (OpensSome me head past given) before now → LeavesOnly (OpensSome me head past (group ++ given)) before now
since_more me head past group given before now leaves = leaves_weaker (OpensSome me head past given) (OpensSome me head past (group ++ given)) before now (some_more me head past group given) leaves

-- a group was appended, or a part of the way
since_then : (me : ℕ) (head : List ℕ) (past group given : List Event) (before now new : List DiskState)
    → LeavesOnly (OpensSome me head past given) before now → LeavesOnly (OpensWithout me head (given ++ past) group) now new
    → LeavesOnly (OpensSome me head past (group ++ given)) before new
since_then me head past group given before now new first second =
    leaves_then (OpensSome me head past (group ++ given)) before now new (since_more me head past group given before now first)
    (leaves_weaker (OpensWithout me head (given ++ past) group) (OpensSome me head past (group ++ given)) now new (group_more me head past group given) second)

-- what every image had before and at each moment since, it has now
last_image : (P : List ℕ → Type 0) (more old new : List DiskState) → new ≡ more ++ old → AllByRecursion (λ s. (image : List ℕ) → MayLeave s image → P image) more
    → ((image : List ℕ) → MayLeave (disk_state_of old) image → P image) → (image : List ℕ) → MayLeave (disk_state_of new) image → P image
last_image P [] old new states each before image may = before image (subst (λ (x : List DiskState). MayLeave (disk_state_of x) image) states may)
last_image P (s ∷ more) old new states each before image may = each.0 image (subst (λ (x : List DiskState). MayLeave (disk_state_of x) image) states may)

left_now : (P : List ℕ → Type 0) (old new : List DiskState) → LeavesOnly P old new → ((image : List ℕ) → MayLeave (disk_state_of old) image → P image)
    → (image : List ℕ) → MayLeave (disk_state_of new) image → P image
left_now P old new leaves before = last_image P leaves.more old new leaves.states leaves.each before

module _ (head : List ℕ) (past given group : List Event) (tells : Bool) (before now : List DiskState) (few some : ℕ) (old : JournalState)
    (stands : JournalStands head past given old tells before now few some) where
  -- what an append of the group does to a disk
  abbrev pub AppendsGroup : JournalState → List DiskState → Result (Unit {0}) JournalFault → Type 0
  AppendsGroup new then result = tells ≡ true → (front : List ℕ) (es : List Event) → JournalStandsFor old front es → AllOpen old.me front es (disk_state_of now)
      → AppendsEvents old.me front es group now then new result

  went_on : (new : JournalState) (then : List DiskState) (result : Result (Unit {0}) JournalFault) → new.me ≡ old.me → AppendsGroup new then result
      → tells ≡ true → LeavesOnly (OpensSome new.me head past (group ++ given)) before then
  went_on new then result me appends t =
      let k = stands.kept t in
      let did = appends t head (given ++ past) k.stands k.images in
      subst (λ (i : ℕ). LeavesOnly (OpensSome i head past (group ++ given)) before then) (sym me) (since_then old.me head past group given before now then k.since did.kept.since)

  -- what it leaves
  stays : tells ≡ true → OpensNewest old.me head past group given (disk_state_of now)
  stays t = λ image may. inr ((stands.kept t).images image may)

  leaves : (new : JournalState) (then : List DiskState) (result : Result (Unit {0}) JournalFault) → new.me ≡ old.me → AppendsGroup new then result
      → tells ≡ true → OpensNewest new.me head past group given (disk_state_of then)
  leaves new then result me appends t =
      let k = stands.kept t in
      let did = appends t head (given ++ past) k.stands k.images in
      subst (λ (i : ℕ). OpensNewest i head past group given (disk_state_of then)) (sym me)
      (left_now (OpensWithout old.me head (given ++ past) group) now then did.kept.since (λ image may. inr (k.images image may)))

  -- it was appended
  pub stands_on : (new : JournalState) (then : List DiskState) (many : ℕ) → new.me ≡ old.me → many ≡ some → AppendsGroup new then (Ok tt)
      → JournalStands head past (group ++ given) new tells before then few many
  stands_on new then many me none appends = record {
    kept = λ t. let k = stands.kept t in
        let did = appends t head (given ++ past) k.stands k.images in
        let together = append_assoc group given past in
        record {
          stands = subst (λ (es : List Event). JournalStandsFor new head es) (sym together) did.stands;
          images = subst (λ (es : List Event). AllOpen new.me head es (disk_state_of then)) (sym together)
              (subst (λ (i : ℕ). AllOpen i head (group ++ (given ++ past)) (disk_state_of then)) (sym me) did.kept.images);
          since = went_on new then (Ok tt) me appends t;
        };
    none_failed = none ∙ stands.none_failed;
  }

  -- or not
  pub fails_so : (new : JournalState) (then : List DiskState) (many : ℕ) (fault : JournalFault) (kind : ArchiveFault) → new.me ≡ old.me → some ≤ many → AppendsGroup new then (Err fault)
      → (kind ≡ archive.Disk → many ≡ count_after some) → (kind ≢ archive.Disk → many ≡ some) → ((x : ℕ) → kind ≡ archive.Full x → ⊥) → JournalFails head past group given new tells before then few many kind
  fails_so new then many fault kind me le appends rises stays_so whole = record {
    left = leaves new then (Err fault) me appends;
    since = went_on new then (Err fault) me appends;
    later = omega (arith, stands.none_failed, le);
    one_failed = λ is. rises is ∙ ap count_after stands.none_failed;
    none_failed = λ other. stays_so other ∙ stands.none_failed;
    full = λ x is. absurd (whole x is);
  }

  -- it is full
  pub fails_full : (x : ℕ) → x ≡ min (length_with old group) (2 ^ 64 - 1) → limit < x → JournalFails head past group given old tells before now few some (archive.Full x)
  fails_full x is long = record {
    left = stays;
    since = λ t. since_more old.me head past group given before now (stands.kept t).since;
    later = omega (arith, stands.none_failed);
    one_failed = λ same. absurd (cc same);
    none_failed = λ other. stands.none_failed;
    full = λ y same. let one : x ≡ y = cc in (sym one ∙ is, subst (λ (n : ℕ). limit < n) one long, λ t. stands.kept t);
  }

  -- it has one that the journal doesn't take
  pub fails_untaken : JournalFails head past group given old tells before now few some archive.Mem
  fails_untaken = record {
    left = stays;
    since = λ t. since_more old.me head past group given before now (stands.kept t).since;
    later = omega (arith, stands.none_failed);
    one_failed = λ same. absurd (cc same);
    none_failed = λ other. stands.none_failed;
    full = λ y same. absurd (cc same);
  }
