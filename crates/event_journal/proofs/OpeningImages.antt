-- Opening a journal's file as a file of records.
use Rattle.std.proofs.Common.{◌≡◌, inl, inr, ℕ, ◌<◌, ◌≤◌, List, [], ◌∷◌, ◌++◌, length, take, get_or, reverse, refl, sym, ap, ◌∙◌, subst, append_assoc, arith, length-append}
use Rattle.std.specs.List.{AllByRecursion}
use Rattle.std.proofs.lemmas.Bool.{cases_lt}
use Rattle.std.proofs.lemmas.List.{get_or_past, reverse-reverse, take_at}
use Rattle.outside.specs.Disks.{DiskState, LeavesOnly, MayLeave, disk_state_of}
use Rattle.outside.specs.DisksLaws.{leaves_then, leaves_weaker, seen_image}
use Rattle.ritas_base.specs.declared.event.Event.{Event}
use Rattle.record_file.specs.Form.{Form, first_gate}
use Rattle.record_file.specs.Records as file
use Rattle.record_file.specs.Appending.{FileState}
use Rattle.record_file.specs.Making as made
use Rattle.record_file.specs.Reading.{AtGate, records_read}
use Rattle.record_file.proofs.Walking.{at_found}
use Rattle.event_journal.specs.Journal.{IsRecord, OpensAs}
use Rattle.event_journal.specs.Appending.{JournalState}
use Rattle.event_journal.specs.Reading.{OpensAsKept, OpensJournal}
use Rattle.event_journal.specs.EventRecords.{HasNoEventAt, event_texts, journal_form}
use Rattle.event_journal.proofs.EventTexts.{all_events, opens_as_events, same_front}
use Rattle.event_journal.proofs.Groups.{all_reverse}

-- events were read in order
pub own_events : (me : ℕ) (events : List Event) → AllByRecursion (IsRecord me) (reverse events) → AllByRecursion (IsRecord me) events
own_events me events own = subst (λ (l : List Event). AllByRecursion (IsRecord me) l) (reverse-reverse events) (all_reverse me (reverse events) own)

-- ---- the head of a file

-- in front of the first gate stands this head
pub record HasHead (head image : List ℕ) : Type 0 where
  pub same : take 52 image ≡ 1 ∷ head
  pub more : 52 < length image

pub head_in : (head image : List ℕ) (rs : List (List ℕ)) (gate : ℕ) (rest : List ℕ) → length head ≡ 51 → image ≡ file.closed_front journal_form head rs ++ gate ∷ rest → HasHead head image
head_in head image rs gate rest long text =
    let behind = file.records journal_form rs ++ gate ∷ rest in
    let parts : image ≡ (1 ∷ head) ++ behind = text ∙ append_assoc (1 ∷ head) (file.records journal_form rs) (gate ∷ rest) in
    record {
      same = ap (take 52) parts ∙ take_at (1 ∷ head) behind 52 (omega (arith, long));
      more = omega (arith, long, ap length parts, length-append head behind, length-append (file.records journal_form rs) (gate ∷ rest));
    }

gate_behind_head : (form : Form) (image : List ℕ) (at : ℕ) (rs : List (List ℕ)) → AtGate form image at rs → first_gate form ≤ at
gate_behind_head form image at [] here = omega (arith, here)
gate_behind_head form image at (r ∷ rs) (before, back, is, place) = omega (arith, gate_behind_head form image before rs back, place)

open_within : (image : List ℕ) (at : ℕ) → get_or image at 0 ≡ 1 → at < length image
open_within image at is_open = elim (cases_lt at (length image)) [
  | inl lt ↦ lt
  | inr le ↦ let clash : 0 ≡ 1 = sym (get_or_past image at 0 le) ∙ is_open in absurd (cc clash)
]

-- a file with a record is made
pub made_there : (me : ℕ) (head image : List ℕ) (rs : List (List ℕ)) (p : ℕ) → length head ≡ 51 → file.OpensAs journal_form head image rs → HasNoEventAt me image p → HasHead head image
made_there me head image rs p long (inr opens) b = head_in head image rs opens.gate opens.rest long opens.text
made_there me head image rs p long (inl unmade) b =
    let found = at_found journal_form image p b.text b.found in
    let low = gate_behind_head journal_form image p (event_texts b.es) b.here in
    let lt = open_within image p found.is_open in
    absurd (clash found.made low lt unmade.0)
  where
    clash : get_or image 0 0 ≡ 1 → first_gate journal_form ≤ p → p < length image → file.IsUnmade journal_form image → ⊥
    clash made low lt (inl short) = omega (arith, low, lt, short)
    clash made low lt (inr other) = other made

-- ---- what opening gives

module _ (form : Form) (is : form ≡ journal_form) (me : ℕ) (head image : List ℕ) (es : List Event) (own : AllByRecursion (IsRecord me) es) (all : records_read journal_form image ≡ event_texts es) where
  read_all : records_read form image ≡ event_texts es
  read_all = ap (λ (f : Form). records_read f image) is ∙ all

  pub opens_journal : (told : List DiskState) (opened : FileState) (journal : JournalState) → opened.form ≡ form → journal.end ≡ opened.end → made.OpensFile form head told opened (records_read form image) → OpensJournal me head told journal es
  opens_journal told opened journal same end opens = (
    end ∙ opens.0 ∙ ap (λ (f : Form). length (file.closed_front f head (records_read form image))) (same ∙ is)
        ∙ ap (λ (rs : List (List ℕ)). length (file.closed_front journal_form head rs)) read_all ∙ ap length (same_front head es),
    all_events me head es (disk_state_of told) own (λ i may. subst (λ (rs : List (List ℕ)). file.Opens journal_form head i rs) read_all (subst (λ (f : Form). file.Opens f head i (records_read form image)) is (opens.1 i may))),
  )

  pub opens_as : file.OpensAs form head image (records_read form image) → OpensAs me head image es
  opens_as opens =
      opens_as_events me head image es own (subst (λ (rs : List (List ℕ)). file.OpensAs journal_form head image rs) read_all (subst (λ (f : Form). file.OpensAs f head image (records_read form image)) is opens))

-- ---- what a stop leaves

pub kept_read : (me : ℕ) (head : List ℕ) (old new : List DiskState) → LeavesOnly (MayLeave (disk_state_of old)) old new → LeavesOnly (OpensAsKept me head (disk_state_of old)) old new
kept_read me head old new since = leaves_weaker (MayLeave (disk_state_of old)) (OpensAsKept me head (disk_state_of old)) old new (λ image may. inl may) since

pub kept_then : (me : ℕ) (head seen : List ℕ) (old mid new : List DiskState) → seen ≡ (disk_state_of old).seen → LeavesOnly (MayLeave (disk_state_of old)) old mid → LeavesOnly (made.OpensLike journal_form head seen) mid new
    → LeavesOnly (OpensAsKept me head (disk_state_of old)) old new
kept_then me head seen old mid new is first second =
    let s = disk_state_of old in
    leaves_then (OpensAsKept me head s) old mid new (kept_read me head old mid first) (leaves_weaker (made.OpensLike journal_form head seen) (OpensAsKept me head s) mid new (λ image like.
    let here = subst (λ (x : List ℕ). made.OpensLike journal_form head x image) is like in
    inr (
      s.seen,
      seen_image s,
      record {
        events = [];
        one = inl (here.unmade, here.size, refl);
        two = opens_as_events me head image [] tt here.empty;
      },
    )) second)
