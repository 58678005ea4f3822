-- A journal's file has one reading, since a file of records has one.
use Rattle.std.proofs.Common.{◌≡◌, inl, inr, ℕ, ◌+◌, ◌<◌, ◌≤◌, List, [], ◌∷◌, ◌++◌, length, take, drop, get_or, Some, refl, sym, ap, subst, ◌∙◌}
use Rattle.std.specs.List.{AllByRecursion}
use Rattle.std.proofs.lemmas.List.{drop_more}
use Rattle.ritas_base.specs.declared.event.Event.{Event}
use Rattle.ritas_base.specs.Bytes.{IsBytes}
use Rattle.schedule_file.specs.FileBytes.{limit}
use Rattle.schedule_file.specs.OwnEvents.{own_event}
use Rattle.schedule_file.specs.OwnEventsLaws.{own_only}
use Rattle.schedule_file.specs.Spelling.{event_text, sized}
use Rattle.record_file.specs.Records as file
use Rattle.record_file.specs.Reading.{AtGate, record_at, record_behind, records_read}
use Rattle.record_file.specs.Reading as reading
use Rattle.record_file.proofs.Readings as read
use Rattle.record_file.proofs.Records.{record_only}
use Rattle.record_file.proofs.Walking.{at_found, has_front, read_broken}
use Rattle.event_journal.specs.Journal.{IsRecord, Opens, OpensAs, closed_front}
use Rattle.event_journal.specs.Reading.{IsBroken, IsForeign}
use Rattle.event_journal.specs.EventRecords.{HasNoEventAt, event_texts, journal_form}
use Rattle.event_journal.proofs.EventTexts.{opens_as_texts, same_front}

-- ---- texts of events

-- the text of an event of a replica
abbrev IsText : ℕ → List ℕ → Type 0
IsText me r = (e : Event) × IsRecord me e × (r ≡ event_text e)

text_fits : (me : ℕ) (r : List ℕ) → IsText me r → file.IsRecord journal_form r
text_fits me r (e, own, is) = subst (λ (x : List ℕ). file.IsRecord journal_form x) (sym is) own.short

are_texts : (me : ℕ) (es : List Event) → AllByRecursion (IsRecord me) es → AllByRecursion (IsText me) (event_texts es)
are_texts me [] all = tt
are_texts me (e ∷ es) all = ((e, all.0, refl), are_texts me es all.1)

-- events of a replica with the same text are the same
pub same_event : (me : ℕ) (e f : Event) → IsRecord me e → IsRecord me f → event_text e ≡ event_text f → e ≡ f
same_event me e f own_e own_f same =
    let one = own_only me e [] (record { alone = own_e.alone; fits = own_e.fits }) in
    let two = own_only me f [] (record { alone = own_f.alone; fits = own_f.fits }) in
    let read : Some (e, length (event_text e)) ≡ Some (f, length (event_text f)) = sym one ∙ ap (λ (x : List ℕ). own_event me (x ++ [])) same ∙ two in
    let pair : (e, length (event_text e)) ≡ (f, length (event_text f)) = cc read in
    ap (λ (p : Event × ℕ). p.0) pair

pub same_events : (me : ℕ) (es fs : List Event) → AllByRecursion (IsRecord me) es → AllByRecursion (IsRecord me) fs → event_texts es ≡ event_texts fs → es ≡ fs
same_events me [] [] all_es all_fs same = refl
same_events me [] (f ∷ fs) all_es all_fs same = absurd (cc same)
same_events me (e ∷ es) [] all_es all_fs same = absurd (cc same)
same_events me (e ∷ es) (f ∷ fs) all_es all_fs same =
    let first : event_text e ≡ event_text f = cc same in
    let rest : event_texts es ≡ event_texts fs = cc same in
    ap (λ (x : Event). x ∷ es) (same_event me e f all_es.0 all_fs.0 first) ∙ ap (λ (xs : List Event). f ∷ xs) (same_events me es fs all_es.1 all_fs.1 rest)

-- ---- one reading

module _ (me : ℕ) (head file_is : List ℕ) where
  abbrev Reads : List Event → ℕ → List ℕ → Type 0
  Reads es gate rest = read.Reads journal_form (IsText me) (text_fits me) head file_is (event_texts es) gate rest

  in_records : (es : List Event) (gate : ℕ) (rest : List ℕ) → file_is ≡ closed_front head es ++ gate ∷ rest → file_is ≡ file.closed_front journal_form head (event_texts es) ++ gate ∷ rest
  in_records es gate rest text = text ∙ ap (λ (x : List ℕ). x ++ gate ∷ rest) (sym (same_front head es))

  opened : (es : List Event) (o : Opens me head file_is es) → Reads es o.gate o.rest
  opened es o = record { text = in_records es o.gate o.rest o.text; each = are_texts me es o.each; stops = inl o.shut }

  broken : (p : ℕ) (b : IsBroken me head file_is p) → Reads b.es 1 b.rest
  broken p b = record {
    text = in_records b.es 1 b.rest b.text;
    each = are_texts me b.es b.each;
    stops = inr (λ r gate rest text is. b.none text.0 gate rest text.1 (is ∙ ap (λ (x : List ℕ). sized x ++ gate ∷ rest) text.2));
  }

  pub one_broken : (p q : ℕ) → IsBroken me head file_is p → IsBroken me head file_is q → p ≡ q
  one_broken p q a b =
      let same = read.one_reading journal_form (IsText me) (text_fits me) head file_is (event_texts a.es) (event_texts b.es) 1 1 a.rest b.rest (broken p a) (broken q b) in
      a.place ∙ ap length (sym (same_front head a.es)) ∙ ap (λ (rs : List (List ℕ)). length (file.closed_front journal_form head rs)) same.records
      ∙ ap length (same_front head b.es) ∙ sym b.place

  foreign_record : (p : ℕ) → IsForeign head file_is p → reading.IsForeign journal_form head file_is p
  foreign_record p f = record { made = f.made; size = f.size; within = f.within; before = f.before; differs = f.differs }

  pub foreign_event : (p : ℕ) → reading.IsForeign journal_form head file_is p → IsForeign head file_is p
  foreign_event p f = record { made = f.made; size = f.size; within = f.within; before = f.before; differs = f.differs }

  pub one_foreign : (p q : ℕ) → IsForeign head file_is p → IsForeign head file_is q → p ≡ q
  one_foreign p q a b = read.one_foreign journal_form head file_is p q (foreign_record p a) (foreign_record q b)

  each_as : (es : List Event) → OpensAs me head file_is es → AllByRecursion (IsRecord me) es
  each_as es (inl unmade) = subst (AllByRecursion (IsRecord me)) (sym unmade.2) tt
  each_as es (inr opens) = opens.each

  module _ (long : length head ≡ 51) where
    pub one_list : (es fs : List Event) → OpensAs me head file_is es → OpensAs me head file_is fs → es ≡ fs
    one_list es fs one two =
        same_events me es fs (each_as es one) (each_as fs two)
        (read.one_list journal_form head file_is long (event_texts es) (event_texts fs) (opens_as_texts me head file_is es one) (opens_as_texts me head file_is fs two))

    pub not_broken : (es : List Event) (p : ℕ) → OpensAs me head file_is es → IsBroken me head file_is p → ⊥
    not_broken es p (inl a) b = read.read_made journal_form head file_is long (event_texts b.es) 1 b.rest (in_records b.es 1 b.rest b.text) a.0
    not_broken es p (inr a) b =
        let same = read.one_reading journal_form (IsText me) (text_fits me) head file_is (event_texts es) (event_texts b.es) a.gate 1 a.rest b.rest (opened es a) (broken p b) in
        a.shut (ap (λ (x : List ℕ). get_or x 0 0) same.rest)

    pub not_foreign : (es : List Event) (p : ℕ) → OpensAs me head file_is es → IsForeign head file_is p → ⊥
    not_foreign es p opens foreign = read.not_foreign journal_form head file_is long (event_texts es) p (opens_as_texts me head file_is es opens) (foreign_record p foreign)

    pub not_both : (p q : ℕ) → IsBroken me head file_is p → IsForeign head file_is q → ⊥
    not_both p q b foreign = read.read_own journal_form head file_is long (event_texts b.es) 1 b.rest q (in_records b.es 1 b.rest b.text) (foreign_record q foreign)

    -- ---- where a file is broken

    -- a file of records that is broken is a broken journal, if all records before are events
    pub broken_record : (es : List Event) (p : ℕ) → IsBytes file_is → AllByRecursion (IsRecord me) es → records_read journal_form file_is ≡ event_texts es → reading.IsBroken journal_form head file_is p
        → IsBroken me head file_is p
    broken_record es p fits each all b =
        let same : b.rs ≡ event_texts es = sym (read_broken journal_form head file_is long p fits b) ∙ all in
        let front : file.closed_front journal_form head b.rs ≡ closed_front head es = ap (file.closed_front journal_form head) same ∙ same_front head es in
        record {
          es = es;
          rest = b.rest;
          text = b.text ∙ ap (λ (x : List ℕ). x ++ 1 ∷ b.rest) front;
          each = each;
          place = b.place ∙ ap length front;
          none = λ e gate rest own is. b.none (event_text e) gate rest own.short is;
          size = b.size;
        }

    -- a record that is no event is one
    pub broken_event : (p : ℕ) → IsBytes file_is → length file_is ≤ limit → take 52 file_is ≡ 1 ∷ head → 52 < length file_is → HasNoEventAt me file_is p → IsBroken me head file_is p
    broken_event p fits short same more b =
        let front = has_front journal_form head file_is p (event_texts b.es) fits same more b.here in
        let found = at_found journal_form file_is p b.text b.found in
        let rest = drop (p + 1) file_is in
        record {
          es = b.es;
          rest = rest;
          text = front.text ∙ ap (λ (x : List ℕ). x ++ drop p file_is) (same_front head b.es)
              ∙ ap (λ (x : List ℕ). closed_front head b.es ++ x) (drop_more file_is p 0 front.within ∙ ap (λ (x : ℕ). x ∷ rest) found.is_open);
          each = b.each;
          place = front.place ∙ ap length (same_front head b.es);
          none = λ e gate more own is.
              let read : Some b.text ≡ Some (event_text e) = sym found.behind ∙ ap (record_behind journal_form) is ∙ record_only journal_form (event_text e) gate more own.short in
              let text_is : b.text ≡ event_text e = cc read in
              b.none e own text_is;
          size = short;
        }
