-- Events that are appended together, the oldest first, to a file of records of a journal's form.
use Rattle.std.proofs.Common.{◌≡◌, ℕ, ◌+◌, ◌<◌, ◌≤◌, List, [], ◌∷◌, ◌++◌, length, min, reverse, sym, ap, ◌∙◌, subst, arith, length-append}
use Rattle.std.specs.List.{flat_map, AllByRecursion}
use Rattle.std.proofs.lemmas.List.{reverse-append, reverse-reverse}
use Rattle.outside.specs.Disks.{DiskState, LeavesOnly}
use Rattle.ritas_base.specs.declared.event.Event.{Event}
use Rattle.schedule_file.specs.FileBytes.{limit}
use Rattle.record_file.specs.Form.{Form}
use Rattle.record_file.specs.Records as file
use Rattle.record_file.specs.Appending as appended
use Rattle.event_journal.specs.Journal.{IsRecord, closed_front, record_text, records}
use Rattle.event_journal.specs.Appending.{AllOpen, OpensWithout}
use Rattle.event_journal.specs.EventRecords.{event_texts, journal_form}
use Rattle.event_journal.proofs.EventTexts.{all_more, all_texts, kept_end, kept_images, kept_since, same_front, same_records, texts_fit}

pub all_reverse : (me : ℕ) (xs : List Event) → AllByRecursion (IsRecord me) xs → AllByRecursion (IsRecord me) (reverse xs)
all_reverse me [] all = tt
all_reverse me (x ∷ xs) all =
    subst (AllByRecursion (IsRecord me)) (sym (reverse-append (x ∷ []) xs)) (all_more me [] (reverse xs) (x ∷ []) (all_reverse me xs all.1) (all.0, tt))

module _ (form : Form) (is : form ≡ journal_form) (me : ℕ) (events : List Event) (own : AllByRecursion (IsRecord me) events) where
  abbrev pub more : List (List ℕ)
  more = event_texts (reverse events)

  -- ---- what appending asks for

  pub fit_there : AllByRecursion (file.IsRecord form) more
  fit_there = subst (λ (f : Form). AllByRecursion (file.IsRecord f) more) (sym is) (texts_fit me (reverse events) (all_reverse me events own))

  pub text_there : (taken : List ℕ) → taken ≡ flat_map record_text events ++ 0 ∷ [] → taken ≡ file.group_text form more
  text_there taken text =
      text ∙ ap (λ (x : List Event). flat_map record_text x ++ 0 ∷ []) (sym (reverse-reverse events))
      ∙ ap (λ (x : List ℕ). x ++ 0 ∷ []) (sym (same_records (reverse events))) ∙ ap (λ (f : Form). file.group_text f more) (sym is)

  pub group_there : (taken : List ℕ) → taken ≡ flat_map record_text events ++ 0 ∷ [] → file.IsGroup form taken
  group_there taken text = record { rs = more; each = fit_there; text_is = text_there taken text }

  in_order : length (records (reverse events)) ≡ length (flat_map record_text events)
  in_order = ap (λ (x : List Event). length (flat_map record_text x)) (reverse-reverse events)

  -- where they don't make it too long, it isn't full
  pub not_full : (end size x : ℕ) (taken : List ℕ) → taken ≡ flat_map record_text events ++ 0 ∷ [] → size ≡ min (end + 1 + length (flat_map record_text events)) 18446744073709551615 → size ≤ limit
      → (x ≡ end + length taken) × (form.limit < x) → ⊥
  not_full end size x taken text size_is le full =
      omega (arith, ap length text, length-append (flat_map record_text events) (0 ∷ []), size_is, le, ap (λ (f : Form). f.limit) is, full.0, full.1)

  pub not_longer : (end size x : ℕ) → size ≡ min (end + 1 + length (flat_map record_text events)) 18446744073709551615 → size ≤ limit
      → (x ≡ min (end + 1 + length (records (reverse events))) 18446744073709551615) × (limit < x) → ⊥
  not_longer end size x size_is le longer = omega (arith, size_is, le, in_order, longer.0, longer.1)

  module _ (head : List ℕ) (es : List Event) where
    pub stands_there : (end : ℕ) → end ≡ length (closed_front head es) → end ≡ length (file.closed_front form head (event_texts es))
    stands_there end place = place ∙ ap length (sym (same_front head es)) ∙ ap (λ (f : Form). length (file.closed_front f head (event_texts es))) (sym is)

    pub open_there : (s : DiskState) → AllOpen me head es s → appended.AllOpen form head (event_texts es) s
    open_there s were = subst (λ (f : Form). appended.AllOpen f head (event_texts es) s) (sym is) (all_texts me head es s were)

    -- ---- and what it gives

    pub stands_here : (now : Form) (end : ℕ) → now ≡ form → end ≡ length (file.closed_front now head (more ++ event_texts es)) → end ≡ length (closed_front head (reverse events ++ es))
    stands_here now end same place =
        kept_end me head es (reverse events) end (place ∙ ap (λ (f : Form). length (file.closed_front f head (more ++ event_texts es))) (same ∙ is))

    module _ (each : AllByRecursion (IsRecord me) es) where
      pub images_here : (s : DiskState) → appended.AllOpen form head (more ++ event_texts es) s → AllOpen me head (reverse events ++ es) s
      images_here s all =
          kept_images me head es (reverse events) each (all_reverse me events own) s (subst (λ (f : Form). appended.AllOpen f head (more ++ event_texts es) s) is all)

      pub since_here : (old new : List DiskState) → LeavesOnly (appended.OpensWithout form head (event_texts es) more) old new → LeavesOnly (OpensWithout me head es (reverse events)) old new
      since_here old new since =
          kept_since me head es (reverse events) each (all_reverse me events own) old new (subst (λ (f : Form). LeavesOnly (appended.OpensWithout f head (event_texts es) more) old new) is since)
