-- A journal's file is a file of records: what opens as the texts of events opens as these events.
use Rattle.std.proofs.Common.{◌≡◌, inl, inr, ℕ, List, [], ◌∷◌, ◌++◌, length, reverse, refl, sym, ap, ◌∙◌, subst}
use Rattle.std.specs.List.{flat_map, AllByRecursion}
use Rattle.std.proofs.lemmas.List.{map-append, reverse-append}
use Rattle.outside.specs.Disks.{DiskState, LeavesOnly}
use Rattle.outside.specs.DisksLaws.{leaves_weaker, seen_image}
use Rattle.ritas_base.specs.declared.event.Event.{Event}
use Rattle.schedule_file.specs.Spelling.{event_text}
use Rattle.record_file.specs.Records as file
use Rattle.record_file.specs.Appending as appended
use Rattle.record_file.specs.Making as made
use Rattle.event_journal.specs.Journal.{IsRecord, Opens, OpensAs, closed_front, record_text, records}
use Rattle.event_journal.specs.Appending.{AllOpen, OpensRenewed, OpensWithout}
use Rattle.event_journal.specs.EventRecords.{event_texts, journal_form}

-- ---- texts

texts_turned : (es : List Event) → reverse (event_texts es) ≡ event_texts (reverse es)
texts_turned [] = refl
texts_turned (e ∷ es) =
    reverse-append (event_text e ∷ []) (event_texts es) ∙ ap (λ (x : List (List ℕ)). x ++ event_text e ∷ []) (texts_turned es)
    ∙ sym (map-append event_text (reverse es) (e ∷ [])) ∙ ap event_texts (sym (reverse-append (e ∷ []) es))

texts_joined : (es : List Event) → flat_map (file.record_text journal_form) (event_texts es) ≡ flat_map record_text es
texts_joined [] = refl
texts_joined (e ∷ es) = ap (λ (x : List ℕ). record_text e ++ x) (texts_joined es)

pub same_records : (es : List Event) → file.records journal_form (event_texts es) ≡ records es
same_records es = ap (flat_map (file.record_text journal_form)) (texts_turned es) ∙ texts_joined (reverse es)

pub same_front : (head : List ℕ) (es : List Event) → file.closed_front journal_form head (event_texts es) ≡ closed_front head es
same_front head es = ap (λ (x : List ℕ). 1 ∷ head ++ x) (same_records es)

pub texts_fit : (me : ℕ) (es : List Event) → AllByRecursion (IsRecord me) es → AllByRecursion (file.IsRecord journal_form) (event_texts es)
texts_fit me [] all = tt
texts_fit me (e ∷ es) all = (all.0.short, texts_fit me es all.1)

-- ---- images

module _ (me : ℕ) (head : List ℕ) where
  pub opens_texts : (image : List ℕ) (es : List Event) → Opens me head image es → file.Opens journal_form head image (event_texts es)
  opens_texts image es opens = record {
    gate = opens.gate;
    rest = opens.rest;
    text = opens.text ∙ ap (λ (x : List ℕ). x ++ opens.gate ∷ opens.rest) (sym (same_front head es));
    shut = opens.shut;
    each = texts_fit me es opens.each;
    size = opens.size;
  }

  pub opens_events : (image : List ℕ) (es : List Event) → AllByRecursion (IsRecord me) es → file.Opens journal_form head image (event_texts es) → Opens me head image es
  opens_events image es each opens = record {
    gate = opens.gate;
    rest = opens.rest;
    text = opens.text ∙ ap (λ (x : List ℕ). x ++ opens.gate ∷ opens.rest) (same_front head es);
    shut = opens.shut;
    each = each;
    size = opens.size;
  }

  no_texts : (es : List Event) → event_texts es ≡ [] → es ≡ []
  no_texts [] none = refl
  no_texts (e ∷ es) none = absurd (cc none)

  pub opens_as_texts : (image : List ℕ) (es : List Event) → OpensAs me head image es → file.OpensAs journal_form head image (event_texts es)
  opens_as_texts image es (inl unmade) = inl (unmade.0, unmade.1, ap event_texts unmade.2)
  opens_as_texts image es (inr opens) = inr (opens_texts image es opens)

  pub opens_as_events : (image : List ℕ) (es : List Event) → AllByRecursion (IsRecord me) es → file.OpensAs journal_form head image (event_texts es) → OpensAs me head image es
  opens_as_events image es each (inl unmade) = inl (unmade.0, unmade.1, no_texts es unmade.2)
  opens_as_events image es each (inr opens) = inr (opens_events image es each opens)

  pub all_texts : (es : List Event) (s : DiskState) → AllOpen me head es s → appended.AllOpen journal_form head (event_texts es) s
  all_texts es s were image may = opens_texts image es (were image may)

  pub all_events : (es : List Event) (s : DiskState) → AllByRecursion (IsRecord me) es → appended.AllOpen journal_form head (event_texts es) s → AllOpen me head es s
  all_events es s each were image may = opens_events image es each (were image may)

  pub all_own : (es : List Event) (s : DiskState) → AllOpen me head es s → AllByRecursion (IsRecord me) es
  all_own es s were = (were s.seen (seen_image s)).each

  -- ---- appending

  pub texts_more : (more es : List Event) → event_texts more ++ event_texts es ≡ event_texts (more ++ es)
  texts_more more es = sym (map-append event_text more es)

  pub all_more : (more es : List Event) → AllByRecursion (IsRecord me) more → AllByRecursion (IsRecord me) es → AllByRecursion (IsRecord me) (more ++ es)
  all_more [] es first second = second
  all_more (e ∷ more) es first second = (first.0, all_more more es first.1 second)

  pub kept_end : (es more : List Event) (end : ℕ) → end ≡ length (file.closed_front journal_form head (event_texts more ++ event_texts es)) → end ≡ length (closed_front head (more ++ es))
  kept_end es more end is =
      is ∙ ap (λ (rs : List (List ℕ)). length (file.closed_front journal_form head rs)) (texts_more more es) ∙ ap length (same_front head (more ++ es))

  module _ (es more : List Event) (each : AllByRecursion (IsRecord me) es) (each_more : AllByRecursion (IsRecord me) more) where
    pub kept_images : (s : DiskState) → appended.AllOpen journal_form head (event_texts more ++ event_texts es) s → AllOpen me head (more ++ es) s
    kept_images s all =
        all_events (more ++ es) s (all_more more es each_more each) (subst (λ (rs : List (List ℕ)). appended.AllOpen journal_form head rs s) (texts_more more es) all)

    pub kept_since : (old new : List DiskState) → LeavesOnly (appended.OpensWithout journal_form head (event_texts es) (event_texts more)) old new → LeavesOnly (OpensWithout me head es more) old new
    kept_since old new since = leaves_weaker _ (OpensWithout me head es more) old new (λ image opens. one image opens) since
      where
        one : (image : List ℕ) → appended.OpensWithout journal_form head (event_texts es) (event_texts more) image → OpensWithout me head es more image
        one image (inl all) = inl (opens_events image (more ++ es) (all_more more es each_more each) (subst (file.Opens journal_form head image) (texts_more more es) all))
        one image (inr none) = inr (opens_events image es each none)

  -- ---- beginning anew

  pub renewed_since : (next : List ℕ) (es : List Event) (old new : List DiskState) → AllByRecursion (IsRecord me) es → LeavesOnly (made.OpensOver journal_form head next (event_texts es)) old new
      → LeavesOnly (OpensRenewed me head next es) old new
  renewed_since next es old new each since = leaves_weaker _ (OpensRenewed me head next es) old new (λ image opens. one image opens) since
    where
      one : (image : List ℕ) → made.OpensOver journal_form head next (event_texts es) image → OpensRenewed me head next es image
      one image (inl before) = inl (opens_events image es each before)
      one image (inr (inl unmade)) = inr (inl (unmade.0, unmade.1, refl))
      one image (inr (inr none)) = inr (inr (record { gate = none.gate; rest = none.rest; text = none.text; shut = none.shut; each = tt; size = none.size }))
