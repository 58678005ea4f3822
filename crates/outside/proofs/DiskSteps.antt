-- What a disk in memory keeps, after one call more.
use Rattle.std.proofs.Common.{◌≡◌, ◌↔◌, inl, inr, Bool, true, false, ◌^◌, ℕ, zero, suc, ◌+◌, ◌-◌, ◌<◌, ◌≤◌, List, [], ◌∷◌, ◌++◌, length, take, drop, map, get_or, reverse, replicate, refl, sym, ap, ◌∙◌, subst, arith, length-append, length-drop}
use Rattle.std.specs.List.{AllByRecursion}
use Rattle.std.proofs.lemmas.List.{append-nil, reverse-append, take-append-le, drop-append-le, drop_at, take_all, drop_all}
use Rattle.std.proofs.Math.Seq.{take-suc}
use Rattle.outside.specs.Disks.{Range, bytes_written, padded, disk_state_of}
use Rattle.outside.specs.Stops.{fills}
use Rattle.outside.specs.DisksLaws.{length-written}
use Rattle.std.proofs.lemmas.Bool.{cases_lt}
use Rattle.std.proofs.Math.Nat.{min-eq_left}
use Rattle.outside.specs.Faults.{count_after, last_count}
use Rattle.outside.specs.MemoryDisk.{MemDiskState, IsRefused, IsWriteTooLong, DiskAct, Writes, Syncs, acts_after, acts_of, IsPartialWrite, FitsDisk, KeepsSynced, IsSpanWithin, range_of, ranges_of, states_after, wrote_in}
use Rattle.outside.specs.declared.mem_disk.DiskDid.{DiskDid}
use Rattle.outside.specs.declared.mem_disk.Span.{Span}
use Rattle.outside.specs.declared.mem_disk.DiskDid.TheVariants.{Wrote, Synced}

part_stays : (text more : List ℕ) (from count : ℕ) → from + count ≤ length text → take count (drop from (text ++ more)) ≡ take count (drop from text)
part_stays text more from count le =
    let low : from ≤ length text = omega (arith, le) in
    let left : count ≤ length (drop from text) = omega (arith, le, length-drop from text) in
    ap (λ (x : List ℕ). take count x) (drop-append-le from text more low) ∙ take-append-le count (drop from text) more left

acts_stay : (text more : List ℕ) (dids : List DiskDid) → AllByRecursion (IsPartialWrite (length text)) dids → acts_after (text ++ more) dids ≡ acts_after text dids
acts_stay text more [] all = refl
acts_stay text more (Wrote at from count ∷ dids) all =
    ap (λ (x : List ℕ). Writes at x ∷ acts_after (text ++ more) dids) (part_stays text more from count all.0)
    ∙ ap (λ (x : List DiskAct). Writes at (take count (drop from text)) ∷ x) (acts_stay text more dids all.1)
acts_stay text more (Synced ∷ dids) all = ap (λ (x : List DiskAct). Syncs ∷ x) (acts_stay text more dids all.1)

parts_stay : (len more : ℕ) (dids : List DiskDid) → len ≤ more → AllByRecursion (IsPartialWrite len) dids → AllByRecursion (IsPartialWrite more) dids
parts_stay len more [] le all = tt
parts_stay len more (Wrote at from count ∷ dids) le all = (omega (arith, le, all.0), parts_stay len more dids le all.1)
parts_stay len more (Synced ∷ dids) le all = (tt, parts_stay len more dids le all.1)

pub acts_more : (at : ℕ) (text bytes : List ℕ) (dids : List DiskDid) → AllByRecursion (IsPartialWrite (length text)) (reverse dids)
    → acts_of (text ++ bytes) (dids ++ Wrote at (length text) (length bytes) ∷ []) ≡ Writes at bytes ∷ acts_of text dids
unfolding acts_of
acts_more at text bytes dids all =
    let did = Wrote at (length text) (length bytes) in
    let here : take (length bytes) (drop (length text) (text ++ bytes)) ≡ bytes = ap (take (length bytes)) (drop_at text bytes (length text) refl) ∙ take_all (length bytes) bytes (omega arith) in
    ap (acts_after (text ++ bytes)) (reverse-append dids (did ∷ []))
    ∙ ap (λ (x : List ℕ). Writes at x ∷ acts_after (text ++ bytes) (reverse dids)) here
    ∙ ap (λ (x : List DiskAct). Writes at bytes ∷ x) (acts_stay text bytes (reverse dids) all)

pub acts_synced : (text : List ℕ) (dids : List DiskDid) → acts_of text (dids ++ Synced ∷ []) ≡ Syncs ∷ acts_of text dids
unfolding acts_of
acts_synced text dids = ap (acts_after text) (reverse-append dids (Synced ∷ []))

pub no_acts : acts_of [] [] ≡ []
unfolding acts_of
no_acts = refl

pub fits_write : (first bytes text more new : List ℕ) (dids : List DiskDid) (room number later at : ℕ) → FitsDisk first bytes text dids room number
    → new ≡ bytes_written at more bytes → at + length more ≤ room → length text + length more ≤ room → length dids + 1 ≤ later
    → FitsDisk first new (text ++ more) (dids ++ Wrote at (length text) (length more) ∷ []) room later
fits_write first bytes text more new dids room number later at fits is here long counted =
    let did = Wrote at (length text) (length more) in
    let acts = acts_more at text more dids fits.parts in
    let size = length-written at more bytes in
    let turned = reverse-append dids (did ∷ []) in
    record {
      seen = is ∙ ap (λ (x : List ℕ). bytes_written at more x) fits.seen ∙ ap (λ (x : List DiskAct). (disk_state_of (states_after first x)).seen) (sym acts);
      parts = subst (λ (x : List DiskDid). AllByRecursion (IsPartialWrite (length (text ++ more))) x) (sym turned)
          (omega (arith, length-append text more), parts_stay (length text) (length (text ++ more)) (reverse dids) (omega (arith, length-append text more)) fits.parts);
      sum = length-append text more ∙ ap (λ (n : ℕ). n + length more) fits.sum ∙ ap wrote_in (sym acts);
      short = rw is (omega (arith, size, here, fits.short));
      few = omega (arith, length-append text more, long);
      counted = omega (arith, length-append dids (did ∷ []), counted);
    }

pub fits_sync : (first bytes text : List ℕ) (dids : List DiskDid) (room number later : ℕ) → FitsDisk first bytes text dids room number → length dids + 1 ≤ later
    → FitsDisk first bytes text (dids ++ Synced ∷ []) room later
fits_sync first bytes text dids room number later fits counted =
    let acts = acts_synced text dids in
    record {
      seen = fits.seen ∙ ap (λ (x : List DiskAct). (disk_state_of (states_after first x)).seen) (sym acts);
      parts = subst (λ (x : List DiskDid). AllByRecursion (IsPartialWrite (length text)) x) (sym (reverse-append dids (Synced ∷ []))) (tt, fits.parts);
      sum = fits.sum ∙ ap wrote_in (sym acts);
      short = fits.short;
      few = fits.few;
      counted = omega (arith, length-append dids (Synced ∷ []), counted);
    }

pub fits_later : (first bytes text : List ℕ) (dids : List DiskDid) (room number later : ℕ) → FitsDisk first bytes text dids room number → number ≤ later
    → FitsDisk first bytes text dids room later
fits_later first bytes text dids room number later fits le = record {
  seen = fits.seen;
  parts = fits.parts;
  sum = fits.sum;
  short = fits.short;
  few = fits.few;
  counted = omega (arith, fits.counted, le);
}

-- ---- writing in a file

pub over_inside : (file bytes : List ℕ) (at : ℕ) → at + length bytes < length file → take at file ++ (bytes ++ drop (at + length bytes) file) ≡ bytes_written at bytes file
over_inside file bytes at lt =
    let none : at - length file ≡ 0 = omega (arith, lt) in
    rw none (ap (λ (x : List ℕ). x ++ (bytes ++ drop (at + length bytes) file)) (sym (append-nil (take at file))))

pub over_end : (file bytes : List ℕ) (at : ℕ) → length file ≤ at + length bytes → padded at file ++ bytes ≡ bytes_written at bytes file
over_end file bytes at le = ap (λ (x : List ℕ). padded at file ++ x) (sym (append-nil bytes) ∙ ap (λ (x : List ℕ). bytes ++ x) (sym (drop_all (at + length bytes) file le)))

-- ---- the number of a call

pub going : (s : MemDiskState) → (IsRefused s → ⊥) → s.calls.number < s.most
going s not = elim (cases_lt s.calls.number s.most) [ inl lt ↦ lt | inr le ↦ absurd (not (inr le)) ]

pub count_up : (n most : ℕ) → n < most → most < 2 ^ 32 → count_after n ≡ n + 1
count_up n most lt low = min-eq_left {n = n + 1} {m = last_count} (omega (arith, lt, low))

pub short_enough : (s : MemDiskState) (at count : ℕ) → (IsWriteTooLong s at count → ⊥) → (at + count ≤ s.room) × (wrote_in s.acts + count ≤ s.room)
short_enough s at count not = (below (at + count) (λ lt. not (inl lt)), below (wrote_in s.acts + count) (λ lt. not (inr lt)))
  where
    below : (n : ℕ) → (s.room < n → ⊥) → n ≤ s.room
    below n over = elim (cases_lt s.room n) [ inl lt ↦ absurd (over lt) | inr le ↦ le ]

pub refuted : (b : Bool) (P : Type 0) → b ≡ true ↔ P → b ≡ false → P → ⊥
refuted b P e isnt p = let clash : true ≡ false = sym (e.1 p) ∙ isnt in cc clash

pub fits_new : (bytes : List ℕ) (room number : ℕ) → length bytes ≤ room → FitsDisk bytes bytes [] [] room number
unfolding acts_of
fits_new bytes room number le = record { seen = refl; parts = tt; sum = refl; short = le; few = omega arith; counted = omega arith }

-- ---- the ranges since the last sync

pub within_at : (room : ℕ) (spans : List Span) (i : ℕ) (d : Span) → i < length spans → AllByRecursion (IsSpanWithin room) spans → IsSpanWithin room (get_or spans i d)
within_at room [] i d lt all = absurd (omega (arith, lt))
within_at room (span ∷ spans) zero d lt all = all.0
within_at room (span ∷ spans) (suc i) d lt all = within_at room spans i d (omega (arith, lt)) all.1

within_more : (room : ℕ) (spans : List Span) (span : Span) → AllByRecursion (IsSpanWithin room) spans → IsSpanWithin room span → AllByRecursion (IsSpanWithin room) (spans ++ span ∷ [])
within_more room [] span all last = (last, tt)
within_more room (x ∷ spans) span all last = (all.0, within_more room spans span all.1 last)

ranges_more : (spans : List Span) (span : Span) → ranges_of (spans ++ span ∷ []) ≡ range_of span ∷ ranges_of spans
unfolding ranges_of
ranges_more spans span = ap (map range_of) (reverse-append spans (span ∷ []))

pub no_ranges : ranges_of [] ≡ []
unfolding ranges_of
no_ranges = refl

-- one range more is filled
pub fills_more : (byte : ℕ) (synced file new : List ℕ) (spans : List Span) (i : ℕ) (d : Span) → i < length spans → file ≡ fills byte (ranges_of (take i spans)) synced
    → new ≡ bytes_written (get_or spans i d).at (replicate (get_or spans i d).count byte) file → new ≡ fills byte (ranges_of (take (i + 1) spans)) synced
fills_more byte synced file new spans i d lt was is =
    let span = get_or spans i d in
    let ranges : ranges_of (take (i + 1) spans) ≡ range_of span ∷ ranges_of (take i spans) =
    ap (λ (n : ℕ). ranges_of (take n spans)) (the (i + 1 ≡ suc i) (omega arith)) ∙ ap ranges_of (take-suc spans i d lt) ∙ ranges_more (take i spans) span in
    is ∙ ap (λ (x : List ℕ). bytes_written span.at (replicate span.count byte) x) was ∙ sym (ap (λ (x : List Range). fills byte x synced) ranges)
  where
    the : (A : Type 0) → A → A
    the A x = x

pub keeps_new : (bytes : List ℕ) (room : ℕ) → length bytes ≤ room → KeepsSynced bytes [] [] bytes [] room
unfolding acts_of
keeps_new bytes room le = record { file = refl; ranges = no_ranges; within = tt; short = le; few = omega arith }

pub keeps_write : (first text more synced : List ℕ) (dids : List DiskDid) (spans : List Span) (room at : ℕ) → AllByRecursion (IsPartialWrite (length text)) (reverse dids)
    → KeepsSynced first text dids synced spans room → at + length more ≤ room
    → KeepsSynced first (text ++ more) (dids ++ Wrote at (length text) (length more) ∷ []) synced (spans ++ record { at = at; count = length more } ∷ []) room
keeps_write first text more synced dids spans room at parts keeps here =
    let did = Wrote at (length text) (length more) in
    let span : Span = record { at = at; count = length more } in
    let acts = acts_more at text more dids parts in
    record {
      file = keeps.file ∙ ap (λ (x : List DiskAct). (disk_state_of (states_after first x)).synced) (sym acts);
      ranges = ranges_more spans span ∙ ap (λ (x : List Range). range_of span ∷ x) keeps.ranges ∙ ap (λ (x : List DiskAct). (disk_state_of (states_after first x)).ranges) (sym acts);
      within = within_more room spans span keeps.within here;
      short = keeps.short;
      few = omega (arith, keeps.few, length-append spans (span ∷ []), length-append dids (did ∷ []));
    }

pub keeps_sync : (first bytes text synced : List ℕ) (dids : List DiskDid) (room number : ℕ) → FitsDisk first bytes text dids room number → synced ≡ bytes
    → KeepsSynced first text (dids ++ Synced ∷ []) synced [] room
keeps_sync first bytes text synced dids room number fits is =
    let acts = acts_synced text dids in
    record {
      file = is ∙ fits.seen ∙ ap (λ (x : List DiskAct). (disk_state_of (states_after first x)).synced) (sym acts);
      ranges = no_ranges ∙ ap (λ (x : List DiskAct). (disk_state_of (states_after first x)).ranges) (sym acts);
      within = tt;
      short = rw is fits.short;
      few = omega arith;
    }
