-- The log of a replica after an entry of its core.
use Rattle.std.proofs.Common.{◌≡◌, ◌≢◌, ℕ, ◌+◌, ◌<◌, ◌≤◌, refl, List, [], ◌∷◌, ◌++◌, length, reverse, drop, sym, ◌∙◌, ap, ap₂, subst, arith}
use Rattle.std.specs.List.{AllByRecursion, slice_range}
use Rattle.std.proofs.lemmas.List.Folds.{drop_split}
use Rattle.std.proofs.Math.Seq.{drop-append_seam, drop-length}
use Rattle.std.proofs.lemmas.List.{reverse-append, reverse-reverse, length-reverse, length-append, length-drop, append-nil}
use Rattle.ritas_base.specs.declared.item.Msg.{Msg}
use Rattle.ritas_base.specs.declared.id.Id.{Id}
use Rattle.layer_api.specs.OneValue.{ValueLaws}
use Rattle.layer_api.specs.Service.{WordLaws, IsPart}
use Rattle.keyed_channel.specs.KeyRow.{KeyRow}
use Rattle.command_log.specs.Rows.{Row, Start, entries_of_log, rows_over, chain_rows}
use Rattle.command_log.specs.Rows.{CommandEntry as Command}
use Rattle.command_log.specs.Standing.{Ledger, StandsFor}
use Rattle.ritas_core.specs.declared.kernel.Core.{Core}
use Rattle.ritas_core.specs.Rules.{Rules, seat_of}
use Rattle.ritas_core.specs.Parts.{Entry, parts}
use Rattle.ritas_core.specs.Checks.{IsHistory}
use Rattle.ritas_core.specs.Machine.{CoreState, with_lost}
use Rattle.ritas_core.specs.Laws.{LayerLaws, WordsAreProper}
use Rattle.ritas_core.specs.Stands.{Meaning, CoreStands}
use Rattle.ritas_core.specs.StandsLaws.{layer_laws}
use Rattle.replica.specs.Out.{OutFrame}
use Rattle.replica.specs.declared.replica.Replica.{Replica}
use Rattle.replica.specs.CommandRows.{command_of, ids_at, entries_at, history_rows, Follows, LiesBetween, HasCommand}
use Rattle.replica.specs.Steps.{PutsOut, SameRest, FeedsOnly, FeedsSome, FeedsLog}
use Rattle.replica.proofs.Growing.{Grows, grows, rows_grow, rows_lost, part_itself}

all_append : (P : Id → Type 0) (xs ys : List Id) → AllByRecursion P xs → AllByRecursion P ys → AllByRecursion P (xs ++ ys)
all_append P [] ys all rest = rest
all_append P (x ∷ xs) ys all rest = (all.0, all_append P xs ys all.1 rest)

all_reverse : (P : Id → Type 0) (xs : List Id) → AllByRecursion P xs → AllByRecursion P (reverse xs)
all_reverse P [] all = tt
all_reverse P (x ∷ xs) all =
    subst (λ (ys : List Id). AllByRecursion P ys) (sym (reverse-append (x ∷ []) xs)) (all_append P (reverse xs) (x ∷ []) (all_reverse P xs all.1) (all.0, tt))

-- what is left of a list
pub rest_of : (done ids : List Id) (fed : ℕ) → fed ≤ length done → ids ≡ slice_range done fed (length done) → ids ≡ drop fed done
rest_of done ids fed within is =
    is
    ∙ sym (drop_split done fed (length done) within ∙ ap (λ (t : List Id). slice_range done fed (length done) ++ t) (drop-length done)
    ∙ append-nil (slice_range done fed (length done)))

-- where something is left, there are more than were entered
pub more_left : (done ids : List Id) (fed : ℕ) → ids ≡ drop fed done → ids ≢ [] → fed < length done
more_left done [] fed is some = absurd (some refl)
more_left done (x ∷ ids) fed is some = omega (arith, ap length is, length-drop fed done)

-- the identifiers that a core's service answers
pub done_by : {S E C : Type 0} (m : Meaning S E C KeyRow) (core : Core S E C KeyRow) (r : Rules) (st : CoreState) → CoreStands m core r st →
    (done : List Id) → done ≡ reverse (m.service.done (seat_of r) (parts r st.history).words) → done ≡ reverse (ids_at r st.history)
done_by m core r st stands done is =
    is ∙ ap (λ (q : Rules). reverse (q.service.done (seat_of r) (parts r st.history).words)) stands.rules

-- a log that follows has the rows of the history
pub rows_are : {s : Start} {r : Rules} {h : List Entry} {log : Ledger} {fed : ℕ} → Follows s r h log fed → log.rows ≡ history_rows s r h
rows_are {s} {r} {h} {log} follows =
    follows.stands.rows ∙ ap₂ (λ (t : Start) (f : ℕ). rows_over t f (entries_at r h)) follows.start follows.f

module _ {S E C : Type 0} (s : Start) (m : Meaning S E C KeyRow) (values : ValueLaws m.cast) (words : WordLaws m.service) (proper : WordsAreProper)
    (core : Core S E C KeyRow) (r : Rules) (st : CoreState) (stands : CoreStands m core r st) where
  laws : LayerLaws r
  laws = layer_laws m values words core r st stands

  -- what a stop lost only adds rows
  pub lost_rows : IsPart (history_rows s r st.history) (history_rows s r (with_lost st))
  lost_rows = rows_lost s r laws st.lost st.history (proper r laws st.history stands.history) (proper r laws (with_lost st) stands.whole)

  module _ (e : Entry) (h : List Entry) (is : st.history ≡ e ∷ h) (done : List Id) (shows : done ≡ reverse (ids_at r st.history))
      (log : Ledger) (fed : ℕ) (before : Follows s r h log fed) where
    met : IsHistory r (e ∷ h)
    met = subst (λ (x : List Entry). IsHistory r x) is stands.history

    grown : Grows r e h
    grown = grows r laws e h (proper r laws h met.1) (proper r laws (e ∷ h) met)

    done_is : done ≡ reverse (ids_at r h) ++ reverse grown.more
    done_is =
        shows ∙ ap (λ (x : List Entry). reverse (ids_at r x)) is ∙ ap reverse (sym grown.whole) ∙ reverse-append grown.more (ids_at r h)

    -- as many as were entered are there
    pub not_short : length done < fed → ⊥
    not_short short =
        let len = length-append (reverse (ids_at r h)) (reverse grown.more) in
        let old = length-reverse (ids_at r h) in
        omega (arith, short, before.count, len, old, ap length done_is)

    pub all_fed : length done ≡ length (ids_at r (e ∷ h))
    all_fed = ap length (shows ∙ ap (λ (x : List Entry). reverse (ids_at r x)) is) ∙ length-reverse (ids_at r (e ∷ h))

    -- the log stood for the commands of before, as they are delivered now
    pub stood : StandsFor log (entries_of_log (command_of r st.history) (ids_at r h))
    stood =
        subst (λ (x : List Entry). StandsFor log (entries_of_log (command_of r x) (ids_at r h))) (sym is)
        (subst (λ (es : List Command). StandsFor log es) grown.same before.stands)

    -- the others are those of the entry
    module _ (ids : List Id) (rest : ids ≡ drop fed done) where
      ids_are : ids ≡ reverse grown.more
      ids_are =
          rest ∙ ap (λ (n : ℕ). drop n done) (before.count ∙ sym (length-reverse (ids_at r h))) ∙ ap (drop (length (reverse (ids_at r h)))) done_is
          ∙ drop-append_seam (reverse (ids_at r h)) (reverse grown.more)

      pub have_all : AllByRecursion (HasCommand r st.history) ids
      have_all =
          subst (λ (x : List Entry). AllByRecursion (HasCommand r x) ids) (sym is)
          (subst (λ (xs : List Id). AllByRecursion (HasCommand r (e ∷ h)) xs) (sym ids_are) (all_reverse (HasCommand r (e ∷ h)) grown.more grown.have))

      pub has_room : length log.start.base + length (ids_at r h) + length ids < 4294967295
      has_room =
          let base : length log.start.base ≡ length s.base = ap (λ (t : Start). length t.base) before.start in
          let most : length s.base ≤ 4200000000 = before.room in
          let room = grown.room in let len = length-reverse grown.more in omega (arith, base, most, room, len, ap length ids_are)

      -- they and those of before are all
      all_ids : reverse ids ++ ids_at r h ≡ ids_at r (e ∷ h)
      all_ids = ap (λ (l : List Id). l ++ ids_at r h) (ap reverse ids_are ∙ reverse-reverse grown.more) ∙ grown.whole

      all_entries : entries_of_log (command_of r st.history) (reverse ids ++ ids_at r h) ≡ entries_at r (e ∷ h)
      all_entries = ap (λ (x : List Entry). entries_of_log (command_of r x) (reverse ids ++ ids_at r h)) is ∙ ap (entries_of_log (command_of r (e ∷ h))) all_ids

      pub follows_now : (now : Ledger) → now.f ≡ log.f → now.start ≡ log.start → StandsFor now (entries_of_log (command_of r st.history) (reverse ids ++ ids_at r h))
          → Follows s r (e ∷ h) now (length done)
      follows_now now same starts is_now = record { f = same ∙ before.f; start = starts ∙ before.start; room = before.room; stands = subst (λ (es : List Command). StandsFor now es) all_entries is_now; count = all_fed }

      -- the log began there, and has so many faulty replicas
      its_rows : (es fs : List Command) → es ≡ fs → rows_over log.start log.f es ≡ rows_over s r.casts.numbers.f fs
      its_rows es fs same =
          ap₂ (λ (t : Start) (f : ℕ). rows_over t f es) before.start before.f ∙ ap (rows_over s r.casts.numbers.f) same

      pub lies_between : (now : List Row) → IsPart (chain_rows log.start log.f (command_of r st.history) (ids_at r h)) now
          × IsPart now (chain_rows log.start log.f (command_of r st.history) (reverse ids ++ ids_at r h)) → LiesBetween s r h (e ∷ h) now
      lies_between now part = (
        subst (λ (rows : List Row). IsPart rows now)
            (its_rows (entries_of_log (command_of r st.history) (ids_at r h)) (entries_at r h)
            (ap (λ (x : List Entry). entries_of_log (command_of r x) (ids_at r h)) is ∙ sym grown.same)) part.0,
        subst (λ (rows : List Row). IsPart now rows)
            (its_rows (entries_of_log (command_of r st.history) (reverse ids ++ ids_at r h)) (entries_at r (e ∷ h)) all_entries) part.1,
      )

    -- a log that follows lies between
    pub follows_between : (now : Ledger) (count : ℕ) → Follows s r (e ∷ h) now count → LiesBetween s r h (e ∷ h) now.rows
    follows_between now count follows =
        subst (λ (rows : List Row). LiesBetween s r h (e ∷ h) rows) (sym (rows_are follows))
        (rows_grow r laws e h (proper r laws h met.1) (proper r laws (e ∷ h) met) s, part_itself (history_rows s r (e ∷ h)))

-- ---- the log is fed, and then frames are sealed
module _ {S E C : Type 0} (m : Meaning S E C KeyRow) (old mid new : Replica S E C) (only : FeedsOnly old mid) (same : SameRest mid new) where
  pub core_kept : new.core ≡ old.core
  core_kept = same.core ∙ ap (λ (x : Replica S E C). x.core) only

  pub halted_kept : new.stopped ≡ old.stopped
  halted_kept = same.halted ∙ ap (λ (x : Replica S E C). x.stopped) only

  pub sent_kept : mid.sent ≡ old.sent
  sent_kept = ap (λ (x : Replica S E C). x.sent) only

  pub puts_out : (ms : List Msg) (before after : List OutFrame) → PutsOut mid new ms before after → PutsOut old new ms before after
  puts_out ms before after puts =
      let from_old = subst (λ (x : Replica S E C). PutsOut x new ms before after) only puts in
      record { core = from_old.core; halted = from_old.halted; counts = from_old.counts }

  pub some_kept : FeedsSome m old mid → FeedsSome m old new
  some_kept some s r st e h stands live is before =
      subst (λ (log : Ledger). (log.start ≡ s) × LiesBetween s r h (e ∷ h) log.rows) (sym same.log) (some s r st e h stands live is before)

  pub feeds_kept : FeedsLog m old mid → FeedsLog m old new
  feeds_kept feeds = record {
    follows = λ s r st e h stands live is before.
        let now = feeds.follows s r st e h stands live is before in
        subst (λ (log : Ledger). Follows s r (e ∷ h) log new.fed) (sym same.log) (record { f = now.f; start = now.start; room = now.room; stands = now.stands; count = same.fed ∙ now.count });
    some = some_kept feeds.some;
  }
