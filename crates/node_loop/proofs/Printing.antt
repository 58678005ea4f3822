-- The events that a stop leaves in a journal make each frame that went out for the first time in the life before it.
use Rattle.std.proofs.Common.{◌≡◌, ℕ, true, false, List, [], ◌∷◌, ◌++◌, length, map, reverse, take, drop, Some, refl, sym, ◌∙◌, ap, ap₂, subst, append_assoc, inl, inr, ◌⊎◌}
use Rattle.std.specs.List.{AllByRecursion}
use Rattle.std.proofs.lemmas.List.{append-nil, map-append, reverse-append, drop-map, drop_at, take-append-drop}
use Rattle.std.proofs.lemmas.List.Elements.{All-from_recursion}
use Rattle.ritas_base.specs.declared.event.Event.{Event}
use Rattle.ritas_base.specs.declared.event.Event.TheVariants as events
use Rattle.keyed_channel.specs.KeyRow.{KeyRow}
use Rattle.ritas_core.specs.Stands.{Meaning}
use Rattle.replica.specs.declared.replica.Replica.{Replica}
use Rattle.outside.specs.LinkCalls.{TookBack}
use Rattle.outside.specs.LinkCallsLaws.{back_all, back_more, back_then}
use Rattle.outside.specs.Links.{LinkAct, Gives}
use Rattle.outside.specs.declared.disk.Disk.{Ghosts as DiskGhosts}
use Rattle.outside.specs.declared.link.LinkItem.TheVariants as items
use Rattle.outside.specs.declared.link.Sent.{Sent}
use Rattle.event_journal.specs.Journal.{Opens, OpensAs}
use Rattle.world_model.specs.MadeOrder.{MadeFrame, all_made}
use Rattle.world_model.specs.Stands.{NoneStops}
use Rattle.world_model.specs.World.{Setting}
use Rattle.node_loop.specs.declared.limits.Limits.{Limits}
use Rattle.node_loop.specs.declared.archive.ArchiveFault.{ArchiveFault}
use Rattle.node_loop.specs.declared.archive.ArchiveFault.TheVariants as archive
use Rattle.node_loop.specs.declared.end.ServeEnd.{ServeEnd}
use Rattle.node_loop.specs.declared.end.ServeEnd.TheVariants as ends
use Rattle.node_loop.specs.Archives.{Moment, KeptAt, reach}
use Rattle.node_loop.specs.Deeds.{Deed, Came, Made, Resent, Acked, Wished, Replied, act_of, firsts_in}
use Rattle.node_loop.specs.Journals.{journal_moment}
use Rattle.node_loop.specs.Keeping.{IsCallEvent, kept_of}
use Rattle.node_loop.specs.Laws.{IsServed, all_frames_of, sent_as}
use Rattle.node_loop.specs.LivesPrint.{first_sendings, MakesFirsts, PrintsLife, life_deeds, LivesPrint, Life, AreLives, AllLivesPrint}
use Rattle.node_loop.specs.Outs.{Outs, Tells}
use Rattle.node_loop.specs.Recovering.{recovered}
use Rattle.node_loop.specs.Served.{MayBegin}
use Rattle.node_loop.specs.ServedKept.{EndsKept, earlier_kept, newest_kept}
use Rattle.node_loop.specs.Serving.{Serving, so_far, frames_made_by, Want, Round, Began, Turned, Closed, Reminded, Took}
use Rattle.node_loop.specs.Told.{AreGroups, after_groups, came_for, came_in, newest_deeds, deeds_from, told_from, newest_calls, sooner}
use Rattle.node_loop.proofs.Fitting.{all_fit}
use Rattle.node_loop.proofs.FramesSent.{acts_are, are_made, items_acts, made_next, newest_behind}
use Rattle.node_loop.proofs.Grouping.{kept_parts}
use Rattle.node_loop.proofs.KeptEvents.{makes_kept}

-- ---- what went out for the first time

firsts_both : (a b : List Deed) → firsts_in (a ++ b) ≡ firsts_in a ++ firsts_in b
firsts_both [] b = refl
firsts_both (Came now item ∷ a) b = firsts_both a b
firsts_both (Made f ∷ a) b = ap (λ (l : List MadeFrame). f ∷ l) (firsts_both a b)
firsts_both (Resent i j frame ∷ a) b = firsts_both a b
firsts_both (Acked i j seq ∷ a) b = firsts_both a b
firsts_both (Wished i j seq ∷ a) b = firsts_both a b
firsts_both (Replied sent ∷ a) b = firsts_both a b

sendings_parts : (rest done : List Deed) → first_sendings (rest ++ done) ≡ first_sendings done ++ first_sendings rest
sendings_parts rest done =
    let a = firsts_in rest in
    let b = firsts_in done in
    ap (λ (l : List MadeFrame). map sent_as (reverse l)) (firsts_both rest done)
    ∙ (ap (map sent_as) (reverse-append a b) ∙ map-append sent_as (reverse b) (reverse a))

-- no item is any
item_none : (x : Round) (group : List Round) → firsts_in (came_for x group) ≡ []
item_none (Began item) [] = refl
item_none (Began item) (y ∷ group) = refl
item_none (Turned i) [] = refl
item_none (Closed i epoch) [] = refl
item_none (Turned i) (y ∷ group) = refl
item_none (Closed i epoch) (y ∷ group) = refl
item_none (Reminded i j) [] = refl
item_none (Reminded i j) (y ∷ group) = refl
item_none (Took item) [] = refl
item_none (Took item) (y ∷ group) = refl

items_none : (group : List Round) → firsts_in (came_in group) ≡ []
items_none [] = refl
items_none (x ∷ group) =
    firsts_both (came_for x group) (came_in group)
    ∙ ap₂ (λ (a b : List MadeFrame). a ++ b) (item_none x group) (items_none group)

behind_items : (group : List Round) (ds : List Deed) → first_sendings (came_in group ++ ds) ≡ first_sendings ds
behind_items group ds =
    let none = ap (λ (l : List MadeFrame). l ++ firsts_in ds) (items_none group) in
    ap (λ (l : List MadeFrame). map sent_as (reverse l)) (firsts_both (came_in group) ds ∙ none)

-- ---- what is kept

called : (w : Setting) (e : Event) → IsServed w e → IsCallEvent e
called w (events.Frame to bytes) is = tt
called w (events.Input at bytes) is = tt
called w (events.Turn at) is = tt
called w (events.Pass from to m) is = is
called w (events.Sealed from to body) is = is

all_called : (w : Setting) (es : List Event) → AllByRecursion (IsServed w) es → AllByRecursion IsCallEvent es
all_called w [] all = tt
all_called w (e ∷ es) all = (called w e all.0, all_called w es all.1)

-- ---- a life

-- it began after these events, in a world in which none stops
module _ (w : Setting) (going : NoneStops w) (past : List Event) where
  abbrev begun : Serving
  begun = recovered w past

  abbrev pub kept_in : List (List Round) → List Event
  kept_in groups = kept_of w past (after_groups w past begun groups).events

  abbrev pub deeds_in : List (List Round) → List Deed
  deeds_in groups = deeds_from w past begun [] groups

  abbrev pub news_in : List (List Round) → List LinkAct
  news_in groups = newest_calls w past begun groups

  abbrev pub sooner_in : List (List Round) → List LinkAct
  sooner_in groups = sooner w past begun groups

  abbrev pub newest_in : List (List Round) → List Event
  newest_in groups = newest_kept w past begun groups

  abbrev pub earlier_in : List (List Round) → List Event
  earlier_in groups = earlier_kept w past begun groups

  pub newest_and_earlier : (groups : List (List Round)) → newest_in groups ++ earlier_in groups ≡ kept_in groups
  newest_and_earlier [] = refl
  newest_and_earlier (group ∷ older) = sym (kept_parts w past (after_groups w past begun older) group)

  calls_are : (groups : List (List Round)) → news_in groups ++ sooner_in groups ≡ told_from w past begun groups
  calls_are [] = refl
  calls_are (group ∷ older) = refl

  pub calls_done : (groups : List (List Round))
      → news_in groups ++ sooner_in groups ≡ map (act_of w.keys) (deeds_in groups)
  calls_done groups = calls_are groups ∙ acts_are w past begun groups

  module _ (limits : Limits) where
    -- what is kept makes what went out for the first time
    pub kept_make : (groups : List (List Round)) → AreGroups w past limits begun groups
        → all_frames_of w (kept_in groups ++ past) ≡ all_frames_of w past ++ first_sendings (deeds_in groups)
    kept_make groups are =
        let es = (after_groups w past begun groups).events in
        let served = all_fit w past limits begun groups (All-from_recursion MayBegin [] tt) tt are in
        let before = all_made w past in
        let made = are_made w past begun before [] groups (sym (append-nil before)) in
        makes_kept w past es going (all_called w es served)
        ∙ (ap (map sent_as) made ∙ map-append sent_as before (reverse (firsts_in (deeds_in groups))))

    module _ (es : List Event) (before now : List LinkAct) where
      -- where all is kept, and the link did the older ones of the deeds
      pub all_print : (groups : List (List Round)) → AreGroups w past limits begun groups
          → es ≡ kept_in groups ++ past → TookBack before now (Gives items.End ∷ (news_in groups ++ sooner_in groups))
          → PrintsLife w past es (life_deeds w past groups) before now
      all_print groups are is took =
          let deeds = life_deeds w past groups in
          let calls : map (act_of w.keys) deeds ≡ took.rest ++ took.back =
          ap (λ (l : List LinkAct). Gives items.End ∷ l) (sym (calls_done groups)) ∙ took.parts in
          let many = length took.rest in
          let rest = take many deeds in
          let done = drop many deeds in
          let parts : deeds ≡ rest ++ done = sym (take-append-drop many deeds) in
          let acts : map (act_of w.keys) done ≡ took.back =
          sym (drop-map (act_of w.keys) many deeds) ∙ (ap (drop many) calls ∙ drop_at took.rest took.back many refl) in
          let sent : first_sendings (deeds_in groups) ≡ first_sendings done ++ first_sendings rest =
          ap first_sendings parts ∙ sendings_parts rest done in
          record {
            rest = rest;
            done = done;
            parts = parts;
            told = took.told ∙ ap (λ (l : List LinkAct). l ++ before) (sym acts);
            grown = (kept_in groups, sym is);
            makes = (
              first_sendings rest,
              ap (all_frames_of w) is
                  ∙ (kept_make groups are ∙ ap (λ (l : List Sent). all_frames_of w past ++ l) sent),
            );
          }

      -- where all but the newest group's is, of which nothing went out
      pub older_print : (groups : List (List Round)) → AreGroups w past limits begun groups
          → es ≡ earlier_in groups ++ past → now ≡ sooner_in groups ++ before
          → PrintsLife w past es (life_deeds w past groups) before now
      older_print [] are is none =
          all_print [] are is (back_more before now [] (Gives items.End ∷ []) (back_all before now [] none))
      older_print (group ∷ older) are is none =
          let below = deeds_in older in
          let done = came_in group ++ below in
          let s = after_groups w past begun older in
          let acts : map (act_of w.keys) done ≡ sooner_in (group ∷ older) =
          map-append (act_of w.keys) (came_in group) below
          ∙ ap₂ (λ (a b : List LinkAct). a ++ b) (items_acts w.keys group) (sym (acts_are w past begun older)) in
          let sent : first_sendings below ≡ first_sendings done ++ [] =
          sym (behind_items group below) ∙ sym (append-nil (first_sendings done)) in
          record {
            rest = Came false items.End ∷ newest_deeds w past s [] group;
            done = done;
            parts = ap (λ (l : List Deed). Came false items.End ∷ l) (newest_behind w past s [] done group);
            told = none ∙ ap (λ (l : List LinkAct). l ++ before) (sym acts);
            grown = (kept_in older, sym is);
            makes = (
              [],
              ap (all_frames_of w) is
                  ∙ (kept_make older are.2 ∙ ap (λ (l : List Sent). all_frames_of w past ++ l) sent),
            );
          }

      -- where its events are kept or not, and nothing of it went out
      pub either_print : (groups : List (List Round)) → AreGroups w past limits begun groups
          → (es ≡ (newest_in groups ++ earlier_in groups) ++ past) ⊎ (es ≡ earlier_in groups ++ past)
          → now ≡ sooner_in groups ++ before → PrintsLife w past es (life_deeds w past groups) before now
      either_print groups are (inl with_it) none =
          let took = back_all before now (sooner_in groups) none in
          all_print groups are (with_it ∙ ap (λ (l : List Event). l ++ past) (newest_and_earlier groups))
          (back_more before now (sooner_in groups) (Gives items.End ∷ news_in groups) took)
      either_print groups are (inr without) none = older_print groups are without none

-- ---- its end

-- where what stands or fails says as which events an image opens
module _ {S E C : Type 0} (m : Meaning S E C KeyRow) (w : Setting) (going : NoneStops w) (past : List Event)
    (numbers : List ℕ) (here : List (Replica S E C)) (tells : Tells) (base : Outs) (now : Moment)
    (linked : tells.link ≡ true) (es : List Event)
    (stands : (given : List Event) → now.stands given → es ≡ given ++ past)
    (fails : (fault : ArchiveFault) (group older : List Event) → now.fails fault group older
    → (es ≡ (group ++ older) ++ past) ⊎ (es ≡ older ++ past))
    (limits : Limits) (groups : List (List Round)) (are : AreGroups w past limits (recovered w past) groups) where
  abbrev news : List LinkAct
  news = news_in w going past groups

  abbrev old_calls : List LinkAct
  old_calls = sooner_in w going past groups

  abbrev kept : List Event
  kept = kept_in w going past groups

  abbrev newest : List Event
  newest = newest_in w going past groups

  abbrev earlier : List Event
  earlier = earlier_in w going past groups

  abbrev Prints : Type 0
  Prints = PrintsLife w past es (life_deeds w past groups) base.told now.outs.told

  abbrev NothingNew : Type 0
  NothingNew = tells.link ≡ true → now.outs.told ≡ old_calls ++ base.told

  older_left : now.stands earlier → NothingNew → Prints
  older_left held none =
      older_print w going past limits es base.told now.outs.told groups are (stands earlier held) (none linked)

  all_left : now.stands kept → TookBack base.told now.outs.told (Gives items.End ∷ (news ++ old_calls)) → Prints
  all_left held took = all_print w going past limits es base.told now.outs.told groups are (stands kept held) took

  -- all of them were told
  whole_left : now.stands kept → (tells.link ≡ true → now.outs.told ≡ (news ++ old_calls) ++ base.told) → Prints
  whole_left held told =
      let took = back_all base.told now.outs.told (news ++ old_calls) (told linked) in
      all_left held (back_more base.told now.outs.told (news ++ old_calls) (Gives items.End ∷ []) took)

  -- of the newest group's some were
  some_left : now.stands kept → (tells.link ≡ true → TookBack (old_calls ++ base.told) now.outs.told news) → Prints
  some_left held took =
      let behind = back_then base.told (old_calls ++ base.told) now.outs.told old_calls news refl (took linked) in
      all_left held (back_more base.told now.outs.told (news ++ old_calls) (Gives items.End ∷ []) behind)

  failed : (fault : ArchiveFault) → now.fails fault newest earlier → NothingNew → Prints
  failed fault held none =
      let opens = fails fault newest earlier held in
      either_print w going past limits es base.told now.outs.told groups are opens (none linked)

  pub end_prints : (end : ServeEnd) (before written : List Event) (s : Serving) (rule : Want)
      → EndsKept m w [] numbers here tells base now.outs end before s old_calls news rule
      → KeptAt now (reach tells base now.outs before written old_calls) kept newest earlier end → Prints
  end_prints ends.Over before written s rule so held = whole_left held so.agrees.told
  end_prints ends.Done before written s rule so held = whole_left held so.agrees.told
  end_prints ends.Limit before written s rule so held = whole_left held so.agrees.told
  end_prints (ends.KeptFull x) before written s rule so held = whole_left held so.agrees.told
  end_prints ends.End before written s rule so held =
      all_left held (back_all base.told now.outs.told (Gives items.End ∷ (news ++ old_calls)) (so.agrees.told linked))
  end_prints ends.LinkFault before written s rule so held = elim held [
    | inl all ↦ some_left all.1 so.0.told
    | inr some ↦ older_left some.1 some.0.1
  ]
  end_prints ends.TapeFault before written s rule so held = older_left held so.0.order
  end_prints ends.Mem before written s rule so held = elim held [
    | inl all ↦ elim all.1 [ inl stood ↦ some_left stood so.told | inr broke ↦ failed archive.Mem broke.1 broke.0 ]
    | inr some ↦ older_left some.1 some.0.1
  ]
  end_prints ends.DiskFault before written s rule so held = failed archive.Disk held so.0.order.1
  end_prints (ends.JournalFull x) before written s rule so held = failed (archive.Full x) held so.0.order.1

-- ---- the journal

-- a file has one reading
abbrev pub OneReading : Type 0
OneReading = (me : ℕ) (head file : List ℕ) (es fs : List Event) → length head ≡ 51 → OpensAs me head file es
    → OpensAs me head file fs → es ≡ fs

pub lives_print : OneReading → {S E C D : Type 0} (m : Meaning S E C KeyRow) (storage : DiskGhosts D)
    → LivesPrint m storage
lives_print one m storage head w past numbers here tells base outs me old new journal end limits going long stored
    linked served image es may opens =
    let now = journal_moment storage head past me old outs journal new in
    let reads : (fs : List Event) → journal.me ≡ me → Opens journal.me head image fs → es ≡ fs =
    λ fs mine is. one me head image es fs long opens (inr (subst (λ (i : ℕ). Opens i head image fs) mine is)) in
    end_prints m w going past numbers here tells base now linked es
    (λ given held. reads (given ++ past) held.0 ((held.1.kept stored).images image may))
    (λ fault group older held. elim (held.1.left stored image may) [
      | inl with_it ↦ inl (reads (group ++ (older ++ past)) held.0 with_it ∙ sym (append_assoc group older past))
      | inr without ↦ inr (reads (older ++ past) held.0 without)
    ])
    limits served.groups served.are end _ (so_far past (after_groups w past (recovered w past) served.groups)) _ _
    served.so served.kept

-- ---- several lives

-- what was made stays made, at its place
still_makes : (w : Setting) (past mid es : List Event) (ds : List Deed) (more : List Sent)
    → all_frames_of w es ≡ all_frames_of w mid ++ more → MakesFirsts w past mid ds → MakesFirsts w past es ds
still_makes w past mid es ds more grows makes =
    let sent = first_sendings ds in
    let parts = append_assoc (all_frames_of w past) (sent ++ makes.0) more in
    let last = ap (λ (l : List Sent). all_frames_of w past ++ l) (append_assoc sent makes.0 more) in
    (makes.0 ++ more, grows ∙ (ap (λ (l : List Sent). l ++ more) makes.1 ∙ (parts ∙ last)))

still_all : (w : Setting) (mid es : List Event) (more : List Sent) (lives : List Life)
    → all_frames_of w es ≡ all_frames_of w mid ++ more
    → AllByRecursion (λ life. MakesFirsts w life.past mid life.done) lives
    → AllByRecursion (λ life. MakesFirsts w life.past es life.done) lives
still_all w mid es more [] grows all = tt
still_all w mid es more (life ∷ older) grows all =
    (still_makes w life.past mid es life.done more grows all.0, still_all w mid es more older grows all.1)

left_by_all : (w : Setting) (es : List Event) (lives : List Life) → AreLives w es lives
    → AllByRecursion (λ life. MakesFirsts w life.past es life.done) lives
left_by_all w es [] are = tt
left_by_all w es (life ∷ older) are =
    let more = first_sendings life.done ++ are.0.0 in
    (are.0, still_all w life.past es more older are.0.1 (left_by_all w life.past older are.1))

-- more events make more
more_made : (w : Setting) (es more : List Event)
    → (later : List MadeFrame) × (all_made w (more ++ es) ≡ all_made w es ++ later)
more_made w es [] = ([], sym (append-nil (all_made w es)))
more_made w es (e ∷ more) =
    let below = more_made w es more in
    let new = frames_made_by w (more ++ es) (Some e) in (
      below.0 ++ new,
      made_next w more es (Some e)
          ∙ (ap (λ (l : List MadeFrame). l ++ new) below.1 ∙ append_assoc (all_made w es) below.0 new),
    )

pub all_lives : AllLivesPrint
all_lives w es more lives are =
    let made = more_made w es more in
    still_all w es (more ++ es) (map sent_as made.0) lives
    (ap (map sent_as) made.1 ∙ map-append sent_as (all_made w es) made.0)
    (left_by_all w es lives are)
