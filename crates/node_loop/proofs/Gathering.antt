-- Groups of rounds under way, and the ends of serving.
use Rattle.std.proofs.Common.{true, length, ◌≡◌, ℕ, ◌+◌, ◌<◌, ◌≤◌, List, [], ◌∷◌, ◌++◌, refl, sym, ap, subst, ◌∙◌, arith, inl, inr, append_assoc}
use Rattle.std.proofs.lemmas.List.{append-nil}
use Rattle.ritas_base.specs.declared.event.Event.{Event}
use Rattle.keyed_channel.specs.KeyRow.{KeyRow}
use Rattle.ritas_core.specs.Stands.{Meaning}
use Rattle.replica.specs.declared.replica.Replica.{Replica}
use Rattle.outside.specs.Links.{LinkAct, Gives, GivesNow}
use Rattle.outside.specs.LinkCallsLaws.{back_none, back_all}
use Rattle.outside.specs.Writing.{TookFront}
use Rattle.outside.specs.WritingLaws.{front_more, all_written, none_written}
use Rattle.outside.specs.declared.link.FaultCounts.{FaultCounts}
use Rattle.outside.specs.declared.link.LinkItem.{LinkItem}
use Rattle.outside.specs.declared.link.LinkItem.TheVariants as items
use Rattle.world_model.specs.World.{Setting}
use Rattle.node_loop.specs.declared.limits.Limits.{Limits}
use Rattle.node_loop.specs.declared.archive.ArchiveFault.{ArchiveFault}
use Rattle.node_loop.specs.declared.end.Fault.{Fault}
use Rattle.node_loop.specs.declared.end.Fault.TheVariants as faults
use Rattle.node_loop.specs.declared.end.ServeEnd.{ServeEnd}
use Rattle.node_loop.specs.declared.end.ServeEnd.TheVariants as ends
use Rattle.node_loop.specs.declared.group.Group.{Group}
use Rattle.node_loop.specs.declared.house.House.{House}
use Rattle.node_loop.specs.declared.rounds.Next.TheVariants as next
use Rattle.node_loop.specs.Archives.{Moment, Reach, ArchiveLeftAt, KeptAt, reach}
use Rattle.node_loop.specs.Ends.{IsEndOf}
use Rattle.node_loop.specs.Groups.{IsEmpty, MayGrow, IsGroupEnough, GroupHolds, JoinsGroup, Under}
use Rattle.node_loop.specs.Keeping.{kept_of}
use Rattle.node_loop.specs.Outs.{events_text, Outs, Tells, Agrees, InOrder, StopsPartway, IfFailed}
use Rattle.node_loop.specs.Queries.{RoundFits, QueriesFit}
use Rattle.node_loop.specs.Running.{Running, Gathered, IsNext}
use Rattle.node_loop.specs.Served.{AreHere, EndsSo, Serves}
use Rattle.node_loop.specs.ServedKept.{EndsKept, ServesKept, earlier_kept, newest_kept}
use Rattle.node_loop.specs.Serving.{Serving, begin, so_far, Want, first_or, wants, wants_of, Turns, Round, Began, Turned, Took, behind_first, round_does, after_from, IsWanted}
use Rattle.node_loop.specs.Standing.{HouseStands}
use Rattle.node_loop.specs.Told.{given_in, events_from, most_rounds, enough_bytes, MayJoin, IsGroup, IsFull, IsGroupOver, after_groups, AreGroups, before_newest, told_from, newest_calls, sooner}
use Rattle.node_loop.proofs.Grouping.{events_parts, text_parts, holds_none, joins_on}
use Rattle.node_loop.proofs.Rounding.{next_told, GaveNone, memory_short, tape_on, told_parts, next_end, next_finish, next_overflow, next_halt, next_ask, if_failed, ends_so, left_end, left_none, wants_now}
use Rattle.node_loop.proofs.Stepping.{with_link, of_link, whole_order}

-- ---- what the link gave for a group

-- a turn takes nothing of it
pub given_turn : (at : ℕ) (newest : List Round) → given_in (Turned at ∷ newest) ≡ given_in newest
given_turn at [] = refl
given_turn at (y ∷ newest) = refl

-- and an item that joins others was there
pub given_took : (item : LinkItem) (newest : List Round) → (newest ≡ [] → ⊥) → given_in (Took item ∷ newest) ≡ GivesNow item ∷ given_in newest
given_took item [] some = absurd (some refl)
given_took item (y ∷ newest) some = refl

-- a turn or an item may join
pub may_join : (x : Round) (group : Group) → MayJoin x → MayGrow group → (newest : List Round) → JoinsGroup newest x group
may_join x group may goes [] = tt
may_join x group may goes (y ∷ newest) = (may, goes)

-- ---- what is a group

module _ (w : Setting) (past : List Event) (limits : Limits) (start : Serving) where
  one_alone : (x : Round) → IsWanted (wants w past limits start) x → IsGroup w past limits start (x ∷ [])
  one_alone x want = record { some = λ no. absurd (cc); wanted = (want, tt); joined = (tt, tt); most = omega arith }

module _ {S E C : Type 0} (m : Meaning S E C KeyRow) (w : Setting) (past : List Event) (numbers : List ℕ) (tells : Tells) (base : Outs) (limits : Limits) (start : Serving) where
  abbrev after : List (List Round) → Serving
  after groups = after_groups w past start groups

  -- the events before the newest group's
  abbrev before : List (List Round) → List Event
  before groups = (before_newest w past start groups).events

  -- how far it came with these
  abbrev far_at : Outs → List (List Round) → Reach
  far_at now groups = reach tells base now (before groups) (after groups).events (sooner w past start groups)

  abbrev EndedAt : List (Replica S E C) → Moment → ServeEnd → Type 0
  EndedAt here now end = ServesKept m w past numbers here tells base now end limits start

  -- ---- at a fault

  -- it broke in the newest group
  pub at_fault : (groups : List (List Round)) (now : Moment) (here : List (Replica S E C)) (fault : Fault) (end : ServeEnd) → AreGroups w past limits start groups → QueriesFit w past start groups → IsEndOf fault end
      → StopsPartway tells base now.outs fault (before groups) (after groups).events (sooner w past start groups) (newest_calls w past start groups)
      → IfFailed fault (AreHere m w (so_far past (after groups)) numbers here)
      → ArchiveLeftAt now (far_at now.outs groups) (kept_of w past (after groups).events) (newest_kept w past start groups) (earlier_kept w past start groups) fault → EndedAt here now end
  at_fault groups now here fault end are fits is stops stand left = record {
    groups = groups;
    are = are;
    queries = fits;
    so = ends_so m w past numbers here tells base now.outs fault end (before groups) (after groups) (sooner w past start groups) (newest_calls w past start groups)
        (wants w past limits (after groups)) is stops stand;
    kept = left_end now (far_at now.outs groups) (kept_of w past (after groups).events) (newest_kept w past start groups) (earlier_kept w past start groups) fault end is left;
  }

  -- between two groups
  pub breaks_between : (groups : List (List Round)) (now : Moment) (here : List (Replica S E C)) (fault : Fault) (end : ServeEnd) → AreGroups w past limits start groups
      → QueriesFit w past start groups
      → GaveNone tells base now.outs fault (after groups).events (told_from w past start groups) → now.stands (kept_of w past (after groups).events)
      → IfFailed fault (AreHere m w (so_far past (after groups)) numbers here) → IsEndOf fault end → EndedAt here now end
  breaks_between groups now here fault end are fits gave stood stand is =
      let s = after groups in
      let new = newest_calls w past start groups in
      let old = sooner w past start groups in
      at_fault groups now here fault end are fits is
      (record {
        taken = λ t. all_written base.taken now.outs.taken (events_text s.events) (gave.written t);
        told = λ t. back_all (old ++ base.told) now.outs.told new
            (gave.told t ∙ ap (λ (l : List LinkAct). l ++ base.told) (told_parts w past start groups) ∙ append_assoc new old base.told);
        order = whole_order tells base now.outs (before groups) s.events old fault gave.own gave.written;
        tape_later = tape_on base now.outs fault gave.own gave.cause;
        link_later = gave.link_later;
        cause = gave.cause;
      })
      stand
      (left_none now (far_at now.outs groups) (kept_of w past s.events) (newest_kept w past start groups) (earlier_kept w past start groups) fault gave.own gave.written stood)

  -- in a group of which nothing was delivered
  pub breaks_within : (newest : List Round) (older : List (List Round)) (now : Moment) (here : List (Replica S E C)) (fault : Fault) (end : ServeEnd)
      → AreGroups w past limits start (newest ∷ older) → QueriesFit w past start (newest ∷ older)
      → GaveNone tells base now.outs fault (after older).events (sooner w past start (newest ∷ older)) → now.stands (kept_of w past (after older).events)
      → IfFailed fault (AreHere m w (so_far past (after (newest ∷ older))) numbers here) → IsEndOf fault end → EndedAt here now end
  breaks_within newest older now here fault end are fits gave stood stand is =
      let s₀ = after older in
      let groups = newest ∷ older in
      let es = events_from w past s₀ newest in
      let old = sooner w past start groups in
      at_fault groups now here fault end are fits is
      (record {
        taken = λ t. subst (λ (l : List ℕ). TookFront base.taken now.outs.taken l) (sym (ap events_text (events_parts w past s₀ newest) ∙ text_parts es s₀.events))
            (front_more base.taken now.outs.taken (events_text s₀.events) (events_text es) (all_written base.taken now.outs.taken (events_text s₀.events) (gave.written t)));
        told = λ t. rw (gave.told t) (back_none (old ++ base.told) (newest_calls w past start groups));
        order = of_link (λ x. InOrder tells base now.outs x s₀.events (after groups).events old) (inr (gave.written, gave.told)) (inr (gave.written, gave.told)) fault gave.own;
        tape_later = tape_on base now.outs fault gave.own gave.cause;
        link_later = gave.link_later;
        cause = gave.cause;
      })
      stand
      (of_link (λ x. ArchiveLeftAt now (far_at now.outs groups) (kept_of w past (after groups).events) (newest_kept w past start groups) (earlier_kept w past start groups) x)
      (inr ((gave.written, gave.told), stood)) (inr ((gave.written, gave.told), stood)) fault gave.own)

  -- ---- the first round of a group

  module _ (old : House S E C) (o : Moment) (taken : ℕ) (left : List LinkItem) (run : Running m w past numbers old tells base o taken limits start left) where
    abbrev now_at : Serving
    now_at = after run.groups

    -- of no round yet
    pub under_none : (group : Group) → IsEmpty group → Under m w past numbers now_at [] old group
    under_none group empty = record { stands = run.stands; holds = holds_none w past now_at group empty }

    pub gathers_first : (new : House S E C) (group : Group) (now : Moment) (more : ℕ) (rest : List LinkItem) (x : Round) → IsWanted (wants w past limits now_at) x
        → RoundFits w (so_far past now_at) x
        → (round_does w past x now_at).left ≡ rest → more ≡ (round_does w past x now_at).taken
        → Agrees tells base now.outs now_at.events (given_in (x ∷ []) ++ told_from w past start run.groups) → now.stands (kept_of w past now_at.events)
        → Under m w past numbers now_at (x ∷ []) new group → Gathered m w past numbers new group tells base now more limits start rest 1
    gathers_first new group now more rest x want fits is_left is_taken agrees stood under = record {
      older = run.groups;
      newest = x ∷ [];
      some = λ no. absurd (cc);
      count = refl;
      before = run.are;
      queries = run.queries;
      over = run.over;
      wanted = (want, tt);
      fit = (fits, tt);
      rest = is_left;
      items = is_taken;
      under = under;
      agrees = agrees;
      kept = stood;
    }

    -- memory ran out at it
    pub first_short : (here : List (Replica S E C)) (now : Moment) (x : Round) → IsWanted (wants w past limits now_at) x
        → RoundFits w (so_far past now_at) x
        → Agrees tells base now.outs now_at.events (given_in (x ∷ []) ++ told_from w past start run.groups) → now.stands (kept_of w past now_at.events) → EndedAt here now ends.Mem
    first_short here now x want fits agrees stood =
        breaks_within (x ∷ []) run.groups now here faults.Mem ends.Mem (one_alone w past limits now_at x want, run.over, run.are) ((fits, tt), run.queries)
        (memory_short tells base now.outs now_at.events (given_in (x ∷ []) ++ told_from w past start run.groups) agrees) stood tt refl

    -- one of the first items
    pub first_wanted : (item : LinkItem) (rest : List LinkItem) → left ≡ item ∷ rest → IsWanted (wants w past limits now_at) (Began item)
    first_wanted item rest is =
        subst (λ (l : List LinkItem). IsWanted (first_or l (wants_of w limits (so_far past now_at) now_at.taken now_at.waiting now_at.peers)) (Began item)) (sym (run.rest ∙ is)) refl

    pub gathers_item : (new : House S E C) (group : Group) (item : LinkItem) (rest : List LinkItem) → left ≡ item ∷ rest
        → Under m w past numbers now_at (Began item ∷ []) new group
        → (it : Gathered m w past numbers new group tells base o taken limits start rest 1) × IsGroupOver w past limits (after it.older) it.newest
    gathers_item new group item rest is under = (
      record {
        older = run.groups;
        newest = Began item ∷ [];
        some = λ no. absurd (cc);
        count = refl;
        before = run.are;
        queries = run.queries;
        over = run.over;
        wanted = (first_wanted item rest is, tt);
        fit = (tt, tt);
        rest = ap behind_first (run.rest ∙ is);
        items = run.count;
        under = under;
        agrees = run.agrees;
        kept = run.kept;
      },
      λ i turn. inl refl,
    )

  -- ---- the others

  module _ (old : House S E C) (group : Group) (o : Moment) (taken : ℕ) (left : List LinkItem) (many : ℕ) (run : Gathered m w past numbers old group tells base o taken limits start left many) where
    abbrev before_it : Serving
    before_it = after run.older

    abbrev under_way : Serving
    under_way = after_from w past before_it run.newest

    -- what the link gave for it, and all its calls before
    abbrev calls : List Round → List LinkAct
    calls newest = given_in newest ++ told_from w past start run.older

    pub are_groups : many ≤ most_rounds → AreGroups w past limits start (run.newest ∷ run.older)
    are_groups le = (record { some = run.some; wanted = run.wanted; joined = run.under.holds.joined; most = omega (arith, run.count, le) }, run.over, run.before)

    -- the link gave nothing more, and it is over
    pub gathers_still : (now : Moment) → Agrees tells base now.outs before_it.events (calls run.newest) → now.stands (kept_of w past before_it.events)
        → IsGroupOver w past limits before_it run.newest
        → (it : Gathered m w past numbers old group tells base now taken limits start left many) × IsGroupOver w past limits (after it.older) it.newest
    gathers_still now agrees stood over = (
      record {
        older = run.older;
        newest = run.newest;
        some = run.some;
        count = run.count;
        before = run.before;
        queries = run.queries;
        over = run.over;
        wanted = run.wanted;
        fit = run.fit;
        rest = run.rest;
        items = run.items;
        under = run.under;
        agrees = agrees;
        kept = stood;
      },
      over,
    )

    -- by the rules no turn is next
    pub over_where : (rule : Want) → wants w past limits under_way ≡ rule → ((i : ℕ) → rule ≡ Turns i → ⊥) → IsGroupOver w past limits before_it run.newest
    over_where rule same none i is = absurd (none i (sym same ∙ is))

    -- what the group has is enough
    pub over_enough : IsGroupEnough group → IsGroupOver w past limits before_it run.newest
    over_enough enough i is = by_newest run.newest run.under.holds run.some enough
      where
        by_newest : (newest : List Round) → GroupHolds w past before_it newest group → (newest ≡ [] → ⊥) → IsGroupEnough group → IsFull w past before_it newest
        by_newest [] holds some enough = some refl
        by_newest (x ∷ newest) holds some (inl again) = inr (inl (holds.again again))
        by_newest (x ∷ newest) holds some (inr full) = inr (inr (inr (subst (λ (l : List ℕ). enough_bytes ≤ length l) holds.text full)))

    -- it has as many rounds as a group may have
    pub over_many : most_rounds ≤ many → IsGroupOver w past limits before_it run.newest
    over_many le i is = by_newest run.newest run.count run.some
      where
        by_newest : (newest : List Round) → length newest ≡ many → (newest ≡ [] → ⊥) → IsFull w past before_it newest
        by_newest [] count some = some refl
        by_newest (x ∷ newest) count some = inr (inr (inl (omega (arith, count, le))))

    -- a round more
    pub gathers_more : (new : House S E C) (more_group : Group) (now : Moment) (more : ℕ) (rest : List LinkItem) (x : Round) → IsWanted (wants w past limits under_way) x
        → RoundFits w (so_far past under_way) x
        → (round_does w past x under_way).left ≡ rest → more ≡ (round_does w past x under_way).taken
        → Agrees tells base now.outs before_it.events (calls (x ∷ run.newest)) → now.stands (kept_of w past before_it.events)
        → Under m w past numbers before_it (x ∷ run.newest) new more_group → Gathered m w past numbers new more_group tells base now more limits start rest (many + 1)
    gathers_more new more_group now more rest x want fits is_left is_taken agrees stood under = record {
      older = run.older;
      newest = x ∷ run.newest;
      some = λ no. absurd (cc);
      count = omega (arith, run.count);
      before = run.before;
      queries = run.queries;
      over = run.over;
      wanted = (want, run.wanted);
      fit = (fits, run.fit);
      rest = is_left;
      items = is_taken;
      under = under;
      agrees = agrees;
      kept = stood;
    }

    -- memory ran out at it
    pub more_short : (here : List (Replica S E C)) (now : Moment) (x : Round) → many < most_rounds → MayJoin x → MayGrow group → IsWanted (wants w past limits under_way) x
        → RoundFits w (so_far past under_way) x
        → Agrees tells base now.outs before_it.events (calls (x ∷ run.newest)) → now.stands (kept_of w past before_it.events) → EndedAt here now ends.Mem
    more_short here now x lt may goes want fits agrees stood =
        breaks_within (x ∷ run.newest) run.older now here faults.Mem ends.Mem (
          record {
            some = λ no. absurd (cc);
            wanted = (want, run.wanted);
            joined = joins_on w past before_it group run.newest x run.under.holds (may_join x group may goes run.newest);
            most = omega (arith, run.count, lt);
          },
          run.over,
          run.before,
        ) ((fits, run.fit), run.queries)
        (memory_short tells base now.outs before_it.events (calls (x ∷ run.newest)) agrees) stood tt refl

    -- with a turn, for which the link gives nothing
    pub calls_with_turn : (at : ℕ) → Agrees tells base o.outs before_it.events (calls (Turned at ∷ run.newest))
    calls_with_turn at =
        subst (λ (l : List LinkAct). Agrees tells base o.outs before_it.events (l ++ told_from w past start run.older)) (sym (given_turn at run.newest)) run.agrees

    -- with an item, which the link gave
    pub calls_with_item : (told : List LinkAct) (count : FaultCounts) (item : LinkItem) → (tells.link ≡ true → told ≡ GivesNow item ∷ o.outs.told) → count ≡ o.outs.link_faults
        → Agrees tells base (with_link o.outs told count) before_it.events (calls (Took item ∷ run.newest))
    calls_with_item told count item is same =
        subst (λ (l : List LinkAct). Agrees tells base (with_link o.outs told count) before_it.events (l ++ told_from w past start run.older)) (sym (given_took item run.newest run.some))
        (next_told tells base o.outs before_it.events (calls run.newest) told count (GivesNow item) run.agrees is same)

    -- the link broke
    pub more_fails : (now : Moment) (fault : Fault) (end : ServeEnd) → many ≤ most_rounds → GaveNone tells base now.outs fault before_it.events (calls run.newest)
        → now.stands (kept_of w past before_it.events) → IsEndOf fault end → EndedAt old.replicas.items now end
    more_fails now fault end le gave stood is =
        breaks_within run.newest run.older now old.replicas.items fault end (are_groups le) (run.fit, run.queries) gave stood (if_failed fault _ run.under.stands.here) is

  -- ---- it begins

  pub runs_first : (house : House S E C) (o : Moment) → start.taken ≡ 0 → HouseStands m w (so_far past start) numbers house start.waiting start.peers
      → Agrees tells base o.outs start.events [] → o.stands (kept_of w past start.events) → Running m w past numbers house tells base o 0 limits start start.left
  runs_first house o none stands agrees stood = record { groups = []; are = tt; queries = tt; over = tt; rest = refl; count = sym none; stands = stands; agrees = agrees; kept = stood }

  -- ---- the ends

  -- all of the groups was delivered
  serves_whole : (groups : List (List Round)) (here : List (Replica S E C)) (now : Moment) (end : ServeEnd) → AreGroups w past limits start groups
      → QueriesFit w past start groups
      → EndsKept m w past numbers here tells base now.outs end (before groups) (after groups) (sooner w past start groups) (newest_calls w past start groups)
      (wants w past limits (after groups))
      → ((far : Reach) (group older : List Event) → KeptAt now far (kept_of w past (after groups).events) group older end) → EndedAt here now end
  serves_whole groups here now end are fits so kept = record { groups = groups; are = are; queries = fits; so = so; kept = kept _ _ _ }

  module _ (house : House S E C) (o : Moment) (taken : ℕ) (run : Running m w past numbers house tells base o taken limits start []) where
    abbrev last_at : Serving
    last_at = after run.groups

    abbrev last_want : Want
    last_want = wants_of w limits (so_far past last_at) taken last_at.waiting last_at.peers

    last_now : wants w past limits last_at ≡ last_want
    last_now = wants_now w past limits last_at taken run.rest run.count

    -- with all calls in two parts
    in_parts : (outs : Outs) (more : List LinkAct) → Agrees tells base outs last_at.events (more ++ told_from w past start run.groups)
        → Agrees tells base outs last_at.events (more ++ (newest_calls w past start run.groups ++ sooner w past start run.groups))
    in_parts outs more agrees = subst (λ (l : List LinkAct). Agrees tells base outs last_at.events (more ++ l)) (told_parts w past start run.groups) agrees

    pub is_ended : IsNext last_want next.End → EndedAt house.replicas.items o ends.Over
    is_ended is =
        serves_whole run.groups house.replicas.items o ends.Over run.are run.queries
        (record { why = last_now ∙ next_end last_want is; agrees = in_parts o.outs [] run.agrees; stand = run.stands.here }) (λ far group older. run.kept)

    pub finishes : IsNext last_want next.Finish → EndedAt house.replicas.items o ends.Done
    finishes is =
        serves_whole run.groups house.replicas.items o ends.Done run.are run.queries
        (record { why = last_now ∙ next_finish last_want is; agrees = in_parts o.outs [] run.agrees; stand = run.stands.here }) (λ far group older. run.kept)

    pub overflows : (bytes : ℕ) → IsNext last_want (next.Overflow bytes) → EndedAt house.replicas.items o (ends.KeptFull bytes)
    overflows bytes is =
        serves_whole run.groups house.replicas.items o (ends.KeptFull bytes) run.are run.queries
        (record { why = last_now ∙ next_overflow last_want bytes is; agrees = in_parts o.outs [] run.agrees; stand = run.stands.here }) (λ far group older. run.kept)

    pub halts : IsNext last_want next.Halt → EndedAt house.replicas.items o ends.Limit
    halts is =
        serves_whole run.groups house.replicas.items o ends.Limit run.are run.queries
        (record { why = last_now ∙ next_halt last_want is; agrees = in_parts o.outs [] run.agrees; stand = run.stands.here }) (λ far group older. run.kept)

    pub link_ends : (now : Moment) (item : LinkItem) → IsNext last_want next.Ask → item ≡ items.End → Agrees tells base now.outs last_at.events (Gives item ∷ told_from w past start run.groups)
        → now.stands (kept_of w past last_at.events) → EndedAt house.replicas.items now ends.End
    link_ends now item is is_end agrees stood =
        serves_whole run.groups house.replicas.items now ends.End run.are run.queries
        (record {
          why = last_now ∙ next_ask last_want is;
          agrees = in_parts now.outs (Gives items.End ∷ []) (subst (λ (x : LinkItem). Agrees tells base now.outs last_at.events (Gives x ∷ told_from w past start run.groups)) is_end agrees);
          stand = run.stands.here;
        })
        (λ far group older. stood)

    pub link_fails : (now : Moment) (fault : Fault) (end : ServeEnd) → GaveNone tells base now.outs fault last_at.events (told_from w past start run.groups)
        → now.stands (kept_of w past last_at.events) → IsEndOf fault end → EndedAt house.replicas.items now end
    link_fails now fault end gave stood is =
        breaks_between run.groups now house.replicas.items fault end run.are run.queries gave stood (if_failed fault _ run.stands.here) is

-- it ended for want of memory before the first round
pub none_served : {S E C : Type 0} (m : Meaning S E C KeyRow) (w : Setting) (past : List Event) (numbers : List ℕ) (here : List (Replica S E C)) (tells : Tells) (base : Outs) (limits : Limits) (first : List LinkItem)
    → Serves m w past numbers here tells base base ends.Mem limits first
none_served m w past numbers here tells base limits first = record {
  groups = [];
  are = tt;
  queries = tt;
  so = record {
    taken = λ t. none_written base.taken [];
    told = λ t. back_none base.told [];
    order = inl (λ t. sym (append-nil base.taken));
    tape_later = omega arith;
    link_later = omega arith;
    cause = (refl, inl refl);
  };
}

-- where nothing is kept, it ended as serving without an archive does
pub serves_plain : {S E C : Type 0} (m : Meaning S E C KeyRow) (w : Setting) (past : List Event) (numbers : List ℕ) (here : List (Replica S E C)) (tells : Tells) (base : Outs) (now : Moment) (end : ServeEnd) (limits : Limits) (first : List LinkItem)
    → ((x : ArchiveFault) (group older : List Event) → now.fails x group older → ⊥) → ServesKept m w past numbers here tells base now end limits (begin first)
    → Serves m w past numbers here tells base now.outs end limits first
serves_plain m w past numbers here tells base now end limits first never served = record { groups = served.groups; are = served.are; queries = served.queries; so = by_end end served.so served.kept }
  where
    s : Serving
    s = after_groups w past (begin first) served.groups

    older : List LinkAct
    older = sooner w past (begin first) served.groups

    new : List LinkAct
    new = newest_calls w past (begin first) served.groups

    rule : Want
    rule = wants w past limits s

    before : List Event
    before = (before_newest w past (begin first) served.groups).events

    by_end : (end : ServeEnd) → EndsKept m w past numbers here tells base now.outs end before s older new rule
        → KeptAt now (reach tells base now.outs before s.events older) (kept_of w past s.events) (newest_kept w past (begin first) served.groups)
        (earlier_kept w past (begin first) served.groups) end
        → EndsSo m w past numbers here tells base now.outs end before s older new rule
    by_end ends.Over so kept = so
    by_end ends.Done so kept = so
    by_end ends.Limit so kept = so
    by_end ends.End so kept = so
    by_end (ends.KeptFull x) so kept = so
    by_end ends.LinkFault so kept = so
    by_end ends.TapeFault so kept = so
    by_end ends.Mem so kept = so
    by_end ends.DiskFault so kept = never _ _ _ kept
    by_end (ends.JournalFull x) so kept = never _ _ _ kept
