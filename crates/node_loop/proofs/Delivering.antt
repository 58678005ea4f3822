-- A group is delivered, or a part of it.
use Rattle.std.proofs.Common.{◌∷◌, ◌≡◌, ℕ, true, List, [], ◌++◌, reverse, Ok, Err, sym, ◌∙◌, ap, subst, append_assoc, arith, inl, inr, ◌≤◌}
use Rattle.std.proofs.lemmas.List.{append-nil, reverse-reverse}
use Rattle.std.specs.List.{AllByRecursion}
use Rattle.ritas_base.specs.declared.event.Event.{Event}
use Rattle.keyed_channel.specs.KeyRow.{KeyRow}
use Rattle.ritas_core.specs.Stands.{Meaning}
use Rattle.outside.specs.Faults.{count_after}
use Rattle.outside.specs.Links.{LinkAct}
use Rattle.outside.specs.LinkCallsLaws.{back_none}
use Rattle.outside.specs.Writing.{TookFront}
use Rattle.outside.specs.WritingLaws.{all_written, front_then}
use Rattle.outside.specs.declared.link.FaultCounts.{FaultCounts}
use Rattle.outside.specs.declared.link.LinkFault.{LinkFault}
use Rattle.outside.specs.declared.link.LinkItem.{LinkItem}
use Rattle.world_model.specs.World.{Setting}
use Rattle.node_loop.specs.declared.limits.Limits.{Limits}
use Rattle.node_loop.specs.declared.archive.ArchiveFault.{ArchiveFault}
use Rattle.node_loop.specs.declared.archive.ArchiveFault.TheVariants as archive
use Rattle.node_loop.specs.declared.end.Fault.{Fault}
use Rattle.node_loop.specs.declared.end.Fault.TheVariants as faults
use Rattle.node_loop.specs.declared.end.ServeEnd.{ServeEnd}
use Rattle.node_loop.specs.declared.group.Group.{Group}
use Rattle.node_loop.specs.declared.house.House.{House}
use Rattle.node_loop.specs.declared.output.Output.{Output}
use Rattle.node_loop.specs.Archives.{Moment, Reach, ArchiveLeftAt, reach}
use Rattle.node_loop.specs.Groups.{FitsPeers, acts_by, acts_each}
use Rattle.node_loop.specs.Keeping.{kept_of}
use Rattle.node_loop.specs.Outs.{events_text, LinkGiven, Outs, Tells, Agrees, StopsPartway, HasCauses, InOrder}
use Rattle.node_loop.specs.Ends.{IsFaultOfLink, fault_in, IsEndOf}
use Rattle.node_loop.specs.Queries.{QueriesFit}
use Rattle.node_loop.specs.Running.{Running, Gathered, IsOfTape}
use Rattle.node_loop.specs.ServedKept.{ServesKept, newest_kept}
use Rattle.node_loop.specs.Serving.{Serving, Round}
use Rattle.node_loop.specs.Told.{most_rounds, events_from, IsGroupOver, after_groups, AreGroups, newest_calls, sooner}
use Rattle.node_loop.proofs.Grouping.{events_parts, text_parts, kept_parts}
use Rattle.node_loop.proofs.Rounding.{if_failed, left_none}
use Rattle.node_loop.proofs.Gathering.{at_fault, are_groups}
use Rattle.node_loop.proofs.Stepping.{with_link, same_failed, link_goes, link_stops, of_tape, link_alone}

-- ---- the tape

-- these events were written
pub wrote_all : (tells : Tells) (base : Outs) (old new : List ℕ) (x y : ℕ) (told : List LinkAct) (link_faults : FaultCounts) (es older : List Event) (acts : List LinkAct)
    → Agrees tells base (record { taken = old; tape_faults = x; told = told; link_faults = link_faults }) older acts
    → (tells.tape ≡ true → new ≡ old ++ events_text es) → y ≡ x
    → Agrees tells base (record { taken = new; tape_faults = y; told = told; link_faults = link_faults }) (es ++ older) acts
wrote_all tells base old new x y told link_faults es older acts agrees whole stands = record {
  taken = λ t. whole t ∙ rw (agrees.taken t, text_parts es older) (append_assoc base.taken (events_text older) (events_text es));
  told = agrees.told;
  tape_stands = stands ∙ agrees.tape_stands;
  link_stands = agrees.link_stands;
}

-- a front of their text was
pub wrote_front : (tells : Tells) (base : Outs) (old new : List ℕ) (x y : ℕ) (told : List LinkAct) (link_faults : FaultCounts) (es older : List Event) (acts news : List LinkAct)
    → Agrees tells base (record { taken = old; tape_faults = x; told = told; link_faults = link_faults }) older acts
    → (tells.tape ≡ true → TookFront old new (events_text es)) → x ≤ y → y ≡ count_after x
    → StopsPartway tells base (record { taken = new; tape_faults = y; told = told; link_faults = link_faults }) faults.Tape older (es ++ older) acts news
wrote_front tells base old new x y told link_faults es older acts news agrees front le rises = record {
  taken = λ t. front_then base.taken old new (events_text older) (events_text es) [] (events_text (es ++ older))
      (text_parts es older ∙ ap (λ (l : List ℕ). events_text older ++ l) (sym (append-nil (events_text es)))) (agrees.taken t) (front t);
  told = λ t. rw (agrees.told t) (back_none (acts ++ base.told) news);
  order = agrees.told;
  tape_later = omega (arith, agrees.tape_stands, le);
  link_later = omega (arith, same_failed agrees.link_stands);
  cause = (rises ∙ ap count_after agrees.tape_stands, agrees.link_stands);
}

-- ---- the archive

-- where the tape failed, only the older ones were kept
left_tape : (now : Moment) (far : Reach) (kept group older : List Event) (fault : Fault) → IsOfTape fault → now.stands older → ArchiveLeftAt now far kept group older fault
left_tape now far kept group older fault own stands = of_tape (λ x. ArchiveLeftAt now far kept group older x) stands fault own

-- the archive failed over the newest group
left_archive : (now : Moment) (far : Reach) (kept group older : List Event) (x : ArchiveFault) → far.whole → far.none → now.fails x group older
    → ArchiveLeftAt now far kept group older (fault_in x)
left_archive now far kept group older archive.Disk written sent fails = fails
left_archive now far kept group older (archive.Full x) written sent fails = fails
left_archive now far kept group older archive.Mem written sent fails = inl (written, inr (sent, fails))

archive_causes : (tells : Tells) (base now : Outs) (events : List Event) (acts : List LinkAct) (x : ArchiveFault) → Agrees tells base now events acts → HasCauses base now (fault_in x)
archive_causes tells base now events acts archive.Disk agrees = (agrees.tape_stands, agrees.link_stands)
archive_causes tells base now events acts (archive.Full x) agrees = (agrees.tape_stands, agrees.link_stands)
archive_causes tells base now events acts archive.Mem agrees = (agrees.tape_stands, inl agrees.link_stands)

archive_order : (tells : Tells) (base now : Outs) (earlier events : List Event) (acts : List LinkAct) (x : ArchiveFault) → Agrees tells base now events acts
    → InOrder tells base now (fault_in x) earlier events acts
archive_order tells base now earlier events acts archive.Disk agrees = (agrees.taken, agrees.told)
archive_order tells base now earlier events acts (archive.Full x) agrees = (agrees.taken, agrees.told)
archive_order tells base now earlier events acts archive.Mem agrees = inl agrees.taken

-- ---- a group

module _ {S E C : Type 0} (m : Meaning S E C KeyRow) (w : Setting) (past : List Event) (numbers : List ℕ) (tells : Tells) (base : Outs) (o : Moment) (taken : ℕ) (limits : Limits) (start : Serving)
    (left : List LinkItem) (house : House S E C) (group : Group) (many : ℕ) (within : many ≤ most_rounds)
    (run : Gathered m w past numbers house group tells base o taken limits start left many)
    (over : IsGroupOver w past limits (after_groups w past start run.older) run.newest) where
  abbrev groups : List (List Round)
  groups = run.newest ∷ run.older

  abbrev s₀ : Serving
  s₀ = after_groups w past start run.older

  abbrev s₁ : Serving
  s₁ = after_groups w past start groups

  abbrev es : List Event
  es = events_from w past s₀ run.newest

  abbrev old : List LinkAct
  old = sooner w past start groups

  abbrev new : List LinkAct
  new = newest_calls w past start groups

  abbrev far_at : Outs → Reach
  far_at now = reach tells base now s₀.events s₁.events old

  abbrev EndedAt : Moment → ServeEnd → Type 0
  EndedAt now end = ServesKept m w past numbers house.replicas.items tells base now end limits start

  are : AreGroups w past limits start groups
  are = are_groups m w past numbers tells base limits start house group o taken left many run within

  fits : QueriesFit w past start groups
  fits = (run.fit, run.queries)

  all_events : es ++ s₀.events ≡ s₁.events
  all_events = sym (events_parts w past s₀ run.newest)

  -- the tape failed
  pub tape_fails : (now : Moment) (fault : Fault) (end : ServeEnd) → IsOfTape fault → StopsPartway tells base now.outs fault s₀.events (es ++ s₀.events) old new
      → now.stands (kept_of w past s₀.events) → IsEndOf fault end → EndedAt now end
  tape_fails now fault end own stops stands is =
      at_fault m w past numbers tells base limits start groups now house.replicas.items fault end are fits is
      (subst (λ (es : List Event). StopsPartway tells base now.outs fault s₀.events es old new) all_events stops) (if_failed fault _ run.under.stands.here)
      (left_tape now (far_at now.outs) (kept_of w past s₁.events) (newest_kept w past start groups) (kept_of w past s₀.events) fault own stands)

  -- all events were written
  pub all_wrote : (outs : Outs) → Agrees tells base outs (es ++ s₀.events) old → Agrees tells base outs s₁.events old
  all_wrote outs agrees = subst (λ (es : List Event). Agrees tells base outs es old) all_events agrees

  -- those that are kept are these
  kept_as : (events : List Event) → events ≡ group.kept.items → reverse events ≡ newest_kept w past start groups
  kept_as events same = ap reverse (same ∙ run.under.holds.keeps) ∙ reverse-reverse (newest_kept w past start groups)

  -- the archive failed
  pub archive_fails : (now : Moment) (events : List Event) (x : ArchiveFault) (fault : Fault) (end : ServeEnd) → events ≡ group.kept.items → fault ≡ fault_in x → Agrees tells base now.outs s₁.events old
      → now.fails x (reverse events) (kept_of w past s₀.events) → IsEndOf fault end → EndedAt now end
  archive_fails now events x fault end listed same agrees fails is =
      at_fault m w past numbers tells base limits start groups now house.replicas.items (fault_in x) end are fits (subst (λ (f : Fault). IsEndOf f end) same is)
      (record {
        taken = λ t. all_written base.taken now.outs.taken (events_text s₁.events) (agrees.taken t);
        told = λ t. rw (agrees.told t) (back_none (old ++ base.told) new);
        order = archive_order tells base now.outs s₀.events s₁.events old x agrees;
        tape_later = omega (arith, agrees.tape_stands);
        link_later = omega (arith, same_failed agrees.link_stands);
        cause = archive_causes tells base now.outs s₁.events old x agrees;
      })
      (if_failed (fault_in x) _ run.under.stands.here)
      (left_archive now (far_at now.outs) (kept_of w past s₁.events) (newest_kept w past start groups) (kept_of w past s₀.events) x agrees.taken agrees.told
      (subst (λ (l : List Event). now.fails x l (kept_of w past s₀.events)) (kept_as events listed) fails))

  -- what goes out goes to peers, or is for none
  pub all_fit : (outputs : List Output) → outputs ≡ group.outputs.items → AllByRecursion (λ o. FitsPeers w s₁.peers.keeping o.at o.more) outputs
  all_fit outputs same = subst (λ (l : List Output). AllByRecursion (λ o. FitsPeers w s₁.peers.keeping o.at o.more) l) (sym same) run.under.holds.fit

  -- all events that are to be were kept
  pub all_kept : (stands : List Event → Type 0) (events : List Event) → events ≡ group.kept.items → stands (reverse events ++ kept_of w past s₀.events) → stands (kept_of w past s₁.events)
  all_kept stands events listed kept =
      subst stands (ap (λ (l : List Event). l ++ kept_of w past s₀.events) (kept_as events listed) ∙ sym (kept_parts w past s₀ run.newest)) kept

  module _ (outs : Outs) (told : List LinkAct) (count : FaultCounts) (stands : List Event → Type 0) (fails : ArchiveFault → List Event → List Event → Type 0)
      (agrees : Agrees tells base outs s₁.events old) (kept : stands (kept_of w past s₁.events)) where
    abbrev then : Moment
    then = record { outs = with_link outs told count; stands = stands; fails = fails }

    -- all went out
    pub group_goes : (outputs : List Output) → outputs ≡ group.outputs.items → LinkGiven tells.link (acts_each (acts_by s₁.peers.keeping) outputs) outs.told told outs.link_faults count (Ok tt)
        → Running m w past numbers house tells base then taken limits start left
    group_goes outputs same did = record {
      groups = groups;
      are = are;
      queries = fits;
      over = over;
      rest = run.rest;
      count = run.items;
      stands = run.under.stands;
      agrees = link_goes tells base outs s₁.events old new told count agrees
          (subst (λ (acts : List LinkAct). LinkGiven tells.link acts outs.told told outs.link_faults count (Ok tt)) (ap (acts_each (acts_by s₁.peers.keeping)) same ∙ run.under.holds.acts) did);
      kept = kept;
    }

    -- or a part of it
    pub group_stops : (outputs : List Output) (x : LinkFault) (fault : Fault) (end : ServeEnd) → outputs ≡ group.outputs.items → IsFaultOfLink x fault
        → LinkGiven tells.link (acts_each (acts_by s₁.peers.keeping) outputs) outs.told told outs.link_faults count (Err x) → IsEndOf fault end → EndedAt then end
    group_stops outputs x fault end same why did is =
        at_fault m w past numbers tells base limits start groups then house.replicas.items fault end are fits is
        (link_stops tells base outs s₀.events s₁.events old [] new new told count x fault why (sym (append-nil new)) agrees
        (subst (λ (acts : List LinkAct). LinkGiven tells.link acts outs.told told outs.link_faults count (Err x)) (ap (acts_each (acts_by s₁.peers.keeping)) same ∙ run.under.holds.acts) did))
        (if_failed fault _ run.under.stands.here)
        (left_none then (far_at (with_link outs told count)) (kept_of w past s₁.events) (newest_kept w past start groups) (kept_of w past s₀.events) fault (link_alone x fault why)
        agrees.taken kept)
