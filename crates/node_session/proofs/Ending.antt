-- How a session ends, by how serving it did.
use Rattle.std.proofs.Common.{◌≡◌, ℕ, ◌≤◌, Bool, true, false, List, [], ◌∷◌, ◌++◌, refl, sym, ◌∙◌, ap, subst, arith, inl, inr}
use Rattle.ritas_base.specs.declared.event.Event.{Event}
use Rattle.outside.specs.Faults.{count_after}
use Rattle.outside.specs.LinkCallsLaws.{back_then}
use Rattle.outside.specs.Links.{LinkAct, Gives, failed_once, short_once}
use Rattle.outside.specs.declared.link.FaultCounts.{FaultCounts}
use Rattle.outside.specs.declared.link.LinkItem.TheVariants as items
use Rattle.schedule_file.specs.ReadHeader.{heading}
use Rattle.replica.specs.declared.replica.Replica.{Replica}
use Rattle.keyed_channel.specs.KeyRow.{KeyRow}
use Rattle.ritas_core.specs.Stands.{Meaning}
use Rattle.world_model.specs.World.{Setting}
use Rattle.node_loop.specs.declared.end.ServeEnd.{ServeEnd}
use Rattle.node_loop.specs.declared.end.ServeEnd.TheVariants as ends
use Rattle.node_loop.specs.Outs.{Outs, TapeFailed, LinkFailed, FellShort, Tells, Agrees, StopsPartway}
use Rattle.node_loop.specs.Served.{Breaks, EndsSo, Whole}
use Rattle.node_loop.specs.Serving.{Serving, Want, Ends, Finishes, Overflows, Halts, Asks}
use Rattle.node_session.specs.declared.session.Session.{Session}
use Rattle.node_session.specs.Session.{TookAll, TookPart, last_acts, CameTo, Broke, NotClosed, SessionEnds}
use Rattle.node_session.specs.Opening.{HasBegun, Closes, Closed, Failed, is_reason}
use Rattle.node_session.proofs.Composing.{all_taken, part_taken, mark_lost, last_taken}

pub same_failed : {a b : FaultCounts} → a ≡ b → a.failed ≡ b.failed
same_failed e = ap (λ (n : FaultCounts). n.failed) e

module _ (x : Session) (w : Setting) (tells : Tells) where
  module _ {S E C : Type 0} (m : Meaning S E C KeyRow) (numbers : List ℕ) (here : List (Replica S E C)) (base mid now last : Outs) (begun : HasBegun (heading x.header) x.plan tells base mid) where
    module _ (earlier : List Event) (s : Serving) (sooner news : List LinkAct) (rule : Want) where
      abbrev EndedAt : ServeEnd → Type 0
      EndedAt end = SessionEnds x.header x.plan tells base last end earlier s sooner news rule

      -- it ended by its rules, and the end mark was written, or not
      pub closes : (reason : Want) (acts : List LinkAct) (end result : ServeEnd) → Whole m w [] numbers here tells mid now s acts rule reason
          → last.told ≡ now.told → last.link_faults ≡ now.link_faults → Closes tells.tape now.taken last.taken now.tape_faults last.tape_faults end result
          → ((rule ≡ reason) × TookAll x.header x.plan tells base last s.events acts → EndedAt end)
          → acts ≡ last_acts reason (news ++ sooner) → EndedAt result
      closes reason acts end result done same link (Closed is stands closed) so with_end =
          subst EndedAt (sym is) (so (done.why, all_taken x.header x.plan tells base mid now last s.events acts begun done.agrees closed same stands link))
      closes reason acts end result done same link (Failed is rises later lost) so with_end =
          let at_last : acts ≡ last_acts rule (news ++ sooner) = with_end ∙ ap (λ (r : Want). last_acts r (news ++ sooner)) (sym done.why) in
          let served : Agrees tells mid now s.events (last_acts rule (news ++ sooner)) = subst (Agrees tells mid now s.events) at_last done.agrees in
          subst EndedAt (sym is) (
            (rises ∙ ap count_after (done.agrees.tape_stands ∙ begun.tape_stands), link ∙ (done.agrees.link_stands ∙ begun.link_stands)),
            mark_lost x.header x.plan tells base mid now last s.events (last_acts rule (news ++ sooner)) begun served lost same,
            NotClosed mid now begun served refl lost same,
          )

      -- a fault came
      pub breaks : (fault : _) (more : List LinkAct) → StopsPartway tells mid now fault earlier s.events sooner news → last ≡ now
          → TookPart x.header x.plan tells base last s.events (more ++ (news ++ sooner))
      breaks fault more stops same =
          subst (λ (o : Outs). TookPart x.header x.plan tells base o s.events (more ++ (news ++ sooner))) (sym same)
          (part_taken x.header x.plan tells base mid now s.events (news ++ sooner) more begun stops.taken
          (λ t. back_then mid.told (sooner ++ mid.told) now.told sooner news refl (stops.told t)))

      pub broke : (end : ServeEnd) → Breaks tells mid now end earlier s.events sooner news → last ≡ now → CameTo x.header x.plan tells base last end earlier s sooner news rule
      broke end stops same = Broke mid begun (subst (λ (o : Outs). Breaks tells mid o end earlier s.events sooner news) (sym same) stops)

      -- since it began
      pub tape_failed : TapeFailed mid now → last ≡ now → TapeFailed base last
      tape_failed cause same = rw same (cause.0 ∙ ap count_after begun.tape_stands, cause.1 ∙ begun.link_stands)

      pub link_failed : LinkFailed mid now → last ≡ now → LinkFailed base last
      link_failed cause same = rw same (cause.0 ∙ begun.tape_stands, cause.1 ∙ ap failed_once begun.link_stands)

      pub fell_short : FellShort mid now → last ≡ now → FellShort base last
      fell_short cause same = rw same (
        cause.0 ∙ begun.tape_stands,
        elim cause.1 [ inl none ↦ inl (none ∙ begun.link_stands) | inr one ↦ inr (one ∙ ap short_once begun.link_stands) ],
      )

      pub ended : (end result : ServeEnd) → EndsSo m w [] numbers here tells mid now end earlier s sooner news rule → last.told ≡ now.told → last.link_faults ≡ now.link_faults
          → (is_reason end ≡ true → Closes tells.tape now.taken last.taken now.tape_faults last.tape_faults end result)
          → (is_reason end ≡ false → (result ≡ end) × (last ≡ now)) → EndedAt result
      ended ends.Over result so same link closed kept = closes Ends (news ++ sooner) ends.Over result so same link (closed refl) (λ took. took) refl
      ended ends.Done result so same link closed kept = closes Finishes (news ++ sooner) ends.Done result so same link (closed refl) (λ took. took) refl
      ended ends.Limit result so same link closed kept = closes Halts (news ++ sooner) ends.Limit result so same link (closed refl) (λ took. took) refl
      ended ends.End result so same link closed kept = closes Asks (Gives items.End ∷ (news ++ sooner)) ends.End result so same link (closed refl) (λ took. took) refl
      ended (ends.KeptFull bytes) result so same link closed kept =
          closes (Overflows bytes) (news ++ sooner) (ends.KeptFull bytes) result so same link (closed refl) (λ took. took) refl
      ended ends.LinkFault result so same link closed kept =
          let k = kept refl in
          subst EndedAt (sym k.0) (
            link_failed so.0.cause k.1,
            breaks _ [] so.0 k.1,
            broke ends.LinkFault so.0 k.1,
          )
      ended ends.TapeFault result so same link closed kept =
          let k = kept refl in
          subst EndedAt (sym k.0) (
            tape_failed so.0.cause k.1,
            last_taken x.header x.plan tells base last s.events (news ++ sooner) rule (λ more. breaks _ more so.0 k.1),
            broke ends.TapeFault so.0 k.1,
          )
      ended ends.Mem result so same link closed kept =
          let k = kept refl in
          subst EndedAt (sym k.0) (fell_short so.cause k.1, breaks _ [] so k.1, broke ends.Mem so k.1)
      ended end result so same link closed kept = absurd so

    -- counts of faults don't fall
    pub tape_on : (earlier : List Event) (s : Serving) (sooner news : List LinkAct) (rule : Want) (end : ServeEnd) → EndsSo m w [] numbers here tells mid now end earlier s sooner news rule → mid.tape_faults ≤ now.tape_faults
    tape_on earlier s sooner news rule ends.LinkFault so = so.0.tape_later
    tape_on earlier s sooner news rule ends.TapeFault so = so.0.tape_later
    tape_on earlier s sooner news rule ends.Mem so = so.tape_later
    tape_on earlier s sooner news rule ends.DiskFault so = absurd so
    tape_on earlier s sooner news rule (ends.JournalFull x) so = absurd so
    tape_on earlier s sooner news rule end so = omega (arith, so.agrees.tape_stands)

    pub link_on : (earlier : List Event) (s : Serving) (sooner news : List LinkAct) (rule : Want) (end : ServeEnd) → EndsSo m w [] numbers here tells mid now end earlier s sooner news rule → mid.link_faults.failed ≤ now.link_faults.failed
    link_on earlier s sooner news rule ends.LinkFault so = so.0.link_later
    link_on earlier s sooner news rule ends.TapeFault so = so.0.link_later
    link_on earlier s sooner news rule ends.Mem so = so.link_later
    link_on earlier s sooner news rule ends.DiskFault so = absurd so
    link_on earlier s sooner news rule (ends.JournalFull x) so = absurd so
    link_on earlier s sooner news rule end so = omega (arith, same_failed so.agrees.link_stands)

    pub close_on : (end result : ServeEnd) → Closes tells.tape now.taken last.taken now.tape_faults last.tape_faults end result → now.tape_faults ≤ last.tape_faults
    close_on end result (Closed is stands closed) = omega (arith, stands)
    close_on end result (Failed is rises later lost) = later

    pub end_on : (end result : ServeEnd) (b : Bool) → is_reason end ≡ b → (is_reason end ≡ true → Closes tells.tape now.taken last.taken now.tape_faults last.tape_faults end result)
        → (is_reason end ≡ false → (result ≡ end) × (last ≡ now)) → now.tape_faults ≤ last.tape_faults
    end_on end result true reason closed kept = close_on end result (closed reason)
    end_on end result false reason closed kept = omega (arith, ap (λ (o : Outs). o.tape_faults) (kept reason).1)
