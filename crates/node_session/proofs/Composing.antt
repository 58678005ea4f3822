-- The header, what was served and the end mark make a file, and the link's calls those of a session.
use Rattle.std.proofs.Common.{◌≡◌, ℕ, true, List, [], ◌∷◌, ◌++◌, refl, sym, ◌∙◌, ap, subst, append_assoc}
use Rattle.std.proofs.lemmas.List.{append-nil}
use Rattle.ritas_base.specs.declared.event.Event.{Event}
use Rattle.outside.specs.LinkCalls.{TookBack}
use Rattle.outside.specs.Links.{LinkAct, Starts, Gives}
use Rattle.outside.specs.Writing.{TookFront}
use Rattle.outside.specs.declared.link.LinkItem.TheVariants as items
use Rattle.outside.specs.declared.link.LinkPlan.{LinkPlan}
use Rattle.schedule_file.specs.ReadHeader.{heading}
use Rattle.schedule_file.specs.Spelling.{header_text}
use Rattle.schedule_file.specs.declared.header.Header.{Header}
use Rattle.node_loop.specs.declared.end.ServeEnd.{ServeEnd}
use Rattle.node_loop.specs.declared.end.ServeEnd.TheVariants as ends
use Rattle.node_loop.specs.Outs.{Outs, Tells, Agrees, events_text}
use Rattle.node_loop.specs.Serving.{Serving, Want, Begins, Ends, Finishes, Overflows, Turns, Closes, Halts, Reminds, Asks}
use Rattle.node_session.specs.Session.{TookAll, TookPart, last_acts, NotStarted, SessionEnds}
use Rattle.node_session.specs.Opening.{HasBegun, HasFailed}

module _ (h : Header) (plan : LinkPlan) (tells : Tells) where
  -- what a link told since a session began
  told_all : (old mid new acts : List LinkAct) → mid ≡ Starts plan ∷ old → new ≡ acts ++ mid → new ≡ (acts ++ Starts plan ∷ []) ++ old
  told_all old mid new acts begun told = told ∙ ap (λ l. acts ++ l) begun ∙ sym (append_assoc acts (Starts plan ∷ []) old)

  told_part : (old mid new acts more : List LinkAct) → mid ≡ Starts plan ∷ old → TookBack mid new acts → TookBack old new ((more ++ acts) ++ Starts plan ∷ [])
  told_part old mid new acts more begun part = record {
    rest = more ++ part.rest;
    back = part.back ++ Starts plan ∷ [];
    parts = ap (λ l. l ++ Starts plan ∷ []) (ap (λ l. more ++ l) part.parts ∙ sym (append_assoc more part.rest part.back))
        ∙ append_assoc (more ++ part.rest) part.back (Starts plan ∷ []);
    told = told_all old mid new part.back begun part.told;
  }

  -- behind the header, the text of the events and the end mark
  in_file : (old mid now last text mark : List ℕ) → mid ≡ old ++ header_text (heading h) → now ≡ mid ++ text → last ≡ now ++ mark
      → last ≡ old ++ (header_text (heading h) ++ (text ++ mark))
  in_file old mid now last text mark begun served closed =
      let head = header_text (heading h) in
      closed ∙ ap (λ l. l ++ mark) (served ∙ ap (λ l. l ++ text) begun)
      ∙ ap (λ l. l ++ mark) (append_assoc old head text) ∙ append_assoc old (head ++ text) mark ∙ ap (λ l. old ++ l) (append_assoc head text mark)

  front_in_file : (old mid now text : List ℕ) → mid ≡ old ++ header_text (heading h) → TookFront mid now text
      → TookFront old now (header_text (heading h) ++ (text ++ 0 ∷ []))
  front_in_file old mid now text begun part =
      let head = header_text (heading h) in
      record {
        front = head ++ part.front;
        rest = part.rest ++ 0 ∷ [];
        parts = ap (λ l. head ++ l) (ap (λ l. l ++ 0 ∷ []) part.parts ∙ append_assoc part.front part.rest (0 ∷ []))
            ∙ sym (append_assoc head part.front (part.rest ++ 0 ∷ []));
        taken = part.taken ∙ ap (λ l. l ++ part.front) begun ∙ append_assoc old head part.front;
      }

  mark_in_file : (old mid now last text : List ℕ) → mid ≡ old ++ header_text (heading h) → now ≡ mid ++ text → TookFront now last (0 ∷ [])
      → TookFront old last (header_text (heading h) ++ (text ++ 0 ∷ []))
  mark_in_file old mid now last text begun served part =
      let head = header_text (heading h) in
      record {
        front = head ++ (text ++ part.front);
        rest = part.rest;
        parts = ap (λ l. head ++ l) (ap (λ l. text ++ l) part.parts ∙ sym (append_assoc text part.front part.rest))
            ∙ sym (append_assoc head (text ++ part.front) part.rest);
        taken = in_file old mid now last text part.front begun served part.taken;
      }

  -- ---- the ends

  pub all_taken : (base mid now last : Outs) (events : List Event) (acts : List LinkAct) → HasBegun (heading h) plan tells base mid → Agrees tells mid now events acts
      → (tells.tape ≡ true → last.taken ≡ now.taken ++ 0 ∷ []) → last.told ≡ now.told → last.tape_faults ≡ now.tape_faults → last.link_faults ≡ now.link_faults → TookAll h plan tells base last events acts
  all_taken base mid now last events acts begun served closed same tape link = record {
    file = λ t. in_file base.taken mid.taken now.taken last.taken (events_text events) (0 ∷ []) (begun.taken t) (served.taken t) (closed t);
    told = λ t. same ∙ told_all base.told mid.told now.told acts (begun.told t) (served.told t);
    none_failed = (tape ∙ (served.tape_stands ∙ begun.tape_stands), link ∙ (served.link_stands ∙ begun.link_stands));
  }

  pub part_taken : (base mid now : Outs) (events : List Event) (acts more : List LinkAct) → HasBegun (heading h) plan tells base mid
      → (tells.tape ≡ true → TookFront mid.taken now.taken (events_text events)) → (tells.link ≡ true → TookBack mid.told now.told acts)
      → TookPart h plan tells base now events (more ++ acts)
  part_taken base mid now events acts more begun taken told = record {
    file = λ t. front_in_file base.taken mid.taken now.taken (events_text events) (begun.taken t) (taken t);
    told = λ t. told_part base.told mid.told now.told acts more (begun.told t) (told t);
  }

  pub mark_lost : (base mid now last : Outs) (events : List Event) (acts : List LinkAct) → HasBegun (heading h) plan tells base mid → Agrees tells mid now events acts
      → (tells.tape ≡ true → TookFront now.taken last.taken (0 ∷ [])) → last.told ≡ now.told → TookPart h plan tells base last events acts
  mark_lost base mid now last events acts begun served lost same = record {
    file = λ t. mark_in_file base.taken mid.taken now.taken last.taken (events_text events) (begun.taken t) (served.taken t) (lost t);
    told = λ t. told_part base.told mid.told last.told acts [] (begun.told t)
        (record { rest = []; back = acts; parts = refl; told = same ∙ served.told t });
  }

  -- where the link was to be asked, its end is one call more
  last_more : (rule : Want) (acts : List LinkAct) → (more : List LinkAct) × (last_acts rule acts ≡ more ++ acts)
  last_more (Begins item) acts = ([], refl)
  last_more Ends acts = ([], refl)
  last_more Finishes acts = ([], refl)
  last_more (Overflows x) acts = ([], refl)
  last_more (Turns i) acts = ([], refl)
  last_more (Closes i epoch) acts = ([], refl)
  last_more Halts acts = ([], refl)
  last_more (Reminds i j) acts = ([], refl)
  last_more Asks acts = (Gives items.End ∷ [], refl)

  pub last_taken : (base now : Outs) (events : List Event) (acts : List LinkAct) (rule : Want) → ((more : List LinkAct) → TookPart h plan tells base now events (more ++ acts))
      → TookPart h plan tells base now events (last_acts rule acts)
  last_taken base now events acts rule part =
      let more = last_more rule acts in
      subst (TookPart h plan tells base now events) (sym more.1) (part more.0)

  -- nothing was served
  pub not_begun : (base now : Outs) (earlier : List Event) (s : Serving) (sooner news : List LinkAct) (rule : Want) (end : ServeEnd) → HasFailed (heading h) plan tells base now end
      → SessionEnds h plan tells base now end earlier s sooner news rule
  not_begun base now earlier s sooner news rule end failed = by_end end failed
    where
      part : (more : List LinkAct) → TookPart h plan tells base now s.events (more ++ (news ++ sooner))
      part more = record {
        file = λ t. let part = failed.taken t in record {
          front = part.front;
          rest = part.rest ++ (events_text s.events ++ 0 ∷ []);
          parts = ap (λ l. l ++ (events_text s.events ++ 0 ∷ [])) part.parts ∙ append_assoc part.front part.rest (events_text s.events ++ 0 ∷ []);
          taken = part.taken;
        };
        told = λ t. let acts = (more ++ (news ++ sooner)) ++ Starts plan ∷ [] in record { rest = acts; back = []; parts = sym (append-nil acts); told = failed.told t };
      }

      by_end : (x : ServeEnd) → HasFailed (heading h) plan tells base now x → SessionEnds h plan tells base now x earlier s sooner news rule
      by_end ends.LinkFault why = (why.cause, part [], NotStarted why)
      by_end ends.TapeFault why = (why.cause, last_taken base now s.events (news ++ sooner) rule part, NotStarted why)
      by_end ends.Mem why = (why.cause, part [], NotStarted why)
      by_end end why = absurd why.cause
