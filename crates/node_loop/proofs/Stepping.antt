-- The tape and the link go on together.
use Rattle.std.proofs.Common.{◌≡◌, ℕ, ◌+◌, ◌<◌, List, [], ◌∷◌, ◌++◌, length, take, drop, get_or, reverse, Ok, Err, sym, subst, ap, ap₂, ◌∙◌, append_assoc, arith, inl, inr}
use Rattle.std.specs.List.{flat_map}
use Rattle.std.proofs.lemmas.List.{append-nil, reverse-reverse, take_more, drop_more, take-append-drop}
use Rattle.std.proofs.lemmas.Grind.{flat_map-append}
use Rattle.ritas_base.specs.declared.event.Event.{Event}
use Rattle.outside.specs.LinkCallsLaws.{back_then}
use Rattle.outside.specs.Links.{LinkAct, failed_once, short_once, faults_after}
use Rattle.outside.specs.Writing.{TookFront}
use Rattle.outside.specs.WritingLaws.{all_written, front_more}
use Rattle.schedule_file.specs.Spelling.{event_text}
use Rattle.outside.specs.declared.link.FaultCounts.{FaultCounts}
use Rattle.outside.specs.declared.link.LinkFault.{LinkFault}
use Rattle.outside.specs.declared.link.LinkFault.TheVariants as link_faults
use Rattle.node_loop.specs.declared.end.Fault.{Fault}
use Rattle.node_loop.specs.declared.end.Fault.TheVariants as faults
use Rattle.node_loop.specs.Running.{IsOfTape}
use Rattle.node_loop.specs.Outs.{events_text, IsCounted, LinkGiven, Outs, Tells, Agrees, HasCauses, AllWritten, InOrder, StopsPartway}
use Rattle.node_loop.specs.Ends.{IsFaultOfLink}

pub same_failed : {a b : FaultCounts} → a ≡ b → a.failed ≡ b.failed
same_failed e = ap (λ (n : FaultCounts). n.failed) e

abbrev pub with_link : Outs → List LinkAct → FaultCounts → Outs
with_link o told faults = record o { told = told; link_faults = faults }

-- ---- events, one after the other, the oldest first

text_turned : (es : List Event) → events_text (reverse es) ≡ flat_map event_text es
text_turned es = ap (flat_map event_text) (reverse-reverse es)

text_from : (es : List Event) (i : ℕ) (e : Event) → i < length es → e ≡ get_or es i e
    → events_text (reverse es) ≡ events_text (reverse (take i es)) ++ (event_text e ++ flat_map event_text (drop (i + 1) es))
text_from es i e lt is =
    text_turned es ∙ (ap (flat_map event_text) (sym (take-append-drop i es)) ∙ flat_map-append event_text (take i es) (drop i es))
    ∙ ap₂ (λ (a b : List ℕ). a ++ b) (sym (text_turned (take i es)))
    (ap (flat_map event_text) (drop_more es i e lt) ∙ ap (λ (x : Event). event_text x ++ flat_map event_text (drop (i + 1) es)) (sym is))

-- an event more
pub text_more : (es : List Event) (i : ℕ) (e : Event) → i < length es → e ≡ get_or es i e → events_text (reverse (take i es)) ++ event_text e ≡ events_text (reverse (take (i + 1) es))
text_more es i e lt is =
    sym (text_turned (take (i + 1) es)
    ∙ (ap (flat_map event_text) (take_more es i e lt) ∙ flat_map-append event_text (take i es) (get_or es i e ∷ []))
    ∙ ap₂ (λ (x y : List ℕ). x ++ y) (sym (text_turned (take i es))) (append-nil (event_text (get_or es i e)) ∙ ap event_text (sym is)))

-- a front with one more is a front of all
pub text_front : (es : List Event) (i : ℕ) (e : Event) (old new : List ℕ) → i < length es → e ≡ get_or es i e → TookFront old new (events_text (reverse (take i es)) ++ event_text e)
    → TookFront old new (events_text (reverse es))
text_front es i e old new lt is front =
    let rest = flat_map event_text (drop (i + 1) es) in
    subst (λ (l : List ℕ). TookFront old new l) (append_assoc (events_text (reverse (take i es))) (event_text e) rest ∙ sym (text_from es i e lt is))
    (front_more old new (events_text (reverse (take i es)) ++ event_text e) rest front)

-- ---- the link

-- the link was given these
pub link_goes : (tells : Tells) (base o : Outs) (events : List Event) (acts news told : List LinkAct) (count : FaultCounts)
    → Agrees tells base o events acts → LinkGiven tells.link news o.told told o.link_faults count (Ok tt)
    → Agrees tells base (with_link o told count) events (news ++ acts)
link_goes tells base o events acts news told count agrees did = record {
  taken = agrees.taken;
  told = λ t. did.whole t ∙ rw (agrees.told t) (sym (append_assoc news acts base.told));
  tape_stands = agrees.tape_stands;
  link_stands = did.count ∙ agrees.link_stands;
}

-- ---- whose fault it is

-- a fault of the link, or want of memory
abbrev pub IsOfLink : Fault → Type 0
IsOfLink faults.Link = Unit {0}
IsOfLink faults.Mem = Unit {0}
IsOfLink faults.Tape = ⊥
IsOfLink faults.Disk = ⊥
IsOfLink (faults.Full x) = ⊥

-- what holds of these two holds of each that is of the link
pub of_link : (P : Fault → Type 0) → P faults.Link → P faults.Mem → (fault : Fault) → IsOfLink fault → P fault
of_link P link short faults.Link own = link
of_link P link short faults.Mem own = short
of_link P link short faults.Tape own = absurd own
of_link P link short faults.Disk own = absurd own
of_link P link short (faults.Full x) own = absurd own

-- and what holds of the tape's
pub of_tape : (P : Fault → Type 0) → P faults.Tape → (fault : Fault) → IsOfTape fault → P fault
of_tape P tape faults.Tape own = tape
of_tape P tape faults.Mem own = absurd own
of_tape P tape faults.Link own = absurd own
of_tape P tape faults.Disk own = absurd own
of_tape P tape (faults.Full x) own = absurd own

-- the link's faults are of it
pub link_alone : (x : LinkFault) (fault : Fault) → IsFaultOfLink x fault → IsOfLink fault
link_alone link_faults.Failed fault is = rw is tt
link_alone link_faults.Mem fault is = rw is tt

-- ---- the link wasn't given all

pub has_cause : (A : Type 0) (base o : Outs) (events : List Event) (acts told : List LinkAct) (tells : Tells) (count : FaultCounts) (x : LinkFault) (fault : Fault) → IsFaultOfLink x fault
    → Agrees tells base o events acts → count ≡ faults_after {A = A} o.link_faults (Err x) → HasCauses base (with_link o told count) fault
has_cause A base o events acts told tells count link_faults.Failed fault is agrees counts = rw is (agrees.tape_stands, counts ∙ ap failed_once agrees.link_stands)
has_cause A base o events acts told tells count link_faults.Mem fault is agrees counts = rw is (agrees.tape_stands, inr (counts ∙ ap short_once agrees.link_stands))

-- where memory may have run out before a call
given_cause : (base o : Outs) (events : List Event) (acts told : List LinkAct) (tells : Tells) (count : FaultCounts) (x : LinkFault) (fault : Fault) → IsFaultOfLink x fault
    → Agrees tells base o events acts → IsCounted o.link_faults count (Err x) → HasCauses base (with_link o told count) fault
given_cause base o events acts told tells count link_faults.Failed fault is agrees counts = rw is (agrees.tape_stands, counts ∙ ap failed_once agrees.link_stands)
given_cause base o events acts told tells count link_faults.Mem fault is agrees (inl counts) = rw is (agrees.tape_stands, inl (counts ∙ agrees.link_stands))
given_cause base o events acts told tells count link_faults.Mem fault is agrees (inr counts) = rw is (agrees.tape_stands, inr (counts ∙ ap short_once agrees.link_stands))

-- all that was written was written before
pub whole_order : (tells : Tells) (base o : Outs) (earlier events : List Event) (sooner : List LinkAct) (fault : Fault) → IsOfLink fault → AllWritten tells base o events
    → InOrder tells base o fault earlier events sooner
whole_order tells base o earlier events sooner fault own written = of_link (λ x. InOrder tells base o x earlier events sooner) (inl written) (inl written) fault own

-- of what is new some was told before, and then a part of the rest
pub link_stops : (tells : Tells) (base o : Outs) (earlier events : List Event) (sooner done news all told : List LinkAct) (count : FaultCounts) (x : LinkFault) (fault : Fault)
    → IsFaultOfLink x fault → all ≡ news ++ done → Agrees tells base o events (done ++ sooner) → LinkGiven tells.link news o.told told o.link_faults count (Err x)
    → StopsPartway tells base (with_link o told count) fault earlier events sooner all
link_stops tells base o earlier events sooner done news all told count x fault is both agrees did = record {
  taken = λ t. all_written base.taken o.taken (events_text events) (agrees.taken t);
  told = λ t. rw both (back_then (sooner ++ base.told) o.told told done news (agrees.told t ∙ append_assoc done sooner base.told) (did.back t));
  order = whole_order tells base (with_link o told count) earlier events sooner fault (link_alone x fault is) agrees.taken;
  tape_later = omega (arith, agrees.tape_stands);
  link_later = omega (arith, same_failed agrees.link_stands, did.later);
  cause = given_cause base o events (done ++ sooner) told tells count x fault is agrees did.count;
}
