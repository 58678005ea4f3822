-- What a group holds of the rounds whose outcome is delivered together.
use Rattle.std.proofs.Common.{arith, ◌≡◌, ℕ, ◌+◌, ◌<◌, Bool, true, false, List, [], ◌∷◌, ◌++◌, length, map, reverse, take, drop, get_or, Option, Some, None, Result, Ok, Err, refl, sym, ◌∙◌, ap, ap₂, subst, append_assoc}
use Rattle.std.specs.List.{AllByRecursion, flat_map}
use Rattle.std.proofs.lemmas.List.{append-nil, reverse-append, take_more, take-append-drop}
use Rattle.std.proofs.lemmas.Grind.{flat_map-append}
use Rattle.std.specs.Result.{OnOk}
use Rattle.ritas_base.specs.declared.bytes.Mem.{Mem}
use Rattle.ritas_base.specs.declared.event.Event.{Event}
use Rattle.keyed_channel.specs.KeyRow.{KeyRow}
use Rattle.ritas_core.specs.Stands.{Meaning}
use Rattle.link_resume.specs.declared.kept.Kept.{Kept}
use Rattle.outside.specs.LinkCalls.{each_act}
use Rattle.outside.specs.Links.{LinkAct, Replies}
use Rattle.outside.specs.declared.link.FaultCounts.{FaultCounts}
use Rattle.outside.specs.declared.link.LinkFault.{LinkFault}
use Rattle.schedule_file.specs.Spelling.{event_text}
use Rattle.world_model.specs.World.{Setting}
use Rattle.node_loop.specs.declared.group.Group.{Group}
use Rattle.node_loop.specs.declared.house.House.{House}
use Rattle.node_loop.specs.declared.output.More.{More}
use Rattle.node_loop.specs.declared.output.More.TheVariants as mores
use Rattle.node_loop.specs.declared.output.Output.{Output}
use Rattle.node_loop.specs.declared.output.Reply.{Reply}
use Rattle.replica.specs.Out.{OutFrame}
use Rattle.node_loop.specs.Calls.{Outcome}
use Rattle.node_loop.specs.Deeds.{Deed, Resent, act_of, has_resent}
use Rattle.node_loop.specs.Groups.{acts_by, acts_each, more_by, FitsPeers, kept_listed, text_listed, GroupHolds, JoinsGroup, Under, IsEmpty}
use Rattle.node_loop.specs.Keeping.{is_kept, has_kept, kept_onto, kept_of}
use Rattle.node_loop.specs.Outs.{events_text, LinkGiven}
use Rattle.node_loop.proofs.Taking.{given_then, given_fails}
use Rattle.node_loop.specs.Peers.{Keeping}
use Rattle.node_loop.specs.PeersStanding.{kept_by}
use Rattle.node_loop.specs.declared.output.Part.{Part}
use Rattle.node_loop.specs.Resending.{Brought, part_of}
use Rattle.node_loop.specs.Serving.{Serving, so_far, sent_by, sent_of, onto, Round, Began, Turned, Closed, Reminded, Took, at_call, outcome, brought, after_from}
use Rattle.node_loop.specs.Told.{AreJoined, enough_bytes, events_from, news_from}
use Rattle.node_loop.specs.Standing.{HouseStands, ComesOut, IsMore, IsMoreNow, is_again, frame_by, reply_by}

-- ---- what goes out, round after round

acts_append : {A : Type 0} (f : A → List LinkAct) (xs ys : List A) → acts_each f (xs ++ ys) ≡ acts_each f ys ++ acts_each f xs
acts_append f [] ys = sym (append-nil (acts_each f ys))
acts_append f (x ∷ xs) ys = ap (λ (l : List LinkAct). l ++ f x) (acts_append f xs ys) ∙ append_assoc (acts_each f ys) (acts_each f xs) (f x)

acts_more : {A : Type 0} (f : A → List LinkAct) (xs : List A) (i : ℕ) (x d : A) → i < length xs → x ≡ get_or xs i d
    → acts_each f (take (i + 1) xs) ≡ f x ++ acts_each f (take i xs)
acts_more f xs i x d lt is =
    ap (acts_each f) (take_more xs i d lt) ∙ (acts_append f (take i xs) (get_or xs i d ∷ []) ∙ ap (λ (y : _). f y ++ acts_each f (take i xs)) (sym is))

acts_rest : {A : Type 0} (f : A → List LinkAct) (xs : List A) (i : ℕ) → acts_each f xs ≡ acts_each f (drop i xs) ++ acts_each f (take i xs)
acts_rest f xs i = ap (acts_each f) (sym (take-append-drop i xs)) ∙ acts_append f (take i xs) (drop i xs)

-- the next one's went out
pub acts_go : {A : Type 0} (f : A → List LinkAct) (xs : List A) (i : ℕ) (x d : A) (tells : Bool) (old mid new : List LinkAct) (k y z : FaultCounts)
    → i < length xs → x ≡ get_or xs i d → LinkGiven tells (acts_each f (take i xs)) old mid k y (Ok tt) → LinkGiven tells (f x) mid new y z (Ok tt)
    → LinkGiven tells (acts_each f (take (i + 1) xs)) old new k z (Ok tt)
acts_go f xs i x d tells old mid new k y z lt is first second =
    rw (acts_more f xs i x d lt is) (given_then tells (acts_each f (take i xs)) (f x) old mid new k y z (Ok tt) first second)

-- a part of them did
pub acts_fail : {A : Type 0} (f : A → List LinkAct) (xs : List A) (i : ℕ) (x d : A) (tells : Bool) (old mid new : List LinkAct) (k y z : FaultCounts) (e : LinkFault)
    → i < length xs → x ≡ get_or xs i d → LinkGiven tells (acts_each f (take i xs)) old mid k y (Ok tt) → LinkGiven tells (f x) mid new y z (Err e)
    → LinkGiven tells (acts_each f xs) old new k z (Err e)
acts_fail f xs i x d tells old mid new k y z e lt is first second =
    let here = given_then tells (acts_each f (take i xs)) (f x) old mid new k y z (Err e) first second in
    let more : LinkGiven tells (acts_each f (take (i + 1) xs)) old new k z (Err e) = rw (acts_more f xs i x d lt is) here in
    rw (acts_rest f xs (i + 1)) (given_fails tells (acts_each f (take (i + 1) xs)) (acts_each f (drop (i + 1) xs)) old new k z e more)

-- ---- what goes out of one round

resent_acts : (keys : ℕ → KeyRow) (at peer : ℕ) (kept : List Kept) → map (act_of keys) (map (λ k. Resent at peer k.frame) kept) ≡ map (kept_by at peer) kept
resent_acts keys at peer [] = refl
resent_acts keys at peer (k ∷ kept) = ap (λ (acts : List LinkAct). kept_by at peer k ∷ acts) (resent_acts keys at peer kept)

besides : (w : Setting) (at : ℕ) (goes : More) (more : Brought) → IsMore w at goes more → more_by more.peers.keeping at goes ≡ reverse (map (act_of w.keys) more.deeds)
besides w at mores.Nothing more brings = ap (λ (ds : List Deed). reverse (map (act_of w.keys) ds)) (sym brings)
besides w at (mores.Note peer bytes) more brings = ap reverse (sym brings.0)
besides w at (mores.Kept peer part) more brings =
    ap reverse (sym (resent_acts w.keys at peer (part_of part (more.peers.keeping at peer))) ∙ ap (map (act_of w.keys)) (sym brings.1))

acts_as : (w : Setting) (es : List Event) (did : Outcome) (more : Brought) (o : Output) → map (frame_by o.at) o.frames.items ≡ sent_by w es did.event → IsMore w o.at o.more more
    → map (reply_by o.at) o.replies.items ≡ did.replies → acts_by more.peers.keeping o ≡ sent_of w es did more
acts_as w es did more o frames brings replies =
    ap₂ (λ (a b : List LinkAct). a ++ b) (ap (each_act Replies) replies) (ap₂ (λ (a b : List LinkAct). a ++ b) (besides w o.at o.more more brings) (ap reverse frames))

none_kept : (at peer : ℕ) (kept : List Kept) → map (λ k. Resent at peer k.frame) kept ≡ [] → kept ≡ []
none_kept at peer [] none = refl
none_kept at peer (k ∷ kept) none = absurd (cc)

pub fits_as : (w : Setting) (at : ℕ) (goes : More) (more : Brought) → IsMore w at goes more → (w.is_correct at ≡ false → more.deeds ≡ []) → FitsPeers w more.peers.keeping at goes
fits_as w at mores.Nothing more brings nowhere = tt
fits_as w at (mores.Note peer bytes) more brings nowhere = tt
fits_as w at (mores.Kept peer part) more brings nowhere =
    (brings.0, λ away. none_kept at peer (part_of part (more.peers.keeping at peer)) (sym brings.1 ∙ nowhere away))

module _ (tells : Bool) (keeping : Keeping) (o : Output) where
  abbrev frames_of : List OutFrame → List LinkAct
  frames_of items = each_act (frame_by o.at) items

  abbrev more_of : List LinkAct
  more_of = more_by keeping o.at o.more

  abbrev replies_of : List Reply → List LinkAct
  replies_of items = each_act Replies (map (reply_by o.at) items)

  as_frames : (items : List OutFrame) (old new : List LinkAct) (x y : FaultCounts) (r : Result (Unit {0}) LinkFault) → items ≡ o.frames.items → LinkGiven tells (frames_of items) old new x y r
      → LinkGiven tells (frames_of o.frames.items) old new x y r
  as_frames items old new x y r same did = subst (λ (l : List OutFrame). LinkGiven tells (frames_of l) old new x y r) same did

  -- some of the frames went out
  pub frames_fail : (items : List OutFrame) (old new : List LinkAct) (x y : FaultCounts) (fault : LinkFault) → items ≡ o.frames.items → LinkGiven tells (frames_of items) old new x y (Err fault)
      → LinkGiven tells (acts_by keeping o) old new x y (Err fault)
  frames_fail items old new x y fault same did =
      given_fails tells (more_of ++ frames_of o.frames.items) (replies_of o.replies.items) old new x y fault
      (given_fails tells (frames_of o.frames.items) more_of old new x y fault (as_frames items old new x y (Err fault) same did))

  out_both : (items : List OutFrame) (old mid new : List LinkAct) (x y z : FaultCounts) (r : Result (Unit {0}) LinkFault) → items ≡ o.frames.items
      → LinkGiven tells (frames_of items) old mid x y (Ok tt) → LinkGiven tells more_of mid new y z r → LinkGiven tells (more_of ++ frames_of o.frames.items) old new x z r
  out_both items old mid new x y z r same first second =
      given_then tells (frames_of o.frames.items) more_of old mid new x y z r (as_frames items old mid x y (Ok tt) same first) second

  -- all of them did, and a part of what goes to a peer besides
  pub more_fails : (items : List OutFrame) (old mid new : List LinkAct) (x y z : FaultCounts) (fault : LinkFault) → items ≡ o.frames.items
      → LinkGiven tells (frames_of items) old mid x y (Ok tt) → LinkGiven tells more_of mid new y z (Err fault) → LinkGiven tells (acts_by keeping o) old new x z (Err fault)
  more_fails items old mid new x y z fault same first second =
      given_fails tells (more_of ++ frames_of o.frames.items) (replies_of o.replies.items) old new x z fault (out_both items old mid new x y z (Err fault) same first second)

  -- all of it did, and then the replies or a part of them
  pub replies_then : (items : List OutFrame) (replies : List Reply) (old mid then new : List LinkAct) (x y z k : FaultCounts) (r : Result (Unit {0}) LinkFault)
      → items ≡ o.frames.items → replies ≡ o.replies.items → LinkGiven tells (frames_of items) old mid x y (Ok tt) → LinkGiven tells more_of mid then y z (Ok tt)
      → LinkGiven tells (replies_of replies) then new z k r → LinkGiven tells (acts_by keeping o) old new x k r
  replies_then items replies old mid then new x y z k r same are first second third =
      given_then tells (more_of ++ frames_of o.frames.items) (replies_of o.replies.items) old then new x z k r (out_both items old mid then x y z (Ok tt) same first second)
      (subst (λ (l : List Reply). LinkGiven tells (replies_of l) then new z k r) are third)

-- ---- what doesn't go by what is kept

abbrev AreSettled : List Output → Type 0
AreSettled os = AllByRecursion (λ o. is_again o.more ≡ false) os

more_settled : (p q : Keeping) (at : ℕ) (goes : More) → is_again goes ≡ false → more_by p at goes ≡ more_by q at goes
more_settled p q at mores.Nothing calm = refl
more_settled p q at (mores.Note peer bytes) calm = refl
more_settled p q at (mores.Kept peer part) calm = absurd (cc)

fit_settled : (w : Setting) (q : Keeping) (at : ℕ) (goes : More) → is_again goes ≡ false → FitsPeers w q at goes
fit_settled w q at mores.Nothing calm = tt
fit_settled w q at (mores.Note peer bytes) calm = tt
fit_settled w q at (mores.Kept peer part) calm = absurd (cc)

one_settled : (p q : Keeping) (o : Output) → is_again o.more ≡ false → acts_by p o ≡ acts_by q o
one_settled p q o calm =
    ap (λ (l : List LinkAct). each_act Replies (map (reply_by o.at) o.replies.items) ++ (l ++ each_act (frame_by o.at) o.frames.items)) (more_settled p q o.at o.more calm)

all_settled : (p q : Keeping) (os : List Output) → AreSettled os → acts_each (acts_by p) os ≡ acts_each (acts_by q) os
all_settled p q [] calm = refl
all_settled p q (o ∷ os) calm = ap₂ (λ (a b : List LinkAct). a ++ b) (all_settled p q os calm.1) (one_settled p q o calm.0)

all_fit : (w : Setting) (q : Keeping) (os : List Output) → AreSettled os → AllByRecursion (λ o. FitsPeers w q o.at o.more) os
all_fit w q [] calm = tt
all_fit w q (o ∷ os) calm = (fit_settled w q o.at o.more calm.0, all_fit w q os calm.1)

all_pushed : {A : Type 0} (P : A → Type 0) (xs : List A) (x : A) → AllByRecursion P xs → P x → AllByRecursion P (xs ++ x ∷ [])
all_pushed P [] x all one = (one, tt)
all_pushed P (y ∷ xs) x all one = (all.0, all_pushed P xs x all.1 one)

-- what goes out again is what is kept, if some is
pub now_nothing : (w : Setting) (at : ℕ) (more : Brought) → IsMore w at mores.Nothing more → IsMoreNow w at mores.Nothing more
now_nothing w at more brings = record { besides = brings; again = sym (ap has_resent brings) }

pub now_note : (w : Setting) (at peer : ℕ) (bytes : _) (more : Brought) → IsMore w at (mores.Note peer bytes) more → IsMoreNow w at (mores.Note peer bytes) more
now_note w at peer bytes more brings = record { besides = brings; again = sym brings.1 }

pub now_as : (w : Setting) (at : ℕ) (goes : More) (more : Brought) → ((peer : ℕ) (part : Part) → goes ≡ mores.Kept peer part → ⊥) → IsMore w at goes more → IsMoreNow w at goes more
now_as w at mores.Nothing more other brings = now_nothing w at more brings
now_as w at (mores.Note peer bytes) more other brings = now_note w at peer bytes more brings
now_as w at (mores.Kept peer part) more other brings = absurd (other peer part refl)

pub now_none : (w : Setting) (at peer : ℕ) (part : Part) (more : Brought) → IsMore w at (mores.Kept peer part) more → length (part_of part (more.peers.keeping at peer)) ≡ 0
    → IsMoreNow w at mores.Nothing more
now_none w at peer part more brings none = now_nothing w at more (brings.1 ∙ by_kept (part_of part (more.peers.keeping at peer)) none)
  where
    by_kept : (kept : List Kept) → length kept ≡ 0 → map (λ k. Resent at peer k.frame) kept ≡ []
    by_kept [] is = refl
    by_kept (k ∷ kept) is = absurd (omega (arith, is))

pub now_some : (w : Setting) (at peer : ℕ) (part : Part) (more : Brought) → IsMore w at (mores.Kept peer part) more → (length (part_of part (more.peers.keeping at peer)) ≡ 0 → ⊥)
    → IsMoreNow w at (mores.Kept peer part) more
now_some w at peer part more brings some = record { besides = brings; again = by_kept (part_of part (more.peers.keeping at peer)) some ∙ sym (ap has_resent brings.1) }
  where
    by_kept : (kept : List Kept) → (length kept ≡ 0 → ⊥) → true ≡ has_resent (map (λ k. Resent at peer k.frame) kept)
    by_kept [] some = absurd (some refl)
    by_kept (k ∷ kept) some = refl

-- ---- the events of a group, and those before

pub onto_past : (o : Option Event) (es past : List Event) → onto o (es ++ past) ≡ onto o es ++ past
onto_past None es past = refl
onto_past (Some e) es past = refl

at_events : (x : Round) (s : Serving) → (at_call x s).events ≡ s.events
at_events (Began item) s = refl
at_events (Turned i) s = refl
at_events (Closed i epoch) s = refl
at_events (Reminded i j) s = refl
at_events (Took item) s = refl

pub events_parts : (w : Setting) (past : List Event) (start : Serving) (group : List Round)
    → (after_from w past start group).events ≡ events_from w past start group ++ start.events
events_parts w past start [] = refl
events_parts w past start (x ∷ group) =
    let s = after_from w past start group in
    ap (onto (outcome w past x s).event) (at_events x s ∙ events_parts w past start group)
    ∙ onto_past (outcome w past x s).event (events_from w past start group) start.events

pub text_parts : (a b : List Event) → events_text (a ++ b) ≡ events_text b ++ events_text a
text_parts a b = ap (flat_map event_text) (reverse-append a b) ∙ flat_map-append event_text (reverse b) (reverse a)

kept_past : (b : Bool) (e : Event) (xs ys : List Event) → kept_onto b e (xs ++ ys) ≡ kept_onto b e xs ++ ys
kept_past true e xs ys = refl
kept_past false e xs ys = refl

kept_both : (w : Setting) (past a b : List Event) → kept_of w past (a ++ b) ≡ kept_of w (b ++ past) a ++ kept_of w past b
kept_both w past [] b = refl
kept_both w past (e ∷ a) b =
    ap₂ (λ (es : List Event) (l : List Event). kept_onto (is_kept w es e) e l) (append_assoc a b past) (kept_both w past a b)
    ∙ kept_past (is_kept w (a ++ (b ++ past)) e) e (kept_of w (b ++ past) a) (kept_of w past b)

pub kept_parts : (w : Setting) (past : List Event) (start : Serving) (group : List Round)
    → kept_of w past (after_from w past start group).events ≡ kept_of w (so_far past start) (events_from w past start group) ++ kept_of w past start.events
kept_parts w past start group =
    ap (kept_of w past) (events_parts w past start group) ∙ kept_both w past (events_from w past start group) start.events

-- ---- a round more

-- the text has that of its event too
text_joins : (o : Option Event) (es : List Event) → events_text es ++ text_listed o ≡ events_text (onto o es)
text_joins None es = append-nil (events_text es)
text_joins (Some e) es =
    ap (λ (l : List ℕ). events_text es ++ l) (sym (append-nil (event_text e))) ∙ sym (text_parts (e ∷ []) es)

-- and it is among the kept ones, if it is kept
kept_joins : (w : Setting) (past es : List Event) (o : Option Event) (b : Bool) → b ≡ has_kept w (es ++ past) o
    → reverse (kept_of w past es) ++ kept_listed b o ≡ reverse (kept_of w past (onto o es))
kept_joins w past es None true is = absurd (cc)
kept_joins w past es None false is = append-nil (reverse (kept_of w past es))
kept_joins w past es (Some e) b is = either b (is_kept w (es ++ past) e) is
  where
    either : (b c : Bool) → b ≡ c → reverse (kept_of w past es) ++ kept_listed b (Some e) ≡ reverse (kept_onto c e (kept_of w past es))
    either true true same = sym (reverse-append (e ∷ []) (kept_of w past es))
    either false false same = append-nil (reverse (kept_of w past es))
    either true false same = absurd (cc)
    either false true same = absurd (cc)

module _ (w : Setting) (past : List Event) (start : Serving) (group : Group) where
  calm : (newest : List Round) (x : Round) → GroupHolds w past start newest group → JoinsGroup newest x group → AreSettled group.outputs.items
  calm [] x holds joins = subst AreSettled (sym (holds.none refl)) tt
  calm (y ∷ newest) x holds joins = (holds.settled joins.1.calm).0

  pub joins_on : (newest : List Round) (x : Round) → GroupHolds w past start newest group → JoinsGroup newest x group → AreJoined w past start (x ∷ newest)
  joins_on [] x holds joins = (tt, holds.joined)
  joins_on (y ∷ newest) x holds joins =
      let light : length (events_text (events_from w past start (y ∷ newest))) < enough_bytes = subst (λ (l : List ℕ). length l < enough_bytes) holds.text joins.1.light in
      ((joins.0, (holds.settled joins.1.calm).1, light), holds.joined)

module _ {S E C : Type 0} (m : Meaning S E C KeyRow) (w : Setting) (past : List Event) (numbers : List ℕ) (start : Serving) (x : Round) (newest : List Round)
    (house : House S E C) (group new : Group) (o : Output) (goes : More) where
  abbrev s : Serving
  s = after_from w past start newest

  abbrev did : Outcome
  did = outcome w past x s

  abbrev more : Brought
  more = brought w past x s

  abbrev then : Output
  then = record o { event = None; more = goes }

  abbrev es : List Event
  es = events_from w past start newest

  acts_grow : acts_by more.peers.keeping then ≡ sent_of w (so_far past (at_call x s)) did more → AreSettled group.outputs.items → GroupHolds w past start newest group
      → new.outputs.items ≡ group.outputs.items ++ then ∷ []
      → acts_each (acts_by more.peers.keeping) new.outputs.items ≡ news_from w past start (x ∷ newest)
  acts_grow sent still holds outputs =
      let keeping = more.peers.keeping in
      ap (acts_each (acts_by keeping)) outputs
      ∙ acts_append (acts_by keeping) group.outputs.items (then ∷ [])
      ∙ ap₂ (λ (a b : List LinkAct). a ++ b) sent (all_settled keeping s.peers.keeping group.outputs.items still ∙ holds.acts)

  -- the events before its own
  events_at : so_far past (at_call x s) ≡ es ++ so_far past start
  events_at = ap (λ (l : List Event). l ++ past) (at_events x s ∙ events_parts w past start newest) ∙ append_assoc es start.events past

  pub joined : ComesOut m w (so_far past (at_call x s)) numbers house o did more → IsMoreNow w o.at goes more → GroupHolds w past start newest group → JoinsGroup newest x group
      → new.text.taken ≡ group.text.taken ++ text_listed o.event → new.kept.items ≡ group.kept.items ++ kept_listed o.kept o.event
      → new.outputs.items ≡ group.outputs.items ++ then ∷ [] → new.resends ≡ is_again goes
      → GroupHolds w past start (x ∷ newest) new
  joined comes now holds joins text kept outputs again =
      let still = calm w past start group newest x holds joins in
      let is_kept_so : o.kept ≡ has_kept w (es ++ so_far past start) did.event = comes.keeps ∙ ap (λ (l : List Event). has_kept w l did.event) events_at in
      record {
        none = λ no. absurd (cc);
        text = text ∙ ap₂ (λ (a : List ℕ) (e : Option Event). a ++ text_listed e) holds.text comes.event ∙ text_joins did.event es;
        keeps = kept ∙ ap₂ (λ (a : List Event) (e : Option Event). a ++ kept_listed o.kept e) holds.keeps comes.event
            ∙ kept_joins w (so_far past start) es did.event o.kept is_kept_so;
        acts = acts_grow (acts_as w (so_far past (at_call x s)) did more then comes.frames now.besides comes.replies) still holds outputs;
        fit = subst (λ (os : List Output). AllByRecursion (λ o. FitsPeers w more.peers.keeping o.at o.more) os) (sym outputs)
            (all_pushed (λ o. FitsPeers w more.peers.keeping o.at o.more) group.outputs.items then (all_fit w more.peers.keeping group.outputs.items still)
            (fits_as w o.at goes more now.besides (λ away. (comes.nowhere away).1)));
        settled = λ is. (
          subst AreSettled (sym outputs) (all_pushed (λ o. is_again o.more ≡ false) group.outputs.items then still (sym again ∙ is)),
          sym now.again ∙ (sym again ∙ is),
        );
        again = λ is. sym now.again ∙ (sym again ∙ is);
        joined = joins_on w past start group newest x holds joins;
      }

  pub under_more : HouseStands m w (onto did.event (so_far past (at_call x s))) numbers house did.waiting more.peers → GroupHolds w past start (x ∷ newest) new
      → Under m w past numbers start (x ∷ newest) house new
  under_more stands holds = record {
    stands = subst (λ (es : List Event). HouseStands m w es numbers house did.waiting more.peers) (onto_past did.event (at_call x s).events past) stands;
    holds = holds;
  }

-- whatever is spare, it holds the same, and the same may join
pub holds_spare : (w : Setting) (past : List Event) (start : Serving) (newest : List Round) (group : Group) (spare : _) → GroupHolds w past start newest group
    → GroupHolds w past start newest (record group { spare = spare })
holds_spare w past start newest group spare holds = record {
  none = holds.none;
  text = holds.text;
  keeps = holds.keeps;
  acts = holds.acts;
  fit = holds.fit;
  settled = holds.settled;
  again = holds.again;
  joined = holds.joined;
}

pub joins_spare : (newest : List Round) (x : Round) (group : Group) (spare : _) → JoinsGroup newest x group → JoinsGroup newest x (record group { spare = spare })
joins_spare [] x group spare joins = tt
joins_spare (y ∷ newest) x group spare joins = (joins.0, record { calm = joins.1.calm; light = joins.1.light })

-- of no round a group holds nothing
pub holds_none : (w : Setting) (past : List Event) (start : Serving) (group : Group) → IsEmpty group → GroupHolds w past start [] group
holds_none w past start group empty = record {
  none = λ is. empty.outputs;
  text = empty.text;
  keeps = empty.kept;
  acts = ap (acts_each (acts_by start.peers.keeping)) empty.outputs;
  fit = subst (λ (os : List Output). AllByRecursion (λ o. FitsPeers w start.peers.keeping o.at o.more) os) (sym empty.outputs) tt;
  settled = λ is. (subst AreSettled (sym empty.outputs) tt, tt);
  again = λ is. let none = empty.resends in absurd (cc);
  joined = tt;
}

-- a round joined, if memory was enough
pub added : {S E C : Type 0} (m : Meaning S E C KeyRow) (w : Setting) (past : List Event) (numbers : List ℕ) (start : Serving) (x : Round) (newest : List Round)
    (old house : House S E C) (group new : Group) (o : Output) (goes : More) (r : Result (Unit {0}) Mem)
    → ComesOut m w (so_far past (at_call x (after_from w past start newest))) numbers old o (outcome w past x (after_from w past start newest))
    (brought w past x (after_from w past start newest))
    → HouseStands m w (onto (outcome w past x (after_from w past start newest)).event (so_far past (at_call x (after_from w past start newest)))) numbers house
    (outcome w past x (after_from w past start newest)).waiting (brought w past x (after_from w past start newest)).peers
    → IsMoreNow w o.at goes (brought w past x (after_from w past start newest)) → GroupHolds w past start newest group → JoinsGroup newest x group
    → OnOk r (new.text.taken ≡ group.text.taken ++ text_listed o.event) → OnOk r (new.kept.items ≡ group.kept.items ++ kept_listed o.kept o.event)
    → OnOk r (new.outputs.items ≡ group.outputs.items ++ record o { event = None; more = goes } ∷ [])
    → OnOk r (new.resends ≡ is_again goes) → OnOk r (Under m w past numbers start (x ∷ newest) house new)
added m w past numbers start x newest old house group new o goes (Ok done) comes stands now holds joins text kept outputs again =
    under_more m w past numbers start x newest house group new o goes stands (joined m w past numbers start x newest old group new o goes comes now holds joins text kept outputs again)
added m w past numbers start x newest old house group new o goes (Err e) comes stands now holds joins text kept outputs again = tt
