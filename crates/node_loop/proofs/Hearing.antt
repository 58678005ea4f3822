-- What a replica hears of its peers, and what it keeps for them then.
use Rattle.std.proofs.Common.{◌≡◌, ℕ, ◌<◌, ◌≤◌, ◌==◌, ◌&&◌, Bool, true, false, nat_lt, List, [], ◌∷◌, ◌++◌, length, map, slice_set, slice_index_or, Option, Some, None, Result, Ok, Err, inl, inr, refl, sym, ◌∙◌, ap, ap₂, subst, get_or-set_other, get_or-set_same, arith, if◌then◌else◌}
use Rattle.std.specs.List.{slice_get}
use Rattle.std.specs.Option.{MatchOption, IfSome}
use Rattle.std.proofs.lemmas.Bool.{cases_Bool, cases_eq, eq-eqb, eqb-true}
use Rattle.std.proofs.lemmas.Bool.Decides.{eqb_tells}
use Rattle.std.proofs.lemmas.List.{length-set}
use Rattle.std.proofs.lemmas.Option.{same_Some, slice_get-get_or}
use Rattle.ritas_base.specs.declared.event.Event.{Event}
use Rattle.ritas_base.specs.declared.mode.FrameVersion.{FrameVersion}
use Rattle.ritas_base.specs.declared.mode.FrameVersion.TheVariants.{One, Two, Three}
use Rattle.ritas_base.specs.declared.event.Event.TheVariants as events
use Rattle.ritas_base.specs.declared.item.Item.{Item}
use Rattle.frame_codec.specs.declared.fault.BodyFault.{BodyFault}
use Rattle.keyed_channel.specs.Frames.{Opening, sender_of, seq_of, opening_parts, opening}
use Rattle.keyed_channel.specs.Laws.{OpenedParts, OpenedFromPeer}
use Rattle.keyed_channel.specs.Notes.{ack_note, is_note, noted}
use Rattle.keyed_channel.specs.declared.frame.OpenFault.{OpenFault}
use Rattle.keyed_channel.specs.declared.parts.FrameHeader.{FrameHeader}
use Rattle.keyed_channel.specs.Lengths.{head_length, least_frame}
use Rattle.keyed_channel.specs.KeyRow.{KeyRow}
use Rattle.ritas_core.specs.declared.answer.Answer.{Answer}
use Rattle.ritas_core.specs.declared.fault.CoreFault.{CoreFault}
use Rattle.ritas_core.specs.Machine.{CoreState}
use Rattle.ritas_core.specs.Rules.{Rules}
use Rattle.ritas_core.specs.Stands.{Meaning}
use Rattle.link_resume.specs.declared.kept.Kept.{Kept}
use Rattle.link_resume.specs.Lists.{Keepings, between, all_but}
use Rattle.outside.specs.declared.link.LinkItem.{LinkItem}
use Rattle.outside.specs.declared.link.LinkItem.TheVariants as items
use Rattle.replica.specs.declared.refusal.Refusal.{Refusal}
use Rattle.replica.specs.declared.refusal.Refusal.TheVariants as refusals
use Rattle.replica.specs.Handling.{core_answer, given_body, given_frame}
use Rattle.replica.specs.declared.replica.Replica.{Replica}
use Rattle.world_model.specs.declared.seen.Seen.{Seen}
use Rattle.world_model.specs.declared.seen.Seen.TheVariants as seen
use Rattle.world_model.specs.Agree.{rows_at}
use Rattle.world_model.specs.Stands.{NoneStops}
use Rattle.world_model.specs.World.{Setting, rules_at, states_of, seen_answer, seen_of}
use Rattle.world_model.specs.MadeOrder.{MadeFrame}
use Rattle.world_model.proofs.Left.{get_set_same, get_set_other}
use Rattle.node_loop.specs.declared.output.More.{More}
use Rattle.node_loop.specs.declared.output.More.TheVariants as mores
use Rattle.node_loop.specs.declared.output.Reply.{Reply}
use Rattle.node_loop.specs.declared.house.House.{House}
use Rattle.node_loop.specs.declared.output.Output.{Output}
use Rattle.node_loop.specs.declared.peers.Keeper.{Keeper}
use Rattle.node_loop.specs.declared.peers.Early.{Early}
use Rattle.node_loop.specs.declared.peers.Mark.{Mark}
use Rattle.node_loop.specs.declared.peers.Pending.{Pending}
use Rattle.node_loop.specs.declared.waiting.Waiters.{Waiters}
use Rattle.node_loop.specs.Waiting.{Waiting}
use Rattle.node_loop.specs.Calls.{Outcome, event_called, silent, item_does, waiting_left_by, replies_by}
use Rattle.node_loop.specs.Deeds.{Acked}
use Rattle.node_loop.specs.Peers.{Peers, is_pair, with_list, with_mark, early_with, marked_early, with_pending, acknowledged, keep_all}
use Rattle.node_loop.specs.PeersStanding.{AreKept, AreMarked, ArePending, IsKeeper}
use Rattle.node_loop.specs.Resending.{Brought, nothing_more, mark_at, is_deferred, opened_so, newest_in, batch_step, has_none, before, sends_batch, goes_on, begins_at, begins_unless, acked_so, asked_so, connected, noted_so, item_brings}
use Rattle.node_loop.specs.Serving.{frames_made_by}
use Rattle.node_loop.specs.Served.{AreHere}
use Rattle.node_loop.specs.Standing.{HouseStands, ComesOut, IsEmptyOutput, IsMore, is_answer_opened, reply_by}
use Rattle.node_loop.specs.WaitersStanding.{IsWaiting}
use Rattle.node_loop.proofs.Alone.{alone_seen}
use Rattle.node_loop.proofs.Comings.{right_at, is_none, nothing_comes}

-- ---- one pair of replicas

not_first : (i j a b : ℕ) → (a ≡ i → ⊥) → is_pair i j a b ≡ false
not_first i j a b other = elim (cases_Bool (a == i)) [
  | inl same ↦ absurd (other (eqb-true a i same))
  | inr apart ↦ ap (λ (t : Bool). t && b == j) apart
]

not_second : (i j b : ℕ) → (b ≡ j → ⊥) → is_pair i j i b ≡ false
not_second i j b other = elim (cases_Bool (b == j)) [
  | inl same ↦ absurd (other (eqb-true b j same))
  | inr apart ↦ ap₂ (λ (s t : Bool). s && t) (eq-eqb i i refl) apart
]

this_pair : (i j : ℕ) → is_pair i j i j ≡ true
this_pair i j = ap₂ (λ (s t : Bool). s && t) (eq-eqb i i refl) (eq-eqb j j refl)

-- what another replica keeps stays
pub list_elsewhere : (version : FrameVersion) (n i at j : ℕ) (list : List Kept) (keeper : Keeper) (p : Peers) → (i ≡ at → ⊥) → IsKeeper version n i keeper p
    → IsKeeper version n i keeper (with_list at j list p)
list_elsewhere version n i at j list keeper p other is = record {
  version_is = is.version_is;
  kept = record {
    limit = is.kept.limit;
    many = is.kept.many;
    each = λ k within. is.kept.each k within ∙ sym (ap (λ (t : Bool). if t then list else p.keeping i k) (not_first at j i k other));
  };
  marked = is.marked;
  pending = is.pending;
}

mark_elsewhere : (version : FrameVersion) (n i at j : ℕ) (mark : Option Early) (keeper : Keeper) (p : Peers) → (i ≡ at → ⊥) → IsKeeper version n i keeper p
    → IsKeeper version n i keeper (with_mark at j mark p)
mark_elsewhere version n i at j mark keeper p other is = record {
  version_is = is.version_is;
  kept = is.kept;
  marked = record {
    many = is.marked.many;
    each = λ k within. is.marked.each k within ∙ sym (ap (λ (t : Bool). if t then mark else p.marks i k) (not_first at j i k other));
  };
  pending = is.pending;
}

-- how far it went to a peer of another replica
pub pending_elsewhere : (version : FrameVersion) (n i at j : ℕ) (pending : Option Pending) (keeper : Keeper) (p : Peers) → (i ≡ at → ⊥) → IsKeeper version n i keeper p
    → IsKeeper version n i keeper (with_pending at j pending p)
pending_elsewhere version n i at j pending keeper p other is = record {
  version_is = is.version_is;
  kept = is.kept;
  marked = is.marked;
  pending = record {
    many = is.pending.many;
    each = λ k within. is.pending.each k within ∙ sym (ap (λ (t : Bool). if t then pending else p.pending i k) (not_first at j i k other));
  };
}

-- whatever comes of an acknowledgement, of a note that asks for more, or of a connection
batch_elsewhere : (version : FrameVersion) (n i at j : ℕ) (after : Option ℕ) (end most : ℕ) (keeper : Keeper) (p : Peers) → (i ≡ at → ⊥) → IsKeeper version n i keeper p
    → IsKeeper version n i keeper (sends_batch at j after end most p).peers
batch_elsewhere version n i at j after end most keeper p other is = pending_elsewhere version n i at j _ keeper p other is

either_elsewhere : (version : FrameVersion) (n i : ℕ) (keeper : Keeper) (x y : Brought) (b : Bool) → IsKeeper version n i keeper x.peers → IsKeeper version n i keeper y.peers
    → IsKeeper version n i keeper (if b then x else y).peers
either_elsewhere version n i keeper x y true first second = first
either_elsewhere version n i keeper x y false first second = second

goes_on_elsewhere : (version : FrameVersion) (n i at j : ℕ) (pending : Option Pending) (keeper : Keeper) (p : Peers) → (i ≡ at → ⊥) → IsKeeper version n i keeper p
    → IsKeeper version n i keeper (goes_on at j pending p).peers
goes_on_elsewhere version n i at j None keeper p other is = is
goes_on_elsewhere version n i at j (Some pending) keeper p other is =
    either_elsewhere version n i keeper (sends_batch at j (Some pending.last) pending.end pending.most p) (nothing_more p)
    (has_none (between pending.after pending.last (p.keeping at j)))
    (batch_elsewhere version n i at j (Some pending.last) pending.end pending.most keeper p other is) is

acked_by : (by version : FrameVersion) (n i at j seq : ℕ) (keeper : Keeper) (p : Peers) → (i ≡ at → ⊥) → IsKeeper version n i keeper (acknowledged at j seq p)
    → IsKeeper version n i keeper (acked_so by at j seq p).peers
acked_by One version n i at j seq keeper p other is = is
acked_by Two version n i at j seq keeper p other is = is
acked_by Three version n i at j seq keeper p other is = goes_on_elsewhere version n i at j (p.pending at j) keeper (acknowledged at j seq p) other is

pub acked_elsewhere : (version : FrameVersion) (n i at j seq : ℕ) (keeper : Keeper) (p : Peers) → (i ≡ at → ⊥) → IsKeeper version n i keeper p
    → IsKeeper version n i keeper (acked_so version at j seq p).peers
acked_elsewhere version n i at j seq keeper p other is =
    acked_by version version n i at j seq keeper p other (list_elsewhere version n i at j (all_but seq (p.keeping at j)) keeper p other is)

begins_elsewhere : (version : FrameVersion) (n i at j seq : ℕ) (pending : Option Pending) (keeper : Keeper) (p : Peers) → (i ≡ at → ⊥) → IsKeeper version n i keeper p
    → IsKeeper version n i keeper (begins_unless at j seq pending p).peers
begins_elsewhere version n i at j seq None keeper p other is = batch_elsewhere version n i at j (before seq) _ 0 keeper p other is
begins_elsewhere version n i at j seq (Some pending) keeper p other is =
    either_elsewhere version n i keeper (nothing_more (with_pending at j (Some (record pending { end = newest_in (p.keeping at j) })) p)) (begins_at at j seq p)
    (nat_lt pending.last seq) (pending_elsewhere version n i at j _ keeper p other is) (batch_elsewhere version n i at j (before seq) _ 0 keeper p other is)

asked_by : (by version : FrameVersion) (n i at j seq : ℕ) (keeper : Keeper) (p : Peers) → (i ≡ at → ⊥) → IsKeeper version n i keeper p
    → IsKeeper version n i keeper (asked_so by at j seq p).peers
asked_by One version n i at j seq keeper p other is = is
asked_by Two version n i at j seq keeper p other is = is
asked_by Three version n i at j seq keeper p other is = begins_elsewhere version n i at j seq (p.pending at j) keeper p other is

pub asked_elsewhere : (version : FrameVersion) (n i at j seq : ℕ) (keeper : Keeper) (p : Peers) → (i ≡ at → ⊥) → IsKeeper version n i keeper p
    → IsKeeper version n i keeper (asked_so version at j seq p).peers
asked_elsewhere version n i at j seq keeper p other is = asked_by version version n i at j seq keeper p other is

connected_by : (by version : FrameVersion) (n i at j : ℕ) (keeper : Keeper) (p : Peers) → (i ≡ at → ⊥) → IsKeeper version n i keeper p
    → IsKeeper version n i keeper (connected by at j p).peers
connected_by One version n i at j keeper p other is = is
connected_by Two version n i at j keeper p other is = is
connected_by Three version n i at j keeper p other is = batch_elsewhere version n i at j None _ batch_step keeper p other is

pub connected_elsewhere : (version : FrameVersion) (n i at j : ℕ) (b : Bool) (keeper : Keeper) (p : Peers) → (i ≡ at → ⊥) → IsKeeper version n i keeper p
    → IsKeeper version n i keeper (if b then connected version at j p else nothing_more p).peers
connected_elsewhere version n i at j b keeper p other is =
    either_elsewhere version n i keeper (connected version at j p) (nothing_more p) b (connected_by version version n i at j keeper p other is) is

-- a peer got a mark
mark_there : (version : FrameVersion) (n at j : ℕ) (mark other : Option Early) (old new : Keeper) (p : Peers) → IsKeeper version n at old p → new ≡ record old { marks = new.marks }
    → new.marks.items ≡ slice_set old.marks.items j mark → (j < n → mark ≡ other) → IsKeeper version n at new (with_mark at j other p)
mark_there version n at j mark other old new p is rest marks same = record {
  version_is = ap (λ (k : Keeper). k.version) rest ∙ is.version_is;
  kept = let P : Keepings → Type 0 = λ ls. AreKept version n at ls p.keeping in subst P (sym (ap (λ (k : Keeper). k.resume) rest)) is.kept;
  marked = record {
    many = ap length marks ∙ length-set old.marks.items j mark ∙ is.marked.many;
    each = λ k within. ap (λ xs. slice_index_or xs k None) marks ∙ elim (cases_eq k j) [
      | inl one ↦
          let here : j < length old.marks.items = omega (arith, within, one, is.marked.many) in
          ap (λ x. slice_index_or (slice_set old.marks.items j mark) x None) one ∙ get_or-set_same old.marks.items j mark None here ∙ same (omega (arith, within, one))
          ∙ sym (ap (λ (t : Bool). if t then other else p.marks at k) (ap (is_pair at j at) one ∙ this_pair at j))
      | inr apart ↦
          get_or-set_other old.marks.items j k mark None apart ∙ is.marked.each k within
          ∙ sym (ap (λ (t : Bool). if t then other else p.marks at k) (not_second at j k apart))
    ];
  };
  pending = let P : List (Option Pending) → Type 0 = λ ls. ArePending n at ls p.pending in subst P (sym (ap (λ (k : Keeper). k.pending.items) rest)) is.pending;
}

-- a frame of it came too early
pub early_there : (version : FrameVersion) (n at j seq : ℕ) (mark : Mark) (old new : Keeper) (p : Peers) → IsKeeper version n at old p → new ≡ record old { marks = new.marks }
    → new.marks.items ≡ slice_set old.marks.items j (Some (early_with (slice_index_or old.marks.items j None) mark seq))
    → IsKeeper version n at new (marked_early at j seq mark p)
early_there version n at j seq mark old new p is rest marks =
    let with_it : Option Early → Option Early = λ o. Some (early_with o mark seq) in
    mark_there version n at j (with_it (slice_index_or old.marks.items j None)) (with_it (p.marks at j)) old new p is rest marks
    (λ within. ap with_it (is.marked.each j within))

pub early_elsewhere : (version : FrameVersion) (n i at j seq : ℕ) (mark : Mark) (keeper : Keeper) (p : Peers) → (i ≡ at → ⊥) → IsKeeper version n i keeper p
    → IsKeeper version n i keeper (marked_early at j seq mark p)
early_elsewhere version n i at j seq mark keeper p other is = mark_elsewhere version n i at j (Some (early_with (p.marks at j) mark seq)) keeper p other is

-- what is kept for it went out again so far
pub pending_there : (version : FrameVersion) (n at j : ℕ) (pending : Option Pending) (old new : Keeper) (p : Peers) → IsKeeper version n at old p → new ≡ record old { pending = new.pending }
    → new.pending.items ≡ slice_set old.pending.items j pending → IsKeeper version n at new (with_pending at j pending p)
pending_there version n at j pending old new p is rest set = record {
  version_is = ap (λ (k : Keeper). k.version) rest ∙ is.version_is;
  kept = let P : Keepings → Type 0 = λ ls. AreKept version n at ls p.keeping in subst P (sym (ap (λ (k : Keeper). k.resume) rest)) is.kept;
  marked = let P : List (Option Early) → Type 0 = λ ls. AreMarked n at ls p.marks in subst P (sym (ap (λ (k : Keeper). k.marks.items) rest)) is.marked;
  pending = record {
    many = ap length set ∙ length-set old.pending.items j pending ∙ is.pending.many;
    each = λ k within. ap (λ xs. slice_index_or xs k None) set ∙ elim (cases_eq k j) [
      | inl one ↦
          let here : j < length old.pending.items = omega (arith, within, one, is.pending.many) in
          ap (λ x. slice_index_or (slice_set old.pending.items j pending) x None) one ∙ get_or-set_same old.pending.items j pending None here
          ∙ sym (ap (λ (t : Bool). if t then pending else p.pending at k) (ap (is_pair at j at) one ∙ this_pair at j))
      | inr other ↦
          get_or-set_other old.pending.items j k pending None other ∙ is.pending.each k within
          ∙ sym (ap (λ (t : Bool). if t then pending else p.pending at k) (not_second at j k other))
    ];
  };
}

-- ---- one keeper

at_item : {X : Type 0} (xs : List X) (place : ℕ) (x : X) → place < length xs → x ≡ slice_index_or xs place x → slice_get xs place ≡ Some x
at_item xs place x within is = slice_get-get_or xs place x within ∙ ap (λ y. Some y) (sym is)

-- the keeper at a place
pub keeper_at : {S E C : Type 0} (m : Meaning S E C KeyRow) (w : Setting) (es : List Event) (numbers : List ℕ) (house : House S E C) (ws : Waiting) (p : Peers) (place at : ℕ) (keeper : Keeper)
    → HouseStands m w es numbers house ws p → slice_get numbers place ≡ Some at → place < length house.keepers.items → keeper ≡ slice_index_or house.keepers.items place keeper
    → IsKeeper w.mode.version w.numbers.n at keeper p
keeper_at m w es numbers house ws p place at keeper stands number within is =
    stands.keepers place at keeper number (at_item house.keepers.items place keeper within is)

-- one keeper changed, and what the others keep stays
pub one_keeper : {S E C : Type 0} (m : Meaning S E C KeyRow) (w : Setting) (es : List Event) (numbers : List ℕ) (old now : House S E C) (ws : Waiting) (p q : Peers) (place at : ℕ) (was keeper : Keeper)
    → HouseStands m w es numbers old ws p → slice_get numbers place ≡ Some at → place < length old.keepers.items → was ≡ slice_index_or old.keepers.items place was
    → now.replicas ≡ old.replicas → now.waiting ≡ old.waiting → now.keepers.items ≡ slice_set old.keepers.items place keeper
    → IsKeeper w.mode.version w.numbers.n at keeper q → ((i : ℕ) (k : Keeper) → (i ≡ at → ⊥) → IsKeeper w.mode.version w.numbers.n i k p → IsKeeper w.mode.version w.numbers.n i k q)
    → HouseStands m w es numbers now ws q
one_keeper {S = S} {E = E} {C = C} m w es numbers old now ws p q place at was keeper stands number within is reps waits items it others =
    let there = at_item old.keepers.items place was within is in
    record {
      here = let P : List (Replica S E C) → Type 0 = λ x. AreHere m w es numbers x in subst P (sym (ap (λ v. v.items) reps)) stands.here;
      waiting = let P : Waiters → Type 0 = λ x. IsWaiting x ws in subst P (sym waits) stands.waiting;
      many = ap length items ∙ length-set old.keepers.items place keeper ∙ stands.many;
      keepers = λ k i other numbered seen. elim (eqb_tells place k) [
        | inl same ↦
            let one : at ≡ i = same_Some at i (sym number ∙ ap (slice_get numbers) same.1 ∙ numbered) in
            let is_new : keeper ≡ other =
            same_Some keeper other (sym (get_set_same old.keepers.items place was keeper there) ∙ ap (slice_get (slice_set old.keepers.items place keeper)) same.1 ∙ sym (ap (λ xs. slice_get xs k) items) ∙ seen) in
            let P : ℕ → Type 0 = λ x. IsKeeper w.mode.version w.numbers.n x keeper q in
            let Q : Keeper → Type 0 = λ x. IsKeeper w.mode.version w.numbers.n i x q in
            subst Q is_new (subst P one it)
        | inr apart ↦
            others i other (λ one. apart.1 (stands.here.apart place k i (number ∙ ap (λ x. Some x) (sym one)) numbered))
            (stands.keepers k i other numbered (sym (get_set_other old.keepers.items place k keeper (λ h. apart.1 (sym h))) ∙ sym (ap (λ xs. slice_get xs k) items) ∙ seen))
      ];
    }

-- the same for peers by another name
pub comes_with : {S E C : Type 0} (m : Meaning S E C KeyRow) (w : Setting) (es : List Event) (numbers : List ℕ) (now : House S E C) (output : Output) (did : Outcome) (more other : Brought) → more ≡ other
    → ComesOut m w es numbers now output did more → ComesOut m w es numbers now output did other
comes_with m w es numbers now output did more other same comes = let P : Brought → Type 0 = λ x. ComesOut m w es numbers now output did x in subst P same comes

-- a mark stays where frames are kept
keep_marked : (version : FrameVersion) (fs : List MadeFrame) (i j seq : ℕ) (mark : Mark) (p : Peers)
    → keep_all version fs (marked_early i j seq mark p) ≡ marked_early i j seq mark (keep_all version fs p)
keep_marked version [] i j seq mark p = refl
keep_marked version (f ∷ fs) i j seq mark p = keep_marked version fs i j seq mark _

-- the same mark by another name
pub marked_so : {S E C : Type 0} (m : Meaning S E C KeyRow) (w : Setting) (es : List Event) (numbers : List ℕ) (now : House S E C) (ws : Waiting) (at j seq : ℕ) (mark other : Mark) (p : Peers) → mark ≡ other
    → HouseStands m w es numbers now ws (marked_early at j seq mark p) → HouseStands m w es numbers now ws (marked_early at j seq other p)
marked_so m w es numbers now ws at j seq mark other p same stands = let P : Mark → Type 0 = λ x. HouseStands m w es numbers now ws (marked_early at j seq x p) in subst P same stands

-- where there is one, it is this
pub if_some_at : {X : Type 0} (P : X → Type 0) (o : Option X) (x : X) → o ≡ Some x → P x → IfSome o P
if_some_at P o x is holds = let Q : Option _ → Type 0 = λ y. IfSome y P in subst Q (sym is) holds

-- ---- whether a frame opened is read off the answer

abbrev opened_seen : Seen → Bool
opened_seen (seen.Refused (refusals.Open fault)) = false
opened_seen other = true

opened_is : (answer : Result Answer Refusal) → is_answer_opened answer ≡ opened_seen (seen_answer answer)
opened_is (Ok answer) = refl
opened_is (Err (refusals.Open fault)) = refl
opened_is (Err (refusals.Body fault)) = refl
opened_is (Err (refusals.Core fault)) = refl

core_opens : (answer : Result Answer CoreFault) → opened_seen (seen_answer (core_answer answer)) ≡ true
core_opens (Ok answer) = refl
core_opens (Err fault) = refl

body_opens : (r : Rules) (k : KeyRow) (st : CoreState) (item : Result Item BodyFault) → opened_seen (seen_answer (given_body r k st item).answer) ≡ true
body_opens r k st (Ok item) = core_opens _
body_opens r k st (Err fault) = refl

abbrev is_ok : {A B : Type 0} → Result A B → Bool
is_ok (Ok x) = true
is_ok (Err e) = false

frame_opens : (r : Rules) (k : KeyRow) (st : CoreState) (o : Result Opening OpenFault) → opened_seen (seen_answer (given_frame r k st o).answer) ≡ is_ok o
frame_opens r k st (Ok o) = body_opens r k st _
frame_opens r k st (Err fault) = refl

-- a frame that was answered so opened, where it did
answered_opens : (w : Setting) (es : List Event) (at : ℕ) (bytes : List ℕ) (answer : Result Answer Refusal) → NoneStops w → w.is_correct at ≡ true
    → seen_answer answer ≡ seen_of w es (events.Frame at bytes) → is_answer_opened answer ≡ is_ok (opening (w.keys at) bytes)
answered_opens w es at bytes answer going right saw =
    opened_is answer ∙ ap opened_seen (saw ∙ alone_seen w es at (events.Frame at bytes) going right refl) ∙ frame_opens (rules_at w at) (w.keys at) (states_of w es at) (opening (w.keys at) bytes)

-- ---- what comes of a frame for its sender

-- so the house stands before the frames of the call are kept, and this goes to a peer besides
pub record Heard {S E C : Type 0} (m : Meaning S E C KeyRow) (w : Setting) (es : List Event) (numbers : List ℕ) (now : House S E C) (ws : Waiting) (at : ℕ) (e : Event) (out : More) (brought : Brought) : Type 0 where
  pub before : Peers
  pub besides : IsMore w at out brought
  pub kept : keep_all w.mode.version (frames_made_by w es (Some e)) before ≡ brought.peers
  pub stands : HouseStands m w (e ∷ es) numbers now ws before

heard_as : {S E C : Type 0} (m : Meaning S E C KeyRow) (w : Setting) (es : List Event) (numbers : List ℕ) (now : House S E C) (ws : Waiting) (at : ℕ) (e : Event) (out : More) (brought other : Brought)
    → brought ≡ other → Heard m w es numbers now ws at e out brought → Heard m w es numbers now ws at e out other
heard_as m w es numbers now ws at e out brought other same heard = let P : Brought → Type 0 = λ x. Heard m w es numbers now ws at e out x in subst P same heard

-- it opens, and is to come again or isn't
opened_comes : {S E C : Type 0} (m : Meaning S E C KeyRow) (w : Setting) (es : List Event) (numbers : List ℕ) (given now : House S E C) (ws : Waiting) (p : Peers) (at : ℕ) (bytes : List ℕ) (frame : FrameHeader) (o : Opening)
    (was out : More) (answer : Result Answer Refusal) (b : Bool)
    → HouseStands m w (events.Frame at bytes ∷ es) numbers given ws p → was ≡ mores.Nothing → frame.from ≡ o.from → frame.seq ≡ o.seq → o.from < w.numbers.n
    → is_deferred (seen_of w es (events.Frame at bytes)) ≡ b → is_deferred (seen_answer answer) ≡ b
    → (is_deferred (seen_answer answer) ≡ true
    → HouseStands m w (events.Frame at bytes ∷ es) numbers now ws (marked_early at frame.from frame.seq (mark_at w (events.Frame at bytes ∷ es) at frame.from) p) × (out ≡ was))
    → (is_deferred (seen_answer answer) ≡ false → frame.from < w.numbers.n → (now ≡ given) × (out ≡ mores.Note frame.from (ack_note (w.keys at) frame.from frame.seq)))
    → Heard m w es numbers now ws at (events.Frame at bytes) out (opened_so w es at bytes (keep_all w.mode.version (frames_made_by w es (Some (events.Frame at bytes))) p) (Ok o))
opened_comes m w es numbers given now ws p at bytes frame o was out answer true stands clear from_is seq_is below deferred told marks takes =
    let e = events.Frame at bytes in
    let fs = frames_made_by w es (Some e) in
    let marked = marks told in
    let early : ℕ → ℕ → Peers → Peers = λ j seq q. marked_early at j seq (mark_at w (e ∷ es) at j) q in
    heard_as m w es numbers now ws at e out (nothing_more (early o.from o.seq (keep_all w.mode.version fs p))) _
    (sym (ap (λ (t : Bool). if t then nothing_more (early o.from o.seq (keep_all w.mode.version fs p)) else record { deeds = Acked at o.from o.seq ∷ []; peers = keep_all w.mode.version fs p }) deferred))
    (record {
      before = early frame.from frame.seq p;
      besides = is_none w at out (nothing_more (early o.from o.seq (keep_all w.mode.version fs p))) (marked.1 ∙ clear) refl;
      kept = keep_marked w.mode.version fs at frame.from frame.seq (mark_at w (e ∷ es) at frame.from) p
          ∙ ap₂ (λ j seq. early j seq (keep_all w.mode.version fs p)) from_is seq_is;
      stands = marked.0;
    })
opened_comes {S = S} {E = E} {C = C} m w es numbers given now ws p at bytes frame o was out answer false stands clear from_is seq_is below deferred told marks takes =
    let e = events.Frame at bytes in
    let fs = frames_made_by w es (Some e) in
    let took = takes told (omega (arith, below, from_is)) in
    let early : ℕ → ℕ → Peers → Peers = λ j seq q. marked_early at j seq (mark_at w (e ∷ es) at j) q in
    let note : ℕ → ℕ → More = λ j seq. mores.Note j (ack_note (w.keys at) j seq) in
    heard_as m w es numbers now ws at e out (record { deeds = Acked at o.from o.seq ∷ []; peers = keep_all w.mode.version fs p }) _
    (sym (ap (λ (t : Bool). if t then nothing_more (early o.from o.seq (keep_all w.mode.version fs p)) else record { deeds = Acked at o.from o.seq ∷ []; peers = keep_all w.mode.version fs p }) deferred))
    (record {
      before = p;
      besides = let P : More → Type 0 = λ x. IsMore w at x (record { deeds = Acked at o.from o.seq ∷ []; peers = keep_all w.mode.version fs p }) in
          subst P (sym (took.1 ∙ ap₂ note from_is seq_is)) (refl, refl);
      kept = refl;
      stands = let P : House S E C → Type 0 = λ x. HouseStands m w (e ∷ es) numbers x ws p in subst P (sym took.0) stands;
    })

-- what is read of a frame's header
abbrev IsHeaderOf : List ℕ → Option FrameHeader → Type 0
IsHeaderOf bytes carried = MatchOption carried (length bytes < head_length) (λ f. (head_length ≤ length bytes) × (f.from ≡ sender_of bytes) × (f.seq ≡ seq_of bytes))

heard_by : {S E C : Type 0} (m : Meaning S E C KeyRow) (w : Setting) (es : List Event) (numbers : List ℕ) (given now : House S E C) (ws : Waiting) (p : Peers) (at : ℕ) (bytes : List ℕ) (carried : Option FrameHeader)
    (was out : More) (answer : Result Answer Refusal) (o : Result Opening OpenFault)
    → HouseStands m w (events.Frame at bytes ∷ es) numbers given ws p → was ≡ mores.Nothing
    → seen_answer answer ≡ seen_of w es (events.Frame at bytes) → is_answer_opened answer ≡ is_ok o
    → IsHeaderOf bytes carried
    → ((x : Opening) → o ≡ Ok x → (least_frame ≤ length bytes) × (x ≡ opening_parts bytes) × (x.from < w.numbers.n))
    → (is_answer_opened answer ≡ false → (now ≡ given) × (out ≡ was))
    → (is_answer_opened answer ≡ true → is_deferred (seen_answer answer) ≡ true → IfSome carried (λ f.
    HouseStands m w (events.Frame at bytes ∷ es) numbers now ws (marked_early at f.from f.seq (mark_at w (events.Frame at bytes ∷ es) at f.from) p) × (out ≡ was)))
    → (is_answer_opened answer ≡ true → is_deferred (seen_answer answer) ≡ false → IfSome carried (λ f.
    f.from < w.numbers.n → (now ≡ given) × (out ≡ mores.Note f.from (ack_note (w.keys at) f.from f.seq))))
    → Heard m w es numbers now ws at (events.Frame at bytes) out (opened_so w es at bytes (keep_all w.mode.version (frames_made_by w es (Some (events.Frame at bytes))) p) o)
heard_by {S = S} {E = E} {C = C} m w es numbers given now ws p at bytes carried was out answer (Err fault) stands clear saw opened reads says none marks takes =
    let e = events.Frame at bytes in
    let same = none opened in
    record {
      before = p;
      besides = is_none w at out (nothing_more (keep_all w.mode.version (frames_made_by w es (Some e)) p)) (same.1 ∙ clear) refl;
      kept = refl;
      stands = let P : House S E C → Type 0 = λ x. HouseStands m w (e ∷ es) numbers x ws p in subst P (sym same.0) stands;
    }
heard_by m w es numbers given now ws p at bytes None was out answer (Ok o) stands clear saw opened reads says none marks takes =
    let long = (says o refl).0 in absurd (omega (arith, long, reads))
heard_by m w es numbers given now ws p at bytes (Some frame) was out answer (Ok o) stands clear saw opened reads says none marks takes =
    let said = says o refl in
    opened_comes m w es numbers given now ws p at bytes frame o was out answer (is_deferred (seen_answer answer)) stands clear
    (reads.1 ∙ sym (ap (λ (x : Opening). x.from) said.1)) (reads.2 ∙ sym (ap (λ (x : Opening). x.seq) said.1)) said.2
    (ap is_deferred (sym saw)) refl (marks opened) (takes opened)

-- what was read of bytes, by another name
pub reads_of : (xs ys : List ℕ) (carried : Option FrameHeader) → xs ≡ ys → IsHeaderOf xs carried → IsHeaderOf ys carried
reads_of xs ys carried same reads = subst (λ (x : List ℕ). IsHeaderOf x carried) same reads

-- the frame was called with, and this was heard
pub heard : {S E C : Type 0} (m : Meaning S E C KeyRow) (w : Setting) (es : List Event) (numbers : List ℕ) (old : List (Replica S E C)) (given now : House S E C) (ws : Waiting) (p : Peers) (place at : ℕ) (bytes : List ℕ) (carried : Option FrameHeader)
    (was out : More) (answer : Result Answer Refusal)
    → AreHere m w es numbers old → slice_get numbers place ≡ Some at
    → HouseStands m w (events.Frame at bytes ∷ es) numbers given ws p → was ≡ mores.Nothing → seen_answer answer ≡ seen_of w es (events.Frame at bytes)
    → IsHeaderOf bytes carried → OpenedParts → OpenedFromPeer
    → (is_answer_opened answer ≡ false → (now ≡ given) × (out ≡ was))
    → (is_answer_opened answer ≡ true → is_deferred (seen_answer answer) ≡ true → IfSome carried (λ f.
    HouseStands m w (events.Frame at bytes ∷ es) numbers now ws (marked_early at f.from f.seq (mark_at w (events.Frame at bytes ∷ es) at f.from) p) × (out ≡ was)))
    → (is_answer_opened answer ≡ true → is_deferred (seen_answer answer) ≡ false → IfSome carried (λ f.
    f.from < w.numbers.n → (now ≡ given) × (out ≡ mores.Note f.from (ack_note (w.keys at) f.from f.seq))))
    → Heard m w es numbers now ws at (events.Frame at bytes) out (opened_so w es at bytes (keep_all w.mode.version (frames_made_by w es (Some (events.Frame at bytes))) p) (opening (w.keys at) bytes))
heard m w es numbers old given now ws p place at bytes carried was out answer stand number stands clear saw reads parts peer none marks takes =
    let right = right_at m w es numbers old place at stand number in
    let own : (w.keys at).n ≡ w.numbers.n = (stand.kind.own at (stand.kind.within at right)).1 in
    heard_by m w es numbers given now ws p at bytes carried was out answer (opening (w.keys at) bytes) stands clear saw
    (answered_opens w es at bytes answer stand.going right saw) reads
    (λ x opens. ((parts (w.keys at) bytes x opens).0, (parts (w.keys at) bytes x opens).1, (let below = (peer (w.keys at) bytes x opens).0 in omega (arith, below, own))))
    none marks takes

-- the rows that came in, of a replica by another name
pub entered_at : {S E C : Type 0} (m : Meaning S E C KeyRow) (w : Setting) (es : List Event) (numbers : List ℕ) (now : House S E C) (count : ℕ) (ws : Waiting) (p : Peers) (after quiet : List Reply) (k at : ℕ) → k ≡ at
    → HouseStands m w es numbers now (waiting_left_by k count (rows_at w es k) ws) p × (map (reply_by k) after ≡ map (reply_by k) quiet ++ replies_by k count (rows_at w es k) ws)
    → HouseStands m w es numbers now (waiting_left_by at count (rows_at w es at) ws) p × (map (reply_by at) after ≡ map (reply_by at) quiet ++ replies_by at count (rows_at w es at) ws)
entered_at m w es numbers now count ws p after quiet k at same entered =
    let P : ℕ → Type 0 = λ x. HouseStands m w es numbers now (waiting_left_by x count (rows_at w es x) ws) p × (map (reply_by x) after ≡ map (reply_by x) quiet ++ replies_by x count (rows_at w es x) ws) in
    subst P same entered

-- ---- an item

-- what comes of an item of the link
abbrev pub ComesOf : {S E C : Type 0} → Meaning S E C KeyRow → Setting → List Event → List ℕ → House S E C → Output → Waiting → Peers → LinkItem → Type 0
ComesOf m w es numbers now output ws p item =
    ComesOut m w es numbers now output (item_does w es item ws) (item_brings w es item (keep_all w.mode.version (frames_made_by w es (item_does w es item ws).event) p))

pub same_item : {S E C : Type 0} (m : Meaning S E C KeyRow) (w : Setting) (es : List Event) (numbers : List ℕ) (now : House S E C) (output : Output) (ws : Waiting) (p : Peers) (item other : LinkItem) → item ≡ other
    → ComesOf m w es numbers now output ws p item → ComesOf m w es numbers now output ws p other
same_item m w es numbers now output ws p item other same comes = let P : LinkItem → Type 0 = λ x. ComesOf m w es numbers now output ws p x in subst P same comes

-- a frame or a note, by whether the replica is here and whether it is a note
abbrev frame_does : Setting → List Event → ℕ → List ℕ → Waiting → Bool → Bool → Outcome
frame_does w es to bytes ws right note = if right then (if note then silent [] ws else event_called w es to (events.Frame to bytes) ws) else silent [] ws

abbrev frame_brings : Setting → List Event → ℕ → List ℕ → Peers → Bool → Bool → Brought
frame_brings w es to bytes p right note =
    if right then (if note then noted_so w.mode.version to p (noted (w.keys to) bytes) else opened_so w es to bytes p (opening (w.keys to) bytes)) else nothing_more p

abbrev FrameComes : {S E C : Type 0} → Meaning S E C KeyRow → Setting → List Event → List ℕ → House S E C → Output → Waiting → Peers → ℕ → List ℕ → Bool → Bool → Type 0
FrameComes m w es numbers now output ws p to bytes right note =
    ComesOut m w es numbers now output (frame_does w es to bytes ws right note)
    (frame_brings w es to bytes (keep_all w.mode.version (frames_made_by w es (frame_does w es to bytes ws right note).event) p) right note)

by_tests : {S E C : Type 0} (m : Meaning S E C KeyRow) (w : Setting) (es : List Event) (numbers : List ℕ) (now : House S E C) (output : Output) (ws : Waiting) (p : Peers) (to : ℕ) (bytes : List ℕ) (right note : Bool)
    → w.is_correct to ≡ right → is_note bytes ≡ note → FrameComes m w es numbers now output ws p to bytes right note → ComesOf m w es numbers now output ws p (items.Frame to bytes)
by_tests m w es numbers now output ws p to bytes right note here is comes =
    let P : Bool → Type 0 = λ a. FrameComes m w es numbers now output ws p to bytes a (is_note bytes) in
    let Q : Bool → Type 0 = λ b. FrameComes m w es numbers now output ws p to bytes right b in
    subst P (sym here) (subst Q (sym is) comes)

-- of a replica that isn't here nothing comes
pub frame_nowhere : {S E C : Type 0} (m : Meaning S E C KeyRow) (w : Setting) (es : List Event) (numbers : List ℕ) (now : House S E C) (output : Output) (ws : Waiting) (p : Peers) (to : ℕ) (bytes : List ℕ)
    → w.is_correct to ≡ false → HouseStands m w es numbers now ws p → IsEmptyOutput output → ComesOf m w es numbers now output ws p (items.Frame to bytes)
frame_nowhere m w es numbers now output ws p to bytes faulty stands clear =
    by_tests m w es numbers now output ws p to bytes false (is_note bytes) faulty refl (nothing_comes m w es numbers now output ws p stands clear)

pub note_here : {S E C : Type 0} (m : Meaning S E C KeyRow) (w : Setting) (es : List Event) (numbers : List ℕ) (now : House S E C) (output : Output) (ws : Waiting) (p : Peers) (to at : ℕ) (bytes read : List ℕ)
    → w.is_correct to ≡ true → is_note read ≡ true → at ≡ to → read ≡ bytes → ComesOut m w es numbers now output (silent [] ws) (noted_so w.mode.version at p (noted (w.keys at) read))
    → ComesOf m w es numbers now output ws p (items.Frame to bytes)
note_here m w es numbers now output ws p to at bytes read right note at_is read_is comes =
    by_tests m w es numbers now output ws p to bytes true true right (ap is_note (sym read_is) ∙ note)
    (comes_with m w es numbers now output (silent [] ws) (noted_so w.mode.version at p (noted (w.keys at) read)) (noted_so w.mode.version to p (noted (w.keys to) bytes)) (ap₂ (λ k b. noted_so w.mode.version k p (noted (w.keys k) b)) at_is read_is) comes)

pub frame_here : {S E C : Type 0} (m : Meaning S E C KeyRow) (w : Setting) (es : List Event) (numbers : List ℕ) (now : House S E C) (output : Output) (ws : Waiting) (p : Peers) (to : ℕ) (bytes read : List ℕ)
    → w.is_correct to ≡ true → is_note read ≡ false → read ≡ bytes
    → ComesOut m w es numbers now output (event_called w es to (events.Frame to bytes) ws) (opened_so w es to bytes (keep_all w.mode.version (frames_made_by w es (Some (events.Frame to bytes))) p) (opening (w.keys to) bytes))
    → ComesOf m w es numbers now output ws p (items.Frame to bytes)
frame_here m w es numbers now output ws p to bytes read right note read_is comes =
    by_tests m w es numbers now output ws p to bytes true false right (ap is_note (sym read_is) ∙ note) comes
