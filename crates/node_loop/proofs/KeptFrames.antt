-- The frames of a call are kept for their peers, and the house stands so.
use Rattle.std.proofs.Common.{◌≡◌, ℕ, ◌==◌, ◌&&◌, Bool, List, [], ◌∷◌, map, Option, Some, None, refl, sym, ◌∙◌, ap, subst, inl, inr, slice_set, if◌then◌else◌}
use Rattle.std.specs.List.{slice_get}
use Rattle.std.proofs.Math.ListN.{length-set}
use Rattle.std.proofs.lemmas.Bool.{cases_Bool, eqb-true}
use Rattle.std.proofs.lemmas.Bool.Decides.{eqb_tells}
use Rattle.std.proofs.lemmas.Option.{same_Some}
use Rattle.std.specs.Vec.{with_item}
use Rattle.ritas_base.specs.declared.event.Event.{Event}
use Rattle.ritas_base.specs.declared.mode.FrameVersion.{FrameVersion}
use Rattle.keyed_channel.specs.KeyRow.{KeyRow}
use Rattle.ritas_core.specs.Stands.{Meaning}
use Rattle.replica.specs.Out.{OutFrame}
use Rattle.outside.specs.Links.{LinkAct, Sends}
use Rattle.world_model.specs.World.{Setting}
use Rattle.world_model.specs.MadeOrder.{MadeFrame}
use Rattle.world_model.proofs.Left.{get_set_same, get_set_other}
use Rattle.node_loop.specs.declared.house.House.{House}
use Rattle.node_loop.specs.declared.peers.Keeper.{Keeper}
use Rattle.node_loop.specs.Waiting.{Waiting}
use Rattle.link_resume.specs.declared.kept.Kept.{Kept}
use Rattle.node_loop.specs.Peers.{Peers, with_list, keeps, keep_one, keep_all}
use Rattle.node_loop.specs.PeersStanding.{AreKept, AreMarked, ArePending, IsKeeper, made_as}
use Rattle.node_loop.specs.Serving.{as_sent, frames_made_by, sent_by, onto}
use Rattle.node_loop.specs.Standing.{HouseStands, frame_by}

-- ---- frames that are kept one after the other: with each, so much is kept for its peer in place of what was

abbrev pub Put : Type 0
Put = List ℕ → List Kept → List Kept

abbrev pub put_all : Put → List MadeFrame → Peers → Peers
put_all put [] p = p
put_all put (f ∷ fs) p = put_all put fs (with_list f.from f.to (put f.bytes (p.keeping f.from f.to)) p)

pub all_put : (version : FrameVersion) (fs : List MadeFrame) (p : Peers) → put_all (keeps version) fs p ≡ keep_all version fs p
all_put version [] p = refl
all_put version (f ∷ fs) p = all_put version fs (keep_one version f p)

-- what is kept doesn't depend on the event
abbrev put_act : Put → LinkAct → Peers → Peers
put_act put (Sends s) p = with_list s.at s.to (put s.bytes (p.keeping s.at s.to)) p
put_act put other p = p

abbrev put_acts : Put → List LinkAct → Peers → Peers
put_acts put [] p = p
put_acts put (a ∷ acts) p = put_acts put acts (put_act put a p)

as_acts : (put : Put) (fs : List MadeFrame) (p : Peers) → put_all put fs p ≡ put_acts put (map as_sent fs) p
as_acts put [] p = refl
as_acts put (f ∷ fs) p = as_acts put fs (with_list f.from f.to (put f.bytes (p.keeping f.from f.to)) p)

sent_so : (k at : ℕ) (frames : List OutFrame) → map as_sent (map (made_as k at) frames) ≡ map (frame_by at) frames
sent_so k at [] = refl
sent_so k at (f ∷ fs) = ap (λ (acts : List LinkAct). frame_by at f ∷ acts) (sent_so k at fs)

pub same_put : (put : Put) (w : Setting) (es : List Event) (e : Option Event) (k at : ℕ) (frames : List OutFrame) (p : Peers) → map (frame_by at) frames ≡ sent_by w es e
    → put_all put (map (made_as k at) frames) p ≡ put_all put (frames_made_by w es e) p
same_put put w es e k at frames p is =
    as_acts put (map (made_as k at) frames) p
    ∙ (ap (λ (acts : List LinkAct). put_acts put acts p) (sent_so k at frames ∙ is) ∙ sym (as_acts put (frames_made_by w es e) p))

-- ---- the keepers

-- what one replica keeps may be another, and nothing else
pub record OnlyKeeps (at : ℕ) (p q : Peers) : Type 0 where
  pub others : (i j : ℕ) → (i ≡ at → ⊥) → q.keeping i j ≡ p.keeping i j
  pub marks : q.marks ≡ p.marks
  pub pending : q.pending ≡ p.pending

other_pair : (at to i j : ℕ) (p : Peers) (list : List _) → (i ≡ at → ⊥) → (with_list at to list p).keeping i j ≡ p.keeping i j
other_pair at to i j p list other = elim (cases_Bool (i == at)) [
  | inl same ↦ absurd (other (eqb-true i at same))
  | inr not_same ↦ ap (λ (b : Bool). if b && (j == to) then list else p.keeping i j) not_same
]

pub only_put : (put : Put) (k at : ℕ) (frames : List OutFrame) (p : Peers) → OnlyKeeps at p (put_all put (map (made_as k at) frames) p)
only_put put k at [] p = record { others = λ i j other. refl; marks = refl; pending = refl }
only_put put k at (f ∷ fs) p =
    let list = put f.bytes (p.keeping at f.to) in
    let rest = only_put put k at fs (with_list at f.to list p) in
    record { others = λ i j other. rest.others i j other ∙ other_pair at f.to i j p list other; marks = rest.marks; pending = rest.pending }

still_marked : (version : FrameVersion) (n at i : ℕ) (p q : Peers) (keeper : Keeper) → OnlyKeeps at p q → IsKeeper version n i keeper p → AreMarked n i keeper.marks.items q.marks
still_marked version n at i p q keeper only is = record {
  many = is.marked.many;
  each = λ j within. is.marked.each j within ∙ ap (λ (marks : ℕ → ℕ → _). marks i j) (sym only.marks);
}

still_pending : (version : FrameVersion) (n at i : ℕ) (p q : Peers) (keeper : Keeper) → OnlyKeeps at p q → IsKeeper version n i keeper p
    → ArePending n i keeper.pending.items q.pending
still_pending version n at i p q keeper only is = record {
  many = is.pending.many;
  each = λ j within. is.pending.each j within ∙ ap (λ (pending : ℕ → ℕ → _). pending i j) (sym only.pending);
}

other_keeper : (version : FrameVersion) (n at i : ℕ) (p q : Peers) (keeper : Keeper) → (i ≡ at → ⊥) → OnlyKeeps at p q → IsKeeper version n i keeper p → IsKeeper version n i keeper q
other_keeper version n at i p q keeper other only is = record {
  version_is = is.version_is;
  kept = record { limit = is.kept.limit; many = is.kept.many; each = λ j within. is.kept.each j within ∙ sym (only.others i j other) };
  marked = still_marked version n at i p q keeper only is;
  pending = still_pending version n at i p q keeper only is;
}

-- the house stands, where one keeper keeps so much in place of what it did
pub house_with : {S E C : Type 0} (m : Meaning S E C KeyRow) (w : Setting) (es : List Event) (numbers : List ℕ) (house : House S E C) (ws : Waiting) (p q : Peers)
    (at place : ℕ) (old : Keeper) (lists : _)
    → HouseStands m w es numbers house ws p → slice_get numbers place ≡ Some at → slice_get house.keepers.items place ≡ Some old
    → OnlyKeeps at p q → AreKept w.mode.version w.numbers.n at lists q.keeping
    → HouseStands m w es numbers (record house { keepers = with_item house.keepers place (record old { resume = lists }) }) ws q
house_with m w es numbers house ws p q at place old lists stands number there only kept =
    let new : Keeper = record old { resume = lists } in
    let v = w.mode.version in
    let was = stands.keepers place at old number there in
    let is : IsKeeper v w.numbers.n at new q = record {
      version_is = was.version_is;
      kept = kept;
      marked = still_marked v w.numbers.n at at p q old only was;
      pending = still_pending v w.numbers.n at at p q old only was;
    } in
    record {
      here = stands.here;
      waiting = stands.waiting;
      many = length-set house.keepers.items place new ∙ stands.many;
      keepers = λ o i keeper numbered seen. elim (eqb_tells place o) [
        | inl same ↦
            let one : at ≡ i = same_Some at i (sym number ∙ ap (slice_get numbers) same.1 ∙ numbered) in
            let is_new : new ≡ keeper = same_Some new keeper (sym (get_set_same house.keepers.items place old new there) ∙ ap (slice_get (slice_set house.keepers.items place new)) same.1 ∙ seen) in
            subst (λ (x : Keeper). IsKeeper w.mode.version w.numbers.n i x q) is_new (subst (λ (x : ℕ). IsKeeper w.mode.version w.numbers.n x new q) one is)
        | inr other ↦
            other_keeper w.mode.version w.numbers.n at i p q keeper (λ one. other.1 (stands.here.apart place o i (number ∙ ap (λ x. Some x) (sym one)) numbered)) only
            (stands.keepers o i keeper numbered (sym (get_set_other house.keepers.items place o new (λ h. other.1 (sym h))) ∙ seen))
      ];
    }

-- and so it is where its lists are known as those of other frames
pub house_put : {S E C : Type 0} (put : Put) (m : Meaning S E C KeyRow) (w : Setting) (es : List Event) (numbers : List ℕ) (house : House S E C) (ws : Waiting) (p q r : Peers)
    (k at place : ℕ) (frames : List OutFrame) (old : Keeper) (lists : _)
    → HouseStands m w es numbers house ws p → slice_get numbers place ≡ Some at → slice_get house.keepers.items place ≡ Some old
    → put_all put (map (made_as k at) frames) p ≡ r → r ≡ q → AreKept w.mode.version w.numbers.n at lists r.keeping
    → HouseStands m w es numbers (record house { keepers = with_item house.keepers place (record old { resume = lists }) }) ws q
house_put put m w es numbers house ws p q r k at place frames old lists stands number there is same kept =
    house_with m w es numbers house ws p q at place old lists stands number there
    (subst (λ (x : Peers). OnlyKeeps at p x) (is ∙ same) (only_put put k at frames p))
    (subst (λ (x : Peers). AreKept w.mode.version w.numbers.n at lists x.keeping) same kept)

-- ---- with each, what doesn't make it too many

pub same_kept : (w : Setting) (es : List Event) (e : Option Event) (k at : ℕ) (frames : List OutFrame) (p : Peers) → map (frame_by at) frames ≡ sent_by w es e
    → keep_all w.mode.version (map (made_as k at) frames) p ≡ keep_all w.mode.version (frames_made_by w es e) p
same_kept w es e k at frames p is = sym (all_put w.mode.version (map (made_as k at) frames) p) ∙ (same_put (keeps w.mode.version) w es e k at frames p is ∙ all_put w.mode.version (frames_made_by w es e) p)

-- the house stands, where one keeper kept the frames of its replica
pub house_kept : {S E C : Type 0} (m : Meaning S E C KeyRow) (w : Setting) (es : List Event) (numbers : List ℕ) (house : House S E C) (ws : Waiting) (p q : Peers)
    (k at place : ℕ) (frames : List OutFrame) (old : Keeper) (lists : _)
    → HouseStands m w es numbers house ws p → slice_get numbers place ≡ Some at → slice_get house.keepers.items place ≡ Some old
    → keep_all w.mode.version (map (made_as k at) frames) p ≡ q → AreKept w.mode.version w.numbers.n at lists (keep_all w.mode.version (map (made_as k at) frames) p).keeping
    → HouseStands m w es numbers (record house { keepers = with_item house.keepers place (record old { resume = lists }) }) ws q
house_kept m w es numbers house ws p q k at place frames old lists stands number there same kept =
    house_put (keeps w.mode.version) m w es numbers house ws p q (keep_all w.mode.version (map (made_as k at) frames) p) k at place frames old lists stands number there (all_put w.mode.version (map (made_as k at) frames) p) same kept

-- where there was no call, all stands
pub none_kept : {S E C : Type 0} (m : Meaning S E C KeyRow) (w : Setting) (es : List Event) (numbers : List ℕ) (house : House S E C) (ws : Waiting) (e : Option Event) (p q : Peers)
    → e ≡ None → keep_all w.mode.version (frames_made_by w es e) p ≡ q → HouseStands m w (onto e es) numbers house ws p → HouseStands m w (onto e es) numbers house ws q
none_kept m w es numbers house ws e p q none is stands =
    subst (λ (r : Peers). HouseStands m w (onto e es) numbers house ws r) (sym (ap (λ (o : Option Event). keep_all w.mode.version (frames_made_by w es o) p) none) ∙ is) stands
