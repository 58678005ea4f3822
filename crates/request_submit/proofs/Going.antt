-- How waiting goes on and ends.
use Rattle.std.proofs.Common.{◌≡◌, ℕ, ◌≤◌, List, [], ◌∷◌, ◌++◌, map, Bool, true, Some, None, Ok, Err, refl, sym, ap, ◌∙◌, arith, inl, inr}
use Rattle.outside.specs.Faults.{Rose}
use Rattle.outside.specs.LinkCalls.{TookBack, LinkDid}
use Rattle.outside.specs.LinkCallsLaws.{back_none, back_all}
use Rattle.outside.specs.Links.{LinkAct, Gives, faults_after}
use Rattle.outside.specs.declared.link.FaultCounts.{FaultCounts}
use Rattle.outside.specs.declared.link.LinkFault.{LinkFault}
use Rattle.outside.specs.declared.link.LinkFault.TheVariants as faults
use Rattle.outside.specs.declared.link.LinkItem.{LinkItem}
use Rattle.outside.specs.declared.link.LinkItem.TheVariants as items
use Rattle.outside.specs.FaultsLaws.{rose_after}
use Rattle.client_port.specs.Votes.{Wanted, Ballots, VotesStand}
use Rattle.request_submit.specs.declared.end.SubmitEnd.{SubmitEnd}
use Rattle.request_submit.specs.declared.end.SubmitEnd.TheVariants as ends
use Rattle.request_submit.specs.Submitting.{handed_in, reply_calls, settles, HasSubmitCause, SubmittingEndsSo, Submits}
use Rattle.request_submit.specs.Waiting.{IsSubmitEndOf, Waits}

same_failed : {a b : FaultCounts} → a ≡ b → a.failed ≡ b.failed
same_failed e = ap (λ (n : FaultCounts). n.failed) e

-- ---- a fault is an end

fault_so : (w : Wanted) (acts : List LinkAct) (tells : Bool) (old new : List LinkAct) (before after : FaultCounts) (fault : LinkFault) (end : SubmitEnd)
    → IsSubmitEndOf fault end → (tells ≡ true → TookBack old new acts) → (fault ≡ faults.Failed → Rose before.failed after.failed) → (taken : List LinkItem)
    → SubmittingEndsSo w taken acts tells old new before after end
fault_so w acts tells old new before after faults.Failed end is part cause taken = rw is (cause refl, part)
fault_so w acts tells old new before after faults.Mem end is part cause taken = rw is part

cause_so : (A : Type 0) (before after : FaultCounts) (fault : LinkFault) (end : SubmitEnd) → IsSubmitEndOf fault end → after ≡ faults_after {A = A} before (Err fault) → HasSubmitCause before after end
cause_so A before after faults.Failed end is counts = rw is counts
cause_so A before after faults.Mem end is counts = rw is (inr counts)

-- memory ran out before the link was started
pub not_prepared : (w : Wanted) (nodes : List (List ℕ)) (payload : List ℕ) (tells : Bool) (old : List LinkAct) (before : FaultCounts)
    → Submits w nodes payload tells old old before before ends.Mem
not_prepared w nodes payload tells old before = record {
  items = [];
  on = tt;
  later = omega arith;
  cause = inl refl;
  so = λ t. back_none old (handed_in w nodes payload);
}

-- the request wasn't handed in
pub not_handed_in : (w : Wanted) (nodes : List (List ℕ)) (payload : List ℕ) (tells : Bool) (old new : List LinkAct) (before after : FaultCounts) (fault : LinkFault) (end : SubmitEnd)
    → LinkDid tells (handed_in w nodes payload) old new before after (Err fault) → IsSubmitEndOf fault end → Submits w nodes payload tells old new before after end
not_handed_in w nodes payload tells old new before after fault end did is = record {
  items = [];
  on = tt;
  later = did.later;
  cause = cause_so (Unit {0}) before after fault end is did.count;
  so = fault_so w (handed_in w nodes payload) tells old new before after fault end is did.back (λ e. did.cause (ap Err e)) [];
}

-- it was, and nothing was taken yet
pub waits_first : (w : Wanted) (nodes : List (List ℕ)) (payload : List ℕ) (tells : Bool) (old new : List LinkAct) (before after : FaultCounts) (votes : Ballots)
    → LinkDid tells (handed_in w nodes payload) old new before after (Ok tt) → VotesStand w [] votes → Waits w nodes payload tells old new before after votes
waits_first w nodes payload tells old new before after votes did stands = record {
  items = [];
  on = tt;
  none_failed = did.count;
  told = did.whole;
  stands = stands;
}

-- ---- the link's next item

-- it failed
pub next_fails : (w : Wanted) (nodes : List (List ℕ)) (payload : List ℕ) (tells : Bool) (base old new : List LinkAct) (x y z : FaultCounts) (votes : Ballots) (fault : LinkFault) (end : SubmitEnd)
    → Waits w nodes payload tells base old x y votes → (tells ≡ true → new ≡ old) → y.failed ≤ z.failed → (fault ≡ faults.Failed → Rose y.failed z.failed) → z ≡ faults_after {A = LinkItem} y (Err fault) → IsSubmitEndOf fault end
    → Submits w nodes payload tells base new x z end
next_fails w nodes payload tells base old new x y z votes fault end waits same later cause counts is = record {
  items = waits.items;
  on = waits.on;
  later = omega (arith, same_failed waits.none_failed, later);
  cause = cause_so LinkItem x z fault end is (counts ∙ ap (λ (n : FaultCounts). faults_after {A = LinkItem} n (Err fault)) waits.none_failed);
  so = fault_so w _ tells base new x z fault end is (λ t. back_all base new _ (same t ∙ waits.told t))
      (λ e. rose_after x.failed y.failed z.failed (omega (arith, same_failed waits.none_failed)) (cause e)) waits.items;
}

-- the calls with one more
more_told : (old new acts base : List LinkAct) (act : LinkAct) → new ≡ act ∷ old → old ≡ acts ++ base → new ≡ act ∷ acts ++ base
more_told old new acts base act first second = first ∙ ap (λ (l : List LinkAct). act ∷ l) second

-- it is the link's end
pub link_ends : (w : Wanted) (nodes : List (List ℕ)) (payload : List ℕ) (tells : Bool) (base old new : List LinkAct) (x y z : FaultCounts) (votes : Ballots) (item : LinkItem)
    → Waits w nodes payload tells base old x y votes → (tells ≡ true → new ≡ Gives item ∷ old) → z ≡ y → item ≡ items.End
    → Submits w nodes payload tells base new x z ends.NoPosition
link_ends w nodes payload tells base old new x y z votes item waits told same is = record {
  items = waits.items;
  on = waits.on;
  later = omega (arith, same_failed waits.none_failed, same_failed same);
  cause = same ∙ waits.none_failed;
  so = λ t. more_told old new (map Gives waits.items ++ handed_in w nodes payload) base (Gives items.End) (rw is at (told t)) (waits.told t);
}

-- it settles a position
pub item_settles : (w : Wanted) (nodes : List (List ℕ)) (payload : List ℕ) (tells : Bool) (base old new : List LinkAct) (x y z : FaultCounts) (votes : Ballots) (item : LinkItem) (position : ℕ)
    → (waits : Waits w nodes payload tells base old x y votes) → (tells ≡ true → new ≡ Gives item ∷ old) → z ≡ y → Some position ≡ settles w waits.items item
    → Submits w nodes payload tells base new x z (ends.Position position)
item_settles w nodes payload tells base old new x y z votes item position waits told same settled = record {
  items = waits.items;
  on = waits.on;
  later = omega (arith, same_failed waits.none_failed, same_failed same);
  cause = same ∙ waits.none_failed;
  so = record { item = item; settled = sym settled; told = λ t. more_told old new (map Gives waits.items ++ handed_in w nodes payload) base (Gives item) (told t) (waits.told t) };
}

-- it settles none
pub item_passes : (w : Wanted) (nodes : List (List ℕ)) (payload : List ℕ) (tells : Bool) (base old new : List LinkAct) (x y z : FaultCounts) (votes now : Ballots) (item : LinkItem)
    → (waits : Waits w nodes payload tells base old x y votes) → (tells ≡ true → new ≡ Gives item ∷ old) → z ≡ y → None ≡ settles w waits.items item
    → (item ≡ items.End → ⊥) → VotesStand w (reply_calls (item ∷ waits.items)) now
    → Waits w nodes payload tells base new x z now
item_passes w nodes payload tells base old new x y z votes now item waits told same quiet more stands = record {
  items = item ∷ waits.items;
  on = (record { more = more; quiet = sym quiet }, waits.on);
  none_failed = same ∙ waits.none_failed;
  told = λ t. more_told old new (map Gives waits.items ++ handed_in w nodes payload) base (Gives item) (told t) (waits.told t);
  stands = stands;
}
