-- How watching goes on and ends.
use Rattle.std.specs.Prelude.{is_some, ◌&&◌, nat_le}
use Rattle.std.proofs.Common.{◌≡◌, ℕ, ◌≤◌, ◌<◌, List, [], ◌∷◌, ◌++◌, length, Bool, true, Option, Some, None, Ok, Err, refl, sym, ap, ◌∙◌, arith, inl, inr}
use Rattle.std.proofs.lemmas.Bool.{le-leb, lt-leb}
use Rattle.ritas_base.specs.Numbers.{Numbers}
use Rattle.outside.specs.Faults.{Rose}
use Rattle.outside.specs.LinkCalls.{LinkDid}
use Rattle.outside.specs.LinkCallsLaws.{back_none, back_all}
use Rattle.outside.specs.Links.{LinkAct, Gives, faults_after}
use Rattle.outside.specs.declared.link.FaultCounts.{FaultCounts}
use Rattle.outside.specs.declared.link.LinkFault.{LinkFault}
use Rattle.outside.specs.declared.link.LinkFault.TheVariants as faults
use Rattle.outside.specs.declared.link.LinkItem.{LinkItem}
use Rattle.outside.specs.declared.link.LinkItem.TheVariants as items
use Rattle.outside.specs.FaultsLaws.{rose_after}
use Rattle.command_log.specs.Rows.{Row}
use Rattle.client_port.specs.Messages.{query_bytes}
use Rattle.observer.specs.Standing.{Watcher, StandsForGifts}
use Rattle.request_submit.specs.Submitting.{message_sent_to}
use Rattle.log_watch.specs.declared.end.WatchEnd.{WatchEnd}
use Rattle.log_watch.specs.declared.end.WatchEnd.TheVariants as ends
use Rattle.log_watch.specs.Watching.{gifts_of, log_after, begun, asked_next, query_to, watching_acts, StopsWatching, HasWatchCause, WatchingEndsSo, Watches}
use Rattle.log_watch.specs.Waiting.{IsWatchEndOf, AwaitsRows}

same_failed : {a b : FaultCounts} → a ≡ b → a.failed ≡ b.failed
same_failed e = ap (λ (n : FaultCounts). n.failed) e

-- ---- a fault is an end

fault_so : (p : Numbers) (nodes : List (List ℕ)) (until : ℕ) (taken : List LinkItem) (rows : List Row) (tells : Bool) (old new : List LinkAct) (before after : FaultCounts)
    (fault : LinkFault) (end : WatchEnd) → IsWatchEndOf fault end → (tells ≡ true → StopsWatching p nodes taken old new) → (fault ≡ faults.Failed → Rose before.failed after.failed)
    → WatchingEndsSo p nodes until taken rows tells old new before after end
fault_so p nodes until taken rows tells old new before after faults.Failed end is part cause = rw is (cause refl, part)
fault_so p nodes until taken rows tells old new before after faults.Mem end is part cause = rw is part

cause_so : (A : Type 0) (before after : FaultCounts) (fault : LinkFault) (end : WatchEnd) → IsWatchEndOf fault end → after ≡ faults_after {A = A} before (Err fault)
    → HasWatchCause before after end
cause_so A before after faults.Failed end is counts = rw is counts
cause_so A before after faults.Mem end is counts = rw is (inr counts)

-- ---- the beginning

-- memory ran out before the link was started
pub not_prepared : (p : Numbers) (nodes : List (List ℕ)) (until : ℕ) (tells : Bool) (old : List LinkAct) (before : FaultCounts) (observer : Watcher)
    → StandsForGifts p [] observer → Watches p nodes until observer.rows tells old old before before ends.Mem
not_prepared p nodes until tells old before observer stands = record {
  items = [];
  on = tt;
  log = inl stands.rows;
  later = omega arith;
  cause = inl refl;
  so = λ t. inl (back_none old (begun p nodes));
}

-- a call failed before each node was asked
pub not_begun : (p : Numbers) (nodes : List (List ℕ)) (until : ℕ) (tells : Bool) (old new : List LinkAct) (before after : FaultCounts) (observer : Watcher) (fault : LinkFault) (end : WatchEnd)
    → StandsForGifts p [] observer → LinkDid tells (begun p nodes) old new before after (Err fault) → IsWatchEndOf fault end
    → Watches p nodes until observer.rows tells old new before after end
not_begun p nodes until tells old new before after observer fault end stands did is = record {
  items = [];
  on = tt;
  log = inl stands.rows;
  later = did.later;
  cause = cause_so (Unit {0}) before after fault end is did.count;
  so = fault_so p nodes until [] observer.rows tells old new before after fault end is (λ t. inl (did.back t)) (λ e. did.cause (ap Err e));
}

-- each was asked, and nothing was taken yet
pub waits_first : (p : Numbers) (nodes : List (List ℕ)) (until : ℕ) (tells : Bool) (old new : List LinkAct) (before after : FaultCounts) (observer : Watcher)
    → StandsForGifts p [] observer → LinkDid tells (begun p nodes) old new before after (Ok tt) → AwaitsRows p nodes until tells old new before after observer
waits_first p nodes until tells old new before after observer stands did = record {
  items = [];
  on = tt;
  none_failed = did.count;
  told = did.whole;
  stands = stands;
}

-- ---- the link's next item

-- it failed
pub next_fails : (p : Numbers) (nodes : List (List ℕ)) (until : ℕ) (tells : Bool) (base old new : List LinkAct) (x y z : FaultCounts) (observer : Watcher) (fault : LinkFault) (end : WatchEnd)
    → AwaitsRows p nodes until tells base old x y observer → (tells ≡ true → new ≡ old) → y.failed ≤ z.failed → (fault ≡ faults.Failed → Rose y.failed z.failed)
    → z ≡ faults_after {A = LinkItem} y (Err fault) → IsWatchEndOf fault end → Watches p nodes until observer.rows tells base new x z end
next_fails p nodes until tells base old new x y z observer fault end waits same later cause counts is = record {
  items = waits.items;
  on = waits.on;
  log = inl waits.stands.rows;
  later = omega (arith, same_failed waits.none_failed, later);
  cause = cause_so LinkItem x z fault end is (counts ∙ ap (λ (n : FaultCounts). faults_after {A = LinkItem} n (Err fault)) waits.none_failed);
  so = fault_so p nodes until waits.items observer.rows tells base new x z fault end is (λ t. inl (back_all base new _ (same t ∙ waits.told t)))
      (λ e. rose_after x.failed y.failed z.failed (omega (arith, same_failed waits.none_failed)) (cause e));
}

-- the calls with one more
more_told : (old new acts base : List LinkAct) (act : LinkAct) → new ≡ act ∷ old → old ≡ acts ++ base → new ≡ act ∷ acts ++ base
more_told old new acts base act first second = first ∙ ap (λ (l : List LinkAct). act ∷ l) second

-- it is the link's end
pub link_ends : (p : Numbers) (nodes : List (List ℕ)) (until : ℕ) (tells : Bool) (base old new : List LinkAct) (x y z : FaultCounts) (observer : Watcher) (item : LinkItem)
    → AwaitsRows p nodes until tells base old x y observer → (tells ≡ true → new ≡ Gives item ∷ old) → z ≡ y → item ≡ items.End
    → Watches p nodes until observer.rows tells base new x z ends.End
link_ends p nodes until tells base old new x y z observer item waits told same is = record {
  items = waits.items;
  on = waits.on;
  log = inl waits.stands.rows;
  later = omega (arith, same_failed waits.none_failed, same_failed same);
  cause = same ∙ waits.none_failed;
  so = record { log = waits.stands.rows; told = λ t. more_told old new (watching_acts p nodes waits.items) base (Gives items.End) (rw is at (told t)) (waits.told t) };
}

-- it was given, and no call followed
given_alone : (p : Numbers) (nodes : List (List ℕ)) (older : List LinkItem) (base old new : List LinkAct) (item : LinkItem) → new ≡ Gives item ∷ old → old ≡ watching_acts p nodes older ++ base
    → StopsWatching p nodes older base new
given_alone p nodes older base old new item first second = inr (
  item,
  record {
    rest = query_to (asked_next p older item) (length (log_after p (item ∷ older)));
    back = Gives item ∷ watching_acts p nodes older;
    parts = refl;
    told = more_told old new (watching_acts p nodes older) base (Gives item) first second;
  },
)

-- there was no memory for its piece
pub item_short : (p : Numbers) (nodes : List (List ℕ)) (until : ℕ) (tells : Bool) (base old new : List LinkAct) (x y z : FaultCounts) (observer now : Watcher) (item : LinkItem)
    → AwaitsRows p nodes until tells base old x y observer → (tells ≡ true → new ≡ Gives item ∷ old) → z ≡ y → now ≡ observer
    → Watches p nodes until now.rows tells base new x z ends.Mem
item_short p nodes until tells base old new x y z observer now item waits told same kept = record {
  items = waits.items;
  on = waits.on;
  log = inl (ap (λ (o : Watcher). o.rows) kept ∙ waits.stands.rows);
  later = omega (arith, same_failed waits.none_failed, same_failed same);
  cause = inl (same ∙ waits.none_failed);
  so = λ t. given_alone p nodes waits.items base old new item (told t) (waits.told t);
}

-- no node is asked with it
pub item_passes : (p : Numbers) (nodes : List (List ℕ)) (until : ℕ) (tells : Bool) (base old new : List LinkAct) (x y z : FaultCounts) (observer now : Watcher) (item : LinkItem)
    → (waits : AwaitsRows p nodes until tells base old x y observer) → (tells ≡ true → new ≡ Gives item ∷ old) → z ≡ y → (item ≡ items.End → ⊥) → None ≡ asked_next p waits.items item
    → StandsForGifts p (gifts_of p (item ∷ waits.items)) now → AwaitsRows p nodes until tells base new x z now
item_passes p nodes until tells base old new x y z observer now item waits told same more none stands =
    let long = length (log_after p (item ∷ waits.items)) in
    record {
      items = item ∷ waits.items;
      on = (record { more = more; short = ap (λ (o : Option ℕ). is_some o && nat_le until long) (sym none) }, waits.on);
      none_failed = same ∙ waits.none_failed;
      told = λ t.
          more_told old new (watching_acts p nodes waits.items) base (Gives item) (told t) (waits.told t)
          ∙ ap (λ (o : Option ℕ). (query_to o long ++ Gives item ∷ watching_acts p nodes waits.items) ++ base) none;
      stands = stands;
    }

-- with its piece the log is long enough
pub item_reaches : (p : Numbers) (nodes : List (List ℕ)) (until : ℕ) (tells : Bool) (base old new : List LinkAct) (x y z : FaultCounts) (observer now : Watcher) (item : LinkItem) (node : ℕ)
    → (waits : AwaitsRows p nodes until tells base old x y observer) → (tells ≡ true → new ≡ Gives item ∷ old) → z ≡ y → Some node ≡ asked_next p waits.items item
    → StandsForGifts p (gifts_of p (item ∷ waits.items)) now → until ≤ length now.rows → Watches p nodes until now.rows tells base new x z ends.Rows
item_reaches p nodes until tells base old new x y z observer now item node waits told same some stands enough =
    let rows = stands.rows in
    let long = ap length rows in
    record {
      items = waits.items;
      on = waits.on;
      log = inr (item, rows);
      later = omega (arith, same_failed waits.none_failed, same_failed same);
      cause = same ∙ waits.none_failed;
      so = record {
        item = item;
        long = ap (λ (o : Option ℕ). is_some o && nat_le until (length (log_after p (item ∷ waits.items)))) (sym some)
            ∙ le-leb until (length (log_after p (item ∷ waits.items))) (omega (arith, enough, long));
        log = rows;
        told = λ t. more_told old new (watching_acts p nodes waits.items) base (Gives item) (told t) (waits.told t);
      };
    }

-- ---- the query behind it

-- it failed
pub query_fails : (p : Numbers) (nodes : List (List ℕ)) (until : ℕ) (tells : Bool) (base old mid new : List LinkAct) (x y z w : FaultCounts) (observer now : Watcher) (item : LinkItem) (fault : LinkFault)
    (end : WatchEnd) → (waits : AwaitsRows p nodes until tells base old x y observer) → (tells ≡ true → mid ≡ Gives item ∷ old) → z ≡ y
    → StandsForGifts p (gifts_of p (item ∷ waits.items)) now → (tells ≡ true → new ≡ mid) → z.failed ≤ w.failed → (fault ≡ faults.Failed → Rose z.failed w.failed)
    → w ≡ faults_after {A = Unit {0}} z (Err fault) → IsWatchEndOf fault end → Watches p nodes until now.rows tells base new x w end
query_fails p nodes until tells base old mid new x y z w observer now item fault end waits told same stands back later cause counts is = record {
  items = waits.items;
  on = waits.on;
  log = inr (item, stands.rows);
  later = omega (arith, same_failed waits.none_failed, same_failed same, later);
  cause = cause_so (Unit {0}) x w fault end is (counts ∙ ap (λ (n : FaultCounts). faults_after {A = Unit {0}} n (Err fault)) (same ∙ waits.none_failed));
  so = fault_so p nodes until waits.items now.rows tells base new x w fault end is (λ t. given_alone p nodes waits.items base old new item (back t ∙ told t) (waits.told t))
      (λ e. rose_after x.failed z.failed w.failed (omega (arith, same_failed waits.none_failed, same_failed same)) (cause e));
}

-- it went out
pub query_goes : (p : Numbers) (nodes : List (List ℕ)) (until : ℕ) (tells : Bool) (base old mid new : List LinkAct) (x y z w : FaultCounts) (observer now : Watcher) (item : LinkItem) (node : ℕ)
    (bytes : List ℕ) → (waits : AwaitsRows p nodes until tells base old x y observer) → (tells ≡ true → mid ≡ Gives item ∷ old) → z ≡ y → (item ≡ items.End → ⊥)
    → Some node ≡ asked_next p waits.items item → StandsForGifts p (gifts_of p (item ∷ waits.items)) now → length now.rows < until
    → (tells ≡ true → new ≡ message_sent_to bytes node ∷ mid) → bytes ≡ query_bytes (length now.rows) → w ≡ z
    → AwaitsRows p nodes until tells base new x w now
query_goes p nodes until tells base old mid new x y z w observer now item node bytes waits told same more some stands short sent query fine =
    let long = length (log_after p (item ∷ waits.items)) in
    let is : length now.rows ≡ long = ap length stands.rows in
    record {
      items = item ∷ waits.items;
      on = (
        record {
          more = more;
          short = ap (λ (o : Option ℕ). is_some o && nat_le until long) (sym some) ∙ lt-leb until long (omega (arith, short, is));
        },
        waits.on,
      );
      none_failed = fine ∙ (same ∙ waits.none_failed);
      told = λ t.
          more_told mid new (Gives item ∷ watching_acts p nodes waits.items) base (message_sent_to bytes node) (sent t)
          (more_told old mid (watching_acts p nodes waits.items) base (Gives item) (told t) (waits.told t))
          ∙ (ap (λ (l : List ℕ). message_sent_to l node ∷ Gives item ∷ watching_acts p nodes waits.items ++ base) (query ∙ ap query_bytes is)
          ∙ ap (λ (o : Option ℕ). (query_to o long ++ Gives item ∷ watching_acts p nodes waits.items) ++ base) some);
      stands = stands;
    }
