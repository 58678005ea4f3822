-- Rounds of serving.
use Rattle.std.proofs.Common.{◌≡◌, ℕ, ◌<◌, Bool, true, false, List, [], ◌∷◌, ◌++◌, Err, refl, sym, ap, ap₂, subst, ◌∙◌, arith, ◌≤◌, nat_le, inl, if◌then◌else◌}
use Rattle.ritas_base.specs.declared.event.Event.{Event}
use Rattle.keyed_channel.specs.KeyRow.{KeyRow}
use Rattle.ritas_core.specs.Stands.{Meaning}
use Rattle.outside.specs.Links.{LinkAct, faults_after}
use Rattle.outside.specs.declared.link.LinkItem.{LinkItem}
use Rattle.outside.specs.declared.link.FaultCounts.{FaultCounts}
use Rattle.outside.specs.declared.link.LinkFault.{LinkFault}
use Rattle.outside.specs.declared.link.LinkFault.TheVariants as link_faults
use Rattle.world_model.specs.World.{Setting}
use Rattle.node_loop.specs.declared.end.Fault.{Fault}
use Rattle.node_loop.specs.declared.end.Fault.TheVariants as faults
use Rattle.node_loop.specs.declared.end.ServeEnd.{ServeEnd}
use Rattle.node_loop.specs.declared.limits.Limits.{Limits}
use Rattle.node_loop.specs.declared.peers.Pair.{Pair}
use Rattle.node_loop.specs.declared.rounds.Next.TheVariants as next
use Rattle.node_loop.specs.Peers.{Peers}
use Rattle.node_loop.specs.Waiting.{Waiting}
use Rattle.node_loop.specs.Resending.{due}
use Rattle.node_loop.specs.Serving.{Serving, so_far, Want, Begins, Ends, Finishes, Overflows, Turns, Closes, Halts, Reminds, Asks, wants_of, kept_bytes, overfull, overflow_or, turn_or, remind_or, closing_or, halt_or, first_or, here, busy, is_epoch_over, has_enough_rows, wants, Round, Turned, Closed, Reminded, Took, IsGiven, IsWanted}
use Rattle.node_loop.specs.Told.{told_from, newest_calls, sooner}
use Rattle.node_loop.specs.Outs.{Outs, Tells, Agrees, HasCauses, AllWritten, NoneSent, StopsPartway, IfFailed}
use Rattle.node_loop.specs.Ends.{IsEndOfLink, IsFaultOfLink, IsEndOf}
use Rattle.node_loop.specs.Served.{AreHere}
use Rattle.node_loop.specs.ServedKept.{EndsKept}
use Rattle.node_loop.specs.Archives.{Moment, Reach, ArchiveLeftAt, KeptAt}
use Rattle.node_loop.specs.Running.{IsNext}
use Rattle.node_loop.proofs.Stepping.{with_link, has_cause, same_failed, IsOfLink, of_link, link_alone}
use Rattle.node_loop.proofs.Turning.{turns_correct, closes_correct, reminds_peer}

-- ---- the link's next item

-- a call of the link more was told
pub next_told : (tells : Tells) (base o : Outs) (events : List Event) (acts told : List LinkAct) (count : FaultCounts) (act : LinkAct)
    → Agrees tells base o events acts → (tells.link ≡ true → told ≡ act ∷ o.told) → count ≡ o.link_faults
    → Agrees tells base (with_link o told count) events (act ∷ acts)
next_told tells base o events acts told count act agrees is same = record {
  taken = agrees.taken;
  told = λ t. is t ∙ ap (λ (l : List LinkAct). act ∷ l) (agrees.told t);
  tape_stands = agrees.tape_stands;
  link_stands = same ∙ agrees.link_stands;
}

-- none was, where there is nothing by now
pub none_told : (tells : Tells) (base o : Outs) (events : List Event) (acts told : List LinkAct) (count : FaultCounts)
    → Agrees tells base o events acts → (tells.link ≡ true → told ≡ o.told) → count ≡ o.link_faults → Agrees tells base (with_link o told count) events acts
none_told tells base o events acts told count agrees is same = record {
  taken = agrees.taken;
  told = λ t. is t ∙ agrees.told t;
  tape_stands = agrees.tape_stands;
  link_stands = same ∙ agrees.link_stands;
}

-- it broke between two calls: the link gave none, for a fault of its own or for want of memory, or memory ran out
pub record GaveNone (tells : Tells) (base now : Outs) (fault : Fault) (events : List Event) (acts : List LinkAct) : Type 0 where
  pub written : AllWritten tells base now events
  pub told : NoneSent tells base now acts
  pub link_later : base.link_faults.failed ≤ now.link_faults.failed
  pub own : IsOfLink fault
  pub cause : HasCauses base now fault

-- of a fault of the link and the end that it is, the fault of serving between them
pub fault_between : (x : LinkFault) (end : ServeEnd) → IsEndOfLink x end → (fault : Fault) × IsFaultOfLink x fault × IsEndOf fault end
fault_between link_faults.Failed end is = (faults.Link, refl, is)
fault_between link_faults.Mem end is = (faults.Mem, refl, is)

pub next_failed : (A : Type 0) (tells : Tells) (base o : Outs) (events : List Event) (acts told : List LinkAct) (count : FaultCounts) (x : LinkFault) (fault : Fault)
    → IsFaultOfLink x fault → Agrees tells base o events acts → (tells.link ≡ true → told ≡ o.told)
    → o.link_faults.failed ≤ count.failed → count ≡ faults_after {A = A} o.link_faults (Err x) → GaveNone tells base (with_link o told count) fault events acts
next_failed A tells base o events acts told count x fault is agrees same le counts = record {
  written = agrees.taken;
  told = λ t. same t ∙ agrees.told t;
  link_later = omega (arith, same_failed agrees.link_stands, le);
  own = link_alone x fault is;
  cause = has_cause A base o events acts told tells count x fault is agrees counts;
}

pub memory_short : (tells : Tells) (base o : Outs) (events : List Event) (acts : List LinkAct) → Agrees tells base o events acts → GaveNone tells base o faults.Mem events acts
memory_short tells base o events acts agrees = record {
  written = agrees.taken;
  told = agrees.told;
  link_later = omega (arith, same_failed agrees.link_stands);
  own = tt;
  cause = (agrees.tape_stands, inl agrees.link_stands);
}

pub tape_on : (base o : Outs) (fault : Fault) → IsOfLink fault → HasCauses base o fault → base.tape_faults ≤ o.tape_faults
tape_on base o fault own cause =
    of_link (λ x. HasCauses base o x → base.tape_faults ≤ o.tape_faults) (λ failed. omega (arith, failed.0)) (λ short. omega (arith, short.0)) fault own cause

-- the calls of all groups are those of the newest, and those before
pub told_parts : (w : Setting) (past : List Event) (start : Serving) (groups : List (List Round))
    → told_from w past start groups ≡ newest_calls w past start groups ++ sooner w past start groups
told_parts w past start [] = refl
told_parts w past start (group ∷ older) = refl

-- ---- what is done next

pub next_end : (want : Want) → IsNext want next.End → want ≡ Ends
next_end Ends is = refl
next_end (Begins item) is = absurd is
next_end Finishes is = absurd is
next_end (Overflows x) is = absurd is
next_end (Turns i) is = absurd is
next_end (Closes i epoch) is = absurd is
next_end Halts is = absurd is
next_end (Reminds i j) is = absurd is
next_end Asks is = absurd is

pub next_close : (want : Want) (at epoch : ℕ) → IsNext want (next.Close at epoch) → want ≡ Closes at epoch
next_close (Closes i a) at epoch is = ap₂ (λ (k b : ℕ). Closes k b) is.0 is.1
next_close (Begins item) at epoch is = absurd is
next_close Ends at epoch is = absurd is
next_close Finishes at epoch is = absurd is
next_close (Overflows x) at epoch is = absurd is
next_close (Turns i) at epoch is = absurd is
next_close Halts at epoch is = absurd is
next_close (Reminds i j) at epoch is = absurd is
next_close Asks at epoch is = absurd is

pub next_finish : (want : Want) → IsNext want next.Finish → want ≡ Finishes
next_finish Finishes is = refl
next_finish (Begins item) is = absurd is
next_finish Ends is = absurd is
next_finish (Closes i epoch) is = absurd is
next_finish (Overflows x) is = absurd is
next_finish (Turns i) is = absurd is
next_finish Halts is = absurd is
next_finish (Reminds i j) is = absurd is
next_finish Asks is = absurd is

pub next_overflow : (want : Want) (bytes : ℕ) → IsNext want (next.Overflow bytes) → want ≡ Overflows bytes
next_overflow (Overflows x) bytes is = ap (λ (k : ℕ). Overflows k) is
next_overflow (Begins item) bytes is = absurd is
next_overflow Ends bytes is = absurd is
next_overflow (Closes i epoch) bytes is = absurd is
next_overflow Finishes bytes is = absurd is
next_overflow (Turns i) bytes is = absurd is
next_overflow Halts bytes is = absurd is
next_overflow (Reminds i j) bytes is = absurd is
next_overflow Asks bytes is = absurd is

pub next_turn : (want : Want) (at : ℕ) → IsNext want (next.Turn at) → want ≡ Turns at
next_turn (Turns i) at is = ap (λ (k : ℕ). Turns k) is
next_turn (Begins item) at is = absurd is
next_turn Ends at is = absurd is
next_turn (Closes i epoch) at is = absurd is
next_turn (Overflows x) at is = absurd is
next_turn Finishes at is = absurd is
next_turn Halts at is = absurd is
next_turn (Reminds i j) at is = absurd is
next_turn Asks at is = absurd is

pub next_halt : (want : Want) → IsNext want next.Halt → want ≡ Halts
next_halt Halts is = refl
next_halt (Begins item) is = absurd is
next_halt Ends is = absurd is
next_halt (Closes i epoch) is = absurd is
next_halt (Overflows x) is = absurd is
next_halt Finishes is = absurd is
next_halt (Turns i) is = absurd is
next_halt (Reminds i j) is = absurd is
next_halt Asks is = absurd is

pub next_ask : (want : Want) → IsNext want next.Ask → want ≡ Asks
next_ask Asks is = refl
next_ask (Begins item) is = absurd is
next_ask Ends is = absurd is
next_ask (Closes i epoch) is = absurd is
next_ask (Overflows x) is = absurd is
next_ask Finishes is = absurd is
next_ask (Turns i) is = absurd is
next_ask Halts is = absurd is
next_ask (Reminds i j) is = absurd is

pub next_remind : (want : Want) (pair : Pair) → IsNext want (next.Remind pair) → want ≡ Reminds pair.at pair.peer
next_remind (Reminds i j) pair is = ap₂ (λ (a b : ℕ). Reminds a b) is.0 is.1
next_remind (Begins item) pair is = absurd is
next_remind Ends pair is = absurd is
next_remind (Closes i epoch) pair is = absurd is
next_remind (Overflows x) pair is = absurd is
next_remind Finishes pair is = absurd is
next_remind (Turns i) pair is = absurd is
next_remind Halts pair is = absurd is
next_remind Asks pair is = absurd is

-- what the rules want, by what is found
module _ (w : Setting) (limits : Limits) (es : List Event) (taken : ℕ) (ws : Waiting) (p : Peers) where
  -- behind the turns, and behind the ends of all
  abbrev closing_want : Want
  closing_want = closing_or w limits.closing es ws (halt_or w limits es taken p)

  abbrev kept_want : Want
  kept_want = overflow_or (kept_bytes w p) (overfull w p) (turn_or (busy w es) closing_want)

  pub wants_end : is_epoch_over w es ≡ true → IsNext (wants_of w limits es taken ws p) next.End
  wants_end over =
      subst (λ (b : Bool). IsNext (if b then Ends else if has_enough_rows w limits.rows es then Finishes else kept_want) next.End) (sym over) tt

  -- where the epoch isn't over
  pub wants_finish : is_epoch_over w es ≡ false → has_enough_rows w limits.rows es ≡ true → IsNext (wants_of w limits es taken ws p) next.Finish
  wants_finish lasts done =
      subst (λ (b : Bool). IsNext (if b then Ends else if has_enough_rows w limits.rows es then Finishes else kept_want) next.Finish) (sym lasts)
      (subst (λ (b : Bool). IsNext (if b then Finishes else kept_want) next.Finish) (sym done) tt)

  wants_kept : is_epoch_over w es ≡ false → has_enough_rows w limits.rows es ≡ false → wants_of w limits es taken ws p ≡ kept_want
  wants_kept lasts going =
      ap (λ (b : Bool). if b then Ends else if has_enough_rows w limits.rows es then Finishes else kept_want) lasts
      ∙ ap (λ (b : Bool). if b then Finishes else kept_want) going

  -- where no log has to have more rows, and too many bytes are kept at some replica, or at none
  pub wants_overflow : (i bytes : ℕ) (more : List ℕ) → is_epoch_over w es ≡ false → has_enough_rows w limits.rows es ≡ false → overfull w p ≡ i ∷ more → bytes ≡ kept_bytes w p i
      → IsNext (wants_of w limits es taken ws p) (next.Overflow bytes)
  wants_overflow i bytes more lasts going over so_many =
      subst (λ (want : Want). IsNext want (next.Overflow bytes)) (sym (wants_kept lasts going))
      (subst (λ (is : List ℕ). IsNext (overflow_or (kept_bytes w p) is (turn_or (busy w es) closing_want)) (next.Overflow bytes)) (sym over) (sym so_many))

  wants_behind : (is : List ℕ) → is_epoch_over w es ≡ false → has_enough_rows w limits.rows es ≡ false → overfull w p ≡ [] → busy w es ≡ is
      → wants_of w limits es taken ws p ≡ turn_or is closing_want
  wants_behind is lasts going none first =
      wants_kept lasts going
      ∙ (ap (λ (xs : List ℕ). overflow_or (kept_bytes w p) xs (turn_or (busy w es) closing_want)) none ∙ ap (λ (xs : List ℕ). turn_or xs closing_want) first)

  pub wants_turn : (at : ℕ) (more : List ℕ) → is_epoch_over w es ≡ false → has_enough_rows w limits.rows es ≡ false → overfull w p ≡ [] → busy w es ≡ at ∷ more
      → IsNext (wants_of w limits es taken ws p) (next.Turn at)
  wants_turn at more lasts going none first = subst (λ (want : Want). IsNext want (next.Turn at)) (sym (wants_behind (at ∷ more) lasts going none first)) refl

  -- where no turn is
  pub wants_close : (at epoch : ℕ) → is_epoch_over w es ≡ false → has_enough_rows w limits.rows es ≡ false → overfull w p ≡ [] → busy w es ≡ []
      → ((other : Want) → closing_or w limits.closing es ws other ≡ Closes at epoch) → IsNext (wants_of w limits es taken ws p) (next.Close at epoch)
  wants_close at epoch lasts going none idle closes =
      subst (λ (want : Want). IsNext want (next.Close at epoch)) (sym (wants_behind [] lasts going none idle ∙ closes (halt_or w limits es taken p))) (refl, refl)

  -- and none closes its epoch
  wants_other : (b : Bool) (ds : List Pair) → is_epoch_over w es ≡ false → has_enough_rows w limits.rows es ≡ false → overfull w p ≡ [] → busy w es ≡ []
      → ((other : Want) → closing_or w limits.closing es ws other ≡ other) → nat_le limits.items taken ≡ b → due w es (here w) p ≡ ds
      → wants_of w limits es taken ws p ≡ (if b then Halts else remind_or ds)
  wants_other b ds lasts going none idle unclosed limited pairs =
      wants_behind [] lasts going none idle
      ∙ (unclosed (halt_or w limits es taken p) ∙ ap₂ (λ (c : Bool) (l : List Pair). if c then Halts else remind_or l) limited pairs)

  pub wants_halt : is_epoch_over w es ≡ false → has_enough_rows w limits.rows es ≡ false → overfull w p ≡ [] → busy w es ≡ []
      → ((other : Want) → closing_or w limits.closing es ws other ≡ other) → nat_le limits.items taken ≡ true → IsNext (wants_of w limits es taken ws p) next.Halt
  wants_halt lasts going none idle unclosed limited =
      subst (λ (want : Want). IsNext want next.Halt) (sym (wants_other true (due w es (here w) p) lasts going none idle unclosed limited refl)) tt

  pub wants_remind : (pair : Pair) (more : List Pair) → is_epoch_over w es ≡ false → has_enough_rows w limits.rows es ≡ false → overfull w p ≡ [] → busy w es ≡ []
      → ((other : Want) → closing_or w limits.closing es ws other ≡ other) → nat_le limits.items taken ≡ false → due w es (here w) p ≡ pair ∷ more
      → IsNext (wants_of w limits es taken ws p) (next.Remind pair)
  wants_remind pair more lasts going none idle unclosed limited pairs =
      subst (λ (want : Want). IsNext want (next.Remind pair)) (sym (wants_other false (pair ∷ more) lasts going none idle unclosed limited pairs)) (refl, refl)

  pub wants_ask : is_epoch_over w es ≡ false → has_enough_rows w limits.rows es ≡ false → overfull w p ≡ [] → busy w es ≡ []
      → ((other : Want) → closing_or w limits.closing es ws other ≡ other) → nat_le limits.items taken ≡ false → due w es (here w) p ≡ []
      → IsNext (wants_of w limits es taken ws p) next.Ask
  wants_ask lasts going none idle unclosed limited pairs =
      subst (λ (want : Want). IsNext want next.Ask) (sym (wants_other false [] lasts going none idle unclosed limited pairs)) tt

-- ---- rounds

pub if_failed : (fault : Fault) (P : Type 0) → P → IfFailed fault P
if_failed faults.Tape P p = p
if_failed faults.Link P p = p
if_failed faults.Mem P p = tt
if_failed faults.Disk P p = p
if_failed (faults.Full x) P p = p

pub ends_so : {S E C : Type 0} (m : Meaning S E C KeyRow) (w : Setting) (past : List Event) (numbers : List ℕ) (here : List _) (tells : Tells) (base now : Outs)
    (fault : Fault) (end : ServeEnd) (earlier : List Event) (s : Serving) (sooner news : List LinkAct) (rule : Want)
    → IsEndOf fault end → StopsPartway tells base now fault earlier s.events sooner news → IfFailed fault (AreHere m w (so_far past s) numbers here)
    → EndsKept {S = S} {E = E} {C = C} m w past numbers here tells base now end earlier s sooner news rule
ends_so m w past numbers here tells base now faults.Link end earlier s sooner news rule is stops stand = rw is (stops, stand)
ends_so m w past numbers here tells base now faults.Tape end earlier s sooner news rule is stops stand = rw is (stops, stand)
ends_so m w past numbers here tells base now faults.Mem end earlier s sooner news rule is stops stand = rw is stops
ends_so m w past numbers here tells base now faults.Disk end earlier s sooner news rule is stops stand = rw is (stops, stand)
ends_so m w past numbers here tells base now (faults.Full x) end earlier s sooner news rule is stops stand = rw is (stops, stand)

-- what was kept at a fault was at the end that it is
pub left_end : (now : Moment) (far : Reach) (kept group older : List Event) (fault : Fault) (end : ServeEnd) → IsEndOf fault end → ArchiveLeftAt now far kept group older fault
    → KeptAt now far kept group older end
left_end now far kept group older faults.Link end is left = rw is left
left_end now far kept group older faults.Tape end is left = rw is left
left_end now far kept group older faults.Mem end is left = rw is left
left_end now far kept group older faults.Disk end is left = rw is left
left_end now far kept group older (faults.Full x) end is left = rw is left

-- where all was written, all was kept where the link gave none
pub left_none : (now : Moment) (far : Reach) (kept group older : List Event) (fault : Fault) → IsOfLink fault → far.whole → now.stands kept → ArchiveLeftAt now far kept group older fault
left_none now far kept group older fault own written stands =
    of_link (λ x. ArchiveLeftAt now far kept group older x) (inl (written, stands)) (inl (written, inl stands)) fault own

-- ---- where none of the first items is left

module _ (w : Setting) (past : List Event) (limits : Limits) (s : Serving) (taken : ℕ) (rest : s.left ≡ []) (count : taken ≡ s.taken) where
  abbrev next_want : Want
  next_want = wants_of w limits (so_far past s) taken s.waiting s.peers

  pub wants_now : wants w past limits s ≡ next_want
  wants_now = ap₂ (λ (left : List LinkItem) (n : ℕ). first_or left (wants_of w limits (so_far past s) n s.waiting s.peers)) rest (sym count)

  pub turn_wanted : (at : ℕ) → IsNext next_want (next.Turn at) → IsWanted (wants w past limits s) (Turned at)
  turn_wanted at is = subst (λ (want : Want). IsWanted want (Turned at)) (sym (wants_now ∙ next_turn next_want at is)) refl

  pub close_wanted : (at epoch : ℕ) → IsNext next_want (next.Close at epoch) → IsWanted (wants w past limits s) (Closed at epoch)
  close_wanted at epoch is = subst (λ (want : Want). IsWanted want (Closed at epoch)) (sym (wants_now ∙ next_close next_want at epoch is)) (refl, refl)

  pub remind_wanted : (pair : Pair) → IsNext next_want (next.Remind pair) → IsWanted (wants w past limits s) (Reminded pair.at pair.peer)
  remind_wanted pair is = subst (λ (want : Want). IsWanted want (Reminded pair.at pair.peer)) (sym (wants_now ∙ next_remind next_want pair is)) (refl, refl)

  pub item_wanted : (item : LinkItem) → IsNext next_want next.Ask → IsGiven item → IsWanted (wants w past limits s) (Took item)
  item_wanted item is is_item = subst (λ (want : Want). IsWanted want (Took item)) (sym (wants_now ∙ next_ask next_want is)) is_item

  pub turn_at_correct : (at : ℕ) → IsNext next_want (next.Turn at) → w.is_correct at ≡ true
  turn_at_correct at is = turns_correct w limits (so_far past s) taken s.waiting s.peers at (next_turn next_want at is)

  pub close_at_correct : (at epoch : ℕ) → IsNext next_want (next.Close at epoch) → w.is_correct at ≡ true
  close_at_correct at epoch is = closes_correct w limits (so_far past s) taken s.waiting s.peers at epoch (next_close next_want at epoch is)

  pub remind_of_peer : (pair : Pair) → IsNext next_want (next.Remind pair) → (w.is_correct pair.at ≡ true) × (pair.peer < w.numbers.n)
  remind_of_peer pair is = reminds_peer w limits (so_far past s) taken s.waiting s.peers pair.at pair.peer (next_remind next_want pair is)
