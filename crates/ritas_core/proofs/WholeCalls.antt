-- From the steps of a call to the whole call, whatever state a core stands for.
use Rattle.std.proofs.Common.{◌≡◌, ℕ, ◌+◌, ◌<◌, Bool, true, false, cond, ◌||◌, Option, Some, None, Result, Ok, Err, List, [], ◌∷◌, ◌++◌, ◌⊎◌, drop, length, slice_index_or, arith, refl, sym, ◌∙◌, ap, subst, inr}
use Rattle.std.proofs.Math.Dec.{leb}
use Rattle.std.specs.declared.alloc.Global.{Global}
use Rattle.std.specs.declared.collections.VecDeque.{VecDeque}
use Rattle.ritas_base.specs.declared.item.Item.{Item}
use Rattle.ritas_base.specs.declared.item.Msg.{Msg}
use Rattle.frame_codec.specs.Inputs.{IsInput, input_fault}
use Rattle.ooc_buffers.specs.Lists.{HeldItem, is_held}
use Rattle.ritas_core.specs.declared.answer.Answer.{Answer}
use Rattle.ritas_core.specs.declared.answer.Answer.TheVariants as answers
use Rattle.ritas_core.specs.declared.fault.CoreFault.{CoreFault}
use Rattle.ritas_core.specs.declared.fault.CoreFault.TheVariants as faults
use Rattle.ritas_core.specs.declared.verdict.Verdict.{Verdict}
use Rattle.ritas_core.specs.declared.verdict.Verdict.TheVariants as verdicts
use Rattle.ritas_core.specs.declared.kernel.Core.{Core}
use Rattle.ritas_core.specs.Rules.{Rules, seat_of}
use Rattle.ritas_core.specs.Parts.{Parts, Given, parts}
use Rattle.ritas_core.specs.Checks.{verdict_on, input_check, input_fault_or}
use Rattle.ritas_core.specs.Machine.{CoreState, What, Frame, Input, Turn, Moved, stays, enters, gives_item, given_input, turned, moved_live, moved, MayGive, AreGood}
use Rattle.ritas_core.specs.Stands.{Meaning, LayersStand, CoreStands}
use Rattle.ritas_core.specs.Judging.{judged_in}
use Rattle.ritas_core.specs.Calls.{Moves, RunsOut, HoldsFront, TakesFront, Does, DoesAll, front_entry}
use Rattle.ritas_core.specs.CoreCalls.{rules_in, IsLive, StopsCore, EntersCore, IsVerdictTold, IsToldFront, GivesFront, DoesHere, DoesJudged, is_mem}
use Rattle.ritas_core.proofs.GoodSlots.{slot_origin}
use Rattle.ritas_core.proofs.Verdicts.{givable_from, input_check_by}
use Rattle.ritas_core.proofs.ShownLayers.{MeansWell}
use Rattle.ritas_core.proofs.CoreSteps.{laws_of, stops_core}
use Rattle.ritas_core.proofs.JudgeSteps.{judged_from}
use Rattle.ritas_core.proofs.Lookup.{found_repeat}
use Rattle.ritas_core.proofs.Items.{with_items}
use Rattle.ritas_core.proofs.CallSteps.{not_false, not_true, nothing_more, moved_when_live, moves_by, does_refused}

-- no check of an input fails for want of memory
never_mem : (place : Option ℕ) (given full high : Bool) (number : ℕ) →
    input_fault_or place (cond given (Some faults.InputTaken) (cond (full || high) (Some (faults.WindowFull number)) None)) ≡ Some faults.Mem → ⊥
never_mem (Some x) given full high number h = cc
never_mem None true full high number h = cc
never_mem None false true high number h = cc
never_mem None false false true number h = cc
never_mem None false false false number h = cc

check_not_mem : (r : Rules) (p : Parts) (value : List ℕ) → input_check r p value ≡ Some faults.Mem → ⊥
check_not_mem r p value h =
    let next = r.service.next_number (seat_of r) p.words in
    never_mem (input_fault r.casts.numbers r.mode value) (r.service.given (seat_of r) p.words)
    (leb (r.service.base (seat_of r) p.words r.casts.me + 64) next) (leb 1000000 next) next
    (sym (input_check_by r p value _ _ _ _ refl refl refl refl) ∙ h)

-- ---- lists of items
first_same : (x y : Item) (xs ys : List Item) → x ∷ xs ≡ y ∷ ys → x ≡ y
first_same x y xs ys e = cc

pub front_split : (xs : List Item) (x : Item) → 0 < length xs → x ≡ slice_index_or xs 0 x → xs ≡ x ∷ drop 1 xs
front_split [] x some is = absurd (omega (arith, some))
front_split (y ∷ xs) x some is = ap (λ (z : Item). z ∷ xs) (sym is)

some_none : (x : Item) (xs : List Item) → x ∷ xs ≡ [] → ⊥
some_none x xs e = cc

-- the item at the front, which waits still
abbrev with_front : Item → Moved → Moved
with_front item mv = record mv { state = record mv.state { inbox = item ∷ mv.state.inbox } }

gives_front : (r : Rules) (st : CoreState) (item : Item) (rest : List Item) (v : Verdict) → gives_item r st item (item ∷ rest) v ≡ with_front item (gives_item r st item rest v)
gives_front r st item rest (verdicts.Refuse fault) = refl
gives_front r st item rest verdicts.Again = refl
gives_front r st item rest verdicts.Hold = refl
gives_front r st item rest verdicts.Take = refl

module _ {S E C T : Type 0} (m : Meaning S E C T) where
  -- ---- a stopped core, and one that isn't
  pub stopped_does : (old : Core S E C T) (what : What) (sent : List Msg) → old.stopped ≡ true → DoesAll m old old what sent sent (Err faults.Stopped)
  stopped_does old what sent halted r st stands give =
      let dead : st.live ≡ false = not_true st.live (sym stands.live ∙ halted) in
      moves_by m old old what sent sent (Err faults.Stopped) r st (stays st st.inbox (Err faults.Stopped))
      (ap (λ (b : Bool). cond b (moved_live r st what) (stays st st.inbox (Err faults.Stopped))) dead)
      refl (nothing_more sent sent refl) stands

  pub all_from : (old new : Core S E C T) (what : What) (before after_it : List Msg) (result : Result Answer CoreFault) → old.stopped ≡ false →
      DoesHere m old new what before after_it result → DoesAll m old new what before after_it result
  all_from old new what before after_it result running here r st stands give =
      subst (λ (q : Rules). CoreStands m old q st → MayGive q what → Does m old new what before after_it result q st) stands.rules
      (λ stands give. here st (record { stands = stands; live = not_false st.live (sym stands.live ∙ running) }) give) stands give

  -- ---- a turn

  -- once it has left the inbox, the core stands for the state without it
  front_leaves : (mid : Core S E C T) (q : VecDeque Item Global) (r : Rules) (st : CoreState) (item : Item) → q.items ≡ drop 1 mid.inbox.items →
      CoreStands m mid r (record st { inbox = item ∷ st.inbox }) → CoreStands m (record mid { inbox = q }) r st
  front_leaves mid q r st item popped stands =
      with_items m mid q mid.held r (record st { inbox = item ∷ st.inbox }) st.inbox st.held (popped ∙ ap (λ (xs : List Item). drop 1 xs) stands.inbox)
      stands.held stands.peers stands.good_inbox.1 stands.good_held stands.waiting stands

  module _ (old mid : Core S E C T) (item : Item) (rest : List Item) (before after_it : List Msg) (r : Rules) (st : CoreState)
      (live : st.live ≡ true) (whole : st.inbox ≡ item ∷ rest) where
    frame_state : moved r st (Frame item) ≡ with_front item (moved r st Turn)
    frame_state =
        let v = verdict_on r (parts r st.history) st.held item in
        moved_when_live r st (Frame item) live ∙ ap (λ (xs : List Item). gives_item r st item xs v) whole ∙ gives_front r st item rest v
        ∙ ap (λ (mv : Moved). with_front item mv) (sym (moved_when_live r st Turn live ∙ ap (λ (xs : List Item). turned r st xs) whole))

    module _ (q : VecDeque Item Global) (popped : q.items ≡ drop 1 mid.inbox.items) where
      moves_turned : (result : Result Answer CoreFault) → Moves m old mid (Frame item) before after_it result r st →
          Moves m old (record mid { inbox = q }) Turn before after_it result r st
      moves_turned result moves = record {
        answer = moves.answer ∙ ap (λ (mv : Moved). mv.answer) frame_state;
        out = moves.out ∙ ap (λ (mv : Moved). before ++ mv.out) frame_state;
        state = front_leaves mid q r (moved r st Turn).state item popped (subst (λ (mv : Moved). CoreStands m mid r mv.state) frame_state moves.state);
      }

      pub does_turned : (result : Result Answer CoreFault) → is_mem result ≡ false → Does m old mid (Frame item) before after_it result r st →
          Does m old (record mid { inbox = q }) Turn before after_it result r st
      does_turned (Ok x) other does = moves_turned (Ok x) does
      does_turned (Err faults.NotOrigin) other does = moves_turned _ does
      does_turned (Err faults.NotForMe) other does = moves_turned _ does
      does_turned (Err (faults.Past x)) other does = moves_turned _ does
      does_turned (Err (faults.Ahead x)) other does = moves_turned _ does
      does_turned (Err (faults.HeldFull x)) other does = moves_turned _ does
      does_turned (Err faults.InputTaken) other does = moves_turned _ does
      does_turned (Err (faults.WindowFull x)) other does = moves_turned _ does
      does_turned (Err (faults.Input x)) other does = moves_turned _ does
      does_turned (Err faults.Mem) other does = absurd (cc)
      does_turned (Err faults.Stopped) other does = moves_turned _ does

    -- for want of memory it stays
    abbrev StaysAt : List Item → Type 0
    StaysAt xs = (HoldsFront r st xs × CoreStands m mid r st) ⊎ (TakesFront r st xs × CoreStands m mid r (record st { live = false; lost = front_entry xs }))

    runs_out_turned : RunsOut m mid (Frame item) before after_it r st → RunsOut m mid Turn before after_it r st
    runs_out_turned runs = record { out = runs.out; live = runs.live; state = subst (λ (xs : List Item). StaysAt xs) (sym whole) runs.state }

    pub does_stay : (result : Result Answer CoreFault) → is_mem result ≡ true → Does m old mid (Frame item) before after_it result r st →
        Does m old mid Turn before after_it result r st
    does_stay (Ok x) mem does = absurd (cc)
    does_stay (Err faults.NotOrigin) mem does = absurd (cc)
    does_stay (Err faults.NotForMe) mem does = absurd (cc)
    does_stay (Err (faults.Past x)) mem does = absurd (cc)
    does_stay (Err (faults.Ahead x)) mem does = absurd (cc)
    does_stay (Err (faults.HeldFull x)) mem does = absurd (cc)
    does_stay (Err faults.InputTaken) mem does = absurd (cc)
    does_stay (Err (faults.WindowFull x)) mem does = absurd (cc)
    does_stay (Err (faults.Input x)) mem does = absurd (cc)
    does_stay (Err faults.Mem) mem does = runs_out_turned does
    does_stay (Err faults.Stopped) mem does = absurd (cc)

  idle_does : (old new : Core S E C T) (before after_it : List Msg) (result : Result Answer CoreFault) (st : CoreState) → IsLive m old st → st.inbox ≡ [] →
      result ≡ Ok answers.Idle → after_it ≡ before → CoreStands m new (rules_in m old) st → Does m old new Turn before after_it result (rules_in m old) st
  idle_does old new before after_it result st is empty idle same stands =
      let r = rules_in m old in
      let stays_so : CoreStands m new r (record st { inbox = [] }) = subst (λ (xs : List Item). CoreStands m new r (record st { inbox = xs })) empty stands in
      subst (λ (x : Result Answer CoreFault). Does m old new Turn before after_it x r st) (sym idle)
      (moves_by m old new Turn before after_it (Ok answers.Idle) r st (stays st [] (Ok answers.Idle))
      (moved_when_live r st Turn is.live ∙ ap (λ (xs : List Item). turned r st xs) empty)
      refl (nothing_more before after_it same) stays_so)

  -- the item at the front was given, if there was one
  module _ (old mid : Core S E C T) (before after_it : List Msg) (result : Result Answer CoreFault) (front : GivesFront m old mid before after_it result) where
    -- it leaves the inbox
    module _ (q : VecDeque Item Global) (other : is_mem result ≡ false) (popped : q.items ≡ drop 1 mid.inbox.items) where
      leaves_by : (st : CoreState) → IsLive m old st → (xs : List Item) → st.inbox ≡ xs → Does m old (record mid { inbox = q }) Turn before after_it result (rules_in m old) st
      leaves_by st is [] whole =
          let idle = front.idle (is.stands.inbox ∙ whole) in
          let same : q.items ≡ old.inbox.items =
          popped ∙ ap (λ (core : Core S E C T). drop 1 core.inbox.items) idle.2 ∙ ap (λ (xs : List Item). drop 1 xs) (is.stands.inbox ∙ whole)
          ∙ sym (is.stands.inbox ∙ whole) in
          idle_does old (record mid { inbox = q }) before after_it result st is whole idle.0 idle.1
          (subst (λ (core : Core S E C T). CoreStands m (record core { inbox = q }) (rules_in m old) st) (sym idle.2)
          (record {
            rules = is.stands.rules;
            own = is.stands.own;
            kinds = is.stands.kinds;
            session = is.stands.session;
            me = is.stands.me;
            serves = is.stands.serves;
            live = is.stands.live;
            history = is.stands.history;
            whole = is.stands.whole;
            layers = is.stands.layers;
            lost = is.stands.lost;
            shows = is.stands.shows;
            outputs = is.stands.outputs;
            shows_outputs = is.stands.shows_outputs;
            inbox = same ∙ is.stands.inbox;
            held = is.stands.held;
            peers = is.stands.peers;
            good_inbox = is.stands.good_inbox;
            good_held = is.stands.good_held;
            waiting = is.stands.waiting;
          }))
      leaves_by st is (item ∷ rest) whole =
          let r = rules_in m old in
          does_turned old mid item rest before after_it r st is.live whole q popped result other
          (front.given item rest (is.stands.inbox ∙ whole) st is (subst (λ (xs : List Item). AreGood r xs) whole is.stands.good_inbox).0)

      pub turn_does : DoesHere m old (record mid { inbox = q }) Turn before after_it result
      turn_does st is give = leaves_by st is st.inbox refl

    -- it stays there
    module _ (mem : is_mem result ≡ true) where
      stays_by : (st : CoreState) → IsLive m old st → (xs : List Item) → st.inbox ≡ xs → Does m old mid Turn before after_it result (rules_in m old) st
      stays_by st is [] whole =
          let idle = front.idle (is.stands.inbox ∙ whole) in
          idle_does old mid before after_it result st is whole idle.0 idle.1 (subst (λ (core : Core S E C T). CoreStands m core (rules_in m old) st) (sym idle.2) is.stands)
      stays_by st is (item ∷ rest) whole =
          let r = rules_in m old in
          does_stay old mid item rest before after_it r st is.live whole result mem
          (front.given item rest (is.stands.inbox ∙ whole) st is (subst (λ (xs : List Item). AreGood r xs) whole is.stands.good_inbox).0)

      pub turn_stays : DoesHere m old mid Turn before after_it result
      turn_stays st is give = stays_by st is st.inbox refl

  -- ---- an input
  pub input_refused : (old : Core S E C T) (value : List ℕ) (sent : List Msg) (fault : CoreFault) →
      ((p : Parts) → LayersStand m old.layers p → old.layers.me < old.layers.params.n → Some fault ≡ input_check (rules_in m old) p value) →
      DoesHere m old old (Input value) sent sent (Err fault)
  input_refused old value sent fault told st is give =
      let r = rules_in m old in
      let check = sym (told (parts r st.history) (is.stands.layers is.live) is.stands.me) in
      does_refused m old old (Input value) sent sent fault r st
      (λ e. check_not_mem r (parts r st.history) value (check ∙ ap (λ (x : CoreFault). Some x) e))
      (moves_by m old old (Input value) sent sent (Err fault) r st (stays st st.inbox (Err fault))
      (moved_when_live r st (Input value) is.live ∙ ap (λ (o : Option CoreFault). given_input r st value o) check)
      refl (nothing_more sent sent refl) is.stands)

  module _ (old : Core S E C T) (value : List ℕ)
      (told : (p : Parts) → LayersStand m old.layers p → old.layers.me < old.layers.params.n → None ≡ input_check (rules_in m old) p value)
      (good : IsInput old.layers.params old.layers.mode value) where
    free : (st : CoreState) → IsLive m old st → input_check (rules_in m old) (parts (rules_in m old) st.history) value ≡ None
    free st is = sym (told (parts (rules_in m old) st.history) (is.stands.layers is.live) is.stands.me)

    pub input_does : (new : Core S E C T) (before after_it : List Msg) → EntersCore m old new (Given value) before after_it →
        DoesHere m old new (Input value) before after_it (Ok answers.Took)
    input_does new before after_it enters_it st is give =
        let r = rules_in m old in
        let may = givable_from r (parts r st.history) value is.stands.session is.stands.serves good (free st is) in
        moves_by m old new (Input value) before after_it (Ok answers.Took) r st (enters r st (Given value) st.inbox)
        (moved_when_live r st (Input value) is.live ∙ ap (λ (o : Option CoreFault). given_input r st value o) (free st is))
        refl (enters_it.out st is may) (enters_it.state st is may)

    pub input_stops : (mid : Core S E C T) (before after_it : List Msg) → StopsCore m old mid (Given value) before after_it →
        DoesHere m old (record mid { stopped = true }) (Input value) before after_it (Err faults.Mem)
    input_stops mid before after_it stops st is give = record {
      out = stops.out;
      live = is.live;
      state = inr (
        free st is,
        stops_core m old mid (Given value) before after_it st (Input value) refl stops is
            (givable_from (rules_in m old) (parts (rules_in m old) st.history) value is.stands.session is.stands.serves good (free st is)),
      );
    }

module _ {S E C T : Type 0} (m : Meaning S E C T) (well : MeansWell m) where
  -- what is done with an item by what the judge tells
  pub here_from : (old new : Core S E C T) (v : Verdict) (item : Item) (before after_it : List Msg) (result : Result Answer CoreFault) →
      IsVerdictTold m old item v → DoesJudged m old new v item before after_it result → DoesHere m old new (Frame item) before after_it result
  here_from old new v item before after_it result told does st is good =
      let r = rules_in m old in
      let p = parts r st.history in
      let stood = is.stands.layers is.live in
      let laws = laws_of m well old.layers old st is.stands in
      does st is good
      (judged_from m old.layers laws p stood st.held item good (found_repeat r laws st.history is.stands.history st.held item good) v
      (told.judged p stood (slot_origin old.layers.params old.layers.mode item.slot good.in_grammar.slot)
      ∙ ap (λ (h : List (List HeldItem)). judged_in m old.layers p (is_held h item) item) is.stands.held))

  -- the same for the item at the front
  pub front_from : (old new : Core S E C T) (v : Verdict) (before after_it : List Msg) (result : Result Answer CoreFault) → IsToldFront m old v →
      ((item : Item) (rest : List Item) → old.inbox.items ≡ item ∷ rest → DoesJudged m old new v item before after_it result) →
      GivesFront m old new before after_it result
  front_from old new v before after_it result front does = record {
    given = λ item rest there.
        let same : front.item ≡ item = first_same front.item item front.rest rest (sym front.front ∙ there) in
        here_from old new v item before after_it result (subst (λ (x : Item). IsVerdictTold m old x v) same front.told) (does item rest there);
    idle = λ none. absurd (some_none front.item front.rest (sym front.front ∙ none));
  }
