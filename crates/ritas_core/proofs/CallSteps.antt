-- What each outcome of a step is, as the abstract core has it.
use Rattle.std.proofs.Common.{◌≡◌, Bool, true, false, not, cond, Option, None, Result, Ok, Err, List, [], ◌++◌, refl, sym, ◌∙◌, ap, subst, inl, inr, append-nil}
use Rattle.ritas_base.specs.declared.item.Item.{Item}
use Rattle.ritas_base.specs.declared.item.Msg.{Msg}
use Rattle.ritas_core.specs.declared.answer.Answer.{Answer}
use Rattle.ritas_core.specs.declared.answer.Answer.TheVariants as answers
use Rattle.ritas_core.specs.declared.fault.CoreFault.{CoreFault}
use Rattle.ritas_core.specs.declared.fault.CoreFault.TheVariants as faults
use Rattle.ritas_core.specs.declared.verdict.Verdict.{Verdict}
use Rattle.ritas_core.specs.declared.verdict.Verdict.TheVariants as verdicts
use Rattle.ritas_core.specs.declared.kernel.Core.{Core}
use Rattle.ritas_core.specs.Rules.{Rules}
use Rattle.ritas_core.specs.Casts.{OutputsStand}
use Rattle.ritas_core.specs.Parts.{Entry, Took, parts}
use Rattle.ritas_core.specs.Checks.{verdict_on, IsGood, IsTakable}
use Rattle.ritas_core.specs.Machine.{CoreState, What, Frame, Moved, with_entry, stays, enters, gives_item, moved_live, moved}
use Rattle.ritas_core.specs.Stands.{Meaning, LayersStand, LayersShow, CoreStands}
use Rattle.ritas_core.specs.LayerCalls.{CanTakeItem, RepeatsOne}
use Rattle.ritas_core.specs.Calls.{Moves, Does}
use Rattle.ritas_core.specs.CoreCalls.{rules_in, IsLive, StopsCore, EntersCore, GivesLayers, IsToTake, DoesJudged}
use Rattle.ritas_core.proofs.GoodSlots.{slot_origin}
use Rattle.ritas_core.proofs.HeldSteps.{open_near}
use Rattle.ritas_core.proofs.CoreSteps.{same_rules, stops_core}
use Rattle.ritas_core.proofs.ShownLayers.{MeansWell, layers_show}
use Rattle.ritas_core.proofs.JudgeSteps.{verdict_not_mem}

pub not_false : (b : Bool) → not b ≡ false → b ≡ true
not_false true h = refl
not_false false h = cc

pub not_true : (b : Bool) → not b ≡ true → b ≡ false
not_true true h = cc
not_true false h = refl

pub nothing_more : (before after_it : List Msg) → after_it ≡ before → after_it ≡ before ++ []
nothing_more before after_it e = e ∙ sym (append-nil before)

-- ---- the abstract core's move
pub moved_when_live : (r : Rules) (st : CoreState) (what : What) → st.live ≡ true → moved r st what ≡ moved_live r st what
moved_when_live r st what live = ap (λ (b : Bool). cond b (moved_live r st what) (stays st st.inbox (Err faults.Stopped))) live

pub frame_moves : (r : Rules) (st : CoreState) (item : Item) (v : Verdict) → st.live ≡ true → verdict_on r (parts r st.history) st.held item ≡ v →
    moved r st (Frame item) ≡ gives_item r st item st.inbox v
frame_moves r st item v live is = moved_when_live r st (Frame item) live ∙ ap (λ (u : Verdict). gives_item r st item st.inbox u) is

module _ {S E C T : Type 0} (m : Meaning S E C T) where
  pub moves_by : (old new : Core S E C T) (what : What) (before after_it : List Msg) (result : Result Answer CoreFault) (r : Rules) (st : CoreState) (mv : Moved) →
      moved r st what ≡ mv → result ≡ mv.answer → after_it ≡ before ++ mv.out → CoreStands m new r mv.state → Moves m old new what before after_it result r st
  moves_by old new what before after_it result r st mv is answer out state = record {
    answer = answer ∙ ap (λ (x : Moved). x.answer) (sym is);
    out = out ∙ ap (λ (x : Moved). before ++ x.out) (sym is);
    state = subst (λ (x : Moved). CoreStands m new r x.state) (sym is) state;
  }

  -- a refusal that isn't want of memory
  pub does_refused : (old new : Core S E C T) (what : What) (before after_it : List Msg) (fault : CoreFault) (r : Rules) (st : CoreState) →
      (fault ≡ faults.Mem → ⊥) → Moves m old new what before after_it (Err fault) r st → Does m old new what before after_it (Err fault) r st
  does_refused old new what before after_it faults.NotOrigin r st never moves = moves
  does_refused old new what before after_it faults.NotForMe r st never moves = moves
  does_refused old new what before after_it (faults.Past x) r st never moves = moves
  does_refused old new what before after_it (faults.Ahead x) r st never moves = moves
  does_refused old new what before after_it (faults.HeldFull x) r st never moves = moves
  does_refused old new what before after_it faults.InputTaken r st never moves = moves
  does_refused old new what before after_it (faults.WindowFull x) r st never moves = moves
  does_refused old new what before after_it (faults.Input x) r st never moves = moves
  does_refused old new what before after_it faults.Mem r st never moves = absurd (never refl)
  does_refused old new what before after_it faults.Stopped r st never moves = moves

  -- ---- a refused item, and one that is taken or held already
  pub refuse_does : (old : Core S E C T) (item : Item) (sent : List Msg) (fault : CoreFault) →
      DoesJudged m old old (verdicts.Refuse fault) item sent sent (Err fault)
  refuse_does old item sent fault st is good judged =
      let r = rules_in m old in
      does_refused old old (Frame item) sent sent fault r st
      (λ e. verdict_not_mem r (parts r st.history) st.held item (judged ∙ ap (λ (x : CoreFault). verdicts.Refuse x) e))
      (moves_by old old (Frame item) sent sent (Err fault) r st (stays st st.inbox (Err fault)) (frame_moves r st item (verdicts.Refuse fault) is.live judged)
      refl (nothing_more sent sent refl) is.stands)

  pub again_does : (old : Core S E C T) (item : Item) (sent : List Msg) → DoesJudged m old old verdicts.Again item sent sent (Ok answers.Repeat)
  again_does old item sent st is good judged =
      let r = rules_in m old in
      moves_by old old (Frame item) sent sent (Ok answers.Repeat) r st (stays st st.inbox (Ok answers.Repeat)) (frame_moves r st item verdicts.Again is.live judged)
      refl (nothing_more sent sent refl) is.stands

  -- ---- an open item
  can_take : (old : Core S E C T) (item : Item) (st : CoreState) → IsLive m old st → IsGood (rules_in m old) item →
      IsToTake (rules_in m old) (parts (rules_in m old) st.history) st.held item → CanTakeItem m old.layers item (parts (rules_in m old) st.history)
  can_take old item st is good judged = record {
    is_own = record { own = is.stands.own; below = is.stands.me };
    origin = slot_origin old.layers.params old.layers.mode item.slot good.in_grammar.slot;
    near = open_near (rules_in m old) (parts (rules_in m old) st.history) item judged.opened;
    may = judged.may;
    stood = is.stands.layers is.live;
  }

  -- its verdict, by whether it repeats one that its slot took
  verdict_of : (old : Core S E C T) (item : Item) (st : CoreState) (b : Bool) → IsLive m old st → IsGood (rules_in m old) item →
      IsToTake (rules_in m old) (parts (rules_in m old) st.history) st.held item → RepeatsOne m old.layers item b →
      verdict_on (rules_in m old) (parts (rules_in m old) st.history) st.held item ≡ cond b verdicts.Again verdicts.Take
  verdict_of old item st b is good judged counts =
      judged.verdict ∙ ap (λ (x : Bool). cond x verdicts.Again verdicts.Take) (counts (parts (rules_in m old) st.history) (can_take old item st is good judged))

  may_take : (old : Core S E C T) (item : Item) (st : CoreState) → IsLive m old st → IsGood (rules_in m old) item →
      IsToTake (rules_in m old) (parts (rules_in m old) st.history) st.held item → RepeatsOne m old.layers item false →
      IsTakable (rules_in m old) (parts (rules_in m old) st.history) item
  may_take old item st is good judged counts = record {
    good = good;
    may = judged.may;
    is_open = judged.opened;
    first = counts (parts (rules_in m old) st.history) (can_take old item st is good judged);
  }

  pub took_does : (old new : Core S E C T) (item : Item) (before after_it : List Msg) → EntersCore m old new (Took item) before after_it →
      RepeatsOne m old.layers item false → DoesJudged m old new verdicts.Take item before after_it (Ok answers.Took)
  took_does old new item before after_it enters_it counts st is good judged =
      let r = rules_in m old in
      let may = may_take old item st is good judged counts in
      moves_by old new (Frame item) before after_it (Ok answers.Took) r st (enters r st (Took item) st.inbox)
      (frame_moves r st item verdicts.Take is.live (verdict_of old item st false is good judged counts))
      refl (enters_it.out st is may) (enters_it.state st is may)

  -- the layers may have changed, and stand for the same
  stays_core : MeansWell m → (old new : Core S E C T) (item : Item) (made : List Msg) (st : CoreState) → GivesLayers m old new item made (Ok None) → IsLive m old st →
      CoreStands m new (rules_in m old) st
  stays_core well old new item made st gives_it is =
      let same = same_rules m old.layers new.layers gives_it.seat in
      let stood : LayersStand m new.layers (parts (rules_in m old) st.history) = gives_it.given.same (parts (rules_in m old) st.history) (is.stands.layers is.live) in
      let puts : st.live ≡ true → OutputsStand old.layers.mode.root (rules_in m old).casts new.layers.outputs (parts (rules_in m old) st.history).calls = λ live low s.
      gives_it.given.outputs s ∙ is.stands.outputs live low s in
      subst (λ (core : Core S E C T). CoreStands m core (rules_in m old) st) (sym gives_it.rest) (record {
        rules = same;
        own = ap (λ (t : T). m.me t) gives_it.seat.tagger ∙ is.stands.own;
        kinds = is.stands.kinds;
        session = is.stands.session;
        me = is.stands.me;
        serves = is.stands.serves;
        live = is.stands.live;
        history = is.stands.history;
        whole = is.stands.whole;
        layers = λ _. stood;
        lost = is.stands.lost;
        shows = subst (λ (o : Option Entry). LayersShow m new.layers (rules_in m old) (parts (rules_in m old) st.history) (parts (rules_in m old) (with_entry o st.history)))
            (sym (is.stands.lost is.live)) (layers_show m well new.layers (rules_in m old) same (parts (rules_in m old) st.history) stood);
        outputs = λ live. puts live;
        shows_outputs = λ low s. inl (puts is.live low s);
        inbox = is.stands.inbox;
        held = is.stands.held;
        peers = is.stands.peers;
        good_inbox = is.stands.good_inbox;
        good_held = is.stands.good_held;
        waiting = is.stands.waiting;
      })

  pub repeat_does : MeansWell m → (old new : Core S E C T) (item : Item) (made sent : List Msg) → GivesLayers m old new item made (Ok None) →
      DoesJudged m old new verdicts.Take item sent sent (Ok answers.Repeat)
  repeat_does well old new item made sent gives_it st is good judged =
      let r = rules_in m old in
      moves_by old new (Frame item) sent sent (Ok answers.Repeat) r st (stays st st.inbox (Ok answers.Repeat))
      (frame_moves r st item verdicts.Again is.live (verdict_of old item st true is good judged gives_it.given.counts))
      refl (nothing_more sent sent refl) (stays_core well old new item made st gives_it is)

  pub stops_does : (old mid : Core S E C T) (item : Item) (before after_it : List Msg) → StopsCore m old mid (Took item) before after_it →
      RepeatsOne m old.layers item false → DoesJudged m old (record mid { stopped = true }) verdicts.Take item before after_it (Err faults.Mem)
  stops_does old mid item before after_it stops counts st is good judged = record {
    out = stops.out;
    live = is.live;
    state = inr (
      verdict_of old item st false is good judged counts,
      stops_core m old mid (Took item) before after_it st (Frame item) refl stops is (may_take old item st is good judged counts),
    );
  }
