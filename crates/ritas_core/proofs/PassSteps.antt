-- What becomes of an item that the layers were given.
use Rattle.std.proofs.Common.{ℕ, true, Some, Ok, Err, List, [], refl, ◌∙◌, ap, subst, inl}
use Rattle.ritas_base.specs.declared.bytes.Mem.{Mem}
use Rattle.ritas_base.specs.declared.item.Item.{Item}
use Rattle.ritas_base.specs.declared.item.Msg.{Msg}
use Rattle.layer_api.specs.Words.{Ask}
use Rattle.ritas_core.specs.declared.answer.Answer.TheVariants as answers
use Rattle.ritas_core.specs.declared.fault.CoreFault.TheVariants as faults
use Rattle.ritas_core.specs.declared.verdict.Verdict.TheVariants as verdicts
use Rattle.ritas_core.specs.declared.change.Change.{Change}
use Rattle.ritas_core.specs.declared.layers.Layers.{Layers}
use Rattle.ritas_core.specs.declared.kernel.Core.{Core}
use Rattle.ritas_core.specs.Stands.{Meaning}
use Rattle.ritas_core.specs.LayerCalls.{SameSeat, KeepsOutputs, TellsLayers, TellsNoLayer}
use Rattle.ritas_core.specs.CoreCalls.{rules_in, Finishes, Withdraws, StopsCore, GivesLayers, DoesJudged}
use Rattle.ritas_core.specs.Parts.{Took, Given, parts}
use Rattle.ritas_core.proofs.Conditions.{words_proper}
use Rattle.ritas_core.proofs.ShownLayers.{MeansWell}
use Rattle.ritas_core.proofs.Waiting.{OpensWell}
use Rattle.ritas_core.proofs.CoreSteps.{laws_of, may_follow, can_take, can_tell, input_outputs, stops_after, enters_item}
use Rattle.ritas_core.proofs.CallSteps.{took_does, stops_does}

module _ {S E C T : Type 0} (m : Meaning S E C T) (well : MeansWell m) where
  -- it was taken, and what was made goes out
  pub finish_does : OpensWell m → (old mid new : Core S E C T) (item : Item) (change : Change) (made before after_it : List Msg) →
      GivesLayers m old mid item made (Ok (Some change)) → Finishes m change mid new made before after_it →
      DoesJudged m old new verdicts.Take item before after_it (Ok answers.Took)
  finish_does opening old mid new item change made before after_it gives_it fin =
      took_does m old new item before after_it
      (enters_item m well opening old new mid.layers item change [] made before after_it refl gives_it.seat gives_it.given
      (subst (λ (core : Core S E C T). Finishes m change core new made before after_it) gives_it.rest fin))
      gives_it.given.takes.counts

  -- or there was no memory for what was made
  pub withdraws_does : (old mid new : Core S E C T) (item : Item) (change : Change) (made before after_it : List Msg) →
      GivesLayers m old mid item made (Ok (Some change)) → Withdraws mid new before after_it →
      DoesJudged m old (record new { stopped = true }) verdicts.Take item before after_it (Err faults.Mem)
  withdraws_does old mid new item change made before after_it gives_it back =
      let r = rules_in m old in
      let stops : StopsCore m old new (Took item) before after_it =
      stops_after m well old new mid.layers (Took item) before after_it gives_it.seat
      (subst (λ (core : Core S E C T). Withdraws core new before after_it) gives_it.rest back)
      (λ st is may. gives_it.given.takes.grows (parts r st.history) (can_take m well old item st is may)
      (may_follow r (laws_of m well old.layers old st is.stands) st.history is.stands.history item may)
      (words_proper r (laws_of m well old.layers old st is.stands) st.history is.stands.history))
      (λ st is may. gives_it.given.takes.outputs (parts r st.history) (can_take m well old item st is may) (is.stands.outputs is.live)) in
      stops_does m old new item before after_it stops gives_it.given.takes.counts

  -- or for the layers
  pub fails_does : (old mid : Core S E C T) (item : Item) (made sent : List Msg) (e : Mem) → GivesLayers m old mid item made (Err e) →
      DoesJudged m old (record mid { stopped = true }) verdicts.Take item sent sent (Err faults.Mem)
  fails_does old mid item made sent e gives_it =
      let r = rules_in m old in
      let stops : StopsCore m old mid (Took item) sent sent = record {
        seat = gives_it.seat;
        shows = λ st is may.
            let laws = laws_of m well old.layers old st is.stands in
            gives_it.given.shows (parts r st.history) (can_take m well old item st is may) (may_follow r laws st.history is.stands.history item may)
            (words_proper r laws st.history is.stands.history);
        outputs = λ st is may low s. inl (gives_it.given.outputs s ∙ is.stands.outputs is.live low s);
        inbox = ap (λ (core : Core S E C T). core.inbox.items) gives_it.rest;
        held = ap (λ (core : Core S E C T). core.held) gives_it.rest;
        out = refl;
      } in
      stops_does m old mid item sent sent stops gives_it.given.counts

  -- an input that the layers had no memory for
  pub input_fails : (old : Core S E C T) (mid : Layers S E C T) (value : List ℕ) (sent : List Msg) → SameSeat old.layers mid → KeepsOutputs old.layers mid →
      TellsNoLayer m old.layers mid (Ask value) → StopsCore m old (record old { layers = mid }) (Given value) sent sent
  input_fails old mid value sent seat kept tells =
      let r = rules_in m old in
      record {
        seat = seat;
        shows = λ st is may.
            let laws = laws_of m well old.layers old st is.stands in
            tells (parts r st.history) (can_tell m well old value st is may) (words_proper r laws st.history is.stands.history);
        outputs = λ st is may low s. inl (kept s ∙ is.stands.outputs is.live low s);
        inbox = refl;
        held = refl;
        out = refl;
      }

  -- or there was none for what was made
  pub input_withdraws : (old new : Core S E C T) (mid : Layers S E C T) (value : List ℕ) (start made before after_it : List Msg) → SameSeat old.layers mid →
      KeepsOutputs old.layers mid → TellsLayers m old.layers mid (Ask value) start made → Withdraws (record old { layers = mid }) new before after_it →
      StopsCore m old new (Given value) before after_it
  input_withdraws old new mid value start made before after_it seat kept tells back =
      stops_after m well old new mid (Given value) before after_it seat back
      (λ st is may. tells.grows (parts (rules_in m old) st.history) (can_tell m well old value st is may)
      (words_proper (rules_in m old) (laws_of m well old.layers old st is.stands) st.history is.stands.history))
      (λ st is may. input_outputs m well old mid value st is kept)
