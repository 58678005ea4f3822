-- What a correct replica's service said at the first slot of an instance, it started there; so what is decided comes from what
-- correct replicas started.
use Rattle.std.proofs.Common.{◌≡◌, ℕ, true, List, Some, ◌∙◌, subst}
use Rattle.ritas_base.specs.declared.event.Event.{Event}
use Rattle.ritas_base.specs.declared.id.Id.{Id}
use Rattle.ritas_base.specs.declared.item.Say.{Say}
use Rattle.ritas_base.specs.declared.slot.Slot.{Slot}
use Rattle.frame_codec.specs.Values.{entry_at_place}
use Rattle.layer_api.specs.Runs.{calls_of}
use Rattle.layer_api.specs.Words.{Word, HasSay}
use Rattle.layer_api.specs.Service.{Seat, Instance, OfVector, LastVector, MayWord, AreProper, said, has_id}
use Rattle.layer_api.specs.OneLog.{OneLog, IsRunOf, service_play}
use Rattle.layer_api.specs.Proposals.{SaidProposal, SaidList, proposal_slot, list_slot, IsProposed, IsAppended}
use Rattle.layer_api.specs.ProposalLaws.{said_is_value, proposed_as, appended_as}
use Rattle.ritas_core.specs.Rules.{seat_of}
use Rattle.world_model.specs.World.{Setting, rules_at, states_of}
use Rattle.world_model.specs.Audit.{first_broken}
use Rattle.world_model.specs.OneValueEach.{OneValueEach, history_of, started_at}
use Rattle.world_model.specs.Agree.{words_of, identifier_log, decision_of, last_vector_at, completed_at, proposed_at, listed_at}
use Rattle.world_model.specs.declared.audit.Audit.TheVariants.{Holds}
use Rattle.world_model.proofs.Worlds.{layer_laws, world_after}
use Rattle.world_model.proofs.WordRuns.{WordsAt, session_of}
use Rattle.world_model.proofs.Below.{IsSoundOver}

module _ (w : Setting) (es : List Event) (sound : IsSoundOver w) (whole : first_broken w es ≡ Holds) (values : OneValueEach w es) (one : OneLog w.service)
    (x : WordsAt w (states_of w es)) (run : IsRunOf (session_of w) x.steps) where
  abbrev seat : ℕ → Seat
  seat k = seat_of (rules_at w k)

  -- the words of a correct replica met their conditions
  proper_at : (k : ℕ) → w.is_correct k ≡ true → AreProper w.service (seat k) (words_of w es k)
  proper_at k ck =
      sound.core.proper (rules_at w k) (layer_laws w sound k ck).layers (history_of w es k) ((world_after w sound es whole).met k ck)

  -- what it said in the run, it started
  is_started : (k : ℕ) (s : Slot) (v : List ℕ) → w.is_correct k ≡ true → HasSay (said w.service (seat k) (calls_of k x.steps)) (record { slot = s; value = v })
      → started_at w es k s ≡ Some v
  is_started k s v ck h =
      let y : Say = record { slot = s; value = v } in
      let here : HasSay (said w.service (seat k) (words_of w es k)) y = subst (λ (ws : List Word). HasSay (said w.service (seat k) ws) y) (x.same k ck) h in
      values.said s k ck
      ∙ said_is_value (w.service.says (seat k)) (MayWord w.service (seat k)) (λ (z : Say). z.slot.origin ≡ (seat k).me)
      (λ c ws met. sound.world.words.says_new (seat k) c ws met) (words_of w es k) y (proper_at k ck) here

  -- so what it proposed in the run, it proposed
  is_proposed : (k : ℕ) (at : Instance) (v : List ℕ) → w.is_correct k ≡ true → SaidProposal (service_play (session_of w)) x.steps k at v → proposed_at w es k at v
  is_proposed k at v ck h = is_started k (proposal_slot at k) v ck h

  is_listed : (k a : ℕ) (v : List ℕ) → w.is_correct k ≡ true → SaidList (service_play (session_of w)) x.steps k a v → listed_at w es k a v
  is_listed k a v ck h = is_started k (list_slot a k) v ck h

  pub decisions_proposed : (i : ℕ) → w.is_correct i ≡ true → IsProposed w.is_correct (proposed_at w es) (decision_of w es i)
  decisions_proposed i ci =
      proposed_as w.is_correct (SaidProposal (service_play (session_of w)) x.steps) (proposed_at w es) is_proposed (decision_of w es i)
      (subst (λ (ws : List Word). IsProposed w.is_correct (SaidProposal (service_play (session_of w)) x.steps) (w.service.decided (seat i) ws)) (x.same i ci)
      (one.proposed w.numbers w.mode w.is_correct w.coin x.steps run i ci))

  pub entries_of_last : (i k : ℕ) (u : LastVector) (e : List ℕ) → w.is_correct i ≡ true → w.is_correct k ≡ true → last_vector_at w es i ≡ Some u
      → entry_at_place u.value k ≡ Some e → proposed_at w es k (OfVector u.round) e
  entries_of_last i k u e ci ck last entry =
      let shown = sound.world.words.insides (seat i) (words_of w es i) sound.world.session sound.world.serves (proper_at i ci) in
      (decisions_proposed i ci).entries u.round k u.value e ck (shown.last u last).vector entry

  pub ids_appended : (i : ℕ) (id : Id) → w.is_correct i ≡ true → has_id (identifier_log w es i) id ≡ true
      → IsAppended w.service.purpose w.numbers w.is_correct (listed_at w es) (decision_of w es i) (completed_at w es i) id
  ids_appended i id ci here =
      appended_as w.is_correct (SaidList (service_play (session_of w)) x.steps) (listed_at w es) is_listed w.service.purpose w.numbers (decision_of w es i) (completed_at w es i) id
      (subst (λ (ws : List Word).
      has_id (w.service.done (seat i) ws) id ≡ true → IsAppended w.service.purpose w.numbers w.is_correct (SaidList (service_play (session_of w)) x.steps) (w.service.decided (seat i) ws)
      (w.service.completed (seat i) ws) id) (x.same i ci)
      (one.appended w.numbers w.mode w.is_correct w.coin x.steps run i id ci) here)
