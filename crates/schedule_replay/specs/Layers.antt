-- The layers of the program, and the world that a schedule file's header describes: its layers, and its keys and coins.
use Rattle.std.specs.Prelude.{◌≡◌, ℕ, ◌==◌, ◌⊎◌, Bool, List, take, true, false, if◌then◌else◌}
use Rattle.std.proofs.Common.{◌∙◌, ap, inl, inr}
use Rattle.ritas_base.specs.declared.mode.Mode.{Mode}
use Rattle.ritas_base.specs.declared.mode.FrameVersion.{FrameVersion}
use Rattle.ritas_base.specs.History.{Call}
use Rattle.ritas_base.specs.Messages.{Place}
use Rattle.ritas_base.specs.Tags.{Tags}
use Rattle.ritas_base.specs.Members.{has_member}
use Rattle.ritas_base.specs.RootServices.{root_number}
use Rattle.ritas_base.specs.declared.root_service.RootService.{RootService}
use Rattle.ritas_base.specs.declared.root_service.RootService.TheVariants as roots
use Rattle.keyed_channel.specs.Keyed.{CoinSeed, dealt_for, coin_key_of, coin_bit, tags_of}
use Rattle.ritas_base.specs.Bytes.{filled_row}
use Rattle.keyed_channel.specs.KeyRow.{KeyRow}
use Rattle.command_log.specs.Rows.{alone}
use Rattle.reliable_bcast.specs.Bracha.{bracha}
use Rattle.reliable_bcast.specs.Digests.{by_digest}
use Rattle.echo_bcast.specs.Matrix.{echo}
use Rattle.atomic_bcast.specs.Commands.{commands}
use Rattle.atomic_bcast.specs.VectorRounds.{atomic}
use Rattle.direct_atomic.specs.Lists.{direct}
use Rattle.binary_consensus.specs.Consensus.{binary}
use Rattle.binary_consensus.specs.Root.{binary_root}
use Rattle.multivalued.specs.Consensus.{multivalued}
use Rattle.multivalued.specs.Root.{multi_root}
use Rattle.vector_consensus.specs.Consensus.{vectors}
use Rattle.vector_consensus.specs.Root.{vector_root}
use Rattle.ritas_core.specs.Rules.{other_form, at_slot_of}
use Rattle.ritas_core.specs.Stands.{Meaning, meaning}
use Rattle.schedule_file.specs.declared.header.Header.{Header}
use Rattle.schedule_file.specs.declared.header.HeaderKeys.{HeaderKeys}
use Rattle.schedule_file.specs.declared.header.HeaderKeys.TheVariants.{Master, Row}
use Rattle.layer_api.specs.Broadcast.{BroadcastRules}
use Rattle.layer_api.specs.BroadcastCalls.{CastShown}
use Rattle.layer_api.specs.Service.{ServiceRules, Seat}
use Rattle.layer_api.specs.Words.{Word}
use Rattle.layer_api.specs.ServiceCalls.{ServiceShown}
use Rattle.ritas_core.specs.CoreOf.{IsCoreOf}
use Rattle.world_model.specs.World.{Setting, rules_at}

-- a service and a broadcast beside the reliable one, with keys and coins that were dealt
abbrev pub layers_by : {S E : Type 0} → (S → Seat → List Word → Type 0) → ServiceRules → (S → ServiceShown)
    → (E → Place → Tags → List Call → Type 0) → BroadcastRules → (E → CastShown) → Meaning S E CoinSeed KeyRow
layers_by service_stands service service_shown other_stands other other_shown =
    meaning service_stands service service_shown other_stands other other_shown coin_bit (λ k. k.me) tags_of

-- the broadcast of a form: 1 reliable with values, 2 echo, 3 reliable with digests
abbrev pub broadcast_of : ℕ → BroadcastRules
broadcast_of form = if form == 2 then echo else if form == 3 then by_digest else bracha

-- the broadcast that a mode has beside its reliable one
abbrev pub other_of : Mode → BroadcastRules
other_of mode = broadcast_of (other_form mode)

-- ---- keys and coins

-- The keys of replica i of n, for frames of a version. A file with the keys of one replica has them for that one, which alone is correct: the others have no
-- state, so what stands here for them isn't used.
abbrev pub keys_with : HeaderKeys → FrameVersion → ℕ → ℕ → ℕ → KeyRow
keys_with (Master master) version session n i = dealt_for version master session n i
keys_with (Row me row coin) version session n i = record { session = session; n = n; me = i; row = filled_row (take n row); version = version }

-- the coin of replica i
abbrev pub coin_with : HeaderKeys → ℕ → ℕ → CoinSeed
coin_with (Master master) session i = record { session = session; key = coin_key_of master session i }
coin_with (Row me row coin) session i = record { session = session; key = coin }

-- the keys and the coin of replica i by a header
abbrev pub dealt_to : Header → ℕ → KeyRow
dealt_to h i = keys_with h.keys h.mode.version h.session h.p.n i

abbrev pub coin_to : Header → ℕ → CoinSeed
coin_to h i = coin_with h.keys h.session i

-- ---- the world

-- the world of a header, with a service and a broadcast, in which these replicas are correct: none stops between events, and it is a
-- session by itself
abbrev pub setting_with : (ℕ → Bool) → ServiceRules → BroadcastRules → Header → Setting
setting_with is_correct service other h = record {
  numbers = h.p;
  mode = h.mode;
  is_correct = is_correct;
  at_slot = at_slot_of h.mode other;
  service = service;
  coin = λ i. coin_bit (coin_to h i);
  keys = dealt_to h;
  stops = λ k i. false;
  start = alone;
}

-- in which those are that it names
abbrev pub setting_by : ServiceRules → BroadcastRules → Header → Setting
setting_by service other h = setting_with (has_member h.correct) service other h

-- the service of a root service
abbrev pub service_of : ℕ → ServiceRules
service_of root =
    if root == 3 then binary_root binary
    else if root == 4 then multi_root (multivalued binary)
    else if root == 5 then vector_root (vectors (multivalued binary))
    else if root == 6 then atomic (vectors (multivalued binary))
    else if root == 7 then direct (multivalued binary)
    else commands

-- root services 1 and 2 are one service
pub carried : (root : ℕ) (s : RootService) → root ≡ root_number s → (s ≡ roots.Reliable) ⊎ (s ≡ roots.Echo) → service_of root ≡ commands
carried root s is (inl reliable) = ap service_of (is ∙ ap root_number reliable)
carried root s is (inr echo) = ap service_of (is ∙ ap root_number echo)

-- the world of a header: the service of its root service, and the broadcasts of its mode
abbrev pub setting_of : Header → Setting
setting_of h = setting_by (service_of h.mode.root) (other_of h.mode) h

-- the correct replicas of a world have cores of this service and this broadcast
abbrev pub AreCoresOf : ServiceRules → BroadcastRules → Setting → Type 0
AreCoresOf service cast w = (i : ℕ) → w.is_correct i ≡ true → IsCoreOf service cast (rules_at w i)
