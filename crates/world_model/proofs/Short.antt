-- The frames of players are short.
use Rattle.std.proofs.Common.{◌≡◌, ℕ, ◌≤◌, List, length, ap, arith}
use Rattle.ritas_base.specs.declared.item.Msg.{Msg}
use Rattle.ritas_base.specs.Limits.{longest_frame}
use Rattle.ritas_base.specs.Messages.{item_of}
use Rattle.frame_codec.specs.Body.{IsInGrammar, spelling}
use Rattle.layer_api.specs.Broadcast.{BroadcastRules}
use Rattle.layer_api.specs.Runs.{Has}
use Rattle.layer_api.specs.Service.{ServiceRules}
use Rattle.keyed_channel.specs.Frames.{sealed}
use Rattle.replica.specs.Frames.{body_of, made_for}
use Rattle.world_model.specs.World.{Setting, rules_at, states_of}
use Rattle.world_model.specs.Players.{Cast, Scene, Player, Correct, Face, IsPlayer, frames_shown_as, scene_of, player_frames}
use Rattle.world_model.specs.Forging.{IsFaceView, ShortLaw}
use Rattle.world_model.proofs.Below.{founded_at}
use Rattle.world_model.proofs.Carrying.{shown_sent}
use Rattle.world_model.proofs.Fair.{IsFair, AreLayers}
use Rattle.world_model.proofs.Members.{reverse_listed}
use Rattle.world_model.proofs.Unforged.{IsSafe, fair_of, play_safe}
use Rattle.world_model.proofs.Sent.{made_sent}

-- a frame has `frame_overhead` bytes beside its body, which spells an item of the grammar
seal_short : (service : ServiceRules) (other : BroadcastRules) → AreLayers service other → (w : Setting) → IsFair w → (i j seq : ℕ) (m : Msg) (bytes : List ℕ) → (w.keys i).me ≡ i
    → IsInGrammar w.numbers w.mode (item_of i m) → bytes ≡ sealed (w.keys i) j seq (body_of (w.keys i).me m) → length bytes ≤ longest_frame
seal_short service other layers w fair i j seq m bytes me good is =
    let own : length (body_of (w.keys i).me m) ≡ length (spelling (item_of i m)) = ap (λ (k : ℕ). length (spelling (item_of k m))) me in
    let more = layers.sealed_length (w.keys i) j seq (body_of (w.keys i).me m) in
    let most = layers.short w.numbers w.mode (item_of i m) good in
    let whole : length bytes ≡ length (sealed (w.keys i) j seq (body_of (w.keys i).me m)) = ap length is in
    omega (arith, own, more, most, whole)

frames_short : (service : ServiceRules) (other : BroadcastRules) → AreLayers service other → (w : Setting) (c : Cast) (s : Scene) → IsFair w → IsFaceView w c.shown → IsSafe w c s
    → (x : Player) → IsPlayer w c x → (j : ℕ) (bytes : List ℕ) → Has (player_frames w c s x j) bytes → length bytes ≤ longest_frame
frames_short service other layers w c s fair shows safe (Correct i) plays j bytes there =
    let below = fair.sound.world.within i plays in
    let h = (states_of w s.events i).history in
    let f = made_sent (rules_at w i) (founded_at w fair.sound i below) (w.keys i) h (safe.players.correct i plays).met j bytes
    (reverse_listed (made_for (rules_at w i) (w.keys i) h j) bytes there) in
    seal_short service other layers w fair i j f.seq f.message bytes (fair.sound.world.channel.own i below).0 f.good f.is_seal
frames_short service other layers w c s fair shows safe (Face a) plays j bytes there =
    let i = c.number a in
    let h = (s.faces a).history in
    let f = shown_sent c.shown (rules_at w i) (founded_at w fair.sound i plays.1) (w.keys i) h (safe.players.face a plays).met j bytes
    (reverse_listed (frames_shown_as c.shown (rules_at w i) (w.keys i) h j) bytes there) in
    seal_short service other layers w fair i j f.seq (c.shown f.message) bytes (fair.sound.world.channel.own i plays.1).0 (shows.good i f.message f.good) f.is_seal

pub short_law : (service : ServiceRules) (other : BroadcastRules) → AreLayers service other → ShortLaw service other
short_law service other layers w c steps play x plays j below bytes there =
    frames_short service other layers w c (scene_of w c steps) (fair_of service other layers w c steps play) play.shows (play_safe service other layers w c steps play) x plays j bytes there
