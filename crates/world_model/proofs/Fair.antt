-- What a world keeps to whose players forge nothing, and that every world of one service and one broadcast does.
use Rattle.std.proofs.Common.{ℕ, ◌≤◌, List, ◌++◌, length}
use Rattle.sha2.proofs.Facts256.{length-sha256}
use Rattle.sha2.specs.Sha256.{sha256}
use Rattle.ritas_base.specs.declared.item.Item.{Item}
use Rattle.ritas_base.specs.declared.mode.Mode.{Mode}
use Rattle.ritas_base.specs.Numbers.{Numbers}
use Rattle.frame_codec.specs.Body.{IsInGrammar, spelling}
use Rattle.layer_api.specs.Broadcast.{BroadcastRules}
use Rattle.layer_api.specs.EntryLaws.{EntryLaws, HasWholeEntries}
use Rattle.layer_api.specs.OneValue.{ValueLaws, OneValue}
use Rattle.layer_api.specs.Service.{ServiceRules, WordLaws}
use Rattle.reliable_bcast.specs.Bracha.{bracha}
use Rattle.keyed_channel.specs.Hmac.{hmac_of, pad}
use Rattle.keyed_channel.specs.KeyRow.{KeyRow, key_with}
use Rattle.keyed_channel.specs.Keyed.{tags_of, other_of_two, entry_string}
use Rattle.keyed_channel.specs.Laws.{OpensAsSealed, OpenedFromPeer, SealedLength}
use Rattle.world_model.specs.World.{Setting}
use Rattle.world_model.specs.OneValueEach.{Codec}
use Rattle.world_model.specs.CoreLaws.{CoreLaws}
use Rattle.world_model.specs.EveryWorld.{IsWorld}
use Rattle.world_model.specs.Stands.{NoneStops}
use Rattle.world_model.proofs.Below.{IsSoundOver}
use Rattle.world_model.proofs.EveryWorld.{world_sound}

-- what a world keeps to: beside what it does for agreement, entries have 32 bytes
pub record IsFair (w : Setting) : Type 0 where
  pub sound : IsSoundOver w
  pub whole : (i : ℕ) → HasWholeEntries (tags_of (w.keys i))
  pub going : NoneStops w

-- the spelling of an item is short
abbrev pub SpellingShort : Type 0
SpellingShort = (p : Numbers) (mode : Mode) (item : Item) → IsInGrammar p mode item → length (spelling item) ≤ 15952

-- what a service, a broadcast beside the reliable one, the channel, the codec and the core keep to
pub record AreLayers (service : ServiceRules) (other : BroadcastRules) : Type 0 where
  pub values : ValueLaws other
  pub one_value : OneValue other
  pub entries : EntryLaws other
  pub one_of_bracha : OneValue bracha
  pub words : WordLaws service
  pub opens_as_sealed : OpensAsSealed
  pub opened_from_peer : OpenedFromPeer
  pub sealed_length : SealedLength
  pub codec : (w : Setting) → IsWorld service other w → Codec w
  pub short : SpellingShort
  pub core : CoreLaws

-- an entry is an HMAC over SHA-256
whole_entries : (k : KeyRow) → HasWholeEntries (tags_of k)
unfolding hmac_of
whole_entries k s echoer verifier digest =
    let key : List ℕ = key_with k (other_of_two k.me echoer verifier) in
    length-sha256 (pad 0x5c key ++ sha256 (pad 0x36 key ++ entry_string k.session s echoer verifier digest))

pub world_fair : (service : ServiceRules) (other : BroadcastRules) → AreLayers service other → (w : Setting) → IsWorld service other w → NoneStops w → IsFair w
world_fair service other layers w is going = record {
  sound = record {
    world = world_sound service other w is layers.values layers.one_value layers.entries layers.one_of_bracha layers.words layers.opens_as_sealed layers.opened_from_peer (layers.codec w is);
    core = layers.core;
  };
  whole = λ i. whole_entries (w.keys i);
  going = going;
}
