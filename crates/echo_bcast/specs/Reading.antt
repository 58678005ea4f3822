-- The words of the rules, read: what is due as HASHES, who is good, and what is delivered.
use Rattle.std.specs.Prelude.{◌≡◌, ◌↔◌, ℕ, ◌≤◌, true, List, Option, Some, is_some, length, count_by, slice_index_or, None}
use Rattle.std.specs.List.{flat_map, AllByRecursion}
use Rattle.ritas_base.specs.declared.item.Kind.TheVariants.{Hashes, Column}
use Rattle.ritas_base.specs.declared.item.To.TheVariants.{One}
use Rattle.ritas_base.specs.declared.item.Item.{Item}
use Rattle.ritas_base.specs.declared.item.Msg.{Msg}
use Rattle.ritas_base.specs.Numbers.{quorum_of}
use Rattle.ritas_base.specs.Members.{has_member}
use Rattle.ritas_base.specs.History.{Call, Take, replicas}
use Rattle.ritas_base.specs.Messages.{Place}
use Rattle.ritas_base.specs.Tags.{Tags}
use Rattle.layer_api.specs.Entries.{sent, given, is_valid}
use Rattle.layer_api.specs.Runs.{Has}
use Rattle.layer_api.specs.OneValue.{AreTaken}
use Rattle.echo_bcast.specs.Matrix.{echo, hashes_bytes, senders_of, matrix_due, is_good, matrix_out}

-- the message is to the origin, and of the entries that were given, one behind the other
pub record CarriesGiven (at : Place) (tags : Tags) (h : List Call) (m : Msg) : Type 0 where
  pub receiver : m.to ≡ One at.slot.origin
  pub value : m.value ≡ hashes_bytes (given at tags h)

-- each HASHES that is due carries the entries that were given, and some is due once a message was sent; entries of 32
-- bytes are written as they are
pub record HashesCarry : Type 0 where
  pub due : (at : Place) (tags : Tags) (h : List Call) (m : Msg) → Has (matrix_due at tags h) m → m.kind ≡ Hashes → CarriesGiven at tags h m
  pub once : (at : Place) (tags : Tags) (h : List Call) (v : List ℕ) → sent at h ≡ Some v
      → Has (matrix_due at tags h) (record { to = One at.slot.origin; kind = Hashes; slot = at.slot; value = hashes_bytes (given at tags h) })
  pub plain : (es : List (List ℕ)) → AllByRecursion (λ e. length e ≡ 32) es → hashes_bytes es ≡ flat_map (λ e. e) es

-- some column that was taken has the valid entry of an echoer
pub record IsShownGood (at : Place) (tags : Tags) (h : List Call) (v : List ℕ) (echoer : ℕ) : Type 0 where
  pub item : Item
  pub taken : Has h (Take item)
  pub kind : item.kind ≡ Column
  pub valid : is_valid at tags v item.value echoer ≡ true

-- an echoer is good where a column shows it, by the message that was sent
pub record GoodIs : Type 0 where
  pub good : (at : Place) (tags : Tags) (h : List Call) (v : List ℕ) → AreTaken echo at tags h → sent at h ≡ Some v
      → (echoer : ℕ) → ((is_good at tags h echoer ≡ true) ↔ IsShownGood at tags h v echoer)
  -- what was sent is delivered where an echo quorum is good
  pub out : (at : Place) (tags : Tags) (h : List Call) (v : List ℕ)
      → ((matrix_out at tags h ≡ Some v) ↔ ((sent at h ≡ Some v) × (quorum_of at.numbers ≤ count_by (is_good at tags h) (replicas at.numbers.n))))

-- a column's mask has those whose HASHES are there
pub record SendersAre : Type 0 where
  pub members : (hs : List (Option (List ℕ))) (k : ℕ) → has_member (senders_of hs) k ≡ is_some (slice_index_or hs k None)
