-- What a world keeps of the messages that were sent and hashed, and what its tables stand for.
use Rattle.std.specs.Prelude.{◌≡◌, ℕ, Bool, true, false, ◌&&◌, ◌==◌, List, [], ◌∷◌, ◌++◌, map, slice_index_or, Option, Some, None}
use Rattle.std.specs.declared.cmp.Ordering.{Ordering}
use Rattle.std.specs.Ordering.{nat_cmp}
use Rattle.std.specs.Cmp.Lexicographic.{slice_cmp}
use Rattle.std.specs.BTreeMap.{BTreeMap, get, get_by}
use Rattle.std.specs.BTreeSet.{contains}
use Rattle.sha2.specs.Sha256.{sha256}
use Rattle.ritas_base.specs.declared.slot.Slot.{Slot}
use Rattle.ritas_base.specs.declared.item.Kind.{Kind}
use Rattle.ritas_base.specs.declared.item.Kind.TheVariants.{Send}
use Rattle.ritas_base.specs.SlotOrder.{slot_cmp, is_slot}
use Rattle.ritas_base.specs.History.{replicas}
use Rattle.layer_api.specs.Runs.{Has}
use Rattle.layer_api.specs.Entries.{EntryInput, Print, OfMessage, OfEntry}
use Rattle.keyed_channel.specs.KeyRow.{KeyRow}
use Rattle.keyed_channel.specs.Keyed.{tags_of}
use Rattle.world_model.specs.World.{Setting}
use Rattle.world_model.specs.Audit.{clashes, collide}
use Rattle.world_model.specs.Met.{MetEntries, met_with}
use Rattle.world_model.specs.declared.met.MetAtSlot.{MetAtSlot}
use Rattle.world_model.specs.declared.hashed.HashedEntry.{HashedEntry}
use Rattle.world_model.specs.declared.hashed.Hashed.{Hashed}

-- ---- what was met

-- what a replica met at a slot, by what each met there, if any did
abbrev pub met_in : Option MetAtSlot → ℕ → Option MetEntries
met_in None i = None
met_in (Some here) i = slice_index_or here.places.items i None

abbrev pub entries_met_at : BTreeMap Slot MetAtSlot → Slot → ℕ → Option MetEntries
entries_met_at table s i = met_in (get slot_cmp table s) i

-- what replica i met at a slot, if it is correct and did, is what its keys give
abbrev pub IsMetAt : Setting → ℕ → Slot → Option MetEntries → Type 0
IsMetAt w i s found = (met : MetEntries) → w.is_correct i ≡ true → found ≡ Some met → met ≡ met_with (w.keys i) s met.digest

-- so it is of all that the table has
abbrev pub AreMet : Setting → BTreeMap Slot MetAtSlot → Type 0
AreMet w table = (i : ℕ) (s : Slot) → IsMetAt w i s (entries_met_at table s i)

-- the two are one slot at one replica
abbrev pub is_same_at : Slot → ℕ → Slot → ℕ → Bool
is_same_at s i q j = i == j && is_slot s q

-- ---- what was hashed

abbrev pub image_cmp : List ℕ → List ℕ → Ordering
image_cmp = slice_cmp nat_cmp

abbrev pub input_of : HashedEntry → EntryInput
input_of x = record { slot = x.slot; echoer = x.echoer; verifier = x.verifier; digest = x.digest }

abbrev pub input_in : Option HashedEntry → Option EntryInput
input_in None = None
input_in (Some x) = Some (input_of x)

-- the digest of a message
abbrev pub digest_at : Hashed → List ℕ → Option (List ℕ)
digest_at hashed message = get_by (λ k. image_cmp message k.items) hashed.messages

abbrev pub has_digest : Hashed → List ℕ → Bool
has_digest hashed digest = contains image_cmp hashed.digests digest

abbrev pub entry_input_at : Hashed → List ℕ → Option EntryInput
entry_input_at hashed entry = input_in (get image_cmp hashed.entries entry)

-- the maps have these prints, and no others; the set has just the digests of the messages, and each is of one message
pub record HashedStand (hashed : Hashed) (prints : List Print) : Type 0 where
  pub messages : (m d : List ℕ) → Has prints (OfMessage m d) → digest_at hashed m ≡ Some d
  pub no_other_message : (m d : List ℕ) → digest_at hashed m ≡ Some d → Has prints (OfMessage m d)
  pub right : (m d : List ℕ) → digest_at hashed m ≡ Some d → d ≡ sha256 m
  pub digests : (m d : List ℕ) → digest_at hashed m ≡ Some d → has_digest hashed d ≡ true
  pub no_other_digest : (d : List ℕ) → has_digest hashed d ≡ true → (m : List ℕ) × (digest_at hashed m ≡ Some d)
  pub one_message : (m v d : List ℕ) → digest_at hashed m ≡ Some d → digest_at hashed v ≡ Some d → m ≡ v
  pub entries : (x : EntryInput) (e : List ℕ) → Has prints (OfEntry x e) → entry_input_at hashed e ≡ Some x
  pub no_other_entry : (x : EntryInput) (e : List ℕ) → entry_input_at hashed e ≡ Some x → Has prints (OfEntry x e)

-- another of these prints clashes with this one
pub record Clash (p : Print) (prints : List Print) : Type 0 where
  pub other : Print
  pub listed : Has prints other
  pub differ : clashes p other ≡ true

-- one print more
abbrev pub Adds : Hashed → Print → List Print → Bool → Type 0
Adds new p prints true = Clash p prints
Adds new p prints false = HashedStand new (p ∷ prints)

-- what came of a message: none where it clashes with another, or else its digest, and it is kept
abbrev pub IsDigestOf : Hashed → KeyRow → List ℕ → List Print → Option (List ℕ) → Type 0
IsDigestOf new k m prints None = Clash (OfMessage m ((tags_of k).digest m)) prints
IsDigestOf new k m prints (Some d) = (d ≡ (tags_of k).digest m) × HashedStand new (OfMessage m d ∷ prints)

-- these prints more
abbrev pub Meets : Hashed → List Print → List Print → Bool → Type 0
Meets new more prints true = collide (more ++ prints) ≡ true
Meets new more prints false = HashedStand new (more ++ prints)

-- the print of an entry that the replica with these keys can make
abbrev pub print_of : KeyRow → Slot → List ℕ → ℕ → ℕ → Print
print_of k s digest echoer verifier =
    OfEntry (record { slot = s; echoer = echoer; verifier = verifier; digest = digest }) ((tags_of k).entry s echoer verifier digest)

-- those of the entries that it and another have of each other
abbrev pub both_of : KeyRow → Slot → List ℕ → ℕ → List Print
both_of k s digest other = print_of k s digest other k.me ∷ print_of k s digest k.me other ∷ []

-- what the replica with these keys meets at a message
abbrev pub prints_with : KeyRow → Slot → List ℕ → List Print
prints_with k s m =
    OfMessage m ((tags_of k).digest m)
    ∷ map (λ verifier. print_of k s ((tags_of k).digest m) k.me verifier) (replicas k.n)
    ++ map (λ echoer. print_of k s ((tags_of k).digest m) echoer k.me) (replicas k.n)

-- what it hashes of a message of this kind: of a SEND the entries too
abbrev pub prints_by_kind : KeyRow → Slot → Kind → List ℕ → List Print
prints_by_kind k s Send m = prints_with k s m
prints_by_kind k s _ m = OfMessage m ((tags_of k).digest m) ∷ []
