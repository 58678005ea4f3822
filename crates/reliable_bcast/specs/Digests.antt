-- Reliable broadcast by digests at one slot, as the calls on a replica's value tell it: ECHO and READY carry the digest of a value,
-- and a replica that delivers a digest before it knows its value asks for that. Lists of calls have the newest first.
use Rattle.std.specs.Prelude.{ℕ, Bool, true, ◌==◌, ◌&&◌, ◌||◌, List, [], ◌∷◌, ◌++◌, map, Option, Some, None, is_some, is_none, if◌then◌else◌}
use Rattle.std.specs.List.{flat_map}
use Rattle.std.specs.Option.{option_or}
use Rattle.std.specs.Str.{bytes_eq}
use Rattle.ritas_base.specs.declared.item.Kind.TheVariants.{Init, Echo, Ready, Want, Value}
use Rattle.ritas_base.specs.declared.item.To.TheVariants.{One}
use Rattle.ritas_base.specs.declared.item.Item.{Item}
use Rattle.ritas_base.specs.declared.item.Msg.{Msg}
use Rattle.ritas_base.specs.declared.slot.Slot.{Slot}
use Rattle.ritas_base.specs.History.{Call, Start, Take, first, started, replicas}
use Rattle.ritas_base.specs.Messages.{Place, kind_eq, to_all}
use Rattle.ritas_base.specs.Shortest.{at_shortest}
use Rattle.ritas_base.specs.Tags.{Tags}
use Rattle.layer_api.specs.Broadcast.{BroadcastRules}
use Rattle.layer_api.specs.Entries.{OfMessage}
use Rattle.reliable_bcast.specs.Bracha.{some_carried, ready_value}

-- ---- what is known

-- an item brings a value to know: it is the origin's first INIT, or its sender's first VALUE
abbrev pub brings : Place → List Call → Item → Bool
brings at h x =
    (kind_eq x.kind Init && (x.from == at.slot.origin && is_none (first h x.from Init)))
    || (kind_eq x.kind Value && is_none (first h x.from Value))

-- the value that a call brings to know
abbrev pub brought_by : Place → List Call → Call → Option (List ℕ)
brought_by at h (Start m) = None
brought_by at h (Take x) = if brings at h x then Some x.value else None

-- the value in front, if there is one
abbrev pub cons_if : Option (List ℕ) → List (List ℕ) → List (List ℕ)
cons_if None vs = vs
cons_if (Some v) vs = v ∷ vs

-- the values that were brought
abbrev pub brought_values : Place → List Call → List (List ℕ)
brought_values at [] = []
brought_values at (c ∷ h) = cons_if (brought_by at h c) (brought_values at h)

-- the value, where it has this digest
abbrev pub if_digest : Tags → List ℕ → Option (List ℕ) → Option (List ℕ)
if_digest tags d None = None
if_digest tags d (Some m) = if bytes_eq (tags.digest m) d then Some m else None

-- the first value with this digest that was brought
abbrev pub known : Place → Tags → List Call → List ℕ → Option (List ℕ)
known at tags [] d = None
known at tags (c ∷ h) d = option_or (known at tags h d) (if_digest tags d (brought_by at h c))

-- ---- what is delivered

-- a digest with enough READY voters, and whether its value was known when it had them
pub record Full : Type 0 where
  pub digest : List ℕ
  pub was_known : Bool

-- the digest that is carried after h, if there is one, and whether its value is known by then
abbrev pub full_if : Place → Tags → List Call → Option (List ℕ) → Option Full
full_if at tags h None = None
full_if at tags h (Some d) = Some (record { digest = d; was_known = is_some (known at tags h d) })

-- the digest that is carried, at the shortest prefix with such a digest
abbrev pub full_of : Place → Tags → List Call → Option Full
full_of at tags h = at_shortest (λ b. full_if at tags b (some_carried at.numbers b)) h

-- the digest whose value is asked for: the one that was carried before its value was known
abbrev pub asked_for : Option Full → Option (List ℕ)
asked_for None = None
asked_for (Some full) = if full.was_known then None else Some full.digest

-- the known value of a digest, if there is one
abbrev pub known_of : Place → Tags → List Call → Option (List ℕ) → Option (List ℕ)
known_of at tags h None = None
known_of at tags h (Some d) = known at tags h d

-- the digest that is carried, if there is one
abbrev pub digest_in : Option Full → Option (List ℕ)
digest_in None = None
digest_in (Some full) = Some full.digest

-- what is delivered: the known value of the digest that is carried
abbrev pub out_by_digest : Place → Tags → List Call → Option (List ℕ)
out_by_digest at tags h = known_of at tags h (digest_in (full_of at tags h))

-- ---- what is due

-- VALUE to one replica, if there is a value
abbrev pub to_one : Slot → ℕ → Option (List ℕ) → List Msg
to_one s k None = []
to_one s k (Some m) = record { to = One k; kind = Value; slot = s; value = m } ∷ []

-- VALUE to another replica, of the digest that it asked for first, where its value is known
abbrev pub value_for : Place → Tags → List Call → ℕ → Option (List ℕ)
value_for at tags h k = if k == at.me then None else known_of at tags h (first h k Want)

-- VALUE to each replica that is to be answered, ascending
abbrev pub values_due : Place → Tags → List Call → List Msg
values_due at tags h = flat_map (λ k. to_one at.slot k (value_for at tags h k)) (replicas at.numbers.n)

-- what is echoed of a value, if there is one
abbrev pub echo_of : (List ℕ → List ℕ) → Option (List ℕ) → Option (List ℕ)
echo_of make None = None
echo_of make (Some m) = Some (make m)

-- INIT of what was started, ECHO of the digest of the origin's first INIT, READY of what is backed, WANT of what is asked for, and
-- VALUE to those who asked
abbrev pub due_by_digest : Place → Tags → List Call → List Msg
due_by_digest at tags h =
    to_all at.slot Init (started h) ++ to_all at.slot Echo (echo_of tags.digest (first h at.slot.origin Init))
    ++ to_all at.slot Ready (ready_value at.numbers h) ++ to_all at.slot Want (asked_for (full_of at tags h)) ++ values_due at tags h

-- the rules of reliable broadcast by digests: it hashes what INIT and VALUE bring, and its items can always be taken
abbrev pub by_digest : BroadcastRules
by_digest = record {
  form = 3;
  due = due_by_digest;
  out = out_by_digest;
  repeats = λ at tags h i. is_some (first h i.from i.kind);
  ready = λ at tags h i. true;
  met = λ at tags h. map (λ m. OfMessage m (tags.digest m)) (brought_values at h);
}
