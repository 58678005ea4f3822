-- The audit of a world: whether enough replicas are correct, and the first event that breaks a premise.
use Rattle.std.specs.Prelude.{ℕ, Bool, true, false, not, ◌==◌, ◌&&◌, ◌||◌, nat_lt, List, [], ◌∷◌, ◌++◌, length, Option, Some, None, Result, Ok, Err, count_by, if◌then◌else◌}
use Rattle.std.specs.List.{list_any, flat_map}
use Rattle.std.specs.Str.{bytes_eq}
use Rattle.ritas_base.specs.declared.event.Event.{Event}
use Rattle.ritas_base.specs.declared.slot.Slot.{Slot}
use Rattle.ritas_base.specs.declared.item.Item.{Item}
use Rattle.ritas_base.specs.Numbers.{wait_of}
use Rattle.ritas_base.specs.History.{replicas, Call as BroadcastCall}
use Rattle.ritas_base.specs.Messages.{Place}
use Rattle.ritas_base.specs.Slots.{form_of}
use Rattle.ritas_base.specs.SlotOrder.{is_slot}
use Rattle.layer_api.specs.Entries.{given, is_claim, EntryInput, Print, OfMessage, OfEntry, is_hashed, prints_at_kind}
use Rattle.frame_codec.specs.Values.{column_row}
use Rattle.keyed_channel.specs.Keyed.{tags_of}
use Rattle.keyed_channel.specs.Frames.{Opening, opening}
use Rattle.keyed_channel.specs.declared.frame.OpenFault.{OpenFault}
use Rattle.ritas_core.specs.Machine.{CoreState}
use Rattle.ritas_core.specs.Rules.{Rules, place_at}
use Rattle.ritas_core.specs.Parts.{Entry, Took, Given, parts}
use Rattle.replica.specs.Frames.{made_for}
use Rattle.replica.specs.Handling.{ReplicaCall, Frame, Input, Turn}
use Rattle.world_model.specs.declared.audit.Audit.{Audit}
use Rattle.world_model.specs.declared.audit.Audit.TheVariants as audits
use Rattle.world_model.specs.World.{Setting, rules_at, CallAt, call_of, handled_at, states_of, states_before}

-- whether replica i made the frame for j
abbrev pub has_made : Setting → (ℕ → CoreState) → ℕ → ℕ → List ℕ → Bool
has_made w states i j bytes = list_any (bytes_eq bytes) (made_for (rules_at w i) (w.keys i) (states i).history j)

-- whether bytes that open so at j open as from a correct replica that hadn't made them
abbrev pub is_forged_opening : Setting → (ℕ → CoreState) → ℕ → List ℕ → Result Opening OpenFault → Bool
is_forged_opening w states j bytes (Err fault) = false
is_forged_opening w states j bytes (Ok o) = w.is_correct o.from && not (has_made w states o.from j bytes)

abbrev pub is_forged_call : Setting → (ℕ → CoreState) → ℕ → ReplicaCall → Bool
is_forged_call w states j (Frame bytes) = is_forged_opening w states j bytes (opening (w.keys j) bytes)
is_forged_call w states j (Input bytes) = false
is_forged_call w states j Turn = false

-- the item that a call made a replica take, by its history before and after: the newest entry, where that is one more
abbrev pub newest_item : List Entry → List Entry → Option Item
newest_item before [] = None
newest_item before (Given v ∷ h) = None
newest_item before (Took x ∷ h) = if length h == length before then Some x else None

abbrev pub taken_by : Setting → (ℕ → CoreState) → CallAt → Option Item
taken_by w states c = newest_item (states c.at).history (handled_at w states c).state.history

-- the calls that the broadcast of a slot had at replica i
abbrev pub calls_at : Setting → (ℕ → CoreState) → ℕ → Slot → List BroadcastCall
calls_at w states i s = (parts (rules_at w i) (states i).history).calls s

abbrev pub place_in : Setting → ℕ → Slot → Place
place_in w i s = place_at (rules_at w i).casts s

-- the entries that replica i gave at a slot
abbrev pub given_by : Setting → (ℕ → CoreState) → ℕ → Slot → List (List ℕ)
given_by w states i s = given (place_in w i s) (tags_of (w.keys i)) (calls_at w states i s)

abbrev pub is_among : List (List ℕ) → Option (List ℕ) → Bool
is_among entries None = false
is_among entries (Some entry) = list_any (bytes_eq entry) entries

-- whether an item that replica j takes claims a correct echoer that hadn't given the entry
abbrev pub is_made_up : Setting → (ℕ → CoreState) → ℕ → Item → ℕ → Bool
is_made_up w states j x echoer =
    w.is_correct echoer
    && (is_claim (place_in w j x.slot) (tags_of (w.keys j)) (calls_at w states j x.slot) x echoer
    && not (is_among (given_by w states echoer x.slot) (column_row x.value echoer)))

abbrev pub is_forged_item : Setting → (ℕ → CoreState) → ℕ → Option Item → Bool
is_forged_item w states j None = false
is_forged_item w states j (Some x) = list_any (is_made_up w states j x) (replicas w.numbers.n)

abbrev pub is_forged_at : Setting → (ℕ → CoreState) → Option CallAt → Bool
is_forged_at w states None = false
is_forged_at w states (Some c) = is_forged_call w states c.at c.call || is_forged_item w states c.at (taken_by w states c)

-- An event after these forges: it gives a correct replica a frame that opens as from a correct one that hadn't made it,
-- or makes it take a column with a valid entry of a correct echoer that hadn't given it.
abbrev pub is_forged : Setting → List Event → Event → Bool
is_forged w es e = is_forged_at w (states_before w es) (call_of w (states_before w es) e)

-- what a replica hashed of what it took: of each item of a kind that its slot's broadcast hashes
abbrev pub prints_in : Rules → List Entry → List Print
prints_in r [] = []
prints_in r (Given v ∷ h) = prints_in r h
prints_in r (Took x ∷ h) =
    (if is_hashed (form_of r.mode x.slot) x.kind then prints_at_kind (place_at r.casts x.slot) r.casts.tags x.kind x.value else []) ++ prints_in r h

-- what correct replicas hashed
abbrev pub prints_by : Setting → (ℕ → CoreState) → ℕ → List Print
prints_by w states i = if w.is_correct i then prints_in (rules_at w i) (states i).history else []

abbrev pub prints_at : Setting → (ℕ → CoreState) → List Print
prints_at w states = flat_map (prints_by w states) (replicas w.numbers.n)

-- two things hashed that differ have one image: two messages, or the inputs of two entries
abbrev pub is_same_input : EntryInput → EntryInput → Bool
is_same_input x y = (is_slot x.slot y.slot && (x.echoer == y.echoer && x.verifier == y.verifier)) && bytes_eq x.digest y.digest

abbrev pub clashes : Print → Print → Bool
clashes (OfMessage m d) (OfMessage v e) = bytes_eq d e && not (bytes_eq m v)
clashes (OfEntry x d) (OfEntry y e) = bytes_eq d e && not (is_same_input x y)
clashes (OfMessage m d) (OfEntry y e) = false
clashes (OfEntry x d) (OfMessage v e) = false

abbrev pub collide : List Print → Bool
collide prints = list_any (λ a. list_any (clashes a) prints) prints

-- what correct replicas hashed of what they took in these events collides
abbrev pub is_colliding : Setting → List Event → Bool
is_colliding w es = collide (prints_at w (states_of w es))

-- an event that forges is named before one that collides
abbrev pub broken_by : Bool → Bool → ℕ → Audit
broken_by true collided k = audits.Forged k
broken_by false true k = audits.Collision k
broken_by false false k = audits.Holds

abbrev pub judged : Audit → Audit → Audit
judged audits.Holds now = now
judged audits.TooManyFaulty now = audits.TooManyFaulty
judged (audits.Forged j) now = audits.Forged j
judged (audits.Collision j) now = audits.Collision j

-- the first event that breaks a premise: its number is that of the events before it
unfoldable pub first_broken : Setting → List Event → Audit
first_broken w [] = audits.Holds
first_broken w (e ∷ es) = judged (first_broken w es) (broken_by (is_forged w es e) (is_colliding w (e ∷ es)) (length es))

-- whether more than f replicas are faulty
abbrev pub has_too_many : Setting → Bool
has_too_many w = nat_lt (count_by w.is_correct (replicas w.numbers.n)) (wait_of w.numbers)

abbrev pub audit_of : Setting → List Event → Audit
audit_of w es = if has_too_many w then audits.TooManyFaulty else first_broken w es
