-- Matrix echo broadcast at one slot, as the calls on a replica's value tell it. Lists of calls have the newest first.
use Rattle.std.specs.Prelude.{ℕ, Bool, false, not, ◌==◌, ◌&&◌, ◌||◌, List, [], ◌∷◌, ◌++◌, map, take, replicate, Option, Some, None, is_some, nat_le, count_by, if◌then◌else◌}
use Rattle.std.specs.List.{flat_map, list_any}
use Rattle.std.specs.Simd.Lanes.{mask_l}
use Rattle.ritas_base.specs.declared.item.Kind.{Kind}
use Rattle.ritas_base.specs.declared.item.Kind.TheVariants.{Send, Hashes, Column}
use Rattle.ritas_base.specs.declared.item.To.TheVariants.{One}
use Rattle.ritas_base.specs.declared.item.Item.{Item}
use Rattle.ritas_base.specs.declared.item.Msg.{Msg}
use Rattle.ritas_base.specs.declared.slot.Slot.{Slot}
use Rattle.ritas_base.specs.Numbers.{Numbers, quorum_of, wait_of}
use Rattle.ritas_base.specs.History.{Call, Start, Take, first, started, firsts, replicas}
use Rattle.ritas_base.specs.Messages.{Place, kind_eq, to_all}
use Rattle.ritas_base.specs.Tags.{Tags}
use Rattle.frame_codec.specs.Values.{column_bytes}
use Rattle.frame_codec.specs.Body.{is_of_form}
use Rattle.layer_api.specs.Broadcast.{BroadcastRules}
use Rattle.layer_api.specs.Entries.{sent, entries_of, entry_in, is_claim, prints_for}

-- ---- HASHES

-- an entry as it is written: its 32 bytes, and what a tagger answers has as many
abbrev pub as_entry : List ℕ → List ℕ
as_entry e = take 32 (e ++ replicate 32 0)

-- entries, one behind the other
abbrev pub hashes_bytes : List (List ℕ) → List ℕ
hashes_bytes es = flat_map as_entry es

-- HASHES of a message, to the origin: this replica's entries of it, one for each verifier
abbrev pub hashes_for : Place → Tags → Option (List ℕ) → List Msg
hashes_for at tags None = []
hashes_for at tags (Some m) =
    record { to = One at.slot.origin; kind = Hashes; slot = at.slot; value = hashes_bytes (entries_of at tags m) } ∷ []

-- ---- columns

-- the first HASHES of each replica
abbrev pub hashes_in : Place → List Call → List (Option (List ℕ))
hashes_in at h = firsts at.numbers.n h Hashes

-- those whose HASHES are there: bit k stands for replica k
abbrev pub senders_of : List (Option (List ℕ)) → ℕ
senders_of hs = mask_l (map is_some hs)

-- entry k of the HASHES of each that sent some, ascending
abbrev pub rows_for : ℕ → List (Option (List ℕ)) → List (List ℕ)
rows_for k [] = []
rows_for k (None ∷ hs) = rows_for k hs
rows_for k (Some value ∷ hs) = entry_in k value ∷ rows_for k hs

-- the column for replica k
abbrev pub column_for : Slot → List (Option (List ℕ)) → ℕ → Msg
column_for s hs k = record { to = One k; kind = Column; slot = s; value = column_bytes (senders_of hs) (rows_for k hs) }

-- a column for each replica, where n - f sent HASHES
abbrev pub columns_of : Numbers → Slot → List (Option (List ℕ)) → List Msg
columns_of p s hs = if nat_le (wait_of p) (count_by is_some hs) then map (column_for s hs) (replicas p.n) else []

abbrev pub brings_hashes : Call → Bool
brings_hashes (Start m) = false
brings_hashes (Take i) = kind_eq i.kind Hashes

-- the columns at each prefix whose newest call brings HASHES, the longest prefix first
abbrev pub columns_at : Place → List Call → List Msg
columns_at at [] = []
columns_at at (c ∷ h) = (if brings_hashes c then columns_of at.numbers at.slot (hashes_in at (c ∷ h)) else []) ++ columns_at at h

-- the origin's columns; no other replica sends any
abbrev pub columns_due : Place → List Call → List Msg
columns_due at h = if at.me == at.slot.origin then columns_at at h else []

-- ---- what is due and delivered

-- SEND of what was started, HASHES of what was sent here, and the origin's columns
abbrev pub matrix_due : Place → Tags → List Call → List Msg
matrix_due at tags h = to_all at.slot Send (started h) ++ hashes_for at tags (sent at h) ++ columns_due at h

-- whether an echoer is good: a column that was taken has a valid entry of it
abbrev pub is_good : Place → Tags → List Call → ℕ → Bool
is_good at tags [] echoer = false
is_good at tags (Start m ∷ h) echoer = is_good at tags h echoer
is_good at tags (Take x ∷ h) echoer = is_claim at tags h x echoer || is_good at tags h echoer

-- what was sent here, where an echo quorum is good
abbrev pub matrix_out : Place → Tags → List Call → Option (List ℕ)
matrix_out at tags h = if nat_le (quorum_of at.numbers) (count_by (is_good at tags h) (replicas at.numbers.n)) then sent at h else None

-- whether an item makes some echoer good that wasn't
abbrev pub has_news : Place → Tags → List Call → Item → Bool
has_news at tags h x = list_any (λ echoer. is_claim at tags h x echoer && not (is_good at tags h echoer)) (replicas at.numbers.n)

-- a column after its SEND repeats where it makes no echoer good that wasn't, and another item where one of its kind and
-- sender was taken
abbrev pub repeats_one : Place → Tags → List Call → Item → Bool
repeats_one at tags h x =
    if kind_eq x.kind Column then is_some (sent at h) && not (has_news at tags h x) else is_some (first h x.from x.kind)

-- a column can be taken after its SEND, and any other item always
abbrev pub is_ready : Place → List Call → Item → Bool
is_ready at h x = not (kind_eq x.kind Column) || is_some (sent at h)

abbrev pub is_of_echo : Kind → Bool
is_of_echo kind = is_of_form 2 kind

-- the rules of echo broadcast
abbrev pub echo : BroadcastRules
echo = record {
  form = 2;
  due = λ at tags h. matrix_due at tags h;
  out = λ at tags h. matrix_out at tags h;
  repeats = λ at tags h x. repeats_one at tags h x;
  ready = λ at tags h x. is_ready at h x;
  met = λ at tags h. prints_for at tags (sent at h);
}
