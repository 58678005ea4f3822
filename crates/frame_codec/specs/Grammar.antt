-- The formats of payloads.
use Rattle.std.specs.Prelude.{ℕ, zero, suc, ◌+◌, ◌-◌, ◌*◌, ◌/◌, ◌%◌, ◌^◌, Bool, true, false, ◌==◌, ◌&&◌, ◌||◌, nat_lt, nat_le, List, slice_index, drop, Option, Some, None, Result, Ok, if◌then◌else◌}
use Rattle.std.specs.Int.{w8, w16, w32, from_be_bytes}
use Rattle.std.specs.Int.RustNames.{count_ones}
use Rattle.ritas_base.specs.Numbers.{Numbers, wait_of, support_of}
use Rattle.ritas_base.specs.Slots.{within, form_of, is_atomic}
use Rattle.ritas_base.specs.declared.slot.Slot.{Slot}
use Rattle.ritas_base.specs.declared.item.Kind.{Kind}
use Rattle.ritas_base.specs.declared.mode.Mode.{Mode}
use Rattle.ritas_base.specs.declared.item.Kind.TheVariants.{Echo, Ready, Hashes, Column, Want}
use Rattle.ritas_base.specs.declared.id.Id.{Id}
use Rattle.ritas_base.specs.Limits.{number_limit, least_request, longest_input}
use Rattle.frame_codec.specs.Limits.{most_ids, share_of, longest_ids, longest_entry}
use Rattle.frame_codec.specs.declared.ids.Run.{Run}
use Rattle.frame_codec.specs.Format.{Format, Done, Number, Block, Plain, Left, ◌>>◌, ◌>>=◌, block_at}

abbrev pub any : List ℕ → Bool
any bytes = true

-- ---- identifier lists

abbrev pub id_of : List ℕ → Id
id_of bytes = record { origin = slice_index bytes 0; num = from_be_bytes w32 (drop 1 bytes) }

-- before any identifier, where so many may have one origin
abbrev pub run_of : ℕ → Run
run_of share = record { share = share; last = None; same = 0; total = 0 }

-- where each of n origins has an equal share
abbrev pub no_ids : ℕ → Run
no_ids n = run_of (share_of n)

-- whether an identifier may stand behind those so far
abbrev pub comes_after : ℕ → Option Id → ℕ → Id → Bool
comes_after share None same x = true
comes_after share (Some last) same x =
    nat_lt last.origin x.origin || (x.origin == last.origin && (nat_lt last.num x.num && nat_lt same share))

abbrev pub admits : ℕ → Run → Id → Bool
admits n run x =
    nat_lt x.origin n && (nat_lt x.num number_limit && (nat_lt run.total most_ids && comes_after run.share run.last run.same x))

abbrev pub has_origin : Option Id → Id → Bool
has_origin None x = false
has_origin (Some last) x = x.origin == last.origin

abbrev pub with_id : Run → Id → Run
with_id run x = record {
  share = run.share;
  last = Some x;
  same = if has_origin run.last x then run.same + 1 else 1;
  total = run.total + 1;
}

-- the identifier in front, which may stand behind those so far
abbrev pub id_at : ℕ → Run → List ℕ → Result (Id × List ℕ) ℕ
id_at n run bytes = block_at 5 (λ b. admits n run (id_of b)) bytes >>= λ x. Ok (id_of x.0, x.1)

unfoldable pub ids_from : ℕ → ℕ → Run → Format
ids_from n zero run = Done
ids_from n (suc count) run = Block 5 (λ b. admits n run (id_of b)) (λ b. ids_from n count (with_id run (id_of b)))

-- all bytes that are left, in pieces of five; the last may be short, and there is one
unfoldable pub ids : ℕ → Format
ids n = Left (λ len. ids_from n ((len - 1) / 5 + 1) (no_ids n))

-- a list that may have none, and as many of one origin as it has at all
unfoldable pub any_ids : ℕ → Format
any_ids n = Left (λ len. ids_from n ((len + 4) / 5) (run_of most_ids))

-- ---- vectors

-- a mask of at least so many replicas, all below n
abbrev pub is_places : ℕ → ℕ → ℕ → Bool
is_places n least mask = nat_lt mask (2 ^ n) && nat_le least (count_ones mask)

abbrev pub is_entry_len : ℕ → ℕ → Bool
is_entry_len root len = if is_atomic root then within 5 longest_ids len && len % 5 == 0 else within 1 longest_entry len

unfoldable pub entry : ℕ → ℕ → Format
entry n root = Number w16 (is_entry_len root) (λ len. if is_atomic root then ids_from n (len / 5) (no_ids n) else Block len any (λ _. Done))

unfoldable pub times : ℕ → Format → Format
times zero format = Done
times (suc count) format = format >> times count format

unfoldable pub vector : Numbers → ℕ → Format
vector p root = Number w32 (is_places p.n (wait_of p)) (λ mask. times (count_ones mask) (entry p.n root))

-- ---- the values of slots

-- a command; in the root services of atomic broadcast it begins with the client's and the request's number
unfoldable pub class1 : ℕ → Format
class1 root = Plain (if is_atomic root then least_request else 1) longest_input

unfoldable pub class2 : Numbers → ℕ → Format
class2 p root = if is_atomic root then ids p.n else Plain 1 longest_entry

unfoldable pub class3 : Numbers → ℕ → Format
class3 p root = if root == 4 then Plain 1 longest_input else if root == 7 then any_ids p.n else vector p root

-- none, or the places that it came from and a value of class 3
unfoldable pub vect : Numbers → ℕ → Format
vect p root =
    Left (λ len. if len == 0 then Done else Number w32 (is_places p.n (support_of p)) (λ _. class3 p root))

unfoldable pub bit : ℕ → Format
bit step = Number w8 (λ b. nat_lt b (if step == 3 then 3 else 2)) (λ _. Done)

unfoldable pub value : Numbers → ℕ → Slot → Format
value p root s =
    if s.class == 1 then class1 root
    else if s.class == 2 then class2 p root
    else if s.class == 3 then class3 p root
    else if s.class == 4 then vect p root
    else bit s.step

-- ---- payloads

unfoldable pub hashes : ℕ → Format
hashes n = Block (32 * n) any (λ _. Done)

unfoldable pub column : ℕ → Format
column n = Number w32 (is_places n 1) (λ mask. Block (32 * count_ones mask) any (λ _. Done))

-- the kinds that carry a digest where reliable broadcast goes by digests
abbrev pub is_of_digest : Kind → Bool
is_of_digest Echo = true
is_of_digest Ready = true
is_of_digest Want = true
is_of_digest _ = false

-- whether a digest comes with this kind in a broadcast of this form
abbrev pub carries_digest : ℕ → Kind → Bool
carries_digest form kind = form == 3 && is_of_digest kind

unfoldable pub digest : Format
digest = Block 32 any (λ _. Done)

unfoldable pub payload : Numbers → Mode → Kind → Slot → Format
payload p mode Hashes s = hashes p.n
payload p mode Column s = column p.n
payload p mode kind s = if carries_digest (form_of mode s) kind then digest else value p mode.root s
