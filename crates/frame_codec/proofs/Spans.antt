-- A format takes no more than so many bytes up to its end or a fault, so the offset of a fault is small.
use Rattle.std.proofs.Common.{◌≡◌, ℕ, zero, suc, ◌-◌, ◌+◌, ◌*◌, ◌/◌, ◌%◌, ◌&&◌, ◌^◌, ◌<◌, ◌≤◌, Bool, true, false, cond, ltb, leb, eqb, List, [], length, take, drop, Result, Ok, Err, refl, subst, arith, lit≤}
use Rattle.std.specs.Int.{w32, byte_len, from_be_bytes}
use Rattle.std.specs.Int.RustNames.{count_ones}
use Rattle.std.proofs.lemmas.Bool.{ltb-false, ltb-true, leb-true, and_parts}
use Rattle.std.proofs.lemmas.List.{length-drop}
use Rattle.std.proofs.lemmas.Nat.{ones-le}
use Rattle.ritas_base.specs.Numbers.{Numbers, IsSession, wait_of, support_of}
use Rattle.ritas_base.specs.declared.slot.Slot.{Slot}
use Rattle.ritas_base.specs.declared.item.Kind.{Kind}
use Rattle.ritas_base.specs.declared.item.Kind.TheVariants as kinds
use Rattle.ritas_base.specs.declared.item.Item.{Item}
use Rattle.ritas_base.specs.declared.mode.Mode.{Mode}
use Rattle.ritas_base.specs.Limits.{number_limit, least_request, longest_input}
use Rattle.frame_codec.specs.Limits.{most_ids, longest_ids, longest_entry}
use Rattle.frame_codec.specs.declared.ids.Run.{Run}
use Rattle.ritas_base.specs.Slots.{form_of, is_atomic}
use Rattle.frame_codec.specs.Body.{IsInGrammar}
use Rattle.frame_codec.specs.Inputs.{input_format}
use Rattle.frame_codec.proofs.Formats.{is_read}
use Rattle.frame_codec.specs.Format.{Format, Done, Number, Block, Plain, Left, ◌>>◌, ◌>>=◌, read}
use Rattle.frame_codec.specs.Grammar.{carries_digest, digest, any, id_of, run_of, no_ids, with_id, comes_after, ids_from, ids, any_ids, is_places, entry, times, vector, class1, class2, class3, vect, bit, value, hashes, column, payload}

abbrev pub IsShort : ℕ → Format → Type 0
IsShort k Done = Unit {0}
IsShort k (Number w good next) = (byte_len w ≤ k) × ((x : ℕ) → good x ≡ true → IsShort (k - byte_len w) (next x))
IsShort k (Block len good next) = (len ≤ k) × ((x : List ℕ) → good x ≡ true → IsShort (k - len) (next x))
IsShort k (Plain low high) = (low ≤ k) × (high ≤ k)
IsShort k (Left next) = (len : ℕ) → IsShort k (next len)

abbrev pub Spans : ℕ → ℕ → Result (List ℕ) ℕ → Type 0
Spans k len (Ok rest) = (length rest ≤ len) × (len ≤ length rest + k)
Spans k len (Err left) = (left ≤ len) × (len ≤ left + k)

weaker : (k w len : ℕ) (r : Result (List ℕ) ℕ) → w ≤ k → w ≤ len → Spans (k - w) (len - w) r → Spans k len r
weaker k w len (Ok rest) a b s = (omega arith, omega arith)
weaker k w len (Err left) a b s = (omega arith, omega arith)

step : {A : Type 0} (short ok : Bool) (k w : ℕ) (bytes : List ℕ) (v : A) (f : A × List ℕ → Result (List ℕ) ℕ) → w ≤ k
    → (short ≡ true → length bytes < w) → (short ≡ false → w ≤ length bytes) → (ok ≡ true → Spans (k - w) (length (drop w bytes)) (f (v, drop w bytes)))
    → Spans k (length bytes) (cond short (Err 0) (cond ok (Ok (v, drop w bytes)) (Err (length bytes))) >>= f)
step true ok k w bytes v f fit s l more = let lt = s refl in (omega arith, omega arith)
step false true k w bytes v f fit s l more =
    weaker k w (length bytes) (f (v, drop w bytes)) fit (l refl) (subst (λ (n : ℕ). Spans (k - w) n (f (v, drop w bytes))) (length-drop w bytes) (more refl))
step false false k w bytes v f fit s l more = (omega arith, omega arith)

limits : (short long : Bool) (k low high len : ℕ) → low ≤ k → high ≤ k → (short ≡ true → len < low) → (long ≡ false → len ≤ high) → Spans k len (cond short (Err 0) (cond long (Err (len - high)) (Ok [])))
limits true long k low high len a b s l = let lt = s refl in (omega arith, omega arith)
limits false true k low high len a b s l = (omega arith, omega arith)
limits false false k low high len a b s l = let le = l refl in (omega arith, omega arith)

pub short_spans : (format : Format) (k : ℕ) (bytes : List ℕ) → IsShort k format → Spans k (length bytes) (read format bytes)
short_spans Done k bytes is = (omega arith, omega arith)
short_spans (Number w good next) k bytes (fit, more) =
    step (ltb (length bytes) (byte_len w)) (good (from_be_bytes w (take (byte_len w) bytes))) k (byte_len w) bytes (from_be_bytes w (take (byte_len w) bytes))
    (λ x. read (next x.0) x.1) fit (ltb-true _ _) (ltb-false _ _)
    (λ ok. short_spans (next (from_be_bytes w (take (byte_len w) bytes))) (k - byte_len w) (drop (byte_len w) bytes) (more (from_be_bytes w (take (byte_len w) bytes)) ok))
short_spans (Block len good next) k bytes (fit, more) =
    step (ltb (length bytes) len) (good (take len bytes)) k len bytes (take len bytes)
    (λ x. read (next x.0) x.1) fit (ltb-true _ _) (ltb-false _ _)
    (λ ok. short_spans (next (take len bytes)) (k - len) (drop len bytes) (more (take len bytes) ok))
short_spans (Plain low high) k bytes is =
    limits (ltb (length bytes) low) (ltb high (length bytes)) k low high (length bytes) is.0 is.1 (ltb-true _ _) (ltb-false _ _)
short_spans (Left next) k bytes is = short_spans (next (length bytes)) k bytes (is (length bytes))

-- ---- the formats of payloads

choice_short : (t : Bool) (k : ℕ) (a b : Format) → IsShort k a → IsShort k b → IsShort k (cond t a b)
choice_short true k a b x y = x
choice_short false k a b x y = y

wide : (format : Format) (j k : ℕ) → j ≤ k → IsShort j format → IsShort k format
wide Done j k le is = tt
wide (Number w good next) j k le (fit, more) = (omega (arith, fit), λ x ok. wide (next x) (j - byte_len w) (k - byte_len w) (omega arith) (more x ok))
wide (Block len good next) j k le (fit, more) = (omega (arith, fit), λ x ok. wide (next x) (j - len) (k - len) (omega arith) (more x ok))
wide (Plain low high) j k le is = (omega (arith, is.0), omega (arith, is.1))
wide (Left next) j k le is = λ len. wide (next len) j k le (is len)

then_short : (a : Format) (k j : ℕ) (b : Format) → IsShort k a → IsShort j b → IsShort (k + j) (a >> b)
unfolding ◌>>◌
then_short Done k j b x y = wide b j (k + j) (omega arith) y
then_short (Number w good next) k j b (fit, more) y =
    (omega (arith, fit), λ v ok. wide (next v >> b) (k - byte_len w + j) (k + j - byte_len w) (omega (arith, fit)) (then_short (next v) (k - byte_len w) j b (more v ok) y))
then_short (Block len good next) k j b (fit, more) y =
    (omega (arith, fit), λ v ok. wide (next v >> b) (k - len + j) (k + j - len) (omega (arith, fit)) (then_short (next v) (k - len) j b (more v ok) y))
then_short (Plain low high) k j b x y = (omega (arith, x.0), omega (arith, x.1))
then_short (Left next) k j b x y = λ len. then_short (next len) k j b (x len) y

times_short : (count : ℕ) (format : Format) (w : ℕ) → IsShort w format → IsShort (count * w) (times count format)
unfolding times
times_short zero format w is = tt
times_short (suc count) format w is =
    wide (format >> times count format) (w + count * w) (suc count * w) (omega arith) (then_short format w (count * w) (times count format) is (times_short count format w is))

ids_short : (n count : ℕ) (run : Run) (k : ℕ) → 5 ≤ k → 325 ≤ k + 5 * run.total → IsShort k (ids_from n count run)
unfolding ids_from
ids_short n zero run k five enough = tt
ids_short n (suc count) run k five enough = (
  five,
  λ b ok.
      let parts = and_parts (ltb (id_of b).origin n) (ltb (id_of b).num number_limit && (ltb run.total most_ids && comes_after run.share run.last run.same (id_of b))) ok in
      let others = and_parts (ltb (id_of b).num number_limit) (ltb run.total most_ids && comes_after run.share run.last run.same (id_of b)) parts.1 in
      let few : run.total < most_ids = ltb-true _ _ (and_parts (ltb run.total most_ids) (comes_after run.share run.last run.same (id_of b)) others.1).0 in
      ids_short n count (with_id run (id_of b)) (k - 5) (omega arith) (omega arith),
)

len_most : (t : Bool) (len : ℕ) → cond t (leb 5 len && leb len longest_ids && eqb (len % 5) 0) (leb 1 len && leb len longest_entry) ≡ true → len ≤ 512
len_most true len e =
    let a = and_parts (leb 5 len && leb len longest_ids) (eqb (len % 5) 0) e in
    let b = and_parts (leb 5 len) (leb len longest_ids) a.0 in
    omega (arith, leb-true len longest_ids b.1)
len_most false len e =
    let b = and_parts (leb 1 len) (leb len longest_entry) e in
    leb-true len 512 b.1

entry_short : (n root : ℕ) → IsShort 514 (entry n root)
unfolding entry
entry_short n root = (
  lit≤ tt,
  λ len ok.
      choice_short (is_atomic root) 512 (ids_from n (len / 5) (no_ids n)) (Block len any (λ _. Done)) (ids_short n (len / 5) (no_ids n) 512 (lit≤ tt) (lit≤ tt)) (len_most (is_atomic root) len ok, λ x y. tt),
)

vector_short : (p : Numbers) (root : ℕ) → IsSession p → IsShort 15938 (vector p root)
unfolding vector
vector_short p root is = (
  lit≤ tt,
  λ mask ok.
      let below : mask < 2 ^ p.n = ltb-true mask (2 ^ p.n) (and_parts (ltb mask (2 ^ p.n)) (leb (wait_of p) (count_ones mask)) ok).0 in
      let few : count_ones mask ≤ p.n = ones-le p.n mask below in
      wide (times (count_ones mask) (entry p.n root)) (count_ones mask * 514) 15934 (omega (arith, is.most)) (times_short (count_ones mask) (entry p.n root) 514 (entry_short p.n root)),
)

class2_short : (p : Numbers) (root : ℕ) → IsShort 15942 (class2 p root)
unfolding class2 ids
class2_short p root = choice_short (is_atomic root) 15942 (ids p.n) (Plain 1 longest_entry) (λ len. ids_short p.n ((len - 1) / 5 + 1) (no_ids p.n) 15942 (lit≤ tt) (lit≤ tt)) (lit≤ tt, lit≤ tt)

any_short : (n : ℕ) → IsShort 15938 (any_ids n)
unfolding any_ids
any_short n = λ len. ids_short n ((len + 4) / 5) (run_of most_ids) 15938 (lit≤ tt) (lit≤ tt)

class3_short : (p : Numbers) (root : ℕ) → IsSession p → IsShort 15938 (class3 p root)
unfolding class3
class3_short p root is =
    choice_short (eqb root 4) 15938 (Plain 1 longest_input) _ (lit≤ tt, lit≤ tt)
    (choice_short (eqb root 7) 15938 (any_ids p.n) (vector p root) (any_short p.n) (vector_short p root is))

vect_short : (p : Numbers) (root : ℕ) → IsSession p → IsShort 15942 (vect p root)
unfolding vect
vect_short p root is = λ len.
    choice_short (eqb len 0) 15942 Done (Number w32 (is_places p.n (support_of p)) (λ _. class3 p root)) tt (lit≤ tt, λ mask ok. wide (class3 p root) 15938 15938 (lit≤ tt) (class3_short p root is))

bit_short : (step : ℕ) → IsShort 15942 (bit step)
unfolding bit
bit_short step = (lit≤ tt, λ x ok. tt)

plain_short : (t : Bool) → IsShort 15942 (Plain (cond t least_request 1) longest_input)
plain_short true = (lit≤ tt, lit≤ tt)
plain_short false = (lit≤ tt, lit≤ tt)

class1_short : (root : ℕ) → IsShort 15942 (class1 root)
unfolding class1
class1_short root = plain_short (is_atomic root)

value_short : (p : Numbers) (root : ℕ) (s : Slot) → IsSession p → IsShort 15942 (value p root s)
unfolding value
value_short p root s is =
    choice_short (eqb s.class 1) 15942 (class1 root) _ (class1_short root)
    (choice_short (eqb s.class 2) 15942 (class2 p root) _ (class2_short p root)
    (choice_short (eqb s.class 3) 15942 (class3 p root) _ (wide (class3 p root) 15938 15942 (lit≤ tt) (class3_short p root is))
    (choice_short (eqb s.class 4) 15942 (vect p root) (bit s.step) (vect_short p root is) (bit_short s.step))))

hashes_short : (p : Numbers) → IsSession p → IsShort 15942 (hashes p.n)
unfolding hashes
hashes_short p is = (omega (arith, is.most), λ x ok. tt)

column_short : (p : Numbers) → IsSession p → IsShort 15942 (column p.n)
unfolding column
column_short p is = (
  lit≤ tt,
  λ mask ok.
      let below : mask < 2 ^ p.n = ltb-true mask (2 ^ p.n) (and_parts (ltb mask (2 ^ p.n)) (leb 1 (count_ones mask)) ok).0 in
      let few : count_ones mask ≤ p.n = ones-le p.n mask below in
      (omega (arith, is.most), λ x ok. tt),
)

digest_short : IsShort 15942 digest
unfolding digest
digest_short = (lit≤ tt, λ x ok. tt)

pub payload_short : (p : Numbers) (mode : Mode) (kind : Kind) (s : Slot) → IsSession p → IsShort 15942 (payload p mode kind s)
unfolding payload
payload_short p mode kinds.Hashes s is = hashes_short p is
payload_short p mode kinds.Column s is = column_short p is
payload_short p mode kind s is = choice_short (carries_digest (form_of mode s) kind) 15942 digest (value p mode.root s) digest_short (value_short p mode.root s is)

-- the payload of an item in the grammar is short
pub value_below : (p : Numbers) (mode : Mode) (item : Item) → IsInGrammar p mode item → length item.value ≤ 15942
value_below p mode item is =
    let format = payload p mode item.kind item.slot in
    let spans = short_spans format 15942 item.value (payload_short p mode item.kind item.slot is.session) in
    let s = subst (Spans 15942 (length item.value)) (is_read format item.value is.payload_is) spans in
    omega (arith, s.1)

choice_when : (t : Bool) (k : ℕ) (a b : Format) → (t ≡ true → IsShort k a) → IsShort k b → IsShort k (cond t a b)
choice_when true k a b x y = x refl
choice_when false k a b x y = y

plain_when : (t : Bool) (b : Format) → t ≡ true → IsShort 15942 (cond t (Plain 1 longest_input) b)
plain_when true b e = (lit≤ tt, lit≤ tt)
plain_when false b e = absurd cc

pub input_short : (p : Numbers) (root : ℕ) → IsShort 15942 (input_format p root)
unfolding input_format class3
input_short p root =
    choice_short (eqb root 3) 15942 (bit 1) _ (bit_short 1)
    (choice_when (eqb root 4) 15942 (class3 p root) _ (λ e. plain_when (eqb root 4) _ e)
    (choice_short (eqb root 5) 15942 (class2 p root) (class1 root) (class2_short p root) (class1_short root)))
