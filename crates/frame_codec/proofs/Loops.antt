-- The two loops: over identifiers, and over entries.
use Rattle.std.proofs.Common.{◌≡◌, ℕ, zero, suc, Bool, true, false, cond, ◌+◌, ◌≤◌, ◌/◌, arith, List, Result, Ok, refl, sym, ◌∙◌}
use Rattle.ritas_base.specs.declared.id.Id.{Id}
use Rattle.ritas_base.specs.Slots.{is_atomic}
use Rattle.frame_codec.specs.declared.ids.Run.{Run}
use Rattle.frame_codec.specs.Format.{Format, Done, Block, ◌>>=◌, read}
use Rattle.frame_codec.specs.Grammar.{any, no_ids, has_origin, with_id, id_at, ids_from, entry, times}
use Rattle.frame_codec.proofs.Formats.{IsOpen, IsLoop, bind_assoc, read_ids, read_times}

abbrev pub id_step : ℕ → Run × List ℕ → Result (Run × List ℕ) ℕ
id_step n s = id_at n s.0 s.1 >>= λ y. Ok (with_id s.0 y.0, y.1)

abbrev pub ids_left : ℕ → ℕ → Run × List ℕ → Result (List ℕ) ℕ
ids_left n count s = read (ids_from n count s.0) s.1

pub ids_loop : (n : ℕ) → IsLoop (id_step n) (ids_left n)
ids_loop n = record {
  more = λ k s. read_ids n k s.0 s.1 ∙ sym (bind_assoc (id_at n s.0 s.1) (λ y. Ok (with_id s.0 y.0, y.1)) (ids_left n k));
}

pub ids_open : (n count : ℕ) (run : Run) → IsOpen (ids_from n count run)
unfolding ids_from
ids_open n zero run = tt
ids_open n (suc count) run = λ b. ids_open n count _

choice_open : (t : Bool) (a b : Format) → IsOpen a → IsOpen b → IsOpen (cond t a b)
choice_open true a b x y = x
choice_open false a b x y = y

pub entry_open : (n root : ℕ) → IsOpen (entry n root)
unfolding entry
entry_open n root = λ (len : ℕ). choice_open (is_atomic root) (ids_from n (len / 5) (no_ids n)) (Block len any (λ _. Done)) (ids_open n (len / 5) (no_ids n)) (λ b. tt)

abbrev pub entries_left : ℕ → ℕ → ℕ → List ℕ → Result (List ℕ) ℕ
entries_left n root count bytes = read (times count (entry n root)) bytes

pub entries_loop : (n root : ℕ) → IsLoop (read (entry n root)) (entries_left n root)
entries_loop n root = record { more = λ k bytes. read_times k (entry n root) bytes (entry_open n root) }

pub ids_end : (n : ℕ) (s : Run × List ℕ) → ids_left n 0 s ≡ Ok s.1
unfolding ids_from
ids_end n s = refl

pub entries_end : (n root : ℕ) (bytes : List ℕ) → entries_left n root 0 bytes ≡ Ok bytes
unfolding times
entries_end n root bytes = refl

-- no more have the last origin than there are
within_by : (t : Bool) (same total : ℕ) → same ≤ total → cond t (same + 1) 1 ≤ total + 1
within_by true same total le = omega arith
within_by false same total le = omega arith

pub with_within : (run : Run) (x : Id) → run.same ≤ run.total → (with_id run x).same ≤ (with_id run x).total
with_within run x le = within_by (has_origin run.last x) run.same run.total le
