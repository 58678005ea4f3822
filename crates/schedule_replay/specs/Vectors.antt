-- The vectors text of a schedule, of root service 5 or 6: its lines, and that they agree. Lists of events have the newest first.
use Rattle.std.specs.Prelude.{◌≡◌, ◌≢◌, ℕ, Bool, true, List, ◌++◌, filter, codes, decimal, Option, Some, None}
use Rattle.std.specs.List.{flat_map, range_with_len}
use Rattle.hex.specs.Hex.{encode_lower}
use Rattle.ritas_base.specs.declared.event.Event.{Event}
use Rattle.layer_api.specs.Service.{LastVector, Spent, Ending, Decided}
use Rattle.ritas_core.specs.Rules.{Rules, seat_of}
use Rattle.ritas_core.specs.Parts.{Entry, parts}
use Rattle.schedule_file.specs.declared.header.Header.{Header}
use Rattle.world_model.specs.declared.audit.Audit.TheVariants.{Holds}
use Rattle.world_model.specs.Agree.{outcome_of, last_vector_at}
use Rattle.world_model.specs.Audit.{audit_of}
use Rattle.world_model.specs.World.{Setting}
use Rattle.schedule_replay.specs.Layers.{setting_of}
use Rattle.schedule_replay.specs.Report.{end_of_line, audit_line}

-- what a line says of its replica: that its attempts are spent, the last vector that it decided, or that it decided none
pub data LineSays : Type 0 where
  SaysSpent : LineSays
  SaysVector : LastVector → LineSays
  SaysUndecided : LineSays

abbrev pub last_says : Option LastVector → LineSays
last_says (Some x) = SaysVector x
last_says None = SaysUndecided

-- by what became of its instance, and its last vector
abbrev pub line_says : Ending → Option LastVector → LineSays
line_says (Decided Spent) last = SaysSpent
line_says ending last = last_says last

-- the line of a replica: of a vector its round, the attempt that decided it, and its value
abbrev pub vector_line : ℕ → LineSays → List ℕ
vector_line i SaysSpent = codes "vector " ++ (decimal i ++ (codes " spent" ++ end_of_line))
vector_line i (SaysVector x) =
    codes "vector " ++ (decimal i ++ (codes " " ++ (decimal x.round ++ (codes " " ++ (decimal x.attempt ++ (codes " " ++ (encode_lower x.value ++ end_of_line)))))))
vector_line i SaysUndecided = codes "vector " ++ (decimal i ++ (codes " undecided" ++ end_of_line))

-- the line of a replica with this history
abbrev pub vector_line_of : ℕ → Rules → List Entry → List ℕ
vector_line_of i r h = vector_line i (line_says (r.service.outcome (seat_of r) (parts r h).words) (r.service.last (seat_of r) (parts r h).words))

-- what the line of replica i says, after these events of a world
abbrev pub says_at : Setting → List Event → ℕ → LineSays
says_at w es i = line_says (outcome_of w es i) (last_vector_at w es i)

-- the lines of those of n replicas that are correct, by what each says
abbrev pub vector_lines : (ℕ → Bool) → ℕ → (ℕ → LineSays) → List ℕ
vector_lines is_correct n says = flat_map (λ i. vector_line i (says i)) (filter is_correct (range_with_len 0 n))

-- the text of a world after these events
unfoldable pub vectors_on : Setting → List Event → List ℕ
vectors_on w es = vector_lines w.is_correct w.numbers.n (says_at w es) ++ audit_line (audit_of w es)

-- the vectors text of a schedule
abbrev pub vectors_text : Header → List Event → List ℕ
vectors_text h es = vectors_on (setting_of h) es

-- A text is a line for each correct replica of n, ascending, and the line of an audit that holds. No line says that the attempts are
-- spent, and lines with vectors of one round are equal but for the replica's number.
pub record VectorsAgree (is_correct : ℕ → Bool) (n : ℕ) (text : List ℕ) : Type 0 where
  pub says : ℕ → LineSays
  pub lines : text ≡ vector_lines is_correct n says ++ audit_line Holds
  pub unspent : (i : ℕ) → is_correct i ≡ true → says i ≢ SaysSpent
  pub alike : (i j : ℕ) (x y : LastVector) → is_correct i ≡ true → is_correct j ≡ true → says i ≡ SaysVector x → says j ≡ SaysVector y
      → x.round ≡ y.round → says i ≡ says j
