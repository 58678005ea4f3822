-- The time that passes, as a clock of the system shows it or else as it is counted by waits, and what is due by then. All times are in microseconds.
use Rattle.std.specs.Prelude.{◌≡◌, ◌↔◌, ◌<◌, ℕ, ◌+◌, ◌*◌, ◌/◌, ◌^◌, ◌-◌, ◌≤◌, Bool, true, false, min, nat_le, List, [], ◌∷◌, length, Option, Some, None, is_some, unwrap_or, if◌then◌else◌}
use Rattle.std.specs.List.{AllByRecursion}
use Rattle.tcp_link.specs.Limits.{pause_microseconds, look_microseconds, first_wait_microseconds, longest_wait_microseconds, short_wait_microseconds}
use Rattle.tcp_link.specs.declared.clock.Clock.{Clock}
use Rattle.tcp_link.specs.declared.dials.Dial.{Dial}
use Rattle.tcp_link.specs.declared.retries.Retry.{Retry}
use Rattle.tcp_link.specs.declared.retries.Retry.TheVariants as retries
use Rattle.tcp_link.specs.declared.retries.Waiting.{Waiting}

-- a number of 64 bits: a greater one is the greatest
abbrev pub capped_64 : ℕ → ℕ
capped_64 n = min n (2 ^ 64 - 1)

-- so much more was counted
abbrev pub with_counted : Clock → ℕ → Clock
with_counted c more = record c { counted_microseconds = capped_64 (c.counted_microseconds + more) }

-- What a link does counts as a short wait where no clock was read: one read, one connection that came in, one piece that is given. Where one was, it
-- shows how long that took.
abbrev pub after_work : Clock → Clock
after_work c = if is_some c.shown_microseconds then c else with_counted c short_wait_microseconds

-- nothing was counted yet, no clock was read, and the first wait is the shortest that a poll can make
abbrev pub first_clock : Clock
first_clock = record { counted_microseconds = 0; wait_microseconds = first_wait_microseconds; shown_microseconds = None }

-- what a wait counts where no clock tells: a quiet one lasted as long as it was to, and one that an event ended counts little
abbrev pub guessed : Clock → Bool → ℕ
guessed c is_quiet = if is_quiet then c.wait_microseconds else short_wait_microseconds

-- what passed between two readings of a clock, where it showed something at both
abbrev pub passed : Option ℕ → Option ℕ → Option ℕ
passed None shown = None
passed (Some before) None = None
passed (Some before) (Some now) = Some (now - before)

-- how long the wait after this one is: after a quiet one twice as long, up to the longest, and else as a first one
abbrev pub next_wait : Clock → Bool → ℕ
next_wait c is_quiet = if is_quiet then min (2 * c.wait_microseconds) longest_wait_microseconds else first_wait_microseconds

-- After a wait, which ended quietly or by an event, and what the clock shows then, if it can be read: what passed since it was read last is counted, all
-- that was done meanwhile with it, and else what is guessed.
abbrev pub after_wait : Clock → Bool → Option ℕ → Clock
after_wait c is_quiet shown = record {
  counted_microseconds = capped_64 (c.counted_microseconds + unwrap_or (passed c.shown_microseconds shown) (guessed c is_quiet));
  wait_microseconds = next_wait c is_quiet;
  shown_microseconds = shown;
}

-- how a wait ended, and what the clock showed then
pub record WaitEnd : Type 0 where
  pub is_quiet : Bool
  pub shown : Option ℕ

-- after these waits, of which the oldest is the first
abbrev pub after_waits : Clock → List WaitEnd → Clock
after_waits c [] = c
after_waits c (w ∷ waits) = after_waits (after_wait c w.is_quiet w.shown) waits

-- when a connection is looked at again
abbrev pub look_due_microseconds : Clock → ℕ
look_due_microseconds c = capped_64 (c.counted_microseconds + look_microseconds)

-- when something is due that is to be tried again
abbrev pub retry_due_microseconds : Clock → ℕ
retry_due_microseconds c = capped_64 (c.counted_microseconds + pause_microseconds)

-- the connection of this token is looked at again
abbrev pub look_again : Clock → ℕ → Bool → List Waiting
look_again c token false = []
look_again c token true = (record { due_microseconds = look_due_microseconds c; retry = retries.Look token }) ∷ []

-- a pause is made before the node of this token is written to
abbrev pub rest_again : Clock → ℕ → Bool → List Waiting
rest_again c token false = []
rest_again c token true = (record { due_microseconds = retry_due_microseconds c; retry = retries.Rest token }) ∷ []

-- a dial that comes again
abbrev pub redial : Clock → Option Dial → List Waiting
redial c None = []
redial c (Some dial) = (record { due_microseconds = retry_due_microseconds c; retry = retries.Dial dial }) ∷ []

-- the first that waits, if it is due
abbrev pub due_in : Clock → List Waiting → Option Retry
due_in c [] = None
due_in c (w ∷ ws) = if nat_le w.due_microseconds c.counted_microseconds then Some w.retry else None

-- and what waits then
abbrev pub left_in : Clock → List Waiting → List Waiting
left_in c [] = []
left_in c (w ∷ ws) = if nat_le w.due_microseconds c.counted_microseconds then ws else w ∷ ws

-- the first that is due of two lists: what is tried again comes before what is looked at
abbrev pub first_retry : Clock → List Waiting → List Waiting → Option Retry
first_retry c soon late = if is_some (due_in c soon) then due_in c soon else due_in c late

-- and what waits to be looked at then
abbrev pub late_of : Clock → List Waiting → List Waiting → List Waiting
late_of c soon late = if is_some (due_in c soon) then late else left_in c late

-- how long to wait: without end where nothing is to be tried again or to be looked at
abbrev pub microseconds_to_wait : Clock → List Waiting → List Waiting → Option ℕ
microseconds_to_wait c [] [] = None
microseconds_to_wait c (w ∷ ws) late = Some c.wait_microseconds
microseconds_to_wait c [] (w ∷ ws) = Some c.wait_microseconds

-- so many waits count as much as a pause, however they end: 2,000
abbrev pub waits_of_pause : ℕ
waits_of_pause = pause_microseconds / short_wait_microseconds

-- a pause ends without a clock: what is added is due after so many waits at the latest, however they end, where the first of them isn't shorter than
-- what an event counts
abbrev pub PauseEnds : Type 0
PauseEnds = (c : Clock) (waits : List WaitEnd) → AllByRecursion (λ w. w.shown ≡ None) waits → short_wait_microseconds ≤ c.wait_microseconds
    → waits_of_pause ≤ length waits → retry_due_microseconds c ≤ (after_waits c waits).counted_microseconds

-- from one reading of a clock to another, it was read after each of these waits, and never went back
abbrev pub ShowsFrom : ℕ → List WaitEnd → ℕ → Type 0
ShowsFrom before [] last = before ≡ last
ShowsFrom before (w ∷ waits) last = (now : ℕ) × (w.shown ≡ Some now) × (before ≤ now) × ShowsFrom now waits last

-- with a clock exactly what it shows is counted, however many waits there were, and however they ended
abbrev pub ShownIsCounted : Type 0
ShownIsCounted = (c : Clock) (before last : ℕ) (waits : List WaitEnd) → c.shown_microseconds ≡ Some before → c.counted_microseconds < 2 ^ 64
    → ShowsFrom before waits last → (after_waits c waits).counted_microseconds ≡ capped_64 (c.counted_microseconds + (last - before))

-- so what is tried again is due as soon as the clock shows that a pause passed, and no sooner
abbrev pub PauseIsShown : Type 0
PauseIsShown = (c : Clock) (before last : ℕ) (waits : List WaitEnd) → c.shown_microseconds ≡ Some before → ShowsFrom before waits last
    → c.counted_microseconds + pause_microseconds + last < 2 ^ 64
    → (retry_due_microseconds c ≤ (after_waits c waits).counted_microseconds) ↔ (before + pause_microseconds ≤ last)
