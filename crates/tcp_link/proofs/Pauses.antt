-- Each wait counts at least as much as a short one where no clock is read, so that a pause ends; where one is, what it shows is counted.
use Rattle.std.proofs.Common.{◌≡◌, ℕ, ◌+◌, ◌-◌, ◌*◌, ◌≤◌, Bool, true, false, List, [], ◌∷◌, length, Option, Some, None, refl, arith, ap, ◌∙◌}
use Rattle.std.specs.Prelude.{unwrap_or}
use Rattle.std.specs.List.{AllByRecursion}
use Rattle.tcp_link.specs.Limits.{short_wait_microseconds}
use Rattle.tcp_link.specs.declared.clock.Clock.{Clock}
use Rattle.tcp_link.specs.Waits.{WaitEnd, after_wait, after_waits, capped_64, guessed, next_wait, passed, PauseEnds, ShowsFrom, ShownIsCounted, PauseIsShown}

-- ---- without a clock

waits_on : (c : Clock) (is_quiet : Bool) → short_wait_microseconds ≤ c.wait_microseconds → short_wait_microseconds ≤ next_wait c is_quiet
waits_on c true more = omega (arith, more)
waits_on c false more = omega arith

guess_counts : (c : Clock) (is_quiet : Bool) → short_wait_microseconds ≤ c.wait_microseconds → short_wait_microseconds ≤ guessed c is_quiet
guess_counts c true more = more
guess_counts c false more = omega arith

none_passed : (shown : Option ℕ) → passed shown None ≡ None
none_passed None = refl
none_passed (Some before) = refl

unread : (c : Clock) (w : WaitEnd) → w.shown ≡ None → (after_wait c w.is_quiet w.shown).counted_microseconds ≡ capped_64 (c.counted_microseconds + guessed c w.is_quiet)
unread c w none =
    let passed_none : passed c.shown_microseconds w.shown ≡ None = ap (λ (o : Option ℕ). passed c.shown_microseconds o) none ∙ none_passed c.shown_microseconds in
    ap (λ (o : Option ℕ). capped_64 (c.counted_microseconds + unwrap_or o (guessed c w.is_quiet))) passed_none

counts_all : (c : Clock) (waits : List WaitEnd) → AllByRecursion (λ w. w.shown ≡ None) waits → short_wait_microseconds ≤ c.wait_microseconds
    → capped_64 (c.counted_microseconds + short_wait_microseconds * length waits) ≤ (after_waits c waits).counted_microseconds
counts_all c [] all more = omega arith
counts_all c (w ∷ ws) all more =
    omega (arith, unread c w all.0, guess_counts c w.is_quiet more, counts_all (after_wait c w.is_quiet w.shown) ws all.1 (waits_on c w.is_quiet more))

pub pause_ends : PauseEnds
pause_ends c waits all more many = omega (arith, counts_all c waits all more)

-- ---- with one

later : (before last : ℕ) (waits : List WaitEnd) → ShowsFrom before waits last → before ≤ last
later before last [] same = omega (arith, same)
later before last (w ∷ ws) shows = omega (arith, shows.2, later shows.0 last ws shows.3)

one_shown : (c : Clock) (before now : ℕ) (w : WaitEnd) → c.shown_microseconds ≡ Some before → w.shown ≡ Some now
    → (after_wait c w.is_quiet w.shown).counted_microseconds ≡ capped_64 (c.counted_microseconds + (now - before))
one_shown c before now w was is =
    let both : passed c.shown_microseconds w.shown ≡ Some (now - before) = ap (λ (o : Option ℕ). passed o w.shown) was ∙ ap (λ (o : Option ℕ). passed (Some before) o) is in
    ap (λ (o : Option ℕ). capped_64 (c.counted_microseconds + unwrap_or o (guessed c w.is_quiet))) both

pub shown_is_counted : ShownIsCounted
shown_is_counted c before last [] was low same = omega (arith, same, low)
shown_is_counted c before last (w ∷ ws) was low shows =
    let first = one_shown c before shows.0 w was shows.1 in
    let rest = shown_is_counted (after_wait c w.is_quiet w.shown) shows.0 last ws shows.1 (omega (arith, first)) shows.3 in
    omega (arith, first, rest, shows.2, later shows.0 last ws shows.3)

pub pause_is_shown : PauseIsShown
pause_is_shown c before last waits was shows low =
    let counted = shown_is_counted c before last waits was (omega (arith, low)) shows in
    let le = later before last waits shows in (
      λ due. omega (arith, counted, due, low, le),
      λ passed. omega (arith, counted, passed, low, le),
    )
