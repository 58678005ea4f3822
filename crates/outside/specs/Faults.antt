-- The count of faults of a source, a sink or a disk, and what a fault says of it.
use Rattle.std.specs.Prelude.{◌≡◌, ℕ, ◌+◌, ◌-◌, ◌^◌, ◌<◌, ◌≤◌, ◌⊎◌, min, Result, OnOk, is_err, if◌then◌else◌}

-- a count goes up to this number, and then stands
abbrev pub last_count : ℕ
last_count = 2 ^ 64 - 1

-- a count after one more
abbrev pub count_after : ℕ → ℕ
count_after n = min (n + 1) last_count

-- a count of faults after a call that fails at every error
abbrev pub counted : {A E : Type 0} → ℕ → Result A E → ℕ
counted n result = if is_err result then count_after n else n

-- the count rose, or stands at its last value
abbrev pub Rose : ℕ → ℕ → Type 0
Rose before now = (before < now) ⊎ (last_count ≤ now)

-- the count didn't fall, and where the call failed, it rose
pub record HasCause (before now : ℕ) (failed : Type 0) : Type 0 where
  pub later : before ≤ now
  pub cause : failed → Rose before now

-- Where this call failed, one call of a sink or a disk did, and else none did. So none did at Ok.
pub record CountsFault {A E : Type 0} (before now : ℕ) (result : Result A E) (failed : Type 0) : Type 0 where
  pub stands : OnOk result (now ≡ before)
  pub rises : failed → now ≡ count_after before
  pub others : ¬ failed → now ≡ before
