-- Sources and sinks in memory: what they hold, and what a call does.
use Rattle.std.specs.Prelude.{◌≡◌, ◌↔◌, ◌⊎◌, ℕ, ◌<◌, ◌-◌, List, ◌++◌, length, take, drop, min, Contains, Result, IsErr, IfOk, OnErr}
use Rattle.outside.specs.Faults.{count_after, counted}
use Rattle.outside.specs.declared.source.Failed.{Failed}

-- the numbers of the calls that fail, the number of the next call, and how many calls failed
pub record FailingCalls : Type 0 where
  pub fails : List ℕ
  pub number : ℕ
  pub faults : ℕ

-- before the first call, the count is 0
abbrev pub no_calls : List ℕ → FailingCalls
no_calls fails = record { fails = fails; number = 0; faults = 0 }

-- one call more, which failed or didn't
abbrev pub calls_after : {A : Type 0} → FailingCalls → Result A Failed → FailingCalls
calls_after calls result = record {
  fails = calls.fails;
  number = count_after calls.number;
  faults = counted calls.faults result;
}

-- the next call is one of those that fail
abbrev pub IsFault : FailingCalls → Type 0
IsFault calls = Contains calls.fails calls.number

pub record SourceState : Type 0 where
  pub left : List ℕ
  pub calls : FailingCalls

pub record SinkState : Type 0 where
  pub taken : List ℕ
  pub room : ℕ
  pub calls : FailingCalls

-- what a sink that grows took, and how many of its calls failed
pub record BufferState : Type 0 where
  pub taken : List ℕ
  pub faults : ℕ

-- how many bytes a sink still takes
abbrev pub room_left : SinkState → ℕ
room_left s = s.room - length s.taken

-- A read fails exactly where its number is listed. Else it takes all that the buffer holds of what is left.
pub record ReadsMemory (old new : SourceState) (buf_old buf_new : List ℕ) (result : Result ℕ Failed) : Type 0 where
  pub fails : IsErr result ↔ IsFault old.calls
  pub calls : new.calls ≡ calls_after old.calls result
  pub count : IfOk result (λ k. k ≡ min (length buf_old) (length old.left))
  pub buf : IfOk result (λ k. buf_new ≡ take k old.left ++ drop k buf_old)
  pub left : IfOk result (λ k. new.left ≡ drop k old.left)
  pub same : OnErr result ((buf_new ≡ buf_old) × (new.left ≡ old.left))

-- A write fails exactly where its number is listed, or where it has bytes and no room is left. Else it takes as
-- many of its bytes as there is room for.
pub record WritesMemory (old new : SinkState) (buf : List ℕ) (result : Result ℕ Failed) : Type 0 where
  pub fails : IsErr result ↔ (IsFault old.calls ⊎ ((0 < length buf) × (room_left old ≡ 0)))
  pub calls : new.calls ≡ calls_after old.calls result
  pub room : new.room ≡ old.room
  pub count : IfOk result (λ k. k ≡ min (length buf) (room_left old))
  pub taken : IfOk result (λ k. new.taken ≡ old.taken ++ take k buf)
  pub same : OnErr result (new.taken ≡ old.taken)
