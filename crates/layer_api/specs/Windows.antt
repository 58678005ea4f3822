-- The windows of a service: which slots lie in them. `src/windows.rt` has the sizes as constants, and `windows_are` ties each to its
-- definition.
use Rattle.std.specs.Prelude.{ℕ, ◌+◌, Bool, ◌==◌, ◌&&◌, nat_lt, nat_le, if◌then◌else◌}
use Rattle.ritas_base.specs.Versions.{has_past}
use Rattle.ritas_base.specs.declared.mode.FrameVersion.{FrameVersion}
use Rattle.ritas_base.specs.declared.slot.Slot.{Slot}

-- of an origin's commands so many are in the window, from the least on that isn't finished; where there is a past, so
-- many more are kept behind it
abbrev pub command_window : ℕ
command_window = 64

-- where there is a past, so many rounds are kept behind the current one
abbrev pub rounds_kept : ℕ
rounds_kept = 2

-- and so many are taken ahead of it
abbrev pub rounds_ahead : ℕ
rounds_ahead = 4

-- whether a slot lies behind its window, by its origin's least command that isn't finished, or by how many rounds are complete; in
-- a version of which nothing is past none does
abbrev pub lies_behind : FrameVersion → Slot → ℕ → ℕ → Bool
lies_behind version s base completed =
    has_past version && (if s.class == 1 then nat_lt (s.a + command_window) base else nat_lt (s.a + rounds_kept) completed)

-- or beyond it
abbrev pub lies_beyond : Slot → ℕ → ℕ → Bool
lies_beyond s base completed = if s.class == 1 then nat_le (base + command_window) s.a else nat_lt (completed + rounds_ahead) s.a

-- the same, by the one of these numbers that its window is counted from
abbrev pub is_behind : FrameVersion → Slot → ℕ → Bool
is_behind version s mark = lies_behind version s mark mark

abbrev pub is_beyond : Slot → ℕ → Bool
is_beyond s mark = lies_beyond s mark mark
