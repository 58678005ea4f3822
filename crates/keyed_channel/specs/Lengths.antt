-- How long frames and notes are, and their parts, in bytes. `src/lengths.rt` has the constants, and `lengths_are` ties each to its
-- definition.
use Rattle.std.specs.Prelude.{ℕ, ◌+◌, ◌-◌}
use Rattle.ritas_base.specs.Limits.{longest_frame}

-- what stands before the body of a frame: version, sender, receiver, sequence number
abbrev pub head_length : ℕ
head_length = 11

-- the tag behind it
abbrev pub tag_length : ℕ
tag_length = 32

-- a frame has so many more than its body
abbrev pub frame_overhead : ℕ
frame_overhead = head_length + tag_length

-- the shortest frame that opens: one whose body is empty
abbrev pub least_frame : ℕ
least_frame = frame_overhead

-- the longest body whose frame opens
abbrev pub longest_body : ℕ
longest_body = longest_frame - frame_overhead

-- what stands before the tag of a note: its first byte, sender, receiver, form, number
abbrev pub note_front_length : ℕ
note_front_length = 12

-- a note
abbrev pub note_length : ℕ
note_length = note_front_length + tag_length
