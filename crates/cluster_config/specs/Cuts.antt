-- A text is cut where a byte comes first.
use Rattle.std.specs.Prelude.{ℕ, ◌+◌, ◌==◌, List, take, drop, Option, option_map}
use Rattle.std.specs.List.{position}

-- where a byte comes first
abbrev pub place_of_byte : ℕ → List ℕ → Option ℕ
place_of_byte byte = position (λ b. b == byte)

-- what stands before the first such byte, and what stands behind it
abbrev pub cut_at : ℕ → List ℕ → Option (List ℕ × List ℕ)
cut_at byte text = option_map (λ place. (take place text, drop (place + 1) text)) (place_of_byte byte text)
