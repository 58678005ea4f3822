use Rattle.std.proofs.Common.{ℕ, List, ◌∷◌, ◌++◌}
use Rattle.std.specs.Int.{w32, to_be_bytes}
use Rattle.outside.specs.WritingLaws.{writes_then, fails_as}
use Rattle.schedule_file.specs.ReadHeader.{Heading, heading}
use Rattle.schedule_file.specs.Spelling.{keys_text, start_text, vect_byte}
use Rattle.schedule_file.proofs.writer.Writer.start.Goals as goal

-- what stands before the keys
abbrev before_keys : Heading → List ℕ
before_keys h = start_text h.version h.session ++ (h.p.n ∷ h.p.f ∷ h.root ∷ vect_byte h.vect ∷ to_be_bytes w32 h.correct)

pub returns-in_err-write_both : goal.returns-in_err-write_both
returns-in_err-write_both g c =
    let h = heading c.args.header.now in
    fails_as (before_keys h) (keys_text h.p.n h.keys) _ _ _ _ _ _ _ c.from_residual.ensures.0 (rw (c.start_bytes-start.ensures, c.setting_bytes.ensures) at c.in_err-write_both.ensures)

pub returns : goal.returns
returns g c =
    let h = heading c.args.header.now in
    writes_then (before_keys h) (keys_text h.p.n h.keys) _ _ _ _ _ _ _ _ (rw (c.start_bytes-start.ensures, c.setting_bytes.ensures) at c.in_ok-write_both.ensures) (rw c.n.ensures.value at c.write_keys.ensures)
