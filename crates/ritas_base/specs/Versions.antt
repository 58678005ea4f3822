-- What differs between the versions of a session, beside their bytes.
use Rattle.std.specs.Prelude.{ℕ, ◌==◌, Bool, true, false, if◌then◌else◌}
use Rattle.ritas_base.specs.declared.mode.FrameVersion.{FrameVersion}
use Rattle.ritas_base.specs.declared.mode.FrameVersion.TheVariants.{One, Two, Three}

-- whether slots that lie far enough behind are past; in version 3 all broadcasts of a session are kept, and none is
abbrev pub has_past : FrameVersion → Bool
has_past One = true
has_past Two = true
has_past Three = false

-- the form that reliable broadcast has at slots of a class: 1 with values, 3 with digests; in version 3 the steps of binary
-- consensus go by values, since a bit is shorter than its digest
abbrev pub reliable_form : FrameVersion → ℕ → ℕ
reliable_form One class = 1
reliable_form Two class = 3
reliable_form Three class = if class == 5 then 1 else 3
