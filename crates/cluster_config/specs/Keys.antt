-- The configuration of keys that are to be dealt: its lines, in their order. The keys are those of any version of frames.
use Rattle.std.specs.Prelude.{codes, refl}
use Rattle.cluster_config.specs.declared.keys.KeysConfig.{KeysConfig}
use Rattle.cluster_config.specs.Values.{key_in}
use Rattle.cluster_config.specs.Columns.{Column, Done, Line}
use Rattle.cluster_config.specs.Front.{session_lines, numbers_lines}

unfoldable pub keys_column : Column KeysConfig
keys_column =
    session_lines (λ version session.
    numbers_lines (λ p.
    Line (codes "master") refl key_in (λ master.
    Done (record { session = session; p = p; master = master }))))
