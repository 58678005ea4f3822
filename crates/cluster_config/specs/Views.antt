-- What the parts of a text stand for.
use Rattle.std.specs.Prelude.{ℕ, List, [], codes, unwrap_or, if◌then◌else◌}
use Rattle.std.specs.Str.{bytes_eq}
use Rattle.hex.specs.Hex.{decode_of}
use Rattle.cluster_config.specs.declared.requests.Request.{Request}
use Rattle.cluster_config.specs.declared.views.RequestView.{RequestView}
use Rattle.cluster_config.specs.Values.{if_ok}

-- the bytes of these digits, where they are digits
abbrev pub payload_of : List ℕ → List ℕ
payload_of digits = if bytes_eq digits (codes "-") then [] else unwrap_or (if_ok (decode_of digits)) []

abbrev pub viewed_request : RequestView → Request
viewed_request view = record { at = view.at; client = view.client; request = view.request; payload = payload_of view.digits.now }
