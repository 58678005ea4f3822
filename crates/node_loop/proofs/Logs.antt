-- A position stays in a log that grows.
use Rattle.std.proofs.Common.{◌≡◌, ℕ, List, Some}
use Rattle.ritas_base.specs.declared.event.Event.{Event}
use Rattle.layer_api.specs.Service.{IsPart}
use Rattle.command_log.specs.Rows.{Row, position_of, entries_of_log, AreOnce}
use Rattle.command_log.specs.Laws.{chain_once}
use Rattle.command_log.proofs.Places.{place_from, place_to}
use Rattle.world_model.specs.World.{Setting}
use Rattle.world_model.specs.Agree.{identifier_log, command_delivered, rows_at}
use Rattle.world_model.proofs.Positions.{row_in_part}

pub rows_are_once : (w : Setting) → AreOnce w.start.base → (es : List Event) (i : ℕ) → AreOnce (rows_at w es i)
rows_are_once w once es i = chain_once w.start w.numbers.f (entries_of_log (command_delivered w es i) (identifier_log w es i)) once

pub position_in_part : (rs qs : List Row) → IsPart rs qs → AreOnce qs → (client request position : ℕ)
    → position_of rs client request ≡ Some position → position_of qs client request ≡ Some position
position_in_part rs qs part once client request position is =
    let here = place_from rs position client request is in
    place_to qs position client request once (record {
      row = here.row;
      stands = row_in_part rs qs part position here.row here.stands;
      of_client = here.of_client;
      of_request = here.of_request;
    })
