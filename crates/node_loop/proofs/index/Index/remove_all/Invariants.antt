use Rattle.std.proofs.Common.{◌≡◌, not, ◌&&◌, ◌==◌, take, Some}
use Rattle.std.specs.List.{list_any}
use Rattle.node_loop.specs.declared.index.Caller.{Caller}
use Rattle.node_loop.specs.declared.waiting.Asked.{Asked}
use Rattle.node_loop.specs.Waiting.{is_same_request, is_conn}
use Rattle.node_loop.specs.WaitersStanding.{is_listed}
use Rattle.node_loop.proofs.index.Index.remove_all.Given as goal

abbrev pub invariant-loop-conn : goal.invariant-loop-conn
invariant-loop-conn l = (c : Caller) (a : Asked) → is_listed l.self c a
    ≡ (not (is_same_request l.asked a && (c.at == a.at && list_any (is_conn (Some c.conn)) (take l.conn-index l.conns))) && is_listed l.initial.self c a)
