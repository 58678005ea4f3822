use Rattle.std.proofs.Common.{ℕ, List, [], reverse, take}
use Rattle.std.specs.List.{AllByRecursion}
use Rattle.world_model.specs.World.{Setting}
use Rattle.node_loop.specs.Meanings.{meaning_of}
use Rattle.node_loop.specs.Laws.{IsServed}
use Rattle.node_loop.specs.Peers.{no_peers}
use Rattle.node_loop.specs.Recovering.{recalled_waiting, recalled_peers}
use Rattle.node_loop.specs.Standing.{HouseStands}
use Rattle.node_loop.specs.Waiting.{nobody}
use Rattle.node_loop.proofs.house.House.recall_all.Given as goal

abbrev pub invariant-loop-event : goal.invariant-loop-event
invariant-loop-event g l =
    (w : Setting) (numbers : List ℕ)
    → HouseStands (meaning_of g.S.Service g.E.Broadcast g.C.Coin) w [] numbers l.initial.self nobody no_peers
    → AllByRecursion (IsServed w) l.events
    → (let es = reverse (take l.event-index l.events) in
    HouseStands (meaning_of g.S.Service g.E.Broadcast g.C.Coin) w es numbers l.self (recalled_waiting w es) (recalled_peers w es))
