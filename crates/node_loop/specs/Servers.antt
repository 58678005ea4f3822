-- A server and its house between calls: what they stand for, over what serving began with.
use Rattle.std.specs.Prelude.{◌≡◌, ◌≤◌, ℕ, Bool, true, false, List, [], Result, Ok, Err}
use Rattle.ritas_base.specs.declared.event.Event.{Event}
use Rattle.outside.specs.declared.link.LinkItem.{LinkItem}
use Rattle.world_model.specs.World.{Setting}
use Rattle.node_loop.specs.declared.end.Fault.{Fault}
use Rattle.node_loop.specs.declared.end.ServeEnd.{ServeEnd}
use Rattle.node_loop.specs.declared.house.House.{House}
use Rattle.node_loop.specs.declared.rounds.Next.{Next}
use Rattle.node_loop.specs.declared.server.Pace.{Pace}
use Rattle.node_loop.specs.declared.server.Server.{Server}
use Rattle.node_loop.specs.Ends.{IsEndOf}
use Rattle.node_loop.specs.Meanings.{Senses}
use Rattle.node_loop.specs.Outs.{Outs}
use Rattle.node_loop.specs.Running.{Running, Gathered, IsNext}
use Rattle.node_loop.specs.ServedKept.{ServesKept}
use Rattle.node_loop.specs.Serving.{Serving, so_far, wants_of}
use Rattle.node_loop.specs.Told.{IsGroupOver, after_groups, most_rounds}

-- What serving began with: the archive's name and its disk then, the world with its events then, the numbers of its replicas that are here, what the tape
-- and the link had, and what stood.
pub record Outset (D : Type 0) : Type 0 where
  pub head : List ℕ
  pub before : D
  pub world : Setting
  pub past : List Event
  pub numbers : List ℕ
  pub base : Outs
  pub start : Serving

-- it is of the same link, tape, archive and disk, and serves as long
pub record IsSameServer {L K A D : Type 0} (old new : Server L K A D) : Type 0 where
  pub link : new.link.ghost_name ≡ old.link.ghost_name
  pub tape : new.tape.ghost_name ≡ old.tape.ghost_name
  pub archive : new.archive.ghost_name ≡ old.archive.ghost_name
  pub disk : new.disk.ghost_name ≡ old.disk.ghost_name
  pub limits : new.pace.limits ≡ old.pace.limits

-- ---- between two calls

-- it serves this house: all that came of its rounds was delivered, and of its first items these are left
abbrev pub IsAtWork : {S E C L K A D : Type 0} → Senses S E C L K A D → Outset D → House S E C → Server L K A D → List LinkItem → Type 0
IsAtWork t o house server left =
    Running t.layers o.world o.past o.numbers house t.tells o.base (t.moment o.head o.before o.past server) server.pace.taken server.pace.limits
    o.start left

-- serving ended so
abbrev pub HasEnded : {S E C L K A D : Type 0} → Senses S E C L K A D → Outset D → House S E C → Server L K A D → ServeEnd → Type 0
HasEnded t o house server end =
    ServesKept t.layers o.world o.past o.numbers house.replicas.items t.tells o.base (t.moment o.head o.before o.past server) end server.pace.limits
    o.start

-- this is done next, by the rules, where it stands so
abbrev pub IsNextIn : {D : Type 0} → Outset D → Pace → Serving → Next → Type 0
IsNextIn o pace s done = IsNext (wants_of o.world pace.limits (so_far o.past s) pace.taken s.waiting s.peers) done

-- ---- while a group is under way

-- its group has so many rounds, and nothing of it was delivered yet
abbrev pub HasGathered : {S E C L K A D : Type 0} → Senses S E C L K A D → Outset D → House S E C → Server L K A D → List LinkItem → ℕ → Type 0
HasGathered t o house server left many =
    Gathered t.layers o.world o.past o.numbers house server.group.now t.tells o.base (t.moment o.head o.before o.past server) server.pace.taken
    server.pace.limits o.start left many

-- it is over, and can be delivered
pub record IsGroupReady {S E C L K A D : Type 0} (t : Senses S E C L K A D) (o : Outset D) (house : House S E C) (server : Server L K A D) (left : List LinkItem) : Type 0 where
  pub many : ℕ
  pub within : many ≤ most_rounds
  pub run : HasGathered t o house server left many
  pub over : IsGroupOver o.world o.past server.pace.limits (after_groups o.world o.past o.start run.older) run.newest

-- serving ended at a fault
abbrev pub HasBroken : {S E C L K A D : Type 0} → Senses S E C L K A D → Outset D → House S E C → Server L K A D → Fault → Type 0
HasBroken t o house server fault = (end : ServeEnd) → IsEndOf fault end → HasEnded t o house server end

-- its group has one round, or serving ended
abbrev pub HasFirst : {S E C L K A D : Type 0} → Senses S E C L K A D → Outset D → House S E C → Server L K A D → Result (Unit {0}) ServeEnd → Type 0
HasFirst t o house server (Ok done) = HasGathered t o house server [] 1
HasFirst t o house server (Err end) = HasEnded t o house server end

-- its group has so many, and may have more, or it is over; or serving ended at a fault
abbrev pub HasMore : {S E C L K A D : Type 0} → Senses S E C L K A D → Outset D → House S E C → Server L K A D → ℕ → Result Bool Fault → Type 0
HasMore t o house server many (Ok true) = HasGathered t o house server [] many
HasMore t o house server many (Ok false) = IsGroupReady t o house server []
HasMore t o house server many (Err fault) = HasBroken t o house server fault

-- its group is over, or serving ended at a fault
abbrev pub HasGroup : {S E C L K A D : Type 0} → Senses S E C L K A D → Outset D → House S E C → Server L K A D → Result (Unit {0}) Fault → Type 0
HasGroup t o house server (Ok done) = IsGroupReady t o house server []
HasGroup t o house server (Err fault) = HasBroken t o house server fault

-- all of the group was delivered, or serving ended at a fault
abbrev pub HasDelivered : {S E C L K A D : Type 0} → Senses S E C L K A D → Outset D → House S E C → Server L K A D → List LinkItem → Result (Unit {0}) Fault → Type 0
HasDelivered t o house server left (Ok done) = IsAtWork t o house server left
HasDelivered t o house server left (Err fault) = HasBroken t o house server fault

-- a group more, or serving ended
abbrev pub HasGoneOn : {S E C L K A D : Type 0} → Senses S E C L K A D → Outset D → House S E C → Server L K A D → Result (Unit {0}) ServeEnd → Type 0
HasGoneOn t o house server (Ok done) = IsAtWork t o house server []
HasGoneOn t o house server (Err end) = HasEnded t o house server end
