use Rattle.std.proofs.Common.{◌≡◌, ◌++◌, List, take}
use Rattle.ritas_base.specs.declared.slot.Slot.{Slot}
use Rattle.ritas_base.specs.History.{Call}
use Rattle.ritas_core.specs.Rules.{casts_by}
use Rattle.ritas_core.specs.SlotCast.{CastStandsAt}
use Rattle.ritas_core.specs.Drops.{is_dropped_shown}
use Rattle.ritas_core.specs.Casts.{CastsStand, started_all, start_news}
use Rattle.ritas_core.specs.CastCalls.{CanStartAll}
use Rattle.ritas_core.proofs.casts.start_casts.Given as goal

-- the says so far were started
abbrev pub invariant-loop-say : goal.invariant-loop-say
invariant-loop-say g l =
    let b = g.E.Broadcast in
    let t = g.T.Tagger in
    let c = casts_by l.fn.mode l.fn.p l.fn.me (t.tags l.fn.t) b.rules in
    let dropped = is_dropped_shown l.fn.mode.version (g.S.Service.shown l.fn.service) l.fn.p.n in
    record {
      stands : (h : Slot → List Call) → CanStartAll (CastStandsAt l.fn.mode b.stands) c dropped (t.me l.fn.t) l.fn.casts l.says h → CastsStand (CastStandsAt l.fn.mode b.stands) c dropped l.casts (started_all (take l.say-index l.says) h);
      made : (h : Slot → List Call) → CanStartAll (CastStandsAt l.fn.mode b.stands) c dropped (t.me l.fn.t) l.fn.casts l.says h → l.made.items ≡ l.fn.made.items ++ start_news c (take l.say-index l.says) h;
    }
