use Rattle.std.proofs.Common.{List, reverse, refl, sym, subst}
use Rattle.std.specs.List.{AllByRecursion}
use Rattle.ritas_base.specs.declared.event.Event.{Event}
use Rattle.schedule_file.specs.Spelling.{IsSized}
use Rattle.node_loop.specs.Recovering.{recovered}
use Rattle.node_loop.proofs.AfterPast.{again_short, again_unwritten, runs_again, serves_with}
use Rattle.node_loop.proofs.server.Server.serve_again.Goals as goal

pub write_events-requires : goal.write_events-requires
write_events-requires g c = record { sized = subst (λ (es : List Event). AllByRecursion IsSized es) (sym c.as_slice-events.ensures) c.requires.sized }

pub returns-in-Err-clause-serves : goal.returns-in-Err-clause-serves
returns-in-Err-clause-serves g c = λ head before w numbers stand served stood none.
    again_short _ w (reverse (g.P.AsSlice.items c.args.recovered)) numbers _ _ _ _ stood

pub returns-in-Err-write_events-clause-serves : goal.returns-in-Err-write_events-clause-serves
returns-in-Err-write_events-clause-serves g c =
    rw (← c.as_slice-events.ensures)
    (λ head before w numbers stand served stood none.
    let there = c.in-Ok.ensures.happen w numbers stand served in
    let failed = c.in-Err-write_events.ensures.front in
    again_unwritten _ w (reverse c.as_slice-events.result.now) numbers _ _ _ _ _ there.here stood failed.2 failed.0 failed.1 refl refl)

pub returns-clause-serves : goal.returns-clause-serves
returns-clause-serves g c =
    rw (← c.as_slice-events.ensures)
    (λ head before w numbers stand served stood none.
    let past = reverse c.as_slice-events.result.now in
    let there = c.in-Ok.ensures.happen w numbers stand served in
    let wrote = c.in-Ok-write_events.ensures.whole in
    let run = runs_again _ w past numbers _ _ _ c.args.self.now.pace.taken c.args.self.now.pace.limits none there stood in
    serves_with _ _ _ _ past wrote.1 wrote.0 _ w numbers _ _ _ _
    (c.go_on.ensures.serves (record { head = head; before = before; world = w; past = past; numbers = numbers; base = _; start = recovered w past }) run))
