use Rattle.std.proofs.Common.{◌≡◌, true, Option, refl, ◌∙◌, sym, ap, subst}
use Rattle.std.specs.Option.{is_some}
use Rattle.ritas_base.specs.declared.item.Item.{Item}
use Rattle.world_model.specs.declared.watch.Watch.{Watch}
use Rattle.world_model.specs.Watch.{IsTold, WatchStands, verdict_after, item_taken, watched}
use Rattle.std.proofs.lemmas.List.{with_items_is}
use Rattle.world_model.specs.World.{states_before, call_of, after_call}
use Rattle.world_model.proofs.Continues.{continues, halts, event_stops, event_needed, same_places, frames_before, replicas_before}
use Rattle.world_model.proofs.Left.{left_after}
use Rattle.world_model.proofs.Needs.{event_needs, watching_needs, frames_need}
use Rattle.world_model.proofs.world.World.event.Goals as goal

pub returns-clause-does : goal.returns-clause-does
returns-clause-does g c = λ w es stand may few.
    let found = c.in_ok-happened.ensures w (states_before w es) stand.seats (frames_before w es c.args.self.now.made stand.going stand.made)
    (same_places _ w (states_before w es) c.args.self.now.replicas.items c.as_mut_slice.result.now (sym c.as_mut_slice.ensures.value) (replicas_before _ w es c.args.self.now.replicas.items stand.going stand.replicas)) may in
    continues c.made_by_entry.ensures _ c.args.self.now _ w es c.args.ev.now c.happen.new.replicas c.in_ok-happened.happened stand few found
    (λ same. with_items_is c.args.self.now.replicas c.happen.new.replicas (same ∙ sym c.args.self.now.replicas.ok.0))
    (record {
      seats = refl;
      made = c.in_ok-add.ensures.ok;
      events = refl;
      watch = λ v before call verdict seats within told old.
          subst (λ (x : Watch). WatchStands v (after_call v before call) (verdict_after v before call verdict c.args.self.now.events) x) (sym c.settle.ensures)
          (c.in_ok-verdict.ensures.finds v before call verdict seats within
          (subst (λ (o : Option Item). IsTold v before call c.in_ok-happened.happened.at c.in_ok-happened.happened.forged o) (sym c.as_ref.ensures.value) told) old);
      live = refl;
    })

pub returns-in_err-happened-clause-does : goal.returns-in_err-happened-clause-does
returns-in_err-happened-clause-does g c = λ w es stand may few.
    let found = c.in_err-happened.ensures w (states_before w es) stand.seats (frames_before w es c.args.self.now.made stand.going stand.made)
    (same_places _ w (states_before w es) c.args.self.now.replicas.items c.as_mut_slice.result.now (sym c.as_mut_slice.ensures.value) (replicas_before _ w es c.args.self.now.replicas.items stand.going stand.replicas)) may in
    event_stops _ _ w es c.args.ev.now c.from_residual.result c.from_residual.ensures.0
    (halts _ c.args.self.now _ w es c.args.ev.now c.happen.new.replicas stand found.0 found.1
    (λ same. with_items_is c.args.self.now.replicas c.happen.new.replicas (same ∙ sym c.args.self.now.replicas.ok.0))
    (record { seats = refl; made = refl; events = refl; verdict = refl; live = refl }))

pub returns-in_err-verdict-clause-does : goal.returns-in_err-verdict-clause-does
returns-in_err-verdict-clause-does g c = λ w es stand may few.
    let found = c.in_ok-happened.ensures w (states_before w es) stand.seats (frames_before w es c.args.self.now.made stand.going stand.made)
    (same_places _ w (states_before w es) c.args.self.now.replicas.items c.as_mut_slice.result.now (sym c.as_mut_slice.ensures.value) (replicas_before _ w es c.args.self.now.replicas.items stand.going stand.replicas)) may in
    let call = call_of w (states_before w es) c.args.ev.now in
    let some : is_some (watched w.mode (item_taken w (states_before w es) call)) ≡ true =
    ap is_some (sym found.told.item ∙ sym c.as_ref.ensures.value) ∙ c.in_err-verdict.ensures.only in
    event_stops _ _ w es c.args.ev.now c.from_residual-in_err-verdict.result c.from_residual-in_err-verdict.ensures.0
    (halts _ c.args.self.now _ w es c.args.ev.now c.happen.new.replicas stand (left_after _ w (states_before w es) _ call _ found.replicas)
    (event_needs w (states_before w es) c.args.ev.now (watching_needs w (states_before w es) call some))
    (λ same. with_items_is c.args.self.now.replicas c.happen.new.replicas (same ∙ sym c.args.self.now.replicas.ok.0))
    (record { seats = refl; made = refl; events = refl; verdict = c.judge.ensures.same; live = refl }))

pub returns-in_err-add-clause-does : goal.returns-in_err-add-clause-does
returns-in_err-add-clause-does g c = λ w es stand may few.
    let found = c.in_ok-happened.ensures w (states_before w es) stand.seats (frames_before w es c.args.self.now.made stand.going stand.made)
    (same_places _ w (states_before w es) c.args.self.now.replicas.items c.as_mut_slice.result.now (sym c.as_mut_slice.ensures.value) (replicas_before _ w es c.args.self.now.replicas.items stand.going stand.replicas)) may in
    let call = call_of w (states_before w es) c.args.ev.now in
    event_stops _ _ w es c.args.ev.now c.from_residual-in_err-add.result c.from_residual-in_err-add.ensures.0
    (halts _ c.args.self.now _ w es c.args.ev.now c.happen.new.replicas stand (left_after _ w (states_before w es) _ call _ found.replicas)
    (event_needs w (states_before w es) c.args.ev.now (frames_need w (states_before w es) call (λ none. c.in_err-add.ensures.only (found.out ∙ none))))
    (λ same. with_items_is c.args.self.now.replicas c.happen.new.replicas (same ∙ sym c.args.self.now.replicas.ok.0))
    (record { seats = refl; made = c.in_err-add.ensures.err; events = refl; verdict = c.judge.ensures.same; live = refl }))

pub returns-in_err-happened-clause-needs : goal.returns-in_err-happened-clause-needs
returns-in_err-happened-clause-needs g c = λ w es stand may few.
    event_needed _ _ w es c.args.ev.now c.from_residual.result (returns-in_err-happened-clause-does g c w es stand may few)

pub returns-in_err-verdict-clause-needs : goal.returns-in_err-verdict-clause-needs
returns-in_err-verdict-clause-needs g c = λ w es stand may few.
    event_needed _ _ w es c.args.ev.now c.from_residual-in_err-verdict.result (returns-in_err-verdict-clause-does g c w es stand may few)

pub returns-in_err-add-clause-needs : goal.returns-in_err-add-clause-needs
returns-in_err-add-clause-needs g c = λ w es stand may few.
    event_needed _ _ w es c.args.ev.now c.from_residual-in_err-add.result (returns-in_err-add-clause-does g c w es stand may few)
