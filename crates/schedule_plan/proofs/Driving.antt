-- What is made of a plan is a play of a world of its layers.
use Rattle.std.proofs.Common.{◌≡◌, ℕ, true, refl, ◌∙◌, sym, arith}
use Rattle.std.proofs.lemmas.Bool.{ltb-true}
use Rattle.ritas_base.specs.Numbers.{IsSession}
use Rattle.ritas_base.specs.declared.plan.Plan.{Plan}
use Rattle.layer_api.specs.Broadcast.{BroadcastRules}
use Rattle.layer_api.specs.Service.{ServiceRules}
use Rattle.ritas_core.specs.Rules.{HasForm}
use Rattle.world_model.specs.EveryWorld.{IsWorld}
use Rattle.world_model.specs.Forging.{IsPlay, ForgingLaw, PlayedAudit}
use Rattle.schedule_plan.specs.Laws.{StepsLaw, DriveLaw}
use Rattle.schedule_plan.specs.Plans.{correct_of, cast_of}
use Rattle.schedule_plan.specs.Schedule.{world_by, steps_of}
use Rattle.schedule_plan.proofs.Planned.{has_first, is_planned, some_correct, enough_correct}
use Rattle.schedule_plan.proofs.Showing.{attacks_show}

-- the world of a plan is one of its service and its broadcast
pub world_is : (service : ServiceRules) (other : BroadcastRules) (p : Plan) → IsSession p.p → service.serves p.mode.root ≡ true → HasForm p.mode other
    → IsWorld service other (world_by service other p)
world_is service other p session serves form = record {
  session = session;
  within = λ i correct. let below = ltb-true i (correct_of p) (sym (has_first (correct_of p) i) ∙ correct) in let most = (some_correct p session).1 in omega (arith, below, most);
  words = refl;
  casts = λ s. refl;
  serves = serves;
  form = form;
  own = λ i below. (refl, refl);
}

pub play_is : (service : ServiceRules) (other : BroadcastRules) → StepsLaw service other → (p : Plan) (most : ℕ) → IsSession p.p → service.serves p.mode.root ≡ true
    → HasForm p.mode other → IsPlay service other (world_by service other p) (cast_of p.attack) (steps_of most (world_by service other p) p)
play_is service other steps p most session serves form = record {
  kind = world_is service other p session serves form;
  going = λ k i. refl;
  shows = attacks_show (world_by service other p) p.attack;
  steps_are = steps p most session;
}

pub drive_law : (service : ServiceRules) (other : BroadcastRules) → StepsLaw service other → ForgingLaw service other → PlayedAudit service other → DriveLaw service other
drive_law service other steps law audit p most session serves form =
    let w = world_by service other p in
    let c = cast_of p.attack in
    let play = play_is service other steps p most session serves form in
    (law w c (steps_of most w p) play, audit w c (steps_of most w p) play (enough_correct w p (is_planned service other p session) refl))
