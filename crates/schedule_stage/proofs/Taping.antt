-- What a tape keeps as a step more is taken, and which limits that may pass.
use Rattle.std.proofs.Common.{◌≡◌, ℕ, ◌+◌, ◌-◌, ◌^◌, ◌<◌, ◌≤◌, Bool, true, false, nat_lt, List, [], ◌∷◌, ◌++◌, length, Some, None, Result, Ok, Err, OnOk, IfErr, IsErrAnd, subst, sym, ap, ap₂, ◌∙◌, if◌then◌else◌, arith}
use Rattle.std.proofs.lemmas.Bool.{lt-ltb, le-ltb}
use Rattle.outside.specs.Memory.{BufferState}
use Rattle.ritas_base.specs.declared.event.Event.{Event}
use Rattle.ritas_base.specs.declared.plan.Plan.{Plan}
use Rattle.ritas_base.specs.declared.what.DriveWhat.{DriveWhat}
use Rattle.ritas_base.specs.declared.what.DriveWhat.TheVariants as drives
use Rattle.schedule_file.specs.FileBytes.{limit}
use Rattle.schedule_file.specs.ReadHeader.{heading}
use Rattle.schedule_file.specs.Spelling.{event_text, FrontOf, IsHeading}
use Rattle.schedule_file.specs.SpellingLaws.{front_next, front_next_length, front_first_length, file_length}
use Rattle.world_model.specs.World.{Setting}
use Rattle.world_model.specs.Players.{Step}
use Rattle.schedule_plan.specs.Plans.{header_of}
use Rattle.schedule_plan.specs.Schedule.{step_limit, events_by, file_by, limit_at, limit_met}
use Rattle.schedule_plan.proofs.Limits.{none_at_start, met_next, too_many}
use Rattle.schedule_stage.specs.declared.halt.Halt.{Halt}
use Rattle.schedule_stage.specs.declared.halt.Halt.TheVariants as halts
use Rattle.schedule_stage.specs.declared.tape.Tape.{Tape}
use Rattle.schedule_stage.specs.Tape.{front_by, IsTape, Tapes, SameFile, SameTape}
use Rattle.schedule_stage.specs.Worlds.{HaltsBy}

-- ---- limits

-- which limit is passed, where it is known which of them are
limit_by : (w : Setting) (p : Plan) (steps : List Step) (many over : Bool) → nat_lt step_limit (length steps) ≡ many → nat_lt limit (length (file_by w p steps)) ≡ over
    → limit_at w p steps ≡ (if many then Some step_limit else (if over then Some limit else None))
limit_by w p steps many over e f = ap₂ (λ (a b : Bool). if a then Some step_limit else (if b then Some limit else None)) e f

-- the limit of steps is passed, where it was reached
pub passes_steps : (w : Setting) (p : Plan) (step : Step) (steps : List Step) → limit_met w p steps ≡ None → length steps ≡ 4000000
    → limit_met w p (step ∷ steps) ≡ Some 4000000
unfolding step_limit
passes_steps w p step steps none many = met_next w p step steps none ∙ too_many w p (step ∷ steps) (omega (arith, many))

-- or that of bytes is, and not that of steps
pub passes_bytes : (w : Setting) (p : Plan) (step : Step) (steps : List Step) → limit_met w p steps ≡ None → length steps < 4000000
    → limit ≤ length (front_by w p (step ∷ steps)) → limit_met w p (step ∷ steps) ≡ Some limit
unfolding step_limit
passes_bytes w p step steps none few long =
    let size = file_length (heading (header_of p)) (events_by w p (step ∷ steps)) in
    met_next w p step steps none
    ∙ limit_by w p (step ∷ steps) false true (le-ltb step_limit (length (step ∷ steps)) (omega (arith, few)))
    (lt-ltb limit (length (file_by w p (step ∷ steps))) (omega (arith, size, long)))

-- or none
pub passes_none : (w : Setting) (p : Plan) (step : Step) (steps : List Step) → limit_met w p steps ≡ None → length steps < 4000000
    → length (front_by w p (step ∷ steps)) < limit → limit_met w p (step ∷ steps) ≡ None
unfolding step_limit
passes_none w p step steps none few short =
    let size = file_length (heading (header_of p)) (events_by w p (step ∷ steps)) in
    met_next w p step steps none
    ∙ limit_by w p (step ∷ steps) false false (le-ltb step_limit (length (step ∷ steps)) (omega (arith, few)))
    (le-ltb limit (length (file_by w p (step ∷ steps))) (omega (arith, size, short)))

-- ---- tapes

-- a step that is no event
pub passed_on : (w : Setting) (p : Plan) (what : DriveWhat) (old new : Tape) (step : Step) (steps : List Step) → IsTape w p what old steps
    → events_by w p (step ∷ steps) ≡ events_by w p steps → new.steps ≡ old.steps + 1 → SameFile old new
    → IsTape w p what new (step ∷ steps)
passed_on w p what old new step steps stands events next same =
    let front : front_by w p (step ∷ steps) ≡ front_by w p steps = ap (FrontOf (heading (header_of p))) events in
    let long : new.size ≡ length (front_by w p (step ∷ steps)) = same.size ∙ stands.long ∙ ap length (sym front) in
    let many = stands.many in
    record {
      none = passes_none w p step steps stands.none (let few = new.few in omega (arith, next, few, many)) (let short = new.short in omega (arith, long, short));
      many = next ∙ omega (arith, many);
      long = long;
      wanted = same.what ∙ stands.wanted;
      kept = λ kept. ap (λ (file : BufferState). file.taken) same.file ∙ stands.kept kept ∙ sym front;
    }

-- a step that is an event
pub written_on : (w : Setting) (p : Plan) (what : DriveWhat) (old new : Tape) (step : Step) (steps : List Step) (e : Event) → IsTape w p what old steps
    → events_by w p (step ∷ steps) ≡ e ∷ events_by w p steps → new.steps ≡ old.steps + 1
    → new.size ≡ old.size + length (event_text e) → new.what ≡ old.what
    → (old.what ≡ drives.Schedule → new.file.taken ≡ old.file.taken ++ event_text e) → IsTape w p what new (step ∷ steps)
written_on w p what old new step steps e stands events next size same kept =
    let h = heading (header_of p) in
    let es = events_by w p steps in
    let front : front_by w p (step ∷ steps) ≡ FrontOf h es ++ event_text e = ap (FrontOf h) events ∙ front_next h e es in
    let longer : length (front_by w p (step ∷ steps)) ≡ length (FrontOf h es) + length (event_text e) = ap (λ xs. length (FrontOf h xs)) events ∙ front_next_length h e es in
    let many = stands.many in
    let long : new.size ≡ length (front_by w p (step ∷ steps)) = size ∙ ap (λ k. k + length (event_text e)) stands.long ∙ sym longer in
    record {
      none = passes_none w p step steps stands.none (let few = new.few in omega (arith, next, few, many)) (let short = new.short in omega (arith, long, short));
      many = next ∙ omega (arith, many);
      long = long;
      wanted = same ∙ stands.wanted;
      kept = λ wanted. kept (stands.wanted ∙ wanted) ∙ ap (λ (t : List ℕ). t ++ event_text e) (stands.kept wanted) ∙ sym front;
    }

-- an event for which there is no room
pub no_room : (w : Setting) (p : Plan) (what : DriveWhat) (old : Tape) (step : Step) (steps : List Step) (e : Event) → IsTape w p what old steps
    → events_by w p (step ∷ steps) ≡ e ∷ events_by w p steps → old.steps < 4000000 → limit ≤ old.size + length (event_text e)
    → limit_met w p (step ∷ steps) ≡ Some limit
no_room w p what old step steps e stands events few over =
    let h = heading (header_of p) in
    let es = events_by w p steps in
    let longer : length (front_by w p (step ∷ steps)) ≡ length (FrontOf h es) + length (event_text e) = ap (λ xs. length (FrontOf h xs)) events ∙ front_next_length h e es in
    let many = stands.many in
    let long = stands.long in
    passes_bytes w p step steps stands.none (omega (arith, few, many)) (omega (arith, over, long, longer))

-- ---- what the calls answer

pub err_tapes : (w : Setting) (p : Plan) (what : DriveWhat) (tape : Tape) (steps : List Step) (halt : Halt) (r : Result (Unit {0}) Halt)
    → IsErrAnd r (λ h. h ≡ halt) → HaltsBy w p steps halt → Tapes w p what tape steps r
err_tapes w p what tape steps halt (Ok done) is halts = absurd is
err_tapes w p what tape steps halt (Err h) is halts = subst (HaltsBy w p steps) (sym is) halts

-- where a step can't be counted
pub no_more : (w : Setting) (p : Plan) (what : DriveWhat) (old : Tape) (step : Step) (steps : List Step) (halt : Halt) → IsTape w p what old steps
    → halt ≡ halts.Limit 4000000 → old.steps ≡ 4000000 → HaltsBy w p (step ∷ steps) halt
no_more w p what old step steps halt stands is many =
    subst (HaltsBy w p (step ∷ steps)) (sym is) (passes_steps w p step steps stands.none (sym stands.many ∙ many))

-- where there is no room for an event
pub no_space : (w : Setting) (p : Plan) (what : DriveWhat) (old : Tape) (step : Step) (steps : List Step) (e : Event) (halt : Halt) → IsTape w p what old steps
    → events_by w p (step ∷ steps) ≡ e ∷ events_by w p steps → old.steps < 4000000 → limit ≤ old.size + length (event_text e)
    → halt ≡ halts.Limit limit → HaltsBy w p (step ∷ steps) halt
no_space w p what old step steps e halt stands events few over is =
    subst (HaltsBy w p (step ∷ steps)) (sym is) (no_room w p what old step steps e stands events few over)

pub passes_so : (w : Setting) (p : Plan) (what : DriveWhat) (old new : Tape) (step : Step) (steps : List Step) (r : Result (Unit {0}) Halt) → IsTape w p what old steps
    → events_by w p (step ∷ steps) ≡ events_by w p steps → OnOk r (new.steps ≡ old.steps + 1)
    → IfErr r (λ halt. (halt ≡ halts.Limit 4000000) × (old.steps ≡ 4000000)) → SameFile old new → Tapes w p what new (step ∷ steps) r
passes_so w p what old new step steps (Ok done) stands events next err same = passed_on w p what old new step steps stands events next same
passes_so w p what old new step steps (Err halt) stands events next err same = no_more w p what old step steps halt stands err.0 err.1

pub writes_so : (w : Setting) (p : Plan) (what : DriveWhat) (old new : Tape) (step : Step) (steps : List Step) (e : Event) (r : Result (Unit {0}) Halt) → IsTape w p what old steps
    → events_by w p (step ∷ steps) ≡ e ∷ events_by w p steps → new.steps ≡ old.steps + 1
    → new.size ≡ old.size + length (event_text e) → new.what ≡ old.what
    → OnOk r (old.what ≡ drives.Schedule → new.file.taken ≡ old.file.taken ++ event_text e) → IfErr r (λ halt. halt ≡ halts.Mem) → Tapes w p what new (step ∷ steps) r
writes_so w p what old new step steps e (Ok done) stands events next size same kept err = written_on w p what old new step steps e stands events next size same kept
writes_so w p what old new step steps e (Err halt) stands events next size same kept err = subst (HaltsBy w p (step ∷ steps)) (sym err) tt

-- the answers of events are no part of it
pub counted_on : (w : Setting) (p : Plan) (what : DriveWhat) (old new : Tape) (steps : List Step) → IsTape w p what old steps → SameTape old new → IsTape w p what new steps
counted_on w p what old new steps stands same = record {
  none = stands.none;
  many = same.steps ∙ stands.many;
  long = same.size ∙ stands.long;
  wanted = same.what ∙ stands.wanted;
  kept = λ kept. ap (λ (file : BufferState). file.taken) same.file ∙ stands.kept kept;
}

-- there are few steps
pub few_steps : (w : Setting) (p : Plan) (what : DriveWhat) (tape : Tape) (steps : List Step) → IsTape w p what tape steps → length steps < 2 ^ 64 - 1
few_steps w p what tape steps stands = let few = tape.few in let many = stands.many in omega (arith, few, many)

-- before any step
pub none_yet : (w : Setting) (p : Plan) (what : DriveWhat) (tape : Tape) → IsHeading (heading (header_of p)) → tape.steps ≡ 0 → tape.size ≡ 54 → tape.what ≡ what
    → (what ≡ drives.Schedule → tape.file.taken ≡ FrontOf (heading (header_of p)) []) → IsTape w p what tape []
none_yet w p what tape is steps size wanted kept = record {
  none = none_at_start w p;
  many = steps;
  long = size ∙ sym (front_first_length (heading (header_of p)) is);
  wanted = wanted;
  kept = kept;
}
