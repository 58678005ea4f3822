-- Sweep by sweep.
use Rattle.std.proofs.Common.{◌≡◌, ℕ, suc, ◌+◌, ◌==◌, Bool, true, false, not, List, ◌++◌, map, length, take, drop, reverse, refl, sym, ◌∙◌, ap, ap₂, subst, append_assoc, if◌then◌else◌, arith}
use Rattle.std.specs.List.{flat_map, list_any}
use Rattle.std.proofs.lemmas.Bool.{not-true}
use Rattle.std.proofs.lemmas.List.{take-append-le, take_all, length-map}
use Rattle.ritas_base.specs.declared.plan.Plan.{Plan}
use Rattle.ritas_base.specs.declared.plan.Order.{Order}
use Rattle.ritas_base.specs.declared.plan.Order.TheVariants.{Sweep}
use Rattle.ritas_base.specs.declared.what.DriveWhat.{DriveWhat}
use Rattle.rand_pcg.specs.Lcg.{Lcg}
use Rattle.keyed_channel.specs.Keyed.{CoinSeed}
use Rattle.keyed_channel.specs.KeyRow.{KeyRow}
use Rattle.layer_api.specs.Runs.{Has}
use Rattle.ritas_core.specs.Stands.{Meaning}
use Rattle.world_model.specs.World.{Setting}
use Rattle.world_model.specs.declared.player.Player.{Player}
use Rattle.world_model.specs.Players.{Step, scene_of}
use Rattle.schedule_plan.specs.Plans.{cast_of}
use Rattle.schedule_plan.specs.Inputs.{inputs_of}
use Rattle.schedule_plan.specs.Garbage.{words_start, throws_of}
use Rattle.schedule_plan.specs.Sweeps.{FrameCounts, none_yet, sweep_of, sweeps}
use Rattle.schedule_plan.specs.Picks.{has_some}
use Rattle.schedule_plan.specs.Schedule.{step_limit, steps_by_order, steps_of, schedule}
use Rattle.schedule_plan.proofs.Planned.{IsPlanned}
use Rattle.schedule_plan.proofs.Whole.{sweeps_grow}
use Rattle.schedule_stage.specs.declared.halt.Halt.{Halt}
use Rattle.schedule_stage.specs.declared.stage.Stage.{Stage}
use Rattle.schedule_stage.specs.Stage.{IsStage}
use Rattle.schedule_stage.specs.Worlds.{world_in, waiting, HaltsBy}
use Rattle.schedule_drive.specs.declared.runs.Run.{Run}
use Rattle.schedule_drive.specs.Runs.{run_steps, has_step, no_wait, runs_by, renewed, IsPlayerRun}
use Rattle.schedule_drive.proofs.Toward.{halts_later}
use Rattle.schedule_drive.proofs.Running.{made_by, renewed_are, runs_sweep, steps_are, runs_are}

-- so many sweeps more make the schedule; the runs are those of the last sweep
pub record IsSweeping {S E : Type 0} (m : Meaning S E CoinSeed KeyRow) (p : Plan) (what : DriveWhat) (stage : Stage S E) (runs : List Run) (words : Lcg) (more : ℕ) : Type 0 where
  pub steps : List Step
  pub was : FrameCounts
  pub before : FrameCounts
  pub waits : Player → ℕ
  pub stands : IsStage m p what stage steps
  pub listed : runs ≡ runs_by p was before waits
  pub onward : sweeps more (world_in m p) p before words steps ≡ schedule (world_in m p) p

-- what a list holds when all of it was written as a slice
abbrev pub back : {X : Type 0} → ℕ → List X → List X → List X
back len items new = take len (new ++ drop (length new) items)

mapped_back : {X : Type 0} (f : X → X) (len : ℕ) (items lent new : List X) → len ≡ length items → lent ≡ items → new ≡ map f lent → back len items new ≡ map f items
mapped_back f len items lent new all same is =
    let long = ap length is ∙ length-map lent f ∙ ap length same in
    take-append-le len new (drop (length new) items) (omega (arith, all, long)) ∙ take_all len new (omega (arith, all, long)) ∙ is ∙ ap (map f) same

-- ---- the first sweep

most_is : step_limit + 1 ≡ 4000001
unfolding step_limit
most_is = refl

from_start : (w : Setting) (p : Plan) (order : Order) → p.order ≡ order → steps_by_order (step_limit + 1) w p order ≡ schedule w p
unfolding schedule steps_of
from_start w p order is = ap (steps_by_order (step_limit + 1) w p) (sym is)

all_sweeps : (w : Setting) (p : Plan) → p.order ≡ Sweep → (words : Lcg) → words ≡ words_start p → (more : ℕ) → 0 + more ≡ 4000001
    → sweeps more w p none_yet words (reverse (inputs_of p)) ≡ schedule w p
all_sweeps w p sweep words start more all =
    let same : more ≡ step_limit + 1 = (let limit = most_is in omega (arith, all, limit)) in
    ap₂ (λ (k : ℕ) (g : Lcg). sweeps k w p none_yet g (reverse (inputs_of p))) same start ∙ from_start w p Sweep sweep

-- ---- one sweep more

abbrev next_of : Setting → Plan → FrameCounts → List Step → List Step
next_of w p before steps = sweep_of w p before (scene_of w (cast_of p.attack) steps)

abbrev behind : Setting → Plan → FrameCounts → Lcg → List Step → List Step
behind w p before words steps = reverse (next_of w p before steps) ++ reverse (throws_of p p.attack words).0 ++ steps

ends_if : (w : Setting) (p : Plan) (before : FrameCounts) (words : Lcg) (steps : List Step) (k : ℕ) (b : Bool) → (length (next_of w p before steps) == 0) ≡ b
    → sweeps (suc k) w p before words steps
    ≡ (if b then steps else sweeps k w p (made_by w p steps) (throws_of p p.attack words).1 (behind w p before words steps))
ends_if w p before words steps k b is =
    ap (λ (b : Bool). if b then steps else sweeps k w p (made_by w p steps) (throws_of p p.attack words).1 (behind w p before words steps)) is

not_empty : (b : Bool) → not b ≡ false → b ≡ true
not_empty true is = refl
not_empty false is = absurd (cc)

module _ {S E : Type 0} (m : Meaning S E CoinSeed KeyRow) (p : Plan) (what : DriveWhat) where
  pub first_sweeping : (stage : Stage S E) (runs : List Run) (words : Lcg) → p.order ≡ Sweep → IsStage m p what stage (reverse (inputs_of p))
      → runs ≡ runs_by p none_yet none_yet no_wait → words ≡ words_start p → (more : ℕ) → 0 + more ≡ 4000001 → IsSweeping m p what stage runs words more
  first_sweeping stage runs words sweep stands listed start more all = record {
    steps = reverse (inputs_of p);
    was = none_yet;
    before = none_yet;
    waits = no_wait;
    stands = stands;
    listed = listed;
    onward = all_sweeps (world_in m p) p sweep words start more all;
  }

  -- no sweep more is to come
  pub last_sweeping : (stage : Stage S E) (runs : List Run) (words : Lcg) → IsSweeping m p what stage runs words 0 → IsStage m p what stage (schedule (world_in m p) p)
  last_sweeping stage runs words so_far = subst (IsStage m p what stage) so_far.onward so_far.stands

  -- the runs of the last sweep are of players
  runs_before : (stage : Stage S E) (runs : List Run) (words : Lcg) (more : ℕ) → IsSweeping m p what stage runs words more → IsPlanned (world_in m p) p
      → (run : Run) → Has runs run → IsPlayerRun (world_in m p) p run
  runs_before stage runs words more so_far planned run there =
      runs_are (world_in m p) p planned so_far.was so_far.before so_far.waits run (subst (λ (l : List Run). Has l run) so_far.listed there)

  -- those of the next are the same made anew, which were written as a slice
  pub same_runs : IsPlanned (world_in m p) p → (old : Stage S E) (last lent new : List Run) (words : Lcg) (more len : ℕ) (so_far : IsSweeping m p what old last words more)
      → len ≡ length last → lent ≡ last
      → ((steps : List Step) → IsStage m p what old steps → ((run : Run) → Has lent run → IsPlayerRun (world_in m p) p run) → new ≡ map (renewed (world_in m p) p steps) lent)
      → back len last new ≡ map (renewed (world_in m p) p so_far.steps) last
  same_runs planned old last lent new words more len so_far all same renews =
      mapped_back (renewed (world_in m p) p so_far.steps) len last lent new all same
      (renews so_far.steps so_far.stands (λ run there. runs_before old last words more so_far planned run (subst (λ (l : List Run). Has l run) same there)))

  module _ (old : Stage S E) (last runs : List Run) (words : Lcg) (k : ℕ) (so_far : IsSweeping m p what old last words (suc k)) (same : runs ≡ map (renewed (world_in m p) p so_far.steps) last) where
    runs_now : runs ≡ runs_by p so_far.before (made_by (world_in m p) p so_far.steps) (waiting (world_in m p) p so_far.steps)
    runs_now = same ∙ ap (map (renewed (world_in m p) p so_far.steps)) so_far.listed ∙ renewed_are (world_in m p) p so_far.steps so_far.was so_far.before so_far.waits

    pub runs_after : IsPlanned (world_in m p) p → (run : Run) → Has runs run → IsPlayerRun (world_in m p) p run
    runs_after planned run there =
        runs_are (world_in m p) p planned so_far.before (made_by (world_in m p) p so_far.steps) (waiting (world_in m p) p so_far.steps) run (subst (λ (l : List Run). Has l run) runs_now there)

    steps_now : flat_map run_steps runs ≡ next_of (world_in m p) p so_far.before so_far.steps
    steps_now = ap (flat_map run_steps) runs_now ∙ runs_sweep (world_in m p) p so_far.steps so_far.before

    -- no run has a step
    pub sweeping_ends : list_any has_step runs ≡ false → IsStage m p what old (schedule (world_in m p) p)
    sweeping_ends none =
        let empty = not_empty (length (next_of (world_in m p) p so_far.before so_far.steps) == 0) (sym (steps_are runs ∙ ap has_some steps_now) ∙ none) in
        subst (IsStage m p what old) (sym (ends_if (world_in m p) p so_far.before words so_far.steps k true empty) ∙ so_far.onward) so_far.stands

    -- or one has
    goes_on : list_any has_step runs ≡ true
        → sweeps k (world_in m p) p (made_by (world_in m p) p so_far.steps) (throws_of p p.attack words).1
        (reverse (flat_map run_steps runs) ++ (reverse (throws_of p p.attack words).0 ++ so_far.steps))
        ≡ schedule (world_in m p) p
    goes_on some =
        let there = not-true (length (next_of (world_in m p) p so_far.before so_far.steps) == 0) (sym (steps_are runs ∙ ap has_some steps_now) ∙ some) in
        ap (sweeps k (world_in m p) p (made_by (world_in m p) p so_far.steps) (throws_of p p.attack words).1)
        (ap (λ (l : List Step). reverse l ++ (reverse (throws_of p p.attack words).0 ++ so_far.steps)) steps_now
        ∙ sym (append_assoc (reverse (next_of (world_in m p) p so_far.before so_far.steps)) (reverse (throws_of p p.attack words).0) so_far.steps))
        ∙ sym (ends_if (world_in m p) p so_far.before words so_far.steps k false there)
        ∙ so_far.onward

    pub sweeping_on : list_any has_step runs ≡ true → (new : Stage S E) (next : Lcg) → next ≡ (throws_of p p.attack words).1
        → IsStage m p what new (reverse (flat_map run_steps runs) ++ (reverse (throws_of p p.attack words).0 ++ so_far.steps))
        → IsSweeping m p what new runs next k
    sweeping_on some new next drawn stands = record {
      steps = reverse (flat_map run_steps runs) ++ (reverse (throws_of p p.attack words).0 ++ so_far.steps);
      was = so_far.before;
      before = made_by (world_in m p) p so_far.steps;
      waits = waiting (world_in m p) p so_far.steps;
      stands = stands;
      listed = runs_now;
      onward = ap (λ (g : Lcg). sweeps k (world_in m p) p (made_by (world_in m p) p so_far.steps) g
          (reverse (flat_map run_steps runs) ++ (reverse (throws_of p p.attack words).0 ++ so_far.steps))) drawn ∙ goes_on some;
    }

    -- what halts a sweep halts the schedule
    pub sweep_halts : list_any has_step runs ≡ true → (halt : Halt)
        → HaltsBy (world_in m p) p (reverse (flat_map run_steps runs) ++ (reverse (throws_of p p.attack words).0 ++ so_far.steps)) halt
        → HaltsBy (world_in m p) p (schedule (world_in m p) p) halt
    sweep_halts some halt by =
        let taken : List Step = reverse (flat_map run_steps runs) ++ (reverse (throws_of p p.attack words).0 ++ so_far.steps) in
        let grown = sweeps_grow (world_in m p) p k (made_by (world_in m p) p so_far.steps) (throws_of p p.attack words).1 taken in
        subst (λ (l : List Step). HaltsBy (world_in m p) p l halt) (sym grown.is ∙ goes_on some) (halts_later (world_in m p) p grown.later taken halt by)

    pub garbage_halts : list_any has_step runs ≡ true → (halt : Halt)
        → HaltsBy (world_in m p) p (reverse (throws_of p p.attack words).0 ++ so_far.steps) halt
        → HaltsBy (world_in m p) p (schedule (world_in m p) p) halt
    garbage_halts some halt by =
        sweep_halts some halt (halts_later (world_in m p) p (reverse (flat_map run_steps runs)) (reverse (throws_of p p.attack words).0 ++ so_far.steps) halt by)
