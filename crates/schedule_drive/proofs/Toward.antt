-- A stage on the way to a list of steps.
use Rattle.std.proofs.Common.{◌≡◌, ℕ, suc, ◌+◌, ◌-◌, ◌<◌, ◌≤◌, List, [], ◌∷◌, ◌++◌, reverse, Result, Ok, Err, sym, ◌∙◌, ap, subst, append_assoc, arith}
use Rattle.std.specs.List.{range_with_len}
use Rattle.std.proofs.lemmas.List.{reverse-append}
use Rattle.ritas_base.specs.declared.plan.Plan.{Plan}
use Rattle.ritas_base.specs.declared.what.DriveWhat.{DriveWhat}
use Rattle.keyed_channel.specs.Keyed.{CoinSeed}
use Rattle.keyed_channel.specs.KeyRow.{KeyRow}
use Rattle.ritas_core.specs.Stands.{Meaning}
use Rattle.world_model.specs.World.{Setting}
use Rattle.world_model.specs.Players.{Step}
use Rattle.schedule_plan.proofs.Limits.{limit_stays}
use Rattle.schedule_stage.specs.declared.halt.Halt.{Halt}
use Rattle.schedule_stage.specs.declared.halt.Halt.TheVariants as halts
use Rattle.schedule_stage.specs.declared.stage.Stage.{Stage}
use Rattle.schedule_stage.specs.Stage.{IsStage, Reaches}
use Rattle.schedule_stage.specs.Worlds.{world_in, HaltsBy}

-- the stage stands for so many steps that with the rest, the oldest first, they are what is to be reached
pub record IsToward {S E : Type 0} (m : Meaning S E CoinSeed KeyRow) (p : Plan) (what : DriveWhat) (stage : Stage S E) (rest target : List Step) : Type 0 where
  pub steps : List Step
  pub stands : IsStage m p what stage steps
  pub whole : reverse rest ++ steps ≡ target

-- it comes so far, or a limit is passed on the way, or memory ran out
abbrev pub Nears : {S E : Type 0} → Meaning S E CoinSeed KeyRow → Plan → DriveWhat → Stage S E → List Step → List Step → Result (Unit {0}) Halt → Type 0
Nears m p what stage rest target (Ok done) = IsToward m p what stage rest target
Nears m p what stage rest target (Err halt) = HaltsBy (world_in m p) p target halt

-- the first part of the rest, and then the other
pub in_parts : (first rest steps : List Step) → reverse (first ++ rest) ++ steps ≡ reverse rest ++ (reverse first ++ steps)
in_parts first rest steps = ap (λ (l : List Step). l ++ steps) (reverse-append first rest) ∙ append_assoc (reverse rest) (reverse first) steps

-- a halt on the way is one of what is to be reached
pub halts_later : (w : Setting) (p : Plan) (more steps : List Step) (halt : Halt) → HaltsBy w p steps halt → HaltsBy w p (more ++ steps) halt
halts_later w p more steps (halts.Limit x) met = limit_stays w p more steps x met
halts_later w p more steps halts.Mem met = tt

module _ {S E : Type 0} (m : Meaning S E CoinSeed KeyRow) (p : Plan) (what : DriveWhat) where
  pub sets_out : (stage : Stage S E) (rest other steps : List Step) → rest ≡ other → IsStage m p what stage steps → IsToward m p what stage rest (reverse other ++ steps)
  sets_out stage rest other steps same stands = record { steps = steps; stands = stands; whole = ap (λ (l : List Step). reverse l ++ steps) same }

  pub arrives : (stage : Stage S E) (rest target : List Step) → rest ≡ [] → IsToward m p what stage rest target → IsStage m p what stage target
  arrives stage rest target none toward = subst (IsStage m p what stage) (ap (λ (l : List Step). reverse l ++ toward.steps) (sym none) ∙ toward.whole) toward.stands

  -- the first part was taken
  pub comes_nearer : (old new : Stage S E) (first rest all target : List Step) → all ≡ first ++ rest → (toward : IsToward m p what old all target)
      → IsStage m p what new (reverse first ++ toward.steps) → IsToward m p what new rest target
  comes_nearer old new first rest all target same toward stands = record {
    steps = reverse first ++ toward.steps;
    stands = stands;
    whole = sym (in_parts first rest toward.steps) ∙ ap (λ (l : List Step). reverse l ++ toward.steps) (sym same) ∙ toward.whole;
  }

  -- or the first part was not taken, for a cause that stays
  pub halts_on_way : (old : Stage S E) (first rest all target : List Step) (halt : Halt) → all ≡ first ++ rest → (toward : IsToward m p what old all target)
      → HaltsBy (world_in m p) p (reverse first ++ toward.steps) halt → HaltsBy (world_in m p) p target halt
  halts_on_way old first rest all target halt same toward by =
      subst (λ (l : List Step). HaltsBy (world_in m p) p l halt)
      (sym (in_parts first rest toward.steps) ∙ ap (λ (l : List Step). reverse l ++ toward.steps) (sym same) ∙ toward.whole)
      (halts_later (world_in m p) p (reverse rest) (reverse first ++ toward.steps) halt by)

  -- so it is after a call that takes the first part
  pub nears : (old new : Stage S E) (first rest all target : List Step) → all ≡ first ++ rest → (toward : IsToward m p what old all target)
      → (r : Result (Unit {0}) Halt) → Reaches m p what new (reverse first ++ toward.steps) r → Nears m p what new rest target r
  nears old new first rest all target same toward (Ok done) stands = comes_nearer old new first rest all target same toward stands
  nears old new first rest all target same toward (Err halt) by = halts_on_way old first rest all target halt same toward by

-- ---- numbers

-- the numbers from k below n
abbrev pub up_to : ℕ → ℕ → List ℕ
up_to k n = range_with_len k (n - k)

pub next_up : (k n : ℕ) → k < n → up_to k n ≡ k ∷ up_to (k + 1) n
next_up k n below = ap (range_with_len k) (let e : n - k ≡ suc (n - (k + 1)) = omega (arith, below) in e)

pub none_up : (k n : ℕ) → n ≤ k → up_to k n ≡ []
none_up k n above = ap (range_with_len k) (let e : n - k ≡ 0 = omega (arith, above) in e)

pub all_up : (n : ℕ) → up_to 0 n ≡ range_with_len 0 n
all_up n = ap (range_with_len 0) (let e : n - 0 ≡ n = omega arith in e)
