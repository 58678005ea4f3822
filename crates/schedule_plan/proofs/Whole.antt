-- A schedule with one sweep or pick more than it may have steps is whole, or has met a limit.
use Rattle.std.proofs.Common.{◌≡◌, ◌≢◌, ℕ, zero, suc, ◌+◌, ◌%◌, ◌<◌, ◌≤◌, ◌==◌, Bool, true, false, List, [], ◌∷◌, ◌++◌, length, reverse, Option, Some, None, refl, sym, ◌∙◌, ap, subst, inl, inr, append_assoc, length-append, if◌then◌else◌, arith}
use Rattle.std.specs.Prelude.{◌⊎◌, min}
use Rattle.std.specs.List.{slice_get}
use Rattle.std.proofs.Math.Nat.{min-le_right, le-min}
use Rattle.std.proofs.lemmas.Bool.{eqb-false, not-true}
use Rattle.std.proofs.lemmas.List.{length-reverse}
use Rattle.std.proofs.lemmas.Nat.{mod_below}
use Rattle.ritas_base.specs.declared.plan.Plan.{Plan}
use Rattle.ritas_base.specs.declared.plan.Order.{Order}
use Rattle.ritas_base.specs.declared.plan.Order.TheVariants.{Sweep, Random}
use Rattle.rand_pcg.specs.Lcg.{Lcg}
use Rattle.rand_pcg.specs.Pcg.{pcg32}
use Rattle.world_model.specs.World.{Setting}
use Rattle.world_model.specs.declared.player.Player.{Player}
use Rattle.world_model.specs.Players.{Step, Go, Carry, scene_of}
use Rattle.world_model.proofs.Members.{has_passing, got_listed}
use Rattle.schedule_plan.specs.Plans.{cast_of}
use Rattle.schedule_plan.specs.Inputs.{inputs_of}
use Rattle.schedule_plan.specs.Garbage.{words_start, throws_of}
use Rattle.schedule_plan.specs.Sweeps.{FrameCounts, none_yet, frame_counts, sweep_of, sweeps}
use Rattle.schedule_plan.specs.Picks.{Choice, Turning, Passing, has_some, unpassed, is_open_choice, all_choices, choices_of, Picking, frame_carried, choice_taken, garbled, pick, picks}
use Rattle.schedule_plan.specs.Schedule.{step_limit, steps_by_order, steps_of, schedule, limit_met}
use Rattle.schedule_plan.specs.Laws.{WholeLaw}
use Rattle.schedule_plan.proofs.Limits.{limit_stays, within_steps}

-- ---- steps on top of others

-- these are those with so many steps or more on top
pub record Grows (n : ℕ) (few many : List Step) : Type 0 where
  pub later : List Step
  pub is : many ≡ later ++ few
  pub least : n ≤ length later

pub grows_none : (steps : List Step) → Grows 0 steps steps
grows_none steps = record { later = []; is = refl; least = omega arith }

pub grows_one : (step : Step) (steps : List Step) → Grows 1 steps (step ∷ steps)
grows_one step steps = record { later = step ∷ []; is = refl; least = omega arith }

pub grows_by : (later steps : List Step) → Grows (length later) steps (later ++ steps)
grows_by later steps = record { later = later; is = refl; least = omega arith }

pub grows_less : (n k : ℕ) (few many : List Step) → k ≤ n → Grows n few many → Grows k few many
grows_less n k few many within grown = record { later = grown.later; is = grown.is; least = let least = grown.least in omega (arith, least, within) }

pub grows_on : (m n : ℕ) (a b c : List Step) → Grows m a b → Grows n b c → Grows (m + n) a c
grows_on m n a b c first second = record {
  later = second.later ++ first.later;
  is = second.is ∙ ap (λ steps. second.later ++ steps) first.is ∙ sym (append_assoc second.later first.later a);
  least = let many = length-append second.later first.later in let one = first.least in let two = second.least in omega (arith, many, one, two);
}

pub grown_length : (n : ℕ) (few many : List Step) → Grows n few many → n ≤ length many
grown_length n few many grown =
    let all = ap length grown.is in let parts = length-append grown.later few in let least = grown.least in omega (arith, all, parts, least)

-- ---- k rounds, and later ones

-- they came to their end, so that more make the same; or each had a step, and the later ones go on
abbrev pub GoesOn : ℕ → List Step → List Step → List Step → Type 0
GoesOn k steps few many = (many ≡ few) ⊎ (Grows k steps few × Grows 0 few many)

-- a round with a step comes before them
goes_before : (k : ℕ) (steps next few many : List Step) → Grows 1 steps next → GoesOn k next few many → GoesOn (suc k) steps few many
goes_before k steps next few many one (inl same) = inl same
goes_before k steps next few many one (inr grown) = inr (grows_less (1 + k) (suc k) steps few (omega arith) (grows_on 1 k steps next few one grown.0), grown.1)

grows_before : (steps next many : List Step) → Grows 1 steps next → Grows 0 next many → Grows 0 steps many
grows_before steps next many one grown = grows_less (1 + 0) 0 steps many (omega arith) (grows_on 1 0 steps next many one grown)

-- where a test says so, it is the end
end_if : (b : Bool) (k : ℕ) (steps few many : List Step) → (b ≡ false → GoesOn k steps few many) → GoesOn k steps (if b then steps else few) (if b then steps else many)
end_if true k steps few many on = inl refl
end_if false k steps few many on = on refl

end_unless : (b : Bool) (k : ℕ) (steps few many : List Step) → (b ≡ true → GoesOn k steps few many) → GoesOn k steps (if b then few else steps) (if b then many else steps)
end_unless true k steps few many on = on refl
end_unless false k steps few many on = inl refl

stay_if : (b : Bool) (steps many : List Step) → (b ≡ false → Grows 0 steps many) → Grows 0 steps (if b then steps else many)
stay_if true steps many grown = grows_none steps
stay_if false steps many grown = grown refl

stay_unless : (b : Bool) (steps many : List Step) → (b ≡ true → Grows 0 steps many) → Grows 0 steps (if b then many else steps)
stay_unless true steps many grown = grown refl
stay_unless false steps many grown = grows_none steps

-- ---- sweeps

-- a sweep that has a step adds to the steps, with the garbage before it
pub sweep_grows : (next thrown steps : List Step) → (length next == 0) ≡ false → Grows 1 steps (reverse next ++ reverse thrown ++ steps)
sweep_grows next thrown steps some =
    let apart : length next ≢ 0 = eqb-false (length next) 0 some in
    let many = length-append (reverse next) (reverse thrown) in
    let turned = length-reverse next in
    record { later = reverse next ++ reverse thrown; is = refl; least = omega (arith, apart, many, turned) }

pub sweeps_grow : (w : Setting) (p : Plan) (k : ℕ) (before : FrameCounts) (g : Lcg) (steps : List Step) → Grows 0 steps (sweeps k w p before g steps)
sweeps_grow w p zero before g steps = grows_none steps
sweeps_grow w p (suc k) before g steps =
    let c = cast_of p.attack in
    let s = scene_of w c steps in
    let next = sweep_of w p before s in
    let thrown = throws_of p p.attack g in
    let more = reverse next ++ reverse thrown.0 ++ steps in
    stay_if (length next == 0) steps (sweeps k w p (frame_counts w c s) thrown.1 more) (λ some.
    grows_before steps more (sweeps k w p (frame_counts w c s) thrown.1 more) (sweep_grows next thrown.0 steps some) (sweeps_grow w p k (frame_counts w c s) thrown.1 more))

pub sweeps_on : (w : Setting) (p : Plan) (k far : ℕ) → k ≤ far → (before : FrameCounts) (g : Lcg) (steps : List Step)
    → GoesOn k steps (sweeps k w p before g steps) (sweeps far w p before g steps)
sweeps_on w p zero far within before g steps = inr (grows_none steps, sweeps_grow w p far before g steps)
sweeps_on w p (suc k) zero within before g steps = absurd (omega (arith, within))
sweeps_on w p (suc k) (suc far) within before g steps =
    let c = cast_of p.attack in
    let s = scene_of w c steps in
    let next = sweep_of w p before s in
    let thrown = throws_of p p.attack g in
    let more = reverse next ++ reverse thrown.0 ++ steps in
    let few = sweeps k w p (frame_counts w c s) thrown.1 more in
    let many = sweeps far w p (frame_counts w c s) thrown.1 more in
    end_if (length next == 0) (suc k) steps few many (λ some.
    goes_before k steps more few many (sweep_grows next thrown.0 steps some) (sweeps_on w p k far (omega (arith, within)) (frame_counts w c s) thrown.1 more))

-- ---- picks

-- the element at a place of a list
record IsAt {X : Type 0} (xs : List X) (m : ℕ) : Type 0 where
  element : X
  is : slice_get xs m ≡ Some element

element_at : {X : Type 0} (xs : List X) (m : ℕ) → m < length xs → IsAt xs m
element_at [] m below = absurd (omega (arith, below))
element_at (x ∷ xs) zero below = record { element = x; is = refl }
element_at (x ∷ xs) (suc m) below = let rest = element_at xs m (omega (arith, below)) in record { element = rest.element; is = rest.is }

some_left : {X : Type 0} (xs : List X) → has_some xs ≡ true → 0 < length xs
some_left xs some = let apart : length xs ≢ 0 = eqb-false (length xs) 0 (not-true (length xs == 0) some) in omega (arith, apart)

carried_grows : (q : Picking) (g : Lcg) (u : ℕ) (x y : Player) (o : Option ℕ) → Grows 0 q.steps (frame_carried q g u x y o).steps
carried_grows q g u x y None = grows_none q.steps
carried_grows q g u x y (Some m) = grows_less 1 0 q.steps (Carry x y m ∷ q.steps) (omega arith) (grows_one (Carry x y m) q.steps)

taken_grows : (w : Setting) (p : Plan) (q : Picking) (g : Lcg) (o : Option Choice) → Grows 0 q.steps (choice_taken w p q g o).steps
taken_grows w p q g None = grows_none q.steps
taken_grows w p q g (Some (Turning y)) = grows_less 1 0 q.steps (Go y ∷ q.steps) (omega arith) (grows_one (Go y) q.steps)
taken_grows w p q g (Some (Passing x y)) = carried_grows q _ _ x y _

-- a choice that is open has a step
open_grows : (w : Setting) (p : Plan) (q : Picking) (g : Lcg) (choice : Choice) → is_open_choice w (cast_of p.attack) (scene_of w (cast_of p.attack) q.steps) q.passed choice ≡ true
    → Grows 1 q.steps (choice_taken w p q g (Some choice)).steps
open_grows w p q g (Turning y) is = grows_one (Go y) q.steps
open_grows w p q g (Passing x y) is =
    let frames = unpassed w (cast_of p.attack) (scene_of w (cast_of p.attack) q.steps) q.passed x y in
    let u = pcg32 g in
    let some : 0 < min 8 (length frames) = le-min {k = 1} {a = 8} {b = length frames} (omega arith) (some_left frames is) in
    let below = mod_below u.0 (min 8 (length frames)) some in
    let most = min-le_right 8 (length frames) in
    let at = element_at frames (u.0 % min 8 (length frames)) (omega (arith, below, most)) in
    subst (λ (o : Option ℕ). Grows 1 q.steps (frame_carried q u.1 u.0 x y o).steps) (sym at.is) (grows_one (Carry x y at.element) q.steps)

-- behind garbage, too
garbled_grows : (w : Setting) (p : Plan) (q : Picking) (thrown : List Step) (words g : Lcg) (choice : Choice)
    → is_open_choice w (cast_of p.attack) (scene_of w (cast_of p.attack) q.steps) q.passed choice ≡ true
    → Grows 1 q.steps (choice_taken w p (record { steps = reverse thrown ++ q.steps; passed = q.passed; words = words }) g (Some choice)).steps
garbled_grows w p q [] words g choice is = open_grows w p (record { steps = q.steps; passed = q.passed; words = words }) g choice is
garbled_grows w p q (step ∷ thrown) words g choice is =
    let behind : Picking = record { steps = reverse (step ∷ thrown) ++ q.steps; passed = q.passed; words = words } in
    let many = length-reverse (step ∷ thrown) in
    grows_on 1 0 q.steps behind.steps (choice_taken w p behind g (Some choice)).steps
    (grows_less (length (reverse (step ∷ thrown))) 1 q.steps behind.steps (omega (arith, many)) (grows_by (reverse (step ∷ thrown)) q.steps))
    (taken_grows w p behind g (Some choice))

pub pick_grows : (w : Setting) (p : Plan) (number : ℕ) (q : Picking) → has_some (choices_of w p (scene_of w (cast_of p.attack) q.steps) q.passed) ≡ true
    → Grows 1 q.steps (pick w p number q).steps
pick_grows w p number q some =
    let c = cast_of p.attack in
    let s = scene_of w c q.steps in
    let choices = choices_of w p s q.passed in
    let g = garbled p number q in
    let thrown = if number % 256 == 0 then throws_of p p.attack q.words else ([], q.words) in
    let word = pcg32 g.words in
    let at = element_at choices (word.0 % length choices) (mod_below word.0 (length choices) (some_left choices some)) in
    let is = has_passing (is_open_choice w c s q.passed) (all_choices p) at.element (got_listed choices (word.0 % length choices) at.element at.is) in
    subst (λ (o : Option Choice). Grows 1 q.steps (choice_taken w p (record g { words = word.1 }) word.1 o).steps) (sym at.is)
    (garbled_grows w p q thrown.0 word.1 word.1 at.element is.1)

pub picks_grow : (w : Setting) (p : Plan) (k number : ℕ) (q : Picking) → Grows 0 q.steps (picks k w p number q)
picks_grow w p zero number q = grows_none q.steps
picks_grow w p (suc k) number q =
    let next = pick w p number q in
    stay_unless (has_some (choices_of w p (scene_of w (cast_of p.attack) q.steps) q.passed)) q.steps (picks k w p (number + 1) next) (λ some.
    grows_before q.steps next.steps (picks k w p (number + 1) next) (pick_grows w p number q some) (picks_grow w p k (number + 1) next))

pub picks_on : (w : Setting) (p : Plan) (k far : ℕ) → k ≤ far → (number : ℕ) (q : Picking) → GoesOn k q.steps (picks k w p number q) (picks far w p number q)
picks_on w p zero far within number q = inr (grows_none q.steps, picks_grow w p far number q)
picks_on w p (suc k) zero within number q = absurd (omega (arith, within))
picks_on w p (suc k) (suc far) within number q =
    let next = pick w p number q in
    let few = picks k w p (number + 1) next in
    let many = picks far w p (number + 1) next in
    end_unless (has_some (choices_of w p (scene_of w (cast_of p.attack) q.steps) q.passed)) (suc k) q.steps few many (λ some.
    goes_before k q.steps next.steps few many (pick_grows w p number q some) (picks_on w p k far (omega (arith, within)) (number + 1) next))

-- ---- the schedule of a plan

-- in either order
pub order_goes_on : (w : Setting) (p : Plan) (k far : ℕ) → k ≤ far → (order : Order) → GoesOn k (reverse (inputs_of p)) (steps_by_order k w p order) (steps_by_order far w p order)
order_goes_on w p k far within Sweep = sweeps_on w p k far within none_yet (words_start p) (reverse (inputs_of p))
order_goes_on w p k far within Random = picks_on w p k far within 0 (record { steps = reverse (inputs_of p); passed = []; words = words_start p })

-- with so many rounds a limit is met before there are more
same_within : (w : Setting) (p : Plan) (steps few many : List Step) → GoesOn (step_limit + 1) steps few many → limit_met w p few ≡ None → many ≡ few
same_within w p steps few many (inl same) none = same
same_within w p steps few many (inr grown) none = let most = within_steps w p few none in let least = grown_length (step_limit + 1) steps few grown.0 in absurd (omega (arith, most, least))

same_limit : (w : Setting) (p : Plan) (k x : ℕ) (steps few many : List Step) → GoesOn k steps few many → limit_met w p few ≡ Some x → limit_met w p many ≡ Some x
same_limit w p k x steps few many (inl same) met = subst (λ (s : List Step). limit_met w p s ≡ Some x) (sym same) met
same_limit w p k x steps few many (inr grown) met = subst (λ (s : List Step). limit_met w p s ≡ Some x) (sym grown.1.is) (limit_stays w p grown.1.later few x met)

pub whole_law : WholeLaw
unfolding schedule steps_of
whole_law w p more =
    let few = steps_by_order (step_limit + 1) w p p.order in
    let many = steps_by_order (more + (step_limit + 1)) w p p.order in
    let on = order_goes_on w p (step_limit + 1) (more + (step_limit + 1)) (omega arith) p.order in
    (same_within w p (reverse (inputs_of p)) few many on, λ x met. same_limit w p (step_limit + 1) x (reverse (inputs_of p)) few many on met)
