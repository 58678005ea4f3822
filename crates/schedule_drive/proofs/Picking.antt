-- Picks follow one another.
use Rattle.std.proofs.Common.{◌≡◌, ◌≢◌, ℕ, suc, ◌+◌, ◌-◌, ◌*◌, ◌%◌, ◌^◌, ◌<◌, ◌≤◌, ◌==◌, Bool, true, false, not, List, [], ◌∷◌, ◌++◌, length, map, filter, reverse, Option, Some, None, Result, Err, refl, sym, ◌∙◌, ap, ap₂, subst, if◌then◌else◌, length-append, arith}
use Rattle.std.specs.Prelude.{min}
use Rattle.std.specs.Result.{IsErrAnd}
use Rattle.std.specs.List.{slice_get, flat_map}
use Rattle.std.proofs.lemmas.Bool.{eq-eqb, ne_eqb}
use Rattle.std.proofs.lemmas.List.{length-map}
use Rattle.std.proofs.lemmas.Nat.{mod_below}
use Rattle.std.proofs.lemmas.List.FromFn.{length-range_with_len}
use Rattle.std.proofs.lemmas.List.Sums.{length-filter, count_by-le-length}
use Rattle.std.proofs.lemmas.Result.{err_from_is_err_and}
use Rattle.rand_pcg.specs.Lcg.{Lcg}
use Rattle.rand_pcg.specs.Pcg.{pcg32}
use Rattle.ritas_base.specs.Numbers.{IsSession}
use Rattle.ritas_base.specs.History.{replicas}
use Rattle.ritas_base.specs.declared.plan.Plan.{Plan}
use Rattle.ritas_base.specs.declared.plan.Order.TheVariants.{Random}
use Rattle.ritas_base.specs.declared.plan.Attack.{Attack}
use Rattle.ritas_base.specs.declared.plan.Attack.TheVariants.{Absent, Silent, TwoFace, Flip, Garbage}
use Rattle.ritas_base.specs.declared.what.DriveWhat.{DriveWhat}
use Rattle.keyed_channel.specs.Keyed.{CoinSeed}
use Rattle.keyed_channel.specs.KeyRow.{KeyRow}
use Rattle.ritas_core.specs.Stands.{Meaning}
use Rattle.world_model.specs.World.{Setting}
use Rattle.world_model.specs.declared.player.Player.{Player}
use Rattle.world_model.specs.declared.player.Player.TheVariants.{Correct}
use Rattle.world_model.specs.Players.{Step, Go, Carry, scene_of}
use Rattle.schedule_plan.specs.Plans.{cast_of, faces_of, is_correct_in, players_at, players_of, are_linked, linked_from}
use Rattle.schedule_plan.specs.Inputs.{inputs_of}
use Rattle.schedule_plan.specs.Garbage.{words_start, throws_of}
use Rattle.schedule_plan.specs.Picks as picks
use Rattle.schedule_plan.specs.Picks.{Turning, Passing, Picking, has_some, is_open_choice, passings_of, all_choices, choices_of, frame_carried, choice_taken, garbled, pick}
use Rattle.schedule_plan.specs.Schedule.{step_limit, steps_by_order, steps_of, schedule, limit_met}
use Rattle.schedule_plan.proofs.Limits.{limit_stays}
use Rattle.schedule_plan.proofs.Whole.{picks_grow}
use Rattle.schedule_stage.specs.declared.halt.Halt.{Halt}
use Rattle.schedule_stage.specs.declared.halt.Halt.TheVariants as halts
use Rattle.schedule_stage.specs.declared.stage.Stage.{Stage}
use Rattle.schedule_stage.specs.Stage.{Reaches}
use Rattle.schedule_stage.specs.Worlds.{world_in, HaltsBy}
use Rattle.schedule_drive.specs.declared.picker.Choice.{Choice}
use Rattle.schedule_drive.specs.declared.picker.Picker.{Picker}
use Rattle.schedule_drive.specs.Choices.{open_in, open_all}
use Rattle.schedule_drive.specs.Pickers.{waits_in, counts_in, IsPicker, IsChosen, IsChoice, PickingStands, open_rows}
use Rattle.schedule_drive.proofs.Pickers.{IsTest, choices_many, chosen_is}
use Rattle.schedule_drive.proofs.Scenes.{more_by_steps}

-- ---- halts

-- a halt on the way is one of more steps
pub halts_later : (w : Setting) (p : Plan) (later few many : List Step) (halt : Halt) → many ≡ later ++ few → HaltsBy w p few halt → HaltsBy w p many halt
halts_later w p later few many halts.Mem is by = tt
halts_later w p later few many (halts.Limit x) is by = subst (λ (steps : List Step). limit_met w p steps ≡ Some x) (sym is) (limit_stays w p later few x by)

-- an error of a call is passed on
pub reaches_halt : {S E : Type 0} (m : Meaning S E CoinSeed KeyRow) (p : Plan) (what : DriveWhat) (stage : Stage S E) (steps : List Step) (result : Result (Unit {0}) Halt) (halt : Halt)
    → IsErrAnd result (λ h. h ≡ halt) → HaltsBy (world_in m p) p steps halt → Reaches m p what stage steps result
reaches_halt m p what stage steps result halt is by =
    let err = err_from_is_err_and result is in
    let same : result ≡ Err halt = err.1 ∙ ap (λ (h : Halt). Err h) err.2 in
    subst (Reaches m p what stage steps) (sym same) by

-- ---- garbage

pub garbled_now : (p : Plan) (number : ℕ) (q : Picking) → number % 256 ≡ 0 → (reverse (throws_of p p.attack q.words).0 ++ q.steps) ≡ (garbled p number q).steps
garbled_now p number q at = sym (ap (λ b. reverse (if b then throws_of p p.attack q.words else ([], q.words)).0 ++ q.steps) (eq-eqb (number % 256) 0 at))

-- what comes of a choice is on top of what was there
pub record IsOnTop (few many : List Step) : Type 0 where
  pub later : List Step
  pub is : many ≡ later ++ few

carried_on : (q : Picking) (g : Lcg) (u : ℕ) (x y : Player) (o : Option ℕ) → IsOnTop q.steps (frame_carried q g u x y o).steps
carried_on q g u x y None = record { later = []; is = refl }
carried_on q g u x y (Some m) = record { later = Carry x y m ∷ []; is = refl }

pub taken_on : (w : Setting) (p : Plan) (q : Picking) (g : Lcg) (o : Option picks.Choice) → IsOnTop q.steps (choice_taken w p q g o).steps
taken_on w p q g None = record { later = []; is = refl }
taken_on w p q g (Some (Turning y)) = record { later = Go y ∷ []; is = refl }
taken_on w p q g (Some (Passing x y)) = carried_on q _ _ x y _

-- a halt at the garbage is one of the pick
pub pick_halts : (w : Setting) (p : Plan) (number : ℕ) (q : Picking) (halt : Halt) → HaltsBy w p (garbled p number q).steps halt → HaltsBy w p (pick w p number q).steps halt
pick_halts w p number q halt by =
    let choices = choices_of w p (scene_of w (cast_of p.attack) q.steps) q.passed in
    let g = garbled p number q in
    let word = pcg32 g.words in
    let on = taken_on w p (record g { words = word.1 }) word.1 (slice_get choices (word.0 % length choices)) in
    halts_later w p on.later g.steps (pick w p number q).steps halt on.is by

-- ---- how many choices there are

filter_most : {X : Type 0} (test : X → Bool) (xs : List X) → length (filter test xs) ≤ length xs
filter_most test xs = let same = length-filter test xs in let most = count_by-le-length test xs in omega (arith, same, most)

flat_most : {X Y : Type 0} (f : X → List Y) (k : ℕ) → ((x : X) → length (f x) ≤ k) → (xs : List X) → length (flat_map f xs) ≤ k * length xs
flat_most f k each [] = omega arith
flat_most f k each (x ∷ xs) =
    let more = flat_most f k each xs in
    let one = each x in
    let both = length-append (f x) (flat_map f xs) in
    let product : k * suc (length xs) ≡ k + k * length xs = grind arith in
    omega (arith, more, one, both, product)

faces_most : (attack : Attack) (i : ℕ) → length (faces_of attack i) ≤ 2
faces_most Absent i = omega arith
faces_most Silent i = omega arith
faces_most TwoFace i = omega arith
faces_most Flip i = omega arith
faces_most Garbage i = omega arith

players_at_most : (p : Plan) (i : ℕ) → length (players_at p i) ≤ 2
players_at_most p i = at (is_correct_in p i)
  where
    at : (b : Bool) → length (if b then Correct i ∷ [] else faces_of p.attack i) ≤ 2
    at true = omega arith
    at false = faces_most p.attack i

players_most : (p : Plan) → IsSession p.p → length (players_of p) ≤ 62
players_most p session =
    let most = flat_most (players_at p) 2 (players_at_most p) (replicas p.p.n) in
    let many = length-range_with_len 0 p.p.n in
    let few = session.most in
    omega (arith, most, many, few)

passings_most : (p : Plan) → IsSession p.p → (x : Player) → length (passings_of p x) ≤ 62
passings_most p session x =
    let same = length-map (linked_from p x) (Passing x) in
    let most = filter_most (λ y. are_linked p x y) (players_of p) in
    let all = players_most p session in
    omega (arith, same, most, all)

pub few_choices : (p : Plan) → IsSession p.p → (test : picks.Choice → Bool) → length (filter test (all_choices p)) < 2 ^ 64 - 1
few_choices p session test =
    let most = filter_most test (all_choices p) in
    let both = length-append (map Turning (players_of p)) (flat_map (passings_of p) (players_of p)) in
    let turns = length-map (players_of p) Turning in
    let pairs = flat_most (passings_of p) 62 (passings_most p session) (players_of p) in
    let players = players_most p session in
    omega (arith, most, both, turns, pairs, players)

-- ---- a choice

module _ (w : Setting) (p : Plan) (q : Picking) where
  abbrev pub choices_at : List picks.Choice
  choices_at = choices_of w p (scene_of w (cast_of p.attack) q.steps) q.passed

  tests : IsTest (waits_in w p q.steps) (counts_in w p q.steps) q.passed (is_open_choice w (cast_of p.attack) (scene_of w (cast_of p.attack) q.steps) q.passed)
  tests = record { turning = λ y. refl; passing = λ x y. refl }

  -- as many are counted as there are
  pub open_many : (picker : Picker) → IsPicker p (waits_in w p q.steps) (counts_in w p q.steps) q.passed picker → open_in picker.turns + open_all (open_rows picker) ≡ length choices_at
  open_many picker is =
      choices_many p (waits_in w p q.steps) (counts_in w p q.steps) q.passed (is_open_choice w (cast_of p.attack) (scene_of w (cast_of p.attack) q.steps) q.passed) tests picker is

  pub counted : (picker : Picker) → IsSession p.p → IsPicker p (waits_in w p q.steps) (counts_in w p q.steps) q.passed picker → (count : ℕ)
      → count ≡ min (2 ^ 64 - 1) (open_in picker.turns + open_all (open_rows picker)) → count ≡ length choices_at
  counted picker session is count counts =
      let many = open_many picker is in
      let few = few_choices p session (is_open_choice w (cast_of p.attack) (scene_of w (cast_of p.attack) q.steps) q.passed) in
      omega (arith, many, few, counts)

  pub picked_at : (picker : Picker) → IsPicker p (waits_in w p q.steps) (counts_in w p q.steps) q.passed picker → (n : ℕ) (choice : Choice) → IsChosen picker n choice
      → (ch : picks.Choice) × IsChoice p choice ch × (slice_get choices_at n ≡ Some ch)
  picked_at picker is n choice chosen =
      let found = chosen_is p (waits_in w p q.steps) (counts_in w p q.steps) q.passed (is_open_choice w (cast_of p.attack) (scene_of w (cast_of p.attack) q.steps) q.passed) tests picker is n choice chosen in
      (found.picked, found.is, found.got)

  -- so many are open, and one of them is drawn
  pub one_there : (picker : Picker) → IsPicker p (waits_in w p q.steps) (counts_in w p q.steps) q.passed picker → (word count : ℕ) → 0 < count → count ≡ length choices_at
      → open_in picker.turns + open_all (open_rows picker) ≤ word % count → ⊥
  one_there picker is word count some same above =
      let many = open_many picker is in
      let below = mod_below word count some in
      omega (arith, many, below, above, same)

-- ---- a choice is drawn

-- what there is behind the garbage and the word of a pick
abbrev pub before_pick : Plan → ℕ → Picking → Picking
before_pick p number q =
    let thrown = garbled p number q in
    record { steps = thrown.steps; passed = q.passed; words = (pcg32 thrown.words).1 }

-- this choice is the one that is drawn
pub record IsDrawn (w : Setting) (p : Plan) (number : ℕ) (q : Picking) (choice : Choice) : Type 0 where
  pub found : picks.Choice
  pub is : IsChoice p choice found
  pub there : slice_get (choices_at w p q) ((pcg32 (garbled p number q).words).0 % length (choices_at w p q)) ≡ Some found

pub drawn_of : (w : Setting) (p : Plan) (number : ℕ) (q : Picking) (picker : Picker) → IsPicker p (waits_in w p q.steps) (counts_in w p q.steps) q.passed picker
    → (word count : ℕ) (choice : Choice) → word ≡ (pcg32 (garbled p number q).words).0 → count ≡ length (choices_at w p q) → IsChosen picker (word % count) choice → IsDrawn w p number q choice
drawn_of w p number q picker is word count choice drawn same chosen =
    let found = picked_at w p q picker is (word % count) choice chosen in
    record {
      found = found.0;
      is = found.1;
      there = ap₂ (λ (u k : ℕ). slice_get (choices_at w p q) (u % k)) (sym drawn) (sym same) ∙ found.2;
    }

-- ---- the loop

abbrev pub first_of : Plan → Picking
first_of p = record { steps = reverse (inputs_of p); passed = []; words = words_start p }

limit_is : step_limit ≡ 4000000
unfolding step_limit
limit_is = refl

schedule_is : (w : Setting) (p : Plan) → p.order ≡ Random → schedule w p ≡ picks.picks (step_limit + 1) w p 0 (first_of p)
unfolding schedule steps_of
schedule_is w p random = ap (λ order. steps_by_order (step_limit + 1) w p order) random

pub record IsGoing {S E : Type 0} (m : Meaning S E CoinSeed KeyRow) (p : Plan) (what : DriveWhat) (stage : Stage S E) (picker : Picker) (words : Lcg) (number : ℕ) : Type 0 where
  pub picking : Picking
  pub stands : PickingStands m p what stage picker picking
  pub words_are : words ≡ picking.words
  pub rest : (more : ℕ) → number + more ≡ 4000001 → schedule (world_in m p) p ≡ picks.picks more (world_in m p) p number picking

pub first_rest : (w : Setting) (p : Plan) → p.order ≡ Random → (more : ℕ) → 0 + more ≡ 4000001 → schedule w p ≡ picks.picks more w p 0 (first_of p)
first_rest w p random more all =
    let limit = limit_is in
    let same : step_limit + 1 ≡ more = omega (arith, all, limit) in
    schedule_is w p random ∙ ap (λ (k : ℕ). picks.picks k w p 0 (first_of p)) same

module _ (w : Setting) (p : Plan) (number : ℕ) (q : Picking) (rest : (more : ℕ) → number + more ≡ 4000001 → schedule w p ≡ picks.picks more w p number q) where
  some_open : (count : ℕ) → count ≡ length (choices_at w p q) → count ≢ 0 → has_some (choices_at w p q) ≡ true
  some_open count is some = ap not (ne_eqb (length (choices_at w p q)) 0 (λ none. some (is ∙ none)))

  -- one pick more
  pub next_rest : (count : ℕ) → count ≡ length (choices_at w p q) → count ≢ 0 → (more : ℕ) → (number + 1) + more ≡ 4000001 → schedule w p ≡ picks.picks more w p (number + 1) (pick w p number q)
  next_rest count is some more all =
      rest (suc more) (omega (arith, all)) ∙ ap (λ b. if b then picks.picks more w p (number + 1) (pick w p number q) else q.steps) (some_open count is some)

  -- the end, where nothing is open
  pub none_open : (count : ℕ) → count ≡ length (choices_at w p q) → count ≡ 0 → number < 4000001 → schedule w p ≡ q.steps
  none_open count is none below =
      let more = 4000000 - number in
      rest (suc more) (omega (arith, below))
      ∙ ap (λ b. if not b then picks.picks more w p (number + 1) (pick w p number q) else q.steps) (eq-eqb (length (choices_at w p q)) 0 (sym is ∙ none))

  -- or where there are no more picks
  pub none_left : 4000001 ≤ number → number ≤ 4000001 → schedule w p ≡ q.steps
  none_left least most = rest 0 (omega (arith, least, most))

  -- a halt at a pick is one of the schedule
  pub schedule_halts : (count : ℕ) → count ≡ length (choices_at w p q) → count ≢ 0 → number < 4000001 → (halt : Halt) → HaltsBy w p (pick w p number q).steps halt → HaltsBy w p (schedule w p) halt
  schedule_halts count is some below halt by =
      let more = 4000000 - number in
      let next = pick w p number q in
      let grown = picks_grow w p more (number + 1) next in
      halts_later w p grown.later next.steps (schedule w p) halt (next_rest count is some more (omega (arith, below)) ∙ grown.is) by

-- no frame is lost by garbage
pub more_garbled : (w : Setting) (p : Plan) (number : ℕ) (q : Picking) (x y : Player) → counts_in w p q.steps x y ≤ counts_in w p (garbled p number q).steps x y
more_garbled w p number q x y =
    more_by_steps w (cast_of p.attack) (reverse (if number % 256 == 0 then throws_of p p.attack q.words else ([], q.words)).0) q.steps x y

-- where none comes, all is as it was
pub not_garbled : (p : Plan) (number : ℕ) (q : Picking) → number % 256 ≢ 0 → (garbled p number q).steps ≡ q.steps
not_garbled p number q other = ap (λ b. reverse (if b then throws_of p p.attack q.words else ([], q.words)).0 ++ q.steps) (ne_eqb (number % 256) 0 other)
