-- The runs of a sweep have its steps.
use Rattle.std.proofs.Common.{◌≡◌, ◌≢◌, ℕ, zero, suc, ◌+◌, ◌-◌, ◌<◌, ◌==◌, ◌||◌, not, List, [], ◌∷◌, ◌++◌, map, filter, length, get_or, take, drop, refl, sym, ◌∙◌, ap, ap₂, subst, append_assoc, inl, inr, arith}
use Rattle.std.specs.List.{flat_map, range_with_len, list_any}
use Rattle.std.proofs.lemmas.Bool.{cases_lt, le-ltb, lt-ltb, ltb-true, ne_eqb, eq-eqb}
use Rattle.std.proofs.Math.ListN.{set}
use Rattle.std.proofs.lemmas.List.{get_or_default, take_more, flat_map_more}
use Rattle.std.proofs.lemmas.List.Concat.{flat_map-append, flat_map-cons}
use Rattle.std.proofs.lemmas.List.Edits.{map_over_more}
use Rattle.std.proofs.lemmas.List.Folds.{flat_map-map}
use Rattle.std.proofs.lemmas.List.FromFn.{length-range_with_len, length-map-range_with_len}
use Rattle.std.proofs.lemmas.Simd.{map-map}
use Rattle.ritas_base.specs.declared.plan.Plan.{Plan}
use Rattle.layer_api.specs.Runs.{Has}
use Rattle.world_model.specs.World.{Setting}
use Rattle.world_model.specs.declared.player.Player.{Player}
use Rattle.world_model.specs.declared.player.Player.TheVariants.{Correct, Face}
use Rattle.world_model.specs.Players.{Step, Go, Carry, Scene, IsPlayer, number_of, scene_of, state_at}
use Rattle.world_model.proofs.Anywhere.{among_from, mapped_from}
use Rattle.world_model.proofs.Members.{has_passing}
use Rattle.schedule_plan.specs.Plans.{correct_of, cast_of, players_of, linked_to, are_linked}
use Rattle.schedule_plan.specs.Picks.{has_some}
use Rattle.schedule_plan.specs.Sweeps.{FrameCounts, none_yet, frame_counts, swept_at, sweep_of}
use Rattle.schedule_plan.proofs.Planned.{IsPlanned, player_is, linked_apart, some_correct}
use Rattle.schedule_stage.specs.Worlds.{waiting, count_made_for}
use Rattle.schedule_drive.specs.declared.runs.Run.{Run}
use Rattle.schedule_drive.specs.declared.runs.Run.TheVariants.{Turns, Frames}
use Rattle.schedule_drive.specs.Runs.{run_steps, has_step, no_wait, first_frames, runs_to, runs_by, renewed, IsPlayerRun}

-- ---- lists

map_flat_map : {X Y Z : Type 0} (f : Y → Z) (g : X → List Y) (xs : List X) → map f (flat_map g xs) ≡ flat_map (λ x. map f (g x)) xs
map_flat_map f g [] = refl
map_flat_map f g (x ∷ xs) = map_both f (g x) (flat_map g xs) ∙ ap (λ l. map f (g x) ++ l) (map_flat_map f g xs)
  where
    map_both : {Y Z : Type 0} (f : Y → Z) (xs ys : List Y) → map f (xs ++ ys) ≡ map f xs ++ map f ys
    map_both f [] ys = refl
    map_both f (x ∷ xs) ys = ap (λ l. f x ∷ l) (map_both f xs ys)

flat_flat : {X Y Z : Type 0} (f : Y → List Z) (g : X → List Y) (xs : List X) → flat_map f (flat_map g xs) ≡ flat_map (λ x. flat_map f (g x)) xs
flat_flat f g [] = refl
flat_flat f g (x ∷ xs) = flat_map-append f (g x) (flat_map g xs) ∙ ap (λ l. flat_map f (g x) ++ l) (flat_flat f g xs)

flat_same : {X Y : Type 0} (f g : X → List Y) (xs : List X) → ((x : X) → f x ≡ g x) → flat_map f xs ≡ flat_map g xs
flat_same f g [] same = refl
flat_same f g (x ∷ xs) same = ap₂ (λ a b. a ++ b) (same x) (flat_same f g xs same)

map_one : {X Y Z : Type 0} (z : Z) (xs : List X) (ys : List Y) → length xs ≡ length ys → map (λ _. z) xs ≡ map (λ _. z) ys
map_one z [] [] same = refl
map_one z [] (y ∷ ys) same = absurd (let e : 0 ≡ suc (length ys) = same in omega (arith, e))
map_one z (x ∷ xs) [] same = absurd (let e : suc (length xs) ≡ 0 = same in omega (arith, e))
map_one z (x ∷ xs) (y ∷ ys) same = ap (λ l. z ∷ l) (map_one z xs ys (let e : suc (length xs) ≡ suc (length ys) = same in omega (arith, e)))

pub listed_at : {X : Type 0} (xs : List X) (i : ℕ) (d : X) → i < length xs → Has xs (get_or xs i d)
listed_at [] i d below = absurd (omega (arith, below))
listed_at (x ∷ xs) zero d below = inl refl
listed_at (x ∷ xs) (suc i) d below = inr (listed_at xs i d (let b : suc i < suc (length xs) = below in omega (arith, b)))

-- of a list that is changed from its front on, the element behind what was changed, and one step
pub still_at : {X : Type 0} (f : X → X) (xs : List X) (i : ℕ) (d : X) → get_or (map f (take i xs) ++ drop i xs) i d ≡ get_or xs i d
still_at f [] zero d = refl
still_at f [] (suc i) d = refl
still_at f (x ∷ xs) zero d = refl
still_at f (x ∷ xs) (suc i) d = still_at f xs i d

pub changed_next : {X : Type 0} (f : X → X) (xs ys : List X) (i : ℕ) (y d : X) → i < length xs → length ys ≡ length xs → ys ≡ map f (take i xs) ++ drop i xs → y ≡ f (get_or ys i d)
    → set ys i y ≡ map f (take (i + 1) xs) ++ drop (i + 1) xs
changed_next f xs ys i y d below long is new =
    ap (set ys i) new ∙ map_over_more f xs ys i (get_or ys i d) below is (sym (get_or_default ys i (get_or ys i d) d (omega (arith, below, long))))

-- ---- the steps of runs

-- the first runs, to one player more
pub first_next : (p : Plan) (all frames_from : List Player) (before pushed now : List Run) (i : ℕ) (d : Player) → i < length all → frames_from ≡ players_of p
    → before ≡ flat_map (runs_to p none_yet none_yet no_wait) (take i all) → pushed ≡ before ++ Turns (get_or all i d) 0 ∷ []
    → now ≡ pushed ++ map (first_frames (get_or all i d)) (filter (λ x. are_linked p x (get_or all i d)) frames_from)
    → now ≡ flat_map (runs_to p none_yet none_yet no_wait) (take (i + 1) all)
first_next p all frames_from before pushed now i d below same so_far one more =
    let y = get_or all i d in
    let f = runs_to p none_yet none_yet no_wait in
    more ∙ ap₂ (λ (l : List Run) (from : List Player). l ++ map (first_frames y) (filter (λ x. are_linked p x y) from)) (one ∙ ap (λ (l : List Run). l ++ Turns y 0 ∷ []) so_far) same
    ∙ append_assoc (flat_map f (take i all)) (Turns y 0 ∷ []) (map (first_frames y) (linked_to p y))
    ∙ flat_map_more f [] (take i all) y
    ∙ ap (flat_map f) (sym (take_more all i d below))

-- how many frames each player has made for each other
abbrev pub made_by : Setting → Plan → List Step → FrameCounts
made_by w p steps = frame_counts w (cast_of p.attack) (scene_of w (cast_of p.attack) steps)

-- runs are renewed
pub renewed_are : (w : Setting) (p : Plan) (steps : List Step) (was before : FrameCounts) (waits : Player → ℕ)
    → map (renewed w p steps) (runs_by p was before waits) ≡ runs_by p before (made_by w p steps) (waiting w p steps)
renewed_are w p steps was before waits =
    map_flat_map (renewed w p steps) (runs_to p was before waits) (players_of p)
    ∙ flat_same (λ y. map (renewed w p steps) (runs_to p was before waits y)) (runs_to p before (made_by w p steps) (waiting w p steps)) (players_of p)
    (λ y. ap (λ l. Turns y (waiting w p steps y) ∷ l) (map-map (renewed w p steps) (λ x. Frames x y (was x y) (before x y)) (linked_to p y)))

-- the frames of one run, renewed
pub made_is : (w : Setting) (p : Plan) (steps : List Step) (x y : Player) (start end to count : ℕ) → to ≡ number_of (cast_of p.attack) y → IsPlayerRun w p (Frames x y start end)
    → (to < p.p.n → number_of (cast_of p.attack) x ≢ to → count ≡ count_made_for w p steps x to) → Frames x y end count ≡ renewed w p steps (Frames x y start end)
made_is w p steps x y start end to count same is made =
    let c = cast_of p.attack in
    ap (Frames x y end) (made (subst (λ (j : ℕ). j < p.p.n) (sym same) is.3) (subst (λ (j : ℕ). number_of c x ≢ j) (sym same) is.2) ∙ ap (count_made_for w p steps x) same)

-- their steps are those of a sweep
pub runs_sweep : (w : Setting) (p : Plan) (steps : List Step) (before : FrameCounts)
    → flat_map run_steps (runs_by p before (made_by w p steps) (waiting w p steps)) ≡ sweep_of w p before (scene_of w (cast_of p.attack) steps)
runs_sweep w p steps before =
    flat_flat run_steps (runs_to p before now waits) (players_of p)
    ∙ flat_same (λ y. flat_map run_steps (runs_to p before now waits y)) (swept_at w p before s) (players_of p)
    (λ y. ap₂ (λ a b. a ++ b)
    (map_one (Go y) (range_with_len 0 (waits y)) (state_at w s y).inbox (length-range_with_len 0 (waits y)))
    (flat_map-map run_steps (λ x. Frames x y (before x y) (now x y)) (linked_to p y)))
  where
    s : Scene
    s = scene_of w (cast_of p.attack) steps

    now : FrameCounts
    now = made_by w p steps

    waits : Player → ℕ
    waits = waiting w p steps

-- ---- whether there is a step

has_some_of : {X : Type 0} (xs ys : List X) → has_some (xs ++ ys) ≡ (has_some xs || has_some ys)
has_some_of [] ys = refl
has_some_of (x ∷ xs) ys = ap not (ne_eqb (suc (length (xs ++ ys))) 0 (λ e. omega (arith, e))) ∙ sym (ap (λ b. not b || has_some ys) (ne_eqb (suc (length xs)) 0 (λ e. omega (arith, e))))

step_is : (run : Run) → has_step run ≡ has_some (run_steps run)
step_is (Turns y count) = ap (λ (k : ℕ). not (k == 0)) (sym (length-map-range_with_len (λ _. Go y) 0 count))
step_is (Frames x y start end) =
    elim (cases_lt start end) [
      | inl below ↦
          lt-ltb start end below ∙ sym (ap (λ (k : ℕ). not (k == 0)) (length-map-range_with_len (Carry x y) start (end - start)) ∙ ap not (ne_eqb (end - start) 0 (λ e. omega (arith, e, below))))
      | inr above ↦
          le-ltb start end above ∙ sym (ap (λ (k : ℕ). not (k == 0)) (length-map-range_with_len (Carry x y) start (end - start)) ∙ ap not (eq-eqb (end - start) 0 (omega (arith, above))))
    ]

pub steps_are : (runs : List Run) → list_any has_step runs ≡ has_some (flat_map run_steps runs)
steps_are [] = refl
steps_are (run ∷ runs) =
    ap₂ (λ a b. a || b) (step_is run) (steps_are runs) ∙ sym (ap has_some (flat_map-cons run_steps run runs) ∙ has_some_of (run_steps run) (flat_map run_steps runs))

-- ---- runs are of players

-- the number of a player is one of a replica
number_is : (w : Setting) (p : Plan) → IsPlanned w p → (y : Player) → IsPlayer w (cast_of p.attack) y → number_of (cast_of p.attack) y < p.p.n
number_is w p planned (Correct i) is =
    let below = ltb-true i (correct_of p) (sym (planned.correct i) ∙ is) in
    let most = (some_correct p planned.session).1 in
    omega (arith, below, most)
number_is w p planned (Face a) is = subst (λ (n : ℕ). number_of (cast_of p.attack) (Face a) < n) planned.n is.1

run_to : (w : Setting) (p : Plan) → IsPlanned w p → (before now : FrameCounts) (waits : Player → ℕ) (y : Player) → Has (players_of p) y
    → (run : Run) → Has (runs_to p before now waits y) run → IsPlayerRun w p run
run_to w p planned before now waits y there run (inl same) = subst (IsPlayerRun w p) same (player_is w p planned y there)
run_to w p planned before now waits y there run (inr frames) =
    let image = mapped_from (λ x. Frames x y (before x y) (now x y)) (linked_to p y) run frames in
    let x = image.element in
    let linked = has_passing (λ z. are_linked p z y) (players_of p) x image.listed in
    let to = player_is w p planned y there in
    subst (IsPlayerRun w p) image.same (player_is w p planned x linked.0, to, linked_apart p x y linked.1, number_is w p planned y to)

pub runs_are : (w : Setting) (p : Plan) → IsPlanned w p → (before now : FrameCounts) (waits : Player → ℕ) (run : Run) → Has (runs_by p before now waits) run → IsPlayerRun w p run
runs_are w p planned before now waits run there =
    let from = among_from (runs_to p before now waits) (players_of p) run there in
    run_to w p planned before now waits from.element from.listed run from.inside
