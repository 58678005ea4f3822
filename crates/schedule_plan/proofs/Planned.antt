-- The steps of a plan are steps of its players, and enough replicas of it are correct.
use Rattle.std.proofs.Common.{◌≡◌, ◌≢◌, ℕ, zero, suc, ◌+◌, ◌-◌, ◌/◌, ◌%◌, ◌^◌, ◌<◌, ◌≤◌, ◌==◌, ◌||◌, Bool, true, false, not, cond, nat_lt, List, [], ◌∷◌, ◌++◌, map, length, reverse, Option, Some, None, refl, sym, ◌∙◌, ap, subst, inl, inr, if◌then◌else◌, arith}
use Rattle.std.specs.Prelude.{count_by}
use Rattle.std.specs.List.{flat_map, range_with_len}
use Rattle.std.proofs.lemmas.Bool.{cases_lt, le-ltb, lt-ltb, eq-eqb, and_parts, not-true}
use Rattle.std.proofs.lemmas.List.{reverse-append}
use Rattle.std.proofs.lemmas.List.Concat.{flat_map-cons}
use Rattle.std.proofs.lemmas.List.Sums.{sum_by-cons}
use Rattle.std.proofs.lemmas.Nat.{mod_below}
use Rattle.std.proofs.lemmas.Nat.Bits.{bit_at_ones, bit_at_ones_above}
use Rattle.ritas_base.specs.History.{replicas}
use Rattle.ritas_base.specs.Members.{has_member}
use Rattle.ritas_base.specs.Numbers.{IsSession}
use Rattle.ritas_base.specs.declared.plan.Plan.{Plan}
use Rattle.ritas_base.specs.declared.plan.Order.{Order}
use Rattle.ritas_base.specs.declared.plan.Order.TheVariants.{Sweep, Random}
use Rattle.ritas_base.specs.declared.plan.Attack.{Attack}
use Rattle.ritas_base.specs.declared.plan.Attack.TheVariants.{Absent, Silent, TwoFace, Flip, Garbage}
use Rattle.layer_api.specs.Broadcast.{BroadcastRules}
use Rattle.layer_api.specs.HasLaws.{has_either}
use Rattle.layer_api.specs.Runs.{Has}
use Rattle.layer_api.specs.Service.{ServiceRules}
use Rattle.rand_pcg.specs.Lcg.{Lcg}
use Rattle.world_model.specs.Audit.{has_too_many}
use Rattle.world_model.specs.World.{Setting}
use Rattle.world_model.specs.declared.player.Player.{Player}
use Rattle.world_model.specs.declared.player.Player.TheVariants.{Correct, Face}
use Rattle.world_model.specs.Players.{Cast, Scene, Step, Give, Go, Carry, IsPlayer, IsStep, AreSteps, number_of, state_at, scene_of}
use Rattle.world_model.proofs.Anywhere.{among_from, number_below, mapped_from}
use Rattle.world_model.proofs.Members.{has_passing, got_listed}
use Rattle.schedule_plan.specs.Plans.{is_absent, correct_of, is_correct_in, faces_of, face_a, face_b, cast_of, players_at, players_of, are_linked, is_two_faced, same_letter, linked_to, linked_from}
use Rattle.schedule_plan.specs.Inputs.{value_text, takes_commands, copies_of, copy_at, command_at, value_input, correct_inputs, flip_inputs, two_inputs, given_to, face_inputs, inputs_of}
use Rattle.schedule_plan.specs.Garbage.{words_start, after_filler, throws_to, throws_by, faulty_of, throws_of}
use Rattle.schedule_plan.specs.Sweeps.{FrameCounts, none_yet, frame_counts, carries, turns_at, swept_at, sweep_of, sweeps}
use Rattle.schedule_plan.specs.Picks.{Choice, Turning, Passing, has_some, passings_of, is_open_choice, all_choices, choices_of, Picking, frame_carried, choice_taken, garbled, pick, picks}
use Rattle.schedule_plan.specs.Schedule.{world_by, steps_by_order, steps_of}

-- ---- lists of steps

module _ (w : Setting) (c : Cast) where
  pub are_append : (xs ys : List Step) → AreSteps w c xs → AreSteps w c ys → AreSteps w c (xs ++ ys)
  are_append [] ys left right = right
  are_append (x ∷ xs) ys left right = (left.0, are_append xs ys left.1 right)

  pub are_reverse : (xs : List Step) → AreSteps w c xs → AreSteps w c (reverse xs)
  are_reverse [] all = tt
  are_reverse (x ∷ xs) all = subst (AreSteps w c) (sym (reverse-append (x ∷ []) xs)) (are_append (reverse xs) (x ∷ []) (are_reverse xs all.1) (all.0, tt))

  pub are_map : {X : Type 0} (f : X → Step) (xs : List X) → ((x : X) → Has xs x → IsStep w c (f x)) → AreSteps w c (map f xs)
  are_map f [] each = tt
  are_map f (x ∷ xs) each = (each x (inl refl), are_map f xs (λ y there. each y (inr there)))

  pub are_among : {X : Type 0} (f : X → List Step) (xs : List X) → ((x : X) → Has xs x → AreSteps w c (f x)) → AreSteps w c (flat_map f xs)
  are_among f [] each = tt
  are_among f (x ∷ xs) each =
      subst (AreSteps w c) (sym (flat_map-cons f x xs)) (are_append (f x) (flat_map f xs) (each x (inl refl)) (are_among f xs (λ y there. each y (inr there))))

-- ---- players

-- the mask of the first m replicas
pub has_first : (m i : ℕ) → has_member (2 ^ m - 1) i ≡ nat_lt i m
unfolding has_member
has_first m i = elim (cases_lt i m) [
  | inl lt ↦ ap (λ bit. bit == 1) (bit_at_ones m i lt) ∙ sym (lt-ltb i m lt)
  | inr le ↦ ap (λ bit. bit == 1) (bit_at_ones_above m i le) ∙ sym (le-ltb i m le)
]

pub record IsFaceOf (attack : Attack) (i : ℕ) (x : Player) : Type 0 where
  pub place : ℕ
  pub same : x ≡ Face place
  pub number : (cast_of attack).number place ≡ i

face_is : (attack : Attack) (i : ℕ) (x : Player) → Has (faces_of attack i) x → IsFaceOf attack i x
face_is Absent i x there = absurd there
face_is Silent i x there = absurd there
face_is Garbage i x there = absurd there
face_is Flip i x (inl e) = record { place = face_a i; same = sym e; number = omega arith }
face_is Flip i x (inr none) = absurd none
face_is TwoFace i x (inl e) = record { place = face_a i; same = sym e; number = omega arith }
face_is TwoFace i x (inr (inl e)) = record { place = face_b i; same = sym e; number = omega arith }
face_is TwoFace i x (inr (inr none)) = absurd none

-- a world that has the plan's correct replicas
pub record IsPlanned (w : Setting) (p : Plan) : Type 0 where
  pub correct : (i : ℕ) → w.is_correct i ≡ is_correct_in p i
  pub n : w.numbers.n ≡ p.p.n
  pub session : IsSession p.p

player_at : (w : Setting) (p : Plan) → IsPlanned w p → (i : ℕ) → i < p.p.n → (x : Player) (b : Bool) → is_correct_in p i ≡ b
    → Has (if b then Correct i ∷ [] else faces_of p.attack i) x → IsPlayer w (cast_of p.attack) x
player_at w p planned i below x true is (inl e) = subst (IsPlayer w (cast_of p.attack)) e (planned.correct i ∙ is)
player_at w p planned i below x true is (inr none) = absurd none
player_at w p planned i below x false is there =
    let face = face_is p.attack i x there in
    subst (IsPlayer w (cast_of p.attack)) (sym face.same)
    (ap w.is_correct face.number ∙ planned.correct i ∙ is, subst (λ (m : ℕ). (cast_of p.attack).number face.place < m) (sym planned.n) (subst (λ (k : ℕ). k < p.p.n) (sym face.number) below))

pub player_is : (w : Setting) (p : Plan) → IsPlanned w p → (x : Player) → Has (players_of p) x → IsPlayer w (cast_of p.attack) x
player_is w p planned x there =
    let from = among_from (players_at p) (replicas p.p.n) x there in
    let below = number_below 0 p.p.n from.element from.listed in
    player_at w p planned from.element (omega (arith, below)) x (is_correct_in p from.element) refl from.inside

pub linked_apart : (p : Plan) (x y : Player) → are_linked p x y ≡ true → number_of (cast_of p.attack) x ≢ number_of (cast_of p.attack) y
linked_apart p x y linked same =
    let c = cast_of p.attack in
    let parts = and_parts (not (number_of c x == number_of c y)) (not (is_two_faced p.attack) || same_letter p x y) linked in
    let apart : (number_of c x == number_of c y) ≡ false = not-true (number_of c x == number_of c y) parts.0 in
    let alike : (number_of c x == number_of c y) ≡ true = eq-eqb (number_of c x) (number_of c y) same in
    absurd cc

-- frames go between players
carry_is : (w : Setting) (p : Plan) → IsPlanned w p → (x y : Player) → Has (players_of p) x → Has (players_of p) y → are_linked p x y ≡ true
    → (m : ℕ) → IsStep w (cast_of p.attack) (Carry x y m)
carry_is w p planned x y from to linked m = (player_is w p planned x from, player_is w p planned y to, linked_apart p x y linked)

-- ---- inputs

pub some_correct : (p : Plan) → IsSession p.p → (0 < correct_of p) × (correct_of p ≤ p.p.n)
some_correct p session = go (is_absent p.attack) session
  where
    go : (b : Bool) → IsSession p.p → (0 < (if b then p.p.n else p.p.n - p.p.f)) × ((if b then p.p.n else p.p.n - p.p.f) ≤ p.p.n)
    go true s = (omega (arith, s.some), omega arith)
    go false s = (omega (arith, s.some, s.enough), omega arith)

correct_below : (w : Setting) (p : Plan) → IsPlanned w p → (i : ℕ) → i < correct_of p → w.is_correct i ≡ true
correct_below w p planned i below = planned.correct i ∙ lt-ltb i (correct_of p) below

correct_steps : (w : Setting) (p : Plan) → IsPlanned w p → AreSteps w (cast_of p.attack) (correct_inputs p)
correct_steps w p planned = go (takes_commands p.mode.root) (p.commands == 0)
  where
    go : (a b : Bool) → AreSteps w (cast_of p.attack)
        (if a then flat_map (command_at p) (range_with_len 0 p.commands) else (if b then [] else map (value_input p) (range_with_len 0 (correct_of p))))
    go true b =
        are_among w (cast_of p.attack) (command_at p) (range_with_len 0 p.commands)
        (λ k _. are_map w (cast_of p.attack) (copy_at p k) (range_with_len 0 (copies_of p))
        (λ t _. correct_below w p planned ((k + t) % correct_of p) (mod_below (k + t) (correct_of p) (some_correct p planned.session).0)))
    go false true = tt
    go false false =
        are_map w (cast_of p.attack) (value_input p) (range_with_len 0 (correct_of p))
        (λ i there. correct_below w p planned i (let below = number_below 0 (correct_of p) i there in omega (arith, below)))

flip_steps : (w : Setting) (p : Plan) → IsPlanned w p → (x : Player) → Has (players_of p) x → AreSteps w (cast_of p.attack) (flip_inputs p x)
flip_steps w p planned (Correct i) there = tt
flip_steps w p planned (Face a) there = go (takes_commands p.mode.root || p.commands == 0)
  where
    go : (b : Bool) → AreSteps w (cast_of p.attack) (if b then [] else Give (Face a) (value_text p.mode.root (a / 2 % p.commands)) ∷ [])
    go true = tt
    go false = (player_is w p planned (Face a) there, tt)

two_steps : (w : Setting) (p : Plan) → IsPlanned w p → (x : Player) → Has (players_of p) x → AreSteps w (cast_of p.attack) (two_inputs p x)
two_steps w p planned (Correct i) there = tt
two_steps w p planned (Face a) there = (player_is w p planned (Face a) there, tt)

given_steps : (w : Setting) (p : Plan) → IsPlanned w p → (attack : Attack) (x : Player) → Has (players_of p) x → AreSteps w (cast_of p.attack) (given_to p attack x)
given_steps w p planned Absent x there = tt
given_steps w p planned Silent x there = tt
given_steps w p planned Garbage x there = tt
given_steps w p planned Flip x there = flip_steps w p planned x there
given_steps w p planned TwoFace x there = two_steps w p planned x there

face_steps : (w : Setting) (p : Plan) → IsPlanned w p → (attack : Attack) → AreSteps w (cast_of p.attack) (face_inputs p attack)
face_steps w p planned attack = are_among w (cast_of p.attack) (given_to p attack) (players_of p) (given_steps w p planned attack)

pub input_steps : (w : Setting) (p : Plan) → IsPlanned w p → AreSteps w (cast_of p.attack) (reverse (inputs_of p))
input_steps w p planned =
    are_reverse w (cast_of p.attack) (inputs_of p)
    (are_append w (cast_of p.attack) (correct_inputs p) (face_inputs p p.attack) (correct_steps w p planned) (face_steps w p planned p.attack))

-- ---- garbage

throw_steps_to : (w : Setting) (c : Cast) (i : ℕ) → w.is_correct i ≡ false → (js : List ℕ) (g : Lcg) → AreSteps w c (throws_to i js g).0
throw_steps_to w c i faulty [] g = tt
throw_steps_to w c i faulty (j ∷ js) g = (faulty, throw_steps_to w c i faulty js (after_filler g))

throw_steps_by : (w : Setting) (c : Cast) (is js : List ℕ) → ((i : ℕ) → Has is i → w.is_correct i ≡ false) → (g : Lcg) → AreSteps w c (throws_by is js g).0
throw_steps_by w c [] js faulty g = tt
throw_steps_by w c (i ∷ is) js faulty g =
    are_append w c (throws_to i js g).0 (throws_by is js (throws_to i js g).1).0 (throw_steps_to w c i (faulty i (inl refl)) js g)
    (throw_steps_by w c is js (λ k there. faulty k (inr there)) (throws_to i js g).1)

pub throw_steps : (w : Setting) (p : Plan) → IsPlanned w p → (c : Cast) (attack : Attack) (g : Lcg) → AreSteps w c (throws_of p attack g).0
throw_steps w p planned c Absent g = tt
throw_steps w p planned c Silent g = tt
throw_steps w p planned c TwoFace g = tt
throw_steps w p planned c Flip g = tt
throw_steps w p planned c Garbage g =
    throw_steps_by w c (faulty_of p) (replicas (correct_of p))
    (λ i there. planned.correct i ∙ not-true (is_correct_in p i) (has_passing (λ k. not (is_correct_in p k)) (replicas p.p.n) i there).1) g

-- ---- sweeps

swept_steps : (w : Setting) (p : Plan) → IsPlanned w p → (before : FrameCounts) (s : Scene) (y : Player) → Has (players_of p) y
    → AreSteps w (cast_of p.attack) (swept_at w p before s y)
swept_steps w p planned before s y there =
    let c = cast_of p.attack in
    are_append w c (turns_at w s y) (flat_map (λ x. carries before (frame_counts w c s) x y) (linked_to p y))
    (are_map w c (λ _. Go y) (state_at w s y).inbox (λ _ _. player_is w p planned y there))
    (are_among w c (λ x. carries before (frame_counts w c s) x y) (linked_to p y) (λ x linked.
    let passing = has_passing (λ z. are_linked p z y) (players_of p) x linked in
    are_map w c (Carry x y) (range_with_len (before x y) (frame_counts w c s x y - before x y))
    (λ m _. carry_is w p planned x y passing.0 there passing.1 m)))

pub sweep_steps : (w : Setting) (p : Plan) → IsPlanned w p → (before : FrameCounts) (s : Scene) → AreSteps w (cast_of p.attack) (sweep_of w p before s)
sweep_steps w p planned before s = are_among w (cast_of p.attack) (swept_at w p before s) (players_of p) (swept_steps w p planned before s)

sweeps_steps : (w : Setting) (p : Plan) → IsPlanned w p → (k : ℕ) (before : FrameCounts) (g : Lcg) (steps : List Step) → AreSteps w (cast_of p.attack) steps
    → AreSteps w (cast_of p.attack) (sweeps k w p before g steps)
sweeps_steps w p planned zero before g steps all = all
sweeps_steps w p planned (suc k) before g steps all =
    let c = cast_of p.attack in
    let s = scene_of w c steps in
    let next = sweep_of w p before s in
    let thrown = throws_of p p.attack g in
    either (length next == 0) (sweeps k w p (frame_counts w c s) thrown.1 (reverse next ++ reverse thrown.0 ++ steps)) all
    (sweeps_steps w p planned k (frame_counts w c s) thrown.1 (reverse next ++ reverse thrown.0 ++ steps)
    (are_append w c (reverse next ++ reverse thrown.0) steps
    (are_append w c (reverse next) (reverse thrown.0) (are_reverse w c next (sweep_steps w p planned before s)) (are_reverse w c thrown.0 (throw_steps w p planned c p.attack g))) all))
  where
    either : (b : Bool) (more : List Step) → AreSteps w (cast_of p.attack) steps → AreSteps w (cast_of p.attack) more → AreSteps w (cast_of p.attack) (if b then steps else more)
    either true more left right = left
    either false more left right = right

-- ---- picks

-- the choice of a player, or of two that are linked
abbrev IsFairChoice : Setting → Plan → Choice → Type 0
IsFairChoice w p (Turning y) = IsPlayer w (cast_of p.attack) y
IsFairChoice w p (Passing x y) = (m : ℕ) → IsStep w (cast_of p.attack) (Carry x y m)

choice_is : (w : Setting) (p : Plan) → IsPlanned w p → (choice : Choice) → Has (all_choices p) choice → IsFairChoice w p choice
choice_is w p planned choice there =
    elim (has_either (map Turning (players_of p)) (flat_map (passings_of p) (players_of p)) choice there) [
      | inl turn ↦
          let image = mapped_from Turning (players_of p) choice turn in
          subst (IsFairChoice w p) image.same (player_is w p planned image.element image.listed)
      | inr pair ↦
          let from = among_from (passings_of p) (players_of p) choice pair in
          let x = from.element in
          let image = mapped_from (Passing x) (linked_from p x) choice from.inside in
          let passing = has_passing (λ y. are_linked p x y) (players_of p) image.element image.listed in
          subst (IsFairChoice w p) image.same (carry_is w p planned x image.element from.listed passing.0 passing.1)
    ]

carried_steps : (w : Setting) (c : Cast) (q : Picking) (g : Lcg) (u : ℕ) (x y : Player) (o : Option ℕ) → ((m : ℕ) → IsStep w c (Carry x y m))
    → AreSteps w c q.steps → AreSteps w c (frame_carried q g u x y o).steps
carried_steps w c q g u x y None is all = all
carried_steps w c q g u x y (Some m) is all = (is m, all)

taken_steps : (w : Setting) (p : Plan) → (q : Picking) (g : Lcg) (o : Option Choice) → ((choice : Choice) → o ≡ Some choice → IsFairChoice w p choice)
    → AreSteps w (cast_of p.attack) q.steps → AreSteps w (cast_of p.attack) (choice_taken w p q g o).steps
taken_steps w p q g None fair all = all
taken_steps w p q g (Some (Turning y)) fair all = (fair (Turning y) refl, all)
taken_steps w p q g (Some (Passing x y)) fair all = carried_steps w (cast_of p.attack) q _ _ x y _ (fair (Passing x y) refl) all

throws_if : (w : Setting) (p : Plan) → IsPlanned w p → (g : Lcg) (b : Bool) → AreSteps w (cast_of p.attack) (if b then throws_of p p.attack g else ([], g)).0
throws_if w p planned g true = throw_steps w p planned (cast_of p.attack) p.attack g
throws_if w p planned g false = tt

pub garbled_steps : (w : Setting) (p : Plan) → IsPlanned w p → (number : ℕ) (q : Picking) → AreSteps w (cast_of p.attack) q.steps → AreSteps w (cast_of p.attack) (garbled p number q).steps
garbled_steps w p planned number q all =
    let c = cast_of p.attack in
    let thrown = if number % 256 == 0 then throws_of p p.attack q.words else ([], q.words) in
    are_append w c (reverse thrown.0) q.steps (are_reverse w c thrown.0 (throws_if w p planned q.words (number % 256 == 0))) all

pub pick_steps : (w : Setting) (p : Plan) → IsPlanned w p → (number : ℕ) (q : Picking) → AreSteps w (cast_of p.attack) q.steps → AreSteps w (cast_of p.attack) (pick w p number q).steps
pick_steps w p planned number q all =
    let s = scene_of w (cast_of p.attack) q.steps in
    taken_steps w p _ _ _
    (λ choice got. choice_is w p planned choice
    (has_passing (is_open_choice w (cast_of p.attack) s q.passed) (all_choices p) choice (got_listed (choices_of w p s q.passed) _ choice got)).0)
    (garbled_steps w p planned number q all)

picks_steps : (w : Setting) (p : Plan) → IsPlanned w p → (k number : ℕ) (q : Picking) → AreSteps w (cast_of p.attack) q.steps → AreSteps w (cast_of p.attack) (picks k w p number q)
picks_steps w p planned zero number q all = all
picks_steps w p planned (suc k) number q all =
    either (has_some (choices_of w p (scene_of w (cast_of p.attack) q.steps) q.passed)) (picks k w p (number + 1) (pick w p number q))
    (picks_steps w p planned k (number + 1) (pick w p number q) (pick_steps w p planned number q all)) all
  where
    either : (b : Bool) (more : List Step) → AreSteps w (cast_of p.attack) more → AreSteps w (cast_of p.attack) q.steps → AreSteps w (cast_of p.attack) (if b then more else q.steps)
    either true more left right = left
    either false more left right = right

-- ---- the steps of a plan

ordered_steps : (w : Setting) (p : Plan) → IsPlanned w p → (most : ℕ) (order : Order) → AreSteps w (cast_of p.attack) (steps_by_order most w p order)
ordered_steps w p planned most Sweep = sweeps_steps w p planned most none_yet (words_start p) (reverse (inputs_of p)) (input_steps w p planned)
ordered_steps w p planned most Random = picks_steps w p planned most 0 _ (input_steps w p planned)

pub plan_steps : (w : Setting) (p : Plan) → IsPlanned w p → (most : ℕ) → AreSteps w (cast_of p.attack) (steps_of most w p)
unfolding steps_of
plan_steps w p planned most = ordered_steps w p planned most p.order

-- the world of a plan has its correct replicas
pub is_planned : (service : ServiceRules) (other : BroadcastRules) (p : Plan) → IsSession p.p → IsPlanned (world_by service other p) p
is_planned service other p session = record { correct = has_first (correct_of p); n = refl; session = session }

-- ---- enough replicas are correct

-- of a test that the numbers below m pass
module _ (test : ℕ → Bool) (m : ℕ) (is : (i : ℕ) → test i ≡ nat_lt i m) where
  count_one : (a n : ℕ) (b : Bool) → nat_lt a m ≡ b → count_by test (range_with_len a (suc n)) ≡ cond b 1 0 + count_by test (range_with_len (a + 1) n)
  count_one a n b e =
      sum_by-cons (λ k. cond (test k) 1 0) a (range_with_len (a + 1) n) ∙ ap (λ (b : Bool). cond b 1 0 + count_by test (range_with_len (a + 1) n)) (is a ∙ e)

  count_none : (a n : ℕ) → m ≤ a → count_by test (range_with_len a n) ≡ 0
  count_none a zero le = refl
  count_none a (suc n) le =
      let one = count_one a n false (le-ltb a m le) in
      let rest = count_none (a + 1) n (omega (arith, le)) in
      omega (arith, one, rest)

  pub count_first : (a n : ℕ) → a ≤ m → m ≤ a + n → a + count_by test (range_with_len a n) ≡ m
  count_first a zero low high = omega (arith, low, high)
  count_first a (suc n) low high =
      elim (cases_lt a m) [
        | inl lt ↦
            let one = count_one a n true (lt-ltb a m lt) in
            let rest = count_first (a + 1) n (omega (arith, lt)) (omega (arith, high)) in
            omega (arith, one, rest)
        | inr le ↦ let none = count_none a (suc n) le in omega (arith, none, low, le)
      ]

pub enough_correct : (w : Setting) (p : Plan) → IsPlanned w p → w.numbers.f ≡ p.p.f → has_too_many w ≡ false
enough_correct w p planned f =
    let many = some_correct p planned.session in
    let n : w.numbers.n ≡ p.p.n = planned.n in
    let all : 0 + count_by w.is_correct (range_with_len 0 w.numbers.n) ≡ correct_of p =
    count_first w.is_correct (correct_of p) planned.correct 0 w.numbers.n (omega arith) (omega (arith, many.1, n)) in
    le-ltb (count_by w.is_correct (range_with_len 0 w.numbers.n)) (w.numbers.n - w.numbers.f) (let least = at_least p (is_absent p.attack) in omega (arith, all, least, n, f))
  where
    at_least : (q : Plan) (b : Bool) → q.p.n - q.p.f ≤ (if b then q.p.n else q.p.n - q.p.f)
    at_least q true = omega arith
    at_least q false = omega arith
