-- What a picker chooses.
use Rattle.std.proofs.Common.{◌≡◌, ℕ, zero, suc, ◌+◌, Bool, true, List, [], ◌∷◌, ◌++◌, length, take, map, filter, Some, refl, sym, ◌∙◌, ap, ap₂, subst, length-append, arith}
use Rattle.std.specs.List.{slice_get, flat_map}
use Rattle.std.proofs.lemmas.List.Elements.{filter-append}
use Rattle.ritas_base.specs.declared.plan.Plan.{Plan}
use Rattle.world_model.specs.declared.player.Player.{Player}
use Rattle.schedule_plan.specs.Plans.{players_of, linked_from}
use Rattle.schedule_plan.specs.Sweeps.{FrameCounts}
use Rattle.schedule_plan.specs.Picks as picks
use Rattle.schedule_plan.specs.Picks.{Passed, Turning, Passing, passings_of, all_choices}
use Rattle.schedule_drive.specs.declared.picker.Choice.{Choice}
use Rattle.schedule_drive.specs.declared.picker.Choice.TheVariants as choices
use Rattle.schedule_drive.specs.declared.picker.Picker.{Picker}
use Rattle.schedule_drive.specs.declared.sender.Sender.{Sender}
use Rattle.schedule_drive.specs.declared.sender.Link.{Link}
use Rattle.schedule_drive.specs.Lanes.{has_left}
use Rattle.schedule_drive.specs.Choices.{open_in, open_all, IsNth}
use Rattle.schedule_drive.specs.Pickers.{is_left, IsSender, IsPicker, open_rows, IsFrame, IsChosen, IsChoice}
use Rattle.schedule_drive.proofs.Lists.{from_at, mapped_at, map_from, map_twice}
use Rattle.schedule_drive.proofs.Choosing.{nth_kept, open_kept}

-- ---- an element of lists that are put together

get_before : {X : Type 0} (xs ys : List X) (i : ℕ) (x : X) → slice_get xs i ≡ Some x → slice_get (xs ++ ys) i ≡ Some x
get_before [] ys i x is = absurd cc
get_before (y ∷ xs) ys zero x is = is
get_before (y ∷ xs) ys (suc i) x is = get_before xs ys i x is

get_behind : {X : Type 0} (xs ys : List X) (n i : ℕ) → n ≡ length xs + i → slice_get (xs ++ ys) n ≡ slice_get ys i
get_behind [] ys n i is = ap (slice_get ys) (is ∙ omega arith)
get_behind (x ∷ xs) ys zero i is = absurd (omega (arith, is))
get_behind (x ∷ xs) ys (suc n) i is = get_behind xs ys n i (omega (arith, is))

module _ (test : picks.Choice → Bool) where
  -- the rows of some players, with the choices of each
  frame_kept : (f : Player → List picks.Choice) (xs : List Player) (rows : List (List Bool)) (n from to : ℕ) (x : Player) (choice : picks.Choice)
      → rows ≡ map (λ x. map test (f x)) xs → IsFrame rows n from to → slice_get xs from ≡ Some x → slice_get (f x) to ≡ Some choice
      → slice_get (filter test (flat_map f xs)) n ≡ Some choice
  frame_kept f [] rows n from to x choice are is here there = absurd cc
  frame_kept f (y ∷ xs) rows n zero to x choice are is here there =
      let first : Some y ≡ Some x = here in
      let e : y ≡ x = cc in
      let row : Some (map test (f y)) ≡ Some is.row = ap (λ (rs : List (List Bool)). slice_get rs 0) (sym are) ∙ is.place in
      let same : is.row ≡ map test (f y) = cc in
      let none : n ≡ is.rest = (let all = is.number_is in omega (arith, all)) in
      let nth = subst (λ (bs : List Bool). IsNth bs is.rest to) same is.nth in
      ap (λ (zs : List picks.Choice). slice_get zs n) (filter-append test (f y) (flat_map f xs))
      ∙ get_before (filter test (f y)) (filter test (flat_map f xs)) n choice
      (ap (slice_get (filter test (f y))) none ∙ nth_kept test (f y) is.rest to nth ∙ ap (λ (z : Player). slice_get (f z) to) e ∙ there)
  frame_kept f (y ∷ xs) rows n (suc from) to x choice are is here there =
      let rest : ℕ = open_all (take from (map (λ x. map test (f x)) xs)) + is.rest in
      let many : n ≡ length (filter test (f y)) + rest =
      (let all : n ≡ open_in (map test (f y)) + open_all (take from (map (λ x. map test (f x)) xs)) + is.rest = is.number_is ∙ ap (λ (rs : List (List Bool)). open_all (take (suc from) rs) + is.rest) are in
      let row = open_kept test (f y) in omega (arith, all, row)) in
      ap (λ (zs : List picks.Choice). slice_get zs n) (filter-append test (f y) (flat_map f xs))
      ∙ get_behind (filter test (f y)) (filter test (flat_map f xs)) n rest many
      ∙ frame_kept f xs (map (λ x. map test (f x)) xs) rest from to x choice refl
      (record { row = is.row; place = ap (λ (rs : List (List Bool)). slice_get rs (suc from)) (sym are) ∙ is.place; rest = is.rest; number_is = refl; nth = is.nth }) here there

  all_kept : (f : Player → List picks.Choice) (xs : List Player) → open_all (map (λ x. map test (f x)) xs) ≡ length (filter test (flat_map f xs))
  all_kept f [] = refl
  all_kept f (x ∷ xs) =
      let one = open_kept test (f x) in
      let more = all_kept f xs in
      let both = length-append (filter test (f x)) (filter test (flat_map f xs)) in
      let split = ap length (filter-append test (f x) (flat_map f xs)) in
      omega (arith, one, more, both, split)

-- ---- the choices of a plan

-- a test of choices, by what waits and what is left
pub record IsTest (waits : Player → Bool) (counts : FrameCounts) (passed : List Passed) (test : picks.Choice → Bool) : Type 0 where
  pub turning : (y : Player) → test (Turning y) ≡ waits y
  pub passing : (x y : Player) → test (Passing x y) ≡ has_left (counts x y) (is_left passed x y)

turns_are : (p : Plan) (waits : Player → Bool) (counts : FrameCounts) (passed : List Passed) (picker : Picker) → IsPicker p waits counts passed picker → picker.turns ≡ map waits (players_of p)
turns_are p waits counts passed picker is =
    map_from (λ (s : Sender). waits s.player) picker.turns picker.senders.items is.many is.turns
    ∙ sym (map_twice (λ (s : Sender). s.player) waits picker.senders.items) ∙ ap (map waits) is.players

row_is : (p : Plan) (counts : FrameCounts) (passed : List Passed) (s : Sender) → IsSender p (counts s.player) passed s
    → s.row ≡ map (λ y. has_left (counts s.player y) (is_left passed s.player y)) (linked_from p s.player)
row_is p counts passed s is =
    map_from (λ (l : Link). has_left (counts s.player l.player) (is_left passed s.player l.player)) s.row s.links.items is.many (λ i link got. (is.each i link got).flag_is)
    ∙ sym (map_twice (λ (l : Link). l.player) (λ y. has_left (counts s.player y) (is_left passed s.player y)) s.links.items)
    ∙ ap (map (λ y. has_left (counts s.player y) (is_left passed s.player y))) is.linked

module _ (p : Plan) (waits : Player → Bool) (counts : FrameCounts) (passed : List Passed) (test : picks.Choice → Bool) (tests : IsTest waits counts passed test) where
  row_tests : (x : Player) (ys : List Player) → map (λ y. has_left (counts x y) (is_left passed x y)) ys ≡ map test (map (Passing x) ys)
  row_tests x [] = refl
  row_tests x (y ∷ ys) = ap₂ (λ b bs. b ∷ bs) (sym (tests.passing x y)) (row_tests x ys)

  turn_tests : (ys : List Player) → map waits ys ≡ map test (map Turning ys)
  turn_tests [] = refl
  turn_tests (y ∷ ys) = ap₂ (λ b bs. b ∷ bs) (sym (tests.turning y)) (turn_tests ys)

  rows_from : (senders : List Sender) → ((r : ℕ) (s : Sender) → slice_get senders r ≡ Some s → IsSender p (counts s.player) passed s)
      → map (λ s. s.row) senders ≡ map (λ x. map test (passings_of p x)) (map (λ s. s.player) senders)
  rows_from [] are = refl
  rows_from (s ∷ senders) are =
      ap₂ (λ r rs. r ∷ rs) (row_is p counts passed s (are 0 s refl) ∙ row_tests s.player (linked_from p s.player)) (rows_from senders (λ r. are (suc r)))

  rows_are : (picker : Picker) → IsPicker p waits counts passed picker → open_rows picker ≡ map (λ x. map test (passings_of p x)) (players_of p)
  rows_are picker is = rows_from picker.senders.items is.senders ∙ ap (map (λ x. map test (passings_of p x))) is.players

  split_choices : filter test (all_choices p) ≡ filter test (map Turning (players_of p)) ++ filter test (flat_map (passings_of p) (players_of p))
  split_choices = filter-append test (map Turning (players_of p)) (flat_map (passings_of p) (players_of p))

  -- how many choices are open
  pub choices_many : (picker : Picker) → IsPicker p waits counts passed picker → open_in picker.turns + open_all (open_rows picker) ≡ length (filter test (all_choices p))
  choices_many picker is =
      let turns = ap open_in (turns_are p waits counts passed picker is ∙ turn_tests (players_of p)) ∙ open_kept test (map Turning (players_of p)) in
      let rows = ap open_all (rows_are picker is) ∙ all_kept test (passings_of p) (players_of p) in
      let both = length-append (filter test (map Turning (players_of p))) (filter test (flat_map (passings_of p) (players_of p))) in
      let split = ap length split_choices in
      omega (arith, turns, rows, both, split)

  -- and which one is chosen
  pub record IsPick (n : ℕ) (choice : Choice) : Type 0 where
    pub picked : picks.Choice
    pub is : IsChoice p choice picked
    pub got : slice_get (filter test (all_choices p)) n ≡ Some picked

  pub chosen_is : (picker : Picker) → IsPicker p waits counts passed picker → (n : ℕ) (choice : Choice) → IsChosen picker n choice → IsPick n choice
  chosen_is picker is n (choices.Turn place) chosen =
      let nth = subst (λ (bs : List Bool). IsNth bs n place) (turns_are p waits counts passed picker is ∙ turn_tests (players_of p)) chosen in
      let at = from_at test (map Turning (players_of p)) place true nth.is_open in
      let y = from_at Turning (players_of p) place at.element at.is in
      record {
        picked = Turning y.element;
        is = y.is;
        got = ap (λ (cs : List picks.Choice). slice_get cs n) split_choices
            ∙ get_before (filter test (map Turning (players_of p))) (filter test (flat_map (passings_of p) (players_of p))) n (Turning y.element)
            (nth_kept test (map Turning (players_of p)) n place nth ∙ mapped_at Turning (players_of p) place y.element y.is);
      }
  chosen_is picker is n (choices.Frame from to) chosen =
      let frame = chosen.2 in
      let rows = rows_are picker is in
      let row_at : slice_get (map (λ x. map test (passings_of p x)) (players_of p)) from ≡ Some frame.row = ap (λ (rs : List (List Bool)). slice_get rs from) (sym rows) ∙ frame.place in
      let x = from_at (λ x. map test (passings_of p x)) (players_of p) from frame.row row_at in
      let flag : slice_get (map test (passings_of p x.element)) to ≡ Some true = ap (λ (bs : List Bool). slice_get bs to) x.same ∙ frame.nth.is_open in
      let at = from_at test (passings_of p x.element) to true flag in
      let y = from_at (Passing x.element) (linked_from p x.element) to at.element at.is in
      let turns = ap open_in (turns_are p waits counts passed picker is ∙ turn_tests (players_of p)) ∙ open_kept test (map Turning (players_of p)) in
      record {
        picked = Passing x.element y.element;
        is = (x.is, y.is);
        got = ap (λ (cs : List picks.Choice). slice_get cs n) split_choices
            ∙ get_behind (filter test (map Turning (players_of p))) (filter test (flat_map (passings_of p) (players_of p))) n chosen.0 (chosen.1 ∙ ap (λ (k : ℕ). k + chosen.0) turns)
            ∙ frame_kept test (passings_of p) (players_of p) (open_rows picker) chosen.0 from to x.element (Passing x.element y.element) rows frame x.is
            (mapped_at (Passing x.element) (linked_from p x.element) to y.element y.is);
      }
