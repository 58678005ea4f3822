-- The links of one player, as frames of it are picked and as their counts are looked up.
use Rattle.std.proofs.Common.{◌≡◌, ◌≢◌, ℕ, ◌+◌, ◌<◌, ◌≤◌, ◌==◌, ◌&&◌, ◌||◌, Bool, true, false, not, cond, List, [], ◌∷◌, ◌++◌, length, take, map, filter, get_or, set, Option, Some, None, refl, sym, ◌∙◌, ap, ap₂, subst, inl, inr, if◌then◌else◌, append-nil, take_all, arith}
use Rattle.std.specs.List.{slice_get}
use Rattle.std.proofs.lemmas.Bool.{ltb-true}
use Rattle.std.proofs.lemmas.Bool.Decides.{eqb_tells}
use Rattle.std.proofs.lemmas.List.{map-append, length-append}
use Rattle.std.proofs.lemmas.List.Elements.{filter_more}
use Rattle.std.proofs.lemmas.Option.{slice_get_read}
use Rattle.ritas_base.specs.declared.plan.Plan.{Plan}
use Rattle.layer_api.specs.Runs.{Has}
use Rattle.world_model.specs.World.{Setting}
use Rattle.world_model.specs.declared.player.Player.{Player}
use Rattle.world_model.specs.declared.player.Player.TheVariants.{Correct, Face}
use Rattle.world_model.specs.Players.{IsPlayer, number_of}
use Rattle.world_model.proofs.Members.{has_passing, got_listed}
use Rattle.schedule_plan.specs.Plans.{cast_of, players_of, are_linked, linked_from, correct_of}
use Rattle.schedule_plan.specs.Picks.{Passed, has_passed, same_player, passes_once}
use Rattle.schedule_plan.specs.Sweeps.{none_yet}
use Rattle.schedule_plan.proofs.Planned.{IsPlanned, player_is, linked_apart, some_correct}
use Rattle.schedule_drive.specs.declared.lane.Lane.{Lane}
use Rattle.schedule_drive.specs.declared.sender.Link.{Link}
use Rattle.schedule_drive.specs.declared.sender.Sender.{Sender}
use Rattle.schedule_drive.specs.Lanes.{IsLane, has_left, without_taken}
use Rattle.schedule_drive.specs.Pickers.{is_left, passed_after, IsLink, IsSender}
use Rattle.schedule_drive.proofs.Lists.{get_set_same, get_set_other, set_length, set_mapped, got_below, mapped_at, from_at, same_got, got_pushed, get_first, get_last, one_place}
use Rattle.schedule_drive.proofs.Distinct.{same_itself, same_apart, distinct_linked}

-- ---- what is left after a frame passed

pub lane_same : (lane : Lane) (count : ℕ) (left other : ℕ → Bool) → ((m : ℕ) → left m ≡ other m) → IsLane lane count left → IsLane lane count other
lane_same lane count left other same is = let e : left ≡ other = λ t m. same m t in subst (IsLane lane count) e is

-- of the same two players
pub left_taken : (passed : List Passed) (u : ℕ) (x y : Player) (number : Option ℕ) (m : ℕ) → without_taken u number (is_left passed x y) m ≡ is_left (passed_after passed u x y number) x y m
left_taken passed u x y None m = refl
left_taken passed u x y (Some k) m = at (passes_once u)
  where
    at : (b : Bool) → (if b then not (k == m) && is_left passed x y m else is_left passed x y m)
        ≡ is_left (if b then (let one : Passed = record { from = x; to = y; number = k } in one ∷ passed) else passed) x y m
    at true = apart (k == m) (has_passed passed x y m) ∙ sym (ap₂ (λ (a b : Bool). not ((a && (b && k == m)) || has_passed passed x y m)) (same_itself x) (same_itself y))
      where
        apart : (a b : Bool) → (not a && not b) ≡ not ((true && (true && a)) || b)
        apart true b = refl
        apart false b = refl
    at false = refl

-- of others
pub left_apart : (passed : List Passed) (u : ℕ) (x y v z : Player) (number : Option ℕ) → (same_player x v && same_player y z) ≡ false → (m : ℕ)
    → is_left passed v z m ≡ is_left (passed_after passed u x y number) v z m
left_apart passed u x y v z None other m = refl
left_apart passed u x y v z (Some k) other m = at (passes_once u)
  where
    none : (a b d e : Bool) → (a && b) ≡ false → not e ≡ not ((a && (b && d)) || e)
    none true true d e is = absurd cc
    none true false d e is = refl
    none false b d e is = refl

    at : (b : Bool) → is_left passed v z m ≡ is_left (if b then (let one : Passed = record { from = x; to = y; number = k } in one ∷ passed) else passed) v z m
    at true = none (same_player x v) (same_player y z) (k == m) (has_passed passed v z m) other
    at false = refl

pub link_apart : (p : Plan) (count : Player → ℕ) (passed : List Passed) (u : ℕ) (x y v : Player) (number : Option ℕ) (link : Link) (flag : Option Bool)
    → (same_player x v && same_player y link.player) ≡ false → IsLink p v count passed link flag → IsLink p v count (passed_after passed u x y number) link flag
link_apart p count passed u x y v number link flag other is =
    let same = left_apart passed u x y v link.player number other in
    let e : is_left passed v link.player ≡ is_left (passed_after passed u x y number) v link.player = λ t m. same m t in
    record {
      place = is.place;
      lane = subst (IsLane link.lane (count link.player)) e is.lane;
      flag_is = is.flag_is ∙ ap (λ (left : ℕ → Bool). Some (has_left (count link.player) left)) e;
    }

and_not : (a b : Bool) → b ≡ false → (a && b) ≡ false
and_not true b e = e
and_not false b e = refl

-- the link at a place leads to the player there
pub link_player : (p : Plan) (count : Player → ℕ) (passed : List Passed) (s : Sender) → IsSender p count passed s → (at : ℕ) (y : Player) (link : Link)
    → slice_get (linked_from p s.player) at ≡ Some y → slice_get s.links.items at ≡ Some link → link.player ≡ y
link_player p count passed s is at y link there here =
    same_got (linked_from p s.player) at link.player y (ap (λ (ys : List Player). slice_get ys at) (sym is.linked) ∙ mapped_at (λ (l : Link). l.player) s.links.items at link here) there

-- a frame for y was picked
pub sender_picked : (p : Plan) (count : Player → ℕ) (passed : List Passed) (u : ℕ) (number : Option ℕ) (s new : Sender) → IsSender p count passed s → (at : ℕ) (y : Player) (link picked : Link)
    → slice_get (linked_from p s.player) at ≡ Some y → slice_get s.links.items at ≡ Some link
    → new.player ≡ s.player → new.links.items ≡ set s.links.items at picked → picked.place ≡ link.place → picked.player ≡ link.player
    → IsLane picked.lane (count y) (without_taken u number (is_left passed s.player y))
    → length new.row ≡ length s.row → slice_get new.row at ≡ Some (has_left (count y) (without_taken u number (is_left passed s.player y)))
    → ((i : ℕ) → i ≢ at → slice_get new.row i ≡ slice_get s.row i) → IsSender p count (passed_after passed u s.player y number) new
sender_picked p count passed u number s new is at y link picked there here player links place still lane many flag others =
    let x = s.player in
    let to_y : link.player ≡ y = link_player p count passed s is at y link there here in
    let old = is.each at link here in
    let e : without_taken u number (is_left passed x y) ≡ is_left (passed_after passed u x y number) x y = λ t m. left_taken passed u x y number m t in
    let own : (l : Link) → picked ≡ l → IsLink p new.player count (passed_after passed u x y number) l (slice_get new.row at) =
    λ l same. subst (λ (l : Link). IsLink p new.player count (passed_after passed u x y number) l (slice_get new.row at)) same
    (subst (λ (v : Player). IsLink p v count (passed_after passed u x y number) picked (slice_get new.row at)) (sym player)
    (record {
      place = ap (slice_get (players_of p)) place ∙ old.place ∙ ap (λ (z : Player). Some z) (sym still);
      lane = subst (λ (z : Player). IsLane picked.lane (count z) (is_left (passed_after passed u x y number) x z)) (sym (still ∙ to_y)) (subst (IsLane picked.lane (count y)) e lane);
      flag_is = flag ∙ subst (λ (z : Player). Some (has_left (count y) (without_taken u number (is_left passed x y))) ≡ Some (has_left (count z) (is_left (passed_after passed u x y number) x z))) (sym (still ∙ to_y))
          (ap (λ (left : ℕ → Bool). Some (has_left (count y) left)) e);
    })) in
    record {
      linked = ap (map (λ (l : Link). l.player)) links ∙ set_mapped (λ (l : Link). l.player) s.links.items at link picked here still ∙ is.linked ∙ ap (linked_from p) (sym player);
      many = many ∙ is.many ∙ sym (ap length links ∙ set_length s.links.items at picked);
      each = λ i l got.
          let at_new : slice_get (set s.links.items at picked) i ≡ Some l = ap (λ (ls : List Link). slice_get ls i) (sym links) ∙ got in
          elim (eqb_tells i at) [
            | inl same ↦
                let one : slice_get (set s.links.items at picked) at ≡ Some l = ap (slice_get (set s.links.items at picked)) (sym same.1) ∙ at_new in
                subst (λ (k : ℕ). IsLink p new.player count (passed_after passed u x y number) l (slice_get new.row k)) (sym same.1)
                (own l (same_got (set s.links.items at picked) at picked l (get_set_same s.links.items at picked (got_below s.links.items at link here)) one))
            | inr other ↦
                let before : slice_get s.links.items i ≡ Some l = sym (get_set_other s.links.items at i picked other.1) ∙ at_new in
                let there_i : slice_get (linked_from p x) i ≡ Some l.player = ap (λ (ys : List Player). slice_get ys i) (sym is.linked) ∙ mapped_at (λ (k : Link). k.player) s.links.items i l before in
                let apart : y ≢ l.player = λ e. other.1 (one_place (linked_from p x) (distinct_linked p x) i at l.player there_i (there ∙ ap (λ (z : Player). Some z) e)) in
                subst (λ (v : Player). IsLink p v count (passed_after passed u x y number) l (slice_get new.row i)) (sym player)
                (link_apart p count passed u x y x number l (slice_get new.row i) (and_not (same_player x x) (same_player y l.player) (same_apart y l.player apart))
                (subst (λ (flag : Option Bool). IsLink p x count passed l flag) (sym (others i other.1)) (is.each i l before)))
          ];
    }

-- ---- counts are looked up

-- those of the links below a place are
pub record IsPart (p : Plan) (count now : Player → ℕ) (passed : List Passed) (s : Sender) (at : ℕ) : Type 0 where
  pub linked : map (λ l. l.player) s.links.items ≡ linked_from p s.player
  pub many : length s.row ≡ length s.links.items
  pub done : (i : ℕ) (link : Link) → i < at → slice_get s.links.items i ≡ Some link → IsLink p s.player now passed link (slice_get s.row i)
  pub rest : (i : ℕ) (link : Link) → at ≤ i → slice_get s.links.items i ≡ Some link → IsLink p s.player count passed link (slice_get s.row i)

pub part_none : (p : Plan) (count now : Player → ℕ) (passed : List Passed) (s : Sender) → IsSender p count passed s → IsPart p count now passed s 0
part_none p count now passed s is = record { linked = is.linked; many = is.many; done = λ i link below. absurd (omega (arith, below)); rest = λ i link from. is.each i link }

pub part_all : (p : Plan) (count now : Player → ℕ) (passed : List Passed) (s : Sender) (at : ℕ) → length s.links.items ≤ at → IsPart p count now passed s at → IsSender p now passed s
part_all p count now passed s at most is = record {
  linked = is.linked;
  many = is.many;
  each = λ i link got. is.done i link (let below = got_below s.links.items i link got in omega (arith, below, most)) got;
}

pub part_next : (p : Plan) (count now : Player → ℕ) (passed : List Passed) (s new : Sender) (at : ℕ) (link grown : Link) → IsPart p count now passed s at
    → slice_get s.links.items at ≡ Some link → new.player ≡ s.player → new.links.items ≡ set s.links.items at grown → grown.place ≡ link.place → grown.player ≡ link.player
    → IsLane grown.lane (now link.player) (is_left passed s.player link.player)
    → new.row ≡ set s.row at (has_left (now link.player) (is_left passed s.player link.player)) → IsPart p count now passed new (at + 1)
part_next p count now passed s new at link grown is here player links place still lane row =
    let x = s.player in
    let old = is.rest at link (omega arith) here in
    let flag = has_left (now link.player) (is_left passed x link.player) in
    let within : at < length s.row = let below = got_below s.links.items at link here in let many = is.many in omega (arith, below, many) in
    let flag_at : slice_get new.row at ≡ Some flag = ap (λ (bs : List Bool). slice_get bs at) row ∙ get_set_same s.row at flag within in
    let flags : (i : ℕ) → i ≢ at → slice_get new.row i ≡ slice_get s.row i = λ i apart. ap (λ (bs : List Bool). slice_get bs i) row ∙ get_set_other s.row at i flag apart in
    let before : (i : ℕ) (l : Link) → i ≢ at → slice_get new.links.items i ≡ Some l → slice_get s.links.items i ≡ Some l =
    λ i l apart got. sym (get_set_other s.links.items at i grown apart) ∙ ap (λ (ls : List Link). slice_get ls i) (sym links) ∙ got in
    let own : IsLink p new.player now passed grown (slice_get new.row at) =
    subst (λ (v : Player). IsLink p v now passed grown (slice_get new.row at)) (sym player)
    (record {
      place = ap (slice_get (players_of p)) place ∙ old.place ∙ ap (λ (z : Player). Some z) (sym still);
      lane = subst (λ (z : Player). IsLane grown.lane (now z) (is_left passed x z)) (sym still) lane;
      flag_is = flag_at ∙ ap (λ (z : Player). Some (has_left (now z) (is_left passed x z))) (sym still);
    }) in
    let kept : (with_count : Player → ℕ) (i : ℕ) (l : Link) → i ≢ at → IsLink p x with_count passed l (slice_get s.row i) → IsLink p new.player with_count passed l (slice_get new.row i) =
    λ with_count i l apart link_is.
    subst (λ (v : Player). IsLink p v with_count passed l (slice_get new.row i)) (sym player)
    (subst (λ (flag : Option Bool). IsLink p x with_count passed l flag) (sym (flags i apart)) link_is) in
    record {
      linked = ap (map (λ (l : Link). l.player)) links ∙ set_mapped (λ (l : Link). l.player) s.links.items at link grown here still ∙ is.linked ∙ ap (linked_from p) (sym player);
      many = ap length row ∙ set_length s.row at flag ∙ is.many ∙ sym (ap length links ∙ set_length s.links.items at grown);
      done = λ i l below got. elim (eqb_tells i at) [
        | inl same ↦
            let one : slice_get (set s.links.items at grown) at ≡ Some l = ap (slice_get (set s.links.items at grown)) (sym same.1) ∙ ap (λ (ls : List Link). slice_get ls i) (sym links) ∙ got in
            let this : grown ≡ l = same_got (set s.links.items at grown) at grown l (get_set_same s.links.items at grown (got_below s.links.items at link here)) one in
            subst (λ (k : ℕ). IsLink p new.player now passed l (slice_get new.row k)) (sym same.1)
            (subst (λ (l : Link). IsLink p new.player now passed l (slice_get new.row at)) this own)
        | inr other ↦ let apart = other.1 in kept now i l other.1 (is.done i l (omega (arith, below, apart)) (before i l other.1 got))
      ];
      rest = λ i l from got. let apart : i ≢ at = omega (arith, from) in kept count i l apart (is.rest i l (omega (arith, from)) (before i l apart got));
    }

-- the players of a link
pub record AreApart (w : Setting) (p : Plan) (x y : Player) : Type 0 where
  pub from : IsPlayer w (cast_of p.attack) x
  pub to : IsPlayer w (cast_of p.attack) y
  pub below : number_of (cast_of p.attack) y < p.p.n
  pub differ : number_of (cast_of p.attack) x ≢ number_of (cast_of p.attack) y

player_below : (w : Setting) (p : Plan) → IsPlanned w p → (y : Player) → IsPlayer w (cast_of p.attack) y → number_of (cast_of p.attack) y < p.p.n
player_below w p planned (Correct i) correct =
    let below = ltb-true i (correct_of p) (sym (planned.correct i) ∙ correct) in
    let most = (some_correct p planned.session).1 in
    omega (arith, below, most)
player_below w p planned (Face a) player = let below = player.1 in let n = planned.n in omega (arith, below, n)

pub are_apart : (w : Setting) (p : Plan) → IsPlanned w p → (x y : Player) → Has (players_of p) x → Has (linked_from p x) y → AreApart w p x y
are_apart w p planned x y here there =
    let passing = has_passing (λ z. are_linked p x z) (players_of p) y there in
    let to = player_is w p planned y passing.0 in
    record { from = player_is w p planned x here; to = to; below = player_below w p planned y to; differ = linked_apart p x y passing.1 }

pub link_there : (p : Plan) (s : Sender) (at : ℕ) (link : Link) → map (λ l. l.player) s.links.items ≡ linked_from p s.player → slice_get s.links.items at ≡ Some link → Has (linked_from p s.player) link.player
link_there p s at link linked here =
    got_listed (linked_from p s.player) at link.player (ap (λ (ys : List Player). slice_get ys at) (sym linked) ∙ mapped_at (λ (l : Link). l.player) s.links.items at link here)

-- ---- a sender that is made

pub record IsNew (p : Plan) (x : Player) (at : ℕ) (links : List Link) (row : List Bool) : Type 0 where
  pub linked : map (λ l. l.player) links ≡ filter (λ y. are_linked p x y) (take at (players_of p))
  pub many : length row ≡ length links
  pub each : (i : ℕ) (link : Link) → slice_get links i ≡ Some link → IsLink p x (none_yet x) [] link (slice_get row i)

pub new_none : (p : Plan) (x : Player) → IsNew p x 0 [] []
new_none p x = record { linked = refl; many = refl; each = λ i link got. absurd cc }

pub new_past : (p : Plan) (x y : Player) (at : ℕ) (links : List Link) (row : List Bool) → IsNew p x at links row → at < length (players_of p) → y ≡ get_or (players_of p) at y
    → are_linked p x y ≡ false → IsNew p x (at + 1) links row
new_past p x y at links row is below read apart = record {
  linked = is.linked ∙ sym (filter_more (λ z. are_linked p x z) (players_of p) at y below
      ∙ ap (λ (z : Player). filter (λ z. are_linked p x z) (take at (players_of p)) ++ cond (are_linked p x z) (z ∷ []) []) (sym read)
      ∙ ap (λ b. filter (λ z. are_linked p x z) (take at (players_of p)) ++ cond b (y ∷ []) []) apart ∙ append-nil (filter (λ z. are_linked p x z) (take at (players_of p))));
  many = is.many;
  each = is.each;
}

pub new_next : (p : Plan) (x y : Player) (at : ℕ) (links : List Link) (row : List Bool) (link : Link) → IsNew p x at links row → at < length (players_of p) → y ≡ get_or (players_of p) at y
    → are_linked p x y ≡ true → link.place ≡ at → link.player ≡ y → ((left : ℕ → Bool) → ((m : ℕ) → left m ≡ true) → IsLane link.lane 0 left)
    → IsNew p x (at + 1) (links ++ link ∷ []) (row ++ false ∷ [])
new_next p x y at links row link is below read linked place player lane = record {
  linked = map-append (λ (l : Link). l.player) links (link ∷ []) ∙ ap₂ (λ (xs : List Player) (z : Player). xs ++ z ∷ []) is.linked player
      ∙ sym (filter_more (λ z. are_linked p x z) (players_of p) at y below
      ∙ ap (λ (z : Player). filter (λ z. are_linked p x z) (take at (players_of p)) ++ cond (are_linked p x z) (z ∷ []) []) (sym read)
      ∙ ap (λ b. filter (λ z. are_linked p x z) (take at (players_of p)) ++ cond b (y ∷ []) []) linked);
  many = length-append row (false ∷ []) ∙ ap (λ (k : ℕ). k + 1) is.many ∙ sym (length-append links (link ∷ []));
  each = λ i l got. elim (got_pushed links link i l got) [
    | inl first ↦
        let within : i < length row = let below = got_below links i l first in let many = is.many in omega (arith, below, many) in
        subst (λ (flag : Option Bool). IsLink p x (none_yet x) [] l flag) (sym (get_first row false i within)) (is.each i l first)
    | inr last ↦
        subst (λ (l : Link). IsLink p x (none_yet x) [] l (slice_get (row ++ false ∷ []) i)) last.1
        (record {
          place = ap (slice_get (players_of p)) place ∙ slice_get_read (players_of p) (length (players_of p)) at y refl below read ∙ ap (λ (z : Player). Some z) (sym player);
          lane = lane (is_left [] x link.player) (λ m. refl);
          flag_is = get_last row false i (last.0 ∙ sym is.many);
        })
  ];
}

pub new_all : (p : Plan) (s : Sender) (at : ℕ) → length (players_of p) ≤ at → IsNew p s.player at s.links.items s.row → IsSender p (none_yet s.player) [] s
new_all p s at most is = record {
  linked = is.linked ∙ ap (filter (λ y. are_linked p s.player y)) (take_all at (players_of p) most);
  many = is.many;
  each = is.each;
}

-- ---- the calls

-- no number is taken out
pub none_out : (count u : ℕ) (left : ℕ → Bool) (number : Option ℕ) → number ≡ None → has_left count left ≡ has_left count (without_taken u number left)
none_out count u left number none =
    subst (λ (o : Option ℕ). has_left count left ≡ has_left count (without_taken u o left)) (sym none) refl

pub link_at : (s : Sender) (at : ℕ) (link : Link) → at < length s.links.items → link ≡ get_or s.links.items at link → slice_get s.links.items at ≡ Some link
link_at s at link below read = slice_get_read s.links.items (length s.links.items) at link refl below read

-- the lane of a link leads to y
pub lane_to : (p : Plan) (count : Player → ℕ) (passed : List Passed) (s : Sender) → IsSender p count passed s → (at : ℕ) (y : Player) (link : Link)
    → slice_get (linked_from p s.player) at ≡ Some y → slice_get s.links.items at ≡ Some link → IsLane link.lane (count y) (is_left passed s.player y)
lane_to p count passed s is at y link there here =
    subst (λ (z : Player). IsLane link.lane (count z) (is_left passed s.player z)) (link_player p count passed s is at y link there here) (is.each at link here).lane

pub flag_to : (p : Plan) (count : Player → ℕ) (passed : List Passed) (s : Sender) → IsSender p count passed s → (at : ℕ) (y : Player) (link : Link)
    → slice_get (linked_from p s.player) at ≡ Some y → slice_get s.links.items at ≡ Some link → slice_get s.row at ≡ Some (has_left (count y) (is_left passed s.player y))
flag_to p count passed s is at y link there here =
    subst (λ (z : Player). slice_get s.row at ≡ Some (has_left (count z) (is_left passed s.player z))) (link_player p count passed s is at y link there here) (is.each at link here).flag_is

-- where no link is, no player is linked
pub none_there : (p : Plan) (count : Player → ℕ) (passed : List Passed) (s : Sender) → IsSender p count passed s → (at : ℕ) (y : Player)
    → slice_get (linked_from p s.player) at ≡ Some y → at < length s.links.items
none_there p count passed s is at y there =
    let from = from_at (λ (l : Link). l.player) s.links.items at y (ap (λ (ys : List Player). slice_get ys at) is.linked ∙ there) in
    got_below s.links.items at from.element from.is

-- other counts that are the same for those that the player is linked to
pub sender_same : (p : Plan) (count other : Player → ℕ) (passed : List Passed) (s : Sender) → ((z : Player) → Has (linked_from p s.player) z → count z ≡ other z) → IsSender p count passed s
    → IsSender p other passed s
sender_same p count other passed s same is = record {
  linked = is.linked;
  many = is.many;
  each = λ i link got.
      let e = same link.player (link_there p s i link is.linked got) in
      let old = is.each i link got in
      record {
        place = old.place;
        lane = subst (λ (n : ℕ). IsLane link.lane n (is_left passed s.player link.player)) e old.lane;
        flag_is = old.flag_is ∙ ap (λ (n : ℕ). Some (has_left n (is_left passed s.player link.player))) e;
      };
}
