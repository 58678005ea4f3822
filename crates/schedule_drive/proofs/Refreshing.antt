-- A picker after a frame was picked, and after counts were looked up.
use Rattle.std.proofs.Common.{◌≡◌, ◌≢◌, ℕ, ◌+◌, ◌%◌, ◌<◌, ◌≤◌, ◌&&◌, Bool, true, false, List, [], ◌∷◌, ◌++◌, length, take, map, get_or, set, Option, Some, refl, sym, ◌∙◌, ap, ap₂, subst, inl, inr, if◌then◌else◌, arith}
use Rattle.std.specs.Prelude.{min, Result, Ok, Err, IfOk}
use Rattle.std.specs.List.{slice_get}
use Rattle.ritas_base.specs.declared.bytes.Mem.{Mem}
use Rattle.std.proofs.lemmas.Bool.Decides.{eqb_tells}
use Rattle.std.proofs.lemmas.List.{map-append, length-append, take_all, take_more}
use Rattle.std.proofs.lemmas.Option.{slice_get_read}
use Rattle.ritas_base.specs.declared.plan.Plan.{Plan}
use Rattle.world_model.specs.World.{Setting}
use Rattle.world_model.specs.declared.player.Player.{Player}
use Rattle.world_model.specs.Players.{Step, scene_of}
use Rattle.schedule_plan.specs.Plans.{cast_of, players_of, linked_from}
use Rattle.schedule_plan.specs.Sweeps.{FrameCounts, none_yet}
use Rattle.schedule_plan.specs.Picks.{Passed, same_player, has_some}
use Rattle.schedule_drive.specs.declared.picker.Picker.{Picker}
use Rattle.schedule_drive.specs.declared.sender.Sender.{Sender}
use Rattle.schedule_drive.specs.declared.sender.Sent.{Sent}
use Rattle.schedule_drive.specs.Pickers.{waits_in, counts_in, open_numbers, passed_after, IsSent, IsSender, IsPicker, KnownFrames, IsUpdate, ComesToPlayer}
use Rattle.schedule_drive.proofs.Lists.{get_set_same, get_set_other, set_length, set_mapped, got_below, mapped_at, from_at, same_got, got_pushed, get_first, get_last, one_place}
use Rattle.schedule_drive.proofs.Distinct.{same_itself, same_apart, distinct_players}
use Rattle.schedule_drive.proofs.Senders.{link_apart}
use Rattle.schedule_drive.proofs.Scenes.{others_kept, same_counts, more_frames}

-- ---- the player at a place

pub sender_player : (p : Plan) (waits : Player → Bool) (counts : FrameCounts) (passed : List Passed) (picker : Picker) → IsPicker p waits counts passed picker → (at : ℕ) (x : Player) (s : Sender)
    → slice_get (players_of p) at ≡ Some x → slice_get picker.senders.items at ≡ Some s → s.player ≡ x
sender_player p waits counts passed picker is at x s there here =
    same_got (players_of p) at s.player x (ap (λ (xs : List Player). slice_get xs at) (sym is.players) ∙ mapped_at (λ (s : Sender). s.player) picker.senders.items at s here) there

pub sender_there : (p : Plan) (waits : Player → Bool) (counts : FrameCounts) (passed : List Passed) (picker : Picker) → IsPicker p waits counts passed picker → (at : ℕ) (x : Player)
    → slice_get (players_of p) at ≡ Some x → at < length picker.senders.items
sender_there p waits counts passed picker is at x there =
    let from = from_at (λ (s : Sender). s.player) picker.senders.items at x (ap (λ (xs : List Player). slice_get xs at) is.players ∙ there) in
    got_below picker.senders.items at from.element from.is

pub sender_at : (picker : Picker) (at : ℕ) (s : Sender) → at < length picker.senders.items → s ≡ get_or picker.senders.items at s → slice_get picker.senders.items at ≡ Some s
sender_at picker at s below read = slice_get_read picker.senders.items (length picker.senders.items) at s refl below read

-- another place has another player
other_player : (p : Plan) (waits : Player → Bool) (counts : FrameCounts) (passed : List Passed) (picker : Picker) → IsPicker p waits counts passed picker → (at r : ℕ) (x : Player) (s : Sender)
    → slice_get (players_of p) at ≡ Some x → slice_get picker.senders.items r ≡ Some s → r ≢ at → x ≢ s.player
other_player p waits counts passed picker is at r x s there here apart same =
    let there_r : slice_get (players_of p) r ≡ Some s.player = ap (λ (xs : List Player). slice_get xs r) (sym is.players) ∙ mapped_at (λ (s : Sender). s.player) picker.senders.items r s here in
    apart (one_place (players_of p) (distinct_players p) r at s.player there_r (there ∙ ap (λ (z : Player). Some z) same))

-- ---- a frame was picked

sender_apart : (p : Plan) (count : Player → ℕ) (passed : List Passed) (u : ℕ) (x y : Player) (number : Option ℕ) (s : Sender) → x ≢ s.player → IsSender p count passed s
    → IsSender p count (passed_after passed u x y number) s
sender_apart p count passed u x y number s apart is = record {
  linked = is.linked;
  many = is.many;
  each = λ i link got. link_apart p count passed u x y s.player number link (slice_get s.row i) (ap (λ b. b && same_player y link.player) (same_apart x s.player apart)) (is.each i link got);
}

pub picker_picked : (p : Plan) (waits : Player → Bool) (counts : FrameCounts) (passed : List Passed) (u : ℕ) (number : Option ℕ) (picker new : Picker) → IsPicker p waits counts passed picker
    → (at : ℕ) (x y : Player) (s picked : Sender) → slice_get (players_of p) at ≡ Some x → slice_get picker.senders.items at ≡ Some s
    → new.senders.items ≡ set picker.senders.items at picked → new.turns ≡ picker.turns → picked.player ≡ s.player
    → IsSender p (counts s.player) (passed_after passed u x y number) picked → IsPicker p waits counts (passed_after passed u x y number) new
picker_picked p waits counts passed u number picker new is at x y s picked there here senders turns player sender =
    let own : IsSender p (counts picked.player) (passed_after passed u x y number) picked = subst (λ (z : Player). IsSender p (counts z) (passed_after passed u x y number) picked) (sym player) sender in
    let this : (r : ℕ) (t : Sender) → slice_get new.senders.items r ≡ Some t → r ≡ at → picked ≡ t =
    λ r t got same. same_got (set picker.senders.items at picked) at picked t (get_set_same picker.senders.items at picked (got_below picker.senders.items at s here))
    (ap (slice_get (set picker.senders.items at picked)) (sym same) ∙ ap (λ (ss : List Sender). slice_get ss r) (sym senders) ∙ got) in
    let before : (r : ℕ) (t : Sender) → slice_get new.senders.items r ≡ Some t → r ≢ at → slice_get picker.senders.items r ≡ Some t =
    λ r t got apart. sym (get_set_other picker.senders.items at r picked apart) ∙ ap (λ (ss : List Sender). slice_get ss r) (sym senders) ∙ got in
    record {
      players = ap (map (λ (s : Sender). s.player)) senders ∙ set_mapped (λ (s : Sender). s.player) picker.senders.items at s picked here player ∙ is.players;
      many = ap length turns ∙ is.many ∙ sym (ap length senders ∙ set_length picker.senders.items at picked);
      turns = λ r t got. ap (λ (bs : List Bool). slice_get bs r) turns ∙ (elim (eqb_tells r at) [
        | inl same ↦ ap (slice_get picker.turns) same.1 ∙ is.turns at s here ∙ ap (λ (z : Player). Some (waits z)) (sym player ∙ ap (λ (s : Sender). s.player) (this r t got same.1))
        | inr other ↦ is.turns r t (before r t got other.1)
      ]);
      senders = λ r t got. elim (eqb_tells r at) [
        | inl same ↦ subst (λ (t : Sender). IsSender p (counts t.player) (passed_after passed u x y number) t) (this r t got same.1) own
        | inr other ↦
            let old = before r t got other.1 in
            sender_apart p (counts t.player) passed u x y number t (other_player p waits counts passed picker is at r x t there old other.1) (is.senders r t old)
      ];
    }

-- ---- a player was looked up

pub picker_updated : (w : Setting) (p : Plan) (steps : List Step) (known next : KnownFrames) (passed : List Passed) (picker new : Picker) → IsPicker p known.waits known.counts passed picker
    → (at : ℕ) (y : Player) (s grown : Sender) → slice_get (players_of p) at ≡ Some y → slice_get picker.senders.items at ≡ Some s → IsUpdate w p steps y known next
    → new.senders.items ≡ set picker.senders.items at grown → new.turns ≡ set picker.turns at (waits_in w p steps y) → grown.player ≡ s.player
    → IsSender p (counts_in w p steps s.player) passed grown → IsPicker p next.waits next.counts passed new
picker_updated w p steps known next passed picker new is at y s grown there here update senders turns player sender =
    let to_y : s.player ≡ y = sender_player p known.waits known.counts passed picker is at y s there here in
    let counts : next.counts y ≡ counts_in w p steps y = λ t z. update.counts_at z t in
    let own : IsSender p (next.counts grown.player) passed grown =
    subst (λ (count : Player → ℕ). IsSender p count passed grown) (ap (counts_in w p steps) to_y ∙ sym counts ∙ ap next.counts (sym (player ∙ to_y))) sender in
    let this : (r : ℕ) (t : Sender) → slice_get new.senders.items r ≡ Some t → r ≡ at → grown ≡ t =
    λ r t got same. same_got (set picker.senders.items at grown) at grown t (get_set_same picker.senders.items at grown (got_below picker.senders.items at s here))
    (ap (slice_get (set picker.senders.items at grown)) (sym same) ∙ ap (λ (ss : List Sender). slice_get ss r) (sym senders) ∙ got) in
    let before : (r : ℕ) (t : Sender) → slice_get new.senders.items r ≡ Some t → r ≢ at → slice_get picker.senders.items r ≡ Some t =
    λ r t got apart. sym (get_set_other picker.senders.items at r grown apart) ∙ ap (λ (ss : List Sender). slice_get ss r) (sym senders) ∙ got in
    let apart_from : (r : ℕ) (t : Sender) → slice_get picker.senders.items r ≡ Some t → r ≢ at → t.player ≢ y =
    λ r t old apart same. other_player p known.waits known.counts passed picker is at r y t there old apart (sym same) in
    let within : at < length picker.turns = (let below = got_below picker.senders.items at s here in let many = is.many in omega (arith, below, many)) in
    record {
      players = ap (map (λ (s : Sender). s.player)) senders ∙ set_mapped (λ (s : Sender). s.player) picker.senders.items at s grown here player ∙ is.players;
      many = ap length turns ∙ set_length picker.turns at (waits_in w p steps y) ∙ is.many ∙ sym (ap length senders ∙ set_length picker.senders.items at grown);
      turns = λ r t got. ap (λ (bs : List Bool). slice_get bs r) turns ∙ (elim (eqb_tells r at) [
        | inl same ↦
            let own_flag : slice_get (set picker.turns at (waits_in w p steps y)) at ≡ Some (next.waits y) = get_set_same picker.turns at (waits_in w p steps y) within ∙ ap (λ (b : Bool). Some b) (sym update.waits_at) in
            ap (slice_get (set picker.turns at (waits_in w p steps y))) same.1 ∙ own_flag
            ∙ ap (λ (z : Player). Some (next.waits z)) (sym (player ∙ to_y) ∙ ap (λ (s : Sender). s.player) (this r t got same.1))
        | inr other ↦
            let old = before r t got other.1 in
            get_set_other picker.turns at r (waits_in w p steps y) other.1 ∙ is.turns r t old ∙ ap (λ (b : Bool). Some b) (sym (update.waits_else t.player (apart_from r t old other.1)))
      ]);
      senders = λ r t got. elim (eqb_tells r at) [
        | inl same ↦ subst (λ (t : Sender). IsSender p (next.counts t.player) passed t) (this r t got same.1) own
        | inr other ↦
            let old = before r t got other.1 in
            let same : known.counts t.player ≡ next.counts t.player = λ i z. sym (update.counts_else t.player (apart_from r t old other.1) z) i in
            subst (λ (count : Player → ℕ). IsSender p count passed t) same (is.senders r t old)
      ];
    }

-- what is known after some steps
abbrev pub known_in : Setting → Plan → List Step → KnownFrames
known_in w p steps = record { waits = waits_in w p steps; counts = counts_in w p steps }

-- a step changes what is known of the player that it comes to
pub step_updates : (w : Setting) (p : Plan) (steps : List Step) (step : Step) (y : Player) → ComesToPlayer step y → IsUpdate w p (step ∷ steps) y (known_in w p steps) (known_in w p (step ∷ steps))
step_updates w p steps step y comes =
    let c = cast_of p.attack in
    let s = scene_of w c steps in
    record {
      waits_at = refl;
      counts_at = λ z. refl;
      grown = λ z. more_frames w c s step y z;
      waits_else = λ x apart. ap has_some (others_kept w c s step y x comes apart).inbox;
      counts_else = λ x apart z. same_counts w c s (scene_of w c (step ∷ steps)) x z (others_kept w c s step y x comes apart);
    }

-- ---- all were looked up

pub record IsPartly (w : Setting) (p : Plan) (steps : List Step) (passed : List Passed) (picker : Picker) (at : ℕ) : Type 0 where
  pub known : KnownFrames
  pub is : IsPicker p known.waits known.counts passed picker
  pub grown : (x z : Player) → known.counts x z ≤ counts_in w p steps x z
  pub done : (r : ℕ) (x : Player) → r < at → slice_get (players_of p) r ≡ Some x → (known.waits x ≡ waits_in w p steps x) × ((z : Player) → known.counts x z ≡ counts_in w p steps x z)

pub partly_none : (w : Setting) (p : Plan) (steps : List Step) (known : KnownFrames) (passed : List Passed) (picker : Picker) → IsPicker p known.waits known.counts passed picker
    → ((x z : Player) → known.counts x z ≤ counts_in w p steps x z) → IsPartly w p steps passed picker 0
partly_none w p steps known passed picker is grown = record { known = known; is = is; grown = grown; done = λ r x below. absurd (omega (arith, below)) }

-- with what is so of y
abbrev with_player : Setting → Plan → List Step → Player → KnownFrames → KnownFrames
with_player w p steps y known = record {
  waits = λ x. if same_player x y then waits_in w p steps x else known.waits x;
  counts = λ x z. if same_player x y then counts_in w p steps x z else known.counts x z;
}

either_is : {X : Type 0} (b : Bool) (x y : X) → (b ≡ false → y ≡ x) → (if b then x else y) ≡ x
either_is true x y is = refl
either_is false x y is = is refl

either_most : (b : Bool) (m n : ℕ) → n ≤ m → (if b then m else n) ≤ m
either_most true m n most = omega arith
either_most false m n most = most

with_updates : (w : Setting) (p : Plan) (steps : List Step) (y : Player) (known : KnownFrames) → ((x z : Player) → known.counts x z ≤ counts_in w p steps x z) → IsUpdate w p steps y known (with_player w p steps y known)
with_updates w p steps y known grown = record {
  waits_at = ap (λ b. if b then waits_in w p steps y else known.waits y) (same_itself y);
  counts_at = λ z. ap (λ b. if b then counts_in w p steps y z else known.counts y z) (same_itself y);
  grown = grown y;
  waits_else = λ x apart. ap (λ b. if b then waits_in w p steps x else known.waits x) (same_apart x y apart);
  counts_else = λ x apart z. ap (λ b. if b then counts_in w p steps x z else known.counts x z) (same_apart x y apart);
}

pub partly_next : (w : Setting) (p : Plan) (steps : List Step) (passed : List Passed) (picker new : Picker) (at : ℕ) (y : Player) → IsPartly w p steps passed picker at → slice_get (players_of p) at ≡ Some y
    → ((known next : KnownFrames) → IsPicker p known.waits known.counts passed picker → IsUpdate w p steps y known next → IsPicker p next.waits next.counts passed new) → IsPartly w p steps passed new (at + 1)
partly_next w p steps passed picker new at y part there refresh =
    let known = part.known in
    let next : KnownFrames = with_player w p steps y known in
    record {
      known = next;
      is = refresh known next part.is (with_updates w p steps y known part.grown);
      grown = λ x z. either_most (same_player x y) (counts_in w p steps x z) (known.counts x z) (part.grown x z);
      done = λ r x below got.
          let is_done : same_player x y ≡ false → (known.waits x ≡ waits_in w p steps x) × ((z : Player) → known.counts x z ≡ counts_in w p steps x z) =
          λ other. elim (eqb_tells r at) [
            | inl same ↦
                let here : slice_get (players_of p) at ≡ Some x = ap (slice_get (players_of p)) (sym same.1) ∙ got in
                let e : y ≡ x = same_got (players_of p) at y x there here in
                let clash : true ≡ false = sym (same_itself x) ∙ ap (same_player x) (sym e) ∙ other in
                absurd cc
            | inr apart ↦ let far = apart.1 in part.done r x (omega (arith, below, far)) got
          ] in (
            either_is (same_player x y) (waits_in w p steps x) (known.waits x) (λ other. (is_done other).0),
            λ z. either_is (same_player x y) (counts_in w p steps x z) (known.counts x z) (λ other. (is_done other).1 z),
          );
    }

pub partly_all : (w : Setting) (p : Plan) (steps : List Step) (passed : List Passed) (picker : Picker) (at : ℕ) → length picker.senders.items ≤ at → IsPartly w p steps passed picker at
    → IsPicker p (waits_in w p steps) (counts_in w p steps) passed picker
partly_all w p steps passed picker at most part =
    let is = part.is in
    let done : (r : ℕ) (s : Sender) → slice_get picker.senders.items r ≡ Some s → (part.known.waits s.player ≡ waits_in w p steps s.player) × ((z : Player) → part.known.counts s.player z ≡ counts_in w p steps s.player z) =
    λ r s got.
    part.done r s.player (let below = got_below picker.senders.items r s got in omega (arith, below, most))
    (ap (λ (xs : List Player). slice_get xs r) (sym is.players) ∙ mapped_at (λ (s : Sender). s.player) picker.senders.items r s got) in
    record {
      players = is.players;
      many = is.many;
      turns = λ r s got. is.turns r s got ∙ ap (λ (b : Bool). Some b) (done r s got).0;
      senders = λ r s got.
          let same : part.known.counts s.player ≡ counts_in w p steps s.player = λ t z. (done r s got).1 z t in
          subst (λ (count : Player → ℕ). IsSender p count passed s) same (is.senders r s got);
    }

-- ---- a picker that is made

pub record IsFirst (p : Plan) (at : ℕ) (senders : List Sender) (turns : List Bool) : Type 0 where
  pub players : map (λ s. s.player) senders ≡ take at (players_of p)
  pub many : length turns ≡ length senders
  pub turns_are : (r : ℕ) (s : Sender) → slice_get senders r ≡ Some s → slice_get turns r ≡ Some false
  pub each : (r : ℕ) (s : Sender) → slice_get senders r ≡ Some s → IsSender p (none_yet s.player) [] s

pub first_none : (p : Plan) → IsFirst p 0 [] []
first_none p = record { players = refl; many = refl; turns_are = λ r s got. absurd cc; each = λ r s got. absurd cc }

pub first_next : (p : Plan) (at : ℕ) (senders : List Sender) (turns : List Bool) (y : Player) (s : Sender) → IsFirst p at senders turns → at < length (players_of p) → y ≡ get_or (players_of p) at y
    → s.player ≡ y → IsSender p (none_yet y) [] s → IsFirst p (at + 1) (senders ++ s ∷ []) (turns ++ false ∷ [])
first_next p at senders turns y s is below read player sender = record {
  players = map-append (λ (s : Sender). s.player) senders (s ∷ []) ∙ ap₂ (λ (xs : List Player) (z : Player). xs ++ z ∷ []) is.players (player ∙ read) ∙ sym (take_more (players_of p) at y below);
  many = length-append turns (false ∷ []) ∙ ap (λ (k : ℕ). k + 1) is.many ∙ sym (length-append senders (s ∷ []));
  turns_are = λ r t got. elim (got_pushed senders s r t got) [
    | inl first ↦ get_first turns false r (let within = got_below senders r t first in let many = is.many in omega (arith, within, many)) ∙ is.turns_are r t first
    | inr last ↦ get_last turns false r (last.0 ∙ sym is.many)
  ];
  each = λ r t got. elim (got_pushed senders s r t got) [
    | inl first ↦ is.each r t first
    | inr last ↦ subst (λ (t : Sender). IsSender p (none_yet t.player) [] t) last.1 (subst (λ (z : Player). IsSender p (none_yet z) [] s) (sym player) sender)
  ];
}

pub first_all : (p : Plan) (at : ℕ) (picker : Picker) → length (players_of p) ≤ at → IsFirst p at picker.senders.items picker.turns → IsPicker p (λ y. false) none_yet [] picker
first_all p at picker most is = record { players = is.players ∙ take_all at (players_of p) most; many = is.many; turns = is.turns_are; senders = is.each }

-- a pick at a sender is one of the picker
pub pick_at : (p : Plan) (waits : Player → Bool) (counts : FrameCounts) (passed : List Passed) (u : ℕ) (picker new : Picker) → IsPicker p waits counts passed picker
    → (at to : ℕ) (x y : Player) (s picked : Sender) → slice_get (players_of p) at ≡ Some x → slice_get picker.senders.items at ≡ Some s → slice_get (linked_from p x) to ≡ Some y
    → new.senders.items ≡ set picker.senders.items at picked → new.turns ≡ picker.turns → picked.player ≡ s.player → (result : Result (Option Sent) Mem)
    → (slice_get (linked_from p s.player) to ≡ Some y → let frames = open_numbers (counts s.player) passed s.player y in let number = slice_get frames (u % min 8 (length frames)) in
    IfOk result (λ sent. IsSent p s.player y number sent × IsSender p (counts s.player) (passed_after passed u s.player y number) picked))
    → let frames = open_numbers (counts x) passed x y in let number = slice_get frames (u % min 8 (length frames)) in
    IfOk result (λ sent. IsSent p x y number sent × IsPicker p waits counts (passed_after passed u x y number) new)
pick_at p waits counts passed u picker new is at to x y s picked there here linked senders turns player result does =
    let own : s.player ≡ x = sender_player p waits counts passed picker is at x s there here in
    let number : Player → Option ℕ = λ z. slice_get (open_numbers (counts z) passed z y) (u % min 8 (length (open_numbers (counts z) passed z y))) in
    let at_s : slice_get (linked_from p s.player) to ≡ Some y = ap (λ (z : Player). slice_get (linked_from p z) to) own ∙ linked in
    subst (λ (z : Player). IfOk result (λ sent. IsSent p z y (number z) sent × IsPicker p waits counts (passed_after passed u z y (number z)) new)) own
    (both (λ sent. IsSent p s.player y (number s.player) sent) result (does at_s) (picker_picked p waits counts passed u (number s.player) picker new is at s.player y s picked (there ∙ ap (λ (z : Player). Some z) (sym own)) here senders turns player))
  where
    both : {A B C : Type 0} (P : C → Type 0) (r : Result C Mem) → IfOk r (λ c. P c × A) → (A → B) → IfOk r (λ c. P c × B)
    both P (Ok c) is then_is = (is.0, then_is is.1)
    both P (Err e) is then_is = is
