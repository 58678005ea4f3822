-- The players of a plan are different ones, and few.
use Rattle.std.proofs.Common.{◌≡◌, ◌≢◌, ℕ, zero, suc, ◌+◌, ◌≤◌, Bool, true, false, [], ◌∷◌, refl, sym, ◌∙◌, ap, inl, inr, if◌then◌else◌, arith}
use Rattle.std.specs.List.{flat_map, range_with_len}
use Rattle.std.proofs.lemmas.Bool.{eq-eqb, ne_eqb}
use Rattle.ritas_base.specs.declared.plan.Plan.{Plan}
use Rattle.ritas_base.specs.declared.plan.Attack.{Attack}
use Rattle.ritas_base.specs.declared.plan.Attack.TheVariants.{Absent, Silent, TwoFace, Flip, Garbage}
use Rattle.layer_api.specs.Runs.{Has}
use Rattle.world_model.specs.declared.player.Player.{Player}
use Rattle.world_model.specs.declared.player.Player.TheVariants.{Correct, Face}
use Rattle.world_model.specs.Players.{number_of}
use Rattle.world_model.proofs.Anywhere.{among_from}
use Rattle.schedule_plan.specs.Plans.{is_correct_in, faces_of, face_a, face_b, cast_of, players_at, players_of, are_linked, linked_from}
use Rattle.schedule_plan.specs.Picks.{same_player}
use Rattle.schedule_drive.proofs.Lists.{IsDistinct, distinct_append, distinct_filter}

-- ---- the test of players

pub same_itself : (x : Player) → same_player x x ≡ true
same_itself (Correct i) = eq-eqb i i refl
same_itself (Face a) = eq-eqb a a refl

pub same_apart : (x y : Player) → x ≢ y → same_player x y ≡ false
same_apart (Correct i) (Correct j) apart = ne_eqb i j (λ e. apart (ap Correct e))
same_apart (Correct i) (Face b) apart = refl
same_apart (Face a) (Correct j) apart = refl
same_apart (Face a) (Face b) apart = ne_eqb a b (λ e. apart (ap Face e))

-- ---- different ones

face_number : (attack : Attack) (i : ℕ) (x : Player) → Has (faces_of attack i) x → number_of (cast_of attack) x ≡ i
face_number Absent i x there = absurd there
face_number Silent i x there = absurd there
face_number Garbage i x there = absurd there
face_number Flip i x (inl e) = sym (ap (number_of (cast_of Flip)) e) ∙ omega arith
face_number Flip i x (inr none) = absurd none
face_number TwoFace i x (inl e) = sym (ap (number_of (cast_of TwoFace)) e) ∙ omega arith
face_number TwoFace i x (inr (inl e)) = sym (ap (number_of (cast_of TwoFace)) e) ∙ omega arith
face_number TwoFace i x (inr (inr none)) = absurd none

-- what plays a replica has its number
pub number_at : (p : Plan) (i : ℕ) (x : Player) → Has (players_at p i) x → number_of (cast_of p.attack) x ≡ i
number_at p i x there = at (is_correct_in p i) there
  where
    at : (b : Bool) → Has (if b then Correct i ∷ [] else faces_of p.attack i) x → number_of (cast_of p.attack) x ≡ i
    at true (inl e) = sym (ap (number_of (cast_of p.attack)) e)
    at true (inr none) = absurd none
    at false there = face_number p.attack i x there

distinct_faces : (attack : Attack) (i : ℕ) → IsDistinct (faces_of attack i)
distinct_faces Absent i = tt
distinct_faces Silent i = tt
distinct_faces Garbage i = tt
distinct_faces Flip i = (λ none. absurd none, tt)
distinct_faces TwoFace i = (λ there. elim there [ inl e ↦ (let same : Face (face_b i) ≡ Face (face_a i) = e in let number : face_b i ≡ face_a i = cc in absurd (omega (arith, number))) | inr none ↦ absurd none ], (λ none. absurd none, tt))

distinct_at : (p : Plan) (i : ℕ) → IsDistinct (players_at p i)
distinct_at p i = at (is_correct_in p i)
  where
    at : (b : Bool) → IsDistinct (if b then Correct i ∷ [] else faces_of p.attack i)
    at true = (λ none. absurd none, tt)
    at false = distinct_faces p.attack i

numbered_from : (p : Plan) (a n : ℕ) (x : Player) → Has (flat_map (players_at p) (range_with_len a n)) x → a ≤ number_of (cast_of p.attack) x
numbered_from p a zero x there = absurd there
numbered_from p a (suc n) x there =
    let from = among_from (players_at p) (range_with_len a (suc n)) x there in
    let number = number_at p from.element x from.inside in
    let least = least_in a (suc n) from.element from.listed in
    omega (arith, number, least)
  where
    least_in : (a n i : ℕ) → Has (range_with_len a n) i → a ≤ i
    least_in a zero i there = absurd there
    least_in a (suc n) i (inl e) = omega (arith, e)
    least_in a (suc n) i (inr there) = let more = least_in (a + 1) n i there in omega (arith, more)

distinct_from : (p : Plan) (a n : ℕ) → IsDistinct (flat_map (players_at p) (range_with_len a n))
distinct_from p a zero = tt
distinct_from p a (suc n) =
    distinct_append (players_at p a) (flat_map (players_at p) (range_with_len (a + 1) n)) (distinct_at p a) (distinct_from p (a + 1) n)
    (λ x here there. let number = number_at p a x here in let least = numbered_from p (a + 1) n x there in absurd (omega (arith, number, least)))

pub distinct_players : (p : Plan) → IsDistinct (players_of p)
distinct_players p = distinct_from p 0 p.p.n

pub distinct_linked : (p : Plan) (x : Player) → IsDistinct (linked_from p x)
distinct_linked p x = distinct_filter (λ y. are_linked p x y) (players_of p) (distinct_players p)
