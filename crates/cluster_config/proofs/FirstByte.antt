-- A text is cut at its first line feed.
use Rattle.std.proofs.Common.{◌≡◌, ℕ, suc, ◌+◌, ◌==◌, ◌&&◌, Bool, true, false, not, cond, nat_lt, List, [], ◌∷◌, ◌++◌, take, drop, length, Option, Some, None, option_map, refl, sym, ◌∙◌, ap, ap₂, subst, arith, inl, inr, if◌then◌else◌}
use Rattle.std.specs.List.{position_or_len}
use Rattle.std.proofs.lemmas.Bool.{cases_lt, lt-ltb, le-ltb, eqb-true, not-true}
use Rattle.cluster_config.specs.Cuts.{cut_at}
use Rattle.cluster_config.specs.Columns.{is_one_line}

abbrev with_first : ℕ → List ℕ × List ℕ → List ℕ × List ℕ
with_first b x = (b ∷ x.0, x.1)

abbrev cut_on : List ℕ → Option (List ℕ × List ℕ)
cut_on [] = None
cut_on (b ∷ bs) = if b == 10 then Some ([], bs) else option_map (with_first b) (cut_on bs)

abbrev feed : ℕ → Bool
feed b = b == 10

abbrev place : List ℕ → ℕ
place = position_or_len feed

abbrev cut_by : List ℕ → ℕ → Bool → Option (List ℕ × List ℕ)
cut_by text p b = option_map (λ end. (take end text, drop (end + 1) text)) (cond b (Some p) None)

cut_step : (b : ℕ) (bs : List ℕ) (t : Bool) → (b == 10) ≡ t → cut_at 10 bs ≡ cut_on bs
    → cut_by (b ∷ bs) (cond (not t) (1 + place bs) 0) (nat_lt (cond (not t) (1 + place bs) 0) (length (b ∷ bs))) ≡ (if t then Some ([], bs) else option_map (with_first b) (cut_on bs))
cut_step b bs true is ih = rw (lt-ltb 0 (length (b ∷ bs)) (omega arith)) refl
cut_step b bs false is ih = elim (cases_lt (place bs) (length bs)) [
  | inl lt ↦
      let inside : nat_lt (1 + place bs) (length (b ∷ bs)) ≡ true = lt-ltb (1 + place bs) (length (b ∷ bs)) (omega (arith, lt)) in
      let here : nat_lt (place bs) (length bs) ≡ true = lt-ltb (place bs) (length bs) lt in
      let was : Some (take (place bs) bs, drop (place bs + 1) bs) ≡ cut_on bs = sym (ap (cut_by bs (place bs)) here) ∙ ih in
      let one : 1 + place bs ≡ suc (place bs) = omega arith in
      let two : 1 + place bs + 1 ≡ suc (place bs + 1) = omega arith in
      ap (cut_by (b ∷ bs) (1 + place bs)) inside
      ∙ ap₂ (λ (i j : ℕ). Some (take i (b ∷ bs), drop j (b ∷ bs))) one two
      ∙ ap (option_map (with_first b)) was
  | inr le ↦
      let outside : nat_lt (1 + place bs) (length (b ∷ bs)) ≡ false = le-ltb (1 + place bs) (length (b ∷ bs)) (omega (arith, le)) in
      let none : nat_lt (place bs) (length bs) ≡ false = le-ltb (place bs) (length bs) le in
      let was : None ≡ cut_on bs = sym (ap (cut_by bs (place bs)) none) ∙ ih in
      ap (cut_by (b ∷ bs) (1 + place bs)) outside ∙ ap (option_map (with_first b)) was
]

cut_is : (text : List ℕ) → cut_at 10 text ≡ cut_on text
cut_is [] = refl
cut_is (b ∷ bs) = cut_step b bs (b == 10) refl (cut_is bs)

-- the two parts
pub record IsCut (text line rest : List ℕ) : Type 0 where
  pub whole : text ≡ line ++ 10 ∷ rest
  pub one_line : is_one_line line ≡ true

abbrev parts_as : List ℕ → List ℕ → Option (List ℕ × List ℕ)
parts_as a b = Some (a, b)

same_parts : (a b c d : List ℕ) → parts_as a b ≡ parts_as c d → (a ≡ c) × (b ≡ d)
same_parts a b c d e =
    let p : ◌≡◌ {A = List ℕ × List ℕ} (a, b) (c, d) = cc in
    (ap (λ (x : List ℕ × List ℕ). x.0) p, ap (λ (x : List ℕ × List ℕ). x.1) p)

split_at : (text line rest : List ℕ) → cut_on text ≡ Some (line, rest) → IsCut text line rest
split_at [] line rest e = absurd cc
split_at (b ∷ bs) line rest e = go (λ l r f. split_at bs l r f) (b == 10) refl (cut_on bs) refl e
  where
    go : ((l r : List ℕ) → cut_on bs ≡ Some (l, r) → IsCut bs l r) → (t : Bool) → (b == 10) ≡ t → (o : Option (List ℕ × List ℕ)) → cut_on bs ≡ o
        → (if t then Some ([], bs) else option_map (with_first b) o) ≡ Some (line, rest) → IsCut (b ∷ bs) line rest
    go more_of true is o was f =
        let parts = same_parts [] bs line rest f in
        let ten : b ≡ 10 = eqb-true b 10 is in
        record { whole = rw (ten, parts.1, ← parts.0) refl; one_line = rw (← parts.0) refl }
    go more_of false is None was f = absurd cc
    go more_of false is (Some x) was f =
        let parts = same_parts (b ∷ x.0) x.1 line rest f in
        let more = more_of x.0 x.1 was in
        record {
          whole = ap (λ (l : List ℕ). b ∷ l) more.whole ∙ ap₂ (λ (l r : List ℕ). l ++ 10 ∷ r) parts.0 parts.1;
          one_line = subst (λ (l : List ℕ). is_one_line l ≡ true) parts.0 (rw is more.one_line);
        }

pub cut_split : (text line rest : List ℕ) → cut_at 10 text ≡ Some (line, rest) → IsCut text line rest
cut_split text line rest e = split_at text line rest (sym (cut_is text) ∙ e)

pub both : (a b : Bool) → (a && b) ≡ true → (a ≡ true) × (b ≡ true)
both true b e = (refl, e)
both false b e = absurd cc

join_at : (line rest : List ℕ) → is_one_line line ≡ true → cut_on (line ++ 10 ∷ rest) ≡ Some (line, rest)
join_at [] rest one = refl
join_at (b ∷ line) rest one =
    let parts = both (not (b == 10)) (is_one_line line) one in
    let other : (b == 10) ≡ false = not-true (b == 10) parts.0 in
    let more = join_at line rest parts.1 in
    rw (other, more) refl

pub cut_joined : (line rest : List ℕ) → is_one_line line ≡ true → cut_at 10 (line ++ 10 ∷ rest) ≡ Some (line, rest)
cut_joined line rest one = cut_is (line ++ 10 ∷ rest) ∙ join_at line rest one
