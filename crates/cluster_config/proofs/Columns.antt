-- What a text of lines says is what is read of it, and where nothing is read the first wrong line is answered, at every column.
use Rattle.std.proofs.Common.{◌≡◌, ◌≢◌, ◌↔◌, ℕ, zero, suc, ◌+◌, ◌<◌, ◌≤◌, ◌==◌, Bool, true, false, List, [], length, Option, Result, Ok, Err, refl, sym, ◌∙◌, ap, subst, arith, inl, inr, if◌then◌else◌}
use Rattle.std.proofs.lemmas.Bool.{cases_lt}
use Rattle.cluster_config.specs.Lines.{LinePlace, Reading, ◌>>=◌, first_line, text_end_at, field_at}
use Rattle.cluster_config.specs.Columns.{BeginsWith, Column, Done, Line, Perhaps, is_one_line, read_by, without_place, read_text, IsText, AreRight, IsFirstWrongLine, IsReadRight}
use Rattle.cluster_config.proofs.Fields.{bind_ok, bound, same_ok, field_is, field_again, names_field, begun, empty_is, end_is, end_again, names_end}

-- what is read where nothing may follow
abbrev unless_over : {X : Type 0} → Bool → X → LinePlace → Reading X → Reading X
unless_over b x s more = if b then Ok (x, s) else more

-- ---- the grammar
abbrev Reads : {X : Type 0} → Column X → Type 0
Reads {X} c = (s end : LinePlace) (x : X) → read_by c s ≡ Ok (x, end) → IsText c x s.rest

line_found : {X A : Type 0} (name : List ℕ) (one : is_one_line name ≡ true) (read : List ℕ → Option A) (next : A → Column X) → ((y : A) → Reads (next y)) → Reads (Line name one read next)
unfolding read_by
line_found name one read next more s end x e =
    let field = bind_ok (field_at name read s) _ (x, end) e in
    let is = field_is name read s field.0.1 field.0.0 field.1 in
    (field.0.0, field.0.1.rest, is.begins, more field.0.0 field.0.1 end x field.2)

found_at : {X : Type 0} (c : Column X) → Reads c
unfolding read_by
found_at (Done y) s end x e =
    let over = bind_ok (text_end_at s) _ (x, end) e in
    (end_is s over.0.1 over.0.0 over.1, (same_ok y x over.0.1 end over.2).0)
found_at (Line name one read next) s end x e = line_found name one read next (λ y. found_at (next y)) s end x e
found_at {X} (Perhaps y name one read next) s end x e = go (line_found name one read next (λ z. found_at (next z)) s end x) (length s.rest == 0) refl e
  where
    go : (read_by (Line name one read next) s ≡ Ok (x, end) → IsText (Line name one read next) x s.rest)
        → (b : Bool) → (length s.rest == 0) ≡ b → unless_over b y s (read_by (Line name one read next) s) ≡ Ok (x, end) → IsText (Perhaps y name one read next) x s.rest
    go more true is f = inl (empty_is s.rest is, (same_ok y x s end f).0)
    go more false is f = inr (more f)

abbrev IsReadAs : {X : Type 0} → Column X → Type 0
IsReadAs {X} c = (s : LinePlace) (x : X) → IsText c x s.rest → (end : LinePlace) × (read_by c s ≡ Ok (x, end))

line_only : {X A : Type 0} (name : List ℕ) (one : is_one_line name ≡ true) (read : List ℕ → Option A) (next : A → Column X) → ((y : A) → IsReadAs (next y)) → IsReadAs (Line name one read next)
unfolding read_by
line_only name one read next only s x is =
    let after : LinePlace = record { number = s.number + 1; rest = is.1 } in
    let more = only is.0 after x is.3 in
    (more.0, bound (field_at name read s) _ (is.0, after) _ (field_again name read s is.0 is.1 one is.2) more.1)

only_at : {X : Type 0} (c : Column X) → IsReadAs c
unfolding read_by
only_at {X} (Done y) s x is =
    let end : LinePlace = record { number = s.number; rest = [] } in
    (end, bound (text_end_at s) _ (tt, end) _ (end_again s is.0) (ap (λ (z : X). Ok (z, end)) is.1))
only_at (Line name one read next) s x is = line_only name one read next (λ y. only_at (next y)) s x is
only_at {X} (Perhaps y name one read next) s x (inl is) =
    let nothing : (length s.rest == 0) ≡ true = ap (λ (l : List ℕ). length l == 0) is.0 in
    (s, ap (λ (b : Bool). unless_over b y s (read_by (Line name one read next) s)) nothing ∙ ap (λ (z : X). Ok (z, s)) is.1)
only_at (Perhaps y name one read next) s x (inr is) =
    let more = line_only name one read next (λ z. only_at (next z)) s x is in
    (more.0, ap (λ (b : Bool). unless_over b y s (read_by (Line name one read next) s)) (begun name read is.0 is.1 s.rest is.2) ∙ more.1)

placed : {X : Type 0} (r : Reading X) (x : X) → without_place r ≡ Ok x → (end : LinePlace) × (r ≡ Ok (x, end))
placed {X} (Ok y) x e = (y.1, let same : y.0 ≡ x = cc in ap (λ (z : X). Ok (z, y.1)) same)
placed (Err line) x e = absurd cc

found : {X : Type 0} (c : Column X) (text : List ℕ) (x : X) → read_text c text ≡ Ok x → IsText c x text
unfolding read_text
found c text x e =
    let at = placed (read_by c (first_line text)) x e in
    found_at c (first_line text) at.0 x at.1

only : {X : Type 0} (c : Column X) (text : List ℕ) (x : X) → IsText c x text → read_text c text ≡ Ok x
unfolding read_text
only c text x is = ap without_place (only_at c (first_line text) x is).1

-- ---- a text that is wrong
record WrongFrom {X : Type 0} (c : Column X) (s : LinePlace) (line : ℕ) : Type 0 where
  before : ℕ
  next : line ≡ s.number + before
  right : AreRight c before s.rest
  wrong : ¬ AreRight c (suc before) s.rest

bind_err : {A B : Type 0} (G : Type 0) (r : Result A ℕ) (f : A → Result B ℕ) (line : ℕ) → (r >>= f) ≡ Err line → (r ≡ Err line → G) → ((x : A) → r ≡ Ok x → f x ≡ Err line → G) → G
bind_err G (Ok x) f line e here later = later x refl e
bind_err G (Err d) f line e here later = here (let same : d ≡ line = cc in ap (λ (n : ℕ). Err n) same)

no_fault : {A : Type 0} (r : Result A ℕ) (x : A) (line : ℕ) → r ≡ Ok x → r ≡ Err line → ⊥
no_fault r x line ok err = cc

abbrev Fails : {X : Type 0} → Column X → Type 0
Fails c = (s : LinePlace) (line : ℕ) → read_by c s ≡ Err line → WrongFrom c s line

line_fails : {X A : Type 0} (name : List ℕ) (one : is_one_line name ≡ true) (read : List ℕ → Option A) (next : A → Column X) → ((y : A) → Fails (next y)) → Fails (Line name one read next)
unfolding read_by
line_fails {X} {A} name one read next fail s line e =
    bind_err (WrongFrom (Line name one read next) s line) (field_at name read s) _ line e
    (λ wrong. record {
      before = 0;
      next = names_field name read s line wrong ∙ omega arith;
      right = tt;
      wrong = λ there. no_fault (field_at name read s) _ line (field_again name read s there.0 there.1 one there.2) wrong;
    })
    (λ x is other.
    let field = field_is name read s x.1 x.0 is in
    let more = fail x.0 x.1 line other in
    record {
      before = suc more.before;
      next = more.next ∙ omega (arith, field.number);
      right = (x.0, x.1.rest, field.begins, more.right);
      wrong = λ there.
          let again = field_again name read s there.0 there.1 one there.2 in
          let same = same_ok there.0 x.0 (record { number = s.number + 1; rest = there.1 }) x.1 (sym again ∙ is) in
          let at : AreRight (next x.0) (suc more.before) there.1 = subst (λ (y : A). AreRight (next y) (suc more.before) there.1) same.0 there.3 in
          more.wrong (subst (λ (t : LinePlace). AreRight (next x.0) (suc more.before) t.rest) same.1 at);
    })

-- a line that may be missing is wrong where there is something, and it isn't that line
perhaps_right : {X A : Type 0} (z : X) (name : List ℕ) (one : is_one_line name ≡ true) (read : List ℕ → Option A) (next : A → Column X) (k : ℕ) (text : List ℕ)
    → AreRight (Line name one read next) k text → AreRight (Perhaps z name one read next) k text
perhaps_right z name one read next zero text right = tt
perhaps_right z name one read next (suc k) text right = inr right

perhaps_wrong : {X A : Type 0} (z : X) (name : List ℕ) (one : is_one_line name ≡ true) (read : List ℕ → Option A) (next : A → Column X) (k : ℕ) (text : List ℕ)
    → (length text == 0) ≡ false → ¬ AreRight (Line name one read next) (suc k) text → ¬ AreRight (Perhaps z name one read next) (suc k) text
perhaps_wrong z name one read next k text some wrong (inl nothing) = let none : (length text == 0) ≡ true = ap (λ (l : List ℕ). length l == 0) nothing in absurd cc
perhaps_wrong z name one read next k text some wrong (inr there) = wrong there

fails : {X : Type 0} (c : Column X) → Fails c
unfolding read_by
fails (Done y) s line e =
    bind_err (WrongFrom (Done y) s line) (text_end_at s) _ line e
    (λ wrong. record {
      before = 0;
      next = names_end s line wrong ∙ omega arith;
      right = tt;
      wrong = λ nothing. no_fault (text_end_at s) _ line (end_again s nothing) wrong;
    })
    (λ x is other. absurd cc)
fails (Line name one read next) s line e = line_fails name one read next (λ y. fails (next y)) s line e
fails {X} (Perhaps y name one read next) s line e = go (line_fails name one read next (λ z. fails (next z)) s line) (length s.rest == 0) refl e
  where
    go : (read_by (Line name one read next) s ≡ Err line → WrongFrom (Line name one read next) s line)
        → (b : Bool) → (length s.rest == 0) ≡ b → unless_over b y s (read_by (Line name one read next) s) ≡ Err line → WrongFrom (Perhaps y name one read next) s line
    go more true is f = absurd cc
    go more false is f =
        let from = more f in
        record {
          before = from.before;
          next = from.next;
          right = perhaps_right y name one read next from.before s.rest from.right;
          wrong = perhaps_wrong y name one read next from.before s.rest is from.wrong;
        }

-- ---- the first wrong line is one
fewer : {X : Type 0} (c : Column X) (k : ℕ) (text : List ℕ) → AreRight c (suc k) text → AreRight c k text
fewer (Done x) zero text right = tt
fewer (Done x) (suc k) text right = right
fewer (Line name one read next) zero text right = tt
fewer (Line name one read next) (suc k) text right = (right.0, right.1, right.2, fewer (next right.0) k right.1 right.3)
fewer (Perhaps x name one read next) zero text right = tt
fewer (Perhaps x name one read next) (suc k) text (inl nothing) = inl nothing
fewer (Perhaps x name one read next) (suc k) text (inr right) = inr (right.0, right.1, right.2, fewer (next right.0) k right.1 right.3)

up_to : {X : Type 0} (c : Column X) (text : List ℕ) (j k : ℕ) → j ≤ k → AreRight c k text → AreRight c j text
up_to c text j zero le right = let same : zero ≡ j = omega arith in subst (λ (i : ℕ). AreRight c i text) same right
up_to c text j (suc k) le right = elim (cases_lt k j) [
  | inl above ↦ let same : suc k ≡ j = omega arith in subst (λ (i : ℕ). AreRight c i text) same right
  | inr within ↦ up_to c text j k within (fewer c k text right)
]

all_right : {X : Type 0} (c : Column X) (x : X) (text : List ℕ) (k : ℕ) → IsText c x text → AreRight c k text
all_right (Done y) x text zero is = tt
all_right (Done y) x text (suc k) is = is.0
all_right (Line name one read next) x text zero is = tt
all_right (Line name one read next) x text (suc k) is = (is.0, is.1, is.2, all_right (next is.0) x is.1 k is.3)
all_right (Perhaps y name one read next) x text zero is = tt
all_right (Perhaps y name one read next) x text (suc k) (inl is) = inl is.0
all_right (Perhaps y name one read next) x text (suc k) (inr is) = inr (is.0, is.1, is.2, all_right (next is.0) x is.1 k is.3)

not_below : {X : Type 0} (c : Column X) (text : List ℕ) (a b : ℕ) (one : IsFirstWrongLine c text a) (other : IsFirstWrongLine c text b) → one.before < other.before → ⊥
not_below c text a b one other below = one.wrong (up_to c text (suc one.before) other.before (omega arith) other.right)

unique : {X : Type 0} (c : Column X) (text : List ℕ) (a b : ℕ) → IsFirstWrongLine c text a → IsFirstWrongLine c text b → a ≡ b
unique c text a b one other = elim (cases_lt one.before other.before) [
  | inl below ↦ absurd (not_below c text a b one other below)
  | inr le ↦ elim (cases_lt other.before one.before) [
    | inl above ↦ absurd (not_below c text b a other one above)
    | inr ge ↦ omega (arith, one.next, other.next)
  ]
]

misplaced : {X : Type 0} (r : Reading X) (line : ℕ) → without_place r ≡ Err line → r ≡ Err line
misplaced (Ok y) line e = absurd cc
misplaced (Err d) line e = let same : d ≡ line = cc in ap (λ (n : ℕ). Err n) same

first_wrong : {X : Type 0} (c : Column X) (text : List ℕ) (line : ℕ) → read_text c text ≡ Err line → IsFirstWrongLine c text line
unfolding read_text
first_wrong c text line e =
    let from = fails c (first_line text) line (misplaced (read_by c (first_line text)) line e) in
    record { before = from.before; next = from.next ∙ omega arith; right = from.right; wrong = from.wrong }

answered : {X : Type 0} (c : Column X) (text : List ℕ) (line : ℕ) (r : Result X ℕ) → read_text c text ≡ r → IsFirstWrongLine c text line → r ≡ Err line
answered c text line (Ok x) is wrong = absurd (wrong.wrong (all_right c x text (suc wrong.before) (found c text x is)))
answered c text line (Err d) is wrong = ap (λ (n : ℕ). Err n) (unique c text d line (first_wrong c text d is) wrong)

pub read_right : {X : Type 0} (c : Column X) → IsReadRight c
read_right c = record {
  found = found c;
  only = only c;
  fault = λ text line. (first_wrong c text line, answered c text line (read_text c text) refl);
}
