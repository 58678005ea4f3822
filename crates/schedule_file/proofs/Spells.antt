-- A reader takes from the front exactly the texts of a grammar. The laws of a reader follow its text: one law for each
-- way in which readers are put together.
use Rattle.std.proofs.Common.{◌≡◌, ℕ, ◌+◌, ◌≤◌, ◌⊎◌, Bool, true, false, cond, List, [], ◌++◌, length, take, drop, Result, Ok, Err, refl, sym, ap, subst, ◌∙◌, append_assoc, arith, length-append, inl, inr}
use Rattle.std.proofs.lemmas.Bool.{cases_lt}
use Rattle.std.proofs.lemmas.List.{take_at, length-take, get_or-drop, get_or-take, get_or_past, drop_at}
use Rattle.ritas_base.specs.Bytes.{IsBytes}
use Rattle.schedule_file.specs.Reading.{◌>>=◌, Spot, test}

IsBytes-drop : (n : ℕ) (bytes : List ℕ) → IsBytes bytes → IsBytes (drop n bytes)
IsBytes-drop n bytes h i = rw get_or-drop (h (n + i))

IsBytes-take : (n : ℕ) (bytes : List ℕ) → IsBytes bytes → IsBytes (take n bytes)
IsBytes-take n bytes h i =
    elim (cases_lt i n) [
      | inl lt ↦ rw (get_or-take n bytes i 0 lt) (h i)
      | inr le ↦ rw (get_or_past (take n bytes) i 0 (omega (arith, length-take n bytes))) (omega arith)
    ]

pub front_fits : (whole front back : List ℕ) → IsBytes whole → whole ≡ front ++ back → IsBytes front
front_fits whole front back fits e = rw (← take_at front back (length front) refl, ← e) (IsBytes-take (length front) whole fits)

pub back_fits : (whole front back : List ℕ) → IsBytes whole → whole ≡ front ++ back → IsBytes back
back_fits whole front back fits e = rw (← drop_at front back (length front) refl, ← e) (IsBytes-drop (length front) whole fits)

-- a text was taken from the front, and the place stays within the greatest length
pub record Took (most : ℕ) (s : Spot) (text : List ℕ) (next : Spot) : Type 0 where
  pub bytes : s.rest ≡ text ++ next.rest
  pub at : next.at ≡ s.at + length text
  pub below : s.at ≤ most → next.at ≤ most

-- the text of a value that a reader takes
pub record Reads {X : Type 0} (most : ℕ) (R : X → List ℕ → Type 0) (s : Spot) (x : X) (next : Spot) : Type 0 where
  pub text : List ℕ
  pub is : R x text
  pub took : Took most s text next

-- What the reader takes spells a value, and what spells a value is read as it, where the text is within the greatest
-- length.
pub record Spells {X F : Type 0} (most : ℕ) (read : Spot → Result (X × Spot) F) (R : X → List ℕ → Type 0) : Type 0 where
  pub takes : (s : Spot) (x : X) (next : Spot) → IsBytes s.rest → read s ≡ Ok (x, next) → Reads most R s x next
  pub again : (at : ℕ) (x : X) (text rest : List ℕ) → R x text → at + length text ≤ most → read (record { at = at; rest = text ++ rest }) ≡ Ok (x, record { at = at + length text; rest = rest })

pub as_spells : {X F : Type 0} {most : ℕ} {read : Spot → Result (X × Spot) F} {R : X → List ℕ → Type 0} (Q : X → List ℕ → Type 0) → Spells most read R → ((x : X) (text : List ℕ) → IsBytes text → R x text → Q x text) → ((x : X) (text : List ℕ) → Q x text → R x text) → Spells most read Q
as_spells Q spells to from = record {
  takes = λ s x next fits e. let r = spells.takes s x next fits e in record { text = r.text; is = to x r.text (front_fits s.rest r.text next.rest fits r.took.bytes) r.is; took = r.took };
  again = λ at x text rest q le. spells.again at x text rest (from x text q) le;
}

-- ---- one after the other

pub bind_ok : {A B F : Type 0} (r : Result A F) (f : A → Result B F) (y : B) → (r >>= f) ≡ Ok y → (x : A) × (r ≡ Ok x) × (f x ≡ Ok y)
bind_ok (Ok x) f y e = (x, refl, e)
bind_ok (Err d) f y e = absurd cc

pub record Both {A B : Type 0} (R : A → List ℕ → Type 0) (Q : A → B → List ℕ → Type 0) (b : B) (text : List ℕ) : Type 0 where
  pub value : A
  pub front : List ℕ
  pub back : List ℕ
  pub first : R value front
  pub second : Q value b back
  pub parts : text ≡ front ++ back

pub took_both : (most : ℕ) (s mid next : Spot) (front back : List ℕ) → Took most s front mid → Took most mid back next → Took most s (front ++ back) next
took_both most s mid next front back p q = record {
  bytes = p.bytes ∙ ap (λ (t : List ℕ). front ++ t) q.bytes ∙ sym (append_assoc front back next.rest);
  at = omega (arith, p.at, q.at, length-append front back);
  below = λ le. q.below (p.below le);
}

pub then_spells : {A B F : Type 0} {most : ℕ} {R : A → List ℕ → Type 0} {Q : A → B → List ℕ → Type 0} (first : Spot → Result (A × Spot) F) (second : A × Spot → Result (B × Spot) F)
    → Spells most first R → ((a : A) → Spells most (λ s. second (a, s)) (Q a)) → Spells most (λ s. first s >>= second) (Both R Q)
then_spells {Q = Q} first second p q = record {
  takes = λ s b next fits e.
      let cut = bind_ok (first s) second (b, next) e in
      let one = p.takes s cut.0.0 cut.0.1 fits cut.1 in
      let two = (q cut.0.0).takes cut.0.1 b next (back_fits s.rest one.text cut.0.1.rest fits one.took.bytes) cut.2 in
      record { text = one.text ++ two.text; is = record { value = cut.0.0; front = one.text; back = two.text; first = one.is; second = two.is; parts = refl }; took = took_both _ s cut.0.1 next one.text two.text one.took two.took };
  again = λ at b text rest r le.
      let long : length text ≡ length r.front + length r.back = rw r.parts (length-append r.front r.back) in
      let one = p.again at r.value r.front (r.back ++ rest) r.first (omega arith) in
      let two = (q r.value).again (at + length r.front) b r.back rest r.second (omega arith) in
      let place : (at + length r.front) + length r.back ≡ at + length text = omega arith in
      rw (r.parts, append_assoc, one, two, place, r.parts) refl;
}

-- ---- a condition

pub guard_spells : {B F : Type 0} {most : ℕ} {R : B → List ℕ → Type 0} (holds : Bool) (f : F) (second : Spot → Result (B × Spot) F) → Spells most second R
    → Spells most (λ s. test holds f >>= λ _. second s) (λ b text. (holds ≡ true) × R b text)
guard_spells true f second p = record {
  takes = λ s b next fits e. let r = p.takes s b next fits e in record { text = r.text; is = (refl, r.is); took = r.took };
  again = λ at b text rest r le. p.again at b text rest r.1 le;
}
guard_spells false f second p = record {
  takes = λ s b next fits e. absurd cc;
  again = λ at b text rest r le. absurd cc;
}

-- ---- a choice

pub either_spells : {B F : Type 0} {most : ℕ} {R Q : B → List ℕ → Type 0} (t : Bool) (first second : Spot → Result (B × Spot) F) → Spells most first R → Spells most second Q
    → Spells most (λ s. cond t (first s) (second s)) (λ b text. ((t ≡ true) × R b text) ⊎ ((t ≡ false) × Q b text))
either_spells true first second p q = as_spells _ p (λ b text fits r. inl (refl, r)) (λ b text r. elim r [ inl h ↦ h.1 | inr h ↦ absurd (let no = h.0 in cc) ])
either_spells false first second p q = as_spells _ q (λ b text fits r. inr (refl, r)) (λ b text r. elim r [ inl h ↦ absurd (let no = h.0 in cc) | inr h ↦ h.1 ])

-- ---- nothing

abbrev pub done : {A F : Type 0} → A → Result A F
done x = Ok x

pub ok_is : {A F : Type 0} (x y : A) → done {F = F} x ≡ done {F = F} y → x ≡ y
ok_is x y e = cc

abbrev pub Nothing : {A : Type 0} → A → A → List ℕ → Type 0
Nothing a b text = (a ≡ b) × (text ≡ [])

pub done_spells : {A F : Type 0} {most : ℕ} (a : A) → Spells {F = F} most (λ s. Ok (a, s)) (Nothing a)
done_spells {A = A} {F = F} {most = most} a = record {
  takes = λ s b next fits e.
      let same : (a, s) ≡ (b, next) = ok_is {F = F} (a, s) (b, next) e in
      let made : Reads most (Nothing a) s a s = record { text = []; is = (refl, refl); took = record { bytes = refl; at = omega arith; below = λ le. le } } in
      subst (λ (p : A × Spot). Reads most (Nothing a) s p.0 p.1) same made;
  again = λ at b text rest r le. rw (r.1, ← r.0) (ap (λ (n : ℕ). Ok (a, record { at = n; rest = rest })) (omega arith));
}
