-- A line that is read is spelled so, what is spelled so is read, and where it isn't its number is answered.
use Rattle.std.proofs.Common.{◌≡◌, ℕ, ◌+◌, ◌==◌, Bool, true, false, not, List, [], ◌∷◌, ◌++◌, take, drop, length, Option, Some, None, Result, Ok, Err, option_and_then, refl, sym, ◌∙◌, ap, ap₂, subst, append_assoc, arith, length-append, if◌then◌else◌}
use Rattle.std.specs.Str.{bytes_eq}
use Rattle.std.proofs.lemmas.Bool.{eqb-true, ne_eqb}
use Rattle.std.proofs.lemmas.List.{take-append-drop}
use Rattle.std.proofs.Math.Seq.{take-append_seam, drop-append_seam}
use Rattle.std.proofs.lemmas.Slice.Eq.{bytes_eq-Decides}
use Rattle.cluster_config.specs.Lines.{LinePlace, Reading, ◌>>=◌, or_line, line_from, line_at, text_end_from, text_end_at, behind, value_in, line_value_at, field_at}
use Rattle.cluster_config.specs.Cuts.{cut_at}
use Rattle.cluster_config.specs.Columns.{BeginsWith, is_one_line}
use Rattle.cluster_config.proofs.FirstByte.{cut_split, cut_joined, both}

pub bind_ok : {A B : Type 0} (r : Result A ℕ) (f : A → Result B ℕ) (y : B) → (r >>= f) ≡ Ok y → (x : A) × (r ≡ Ok x) × (f x ≡ Ok y)
bind_ok (Ok x) f y e = (x, refl, e)
bind_ok (Err d) f y e = absurd cc

pub bound : {A B : Type 0} (r : Result A ℕ) (f : A → Result B ℕ) (x : A) (y : Result B ℕ) → r ≡ Ok x → f x ≡ y → (r >>= f) ≡ y
bound {A} r f x y is follows = ap (λ (q : Result A ℕ). q >>= f) is ∙ follows

-- ---- a front
behind_is : (front text rest : List ℕ) → behind front text ≡ Some rest → text ≡ front ++ rest
behind_is front text rest e = go (bytes_eq (take (length front) text) front) refl e
  where
    go : (b : Bool) → bytes_eq (take (length front) text) front ≡ b → (if b then Some (drop (length front) text) else None) ≡ Some rest → text ≡ front ++ rest
    go true is f =
        let same : drop (length front) text ≡ rest = cc in
        let first : take (length front) text ≡ front = (bytes_eq-Decides (take (length front) text) front).0 is in
        sym (take-append-drop (length front) text) ∙ ap₂ (λ (x y : List ℕ). x ++ y) first same
    go false is f = absurd cc

behind_again : (front rest : List ℕ) → behind front (front ++ rest) ≡ Some rest
behind_again front rest =
    let first : take (length front) (front ++ rest) ≡ front = take-append_seam front rest in
    let same : bytes_eq (take (length front) (front ++ rest)) front ≡ true = (bytes_eq-Decides (take (length front) (front ++ rest)) front).1 first in
    ap (λ (b : Bool). if b then Some (drop (length front) (front ++ rest)) else None) same ∙ ap Some (drop-append_seam front rest)

value_is : (name line value : List ℕ) → value_in name line ≡ Some value → line ≡ name ++ 32 ∷ value
value_is name line value e = go (behind name line) refl e
  where
    go : (o : Option (List ℕ)) → behind name line ≡ o → option_and_then (behind (32 ∷ [])) o ≡ Some value → line ≡ name ++ 32 ∷ value
    go None is f = absurd cc
    go (Some r) is f = behind_is name line r is ∙ ap (λ (x : List ℕ). name ++ x) (behind_is (32 ∷ []) r value f)

value_again : (name value : List ℕ) → value_in name (name ++ 32 ∷ value) ≡ Some value
value_again name value = ap (option_and_then (behind (32 ∷ []))) (behind_again name (32 ∷ value)) ∙ behind_again (32 ∷ []) value

-- ---- lines without a line feed
one_right : (a b : List ℕ) → is_one_line (a ++ b) ≡ true → is_one_line b ≡ true
one_right [] b one = one
one_right (x ∷ a) b one = one_right a b (both (not (x == 10)) (is_one_line (a ++ b)) one).1

one_both : (a b : List ℕ) → is_one_line a ≡ true → is_one_line b ≡ true → is_one_line (a ++ b) ≡ true
one_both [] b one two = two
one_both (x ∷ a) b one two =
    let parts = both (not (x == 10)) (is_one_line a) one in
    rw parts.0 (one_both a b parts.1 two)

-- ---- a line that is read
abbrev ok_as : {A : Type 0} → A → LinePlace → Reading A
ok_as x s = Ok (x, s)

pub same_ok : {A : Type 0} (x y : A) (s t : LinePlace) → ok_as x s ≡ ok_as y t → (x ≡ y) × (s ≡ t)
same_ok {A} x y s t e =
    let p : ◌≡◌ {A = A × LinePlace} (x, s) (y, t) = cc in
    (ap (λ (q : A × LinePlace). q.0) p, ap (λ (q : A × LinePlace). q.1) p)

given : {A : Type 0} (line : ℕ) (o : Option A) (x : A) → or_line line o ≡ Ok x → o ≡ Some x
given line None x e = absurd cc
given line (Some y) x e = cc

record IsLine (s : LinePlace) (line : List ℕ) (next : LinePlace) : Type 0 where
  is : cut_at 10 s.rest ≡ Some (line, next.rest)
  number : next.number ≡ s.number + 1

line_is : (s next : LinePlace) (line : List ℕ) → line_at s ≡ Ok (line, next) → IsLine s line next
unfolding line_at
line_is s next line e = go (cut_at 10 s.rest) refl e
  where
    go : (o : Option (List ℕ × List ℕ)) → cut_at 10 s.rest ≡ o → line_from s.number o ≡ Ok (line, next) → IsLine s line next
    go None is f = absurd cc
    go (Some x) is f =
        let parts = same_ok x.0 line (record { number = s.number + 1; rest = x.1 }) next f in
        record {
          is = is ∙ ap₂ (λ (a b : List ℕ). Some (a, b)) parts.0 (ap (λ (q : LinePlace). q.rest) parts.1);
          number = sym (ap (λ (q : LinePlace). q.number) parts.1);
        }

-- the text begins with a line of this name and value, and the next line has the next number
record IsSpelled (name : List ℕ) (s : LinePlace) (value : List ℕ) (next : LinePlace) : Type 0 where
  whole : s.rest ≡ name ++ 32 ∷ value ++ 10 ∷ next.rest
  one_line : is_one_line value ≡ true
  number : next.number ≡ s.number + 1

spelled_as : (name : List ℕ) (s next : LinePlace) (line value : List ℕ) → IsLine s line next → line ≡ name ++ 32 ∷ value → IsSpelled name s value next
spelled_as name s next line value was spelled =
    let parts = cut_split s.rest line next.rest was.is in
    record {
      whole = parts.whole ∙ ap (λ (l : List ℕ). l ++ 10 ∷ next.rest) spelled;
      one_line = one_right (name ++ 32 ∷ []) value (subst (λ (l : List ℕ). is_one_line l ≡ true) (spelled ∙ sym (append_assoc name (32 ∷ []) value)) parts.one_line);
      number = was.number;
    }

value_found : (name : List ℕ) (s next : LinePlace) (value : List ℕ) → line_value_at name s ≡ Ok (value, next) → IsSpelled name s value next
unfolding line_value_at
value_found name s next value e =
    let line = bind_ok (line_at s) (λ (l : List ℕ × LinePlace). or_line s.number (value_in name l.0) >>= λ (v : List ℕ). Ok (v, l.1)) (value, next) e in
    let read = bind_ok (or_line s.number (value_in name line.0.0)) (λ (v : List ℕ). Ok (v, line.0.1)) (value, next) line.2 in
    let same = same_ok read.0 value line.0.1 next read.2 in
    let was = line_is s line.0.1 line.0.0 line.1 in
    let made = spelled_as name s line.0.1 line.0.0 read.0 was (value_is name line.0.0 read.0 (given s.number (value_in name line.0.0) read.0 read.1)) in
    subst (λ (v : List ℕ). IsSpelled name s v next) same.0 (subst (λ (t : LinePlace). IsSpelled name s read.0 t) same.1 made)

-- the text begins with a line of this name, whose value reads as x, and the next line has the next number
pub record IsField {A : Type 0} (name : List ℕ) (read : List ℕ → Option A) (s : LinePlace) (x : A) (next : LinePlace) : Type 0 where
  pub begins : BeginsWith name read x next.rest s.rest
  pub number : next.number ≡ s.number + 1

pub field_is : {A : Type 0} (name : List ℕ) (read : List ℕ → Option A) (s next : LinePlace) (x : A) → field_at name read s ≡ Ok (x, next) → IsField name read s x next
unfolding field_at
field_is {A} name read s next x e =
    let value = bind_ok (line_value_at name s) (λ (v : List ℕ × LinePlace). or_line s.number (read v.0) >>= λ (y : A). Ok (y, v.1)) (x, next) e in
    let last = bind_ok (or_line s.number (read value.0.0)) (λ (y : A). Ok (y, value.0.1)) (x, next) value.2 in
    let same = same_ok last.0 x value.0.1 next last.2 in
    let found = value_found name s value.0.1 value.0.0 value.1 in
    let begins : BeginsWith name read last.0 value.0.1.rest s.rest = record {
      value = value.0.0;
      whole = found.whole;
      one_line = found.one_line;
      reads = given s.number (read value.0.0) last.0 last.1;
    } in
    let made : IsField name read s last.0 value.0.1 = record { begins = begins; number = found.number } in
    subst (λ (y : A). IsField name read s y next) same.0 (subst (λ (t : LinePlace). IsField name read s last.0 t) same.1 made)

-- ---- a line that is spelled
spelled_again : {A : Type 0} (name : List ℕ) (read : List ℕ → Option A) (number : ℕ) (value rest : List ℕ) (x : A) → is_one_line name ≡ true → is_one_line value ≡ true → read value ≡ Some x
    → field_at name read (record { number = number; rest = name ++ 32 ∷ value ++ 10 ∷ rest }) ≡ Ok (x, record { number = number + 1; rest = rest })
unfolding field_at line_value_at line_at
spelled_again name read number value rest x named one reads =
    let line : List ℕ = name ++ 32 ∷ value in
    let joined : cut_at 10 (name ++ 32 ∷ value ++ 10 ∷ rest) ≡ Some (line, rest) = cut_joined line rest (one_both name (32 ∷ value) named one) in
    let valued = value_again name value in
    rw (joined, valued, reads) refl

pub field_again : {A : Type 0} (name : List ℕ) (read : List ℕ → Option A) (s : LinePlace) (x : A) (rest : List ℕ) → is_one_line name ≡ true → BeginsWith name read x rest s.rest
    → field_at name read s ≡ Ok (x, record { number = s.number + 1; rest = rest })
field_again name read s x rest named begins =
    ap (λ (text : List ℕ). field_at name read (record { number = s.number; rest = text })) begins.whole
    ∙ spelled_again name read s.number begins.value rest x named begins.one_line begins.reads

-- ---- a line that is wrong
abbrev Names : {A : Type 0} → ℕ → Result A ℕ → Type 0
Names number r = (line : ℕ) → r ≡ Err line → line ≡ number

names_bind : {A B : Type 0} (number : ℕ) (r : Result A ℕ) (f : A → Result B ℕ) → Names number r → ((x : A) → Names number (f x)) → Names number (r >>= f)
names_bind number (Ok x) f one other line is = other x line is
names_bind number (Err d) f one other line is = one line (let same : d ≡ line = cc in ap (λ (n : ℕ). Err n) same)

names_given : {A : Type 0} (number : ℕ) (o : Option A) → Names number (or_line number o)
names_given number (Some x) line is = absurd cc
names_given number None line is = let same : number ≡ line = cc in sym same

names_ok : {A : Type 0} (number : ℕ) (x : A) → Names {A = A} number (Ok x)
names_ok number x line is = absurd cc

names_line : (s : LinePlace) → Names s.number (line_at s)
unfolding line_at
names_line s = go (cut_at 10 s.rest)
  where
    go : (o : Option (List ℕ × List ℕ)) → Names s.number (line_from s.number o)
    go None line is = let same : s.number ≡ line = cc in sym same
    go (Some x) line is = absurd cc

pub names_field : {A : Type 0} (name : List ℕ) (read : List ℕ → Option A) (s : LinePlace) → Names s.number (field_at name read s)
unfolding field_at line_value_at
names_field name read s =
    names_bind s.number (line_value_at name s) _
    (names_bind s.number (line_at s) _ (names_line s) (λ l. names_bind s.number (or_line s.number _) _ (names_given s.number _) (λ v. names_ok s.number _)))
    (λ v. names_bind s.number (or_line s.number (read v.0)) _ (names_given s.number (read v.0)) (λ x. names_ok s.number _))

-- ---- the end
pub end_is : (s next : LinePlace) (u : Unit {0}) → text_end_at s ≡ Ok (u, next) → s.rest ≡ []
unfolding text_end_at
end_is s next u e = go s.rest refl e
  where
    go : (l : List ℕ) → s.rest ≡ l → text_end_from s.number l ≡ Ok (u, next) → s.rest ≡ []
    go [] is f = is
    go (b ∷ l) is f = absurd cc

pub end_again : (s : LinePlace) → s.rest ≡ [] → text_end_at s ≡ Ok (tt, record { number = s.number; rest = [] })
unfolding text_end_at
end_again s nothing = ap (text_end_from s.number) nothing

pub names_end : (s : LinePlace) → Names s.number (text_end_at s)
unfolding text_end_at
names_end s = go s.rest
  where
    go : (l : List ℕ) → Names s.number (text_end_from s.number l)
    go [] line is = absurd cc
    go (b ∷ l) line is = let same : s.number ≡ line = cc in sym same

-- ---- whether anything follows
pub empty_is : (text : List ℕ) → (length text == 0) ≡ true → text ≡ []
empty_is [] e = refl
empty_is (b ∷ bs) e = let none = eqb-true (length (b ∷ bs)) 0 e in absurd (omega arith)

-- a text that begins with a line isn't empty
pub begun : {A : Type 0} (name : List ℕ) (read : List ℕ → Option A) (x : A) (rest text : List ℕ) → BeginsWith name read x rest text → (length text == 0) ≡ false
begun name read x rest [] begins =
    let whole : length (name ++ 32 ∷ begins.value ++ 10 ∷ rest) ≡ 0 = sym (ap length begins.whole) in
    absurd (grind (arith, length-append))
begun name read x rest (b ∷ text) begins = ne_eqb (length (b ∷ text)) 0 (λ none. omega (arith, none))
