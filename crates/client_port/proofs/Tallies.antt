-- What one more call does to the tally.
use Rattle.std.specs.Prelude.{◌≡◌, ℕ, ◌<◌, ◌≤◌, ◌==◌, Bool, true, false, ◌&&◌, ◌||◌, nat_lt, List, [], ◌∷◌, length, Option, Some, None, is_none, refl, if◌then◌else◌}
use Rattle.std.specs.Option.{option_or}
use Rattle.std.proofs.Common.{sym, ◌∙◌, ap, subst, inl, inr, arith, set, get_or, get_or-set_same, get_or-set_other, length-set}
use Rattle.std.proofs.lemmas.Bool.{and_parts, or_left, eqb-true, eq-eqb, ne_eqb, cases_eq, cond-true, cond-false, le-ltb, ltb-true, ltb-false, cases_Bool}
use Rattle.std.proofs.lemmas.List.{get_or_past}
use Rattle.std.proofs.lemmas.List.FromFn.{fill_by_all, length-map-range_with_len, get_or-map-range_with_len}
use Rattle.std.proofs.lemmas.Option.{cond_some}
use Rattle.ritas_base.specs.History.{replicas}
use Rattle.ritas_base.specs.Quorums.{map_same}
use Rattle.ritas_base.specs.Shortest.{option_or_none}
use Rattle.client_port.specs.Messages.{form_in, reply_number_in}
use Rattle.ritas_base.specs.Places.{first_failed}
use Rattle.client_port.specs.Votes.{Wanted, ReplyCall, is_reply_wanted, is_position_reply, position_said, replied, tally, reply_fault_of}
use Rattle.client_port.specs.declared.votes.ReplyFault.{ReplyFault}
use Rattle.client_port.specs.declared.votes.ReplyFault.TheVariants.{NoSuchReplica, Length, Form, NotMine, Again, Refused}

-- ---- the six tests

abbrev six : Bool → Bool → Bool → Bool → Bool → Bool → ℕ → Option ReplyFault
six a b c d e g code = first_failed ((a, NoSuchReplica) ∷ (b, Length) ∷ (c, Form) ∷ (d, NotMine) ∷ (e, Again) ∷ (g, Refused code) ∷ [])

abbrev AllSix : Bool → Bool → Bool → Bool → Bool → Bool → Type 0
AllSix a b c d e g = (a ≡ true) × (b ≡ true) × (c ≡ true) × (d ≡ true) × (e ≡ true) × (g ≡ true)

six_none : (a b c d e g : Bool) (code : ℕ) → six a b c d e g code ≡ None → AllSix a b c d e g
six_none false b c d e g code h = absurd (cc)
six_none true false c d e g code h = absurd (cc)
six_none true true false d e g code h = absurd (cc)
six_none true true true false e g code h = absurd (cc)
six_none true true true true false g code h = absurd (cc)
six_none true true true true true false code h = absurd (cc)
six_none true true true true true true code h = (refl, refl, refl, refl, refl, refl)

-- where one fails, and none of the others, it is the fifth
fifth_fails : (a b c d e g : Bool) (code : ℕ) (fault : ReplyFault) → six a b c d e g code ≡ Some fault
    → a ≡ true → b ≡ true → c ≡ true → d ≡ true → g ≡ true → e ≡ false
fifth_fails a b c d false g code fault h pa pb pc pd pg = refl
fifth_fails a b c d true g code fault h pa pb pc pd pg =
    let none : six a b c d true g code ≡ None = rw (pa, pb, pc, pd, pg) refl in absurd (cc)

is_none_is : (o : Option ℕ) → is_none o ≡ true → o ≡ None
is_none_is None e = refl
is_none_is (Some x) e = absurd (cc)

-- ---- a call without a fault

-- it gives a position, and is the first of its replica to do so
pub record IsFirst (w : Wanted) (before : Option ℕ) (c : ReplyCall) : Type 0 where
  pub within : c.from < w.numbers.n
  pub position : position_said w c ≡ Some (reply_number_in c.bytes)
  pub new : before ≡ None

pub no_fault : (w : Wanted) (before : Option ℕ) (c : ReplyCall) → reply_fault_of w before c ≡ None → IsFirst w before c
unfolding reply_fault_of
no_fault w before c e =
    let all = six_none (nat_lt c.from w.numbers.n) (length c.bytes == 13) ((form_in c.bytes == 1) || (form_in c.bytes == 2)) (is_reply_wanted w c.bytes) (is_none before) (form_in c.bytes == 1) (reply_number_in c.bytes) e in
    let gives : is_position_reply w c ≡ true = rw (all.0, all.1, all.5, all.3) refl in
    record {
      within = ltb-true c.from w.numbers.n all.0;
      position = cond-true (is_position_reply w c) (Some (reply_number_in c.bytes)) None gives;
      new = is_none_is before all.4;
    }

-- ---- a call with a fault

still : (o : Option ℕ) (mine gives : Bool) (q : ℕ) → (mine ≡ true → gives ≡ true → is_none o ≡ false)
    → option_or o (if mine then (if gives then Some q else None) else None) ≡ o
still (Some x) mine gives q f = refl
still None false gives q f = refl
still None true false q f = refl
still None true true q f = absurd (let e = f refl refl in cc)

-- the parts of a message that gives a position
record Gives (w : Wanted) (c : ReplyCall) : Type 0 where
  within : nat_lt c.from w.numbers.n ≡ true
  long : (length c.bytes == 13) ≡ true
  form : (form_in c.bytes == 1) ≡ true
  wanted : is_reply_wanted w c.bytes ≡ true

gives_by : (w : Wanted) (c : ReplyCall) → is_position_reply w c ≡ true → Gives w c
gives_by w c e =
    let three = and_parts (nat_lt c.from w.numbers.n && (length c.bytes == 13) && (form_in c.bytes == 1)) (is_reply_wanted w c.bytes) e in
    let two = and_parts (nat_lt c.from w.numbers.n && (length c.bytes == 13)) (form_in c.bytes == 1) three.0 in
    let one = and_parts (nat_lt c.from w.numbers.n) (length c.bytes == 13) two.0 in
    record { within = one.0; long = one.1; form = two.1; wanted = three.1 }

-- it leaves what each replica replied
pub replied_same : (w : Wanted) (h : List ReplyCall) (c : ReplyCall) (fault : ReplyFault) → reply_fault_of w (replied w h c.from) c ≡ Some fault
    → (k : ℕ) → replied w (c ∷ h) k ≡ replied w h k
unfolding reply_fault_of
replied_same w h c fault e k =
    still (replied w h k) (c.from == k) (is_position_reply w c) (reply_number_in c.bytes)
    (λ mine gives.
    let g = gives_by w c gives in
    let failed = fifth_fails (nat_lt c.from w.numbers.n) (length c.bytes == 13) ((form_in c.bytes == 1) || (form_in c.bytes == 2)) (is_reply_wanted w c.bytes) (is_none (replied w h c.from)) (form_in c.bytes == 1) (reply_number_in c.bytes) fault e
    g.within g.long (or_left (form_in c.bytes == 1) (form_in c.bytes == 2) g.form) g.wanted g.form in
    subst (λ (j : ℕ). is_none (replied w h j) ≡ false) (eqb-true c.from k mine) failed)

-- ---- the tally

none_outside : (mine gives : Bool) (q : ℕ) → (mine ≡ true → gives ≡ false) → (if mine then (if gives then Some q else None) else None) ≡ None
none_outside false gives q f = refl
none_outside true gives q f = cond-false gives (Some q) None (f refl)

outside_gives : (w : Wanted) (c : ReplyCall) → w.numbers.n ≤ c.from → is_position_reply w c ≡ false
outside_gives w c le = rw (le-ltb c.from w.numbers.n le) refl

-- who isn't a replica replied nothing
replied_outside : (w : Wanted) (h : List ReplyCall) (k : ℕ) → w.numbers.n ≤ k → replied w h k ≡ None
replied_outside w [] k le = refl
replied_outside w (c ∷ h) k le =
    ap (λ o. option_or o (if c.from == k then position_said w c else None)) (replied_outside w h k le)
    ∙ none_outside (c.from == k) (is_position_reply w c) (reply_number_in c.bytes)
    (λ mine. outside_gives w c (subst (λ (j : ℕ). w.numbers.n ≤ j) (sym (eqb-true c.from k mine)) le))

length-tally : (w : Wanted) (h : List ReplyCall) → length (tally w h) ≡ w.numbers.n
length-tally w h = length-map-range_with_len (replied w h) 0 w.numbers.n

tally_within : (w : Wanted) (h : List ReplyCall) (k : ℕ) → k < w.numbers.n → get_or (tally w h) k None ≡ replied w h k
tally_within w h k lt = get_or-map-range_with_len (replied w h) 0 w.numbers.n k k None lt (omega arith)

-- the tally has what each replica replied
pub tally_at : (w : Wanted) (h : List ReplyCall) (k : ℕ) → get_or (tally w h) k None ≡ replied w h k
tally_at w h k =
    elim (cases_Bool (nat_lt k w.numbers.n)) [
      | inl t ↦ tally_within w h k (ltb-true k w.numbers.n t)
      | inr f ↦
          let le = ltb-false k w.numbers.n f in
          get_or_past (tally w h) k None (omega (arith, length-tally w h, le)) ∙ sym (replied_outside w h k le)
    ]

-- what is replied is the position that a call without a fault gives
pub replied_now : (w : Wanted) (h : List ReplyCall) (c : ReplyCall) → IsFirst w (replied w h c.from) c → replied w (c ∷ h) c.from ≡ Some (reply_number_in c.bytes)
replied_now w h c first =
    ap (λ o. option_or o (if c.from == c.from then position_said w c else None)) first.new
    ∙ cond-true (c.from == c.from) (position_said w c) None (eq-eqb c.from c.from refl) ∙ first.position

replied_other : (w : Wanted) (h : List ReplyCall) (c : ReplyCall) (k : ℕ) → (k ≡ c.from → ⊥) → replied w (c ∷ h) k ≡ replied w h k
replied_other w h c k ne =
    ap (option_or (replied w h k)) (cond-false (c.from == k) (position_said w c) None (ne_eqb c.from k (λ e. ne (sym e)))) ∙ option_or_none (replied w h k)

at_each : (w : Wanted) (h : List ReplyCall) (c : ReplyCall) → IsFirst w (replied w h c.from) c
    → (k : ℕ) → k < w.numbers.n → get_or (set (tally w h) c.from (Some (reply_number_in c.bytes))) k None ≡ replied w (c ∷ h) k
at_each w h c first k lt =
    elim (cases_eq k c.from) [
      | inl same ↦
          let inside : c.from < length (tally w h) = omega (arith, length-tally w h, first.within) in
          ap (λ (j : ℕ). get_or (set (tally w h) c.from (Some (reply_number_in c.bytes))) j None) same
          ∙ (get_or-set_same (tally w h) c.from (Some (reply_number_in c.bytes)) None inside
          ∙ sym (ap (replied w (c ∷ h)) same ∙ replied_now w h c first))
      | inr other ↦
          get_or-set_other (tally w h) c.from k (Some (reply_number_in c.bytes)) None other
          ∙ (tally_within w h k lt ∙ sym (replied_other w h c k other))
    ]

-- a call without a fault sets its replica's place
pub tally_more : (w : Wanted) (h : List ReplyCall) (c : ReplyCall) → IsFirst w (replied w h c.from) c
    → tally w (c ∷ h) ≡ set (tally w h) c.from (Some (reply_number_in c.bytes))
tally_more w h c first =
    sym (fill_by_all (replied w (c ∷ h)) (set (tally w h) c.from (Some (reply_number_in c.bytes))) w.numbers.n None
    (length-set (tally w h) c.from (Some (reply_number_in c.bytes)) ∙ length-tally w h)
    (at_each w h c first))

-- a call with a fault leaves it
pub tally_same : (w : Wanted) (h : List ReplyCall) (c : ReplyCall) → ((k : ℕ) → replied w (c ∷ h) k ≡ replied w h k) → tally w (c ∷ h) ≡ tally w h
tally_same w h c same = map_same (replied w (c ∷ h)) (replied w h) same (replicas w.numbers.n)

-- ---- who gives a position is a replica

pub within_said : (w : Wanted) (c : ReplyCall) (position : ℕ) → position_said w c ≡ Some position → c.from < w.numbers.n
within_said w c position e =
    let gives = gives_by w c (cond_some (is_position_reply w c) (reply_number_in c.bytes) position e).0 in
    ltb-true c.from w.numbers.n gives.within
