-- The first wrong bytes of an event, by the reader of events.
use Rattle.std.proofs.Common.{◌≡◌, ℕ, zero, suc, ◌+◌, ◌<◌, ◌≤◌, ◌⊎◌, Bool, true, false, cond, List, [], ◌∷◌, ◌++◌, length, Option, Some, None, Result, Ok, Err, refl, sym, ap, subst, ◌∙◌, append_assoc, arith, inl, inr, length-append}
use Rattle.std.specs.Prelude.{◌&&◌, nat_lt, not, ◌==◌}
use Rattle.std.specs.Option.{is_none}
use Rattle.std.proofs.lemmas.Bool.{le-ltb, ltb-false, eqb-true, eq-eqb, ne_eqb, eqb-false}
use Rattle.ritas_base.specs.declared.event.Event.TheVariants.{Frame, Input, Turn, Pass, Sealed}
use Rattle.schedule_file.specs.declared.fault.FileFault.{FileFault}
use Rattle.schedule_file.specs.declared.fault.FileFault.TheVariants as faults
use Rattle.schedule_file.specs.declared.scope.Scope.{Scope}
use Rattle.schedule_file.specs.Scopes.{is_the_one, has_replica, IsAnother, IsOutOfScope}
use Rattle.ritas_base.specs.Bytes.{IsBytes}
use Rattle.schedule_file.specs.Reading.{◌>>=◌, Spot, test}
use Rattle.schedule_file.specs.FileBytes.{limit, byte_at, end_from, end_at}
use Rattle.schedule_file.specs.ReadEvents.{replica_at, pair_at, frame_at, input_read_at, turn_at, pass_at, sealed_at, kind_at, some_event, no_event, event_of, event_at}
use Rattle.schedule_file.specs.Faults.{IsOfTwo, IsNoKind, IsWrongStart}
use Rattle.schedule_file.proofs.Spells.{back_fits, Took, took_both, Spells}
use Rattle.schedule_file.proofs.FileSpells.{byte_spells, u32_spells, text_spells}
use Rattle.schedule_file.proofs.EventSpells.{replica_spells, no_one, is_free, pair_spells}
use Rattle.schedule_file.proofs.FaultPlaces.{Names, bind_err, byte_names, u32_names, text_names, then_names, done_names}

-- ---- what is read of an event that is wrong

-- the bytes from a place on begin with these, within the limit
pub record Begins (W : List ℕ → Type 0) (s : Spot) : Type 0 where
  pub start : List ℕ
  pub after : List ℕ
  pub parts : s.rest ≡ start ++ after
  pub low : s.at + length start ≤ limit
  pub wrong : W start

begins_behind : (V W : List ℕ → Type 0) (s mid : Spot) (front : List ℕ) → Took limit s front mid → ((text : List ℕ) → V text → W (front ++ text)) → Begins V mid → Begins W s
begins_behind V W s mid front took to b = record {
  start = front ++ b.start;
  after = b.after;
  parts = took.bytes ∙ ap (λ (t : List ℕ). front ++ t) b.parts ∙ sym (append_assoc front b.start b.after);
  low = omega (arith, b.low, took.at, length-append front b.start);
  wrong = to b.start b.wrong;
}

abbrev nothing_own : FileFault → Type 0
nothing_own f = ⊥

no_event_in : {X : Type 0} (read : Spot → Result (X × Spot) FileFault) → Names nothing_own read → (s : Spot) (p : ℕ) → s.at ≤ limit → IsBytes s.rest → read s ≡ Err (faults.Event p) → ⊥
no_event_in read names s p low fits e = names.names s (faults.Event p) low fits e

-- a replica that no event of the scope has
abbrev IsOutOf : Scope → List ℕ → Type 0
IsOutOf scope text = (i : ℕ) × (text ≡ i ∷ []) × IsOutOfScope scope i

another : (only : Option ℕ) (at : ℕ) → is_the_one only at ≡ false → IsAnother only at
another None at e = absurd cc
another (Some me) at e = λ same. let no : true ≡ false = sym (eq-eqb at me same) ∙ e in cc

not_the_one : (only : Option ℕ) (at : ℕ) → IsAnother only at → is_the_one only at ≡ false
not_the_one None at other = absurd other
not_the_one (Some me) at other = ne_eqb at me other

not_both : (a b : Bool) → (a && b) ≡ false → (a ≡ false) ⊎ (b ≡ false)
not_both true b e = inr e
not_both false b e = inl refl

not_first : (a b : Bool) → a ≡ false → (a && b) ≡ false
not_first a b e = rw e refl

not_second : (a b : Bool) → b ≡ false → (a && b) ≡ false
not_second true b e = e
not_second false b e = refl

out_of : (scope : Scope) (at : ℕ) → has_replica scope at ≡ false → IsOutOfScope scope at
out_of scope at e = elim (not_both (nat_lt at scope.n) (is_the_one scope.only at) e) [
  | inl h ↦ inl (ltb-false _ _ h)
  | inr h ↦ inr (another scope.only at h)
]

has_none : (scope : Scope) (at : ℕ) → IsOutOfScope scope at → has_replica scope at ≡ false
has_none scope at out = elim out [
  | inl h ↦ not_first (nat_lt at scope.n) (is_the_one scope.only at) (le-ltb at scope.n h)
  | inr h ↦ not_second (nat_lt at scope.n) (is_the_one scope.only at) (not_the_one scope.only at h)
]

-- where each replica may have events, those that none has are too great
past : (scope : Scope) (at : ℕ) → scope.only ≡ None → IsOutOfScope scope at → scope.n ≤ at
past scope at free out = elim out [
  | inl h ↦ h
  | inr h ↦ absurd (subst (λ (o : Option ℕ). IsAnother o at) free h)
]

guard_wrong : {B : Type 0} (t : Bool) (f : FileFault) (h : Result B FileFault) (e : FileFault) → (test t f >>= λ _. h) ≡ Err e → (t ≡ false) ⊎ ((t ≡ true) × (h ≡ Err e))
guard_wrong true f h e is = inr (refl, is)
guard_wrong false f h e is = inl refl

replica_wrong : (scope : Scope) (q : ℕ) (s : Spot) (p : ℕ) → s.at ≤ limit → IsBytes s.rest → replica_at scope q s ≡ Err (faults.Event p) → Begins (IsOutOf scope) s
unfolding replica_at
replica_wrong scope q s p low fits e =
    elim (bind_err (byte_at s) (λ at. test (has_replica scope at.0) (faults.Event q) >>= λ _. Ok at) (faults.Event p) e) [
      | inl h ↦ absurd (no_event_in byte_at byte_names s p low fits h)
      | inr h ↦
          let one = byte_spells.takes s h.0.0 h.0.1 fits h.1 in
          elim (guard_wrong (has_replica scope h.0.0) (faults.Event q) (Ok h.0) (faults.Event p) h.2) [
            | inl out ↦ record {
              start = one.text;
              after = h.0.1.rest;
              parts = one.took.bytes;
              low = omega (arith, one.took.at, one.took.below low);
              wrong = (h.0.0, one.is, out_of scope h.0.0 out);
            }
            | inr fine ↦ absurd (let no = fine.1 in cc)
          ]
    ]

-- two replicas of which one is out, or that are the same
abbrev IsNoTwo : Scope → List ℕ → Type 0
IsNoTwo scope text = IsOutOf scope text ⊎ ((i : ℕ) × (j : ℕ) × (text ≡ i ∷ j ∷ []) × (i < scope.n) × ((scope.n ≤ j) ⊎ (i ≡ j)))

-- no two replicas may follow, or these two don't
abbrev IsNoPair : Scope → List ℕ → Type 0
IsNoPair scope text = ((text ≡ []) × (is_none scope.only ≡ false)) ⊎ ((is_none scope.only ≡ true) × IsNoTwo scope text)

same_of : (a b : ℕ) → not (a == b) ≡ false → a ≡ b
same_of a b e = eqb-true a b (is_true (a == b) e)
  where
    is_true : (t : Bool) → not t ≡ false → t ≡ true
    is_true true e = refl
    is_true false e = absurd cc

-- the numbers of two replicas, where there may be any
abbrev two_at : Scope → ℕ → Spot → Result ((ℕ × ℕ) × Spot) FileFault
two_at scope q s = replica_at scope q s >>= λ from. replica_at scope q from.1 >>= λ to. test (not (from.0 == to.0)) (faults.Event q) >>= λ _. Ok ((from.0, to.0), to.1)

two_wrong : (scope : Scope) (q : ℕ) (s : Spot) (p : ℕ) → scope.only ≡ None → s.at ≤ limit → IsBytes s.rest → two_at scope q s ≡ Err (faults.Event p) → Begins (IsNoTwo scope) s
two_wrong scope q s p free low fits e =
    elim (bind_err (replica_at scope q s) (λ from. replica_at scope q from.1 >>= λ to. test (not (from.0 == to.0)) (faults.Event q) >>= λ _. Ok ((from.0, to.0), to.1)) (faults.Event p) e) [
      | inl h ↦ let b = replica_wrong scope q s p low fits h in record { start = b.start; after = b.after; parts = b.parts; low = b.low; wrong = inl b.wrong }
      | inr h ↦
          let one = (replica_spells scope q).takes s h.0.0 h.0.1 fits h.1 in
          let low2 = one.took.below low in
          let fits2 = back_fits s.rest one.text h.0.1.rest fits one.took.bytes in
          elim (bind_err (replica_at scope q h.0.1) (λ to. test (not (h.0.0 == to.0)) (faults.Event q) >>= λ _. Ok ((h.0.0, to.0), to.1)) (faults.Event p) h.2) [
            | inl k ↦ begins_behind (IsOutOf scope) (IsNoTwo scope) s h.0.1 one.text one.took
                (λ text out. inr (h.0.0, out.0, ap (λ (t : List ℕ). t ++ text) one.is.0 ∙ ap (λ (t : List ℕ). h.0.0 ∷ t) out.1, one.is.1, inl (past scope out.0 free out.2)))
                (replica_wrong scope q h.0.1 p low2 fits2 k)
            | inr k ↦
                let two = (replica_spells scope q).takes h.0.1 k.0.0 k.0.1 fits2 k.1 in
                elim (guard_wrong (not (h.0.0 == k.0.0)) (faults.Event q) (Ok ((h.0.0, k.0.0), k.0.1)) (faults.Event p) k.2) [
                  | inl same ↦
                      let took = took_both limit s h.0.1 k.0.1 one.text two.text one.took two.took in
                      record {
                        start = one.text ++ two.text;
                        after = k.0.1.rest;
                        parts = took.bytes;
                        low = omega (arith, took.at, took.below low);
                        wrong = inr (h.0.0, k.0.0, ap (λ (t : List ℕ). t ++ two.text) one.is.0 ∙ ap (λ (t : List ℕ). h.0.0 ∷ t) two.is.0, one.is.1, inr (same_of _ _ same));
                      }
                  | inr fine ↦ absurd (let no = fine.1 in cc)
                ]
          ]
    ]

pair_wrong : (scope : Scope) (q : ℕ) (s : Spot) (p : ℕ) → s.at ≤ limit → IsBytes s.rest → pair_at scope q s ≡ Err (faults.Event p) → Begins (IsNoPair scope) s
unfolding pair_at
pair_wrong scope q s p low fits e =
    elim (guard_wrong (is_none scope.only) (faults.Event q) (two_at scope q s) (faults.Event p) e) [
      | inl closed ↦ record { start = []; after = s.rest; parts = refl; low = omega (arith, low); wrong = inl (refl, closed) }
      | inr open_to ↦
          let b = two_wrong scope q s p (no_one scope.only open_to.0) low fits open_to.1 in
          record { start = b.start; after = b.after; parts = b.parts; low = b.low; wrong = inr (open_to.0, b.wrong) }
    ]

-- what follows a replica or a pair has no wrong event
then_wrong : {A B : Type 0} {R : A → List ℕ → Type 0} {W : List ℕ → Type 0} (first : Spot → Result (A × Spot) FileFault) (second : A × Spot → Result (B × Spot) FileFault) (s : Spot) (p : ℕ)
    → Spells limit first R → (first s ≡ Err (faults.Event p) → Begins W s) → ((a : A) → Names nothing_own (λ t. second (a, t))) → s.at ≤ limit → IsBytes s.rest
    → (first s >>= second) ≡ Err (faults.Event p) → Begins W s
then_wrong first second s p spells wrong names low fits e =
    elim (bind_err (first s) second (faults.Event p) e) [
      | inl h ↦ wrong h
      | inr h ↦
          let one = spells.takes s h.0.0 h.0.1 fits h.1 in
          absurd ((names h.0.0).names h.0.1 (faults.Event p) (one.took.below low) (back_fits s.rest one.text h.0.1.rest fits one.took.bytes) h.2)
    ]

-- ---- what follows the first byte

abbrev IsWrongBehind : Scope → ℕ → List ℕ → Type 0
IsWrongBehind scope kind text = IsWrongStart scope (kind ∷ text)

-- an event of one replica has a kind that is in each scope
of_one : (scope : Scope) (kind : ℕ) → kind ≤ 3 → ¬ IsNoKind scope kind
of_one scope kind le none = elim none [
  | inl lt ↦ omega (arith, lt, le)
  | inr two ↦ elim two.0 [ inl is ↦ omega (arith, is, le) | inr is ↦ omega (arith, is, le) ]
]

-- one of two, where each replica may have events
of_two : (scope : Scope) (kind : ℕ) → IsOfTwo kind → is_none scope.only ≡ true → ¬ IsNoKind scope kind
of_two scope kind two free none = elim none [
  | inl lt ↦ elim two [ inl is ↦ omega (arith, is, lt) | inr is ↦ omega (arith, is, lt) ]
  | inr closed ↦ let both : true ≡ false = sym free ∙ closed.1 in cc
]

two_some : (kind : ℕ) → IsOfTwo kind → 1 ≤ kind
two_some kind two = elim two [ inl is ↦ omega (arith, is) | inr is ↦ omega (arith, is) ]

behind_one : (scope : Scope) (kind : ℕ) (s : Spot) → 1 ≤ kind → kind ≤ 3 → Begins (IsOutOf scope) s → Begins (IsWrongBehind scope kind) s
behind_one scope kind s some most b = record {
  start = b.start;
  after = b.after;
  parts = b.parts;
  low = b.low;
  wrong = subst (IsWrongBehind scope kind) (sym b.wrong.1) (some, of_one scope kind most, b.wrong.2);
}

behind_two : (scope : Scope) (kind : ℕ) (s : Spot) → IsOfTwo kind → Begins (IsNoPair scope) s → Begins (IsWrongBehind scope kind) s
behind_two scope kind s two b = record {
  start = b.start;
  after = b.after;
  parts = b.parts;
  low = b.low;
  wrong = elim b.wrong [
    | inl closed ↦ subst (IsWrongBehind scope kind) (sym closed.0) (inr (two, closed.1))
    | inr free ↦ elim free.1 [
      | inl out ↦ subst (IsWrongBehind scope kind) (sym out.1) (two_some kind two, of_two scope kind two free.0, out.2)
      | inr pair ↦ subst (IsWrongBehind scope kind) (sym pair.2) (two, of_two scope kind two free.0, pair.3, pair.4)
    ]
  ];
}

chosen : {A : Type 0} (b : Bool) (x y z : A) → cond b x y ≡ z → ((b ≡ true) × (x ≡ z)) ⊎ ((b ≡ false) × (y ≡ z))
chosen true x y z e = inl (refl, e)
chosen false x y z e = inr (refl, e)

frame_wrong : (scope : Scope) (q : ℕ) (s : Spot) (p : ℕ) → s.at ≤ limit → IsBytes s.rest → frame_at scope q s ≡ Err (faults.Event p) → Begins (IsOutOf scope) s
unfolding frame_at
frame_wrong scope q s p low fits e =
    then_wrong (replica_at scope q) _ s p (replica_spells scope q) (replica_wrong scope q s p low fits)
    (λ to. then_names (λ bytes. Ok (Frame to bytes.0, bytes.1)) text_spells text_names (λ bytes. done_names (Frame to bytes))) low fits e

input_wrong : (scope : Scope) (q : ℕ) (s : Spot) (p : ℕ) → s.at ≤ limit → IsBytes s.rest → input_read_at scope q s ≡ Err (faults.Event p) → Begins (IsOutOf scope) s
unfolding input_read_at
input_wrong scope q s p low fits e =
    then_wrong (replica_at scope q) _ s p (replica_spells scope q) (replica_wrong scope q s p low fits)
    (λ at. then_names (λ bytes. Ok (Input at bytes.0, bytes.1)) text_spells text_names (λ bytes. done_names (Input at bytes))) low fits e

turn_wrong : (scope : Scope) (q : ℕ) (s : Spot) (p : ℕ) → s.at ≤ limit → IsBytes s.rest → turn_at scope q s ≡ Err (faults.Event p) → Begins (IsOutOf scope) s
unfolding turn_at
turn_wrong scope q s p low fits e =
    then_wrong (replica_at scope q) (λ at. Ok (Turn at.0, at.1)) s p (replica_spells scope q) (replica_wrong scope q s p low fits) (λ at. done_names (Turn at)) low fits e

pass_wrong : (scope : Scope) (q : ℕ) (s : Spot) (p : ℕ) → s.at ≤ limit → IsBytes s.rest → pass_at scope q s ≡ Err (faults.Event p) → Begins (IsNoPair scope) s
unfolding pass_at
pass_wrong scope q s p low fits e =
    then_wrong (pair_at scope q) _ s p (pair_spells scope q) (pair_wrong scope q s p low fits)
    (λ x. then_names (λ m. Ok (Pass x.0 x.1 m.0, m.1)) u32_spells u32_names (λ m. done_names (Pass x.0 x.1 m))) low fits e

sealed_wrong : (scope : Scope) (q : ℕ) (s : Spot) (p : ℕ) → s.at ≤ limit → IsBytes s.rest → sealed_at scope q s ≡ Err (faults.Event p) → Begins (IsNoPair scope) s
unfolding sealed_at
sealed_wrong scope q s p low fits e =
    then_wrong (pair_at scope q) _ s p (pair_spells scope q) (pair_wrong scope q s p low fits)
    (λ x. then_names (λ body. Ok (Sealed x.0 x.1 body.0, body.1)) text_spells text_names (λ body. done_names (Sealed x.0 x.1 body))) low fits e

kind_wrong : (scope : Scope) (q kind : ℕ) (s : Spot) (p : ℕ) → (kind == 0) ≡ false → s.at ≤ limit → IsBytes s.rest → kind_at scope q kind s ≡ Err (faults.Event p) → Begins (IsWrongBehind scope kind) s
unfolding kind_at
kind_wrong scope q kind s p none low fits e =
    elim (chosen (kind == 1) (frame_at scope q s) _ _ e) [
      | inl h ↦ let is = eqb-true kind 1 h.0 in behind_one scope kind s (omega (arith, is)) (omega (arith, is)) (frame_wrong scope q s p low fits h.1)
      | inr h1 ↦ elim (chosen (kind == 2) (input_read_at scope q s) _ _ h1.1) [
        | inl h ↦ let is = eqb-true kind 2 h.0 in behind_one scope kind s (omega (arith, is)) (omega (arith, is)) (input_wrong scope q s p low fits h.1)
        | inr h2 ↦ elim (chosen (kind == 3) (turn_at scope q s) _ _ h2.1) [
          | inl h ↦ let is = eqb-true kind 3 h.0 in behind_one scope kind s (omega (arith, is)) (omega (arith, is)) (turn_wrong scope q s p low fits h.1)
          | inr h3 ↦ elim (chosen (kind == 4) (pass_at scope q s) _ _ h3.1) [
            | inl h ↦ behind_two scope kind s (inl (eqb-true kind 4 h.0)) (pass_wrong scope q s p low fits h.1)
            | inr h4 ↦ elim (chosen (kind == 5) (sealed_at scope q s) _ _ h4.1) [
              | inl h ↦ behind_two scope kind s (inr (eqb-true kind 5 h.0)) (sealed_wrong scope q s p low fits h.1)
              | inr h5 ↦ record {
                start = [];
                after = s.rest;
                parts = refl;
                low = omega arith;
                wrong = inl (omega (arith, eqb-false kind 0 none, eqb-false kind 1 h1.0, eqb-false kind 2 h2.0, eqb-false kind 3 h3.0, eqb-false kind 4 h4.0, eqb-false kind 5 h5.0));
              }
            ]
          ]
        ]
      ]
    ]

no_event_at_end : (at : ℕ) (bytes : List ℕ) (p : ℕ) → end_from at bytes ≡ Err (faults.Event p) → ⊥
no_event_at_end at [] p e = cc
no_event_at_end at (b ∷ bytes) p e = neither (nat_lt at limit) e
  where
    neither : (t : Bool) → (let r : Result (Unit {0} × Spot) FileFault = cond t (Err (faults.Trailing at)) (Err faults.TooLong) in r) ≡ Err (faults.Event p) → ⊥
    neither true e = cc
    neither false e = cc

of_wrong : (scope : Scope) (s mid : Spot) (kind p : ℕ) → Took limit s (kind ∷ []) mid → s.at ≤ limit → IsBytes mid.rest → event_of scope s.at kind mid ≡ Err (faults.Event p) → Begins (IsWrongStart scope) s
unfolding end_at
of_wrong scope s mid kind p took low fits e =
    elim (chosen (kind == 0) (end_at mid >>= λ x. Ok (no_event x)) (kind_at scope s.at kind mid >>= λ x. Ok (some_event x)) (Err (faults.Event p)) e) [
      | inl h ↦ absurd (elim (bind_err (end_at mid) (λ x. Ok (no_event x)) (faults.Event p) h.1) [
        | inl k ↦ no_event_at_end mid.at mid.rest p k
        | inr k ↦ let no = k.2 in cc
      ])
      | inr h ↦ elim (bind_err (kind_at scope s.at kind mid) (λ x. Ok (some_event x)) (faults.Event p) h.1) [
        | inl k ↦ begins_behind (IsWrongBehind scope kind) (IsWrongStart scope) s mid (kind ∷ []) took (λ text wrong. wrong) (kind_wrong scope s.at kind mid p h.0 (took.below low) fits k)
        | inr k ↦ absurd (let no = k.2 in cc)
      ]
    ]

pub event_wrong : (scope : Scope) (s : Spot) (p : ℕ) → s.at ≤ limit → IsBytes s.rest → event_at scope s ≡ Err (faults.Event p) → Begins (IsWrongStart scope) s
unfolding event_at
event_wrong scope s p low fits e =
    elim (bind_err (byte_at s) (λ kind. event_of scope s.at kind.0 kind.1) (faults.Event p) e) [
      | inl h ↦ absurd (no_event_in byte_at byte_names s p low fits h)
      | inr h ↦
          let one = byte_spells.takes s h.0.0 h.0.1 fits h.1 in
          of_wrong scope s h.0.1 h.0.0 p (subst (λ (t : List ℕ). Took limit s t h.0.1) one.is one.took) low (back_fits s.rest one.text h.0.1.rest fits one.took.bytes) h.2
    ]

-- ---- what is wrong is answered so

-- the first byte is read
pub first_byte : (scope : Scope) (at kind : ℕ) (rest : List ℕ) → at + 1 ≤ limit → event_at scope (record { at = at; rest = kind ∷ rest }) ≡ event_of scope at kind (record { at = at + 1; rest = rest })
unfolding event_at
first_byte scope at kind rest low = let one = byte_spells.again at kind (kind ∷ []) rest refl low in rw one refl

replica_fails : (scope : Scope) (q at i : ℕ) (rest : List ℕ) → at + 1 ≤ limit → IsOutOfScope scope i → replica_at scope q (record { at = at; rest = i ∷ rest }) ≡ Err (faults.Event q)
unfolding replica_at
replica_fails scope q at i rest low out = let one = byte_spells.again at i (i ∷ []) rest refl low in rw (one, has_none scope i out) refl

closed_fails : (scope : Scope) (q : ℕ) (s : Spot) → is_none scope.only ≡ false → pair_at scope q s ≡ Err (faults.Event q)
unfolding pair_at
closed_fails scope q s closed = rw closed refl

pair_fails_first : (scope : Scope) (q : ℕ) (s : Spot) → is_none scope.only ≡ true → replica_at scope q s ≡ Err (faults.Event q) → pair_at scope q s ≡ Err (faults.Event q)
unfolding pair_at
pair_fails_first scope q s free fails = rw (free, fails) refl

pair_fails : (scope : Scope) (q at i j : ℕ) (rest : List ℕ) → at + 2 ≤ limit → is_none scope.only ≡ true → i < scope.n → (scope.n ≤ j) ⊎ (i ≡ j)
    → pair_at scope q (record { at = at; rest = i ∷ j ∷ rest }) ≡ Err (faults.Event q)
unfolding pair_at
pair_fails scope q at i j rest low free lt (inl out) =
    let none = no_one scope.only free in
    let one = (replica_spells scope q).again at i (i ∷ []) (j ∷ rest) (refl, lt, is_free scope.only i none) (omega (arith, low)) in
    rw (free, one, replica_fails scope q (at + 1) j rest (omega (arith, low)) (inl out)) refl
pair_fails scope q at i j rest low free lt (inr same) =
    let none = no_one scope.only free in
    let one = (replica_spells scope q).again at i (i ∷ []) (j ∷ rest) (refl, lt, is_free scope.only i none) (omega (arith, low)) in
    let two = (replica_spells scope q).again (at + 1) j (j ∷ []) rest (refl, rw (← same) lt, is_free scope.only j none) (omega (arith, low)) in
    rw (free, one, two, eq-eqb i j same) refl

-- ---- a replica that is out, behind each first byte

free_of : (scope : Scope) (kind : ℕ) (t : Bool) → is_none scope.only ≡ t → IsOfTwo kind → ¬ IsNoKind scope kind → is_none scope.only ≡ true
free_of scope kind true is two fine = is
free_of scope kind false is two fine = absurd (fine (inr (two, is)))

two_fails : (scope : Scope) (q kind : ℕ) (s : Spot) → IsOfTwo kind → pair_at scope q s ≡ Err (faults.Event q) → kind_at scope q kind s ≡ Err (faults.Event q)
unfolding kind_at pass_at sealed_at
two_fails scope q kind s (inl is) fails = rw (is, fails) refl
two_fails scope q kind s (inr is) fails = rw (is, fails) refl

first_fails : (scope : Scope) (q kind : ℕ) (s : Spot) → IsOfTwo kind → ¬ IsNoKind scope kind → replica_at scope q s ≡ Err (faults.Event q) → kind_at scope q kind s ≡ Err (faults.Event q)
first_fails scope q kind s two fine fails =
    two_fails scope q kind s two (pair_fails_first scope q s (free_of scope kind (is_none scope.only) refl two fine) fails)

one_fails : (scope : Scope) (q kind : ℕ) (s : Spot) → 1 ≤ kind → ¬ IsNoKind scope kind → replica_at scope q s ≡ Err (faults.Event q) → kind_at scope q kind s ≡ Err (faults.Event q)
unfolding kind_at frame_at input_read_at turn_at
one_fails scope q zero s some fine fails = absurd (omega (arith, some))
one_fails scope q (suc zero) s some fine fails = rw fails refl
one_fails scope q (suc (suc zero)) s some fine fails = rw fails refl
one_fails scope q (suc (suc (suc zero))) s some fine fails = rw fails refl
one_fails scope q (suc (suc (suc (suc zero)))) s some fine fails = first_fails scope q 4 s (inl refl) fine fails
one_fails scope q (suc (suc (suc (suc (suc zero))))) s some fine fails = first_fails scope q 5 s (inr refl) fine fails
one_fails scope q (suc (suc (suc (suc (suc (suc k)))))) s some fine fails = absurd (fine (inl (omega arith)))

above_fails : (scope : Scope) (q kind : ℕ) (s : Spot) → 5 < kind → kind_at scope q kind s ≡ Err (faults.Event q)
unfolding kind_at
above_fails scope q kind s lt =
    rw (ne_eqb kind 1 (omega arith), ne_eqb kind 2 (omega arith), ne_eqb kind 3 (omega arith), ne_eqb kind 4 (omega arith), ne_eqb kind 5 (omega arith)) refl

none_fails : (scope : Scope) (q kind : ℕ) (s : Spot) → IsNoKind scope kind → kind_at scope q kind s ≡ Err (faults.Event q)
none_fails scope q kind s (inl lt) = above_fails scope q kind s lt
none_fails scope q kind s (inr two) = two_fails scope q kind s two.0 (closed_fails scope q s two.1)

none_some : (scope : Scope) (kind : ℕ) → IsNoKind scope kind → 1 ≤ kind
none_some scope kind (inl lt) = omega (arith, lt)
none_some scope kind (inr two) = two_some kind two.0

of_kind : (scope : Scope) (q kind : ℕ) (s : Spot) → 1 ≤ kind → kind_at scope q kind s ≡ Err (faults.Event q) → event_of scope q kind s ≡ Err (faults.Event q)
of_kind scope q kind s some fails = rw (ne_eqb kind 0 (omega arith), fails) refl

pub event_fails : (scope : Scope) (at : ℕ) (start after : List ℕ) → IsWrongStart scope start → at + length start ≤ limit → event_at scope (record { at = at; rest = start ++ after }) ≡ Err (faults.Event at)
event_fails scope at [] after wrong low = absurd wrong
event_fails scope at (kind ∷ []) after wrong low =
    first_byte scope at kind after low ∙ of_kind scope at kind _ (none_some scope kind wrong) (none_fails scope at kind _ wrong)
event_fails scope at (kind ∷ i ∷ []) after wrong low =
    first_byte scope at kind (i ∷ after) (omega (arith, low))
    ∙ of_kind scope at kind _ wrong.0 (one_fails scope at kind _ wrong.0 wrong.1 (replica_fails scope at (at + 1) i after (omega (arith, low)) wrong.2))
event_fails scope at (kind ∷ i ∷ j ∷ []) after wrong low =
    let free = free_of scope kind (is_none scope.only) refl wrong.0 wrong.1 in
    first_byte scope at kind (i ∷ j ∷ after) (omega (arith, low))
    ∙ of_kind scope at kind _ (two_some kind wrong.0) (two_fails scope at kind _ wrong.0 (pair_fails scope at (at + 1) i j after (omega (arith, low)) free wrong.2 wrong.3))
event_fails scope at (kind ∷ i ∷ j ∷ k ∷ more) after wrong low = absurd wrong
