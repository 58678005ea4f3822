-- The readers of events.
use Rattle.std.proofs.Common.{◌≡◌, ℕ, ◌^◌, ◌<◌, Bool, true, false, cond, List, [], ◌∷◌, ◌++◌, Option, Some, None, Result, Ok, Err, refl, sym, ap, subst, arith}
use Rattle.std.specs.Option.{is_none}
use Rattle.std.specs.Prelude.{◌&&◌, nat_lt, not, ◌==◌, ◌≢◌}
use Rattle.std.specs.Int.{w32, to_be_bytes}
use Rattle.std.proofs.lemmas.Bool.{eqb-true, eq-eqb, ne_eqb, ltb-true, lt-ltb}
use Rattle.std.proofs.lemmas.List.{append-nil}
use Rattle.ritas_base.specs.Events.{MayHappen}
use Rattle.ritas_base.specs.declared.event.Event.{Event}
use Rattle.ritas_base.specs.declared.event.Event.TheVariants.{Frame, Input, Turn, Pass, Sealed}
use Rattle.schedule_file.specs.declared.fault.FileFault.{FileFault}
use Rattle.schedule_file.specs.declared.fault.FileFault.TheVariants as faults
use Rattle.schedule_file.specs.declared.scope.Scope.{Scope}
use Rattle.schedule_file.specs.Reading.{Spot}
use Rattle.schedule_file.specs.Scopes.{is_the_one, has_replica, IsTheOne, IsInScope}
use Rattle.schedule_file.specs.FileBytes.{limit, byte_at, u32_at, text_at}
use Rattle.schedule_file.specs.ReadEvents.{replica_at, pair_at, frame_at, input_read_at, turn_at, pass_at, sealed_at, kind_at}
use Rattle.schedule_file.specs.Spelling.{sized, event_text}
use Rattle.schedule_file.proofs.Spells.{Spells, Both, Nothing, as_spells, then_spells, guard_spells, done_spells}
use Rattle.schedule_file.proofs.FileSpells.{byte_spells, u32_spells, text_spells, IsSized, IsNumber}

abbrev pub IsReplica : Scope → ℕ → List ℕ → Type 0
IsReplica scope at text = (text ≡ at ∷ []) × (at < scope.n) × IsTheOne scope.only at

both_true : (a b : Bool) → (a && b) ≡ true → (a ≡ true) × (b ≡ true)
both_true true b e = (refl, e)
both_true false b e = absurd cc

both_hold : (a b : Bool) → a ≡ true → b ≡ true → (a && b) ≡ true
both_hold a b p q = rw (p, q) refl

the_one : (only : Option ℕ) (at : ℕ) → is_the_one only at ≡ true → IsTheOne only at
the_one None at e = tt
the_one (Some me) at e = eqb-true at me e

is_one : (only : Option ℕ) (at : ℕ) → IsTheOne only at → is_the_one only at ≡ true
is_one None at is = refl
is_one (Some me) at is = eq-eqb at me is

pub replica_spells : (scope : Scope) (p : ℕ) → Spells limit (replica_at scope p) (IsReplica scope)
unfolding replica_at
replica_spells scope p = as_spells (IsReplica scope)
    (then_spells byte_at _ byte_spells (λ at. guard_spells (has_replica scope at) (faults.Event p) (λ s. Ok (at, s)) (done_spells at)))
    (λ at text fits r.
    let has = both_true (nat_lt r.value scope.n) (is_the_one scope.only r.value) r.second.0 in
    let made : IsReplica scope r.value text = (rw (r.parts, r.first, r.second.1.1) refl, ltb-true _ _ has.0, the_one scope.only r.value has.1) in
    subst (λ (y : ℕ). IsReplica scope y text) r.second.1.0 made)
    (λ at text r.
    let has = both_hold (nat_lt at scope.n) (is_the_one scope.only at) (lt-ltb _ _ r.1) (is_one scope.only at r.2) in
    record { value = at; front = at ∷ []; back = []; first = refl; second = (has, (refl, refl)); parts = r.0 })

-- ---- two replicas

pub not_equal : (a b : ℕ) → not (a == b) ≡ true → a ≢ b
not_equal a b h e = not_true (a == b) (eq-eqb a b e) h
  where
    not_true : (t : Bool) → t ≡ true → not t ≡ true → ⊥
    not_true true e h = cc
    not_true false e h = cc

-- no replica is the one, and each replica is
pub no_one : (only : Option ℕ) → is_none only ≡ true → only ≡ None
no_one None e = refl
no_one (Some me) e = absurd cc

pub is_free : (only : Option ℕ) (at : ℕ) → only ≡ None → IsTheOne only at
is_free only at free = subst (λ (o : Option ℕ). IsTheOne o at) (sym free) tt

abbrev pub IsPairText : Scope → ℕ × ℕ → List ℕ → Type 0
IsPairText scope x text = (text ≡ x.0 ∷ x.1 ∷ []) × MayHappen scope.n (Pass x.0 x.1 0) × (scope.only ≡ None)

pub pair_spells : (scope : Scope) (p : ℕ) → Spells limit (pair_at scope p) (IsPairText scope)
unfolding pair_at
pair_spells scope p = as_spells (IsPairText scope)
    (guard_spells (is_none scope.only) (faults.Event p) _ (then_spells (replica_at scope p) _ (replica_spells scope p) (λ from. then_spells (replica_at scope p) _ (replica_spells scope p) (λ to. guard_spells (not (from == to)) (faults.Event p) (λ s. Ok ((from, to), s)) (done_spells (from, to))))))
    (λ x text fits r.
    let a = r.1 in
    let b = a.second in
    let made : IsPairText scope (a.value, b.value) text = (
      rw (a.parts, a.first.0, b.parts, b.first.0, b.second.1.1) refl,
      (a.first.1, b.first.1, not_equal _ _ b.second.0),
      no_one scope.only r.0,
    ) in
    subst (λ (y : ℕ × ℕ). IsPairText scope y text) b.second.1.0 made)
    (λ x text r.
    let other : not (x.0 == x.1) ≡ true = rw (ne_eqb _ _ r.1.2) refl in
    let free : is_none scope.only ≡ true = rw r.2 refl in
    (free, record { value = x.0; front = x.0 ∷ []; back = x.1 ∷ []; first = (refl, r.1.0, is_free scope.only x.0 r.2); second = record { value = x.1; front = x.1 ∷ []; back = []; first = (refl, r.1.1, is_free scope.only x.1 r.2); second = (other, (refl, refl)); parts = refl }; parts = r.0 }))

-- ---- an event, by its first byte and what follows it

abbrev pub kind_of : Event → ℕ
kind_of (Frame to bytes) = 1
kind_of (Input at bytes) = 2
kind_of (Turn at) = 3
kind_of (Pass from to m) = 4
kind_of (Sealed from to body) = 5

abbrev pub body_of : Event → List ℕ
body_of (Frame to bytes) = to ∷ [] ++ sized bytes
body_of (Input at bytes) = at ∷ [] ++ sized bytes
body_of (Turn at) = at ∷ []
body_of (Pass from to m) = from ∷ to ∷ [] ++ to_be_bytes w32 m
body_of (Sealed from to body) = from ∷ to ∷ [] ++ sized body

pub text_is : (e : Event) → event_text e ≡ kind_of e ∷ body_of e
text_is (Frame to bytes) = refl
text_is (Input at bytes) = refl
text_is (Turn at) = refl
text_is (Pass from to m) = refl
text_is (Sealed from to body) = refl

pub record IsBody (scope : Scope) (kind : ℕ) (e : Event) (text : List ℕ) : Type 0 where
  pub is_kind : kind_of e ≡ kind
  pub is_text : text ≡ body_of e
  pub is_event : IsInScope scope e

-- a replica and a text behind it
frame_from : (scope : Scope) (e : Event) (text : List ℕ) → IsBody scope 1 e text → Both (IsReplica scope) (λ to. Both IsSized (λ bytes. Nothing (Frame to bytes))) e text
frame_from scope (Frame to bytes) text r = record { value = to; front = to ∷ []; back = sized bytes; first = (refl, r.is_event.0, r.is_event.1); second = record { value = bytes; front = sized bytes; back = []; first = (refl, r.is_event.2); second = (refl, refl); parts = sym (append-nil (sized bytes)) }; parts = r.is_text }
frame_from scope (Input at bytes) text r = absurd (omega (arith, r.is_kind))
frame_from scope (Turn at) text r = absurd (omega (arith, r.is_kind))
frame_from scope (Pass from to m) text r = absurd (omega (arith, r.is_kind))
frame_from scope (Sealed from to body) text r = absurd (omega (arith, r.is_kind))

frame_spells : (scope : Scope) (p : ℕ) → Spells limit (frame_at scope p) (IsBody scope 1)
unfolding frame_at
frame_spells scope p = as_spells (IsBody scope 1)
    (then_spells (replica_at scope p) _ (replica_spells scope p) (λ to. then_spells text_at (λ bytes. Ok (Frame to bytes.0, bytes.1)) text_spells (λ bytes. done_spells (Frame to bytes))))
    (λ e text fits r.
    let b = r.second in
    let made : IsBody scope 1 (Frame r.value b.value) text = record { is_kind = refl; is_text = rw (r.parts, r.first.0, b.parts, b.first.0, b.second.1) (ap (λ (t : List ℕ). r.value ∷ t) (append-nil (sized b.value))); is_event = (r.first.1, r.first.2, b.first.1) } in
    subst (λ (y : Event). IsBody scope 1 y text) b.second.0 made)
    (frame_from scope)

input_from : (scope : Scope) (e : Event) (text : List ℕ) → IsBody scope 2 e text → Both (IsReplica scope) (λ at. Both IsSized (λ bytes. Nothing (Input at bytes))) e text
input_from scope (Input at bytes) text r = record { value = at; front = at ∷ []; back = sized bytes; first = (refl, r.is_event.0, r.is_event.1); second = record { value = bytes; front = sized bytes; back = []; first = (refl, r.is_event.2); second = (refl, refl); parts = sym (append-nil (sized bytes)) }; parts = r.is_text }
input_from scope (Frame to bytes) text r = absurd (omega (arith, r.is_kind))
input_from scope (Turn at) text r = absurd (omega (arith, r.is_kind))
input_from scope (Pass from to m) text r = absurd (omega (arith, r.is_kind))
input_from scope (Sealed from to body) text r = absurd (omega (arith, r.is_kind))

input_spells : (scope : Scope) (p : ℕ) → Spells limit (input_read_at scope p) (IsBody scope 2)
unfolding input_read_at
input_spells scope p = as_spells (IsBody scope 2)
    (then_spells (replica_at scope p) _ (replica_spells scope p) (λ at. then_spells text_at (λ bytes. Ok (Input at bytes.0, bytes.1)) text_spells (λ bytes. done_spells (Input at bytes))))
    (λ e text fits r.
    let b = r.second in
    let made : IsBody scope 2 (Input r.value b.value) text = record { is_kind = refl; is_text = rw (r.parts, r.first.0, b.parts, b.first.0, b.second.1) (ap (λ (t : List ℕ). r.value ∷ t) (append-nil (sized b.value))); is_event = (r.first.1, r.first.2, b.first.1) } in
    subst (λ (y : Event). IsBody scope 2 y text) b.second.0 made)
    (input_from scope)

turn_from : (scope : Scope) (e : Event) (text : List ℕ) → IsBody scope 3 e text → Both (IsReplica scope) (λ at. Nothing (Turn at)) e text
turn_from scope (Turn at) text r = record { value = at; front = at ∷ []; back = []; first = (refl, r.is_event.0, r.is_event.1); second = (refl, refl); parts = r.is_text }
turn_from scope (Frame to bytes) text r = absurd (omega (arith, r.is_kind))
turn_from scope (Input at bytes) text r = absurd (omega (arith, r.is_kind))
turn_from scope (Pass from to m) text r = absurd (omega (arith, r.is_kind))
turn_from scope (Sealed from to body) text r = absurd (omega (arith, r.is_kind))

turn_spells : (scope : Scope) (p : ℕ) → Spells limit (turn_at scope p) (IsBody scope 3)
unfolding turn_at
turn_spells scope p = as_spells (IsBody scope 3)
    (then_spells (replica_at scope p) (λ at. Ok (Turn at.0, at.1)) (replica_spells scope p) (λ at. done_spells (Turn at)))
    (λ e text fits r.
    let made : IsBody scope 3 (Turn r.value) text = record { is_kind = refl; is_text = rw (r.parts, r.first.0, r.second.1) refl; is_event = (r.first.1, r.first.2, tt) } in
    subst (λ (y : Event). IsBody scope 3 y text) r.second.0 made)
    (turn_from scope)

pass_from : (scope : Scope) (e : Event) (text : List ℕ) → IsBody scope 4 e text → Both (IsPairText scope) (λ x. Both (IsNumber w32 (2 ^ 32)) (λ m. Nothing (Pass x.0 x.1 m))) e text
pass_from scope (Pass from to m) text r = record { value = (from, to); front = from ∷ to ∷ []; back = to_be_bytes w32 m; first = (refl, r.is_event.0, r.is_event.1); second = record { value = m; front = to_be_bytes w32 m; back = []; first = (refl, r.is_event.2); second = (refl, refl); parts = sym (append-nil (to_be_bytes w32 m)) }; parts = r.is_text }
pass_from scope (Frame to bytes) text r = absurd (omega (arith, r.is_kind))
pass_from scope (Input at bytes) text r = absurd (omega (arith, r.is_kind))
pass_from scope (Turn at) text r = absurd (omega (arith, r.is_kind))
pass_from scope (Sealed from to body) text r = absurd (omega (arith, r.is_kind))

pass_spells : (scope : Scope) (p : ℕ) → Spells limit (pass_at scope p) (IsBody scope 4)
unfolding pass_at
pass_spells scope p = as_spells (IsBody scope 4)
    (then_spells (pair_at scope p) _ (pair_spells scope p) (λ x. then_spells u32_at (λ m. Ok (Pass x.0 x.1 m.0, m.1)) u32_spells (λ m. done_spells (Pass x.0 x.1 m))))
    (λ e text fits r.
    let b = r.second in
    let made : IsBody scope 4 (Pass r.value.0 r.value.1 b.value) text = record { is_kind = refl; is_text = rw (r.parts, r.first.0, b.parts, b.first.0, b.second.1) (ap (λ (t : List ℕ). r.value.0 ∷ r.value.1 ∷ t) (append-nil (to_be_bytes w32 b.value))); is_event = (r.first.1, r.first.2, b.first.1) } in
    subst (λ (y : Event). IsBody scope 4 y text) b.second.0 made)
    (pass_from scope)

sealed_from : (scope : Scope) (e : Event) (text : List ℕ) → IsBody scope 5 e text → Both (IsPairText scope) (λ x. Both IsSized (λ body. Nothing (Sealed x.0 x.1 body))) e text
sealed_from scope (Sealed from to body) text r = record { value = (from, to); front = from ∷ to ∷ []; back = sized body; first = (refl, r.is_event.0, r.is_event.1); second = record { value = body; front = sized body; back = []; first = (refl, r.is_event.2); second = (refl, refl); parts = sym (append-nil (sized body)) }; parts = r.is_text }
sealed_from scope (Frame to bytes) text r = absurd (omega (arith, r.is_kind))
sealed_from scope (Input at bytes) text r = absurd (omega (arith, r.is_kind))
sealed_from scope (Turn at) text r = absurd (omega (arith, r.is_kind))
sealed_from scope (Pass from to m) text r = absurd (omega (arith, r.is_kind))

sealed_spells : (scope : Scope) (p : ℕ) → Spells limit (sealed_at scope p) (IsBody scope 5)
unfolding sealed_at
sealed_spells scope p = as_spells (IsBody scope 5)
    (then_spells (pair_at scope p) _ (pair_spells scope p) (λ x. then_spells text_at (λ body. Ok (Sealed x.0 x.1 body.0, body.1)) text_spells (λ body. done_spells (Sealed x.0 x.1 body))))
    (λ e text fits r.
    let b = r.second in
    let made : IsBody scope 5 (Sealed r.value.0 r.value.1 b.value) text = record { is_kind = refl; is_text = rw (r.parts, r.first.0, b.parts, b.first.0, b.second.1) (ap (λ (t : List ℕ). r.value.0 ∷ r.value.1 ∷ t) (append-nil (sized b.value))); is_event = (r.first.1, r.first.2, b.first.1) } in
    subst (λ (y : Event). IsBody scope 5 y text) b.second.0 made)
    (sealed_from scope)

-- ---- one of them

choose_spells : {B F : Type 0} {most : ℕ} {R : B → List ℕ → Type 0} (t : Bool) (first second : Spot → Result (B × Spot) F)
    → (t ≡ true → Spells most first R) → (t ≡ false → Spells most second R) → Spells most (λ s. cond t (first s) (second s)) R
choose_spells true first second p q = p refl
choose_spells false first second p q = q refl

abbrev IsNot : ℕ → ℕ → Type 0
IsNot kind k = (kind == k) ≡ false

differs : (kind k : ℕ) → IsNot kind k → k ≡ kind → ⊥
differs kind k h e = let same : (kind == k) ≡ true = eq-eqb kind k (sym e) in cc

none_is : (scope : Scope) (kind : ℕ) (e : Event) (text : List ℕ) → IsNot kind 1 → IsNot kind 2 → IsNot kind 3 → IsNot kind 4 → IsNot kind 5 → IsBody scope kind e text → ⊥
none_is scope kind (Frame to bytes) text a b c d f r = differs kind 1 a r.is_kind
none_is scope kind (Input at bytes) text a b c d f r = differs kind 2 b r.is_kind
none_is scope kind (Turn at) text a b c d f r = differs kind 3 c r.is_kind
none_is scope kind (Pass from to m) text a b c d f r = differs kind 4 d r.is_kind
none_is scope kind (Sealed from to body) text a b c d f r = differs kind 5 f r.is_kind

at_kind : {scope : Scope} {kind k : ℕ} {read : Spot → Result (Event × Spot) FileFault} → (kind == k) ≡ true → Spells limit read (IsBody scope k) → Spells limit read (IsBody scope kind)
at_kind {scope = scope} {kind = kind} {k = k} {read = read} h spells = subst (λ (j : ℕ). Spells limit read (IsBody scope j)) (sym (eqb-true kind k h)) spells

pub kind_spells : (scope : Scope) (p kind : ℕ) → Spells limit (kind_at scope p kind) (IsBody scope kind)
unfolding kind_at
kind_spells scope p kind =
    choose_spells (kind == 1) (frame_at scope p) _ (λ h. at_kind h (frame_spells scope p)) (λ a.
    choose_spells (kind == 2) (input_read_at scope p) _ (λ h. at_kind h (input_spells scope p)) (λ b.
    choose_spells (kind == 3) (turn_at scope p) _ (λ h. at_kind h (turn_spells scope p)) (λ c.
    choose_spells (kind == 4) (pass_at scope p) _ (λ h. at_kind h (pass_spells scope p)) (λ d.
    choose_spells (kind == 5) (sealed_at scope p) (λ s. Err (faults.Event p)) (λ h. at_kind h (sealed_spells scope p)) (λ f. record {
      takes = λ s x next fits e. absurd cc;
      again = λ at x text rest r le. absurd (none_is scope kind x text a b c d f r);
    })))))
