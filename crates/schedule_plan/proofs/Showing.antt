-- What a face that exchanges bits shows of a message is in the grammar where the message is.
use Rattle.std.proofs.Common.{◌≡◌, ◌≢◌, ℕ, zero, suc, Bool, true, false, ◌==◌, ◌&&◌, List, [], ◌∷◌, refl, sym, subst, if◌then◌else◌}
use Rattle.std.specs.Prelude.{nat_lt}
use Rattle.std.proofs.lemmas.Bool.{eqb-true}
use Rattle.ritas_base.specs.declared.item.Kind.{Kind}
use Rattle.ritas_base.specs.declared.item.Kind.TheVariants.{Init}
use Rattle.ritas_base.specs.declared.item.Msg.{Msg}
use Rattle.ritas_base.specs.declared.mode.Mode.{Mode}
use Rattle.ritas_base.specs.declared.slot.Slot.{Slot}
use Rattle.ritas_base.specs.Slots.{form_of}
use Rattle.ritas_base.specs.HistoryLaws.{kind_eq_is}
use Rattle.ritas_base.specs.Messages.{kind_eq, item_of}
use Rattle.ritas_base.specs.Numbers.{Numbers}
use Rattle.frame_codec.specs.Body.{IsInGrammar}
use Rattle.frame_codec.specs.Format.{Is}
use Rattle.frame_codec.specs.Grammar.{bit, digest, value, payload}
use Rattle.world_model.specs.World.{Setting}
use Rattle.ritas_base.specs.declared.plan.Attack.{Attack}
use Rattle.ritas_base.specs.declared.plan.Attack.TheVariants.{Absent, Silent, TwoFace, Flip, Garbage}
use Rattle.schedule_plan.specs.Flips.{other_bit, flipped}
use Rattle.schedule_plan.specs.Plans.{face_shown}
use Rattle.world_model.specs.Forging.{IsFaceView}

either_bit : (b : Bool) → (nat_lt 0 (if b then 3 else 2) ≡ true) × (nat_lt 1 (if b then 3 else 2) ≡ true)
either_bit true = (refl, refl)
either_bit false = (refl, refl)

other_is : (step : ℕ) (v : List ℕ) → Is (bit step) v → Is (bit step) (other_bit v)
unfolding bit
other_is step [] is = is
other_is step (zero ∷ []) is = (1 ∷ [], [], refl, refl, (either_bit (step == 3)).1, refl)
other_is step (suc zero ∷ []) is = (0 ∷ [], [], refl, refl, (either_bit (step == 3)).0, refl)
other_is step (suc (suc n) ∷ []) is = is
other_is step (zero ∷ x ∷ xs) is = is
other_is step (suc zero ∷ x ∷ xs) is = is
other_is step (suc (suc n) ∷ x ∷ xs) is = is

of_step : (p : Numbers) (root : ℕ) (s : Slot) (v : List ℕ) → s.class ≡ 5 → Is (value p root s) v → Is (value p root s) (other_bit v)
unfolding value
of_step p root s v five is = rw five (other_is s.step v (rw five at is))

-- an INIT carries the slot's value, in every version
value_of_init : (b : Bool) (p : Numbers) (root : ℕ) (s : Slot) (v : List ℕ) → Is (if b && false then digest else value p root s) v → Is (value p root s) v
value_of_init true p root s v is = is
value_of_init false p root s v is = is

init_of_value : (b : Bool) (p : Numbers) (root : ℕ) (s : Slot) (v : List ℕ) → Is (value p root s) v → Is (if b && false then digest else value p root s) v
init_of_value true p root s v is = is
init_of_value false p root s v is = is

of_init : (p : Numbers) (mode : Mode) (kind : Kind) (s : Slot) (v : List ℕ) → kind ≡ Init → s.class ≡ 5 → Is (payload p mode kind s) v → Is (payload p mode kind s) (other_bit v)
unfolding payload
of_init p mode kind s v init five is =
    let b : Bool = form_of mode s == 3 in
    let said = value_of_init b p mode.root s v (subst (λ (k : Kind). Is (payload p mode k s) v) init is) in
    subst (λ (k : Kind). Is (payload p mode k s) (other_bit v)) (sym init) (init_of_value b p mode.root s (other_bit v) (of_step p mode.root s v five said))

both : (a b : Bool) → (a && b) ≡ true → (a ≡ true) × (b ≡ true)
both true b e = (refl, e)
both false b e = absurd cc

abbrev pub with_other : Msg → Msg
with_other m = record { to = m.to; kind = m.kind; slot = m.slot; value = other_bit m.value }

pub same_if : {X : Type 0} (b : Bool) (P : Msg → X) (m : Msg) → P (with_other m) ≡ P m → P (if b then with_other m else m) ≡ P m
same_if true P m e = e
same_if false P m e = refl

pub flips_show : (w : Setting) → IsFaceView w flipped
flips_show w = record {
  to = λ m. same_if (kind_eq m.kind Init && m.slot.class == 5) (λ x. x.to) m refl;
  kind = λ m. same_if (kind_eq m.kind Init && m.slot.class == 5) (λ x. x.kind) m refl;
  slot = λ m. same_if (kind_eq m.kind Init && m.slot.class == 5) (λ x. x.slot) m refl;
  others = λ m not_init. others m not_init (kind_eq m.kind Init && m.slot.class == 5) refl;
  good = λ i m good. good_if i m good (kind_eq m.kind Init && m.slot.class == 5) refl;
}
  where
    others : (m : Msg) → m.kind ≢ Init → (b : Bool) → (kind_eq m.kind Init && m.slot.class == 5) ≡ b → (if b then with_other m else m) ≡ m
    others m not_init true e = absurd (not_init (kind_eq_is m.kind Init (both (kind_eq m.kind Init) (m.slot.class == 5) e).0))
    others m not_init false e = refl

    good_if : (i : ℕ) (m : Msg) → IsInGrammar w.numbers w.mode (item_of i m) → (b : Bool) → (kind_eq m.kind Init && m.slot.class == 5) ≡ b
        → IsInGrammar w.numbers w.mode (item_of i (if b then with_other m else m))
    good_if i m good true e =
        let parts = both (kind_eq m.kind Init) (m.slot.class == 5) e in
        record {
          session = good.session;
          slot = good.slot;
          kind = good.kind;
          payload_is = of_init w.numbers w.mode m.kind m.slot m.value (kind_eq_is m.kind Init parts.0) (eqb-true m.slot.class 5 parts.1) good.payload_is;
        }
    good_if i m good false e = good

-- a face that changes nothing
pub plain_show : (w : Setting) → IsFaceView w (λ m. m)
plain_show w = record { to = λ m. refl; kind = λ m. refl; slot = λ m. refl; others = λ m not_init. refl; good = λ i m good. good }

-- ---- every attack

pub attacks_show : (w : Setting) (attack : Attack) → IsFaceView w (face_shown attack)
attacks_show w Absent = plain_show w
attacks_show w Silent = plain_show w
attacks_show w TwoFace = plain_show w
attacks_show w Flip = flips_show w
attacks_show w Garbage = plain_show w

-- a face shows its messages as they are, where the attack isn't to exchange bits
pub plainly : (attack : Attack) → attack ≢ Flip → (m : Msg) → face_shown attack m ≡ m
plainly Absent other m = refl
plainly Silent other m = refl
plainly TwoFace other m = refl
plainly Flip other m = absurd (other refl)
plainly Garbage other m = refl
