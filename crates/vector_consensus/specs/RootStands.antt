-- What a value of the root service stands for, and what its calls do.
use Rattle.std.specs.Prelude.{◌≡◌, ℕ, Bool, true, ◌&&◌, List, [], Option, Result, Ok, Err, is_ok, if◌then◌else◌, refl}
use Rattle.std.proofs.Common.{sym, ◌∙◌, ap₂, inl, inr}
use Rattle.ritas_base.specs.declared.bytes.Mem.{Mem}
use Rattle.ritas_base.specs.declared.slot.Slot.{Slot}
use Rattle.ritas_base.specs.declared.item.Say.{Say}
use Rattle.layer_api.specs.Service.{Seat, vector_decision, vector_with}
use Rattle.layer_api.specs.Words.{Word, Ask, Hear}
use Rattle.layer_api.specs.ServiceCalls.{ServiceShown, Shows, ShowsNear, Inputs, Heeds}
use Rattle.layer_api.specs.OneInstance.{is_given, given_now}
use Rattle.layer_api.specs.Multi.{Desk}
use Rattle.layer_api.specs.Vectors.{VectorRules, is_slot_in}
use Rattle.layer_api.specs.VectorCalls.{VectorShown, ShowsVector, ShowsVectorNear, VectorProposes, VectorHears}
use Rattle.vector_consensus.specs.Root.{vector_root_desk, vector_ending, vector_root}
use Rattle.vector_consensus.specs.Laws.RootLog.{may_ask, may_hear}
use Rattle.vector_consensus.specs.declared.vc_root.VcRoot.{VcRoot}

-- the box stands for the service's words
pub record VectorRootStands {M : Type 0} (stands : M → Desk → List Word → Type 0) (s : VcRoot M) (seat : Seat) (w : List Word) : Type 0 where
  pub inner : stands s.inner (vector_root_desk seat) w
  pub f : s.f ≡ seat.numbers.f
  pub given : s.given ≡ is_given w

abbrev pub vector_root_shown : ℕ → VectorShown → Bool → ServiceShown
vector_root_shown f shown given = record {
  opens = λ s. is_slot_in f 0 s && shown.opens s;
  completed = 0;
  base = λ origin. 0;
  next_number = 0;
  given = given;
  done = [];
  outcome = vector_ending (vector_decision shown.decision shown.spent);
  last = vector_with 0 shown.attempt shown.decision;
}

pub root_shows : (m : VectorRules) (seat : Seat) (w : List Word) (shown : VectorShown) (f : ℕ) (given : Bool) → f ≡ seat.numbers.f → given ≡ is_given w
    → ShowsVector m (vector_root_desk seat) w shown → Shows (vector_root m) seat w (vector_root_shown f shown given)
root_shows m seat w shown f given same e s = record {
  opens = λ q. ap₂ (λ (k : ℕ) (b : Bool). is_slot_in k 0 q && b) same (s.opens q);
  completed = refl;
  base = λ o l. refl;
  next_number = refl;
  given = e;
  done = refl;
  outcome = ap₂ (λ (o : Option (List ℕ)) (b : Bool). vector_ending (vector_decision o b)) s.decision s.spent;
  last = ap₂ (vector_with 0) s.attempt s.decision;
}

shows_near : (m : VectorRules) (seat : Seat) (w : List Word) (c : Word) (shown : VectorShown) (f : ℕ) (given : Bool) → f ≡ seat.numbers.f → given ≡ is_given w
    → ShowsVectorNear m (vector_root_desk seat) w c shown → ShowsNear (vector_root m) seat w c (vector_root_shown f shown given)
shows_near m seat w c shown f given same e s = record {
  opens = λ q. elim (s.opens q) [ inl o ↦ inl (ap₂ (λ (k : ℕ) (b : Bool). is_slot_in k 0 q && b) same o) | inr o ↦ inr (ap₂ (λ (k : ℕ) (b : Bool). is_slot_in k 0 q && b) same o) ];
  completed = inl refl;
  base = λ o l. inl refl;
  next_number = inl refl;
  given = inl e;
  done_before = ([], refl);
  done_after = ([], refl);
  outcome = elim s.ending [
    | inl o ↦ inl (ap₂ (λ (x : Option (List ℕ)) (b : Bool). vector_ending (vector_decision x b)) o.0 o.1)
    | inr o ↦ inr (ap₂ (λ (x : Option (List ℕ)) (b : Bool). vector_ending (vector_decision x b)) o.0 o.1)
  ];
  last = elim s.ending [
    | inl o ↦ inl (ap₂ (λ (k : Option ℕ) (x : Option (List ℕ)). vector_with 0 k x) o.2 o.0)
    | inr o ↦ inr (ap₂ (λ (k : Option ℕ) (x : Option (List ℕ)). vector_with 0 k x) o.2 o.0)
  ];
}

module _ {M : Type 0} (stands : M → Desk → List Word → Type 0) (m : VectorRules) (live : M → Bool) (shown : M → VectorShown) where
  pub root_input : (old new : VcRoot M) (value : List ℕ) (before after : List Say) (result : Result (Unit {0}) Mem)
      → VectorProposes stands m live shown old.inner new.inner value before after result → new.f ≡ old.f → new.given ≡ (if is_ok result then true else old.given)
      → Inputs (VectorRootStands stands) (vector_root m) (λ s. live s.inner) (λ s. vector_root_shown s.f (shown s.inner) s.given) old new value before after result
  root_input old new value before after (Ok u) t kept given = record {
    grows = λ seat w s may. record { inner = t.grows (vector_root_desk seat) w s.inner (may_ask m seat w value may); f = kept ∙ s.f; given = given ∙ sym (given_now w value) };
    made = λ seat w s may. t.made (vector_root_desk seat) w s.inner (may_ask m seat w value may);
  }
  root_input old new value before after (Err e) t kept given = record {
    out = t.out;
    dead = t.dead;
    shows = λ seat w s may.
        shows_near m seat w (Ask value) (shown new.inner) new.f new.given (kept ∙ s.f) (given ∙ s.given) (t.shows (vector_root_desk seat) w s.inner (may_ask m seat w value may));
  }

  pub root_heard : (bits : Slot → Bool) (old new : VcRoot M) (slot : Slot) (value : List ℕ) (before after : List Say) (result : Result (Unit {0}) Mem)
      → VectorHears stands m live shown bits old.inner new.inner slot value before after result → new.f ≡ old.f → new.given ≡ old.given
      → Heeds (VectorRootStands stands) (vector_root m) (λ s. live s.inner) (λ s. vector_root_shown s.f (shown s.inner) s.given) bits old new slot value before after result
  root_heard bits old new slot value before after (Ok u) t kept given = record {
    grows = λ seat w s may. record { inner = t.grows (vector_root_desk seat) w s.inner (may.0, may_hear m seat w slot value may.1); f = kept ∙ s.f; given = given ∙ s.given };
    made = λ seat w s may. t.made (vector_root_desk seat) w s.inner (may.0, may_hear m seat w slot value may.1);
  }
  root_heard bits old new slot value before after (Err e) t kept given = record {
    out = t.out;
    dead = t.dead;
    shows = λ seat w s may.
        shows_near m seat w (Hear slot value) (shown new.inner) new.f new.given (kept ∙ s.f) (given ∙ s.given) (t.shows (vector_root_desk seat) w s.inner (may.0, may_hear m seat w slot value may.1));
  }
