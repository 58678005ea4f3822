-- What a value of the root service stands for, and what its calls do.
use Rattle.std.specs.Prelude.{◌≡◌, ℕ, Bool, true, ◌&&◌, List, [], Result, Ok, Err, is_ok, if◌then◌else◌, refl, None}
use Rattle.std.proofs.Common.{sym, ◌∙◌, ap, inl, inr}
use Rattle.ritas_base.specs.declared.bytes.Mem.{Mem}
use Rattle.ritas_base.specs.declared.slot.Slot.{Slot}
use Rattle.ritas_base.specs.declared.item.Say.{Say}
use Rattle.layer_api.specs.Service.{Seat}
use Rattle.layer_api.specs.Words.{Word, Ask, Hear}
use Rattle.layer_api.specs.ServiceCalls.{ServiceShown, Shows, ShowsNear, Inputs, Heeds}
use Rattle.layer_api.specs.OneInstance.{is_given, given_now}
use Rattle.layer_api.specs.Multi.{Desk, MultiRules, is_slot_of}
use Rattle.layer_api.specs.MultiCalls.{MultiShown, ShowsMulti, ShowsMultiNear, MultiProposes, MultiHears}
use Rattle.multivalued.specs.Root.{multi_root_desk, multi_ending, multi_root}
use Rattle.multivalued.specs.Laws.RootLog.{may_ask, may_hear}
use Rattle.multivalued.specs.declared.mvc_root.MvcRoot.{MvcRoot}

-- the box stands for the service's words
pub record MultiRootStands {M : Type 0} (stands : M → Desk → List Word → Type 0) (s : MvcRoot M) (seat : Seat) (w : List Word) : Type 0 where
  pub inner : stands s.inner (multi_root_desk seat) w
  pub given : s.given ≡ is_given w

abbrev pub multi_root_shown : MultiShown → Bool → ServiceShown
multi_root_shown shown given = record {
  opens = λ s. is_slot_of 0 0 s && shown.opens s;
  completed = 0;
  base = λ origin. 0;
  next_number = 0;
  given = given;
  done = [];
  outcome = multi_ending shown.decision;
  last = None;
}

pub root_shows : (m : MultiRules) (seat : Seat) (w : List Word) (shown : MultiShown) (given : Bool) → given ≡ is_given w
    → ShowsMulti m (multi_root_desk seat) w shown → Shows (multi_root m) seat w (multi_root_shown shown given)
root_shows m seat w shown given e s = record {
  opens = λ q. ap (λ (b : Bool). is_slot_of 0 0 q && b) (s.opens q);
  completed = refl;
  base = λ o l. refl;
  next_number = refl;
  given = e;
  done = refl;
  outcome = ap multi_ending s.decision;
  last = refl;
}

shows_near : (m : MultiRules) (seat : Seat) (w : List Word) (c : Word) (shown : MultiShown) (given : Bool) → given ≡ is_given w
    → ShowsMultiNear m (multi_root_desk seat) w c shown → ShowsNear (multi_root m) seat w c (multi_root_shown shown given)
shows_near m seat w c shown given e s = record {
  opens = λ q. elim (s.opens q) [ inl o ↦ inl (ap (λ (b : Bool). is_slot_of 0 0 q && b) o) | inr o ↦ inr (ap (λ (b : Bool). is_slot_of 0 0 q && b) o) ];
  completed = inl refl;
  base = λ o l. inl refl;
  next_number = inl refl;
  given = inl e;
  done_before = ([], refl);
  done_after = ([], refl);
  outcome = elim s.decision [ inl o ↦ inl (ap multi_ending o) | inr o ↦ inr (ap multi_ending o) ];
  last = inl refl;
}

module _ {M : Type 0} (stands : M → Desk → List Word → Type 0) (m : MultiRules) (live : M → Bool) (shown : M → MultiShown) where
  pub root_input : (old new : MvcRoot M) (value : List ℕ) (before after : List Say) (result : Result (Unit {0}) Mem)
      → MultiProposes stands m live shown old.inner new.inner value before after result → new.given ≡ (if is_ok result then true else old.given)
      → Inputs (MultiRootStands stands) (multi_root m) (λ s. live s.inner) (λ s. multi_root_shown (shown s.inner) s.given) old new value before after result
  root_input old new value before after (Ok u) t given = record {
    grows = λ seat w s may. record { inner = t.grows (multi_root_desk seat) w s.inner (may_ask m seat w value may); given = given ∙ sym (given_now w value) };
    made = λ seat w s may. t.made (multi_root_desk seat) w s.inner (may_ask m seat w value may);
  }
  root_input old new value before after (Err e) t given = record {
    out = t.out;
    dead = t.dead;
    shows = λ seat w s may.
        shows_near m seat w (Ask value) (shown new.inner) new.given (given ∙ s.given) (t.shows (multi_root_desk seat) w s.inner (may_ask m seat w value may));
  }

  pub root_heard : (bits : Slot → Bool) (old new : MvcRoot M) (slot : Slot) (value : List ℕ) (before after : List Say) (result : Result (Unit {0}) Mem)
      → MultiHears stands m live shown bits old.inner new.inner slot value before after result → new.given ≡ old.given
      → Heeds (MultiRootStands stands) (multi_root m) (λ s. live s.inner) (λ s. multi_root_shown (shown s.inner) s.given) bits old new slot value before after result
  root_heard bits old new slot value before after (Ok u) t given = record {
    grows = λ seat w s may. record { inner = t.grows (multi_root_desk seat) w s.inner (may.0, may_hear m seat w slot value may.1); given = given ∙ s.given };
    made = λ seat w s may. t.made (multi_root_desk seat) w s.inner (may.0, may_hear m seat w slot value may.1);
  }
  root_heard bits old new slot value before after (Err e) t given = record {
    out = t.out;
    dead = t.dead;
    shows = λ seat w s may.
        shows_near m seat w (Hear slot value) (shown new.inner) new.given (given ∙ s.given) (t.shows (multi_root_desk seat) w s.inner (may.0, may_hear m seat w slot value may.1));
  }
