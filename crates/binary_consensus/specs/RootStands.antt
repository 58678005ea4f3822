-- What a value of the root service stands for, and what its getters answer.
use Rattle.std.specs.Prelude.{◌≡◌, ℕ, ◌≤◌, Bool, false, List, [], ◌∷◌, refl, ◌⊎◌, None}
use Rattle.std.proofs.Common.{sym, ◌∙◌, ap, ap₂, inl, inr}
use Rattle.ritas_base.specs.declared.slot.Slot.{Slot}
use Rattle.layer_api.specs.Service.{Seat}
use Rattle.layer_api.specs.Words.{Word, asked}
use Rattle.layer_api.specs.ServiceCalls.{ServiceShown, Shows, ShowsNear}
use Rattle.layer_api.specs.Binary.{BinaryRules, Bench}
use Rattle.layer_api.specs.BinaryCalls.{BoxShown, ShowsBox, ShowsBoxNear}
use Rattle.binary_consensus.specs.Root.{root_bench, step_opens, binary_ending, binary_root}
use Rattle.layer_api.specs.OneInstance.{is_given}
use Rattle.binary_consensus.specs.declared.bin_root.BinRoot.{BinRoot}

-- the box stands for the words
pub record BinaryRootStands {B : Type 0} (stands : B → Bench → List Word → Type 0) (s : BinRoot B) (seat : Seat) (w : List Word) : Type 0 where
  pub inner : stands s.inner (root_bench seat) w
  pub given : s.given ≡ is_given w
  pub once : asked w ≤ 1

abbrev pub binary_root_shown : BoxShown → Bool → ServiceShown
binary_root_shown shown given = record {
  opens = λ s. step_opens given shown.round s;
  completed = 0;
  base = λ origin. 0;
  next_number = 0;
  given = given;
  done = [];
  outcome = binary_ending shown.decision shown.over;
  last = None;
}

pub root_shows : (b : BinaryRules) (seat : Seat) (w : List Word) (shown : BoxShown) (given : Bool) → given ≡ is_given w
    → ShowsBox b (root_bench seat) w shown → Shows (binary_root b) seat w (binary_root_shown shown given)
root_shows b seat w shown given e s = record {
  opens = λ q. ap₂ (λ (g : Bool) (r : ℕ). step_opens g r q) e s.round;
  completed = refl;
  base = λ o l. refl;
  next_number = refl;
  given = e;
  done = refl;
  outcome = ap₂ binary_ending s.decision s.over;
  last = refl;
}

-- after want of memory: the box answers as before or with the word, and no input was taken
pub root_shows_near : (b : BinaryRules) (seat : Seat) (w : List Word) (c : Word) (shown : BoxShown) (given : Bool) → given ≡ is_given w
    → (is_given w ≡ false) ⊎ (is_given (c ∷ w) ≡ is_given w)
    → ShowsBoxNear b (root_bench seat) w c shown → ShowsNear (binary_root b) seat w c (binary_root_shown shown given)
root_shows_near b seat w c shown given e same s = record {
  opens = λ q. opens q same;
  completed = inl refl;
  base = λ o l. inl refl;
  next_number = inl refl;
  given = inl e;
  done_before = ([], refl);
  done_after = ([], refl);
  outcome = elim s.ending [ inl h ↦ inl (ap₂ binary_ending h.0 h.1) | inr h ↦ inr (ap₂ binary_ending h.0 h.1) ];
  last = inl refl;
}
  where
    opens : (q : Slot) → (is_given w ≡ false) ⊎ (is_given (c ∷ w) ≡ is_given w)
        → (step_opens given shown.round q ≡ (binary_root b).opens seat w q) ⊎ (step_opens given shown.round q ≡ (binary_root b).opens seat (c ∷ w) q)
    opens q (inl none) =
        inl (ap (λ (g : Bool). step_opens g shown.round q) (e ∙ none) ∙ sym (ap (λ (g : Bool). step_opens g (b.round (root_bench seat) w) q) none))
    opens q (inr g) =
        elim s.round [
          | inl r ↦ inl (ap₂ (λ (g : Bool) (n : ℕ). step_opens g n q) e r)
          | inr r ↦ inr (ap₂ (λ (g : Bool) (n : ℕ). step_opens g n q) (e ∙ sym g) r)
        ]
