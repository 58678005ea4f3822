-- What a call on the root service does, by what its call on the box does.
use Rattle.std.proofs.Common.{◌≡◌, ℕ, Bool, true, List, [], ◌∷◌, ◌++◌, Result, Ok, Err, inl, inr, refl, sym, ◌∙◌, ap, subst, arith, if◌then◌else◌}
use Rattle.std.specs.Str.{bytes_eq}
use Rattle.std.specs.Prelude.{is_ok}
use Rattle.ritas_base.specs.declared.bytes.Mem.{Mem}
use Rattle.ritas_base.specs.declared.slot.Slot.{Slot}
use Rattle.ritas_base.specs.declared.item.Say.{Say}
use Rattle.layer_api.specs.Service.{Seat, MayAsk, MayHear}
use Rattle.layer_api.specs.Words.{Word, Ask, Hear, bit_byte}
use Rattle.layer_api.specs.ServiceCalls.{Inputs, Heeds}
use Rattle.layer_api.specs.Binary.{BinaryRules, Bench}
use Rattle.layer_api.specs.BinaryCalls.{BoxShown, ShowsBoxNear, Proposes, HearsVote}
use Rattle.binary_consensus.specs.Root.{root_bench, binary_root}
use Rattle.layer_api.specs.OneInstance.{given_now}
use Rattle.binary_consensus.specs.Laws.RootWords.{asks_bit, hears_vote, may_propose, may_vote}
use Rattle.binary_consensus.specs.RootStands.{BinaryRootStands, binary_root_shown, root_shows_near}
use Rattle.binary_consensus.specs.declared.bin_root.BinRoot.{BinRoot}

module _ {B : Type 0} (stands : B → Bench → List Word → Type 0) (b : BinaryRules) (live : B → Bool) (shown : B → BoxShown) where
  -- the word of an input is the box's word of its bit
  same_ask : (seat : Seat) (w : List Word) (value : List ℕ) (bit : Bool) → bit ≡ bytes_eq value (1 ∷ []) → MayAsk (binary_root b) seat w value
      → Ask (bit_byte bit ∷ []) ≡ Ask value
  same_ask seat w value bit e may = ap Ask (ap (λ (x : Bool). bit_byte x ∷ []) e ∙ sym (asks_bit b seat w value may))

  pub root_input : (old new : BinRoot B) (value : List ℕ) (bit : Bool) (before after : List Say) (result : Result (Unit {0}) Mem) → bit ≡ bytes_eq value (1 ∷ [])
      → Proposes stands b live shown old.inner new.inner bit before after result → new.given ≡ (if is_ok result then true else old.given)
      → Inputs (BinaryRootStands stands) (binary_root b) (λ s. live s.inner) (λ s. binary_root_shown (shown s.inner) s.given) old new value before after result
  root_input old new value bit before after (Ok u) e t given = record {
    grows = λ seat w s may. record {
      inner = subst (λ (c : Word). stands new.inner (root_bench seat) (c ∷ w)) (same_ask seat w value bit e may)
          (t.grows (root_bench seat) w s.inner (may_propose b seat w value may));
      given = given ∙ sym (given_now w value);
      once = let none = may_propose b seat w value may in omega (arith, none);
    };
    made = λ seat w s may.
        subst (λ (c : Word). after ≡ before ++ b.says (root_bench seat) w c) (same_ask seat w value bit e may)
        (t.made (root_bench seat) w s.inner (may_propose b seat w value may));
  }
  root_input old new value bit before after (Err m) e t given = record {
    out = t.out;
    dead = t.dead;
    shows = λ seat w s may.
        root_shows_near b seat w (Ask value) (shown new.inner) new.given (given ∙ s.given) (inl may.first)
        (subst (λ (c : Word). ShowsBoxNear b (root_bench seat) w c (shown new.inner)) (same_ask seat w value bit e may)
        (t.shows (root_bench seat) w s.inner (may_propose b seat w value may)));
  }

  -- what is heard is the vote of its one byte
  whole : (seat : Seat) (w : List Word) (slot : Slot) (value : List ℕ) (vote : ℕ) → ((x : ℕ) → value ≡ x ∷ [] → vote ≡ x)
      → MayHear (binary_root b) seat w slot value → value ≡ vote ∷ []
  whole seat w slot value vote is may =
      let x = hears_vote b seat w slot value may in
      x.whole ∙ ap (λ (y : ℕ). y ∷ []) (sym (is x.vote x.whole))

  pub root_heard : (bits : Slot → Bool) (old new : BinRoot B) (slot : Slot) (value : List ℕ) (vote : ℕ) (before after : List Say) (result : Result (Unit {0}) Mem)
      → ((x : ℕ) → value ≡ x ∷ [] → vote ≡ x) → HearsVote stands b live shown bits old.inner new.inner slot vote before after result → new.given ≡ old.given
      → Heeds (BinaryRootStands stands) (binary_root b) (λ s. live s.inner) (λ s. binary_root_shown (shown s.inner) s.given) bits old new slot value before after result
  root_heard bits old new slot value vote before after (Ok u) is t given = record {
    grows = λ seat w s may.
        let e = whole seat w slot value vote is may.1 in
        record {
          inner = subst (λ (v : List ℕ). stands new.inner (root_bench seat) (Hear slot v ∷ w)) (sym e)
              (t.grows (root_bench seat) w s.inner (may.0, may_vote b seat w slot value vote s.once may.1 e));
          given = given ∙ s.given;
          once = s.once;
        };
    made = λ seat w s may.
        let e = whole seat w slot value vote is may.1 in
        subst (λ (v : List ℕ). after ≡ before ++ b.says (root_bench seat) w (Hear slot v)) (sym e)
        (t.made (root_bench seat) w s.inner (may.0, may_vote b seat w slot value vote s.once may.1 e));
  }
  root_heard bits old new slot value vote before after (Err m) is t given = record {
    out = t.out;
    dead = t.dead;
    shows = λ seat w s may.
        let e = whole seat w slot value vote is may.1 in
        root_shows_near b seat w (Hear slot value) (shown new.inner) new.given (given ∙ s.given) (inr refl)
        (subst (λ (v : List ℕ). ShowsBoxNear b (root_bench seat) w (Hear slot v) (shown new.inner)) (sym e)
        (t.shows (root_bench seat) w s.inner (may.0, may_vote b seat w slot value vote s.once may.1 e)));
  }
