-- What is settled holds, and is said in the order of the rules.
use Rattle.std.specs.Prelude.{◌≡◌, ℕ, true, List, [], ◌∷◌, ◌++◌, Option, Some, None, is_some, Result, Ok, Err, IfOk, refl}
use Rattle.std.specs.Option.{option_or}
use Rattle.std.proofs.lemmas.List.{append-nil}
use Rattle.std.proofs.Common.{sym, ◌∙◌, ap, subst, append_assoc}
use Rattle.ritas_base.specs.declared.slot.Slot.{Slot}
use Rattle.ritas_base.specs.declared.item.Say.{Say}
use Rattle.layer_api.specs.Words.{Word, Ask}
use Rattle.layer_api.specs.Binary.{BinaryRules, Bench}
use Rattle.layer_api.specs.Part.{proposed, newly, newly_asked, passed, says_in}
use Rattle.layer_api.specs.Multi.{Desk}
use Rattle.multivalued.specs.Consensus.{init_slot, vect_slot, own_vect, bit_asked, bit_words, bench_of, is_step, multi_decision}
use Rattle.multivalued.specs.Entries.{KeepsValues}
use Rattle.multivalued.specs.Known.{IsKnown}
use Rattle.multivalued.specs.Parts.{own_class_slot}
use Rattle.multivalued.specs.Settling.{Unsettled, BoxSettles}
use Rattle.multivalued.specs.Holding.{BoxHolds, BoxHeard}
use Rattle.multivalued.specs.declared.mvc.Mvc.{Mvc}
use Rattle.multivalued.specs.declared.table.Table.{Table}
use Rattle.multivalued.specs.declared.settling.Progress.{Progress}
use Rattle.multivalued.proofs.Deciding.{decided_still, init_place}

-- where it is Ok, what follows from the one fact is so
pub if_ok : {T E : Type 0} (r : Result T E) (P Q : T → Type 0) → ((x : T) → P x → Q x) → IfOk r P → IfOk r Q
if_ok (Ok x) P Q f h = f x h
if_ok (Err e) P Q f h = h

pub nothing_new : (s : Slot) (o : Option (List ℕ)) → newly s o o ≡ []
nothing_new s None = refl
nothing_new s (Some v) = refl

says_same : (says : List Word → Word → List Say) (xs ps u : List Word) → ps ≡ [] → says_in says xs (ps ++ u) ≡ says_in says (xs ++ ps) u
says_same says xs ps u e = ap (λ (p : List Word). says_in says xs (p ++ u)) e ∙ ap (λ (ys : List Word). says_in says ys u) (sym (ap (λ (p : List Word). xs ++ p) e ∙ append-nil xs))

-- the value is proposed
abbrev pub proposing : Progress → Progress
proposing p = record { own = true; told = p.told; asked = p.asked; round = p.round; decided = p.decided }

module _ {B : Type 0} (stands : B → Bench → List Word → Type 0) (b : BinaryRules) (x : Mvc B) (at : Desk) (w : List Word) where
  abbrev vect_says : Word → List Say
  vect_says c = newly (vect_slot at.scope at.me) (own_vect at.scope w) (own_vect at.scope (c ∷ w))

  abbrev asked_newly : Word → List Word
  asked_newly c = newly_asked (bit_asked at.scope w) (bit_asked at.scope (c ∷ w))

  unsettled : (c : Word) (u : Table) → passed is_step c ≡ [] → proposed (c ∷ w) ≡ proposed w → KeepsValues x.table.entries.items u.entries.items
      → IsKnown at.scope (c ∷ w) u → BoxHolds stands b x x.place at w → Unsettled stands b at w c x.part x.place u x.inner
  unsettled c u quiet still keeps known h = record {
    part_is = h.part_is;
    known = known;
    owns = h.reached.owns ∙ sym (ap is_some still);
    told = h.reached.told;
    asked = h.reached.asked;
    decided = decided_still x.table.entries.items u.entries.items x.place.decided (multi_decision b at w) keeps h.reached.decided;
    heard = subst (λ (ps : List Word). stands x.inner (bench_of at) (ps ++ bit_words at.scope w)) (sym quiet) h.reached.stood;
  }

  -- what follows from a proposal or a VECT that the table heard
  pub follows : (c : Word) (u : Table) (inner : B) (next : Progress) (before after : List Say) → passed is_step c ≡ [] → proposed (c ∷ w) ≡ proposed w
      → KeepsValues x.table.entries.items u.entries.items → IsKnown at.scope (c ∷ w) u → BoxSettles stands b x.part x.place u x.inner inner before after next
      → BoxHolds stands b x x.place at w → BoxHeard stands b (record x { table = u; inner = inner }) next at w c before after
  follows c u inner next before after quiet still keeps known settles h =
      let s = settles at w c (unsettled c u quiet still keeps known h) in
      record {
        holds = record { part_is = h.part_is; known = known; reached = s.reached };
        made =
            s.made
            ∙ (ap (λ (ys : List Say). before ++ (vect_says c ++ ys)) (says_same (b.says (bench_of at)) (asked_newly c) (passed is_step c) (bit_words at.scope w) quiet)
            ∙ ap (λ (ys : List Say). before ++ (ys ++ (vect_says c ++ says_in (b.says (bench_of at)) (asked_newly c ++ passed is_step c) (bit_words at.scope w))))
            (sym (ap (λ (o : Option (List ℕ)). newly (init_slot at.scope at.me) (proposed w) o) still ∙ nothing_new (init_slot at.scope at.me) (proposed w))));
      }

  -- what follows from a proposal of its own
  pub starts : (inner : B) (next : Progress) (before mid after : List Say) (v : List ℕ) → mid ≡ before ++ record { slot = own_class_slot x.part 3; value = v } ∷ []
      → BoxSettles stands b x.part (proposing x.place) x.table x.inner inner mid after next → BoxHolds stands b x x.place at w → proposed w ≡ None
      → BoxHeard stands b (record x { inner = inner }) next at w (Ask v) before after
  starts inner next before mid after v said settles h none =
      let now : proposed (Ask v ∷ w) ≡ Some v = ap (λ (o : Option (List ℕ)). option_or o (Some v)) none in
      let s = settles at w (Ask v) (record {
        part_is = h.part_is;
        known = h.known;
        owns = sym (ap is_some now);
        told = h.reached.told;
        asked = h.reached.asked;
        decided = h.reached.decided;
        heard = h.reached.stood;
      }) in
      record {
        holds = record { part_is = h.part_is; known = h.known; reached = s.reached };
        made =
            s.made
            ∙ (ap (λ (ys : List Say). ys ++ rest) said
            ∙ (append_assoc before (record { slot = own_class_slot x.part 3; value = v } ∷ []) rest
            ∙ (ap (λ (q : Slot). before ++ ((record { slot = q; value = v } ∷ []) ++ rest)) (init_place x.part at h.part_is)
            ∙ (ap (λ (ys : List Say). before ++ (ys ++ rest)) (sym (first none))
            ∙ ap (λ (ys : List Say). before ++ (newly (init_slot at.scope at.me) (proposed w) (proposed (Ask v ∷ w)) ++ (vect_says (Ask v) ++ ys)))
            (says_same (b.says (bench_of at)) (asked_newly (Ask v)) [] (bit_words at.scope w) refl)))));
      }
    where
      rest : List Say
      rest = vect_says (Ask v) ++ says_in (b.says (bench_of at)) (asked_newly (Ask v)) (bit_words at.scope w)

      first : proposed w ≡ None → newly (init_slot at.scope at.me) (proposed w) (option_or (proposed w) (Some v)) ≡ record { slot = init_slot at.scope at.me; value = v } ∷ []
      first e = ap (λ (o : Option (List ℕ)). newly (init_slot at.scope at.me) o (option_or o (Some v))) e
