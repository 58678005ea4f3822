-- What is said is what the rules say is newly said.
use Rattle.std.specs.Prelude.{◌≡◌, ℕ, ◌≤◌, Bool, true, false, not, ◌&&◌, ◌||◌, nat_le, List, [], ◌∷◌, ◌++◌, Option, Some, None, is_some, option_map, if◌then◌else◌, refl}
use Rattle.std.specs.List.{list_any}
use Rattle.std.specs.Option.{option_or}
use Rattle.std.proofs.lemmas.List.{append-nil}
use Rattle.std.proofs.Common.{sym, ◌∙◌, ap, ap₂, subst, append_assoc}
use Rattle.ritas_base.specs.declared.slot.Slot.{Slot}
use Rattle.ritas_base.specs.declared.item.Say.{Say}
use Rattle.ritas_base.specs.Numbers.{wait_of, support_of}
use Rattle.layer_api.specs.Words.{Word, Ask, bit_byte}
use Rattle.layer_api.specs.Binary.{BinaryRules, Bench, MayPropose}
use Rattle.layer_api.specs.Part.{proposed, newly, newly_asked, passed, says_in}
use Rattle.layer_api.specs.Multi.{Scope, Desk}
use Rattle.multivalued.specs.Consensus.{init, vect_slot, count_passing, common, vect_told, own_vect, valid, candidates, is_clear, proposed_bit, bit_asked, bit_words, bench_of, is_step}
use Rattle.multivalued.specs.Tables.{table_told_by}
use Rattle.multivalued.specs.Known.{IsKnown, vect_of}
use Rattle.multivalued.specs.Telling.{TellsVect, AsksBit}
use Rattle.multivalued.specs.declared.table.Table.{Table}
use Rattle.multivalued.proofs.KnownLaws.{told_is}

-- ---- what is there that was not there before

due_newly : (s : Slot) (o : Option (List ℕ)) (cond : Bool) (x : List ℕ) → (if cond && not (is_some o) then record { slot = s; value = x } ∷ [] else []) ≡ newly s o (option_or o (if cond then Some x else None))
due_newly s (Some v) true x = refl
due_newly s (Some v) false x = refl
due_newly s None true x = refl
due_newly s None false x = refl

due_some : {X : Type 0} (o : Option X) (cond : Bool) (x : X) → (is_some o || (cond && not (is_some o))) ≡ is_some (option_or o (if cond then Some x else None))
due_some (Some v) true x = refl
due_some (Some v) false x = refl
due_some None true x = refl
due_some None false x = refl

due_asked : (o : Option Bool) (cond : Bool) (x : Bool) → (if cond && not (is_some o) then Ask (bit_byte x ∷ []) ∷ [] else [])
    ≡ newly_asked (option_map (λ b. bit_byte b ∷ []) o) (option_map (λ b. bit_byte b ∷ []) (option_or o (if cond then Some x else None)))
due_asked (Some v) true x = refl
due_asked (Some v) false x = refl
due_asked None true x = refl
due_asked None false x = refl

-- ---- the VECT

module _ (at : Scope) (w : List Word) (c : Word) (t : Table) (known : IsKnown at (c ∷ w) t) (small : at.numbers.n ≤ 31) (some : 1 ≤ support_of at.numbers)
    (own said : Bool) (wait count : ℕ) (own_is : own ≡ is_some (proposed (c ∷ w))) (said_is : said ≡ is_some (own_vect at w)) (wait_is : wait ≡ wait_of at.numbers)
    (count_is : count ≡ count_passing at (λ k. is_some (init at (c ∷ w) k))) where
  abbrev condition : Bool
  condition = is_some (proposed (c ∷ w)) && nat_le (wait_of at.numbers) (count_passing at (λ k. is_some (init at (c ∷ w) k)))

  due_is : ((own && nat_le wait count) && not said) ≡ (condition && not (is_some (own_vect at w)))
  due_is = rw (own_is, said_is, wait_is, count_is) refl

  pub told_newly : (me : ℕ) (before after : List Say) → TellsVect ((own && nat_le wait count) && not said) (vect_slot at me) t before after
      → after ≡ before ++ newly (vect_slot at me) (own_vect at w) (own_vect at (c ∷ w))
  told_newly me before after tells =
      tells at.numbers.n (support_of at.numbers) (init at (c ∷ w)) (vect_of at (c ∷ w)) small some known
      ∙ (ap (λ (d : Bool). before ++ (if d then record { slot = vect_slot at me; value = table_told_by at.numbers.n (init at (c ∷ w)) (common at (c ∷ w)) } ∷ [] else [])) due_is
      ∙ (ap (λ (v : List ℕ). before ++ (if condition && not (is_some (own_vect at w)) then record { slot = vect_slot at me; value = v } ∷ [] else [])) (told_is at (c ∷ w) (common at (c ∷ w)))
      ∙ ap (λ (ys : List Say). before ++ ys) (due_newly (vect_slot at me) (own_vect at w) condition (vect_told at (c ∷ w) (common at (c ∷ w))))))

  pub told_now : (said || ((own && nat_le wait count) && not said)) ≡ is_some (own_vect at (c ∷ w))
  told_now = ap₂ (λ (a b : Bool). a || b) said_is due_is ∙ due_some (own_vect at w) condition (vect_told at (c ∷ w) (common at (c ∷ w)))

-- ---- the bit

module _ (at : Desk) (w : List Word) (c : Word) (ready asked : Bool) (wait count : ℕ) (ready_is : ready ≡ is_some (own_vect at.scope (c ∷ w))) (asked_is : asked ≡ is_some (proposed_bit at.scope w))
    (wait_is : wait ≡ wait_of at.scope.numbers) (count_is : count ≡ count_passing at.scope (λ k. is_some (valid at.scope (c ∷ w) k))) where
  abbrev enough : Bool
  enough = is_some (own_vect at.scope (c ∷ w)) && nat_le (wait_of at.scope.numbers) (count_passing at.scope (λ k. is_some (valid at.scope (c ∷ w) k)))

  abbrev clear : Bool
  clear = list_any (is_clear at.scope (c ∷ w)) (candidates at.scope (c ∷ w))

  bit_due : ((ready && nat_le wait count) && not asked) ≡ (enough && not (is_some (proposed_bit at.scope w)))
  bit_due = rw (ready_is, asked_is, wait_is, count_is) refl

  pub asked_now : (asked || ((ready && nat_le wait count) && not asked)) ≡ is_some (proposed_bit at.scope (c ∷ w))
  asked_now = ap₂ (λ (a b : Bool). a || b) asked_is bit_due ∙ due_some (proposed_bit at.scope w) enough clear

  pub asked_newly : (if (ready && nat_le wait count) && not asked then Ask (bit_byte clear ∷ []) ∷ [] else []) ≡ newly_asked (bit_asked at.scope w) (bit_asked at.scope (c ∷ w))
  asked_newly = ap (λ (d : Bool). if d then Ask (bit_byte clear ∷ []) ∷ [] else []) bit_due ∙ due_asked (proposed_bit at.scope w) enough clear

  -- the binary instance after its proposal, where it is due
  pub record BitAsked {B : Type 0} (stands : B → Bench → List Word → Type 0) (b : BinaryRules) (new : B) (before after : List Say) : Type 0 where
    pub inner : stands new (bench_of at) (bit_words at.scope (c ∷ w))
    pub made : after ≡ before ++ says_in (b.says (bench_of at)) (newly_asked (bit_asked at.scope w) (bit_asked at.scope (c ∷ w))) (passed is_step c ++ bit_words at.scope w)

  pub bit_is_asked : {B : Type 0} (stands : B → Bench → List Word → Type 0) (b : BinaryRules) (old new : B) (before after : List Say)
      → stands old (bench_of at) (passed is_step c ++ bit_words at.scope w)
      → (is_some (proposed_bit at.scope w) ≡ false → MayPropose (passed is_step c ++ bit_words at.scope w))
      → AsksBit stands b ((ready && nat_le wait count) && not asked) clear old new before after → BitAsked stands b new before after
  bit_is_asked {B = B} stands b old new before after stood may asks = go ((ready && nat_le wait count) && not asked) refl
    where
      words : (xs : List Word) → xs ≡ newly_asked (bit_asked at.scope w) (bit_asked at.scope (c ∷ w)) → xs ++ (passed is_step c ++ bit_words at.scope w) ≡ bit_words at.scope (c ∷ w)
      words xs e = sym (append_assoc xs (passed is_step c) (bit_words at.scope w)) ∙ ap (λ (ys : List Word). (ys ++ passed is_step c) ++ bit_words at.scope w) e

      unasked : (x y : Bool) → (x && not y) ≡ true → y ≡ false
      unasked true true e = absurd cc
      unasked true false e = refl
      unasked false y e = absurd cc

      go : (d : Bool) → ((ready && nat_le wait count) && not asked) ≡ d → BitAsked stands b new before after
      go false e =
          let none = ap (λ (d : Bool). if d then Ask (bit_byte clear ∷ []) ∷ [] else []) (sym e) ∙ asked_newly in
          let q = asks.quiet e in
          record {
            inner = subst (λ (u : List Word). stands new (bench_of at) u) (words [] none) (subst (λ (x : B). stands x (bench_of at) (passed is_step c ++ bit_words at.scope w)) (sym q.0) stood);
            made = q.1 ∙ (sym (append-nil before) ∙ ap (λ (xs : List Word). before ++ says_in (b.says (bench_of at)) xs (passed is_step c ++ bit_words at.scope w)) none);
          }
      go true e =
          let one = ap (λ (d : Bool). if d then Ask (bit_byte clear ∷ []) ∷ [] else []) (sym e) ∙ asked_newly in
          let m = may (sym asked_is ∙ unasked _ _ e) in
          record {
            inner = subst (λ (u : List Word). stands new (bench_of at) u) (words (Ask (bit_byte clear ∷ []) ∷ []) one) (asks.grows e (bench_of at) (passed is_step c ++ bit_words at.scope w) stood m);
            made = asks.made e (bench_of at) (passed is_step c ++ bit_words at.scope w) stood m
                ∙ ap (λ (xs : List Word). before ++ says_in (b.says (bench_of at)) xs (passed is_step c ++ bit_words at.scope w)) one;
          }
