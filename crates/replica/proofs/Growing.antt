-- The identifier log after an entry: what it appends has commands that the core shows, and the rows of before are a part of its rows.
use Rattle.std.proofs.Common.{◌≡◌, ℕ, ◌+◌, ◌*◌, ◌≤◌, Bool, true, false, ◌==◌, ◌&&◌, List, [], ◌∷◌, ◌++◌, length, Option, Some, None, inl, inr, refl, sym, ◌∙◌, ap, subst, arith, length-append}
use Rattle.std.specs.List.{AllByRecursion}
use Rattle.std.specs.Option.{is_some}
use Rattle.std.proofs.Math.Dec.{leb}
use Rattle.std.proofs.lemmas.Bool.{or_cases, eqb-true}
use Rattle.ritas_base.specs.declared.id.Id.{Id}
use Rattle.ritas_base.specs.declared.slot.Slot.{Slot}
use Rattle.ritas_base.specs.Limits.{number_limit, least_request}
use Rattle.ritas_base.specs.Slots.{command_slot, is_atomic}
use Rattle.ritas_base.specs.Numbers.{Numbers}
use Rattle.frame_codec.specs.Format.{Is}
use Rattle.frame_codec.specs.Grammar.{value, class1}
use Rattle.layer_api.specs.Words.{Word, Ask, Hear, is_heard, value_at}
use Rattle.layer_api.specs.PurposeLaws.{order_of}
use Rattle.layer_api.specs.Service.{orders_commands, AreProper, AreHeard, AreRecent, MayHear, MayWord, IsPart, is_past}
use Rattle.layer_api.specs.FedLaws.{heard_met}
use Rattle.layer_api.specs.PartLaws.{heard_is}
use Rattle.command_log.specs.Rows.{Start, IsIn, entries_of_log}
use Rattle.command_log.specs.Laws.{chain_part, same_entries}
use Rattle.command_log.specs.Fits.{command_long}
use Rattle.ritas_core.specs.Rules.{Rules, seat_of}
use Rattle.ritas_core.specs.Parts.{Entry, Took, Given, Parts, parts, heard_at, taken_at, item_delivers}
use Rattle.ritas_core.specs.Machine.{with_entry}
use Rattle.ritas_core.specs.Laws.{LayerLaws}
use Rattle.ritas_core.specs.HeardLaws.{heard_delivered, delivered_stays}
use Rattle.replica.specs.CommandRows.{command_of, ids_at, entries_at, history_rows, HasCommand}

abbrev pub WordsAt : Rules → List Entry → List Word
WordsAt r h = (parts r h).words

abbrev pub IsProper : Rules → List Entry → Type 0
IsProper r h = AreProper r.service (seat_of r) (WordsAt r h)

-- ---- a command that was heard
some_is : (o : Option (List ℕ)) → is_some o ≡ true → (v : List ℕ) × (o ≡ Some v)
some_is None is = absurd (cc)
some_is (Some v) is = (v, refl)

-- a command's value in a root service that orders commands
command_value : (p : Numbers) (root origin num : ℕ) (v : List ℕ) → is_atomic root ≡ true → Is (value p root (command_slot origin num)) v → least_request ≤ length v
unfolding value class1
command_value p root origin num v atomic is =
    elim (or_cases (root == 6) (root == 7) atomic) [
      | inl six ↦ command_long v (subst (λ (n : ℕ). Is (class1 n) v) (eqb-true root 6 six) is)
      | inr seven ↦ command_long v (subst (λ (n : ℕ). Is (class1 n) v) (eqb-true root 7 seven) is)
    ]

module _ (r : Rules) (laws : LayerLaws r) (h : List Entry) (proper : IsProper r h) where
  delivered_is : (x : Id) → is_heard (WordsAt r h) (command_slot x.origin x.num) ≡ true → (v : List ℕ) × (value_at (WordsAt r h) (command_slot x.origin x.num) ≡ Some v)
  delivered_is x heard =
      some_is (value_at (WordsAt r h) (command_slot x.origin x.num)) (sym (heard_is (WordsAt r h) (command_slot x.origin x.num)) ∙ heard)

  has_command : (x : Id) → is_atomic r.mode.root ≡ true → is_heard (WordsAt r h) (command_slot x.origin x.num) ≡ true
      → is_past r.service (seat_of r) (WordsAt r h) (command_slot x.origin x.num) ≡ false → HasCommand r h x
  has_command x atomic heard near =
      let s = command_slot x.origin x.num in
      let v = delivered_is x heard in
      let met : MayHear r.service (seat_of r) _ s v.0 = (heard_met (MayWord r.service (seat_of r)) (WordsAt r h) s v.0 proper v.1).1 in
      record {
        command = v.0;
        there = sym (heard_delivered r laws h s) ∙ v.1;
        long = command_value r.casts.numbers r.mode.root x.origin x.num v.0 atomic met.good;
        shown = ap (λ (b : Bool). leb 3 r.mode.root && b) near ∙ none (leb 3 r.mode.root);
      }
    where
      none : (b : Bool) → (b && false) ≡ false
      none true = refl
      none false = refl

  have_commands : (xs : List Id) → is_atomic r.mode.root ≡ true → AreHeard (WordsAt r h) xs → AreRecent r.service (seat_of r) (WordsAt r h) xs
      → AllByRecursion (HasCommand r h) xs
  have_commands [] atomic heard near = tt
  have_commands (x ∷ xs) atomic heard near = (has_command x atomic heard.0 near.0, have_commands xs atomic heard.1 near.1)

heard_front : (w : List Word) (more xs : List Id) → AreHeard w (more ++ xs) → AreHeard w more
heard_front w [] xs all = tt
heard_front w (x ∷ more) xs all = (all.0, heard_front w more xs all.1)

heard_in : (w : List Word) (x : Id) (xs : List Id) → AreHeard w xs → IsIn x xs → is_heard w (command_slot x.origin x.num) ≡ true
heard_in w x [] all here = absurd here
heard_in w x (y ∷ ys) all (inl e) = subst (λ (z : Id). is_heard w (command_slot z.origin z.num) ≡ true) e all.0
heard_in w x (y ∷ ys) all (inr there) = heard_in w x ys all.1 there

-- ---- what an entry appends
record Adds (r : Rules) (before after : List Word) : Type 0 where
  more : List Id
  whole : more ++ r.service.done (seat_of r) before ≡ r.service.done (seat_of r) after
  recent : AreRecent r.service (seat_of r) after more

adds_none : (r : Rules) (w : List Word) → Adds r w w
adds_none r w = record { more = []; whole = refl; recent = tt }

adds_word : (r : Rules) → LayerLaws r → (c : Word) (w : List Word) → AreProper r.service (seat_of r) (c ∷ w) → Adds r w (c ∷ w)
adds_word r laws c w proper =
    let a = laws.words.done_grows (seat_of r) c w proper in
    record { more = a.more; whole = a.whole; recent = a.recent }

adds_heard : (r : Rules) → LayerLaws r → (s : Slot) (d : Option (List ℕ)) (p : Parts) → AreProper r.service (seat_of r) (heard_at r s d p).words
    → Adds r p.words (heard_at r s d p).words
adds_heard r laws s None p proper = adds_none r p.words
adds_heard r laws s (Some v) p proper = adds_word r laws (Hear s v) p.words proper

adds_entry : (r : Rules) → LayerLaws r → (e : Entry) (h : List Entry) → IsProper r (e ∷ h) → Adds r (WordsAt r h) (WordsAt r (e ∷ h))
adds_entry r laws (Took item) h proper = adds_heard r laws item.slot (item_delivers r item (parts r h)) (taken_at item (parts r h)) proper
adds_entry r laws (Given v) h proper = adds_word r laws (Ask v) (WordsAt r h) proper

-- the identifiers that an entry appends, newest first, with their commands
pub record Grows (r : Rules) (e : Entry) (h : List Entry) : Type 0 where
  pub more : List Id
  pub whole : more ++ ids_at r h ≡ ids_at r (e ∷ h)
  pub have : AllByRecursion (HasCommand r (e ∷ h)) more
  pub same : entries_at r h ≡ entries_of_log (command_of r (e ∷ h)) (ids_at r h)
  pub room : length (ids_at r h) + length more ≤ 31 * number_limit

no_front : (more xs : List Id) → more ++ xs ≡ [] → more ≡ []
no_front [] xs e = refl
no_front (x ∷ more) xs e = absurd (cc)

module _ (r : Rules) (laws : LayerLaws r) (e : Entry) (h : List Entry) (proper : IsProper r h) (now : IsProper r (e ∷ h)) where
  -- what was delivered of the identifiers stays
  pub same_command : (x : Id) → IsIn x (ids_at r h) → command_of r h x ≡ command_of r (e ∷ h) x
  same_command x here =
      let s = command_slot x.origin x.num in
      let heard = heard_in (WordsAt r h) x (ids_at r h) (laws.words.done_heard (seat_of r) (WordsAt r h) proper) here in
      let v = delivered_is r laws h proper x heard in
      let was : command_of r h x ≡ Some v.0 = sym (heard_delivered r laws h s) ∙ v.1 in
      was ∙ sym (delivered_stays r laws e h s v.0 was)

  pub grows : Grows r e h
  grows =
      let a = adds_entry r laws e h now in
      let seat = seat_of r in
      let w = WordsAt r (e ∷ h) in
      let means = laws.words.meanings seat w laws.session laws.serves now in
      let few = means.done_few in
      record {
        more = a.more;
        whole = a.whole;
        have = by_purpose a.more (orders_commands r.service.purpose) refl
            (λ other. no_front a.more (ids_at r h) (a.whole ∙ means.done other))
            (λ orders. have_commands r laws (e ∷ h) now a.more (order_of r.mode.root r.service.purpose (laws.words.purpose r.mode.root laws.serves) ∙ orders)
            (heard_front w a.more (ids_at r h) (subst (λ (xs : List Id). AreHeard w xs) (sym a.whole) (laws.words.done_heard seat w now))) a.recent);
        same = same_entries (command_of r h) (command_of r (e ∷ h)) (ids_at r h) same_command;
        room = omega (arith, few, ap length (sym a.whole), length-append a.more (ids_at r h));
      }
    where
      by_purpose : (more : List Id) (b : Bool) → orders_commands r.service.purpose ≡ b → (orders_commands r.service.purpose ≡ false → more ≡ [])
          → (orders_commands r.service.purpose ≡ true → AllByRecursion (HasCommand r (e ∷ h)) more) → AllByRecursion (HasCommand r (e ∷ h)) more
      by_purpose more true orders none have = have orders
      by_purpose more false other none have = subst (λ (xs : List Id). AllByRecursion (HasCommand r (e ∷ h)) xs) (sym (none other)) tt

  -- so the rows of a history are a part of those with an entry more
  pub rows_grow : (s : Start) → IsPart (history_rows s r h) (history_rows s r (e ∷ h))
  rows_grow s =
      let a = adds_entry r laws e h now in
      chain_part s r.casts.numbers.f (command_of r h) (command_of r (e ∷ h)) (ids_at r h) (ids_at r (e ∷ h)) (a.more, a.whole) same_command

pub part_itself : {X : Type 0} (xs : List X) → IsPart xs xs
part_itself xs = ([], refl)

-- and of those with what a stop lost
pub rows_lost : (s : Start) (r : Rules) → LayerLaws r → (o : Option Entry) (h : List Entry) → IsProper r h → IsProper r (with_entry o h)
    → IsPart (history_rows s r h) (history_rows s r (with_entry o h))
rows_lost s r laws None h proper now = part_itself (history_rows s r h)
rows_lost s r laws (Some e) h proper now = rows_grow r laws e h proper now s
