-- What openness goes by: the class, number, attempt and round of a slot alone, and the kind of an item.
use Rattle.std.specs.Prelude.{◌≡◌, ℕ, ◌≤◌, nat_le, Bool, true, ◌==◌, List, if◌then◌else◌}
use Rattle.std.proofs.Common.{◌∙◌, ap, ap₂}
use Rattle.std.proofs.lemmas.Bool.{and_parts, and_from}
use Rattle.ritas_base.specs.declared.slot.Slot.{Slot}
use Rattle.ritas_base.specs.declared.item.Item.{Item}
use Rattle.ritas_base.specs.Messages.{Place}
use Rattle.ritas_base.specs.History.{Call}
use Rattle.ritas_base.specs.Tags.{Tags}
use Rattle.ritas_base.specs.Slots.{within, has_count}
use Rattle.layer_api.specs.Broadcast.{BroadcastRules}
use Rattle.layer_api.specs.Multi.{is_slot_of}
use Rattle.layer_api.specs.Vectors.{is_slot_in}

-- a slot is of the same class, number and attempt as another, and its round is no later; round and step are those of its class
pub record IsNoLater (s t : Slot) : Type 0 where
  pub class : s.class ≡ t.class
  pub number : s.a ≡ t.a
  pub attempt : s.attempt ≡ t.attempt
  pub bround : s.bround ≤ t.bround
  pub round : has_count 200 s.class s.bround ≡ true
  pub step : has_count 3 s.class s.step ≡ true

-- where a slot opens, each that is no later opens too: so two slots of one round open together, whatever their steps and origins
abbrev pub OpensDown : (Slot → Bool) → Type 0
OpensDown opens = (s t : Slot) → IsNoLater s t → opens t ≡ true → opens s ≡ true

-- whether a broadcast can take an item yet goes by the item's kind alone
abbrev pub ReadyByKind : BroadcastRules → Type 0
ReadyByKind r = (at : Place) (tags : Tags) (h : List Call) (x y : Item) → x.kind ≡ y.kind → r.ready at tags h x ≡ r.ready at tags h y

-- a slot that is no later than one of an instance is one of the instance
pub no_later_of : (a attempt : ℕ) (s t : Slot) → IsNoLater s t → is_slot_of a attempt t ≡ true → is_slot_of a attempt s ≡ true
no_later_of a attempt s t near e =
    let x = and_parts (within 3 5 t.class) _ e in
    let y = and_parts (t.a == a) _ x.1 in
    let z = and_parts (t.attempt == attempt) _ y.1 in
    and_from (within 3 5 s.class) _ (ap (λ (c : ℕ). within 3 5 c) near.class ∙ x.0)
    (and_from (s.a == a) _ (ap (λ (k : ℕ). k == a) near.number ∙ y.0)
    (and_from (s.attempt == attempt) _ (ap (λ (k : ℕ). k == attempt) near.attempt ∙ z.0)
    (and_from (has_count 200 s.class s.bround) _ near.round near.step)))

pub no_later_in : (f a : ℕ) (s t : Slot) → IsNoLater s t → is_slot_in f a t ≡ true → is_slot_in f a s ≡ true
no_later_in f a s t near e =
    let x = and_parts (within 2 5 t.class) _ e in
    let y = and_parts (t.a == a) _ x.1 in
    let z = and_parts (if t.class == 2 then t.attempt == 0 else nat_le t.attempt f) _ y.1 in
    and_from (within 2 5 s.class) _ (ap (λ (c : ℕ). within 2 5 c) near.class ∙ x.0)
    (and_from (s.a == a) _ (ap (λ (k : ℕ). k == a) near.number ∙ y.0)
    (and_from (if s.class == 2 then s.attempt == 0 else nat_le s.attempt f) _
    (ap₂ (λ (c k : ℕ). if c == 2 then k == 0 else nat_le k f) near.class near.attempt ∙ z.0)
    (and_from (has_count 200 s.class s.bround) _ near.round near.step)))
