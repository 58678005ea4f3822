-- What the broadcasts of a replica show as delivered.
use Rattle.std.proofs.Common.{◌≡◌, ℕ, Bool, true, false, cond, Option, Some, None, List, [], ◌∷◌, ◌⊎◌, inl, inr, refl, sym, ◌∙◌, ap, subst}
use Rattle.std.specs.FinMap.{get}
use Rattle.ritas_base.specs.declared.slot.Slot.{Slot}
use Rattle.ritas_base.specs.declared.mode.Mode.{Mode}
use Rattle.ritas_base.specs.declared.item.Item.{Item}
use Rattle.ritas_base.specs.declared.item.Msg.{Msg}
use Rattle.ritas_base.specs.declared.item.Say.{Say}
use Rattle.ritas_base.specs.SlotOrder.{is_slot, same_slot}
use Rattle.ritas_base.specs.Messages.{Place}
use Rattle.ritas_base.specs.Numbers.{Numbers}
use Rattle.ritas_base.specs.Tags.{Tags}
use Rattle.ritas_base.specs.History.{Call, Start, Take}
use Rattle.layer_api.specs.Broadcast.{BroadcastRules, Tagging}
use Rattle.layer_api.specs.BroadcastCalls.{CastShown, ShowsCast, TakesNew, TakesNone}
use Rattle.layer_api.specs.OneValue.{ValueLaws}
use Rattle.instance_tree.specs.SlotMaps.{SlotMap}
use Rattle.ritas_core.specs.declared.cast.Cast.{Cast}
use Rattle.ritas_core.specs.Rules.{CastRules, route_of, casts_by, place_at, out_at_slot}
use Rattle.ritas_core.specs.RulesLaws.{laws_at}
use Rattle.ritas_core.specs.SlotCast.{CastStandsAt, shown_by_cast}
use Rattle.ritas_core.specs.Casts.{CastsStand, CastsShowAt, CastsShow, called, started_all, shown_out}
use Rattle.ritas_core.specs.CastCalls.{HearsNone}
use Rattle.ritas_core.proofs.OneCast.{shows_at}

module _ {E : Type 0} (mode : Mode) (stands : E → Place → Tags → List Call → Type 0) (rules : BroadcastRules) (live : E → Bool) (shown : E → CastShown)
    (shows : (e : E) (at : Place) (tags : Tags) (h : List Call) → stands e at tags h → (live e ≡ true) × ShowsCast rules at tags h (shown e))
    (values : ValueLaws rules) (numbers : Numbers) (me : ℕ) (tags : Tags) where
  abbrev Casts : CastRules
  Casts = casts_by mode numbers me tags rules

  -- to start delivers nothing
  pub out_called : (h : Slot → List Call) (x s : Slot) (v : List ℕ) (b : Bool) → is_slot x s ≡ b → out_at_slot Casts s (cond b (Start v ∷ h s) (h s)) ≡ out_at_slot Casts s (h s)
  out_called h x s v true here = (laws_at mode rules values s).out_start (place_at Casts s) tags (h s) v
  out_called h x s v false here = refl

  pub out_started : (says : List Say) (h : Slot → List Call) (s : Slot) → out_at_slot Casts s (started_all says h s) ≡ out_at_slot Casts s (h s)
  out_started [] h s = refl
  out_started (say ∷ says) h s =
      out_started says (called h say.slot (Start say.value)) s ∙ out_called h say.slot s say.value (is_slot say.slot s) refl

  module _ (dropped : Slot → Bool) where
    shown_at : (casts : SlotMap (Cast E)) (h : Slot → List Call) → CastsStand (CastStandsAt mode stands) Casts dropped casts h →
        (s : Slot) (o : Option (Cast E)) → dropped s ≡ false → get casts s ≡ o → shown_out (shown_by_cast shown) o ≡ out_at_slot Casts s (h s)
    shown_at casts h stood s None near none =
        sym (ap (λ (l : List Call). out_at_slot Casts s l) (stood.unmade s near none) ∙ (laws_at mode rules values s).out_nothing (place_at Casts s) tags)
    shown_at casts h stood s (Some b) near some =
        (shows_at stands rules live shown shows (route_of mode s) b (place_at Casts s) tags (h s) (stood.made s b some)).out

    -- each slot of a map shows what it delivers by the calls that the map stands for
    pub stands_shown : (casts : SlotMap (Cast E)) (h : Slot → List Call) → CastsStand (CastStandsAt mode stands) Casts dropped casts h →
        CastsShowAt (shown_by_cast shown) Casts dropped casts h
    stands_shown casts h stood s near = shown_at casts h stood s (get casts s) near refl

    -- a map that shows so, with another value put at one slot
    module _ (m n : SlotMap (Cast E)) (h : Slot → List Call) (x : Slot) (new : Cast E) (exact : CastsShowAt (shown_by_cast shown) Casts dropped m h)
        (put : (s : Slot) → get n s ≡ cond (is_slot x s) (Some new) (get m s)) where
      abbrev Now : Slot → Option (List ℕ)
      Now s = shown_out (shown_by_cast shown) (get n s)

      exact_at : (shown_by_cast shown new).out ≡ out_at_slot Casts x (h x) → (s : Slot) (b : Bool) → dropped s ≡ false → is_slot x s ≡ b → get n s ≡ cond b (Some new) (get m s) →
          Now s ≡ out_at_slot Casts s (h s)
      exact_at there s true near here at = subst (λ (q : Slot). Now s ≡ out_at_slot Casts q (h q)) (same_slot x s here) (ap (λ (o : Option (Cast E)). shown_out (shown_by_cast shown) o) at ∙ there)
      exact_at there s false near here at = ap (λ (o : Option (Cast E)). shown_out (shown_by_cast shown) o) at ∙ exact s near

      pub put_shown : (shown_by_cast shown new).out ≡ out_at_slot Casts x (h x) → CastsShowAt (shown_by_cast shown) Casts dropped n h
      put_shown there s near = exact_at there s (is_slot x s) near refl (put s)

      module _ (later : Slot → List Call) where
        either_at : ((shown_by_cast shown new).out ≡ out_at_slot Casts x (h x)) ⊎ ((shown_by_cast shown new).out ≡ out_at_slot Casts x (later x)) → (s : Slot) (b : Bool) →
            dropped s ≡ false → is_slot x s ≡ b →
            get n s ≡ cond b (Some new) (get m s) → (Now s ≡ out_at_slot Casts s (h s)) ⊎ (Now s ≡ out_at_slot Casts s (later s))
        either_at there s true near here at =
            subst (λ (q : Slot). (Now s ≡ out_at_slot Casts q (h q)) ⊎ (Now s ≡ out_at_slot Casts q (later q))) (same_slot x s here) (elim there [
              | inl e ↦ inl (ap (λ (o : Option (Cast E)). shown_out (shown_by_cast shown) o) at ∙ e)
              | inr e ↦ inr (ap (λ (o : Option (Cast E)). shown_out (shown_by_cast shown) o) at ∙ e)
            ])
        either_at there s false near here at = inl (ap (λ (o : Option (Cast E)). shown_out (shown_by_cast shown) o) at ∙ exact s near)

        pub put_either : ((shown_by_cast shown new).out ≡ out_at_slot Casts x (h x)) ⊎ ((shown_by_cast shown new).out ≡ out_at_slot Casts x (later x)) →
            CastsShow (shown_by_cast shown) Casts dropped n h later
        put_either there s near = either_at there s (is_slot x s) near refl (put s)

    -- a map with the same values
    pub same_shown : (m n : SlotMap (Cast E)) (h : Slot → List Call) → CastsShowAt (shown_by_cast shown) Casts dropped m h →
        ((s : Slot) → get n s ≡ get m s) → CastsShowAt (shown_by_cast shown) Casts dropped n h
    same_shown m n h exact same s near = ap (λ (o : Option (Cast E)). shown_out (shown_by_cast shown) o) (same s) ∙ exact s near

-- ---- one broadcast without memory
module _ {B : Type 0} (stands : B → Place → Tags → List Call → Type 0) (r : BroadcastRules) (shown : B → CastShown) (t : Tagging) (old new : B) (item : Item)
    (before after : List Msg) where
  -- the item was not taken
  pub none_hears : (is_live : B → Bool) → TakesNone stands r is_live shown t old new item before after → HearsNone stands r shown t old new item
  none_hears is_live takes = record {
    shows = λ at tags h stood tagger may. (takes.dies.shows at tags h stood tagger may).out;
    counts = takes.counts;
  }

  -- it was, and what is delivered was not copied
  pub late_hears : ((at : Place) (tags : Tags) (h : List Call) → stands new at tags h → ShowsCast r at tags h (shown new)) →
      TakesNew stands r t old new item before after → HearsNone stands r shown t old new item
  late_hears shows takes = record {
    shows = λ at tags h stood tagger may. inr (shows at tags (Take item ∷ h) (takes.grows at tags h stood tagger may)).out;
    counts = takes.counts;
  }
