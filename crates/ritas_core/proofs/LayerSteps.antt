-- An item that delivers, and then what the service says to that.
use Rattle.std.proofs.Common.{◌≡◌, ℕ, Bool, true, false, cond, Option, Some, None, Ok, List, ◌++◌, refl, subst, sym, ap, ◌∙◌, append-nil}
use Rattle.std.proofs.Math.Dec.{leb}
use Rattle.std.specs.BTreeMap as map
use Rattle.ritas_base.specs.declared.slot.Slot.{Slot}
use Rattle.ritas_base.specs.declared.item.Item.{Item}
use Rattle.ritas_base.specs.declared.item.Msg.{Msg}
use Rattle.ritas_base.specs.SlotOrder.{slot_cmp, is_slot}
use Rattle.ritas_base.specs.History.{Take}
use Rattle.layer_api.specs.OneValue.{ValueLaws}
use Rattle.layer_api.specs.Words.{Hear}
use Rattle.instance_tree.specs.SlotMaps.{SlotMap}
use Rattle.frame_codec.specs.Body.{is_of_form}
use Rattle.ritas_core.specs.declared.change.Change.{Change}
use Rattle.ritas_core.specs.declared.change.Change.TheVariants as changes
use Rattle.ritas_core.specs.declared.layers.Layers.{Layers}
use Rattle.ritas_core.specs.declared.cast.Cast.{Cast}
use Rattle.ritas_core.specs.declared.taken.Taken.{Taken}
use Rattle.ritas_core.specs.declared.taken.Taken.TheVariants.{Took, Repeat}
use Rattle.ritas_core.specs.Rules.{at_slot_of}
use Rattle.ritas_core.specs.RulesLaws.{laws_at}
use Rattle.ritas_core.specs.SlotCast.{CastStandsAt, shown_by_cast}
use Rattle.ritas_core.specs.Drops.{is_dropped}
use Rattle.ritas_core.specs.Casts.{called, news_at}
use Rattle.ritas_core.specs.CastCalls.{CastsTake, CastsHear}
use Rattle.ritas_core.specs.Parts.{Parts, told_news, heard_at, heard_news, taken_at, item_delivers, parts_after, made_by}
use Rattle.ritas_core.specs.Parts as entry
use Rattle.ritas_core.specs.Stands.{Meaning, rules_of, LayersStand, LayersShow}
use Rattle.ritas_core.specs.LayerCalls.{MayFollow, SameSeat, KeepsOutputs, CanTakeItem, CanTell, TellsLayers, TellsNoLayer, TakesItem, TakesSo, RepeatsItem, DeliversNone, ChangesOnly, quiet_change, LayersTakeNone}
use Rattle.ritas_core.proofs.Starts.{appended_more}
use Rattle.ritas_core.proofs.ShownLayers.{MeansWell, heard_fails, layers_later, take_part, can_give, out_heard}
use Rattle.ritas_core.proofs.CoreSteps.{same_rules}
use Rattle.ritas_core.proofs.Keeping.{Outputs, outputs_same, out_quiet, outputs_put}

module _ {S E C T : Type 0} (m : Meaning S E C T) (well : MeansWell m) where
  -- the broadcasts took an item, or one that they had, whichever of them are dropped
  abbrev TookSo : Layers S E C T → SlotMap (Cast E) → Item → List Msg → List Msg → Taken → Type 0
  TookSo old casts item before after_it taken = (dropped : Slot → Bool) →
      CastsHear (CastStandsAt old.mode m.cast_stands) (shown_by_cast m.cast_shown) (rules_of m old).casts dropped (m.me old.tagger) old.casts casts item
      before after_it (Ok taken)

  -- which of the two it was, by the equation that a call gives
  taken_as : (old : Layers S E C T) (casts : SlotMap (Cast E)) (item : Item) (before after_it : List Msg) (taken it : Taken) → taken ≡ it →
      TookSo old casts item before after_it taken → TookSo old casts item before after_it it
  taken_as old casts item before after_it taken it is took = subst (λ (t : Taken). TookSo old casts item before after_it t) is took

  laws_in : (layers : Layers S E C T) (s : Slot) → ValueLaws (at_slot_of layers.mode m.cast s)
  laws_in layers s = laws_at layers.mode m.cast well.values s

  -- ---- an item that repeats one
  pub repeats_item : (old : Layers S E C T) (casts : SlotMap (Cast E)) (item : Item) (before after_it : List Msg) (taken : Taken) → taken ≡ Repeat →
      TookSo old casts item before after_it taken → RepeatsItem m old (record old { casts = casts }) item before after_it
  repeats_item old casts item before after_it taken is took =
      let repeats = taken_as old casts item before after_it taken Repeat is took in
      record {
        same = λ p stood. record {
          service = stood.service;
          casts = (repeats (is_dropped (rules_of m old) p.words)).same p.calls stood.casts;
        };
        outputs = λ s. refl;
        out = (repeats (λ s. false)).made;
        counts = λ p can. (repeats (is_dropped (rules_of m old) p.words)).counts p.calls (can_give m well old item p can);
      }

  -- ---- an item that delivers nothing
  delivers_none : (old : Layers S E C T) (casts : SlotMap (Cast E)) (item : Item) (before after_it : List Msg) (taken : Taken) → taken ≡ Took None →
      TookSo old casts item before after_it taken → DeliversNone m old item
  delivers_none old casts item before after_it taken is took = λ p can.
      (taken_as old casts item before after_it taken (Took None) is took (is_dropped (rules_of m old) p.words)).delivered p.calls (can_give m well old item p can)

  pub quiet_item : (old : Layers S E C T) (casts : SlotMap (Cast E)) (item : Item) (before after_it : List Msg) (taken : Taken) → taken ≡ Took None →
      TookSo old casts item before after_it taken → TakesItem m old (record old { casts = casts }) item before after_it
  quiet_item old casts item before after_it taken is took =
      let r = rules_of m old in
      let takes = taken_as old casts item before after_it taken (Took None) is took in
      let quiet = delivers_none old casts item before after_it taken is took in
      record {
        grows = λ p can may proper.
            subst (λ (d : Option (List ℕ)). LayersStand m (record old { casts = casts }) (heard_at r item.slot d (taken_at item p))) (sym (quiet p can)) (record {
              service = can.stood.service;
              casts = (takes (is_dropped r p.words)).grows p.calls (can_give m well old item p can);
            });
        made = λ p can may proper.
            let news = news_at r.casts item.slot (p.calls item.slot) (Take item) in
            (takes (is_dropped r p.words)).made p.calls (can_give m well old item p can)
            ∙ ap (λ (ms : List Msg). before ++ ms) (sym (append-nil news)
            ∙ ap (λ (d : Option (List ℕ)). news ++ heard_news r item.slot d (taken_at item p)) (sym (quiet p can)));
        outputs = λ p can stood.
            outputs_same old.mode.root r.casts old.outputs old.outputs (called p.calls item.slot (Take item)) (parts_after r (entry.Took item) p).calls
            (λ s. refl) (λ s. out_heard m well old item.slot (item_delivers r item p) (taken_at item p) s)
            (outputs_same old.mode.root r.casts old.outputs old.outputs p.calls (called p.calls item.slot (Take item)) (λ s. refl)
            (out_quiet r.casts (laws_in old) p.calls item.slot (Take item) (quiet p can)) stood);
        counts = λ p can. (takes (is_dropped r p.words)).counts p.calls (can_give m well old item p can);
      }

  -- and what it changes goes by its kind
  only_by : (old : Layers S E C T) (item : Item) (b : Bool) → is_of_form 2 item.kind ≡ b → DeliversNone m old item → ChangesOnly m old item (cond b (changes.Columns item.slot) changes.Cast)
  only_by old item true is quiet = (quiet, refl)
  only_by old item false is quiet = (quiet, is)

  pub quiet_so : (old : Layers S E C T) (casts : SlotMap (Cast E)) (item : Item) (before after_it : List Msg) (taken : Taken) → taken ≡ Took None →
      TookSo old casts item before after_it taken → (change : Change) → change ≡ quiet_change item → TakesSo m old (record old { casts = casts }) item before after_it change
  quiet_so old casts item before after_it taken is took change by = record {
    takes = quiet_item old casts item before after_it taken is took;
    only = subst (λ (x : Change). ChangesOnly m old item x) (sym by) (only_by old item (is_of_form 2 item.kind) refl (delivers_none old casts item before after_it taken is took));
  }

  -- ---- an item that delivers
  module _ (old new : Layers S E C T) (casts : SlotMap (Cast E)) (item : Item)
      (before between : List Msg) (taken : Taken) (value told_value : List ℕ)
      (is : taken ≡ Took (Some value)) (took : TookSo old casts item before between taken)
      (same : told_value ≡ value) (kept : KeepsOutputs (record old { casts = casts }) new) where
    takes_at : (p : Parts) → CastsTake (CastStandsAt old.mode m.cast_stands) (rules_of m old).casts (is_dropped (rules_of m old) p.words) (m.me old.tagger) old.casts casts item before between
        (Some value)
    takes_at p = taken_as old casts item before between taken (Took (Some value)) is took (is_dropped (rules_of m old) p.words)

    delivers : (p : Parts) → CanTakeItem m old item p → item_delivers (rules_of m old) item p ≡ Some told_value
    delivers p can = (takes_at p).delivered p.calls (can_give m well old item p can) ∙ ap (λ (v : List ℕ). Some v) (sym same)

    can_tell : (p : Parts) → CanTakeItem m old item p → MayFollow (rules_of m old) item.slot (item_delivers (rules_of m old) item p) (taken_at item p)
        → CanTell m (record old { casts = casts }) (Hear item.slot told_value) (taken_at item p)
    can_tell p can may = record {
      is_own = can.is_own;
      may = subst (λ (d : Option (List ℕ)). MayFollow (rules_of m old) item.slot d (taken_at item p)) (delivers p can) may;
      stood = record { service = can.stood.service; casts = (takes_at p).grows p.calls (can_give m well old item p can) };
    }

    -- the service heard that, and it is kept by itself
    module _ (outputs : Outputs) (after_it : List Msg)
        (tells : TellsLayers m (record old { casts = casts }) new (Hear item.slot told_value) between after_it) where
      pub heard_item : (leb 3 old.mode.root ≡ false → (s : Slot) → map.get slot_cmp outputs s ≡ cond (is_slot item.slot s) (Some value) (map.get slot_cmp new.outputs s)) →
          TakesItem m old (record new { outputs = outputs }) item before after_it
      heard_item put =
          let r = rules_of m old in
          record {
            grows = λ p can may proper.
                let stood = tells.grows (taken_at item p) (can_tell p can may) proper in
                subst (λ (d : Option (List ℕ)). LayersStand m (record new { outputs = outputs }) (heard_at r item.slot d (taken_at item p))) (sym (delivers p can))
                (record { service = stood.service; casts = stood.casts });
            made = λ p can may proper.
                appended_more before between after_it
                (news_at r.casts item.slot (p.calls item.slot) (Take item))
                (told_news r (Hear item.slot told_value) (taken_at item p))
                (made_by r (entry.Took item) p)
                ((takes_at p).made p.calls (can_give m well old item p can))
                (tells.made (taken_at item p) (can_tell p can may) proper)
                (ap (λ (d : Option (List ℕ)). news_at r.casts item.slot (p.calls item.slot) (Take item) ++ heard_news r item.slot d (taken_at item p)) (delivers p can));
            outputs = λ p can stood.
                outputs_same old.mode.root r.casts outputs outputs (called p.calls item.slot (Take item)) (parts_after r (entry.Took item) p).calls (λ s. refl)
                (λ s. out_heard m well old item.slot (item_delivers r item p) (taken_at item p) s)
                (outputs_put r.casts (laws_in old) p.calls item.slot (Take item) old.mode.root new.outputs outputs value
                (outputs_same old.mode.root r.casts old.outputs new.outputs p.calls p.calls kept (λ s. refl) stood) put
                ((takes_at p).delivered p.calls (can_give m well old item p can)));
            counts = λ p can. (takes_at p).counts p.calls (can_give m well old item p can);
          }

      -- for want of memory it isn't kept
      pub unkept_item : SameSeat old new → ((s : Slot) → map.get slot_cmp outputs s ≡ map.get slot_cmp new.outputs s) →
          LayersTakeNone m old (record new { outputs = outputs }) item
      unkept_item seat same_outputs =
          let r = rules_of m old in
          record {
            shows = λ p can may proper.
                let stood = tells.grows (taken_at item p) (can_tell p can may) proper in
                layers_later m well (record new { outputs = outputs }) r (same_rules m old new seat) p (parts_after r (entry.Took item) p)
                (subst (λ (d : Option (List ℕ)). LayersStand m (record new { outputs = outputs }) (heard_at r item.slot d (taken_at item p))) (sym (delivers p can))
                (record { service = stood.service; casts = stood.casts }))
                (take_part m well r refl item p may proper);
            outputs = λ s. same_outputs s ∙ kept s;
            counts = λ p can. (takes_at p).counts p.calls (can_give m well old item p can);
          }

    -- for want of memory the service didn't hear it
    pub heard_none : TellsNoLayer m (record old { casts = casts }) new (Hear item.slot told_value) → LayersTakeNone m old new item
    heard_none tells = record {
      shows = λ p can may proper.
          subst (λ (d : Option (List ℕ)). LayersShow m new (rules_of m old) p (heard_at (rules_of m old) item.slot d (taken_at item p))) (sym (delivers p can))
          (heard_fails m well old new item p told_value (tells (taken_at item p) (can_tell p can may) proper));
      outputs = kept;
      counts = λ p can. (takes_at p).counts p.calls (can_give m well old item p can);
    }
