-- What the layers of a core show.
use Rattle.std.proofs.Common.{◌≡◌, ℕ, Bool, true, Option, Some, None, List, [], ◌∷◌, ◌++◌, inl, inr, refl, sym, ◌∙◌, ap, subst}
use Rattle.ritas_base.specs.declared.slot.Slot.{Slot}
use Rattle.ritas_base.specs.declared.item.Item.{Item}
use Rattle.ritas_base.specs.declared.item.Msg.{Msg}
use Rattle.ritas_base.specs.declared.item.Say.{Say}
use Rattle.ritas_base.specs.Messages.{Place}
use Rattle.ritas_base.specs.Tags.{Tags}
use Rattle.ritas_base.specs.History.{Call}
use Rattle.layer_api.specs.BroadcastCalls.{ShowsCast}
use Rattle.layer_api.specs.OneValue.{ValueLaws}
use Rattle.layer_api.specs.Service.{ServiceRules, Seat, WordLaws, AreProper, IsPart}
use Rattle.layer_api.specs.Words.{Word, Ask, Hear}
use Rattle.layer_api.specs.Calls.{WordTaken}
use Rattle.layer_api.specs.ServiceCalls.{ServiceShown, Shows, ShowsBetween}
use Rattle.instance_tree.specs.SlotMaps.{SlotMap}
use Rattle.ritas_core.specs.declared.layers.Layers.{Layers}
use Rattle.ritas_core.specs.declared.cast.Cast.{Cast}
use Rattle.ritas_core.specs.Rules.{Rules, seat_of, out_at_slot}
use Rattle.ritas_core.specs.SlotCast.{CastStandsAt, shown_by_cast}
use Rattle.ritas_core.specs.Drops.{is_dropped, is_dropped_shown, DropsPast}
use Rattle.ritas_core.specs.Casts.{CastsStand, CastsShowAt, MayStartAll, started_all, start_news}
use Rattle.ritas_core.specs.CastCalls.{CanStartAll, CanTake, CastsFail}
use Rattle.ritas_core.specs.Parts.{Parts, Entry, Took, Given, parts, service_told, heard_at, taken_at, item_delivers}
use Rattle.ritas_core.specs.Checks.{IsHistory}
use Rattle.ritas_core.specs.Laws.{LayerLaws}
use Rattle.ritas_core.specs.Stands.{Meaning, rules_of, LayersStand, LayersShow}
use Rattle.ritas_core.specs.LayerCalls.{ChangesCasts, StartsSaid, StartsFewerSaid, MayTell, MayFollow}
use Rattle.ritas_core.specs.LayerCalls.{WereProper, CanTell, TellsLayers, TellsNoLayer, CanTakeItem, LayersTakeNone}
use Rattle.ritas_core.proofs.Conditions.{words_proper}
use Rattle.ritas_core.proofs.DropSteps.{not_dropped, dropped_same, dropped_between, dropped_stays, casts_alike, casts_fewer}
use Rattle.ritas_core.proofs.ShownCasts.{stands_shown, out_started}

-- the traits' laws hold of what they say
pub record MeansWell {S E C T : Type 0} (m : Meaning S E C T) : Type 0 where
  pub values : ValueLaws m.cast
  pub words : WordLaws m.service
  pub service_shows : (s : S) (seat : Seat) (w : List Word) → m.service_stands s seat w → Shows m.service seat w (m.service_shown s)
  pub live : E → Bool
  pub cast_shows : (e : E) (at : Place) (tags : Tags) (h : List Call) → m.cast_stands e at tags h → (live e ≡ true) × ShowsCast m.cast at tags h (m.cast_shown e)

-- ---- what a service shows
part_itself : {X : Type 0} (xs : List X) → IsPart xs xs
part_itself xs = ([], refl)

between_now : (r : ServiceRules) (seat : Seat) (w later : List Word) (shown : ServiceShown) → IsPart (r.done seat w) (r.done seat later) → Shows r seat w shown →
    ShowsBetween r seat w later shown
between_now r seat w later shown part shows = record {
  opens = λ s. inl (shows.opens s);
  completed = inl shows.completed;
  base = λ o within. inl (shows.base o within);
  next_number = inl shows.next_number;
  given = inl shows.given;
  done_before = subst (λ xs. IsPart (r.done seat w) xs) (sym shows.done) (part_itself (r.done seat w));
  done_after = subst (λ xs. IsPart xs (r.done seat later)) (sym shows.done) part;
  outcome = inl shows.outcome;
  last = inl shows.last;
}

between_later : (r : ServiceRules) (seat : Seat) (w later : List Word) (shown : ServiceShown) → IsPart (r.done seat w) (r.done seat later) → Shows r seat later shown →
    ShowsBetween r seat w later shown
between_later r seat w later shown part shows = record {
  opens = λ s. inr (shows.opens s);
  completed = inr shows.completed;
  base = λ o within. inr (shows.base o within);
  next_number = inr shows.next_number;
  given = inr shows.given;
  done_before = subst (λ xs. IsPart (r.done seat w) xs) (sym shows.done) part;
  done_after = subst (λ xs. IsPart xs (r.done seat later)) (sym shows.done) (part_itself (r.done seat later));
  outcome = inr shows.outcome;
  last = inr shows.last;
}

-- ---- the identifier log only grows
done_part : (r : ServiceRules) → WordLaws r → (seat : Seat) (c : Word) (w : List Word) → AreProper r seat (c ∷ w) → IsPart (r.done seat w) (r.done seat (c ∷ w))
done_part r laws seat c w proper = let grows = laws.done_grows seat c w proper in (grows.more, grows.whole)

heard_part : (r : Rules) → WordLaws r.service → (s : Slot) (d : Option (List ℕ)) (p : Parts) → AreProper r.service (seat_of r) (heard_at r s d p).words →
    IsPart (r.service.done (seat_of r) p.words) (r.service.done (seat_of r) (heard_at r s d p).words)
heard_part r laws s None p proper = part_itself (r.service.done (seat_of r) p.words)
heard_part r laws s (Some v) p proper = done_part r.service laws (seat_of r) (Hear s v) p.words proper

pub entry_part : (r : Rules) → LayerLaws r → (h : List Entry) (e : Entry) → IsHistory r (e ∷ h) →
    IsPart (r.service.done (seat_of r) (parts r h).words) (r.service.done (seat_of r) (parts r (e ∷ h)).words)
entry_part r laws h (Took item) met =
    heard_part r laws.words item.slot (item_delivers r item (parts r h)) (taken_at item (parts r h)) (words_proper r laws (Took item ∷ h) met)
entry_part r laws h (Given v) met = done_part r.service laws.words (seat_of r) (Ask v) (parts r h).words (words_proper r laws (Given v ∷ h) met)

-- what is newly said by a word may be started
may_start_said : (r : Rules) (word : Word) (p : Parts) → MayTell r word p → MayStartAll r.casts (r.service.says (seat_of r) p.words word) p.calls
may_start_said r (Ask v) p may = may.1
may_start_said r (Hear s v) p may = may.1

-- words with one more that may come are proper
proper_told : (r : Rules) (word : Word) (p : Parts) → MayTell r word p → AreProper r.service (seat_of r) p.words → AreProper r.service (seat_of r) (word ∷ p.words)
proper_told r (Ask v) p may proper = (may.0, proper)
proper_told r (Hear s v) p may proper = (may.0, proper)

proper_heard : (r : Rules) (s : Slot) (d : Option (List ℕ)) (p : Parts) → MayFollow r s d p → AreProper r.service (seat_of r) p.words →
    AreProper r.service (seat_of r) (heard_at r s d p).words
proper_heard r s None p may proper = proper
proper_heard r s (Some v) p may proper = (may.0, proper)

module _ {S E C T : Type 0} (m : Meaning S E C T) (well : MeansWell m) where
  -- ---- layers that stand for some parts
  exact : (layers : Layers S E C T) (p : Parts) → LayersStand m layers p →
      CastsShowAt (shown_by_cast m.cast_shown) (rules_of m layers).casts (is_dropped (rules_of m layers) p.words) layers.casts p.calls
  exact layers p stood =
      stands_shown layers.mode m.cast_stands m.cast well.live m.cast_shown well.cast_shows well.values layers.params layers.me (m.tags layers.tagger)
      (is_dropped (rules_of m layers) p.words) layers.casts p.calls stood.casts

  -- by what the service shows
  pub exact_shown : (layers : Layers S E C T) (p : Parts) → LayersStand m layers p →
      CastsShowAt (shown_by_cast m.cast_shown) (rules_of m layers).casts (is_dropped_shown layers.mode.version (m.service_shown layers.service) layers.params.n) layers.casts p.calls
  exact_shown layers p stood s near =
      exact layers p stood s
      (sym (dropped_same (rules_of m layers) p.words (m.service_shown layers.service) s
      (well.service_shows layers.service (seat_of (rules_of m layers)) p.words stood.service)) ∙ near)

  pub layers_show : (layers : Layers S E C T) (r : Rules) → rules_of m layers ≡ r → (p : Parts) → LayersStand m layers p → LayersShow m layers r p p
  layers_show layers r same p stood =
      let seat = seat_of (rules_of m layers) in
      subst (λ (q : Rules). LayersShow m layers q p p) same (record {
        service = between_now m.service seat p.words p.words (m.service_shown layers.service) (part_itself (m.service.done seat p.words))
            (well.service_shows layers.service seat p.words stood.service);
        casts = λ s near. inl (exact_shown layers p stood s near);
      })

  -- the later ones of two
  pub layers_later : (layers : Layers S E C T) (r : Rules) → rules_of m layers ≡ r → (p later : Parts) → LayersStand m layers later →
      IsPart (r.service.done (seat_of r) p.words) (r.service.done (seat_of r) later.words) → LayersShow m layers r p later
  layers_later layers r same p later stood part =
      let seat = seat_of (rules_of m layers) in
      subst (λ (q : Rules). IsPart (q.service.done (seat_of q) p.words) (q.service.done (seat_of q) later.words) → LayersShow m layers q p later) same
      (λ part. record {
        service = between_later m.service seat p.words later.words (m.service_shown layers.service) part
            (well.service_shows layers.service seat later.words stood.service);
        casts = λ s near. inr (exact_shown layers later stood s near);
      }) part

  -- ---- a word that the service had no memory for, or what it says to that
  pub service_fails : (old : Layers S E C T) (service : S) (word : Word) →
      ((p : Parts) → CanTell m old word p → ShowsBetween m.service (seat_of (rules_of m old)) p.words (word ∷ p.words) (m.service_shown service)) →
      TellsNoLayer m old (record old { service = service }) word
  service_fails old service word near p can proper =
      let r = rules_of m old in
      record {
        service = near p can;
        casts = λ s far. inl (exact old p can.stood s
            (dropped_between r p.words (m.service_shown service) s well.words word (proper_told r word p can.may proper) (near p can) far));
      }

  -- a word that the service took: what is past by it was dropped, and what it says to it started
  module _ (old : Layers S E C T) (service : S) (new : Layers S E C T) (word : Word) (may : Seat → List Word → Type 0) (none said says : List Say)
      (met : (p : Parts) → CanTell m old word p → may (seat_of (rules_of m old)) p.words)
      (taken : WordTaken m.service_stands m.service.says old.service service word may none said)
      (nothing : none ≡ []) (same : says ≡ said) (rest : ChangesCasts (record old { service = service }) new) where
    abbrev Later : Slot → Bool
    Later = is_dropped_shown old.mode.version (m.service_shown service) old.params.n

    grows : (p : Parts) → CanTell m old word p → m.service_stands service (seat_of (rules_of m old)) (word ∷ p.words)
    grows p can = taken.grows (seat_of (rules_of m old)) p.words can.stood.service (met p can)

    says_it : (p : Parts) → CanTell m old word p → says ≡ m.service.says (seat_of (rules_of m old)) p.words word
    says_it p can =
        same ∙ taken.made (seat_of (rules_of m old)) p.words can.stood.service (met p can)
        ∙ ap (λ (xs : List Say). xs ++ m.service.says (seat_of (rules_of m old)) p.words word) nothing

    proper_after : (p : Parts) → CanTell m old word p → WereProper m old p → AreProper m.service (seat_of (rules_of m old)) (word ∷ p.words)
    proper_after p can proper = proper_told (rules_of m old) word p can.may proper

    same_drops : (p : Parts) → CanTell m old word p → (s : Slot) → Later s ≡ is_dropped (rules_of m old) (word ∷ p.words) s
    same_drops p can s =
        dropped_same (rules_of m old) (word ∷ p.words) (m.service_shown service) s
        (well.service_shows service (seat_of (rules_of m old)) (word ∷ p.words) (grows p can))

    may_say : (p : Parts) → CanTell m old word p → MayStartAll (rules_of m old).casts says p.calls
    may_say p can =
        subst (λ (xs : List Say). MayStartAll (rules_of m old).casts xs p.calls) (sym (says_it p can)) (may_start_said (rules_of m old) word p can.may)

    can_start : (left : SlotMap (Cast E)) → DropsPast Later old.params.n old.casts left → (p : Parts) → CanTell m old word p → WereProper m old p →
        CanStartAll (CastStandsAt old.mode m.cast_stands) (rules_of m old).casts Later (m.me old.tagger) left says p.calls
    can_start left drops p can proper = record {
      is_own = can.is_own;
      may = may_say p can;
      stood = casts_fewer (CastStandsAt old.mode m.cast_stands) (rules_of m old).casts (is_dropped (rules_of m old) p.words) Later p.calls
          (λ s past. same_drops p can s ∙ dropped_stays (rules_of m old) well.words word p.words (proper_after p can proper) s past)
          old.casts left drops can.stood.casts;
    }

    pub starts_told : (before after_it : List Msg) → StartsSaid m (record old { service = service }) new says before after_it →
        TellsLayers m old new word before after_it
    starts_told before after_it starts = subst (λ (layers : Layers S E C T). TellsLayers m old layers word before after_it) (sym rest) (record {
      grows = λ p can proper. record {
        service = grows p can;
        casts = casts_alike (CastStandsAt old.mode m.cast_stands) (rules_of m old).casts Later (is_dropped (rules_of m old) (word ∷ p.words))
            (started_all (m.service.says (seat_of (rules_of m old)) p.words word) p.calls) new.casts (same_drops p can)
            (subst (λ (xs : List Say). CastsStand (CastStandsAt old.mode m.cast_stands) (rules_of m old).casts Later new.casts (started_all xs p.calls))
            (says_it p can) (starts.starts.grows p.calls (can_start starts.left starts.drops p can proper)));
      };
      made = λ p can proper. starts.starts.made p.calls (can_start starts.left starts.drops p can proper)
          ∙ ap (λ (xs : List Say). before ++ start_news (rules_of m old).casts xs p.calls) (says_it p can);
    })

    pub starts_fail : StartsFewerSaid m (record old { service = service }) new says → TellsNoLayer m old new word
    starts_fail fewer = subst (λ (layers : Layers S E C T). TellsNoLayer m old layers word) (sym rest) (λ p can proper.
        let seat = seat_of (rules_of m old) in
        record {
          service = between_later m.service seat p.words (word ∷ p.words) (m.service_shown service)
              (done_part m.service well.words seat word p.words (proper_after p can proper))
              (well.service_shows service seat (word ∷ p.words) (grows p can));
          casts = λ s near. inl (fewer.starts p.calls (can_start fewer.left fewer.drops p can proper) s near);
        })

  -- ---- an item that its broadcast had no memory for
  pub out_heard : (layers : Layers S E C T) (x : Slot) (d : Option (List ℕ)) (p : Parts) (s : Slot) →
      out_at_slot (rules_of m layers).casts s ((heard_at (rules_of m layers) x d p).calls s) ≡ out_at_slot (rules_of m layers).casts s (p.calls s)
  out_heard layers x None p s = refl
  out_heard layers x (Some v) p s =
      out_started layers.mode m.cast_stands m.cast well.live m.cast_shown well.cast_shows well.values layers.params layers.me (m.tags layers.tagger)
      (m.service.says (seat_of (rules_of m layers)) p.words (Hear x v)) p.calls s

  pub take_part : (r : Rules) → r.service ≡ m.service → (item : Item) (p : Parts) → MayFollow r item.slot (item_delivers r item p) (taken_at item p) →
      AreProper r.service (seat_of r) p.words →
      IsPart (r.service.done (seat_of r) p.words) (r.service.done (seat_of r) (heard_at r item.slot (item_delivers r item p) (taken_at item p)).words)
  take_part r is item p follow proper =
      heard_part r (subst (λ (q : ServiceRules). WordLaws q) (sym is) well.words) item.slot (item_delivers r item p) (taken_at item p)
      (proper_heard r item.slot (item_delivers r item p) (taken_at item p) follow proper)

  pub can_give : (old : Layers S E C T) (item : Item) (p : Parts) → CanTakeItem m old item p →
      CanTake (CastStandsAt old.mode m.cast_stands) (rules_of m old).casts (is_dropped (rules_of m old) p.words) (m.me old.tagger) old.casts item p.calls
  can_give old item p can = record {
    is_own = can.is_own;
    origin = can.origin;
    near = not_dropped (rules_of m old) p.words item.slot can.near;
    may = can.may;
    stood = can.stood.casts;
  }

  pub cast_fails : (old : Layers S E C T) (casts : SlotMap (Cast E)) (item : Item) →
      ((dropped : Slot → Bool) →
      CastsFail (CastStandsAt old.mode m.cast_stands) (shown_by_cast m.cast_shown) (rules_of m old).casts dropped (m.me old.tagger) old.casts casts item) →
      LayersTakeNone m old (record old { casts = casts }) item
  cast_fails old casts item fails =
      let r = rules_of m old in
      record {
        shows = λ p can follow proper.
            let d = item_delivers r item p in
            let q = taken_at item p in
            record {
              service = between_now m.service (seat_of r) p.words (heard_at r item.slot d q).words (m.service_shown old.service)
                  (take_part r refl item p follow proper)
                  (well.service_shows old.service (seat_of r) p.words can.stood.service);
              casts = λ s near.
                  let far = sym (dropped_same r p.words (m.service_shown old.service) s
                  (well.service_shows old.service (seat_of r) p.words can.stood.service)) ∙ near in
                  elim ((fails (is_dropped r p.words)).shows p.calls (can_give old item p can) s far) [ inl e ↦ inl e | inr e ↦ inr (e ∙ sym (out_heard old item.slot d q s)) ];
            };
        outputs = λ s. refl;
        counts = λ p can. (fails (is_dropped r p.words)).counts p.calls (can_give old item p can);
      }

  -- an item that was taken by its broadcast, where the service had no memory for what that delivers, or for what it says
  pub heard_fails : (old new : Layers S E C T) (item : Item) (p : Parts) (v : List ℕ) →
      LayersShow m new (rules_of m old) (taken_at item p) (service_told (rules_of m old) (Hear item.slot v) (taken_at item p)) →
      LayersShow m new (rules_of m old) p (service_told (rules_of m old) (Hear item.slot v) (taken_at item p))
  heard_fails old new item p v shows = record {
    service = shows.service;
    casts = λ s near. elim (shows.casts s near) [ inl e ↦ inr (e ∙ sym (out_heard old item.slot (Some v) (taken_at item p) s)) | inr e ↦ inr e ];
  }
