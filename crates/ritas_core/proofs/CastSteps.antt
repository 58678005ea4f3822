-- A call at one slot keeps what the map of broadcasts stands for.
use Rattle.std.proofs.Common.{◌≡◌, ℕ, Bool, true, false, Option, Some, None, Result, Ok, Err, List, [], ◌∷◌, ◌++◌, ◌<◌, ◌⊎◌, inl, inr, cond, ap, refl, sym, ◌∙◌, subst}
use Rattle.std.specs.Cmp.{eq_by_cmp_equiv}
use Rattle.std.specs.FinMap.{empty, get, insert, get-empty, get-insert}
use Rattle.std.proofs.lemmas.Bool.{both_ways}
use Rattle.ritas_base.specs.declared.slot.Slot.{Slot}
use Rattle.ritas_base.specs.SlotOrder.{slot_cmp, slots_total, is_slot, same_slot, slot_itself}
use Rattle.ritas_base.specs.Messages.{Place}
use Rattle.ritas_base.specs.Tags.{Tags}
use Rattle.ritas_base.specs.Numbers.{Numbers}
use Rattle.ritas_base.specs.declared.bytes.Mem.{Mem}
use Rattle.ritas_base.specs.declared.item.Item.{Item}
use Rattle.ritas_base.specs.declared.item.Msg.{Msg}
use Rattle.ritas_base.specs.History.{Call, Start, Take}
use Rattle.ritas_base.specs.declared.item.Say.{Say}
use Rattle.layer_api.specs.Broadcast.{BroadcastRules, IsTagger, MayStart}
use Rattle.layer_api.specs.BroadcastCalls.{CastShown, ShowsCast, Starts, Dies}
use Rattle.ritas_base.specs.declared.mode.Mode.{Mode}
use Rattle.instance_tree.specs.SlotMaps.{SlotMap}
use Rattle.ritas_core.specs.declared.cast.Cast.{Cast}
use Rattle.ritas_core.specs.Rules.{rules_by, CastRules, route_of, casts_by, place_at, out_at_slot}
use Rattle.ritas_core.specs.SlotCast.{CastStands, CastStandsAt, is_cast_live, shown_by_cast}
use Rattle.ritas_core.specs.Casts.{CastsStand, called, is_called, newly_there, news_at}
use Rattle.ritas_core.specs.CastCalls.{IsOwnTagger, CanStart, StartsCast, StartsNone, CanTake, HearsItem, CastsFail, CastsHear}
use Rattle.layer_api.specs.OneValue.{ValueLaws}
use Rattle.ritas_core.specs.RulesLaws.{laws_at}
use Rattle.ritas_core.proofs.OneCast.{shows_at}
use Rattle.ritas_core.proofs.ShownCasts.{stands_shown, same_shown, put_shown, put_either}
use Rattle.ritas_core.specs.declared.taken.Taken.{Taken}
use Rattle.ritas_core.specs.declared.taken.Taken.TheVariants.{Took, Repeat}

some_inside : {B : Type 0} (o : Option B) (x y : B) → o ≡ Some x → o ≡ Some y → x ≡ y
some_inside o x y p q = cc

-- a map with one value more
pub inserted_at : {B : Type 0} (m n : SlotMap B) (s : Slot) (e : B) → n ≡ insert m s e → (q : Slot) → get n q ≡ cond (is_slot s q) (Some e) (get m q)
inserted_at {B} m n s e is q =
    ap (λ (x : SlotMap B). get x q) is ∙ get-insert slots_total m s e q ∙ ap (λ (b : Bool). cond b (Some e) (get m q)) ((eq_by_cmp_equiv slots_total).symm q s)

pub same_values : {B : Type 0} (m n : SlotMap B) → n ≡ m → (q : Slot) → get n q ≡ get m q
same_values {B} m n is q = ap (λ (x : SlotMap B). get x q) is

-- where there is a value the slot's broadcasts aren't dropped
kept_by : {B : Type 0} (o : Option B) (e : B) (b : Bool) → (b ≡ true → o ≡ None) → o ≡ Some e → b ≡ false
kept_by o e true gone found = let none = gone refl in absurd (cc)
kept_by o e false gone found = refl

module _ {B : Type 0} (stands : B → Place → Tags → List Call → Type 0) (c : CastRules) (dropped : Slot → Bool) where
  -- what holds of the value that is put at a slot, and of the others
  at_put : (P : Slot → B → Type 0) (m n : SlotMap B) (s q : Slot) (e x : B) (b : Bool) → is_slot s q ≡ b → get n q ≡ cond b (Some e) (get m q) →
      P s e → (is_slot s q ≡ false → get m q ≡ Some x → P q x) → get n q ≡ Some x → P q x
  at_put P m n s q e x true here put there other found =
      subst (λ (y : Slot). P y x) (same_slot s q here) (subst (λ (y : B). P s y) (some_inside _ e x put found) there)
  at_put P m n s q e x false here put there other found = other here (sym put ∙ found)

  gone_at : (m n : SlotMap B) (s q : Slot) (e : B) (b : Bool) → is_slot s q ≡ b → get n q ≡ cond b (Some e) (get m q) → dropped s ≡ false →
      (dropped q ≡ true → get m q ≡ None) → dropped q ≡ true → get n q ≡ None
  gone_at m n s q e true here put near gone past = absurd (both_ways (dropped q) (subst (λ (y : Slot). dropped y ≡ false) (same_slot s q here) near) past)
  gone_at m n s q e false here put near gone past = put ∙ gone past

  unmade_at : (m n : SlotMap B) (h k : Slot → List Call) (s q : Slot) (e : B) (b : Bool) →
      is_slot s q ≡ b → get n q ≡ cond b (Some e) (get m q) →
      (is_slot s q ≡ false → k q ≡ h q) → dropped q ≡ false →
      CastsStand stands c dropped m h → get n q ≡ None → k q ≡ []
  unmade_at m n h k s q e true here put same near all found = cc
  unmade_at m n h k s q e false here put same near all found = same here ∙ all.unmade q near (sym put ∙ found)

  -- the map with one value put at a slot, where only this slot's calls changed
  pub casts_put : (m n : SlotMap B) (h k : Slot → List Call) (s : Slot) (e : B) →
      ((q : Slot) → get n q ≡ cond (is_slot s q) (Some e) (get m q)) →
      ((q : Slot) → is_slot s q ≡ false → k q ≡ h q) →
      stands e (place_at c s) c.tags (k s) → is_called (k s) ≡ true → s.origin < c.numbers.n → dropped s ≡ false →
      CastsStand stands c dropped m h → CastsStand stands c dropped n k
  casts_put m n h k s e put same stood used placed near all = record {
    made = λ q x. at_put (λ q x. stands x (place_at c q) c.tags (k q)) m n s q e x (is_slot s q) refl (put q) stood
        (λ apart found. subst (λ (l : List Call). stands x (place_at c q) c.tags l) (sym (same q apart)) (all.made q x found));
    used = λ q x. at_put (λ q x. is_called (k q) ≡ true) m n s q e x (is_slot s q) refl (put q) used
        (λ apart found. ap is_called (same q apart) ∙ all.used q x found);
    placed = λ q x. at_put (λ q x. q.origin < c.numbers.n) m n s q e x (is_slot s q) refl (put q) placed (λ apart found. all.placed q x found);
    gone = λ q. gone_at m n s q e (is_slot s q) refl (put q) near (all.gone q);
    unmade = λ q far found. unmade_at m n h k s q e (is_slot s q) refl (put q) (same q) far all found;
  }

-- a slot's calls after one more
pub called_here : (h : Slot → List Call) (s : Slot) (call : Call) → called h s call s ≡ call ∷ h s
called_here h s call = ap (λ b. cond b (call ∷ h s) (h s)) (slot_itself s)

pub called_elsewhere : (h : Slot → List Call) (s : Slot) (call : Call) (q : Slot) → is_slot s q ≡ false → called h s call q ≡ h q
called_elsewhere h s call q apart = ap (λ b. cond b (call ∷ h q) (h q)) apart

-- a call at a slot, by the value there
pub casts_called : {B : Type 0} (stands : B → Place → Tags → List Call → Type 0) (c : CastRules) (dropped : Slot → Bool) (m n : SlotMap B) (h : Slot → List Call)
    (s : Slot) (call : Call) (e : B) →
    ((q : Slot) → get n q ≡ cond (is_slot s q) (Some e) (get m q)) →
    stands e (place_at c s) c.tags (call ∷ h s) → s.origin < c.numbers.n → dropped s ≡ false →
    CastsStand stands c dropped m h → CastsStand stands c dropped n (called h s call)
casts_called stands c dropped m n h s call e put stood placed near all =
    casts_put stands c dropped m n h (called h s call) s e put (called_elsewhere h s call)
    (subst (λ (l : List Call). stands e (place_at c s) c.tags l) (sym (called_here h s call)) stood)
    (ap is_called (called_here h s call)) placed near all

-- what a value newly shows is what its slot newly delivers
newly_shown : (a b a2 b2 : Option (List ℕ)) → a ≡ a2 → b ≡ b2 → newly_there a2 b2 ≡ newly_there a b
newly_shown a b a2 b2 p q = cc

-- a value stands for the calls of a slot, whose broadcasts aren't dropped, whatever calls the map stands for
pub record IsThere {E : Type 0} (mode : Mode) (stands : E → Place → Tags → List Call → Type 0) (c : CastRules) (dropped : Slot → Bool) (s : Slot) (e : Cast E) (l : List Call) : Type 0 where
  pub stood : CastStandsAt mode stands e (place_at c s) c.tags l
  pub placed : s.origin < c.numbers.n
  pub near : dropped s ≡ false

abbrev pub StandsThere : {E : Type 0} → Mode → (E → Place → Tags → List Call → Type 0) → BroadcastRules → Numbers → ℕ → Tags → (Slot → Bool) → SlotMap (Cast E) → Slot → Cast E → Type 0
StandsThere mode stands rules numbers me tags dropped m s e = (h : Slot → List Call) → CastsStand (CastStandsAt mode stands) (casts_by mode numbers me tags rules) dropped m h
    → IsThere mode stands (casts_by mode numbers me tags rules) dropped s e (h s)

-- the value that is found there does, and where none is, one that had no calls
pub there_found : {E : Type 0} (mode : Mode) (stands : E → Place → Tags → List Call → Type 0) (rules : BroadcastRules) (numbers : Numbers) (me : ℕ) (tags : Tags) (dropped : Slot → Bool)
    (m : SlotMap (Cast E)) (s : Slot) (e : Cast E) → get m s ≡ Some e → StandsThere mode stands rules numbers me tags dropped m s e
there_found mode stands rules numbers me tags dropped m s e found h all = record {
  stood = all.made s e found;
  placed = all.placed s e found;
  near = kept_by (get m s) e (dropped s) (all.gone s) found;
}

pub there_new : {E : Type 0} (mode : Mode) (stands : E → Place → Tags → List Call → Type 0) (rules : BroadcastRules) (numbers : Numbers) (me : ℕ) (tags : Tags) (dropped : Slot → Bool)
    (m : SlotMap (Cast E)) (s : Slot) (e : Cast E) → get m s ≡ None → s.origin < numbers.n → dropped s ≡ false
    → CastStandsAt mode stands e (place_at (casts_by mode numbers me tags rules) s) tags [] → StandsThere mode stands rules numbers me tags dropped m s e
there_new mode stands rules numbers me tags dropped m s e none placed near fresh h all = record {
  stood = subst (λ (l : List Call). CastStandsAt mode stands e (place_at (casts_by mode numbers me tags rules) s) tags l) (sym (all.unmade s near none)) fresh;
  placed = placed;
  near = near;
}

-- an item given to the value at its slot is given to the map
module _ {E : Type 0} (mode : Mode) (stands : E → Place → Tags → List Call → Type 0) (rules : BroadcastRules) (live : E → Bool) (shown : E → CastShown)
    (shows : (e : E) (at : Place) (tags : Tags) (h : List Call) → stands e at tags h → (live e ≡ true) × ShowsCast rules at tags h (shown e))
    (values : ValueLaws rules) (numbers : Numbers) (me number : ℕ) (tags : Tags) (dropped : Slot → Bool) (m n : SlotMap (Cast E)) where
  abbrev Own : CastRules
  Own = casts_by mode numbers me tags rules

  abbrev AllStand : SlotMap (Cast E) → (Slot → List Call) → Type 0
  AllStand casts h = CastsStand (CastStandsAt mode stands) Own dropped casts h

  abbrev MayGive : Item → (Slot → List Call) → Type 0
  MayGive item h = CanTake (CastStandsAt mode stands) Own dropped number m item h

  module _ (item : Item) (old new : Cast E) (put : (q : Slot) → get n q ≡ cond (is_slot item.slot q) (Some new) (get m q)) where
    tagger_of : (h : Slot → List Call) → MayGive item h → IsTagger (place_at Own item.slot) tags (record { me = number; tags = tags })
    tagger_of h can = record { own = can.is_own.own; alike = record { digest = λ _. refl; entry = λ _ _ _ _ _ _ _. refl } }

    module _ (there : StandsThere mode stands rules numbers me tags dropped m item.slot old) (before after : List Msg) where
      pub casts_took : (d : Option (List ℕ)) →
          HearsItem (CastStands (route_of mode item.slot) stands) (rules_by (route_of mode item.slot) rules) (shown_by_cast shown)
          (record { me = number; tags = tags }) old new item before after (Ok (Took d)) →
          CastsHear (CastStandsAt mode stands) (shown_by_cast shown) Own dropped number m n item before after (Ok (Took d))
      casts_took d hears = record {
        grows = λ h can. casts_called (CastStandsAt mode stands) Own dropped m n h item.slot (Take item) new put
            (hears.takes.grows _ tags (h item.slot) (there h can.stood).stood (tagger_of h can) can.may) can.origin can.near can.stood;
        made = λ h can. hears.takes.made _ tags (h item.slot) (there h can.stood).stood (tagger_of h can) can.may;
        delivered = λ h can.
            newly_shown _ _ _ _
            (shows_at stands rules live shown shows (route_of mode item.slot) old (place_at Own item.slot) tags (h item.slot) (there h can.stood).stood).out
            (shows_at stands rules live shown shows (route_of mode item.slot) new (place_at Own item.slot) tags (Take item ∷ h item.slot)
            (hears.takes.grows _ tags (h item.slot) (there h can.stood).stood (tagger_of h can) can.may)).out
            ∙ sym hears.delivered;
        counts = λ h can. hears.takes.counts _ tags (h item.slot) (there h can.stood).stood (tagger_of h can) can.may;
      }

      casts_failed : (e : Mem) →
          HearsItem (CastStands (route_of mode item.slot) stands) (rules_by (route_of mode item.slot) rules) (shown_by_cast shown)
          (record { me = number; tags = tags }) old new item before after (Err e) →
          CastsHear (CastStandsAt mode stands) (shown_by_cast shown) Own dropped number m n item before after (Err e)
      casts_failed e hears = record {
        shows = λ h can.
            put_either mode stands rules live shown shows values numbers me tags dropped m n h item.slot new
            (stands_shown mode stands rules live shown shows values numbers me tags dropped m h can.stood) put (called h item.slot (Take item))
            (subst (λ (l : List Call). ((shown_by_cast shown new).out ≡ out_at_slot Own item.slot (h item.slot)) ⊎ ((shown_by_cast shown new).out ≡ out_at_slot Own item.slot l))
            (sym (called_here h item.slot (Take item)))
            (hears.shows (place_at Own item.slot) tags (h item.slot) (there h can.stood).stood (tagger_of h can) can.may));
        counts = λ h can. hears.counts _ tags (h item.slot) (there h can.stood).stood (tagger_of h can) can.may;
      }

    -- an item for a value that is there
    pub casts_hear : get m item.slot ≡ Some old → (before after : List Msg) (r : Result Taken Mem) →
        HearsItem (CastStands (route_of mode item.slot) stands) (rules_by (route_of mode item.slot) rules) (shown_by_cast shown)
        (record { me = number; tags = tags }) old new item before after r →
        CastsHear (CastStandsAt mode stands) (shown_by_cast shown) Own dropped number m n item before after r
    casts_hear found before after (Ok (Took d)) hears = casts_took (there_found mode stands rules numbers me tags dropped m item.slot old found) before after d hears
    casts_hear found before after (Ok Repeat) hears =
        let there = there_found mode stands rules numbers me tags dropped m item.slot old found in
        record {
          same = λ h all. casts_put (CastStandsAt mode stands) Own dropped m n h h item.slot new put (λ q _. refl)
              (hears.same _ tags (h item.slot) (there h all).stood) (all.used item.slot old found) (there h all).placed (there h all).near all;
          made = hears.out;
          counts = λ h can. hears.counts _ tags (h item.slot) (there h can.stood).stood (tagger_of h can) can.may;
        }
    casts_hear found before after (Err e) hears = casts_failed (there_found mode stands rules numbers me tags dropped m item.slot old found) before after e hears

  -- an item for a new value, which is kept where it took the item
  pub casts_new : (item : Item) (old new : Cast E) → ((q : Slot) → get n q ≡ cond (is_slot item.slot q) (Some new) (get m q)) →
      get m item.slot ≡ None → item.slot.origin < numbers.n → CastStandsAt mode stands old (place_at Own item.slot) tags [] →
      (before after : List Msg) (d : Option (List ℕ)) →
      HearsItem (CastStands (route_of mode item.slot) stands) (rules_by (route_of mode item.slot) rules) (shown_by_cast shown)
      (record { me = number; tags = tags }) old new item before after (Ok (Took d)) →
      CastsHear (CastStandsAt mode stands) (shown_by_cast shown) Own dropped number m n item before after (Ok (Took d))
  casts_new item old new put none placed fresh before after d hears =
      by (dropped item.slot) refl
    where
      by : (b : Bool) → dropped item.slot ≡ b → CastsHear (CastStandsAt mode stands) (shown_by_cast shown) Own dropped number m n item before after (Ok (Took d))
      by false near =
          casts_took item old new put (there_new mode stands rules numbers me tags dropped m item.slot old none placed near fresh) before after d hears
      by true past = record {
        grows = λ h can. absurd (both_ways (dropped item.slot) can.near past);
        made = λ h can. absurd (both_ways (dropped item.slot) can.near past);
        delivered = λ h can. absurd (both_ways (dropped item.slot) can.near past);
        counts = λ h can. absurd (both_ways (dropped item.slot) can.near past);
      }

  -- where it repeats one, which it never does, the new value isn't kept
  pub casts_again : (item : Item) (old new : Cast E) → get m item.slot ≡ None → CastStandsAt mode stands old (place_at Own item.slot) tags [] →
      (before after : List Msg) →
      HearsItem (CastStands (route_of mode item.slot) stands) (rules_by (route_of mode item.slot) rules) (shown_by_cast shown)
      (record { me = number; tags = tags }) old new item before after (Ok Repeat) →
      CastsHear (CastStandsAt mode stands) (shown_by_cast shown) Own dropped number m m item before after (Ok Repeat)
  casts_again item old new none fresh before after hears = record {
    same = λ h all. all;
    made = hears.out;
    counts = λ h can.
        hears.counts (place_at Own item.slot) tags (h item.slot)
        (subst (λ (l : List Call). CastStandsAt mode stands old (place_at Own item.slot) tags l) (sym (can.stood.unmade item.slot can.near none)) fresh)
        (record { own = can.is_own.own; alike = record { digest = λ _. refl; entry = λ _ _ _ _ _ _ _. refl } }) can.may;
  }

  -- an item for which no value could be made, or kept
  pub casts_unmade : (item : Item) → get m item.slot ≡ None → ((s : Slot) → get n s ≡ get m s) →
      CastsFail (CastStandsAt mode stands) (shown_by_cast shown) Own dropped number m n item
  casts_unmade item none same = record {
    shows = λ h can s near. inl (same_shown mode stands rules live shown shows values numbers me tags dropped m n h
        (stands_shown mode stands rules live shown shows values numbers me tags dropped m h can.stood) same s near);
    counts = λ h can.
        ap (λ (l : List Call). (Own.at_slot item.slot).repeats (place_at Own item.slot) tags l item) (can.stood.unmade item.slot can.near none)
        ∙ (laws_at mode rules values item.slot).repeats_nothing (place_at Own item.slot) tags item;
  }

  -- ---- a start
  abbrev MayBegin : Say → (Slot → List Call) → Type 0
  MayBegin say h = CanStart (CastStandsAt mode stands) Own dropped number m say h

  starter_of : (say : Say) (h : Slot → List Call) → MayBegin say h → IsTagger (place_at Own say.slot) tags (record { me = number; tags = tags })
  starter_of say h can = record { own = can.is_own.own; alike = record { digest = λ _. refl; entry = λ _ _ _ _ _ _ _. refl } }

  module _ (say : Say) (old new : Cast E) (there : StandsThere mode stands rules numbers me tags dropped m say.slot old)
      (put : (q : Slot) → get n q ≡ cond (is_slot say.slot q) (Some new) (get m q)) (value : List ℕ) where
    -- a value that wasn't started at its slot for want of memory shows there what it did
    pub casts_missed : (before after : List Msg) →
        Dies (CastStands (route_of mode say.slot) stands) (rules_by (route_of mode say.slot) rules) (is_cast_live live) (shown_by_cast shown)
        (record { me = number; tags = tags }) old new (Start value) (λ at tags h. MayStart at h) before after →
        StartsNone (CastStandsAt mode stands) (shown_by_cast shown) Own dropped number m n say
    casts_missed before after dies h can =
        let near = (dies.shows (place_at Own say.slot) tags (h say.slot) (there h can.stood).stood (starter_of say h can) can.may).out in
        let shown_there : (shown_by_cast shown new).out ≡ out_at_slot Own say.slot (h say.slot) = elim near [
          | inl e ↦ e
          | inr e ↦ e ∙ (laws_at mode rules values say.slot).out_start (place_at Own say.slot) tags (h say.slot) value
        ] in
        put_shown mode stands rules live shown shows values numbers me tags dropped m n h say.slot new
        (stands_shown mode stands rules live shown shows values numbers me tags dropped m h can.stood) put shown_there

    -- a value started at its slot is started in the map
    pub casts_start : value ≡ say.value → (before after : List Msg) →
        Starts (CastStands (route_of mode say.slot) stands) (rules_by (route_of mode say.slot) rules)
        (record { me = number; tags = tags }) old new value before after →
        StartsCast (CastStandsAt mode stands) Own dropped number m n say before after
    casts_start same before after started_it =
        let starts = subst (λ (v : List ℕ). Starts (CastStands (route_of mode say.slot) stands) (rules_by (route_of mode say.slot) rules)
        (record { me = number; tags = tags }) old new v before after) same started_it in
        record {
          grows = λ h can. casts_called (CastStandsAt mode stands) Own dropped m n h say.slot (Start say.value) new put
              (starts.grows _ tags (h say.slot) (there h can.stood).stood (starter_of say h can) can.may) (there h can.stood).placed (there h can.stood).near can.stood;
          made = λ h can. starts.made _ tags (h say.slot) (there h can.stood).stood (starter_of say h can) can.may;
        }

  -- a say for which no value could be made, or kept, or whose broadcast was started alone and wasn't
  pub casts_unstarted : (say : Say) → ((s : Slot) → get n s ≡ get m s) →
      StartsNone (CastStandsAt mode stands) (shown_by_cast shown) Own dropped number m n say
  casts_unstarted say same h can =
      same_shown mode stands rules live shown shows values numbers me tags dropped m n h
      (stands_shown mode stands rules live shown shows values numbers me tags dropped m h can.stood) same

-- a map with no values is that of no calls
no_value : {B : Type 0} (o : Option B) (b : B) → o ≡ None → o ≡ Some b → ⊥
no_value o b none found = let wrong = sym none ∙ found in cc

pub casts_nothing : {B : Type 0} (stands : B → Place → Tags → List Call → Type 0) (c : CastRules) (dropped : Slot → Bool) (m : SlotMap B) → m ≡ empty →
    CastsStand stands c dropped m (λ s. [])
casts_nothing {B} stands c dropped m is = record {
  made = λ s b found. absurd (no_value (get m s) b (none s) found);
  used = λ s b found. absurd (no_value (get m s) b (none s) found);
  placed = λ s b found. absurd (no_value (get m s) b (none s) found);
  gone = λ s past. none s;
  unmade = λ s near found. refl;
}
  where
    none : (s : Slot) → get m s ≡ None
    none s = ap (λ (x : SlotMap B). get x s) is ∙ get-empty slot_cmp s

-- a start at a slot whose broadcasts are dropped changes no value
module _ {B : Type 0} (stands : B → Place → Tags → List Call → Type 0) (c : CastRules) (dropped : Slot → Bool) (m : SlotMap B) where
  at_dropped : (P : Slot → List Call → Type 0) (h : Slot → List Call) (s q : Slot) (call : Call) (b : Bool) → is_slot s q ≡ b → (b ≡ true → P q (call ∷ h q)) → P q (h q) →
      P q (cond b (call ∷ h q) (h q))
  at_dropped P h s q call true here there other = there refl
  at_dropped P h s q call false here there other = other

  pub casts_dropped : (h : Slot → List Call) (s : Slot) (call : Call) → dropped s ≡ true → CastsStand stands c dropped m h → CastsStand stands c dropped m (called h s call)
  casts_dropped h s call past all = record {
    made = λ q e found. at_dropped (λ q l. stands e (place_at c q) c.tags l) h s q call (is_slot s q) refl
        (λ here. absurd (both_ways (dropped q) (kept_by (get m q) e (dropped q) (all.gone q) found) (past_at q here))) (all.made q e found);
    used = λ q e found. at_dropped (λ q l. is_called l ≡ true) h s q call (is_slot s q) refl (λ here. refl) (all.used q e found);
    placed = all.placed;
    gone = all.gone;
    unmade = λ q near none. at_dropped (λ q l. l ≡ []) h s q call (is_slot s q) refl
        (λ here. absurd (both_ways (dropped q) near (past_at q here))) (all.unmade q near none);
  }
    where
      past_at : (q : Slot) → is_slot s q ≡ true → dropped q ≡ true
      past_at q here = subst (λ (x : Slot). dropped x ≡ true) (same_slot s q here) past

  -- what becomes due by it doesn't depend on the calls before
  pub starts_alone : (number : ℕ) (say : Say) (before after : List Msg) → dropped say.slot ≡ true →
      ((h : List Call) → IsOwnTagger c number → MayStart (place_at c say.slot) h → after ≡ before ++ news_at c say.slot h (Start say.value)) →
      StartsCast stands c dropped number m m say before after
  starts_alone number say before after past made = record {
    grows = λ h can. casts_dropped h say.slot (Start say.value) past can.stood;
    made = λ h can. made (h say.slot) can.is_own can.may;
  }

-- a broadcast that is started alone puts out what the one with the slot's calls would
pub alone_news : {E : Type 0} (mode : Mode) (stands : E → Place → Tags → List Call → Type 0) (rules : BroadcastRules) → ValueLaws rules →
    (numbers : Numbers) (me number : ℕ) (tags : Tags) (say : Say) (old new : Cast E) →
    CastStandsAt mode stands old (place_at (casts_by mode numbers me tags rules) say.slot) tags [] →
    (value : List ℕ) → value ≡ say.value → (before after : List Msg) →
    Starts (CastStands (route_of mode say.slot) stands) (rules_by (route_of mode say.slot) rules) (record { me = number; tags = tags }) old new value before after →
    (h : List Call) → IsOwnTagger (casts_by mode numbers me tags rules) number → MayStart (place_at (casts_by mode numbers me tags rules) say.slot) h →
    after ≡ before ++ news_at (casts_by mode numbers me tags rules) say.slot h (Start say.value)
alone_news mode stands rules values numbers me number tags say old new fresh value same before after starts h own may =
    let c = casts_by mode numbers me tags rules in
    let at = place_at c say.slot in
    let tagger : IsTagger at tags (record { me = number; tags = tags }) = record { own = own.own; alike = record { digest = λ _. refl; entry = λ _ _ _ _ _ _ _. refl } } in
    starts.made at tags [] fresh tagger (record { own = may.own; once = refl })
    ∙ ap (λ (v : List ℕ). before ++ news_at c say.slot [] (Start v)) same
    ∙ ap (λ (ms : List Msg). before ++ ms) (sym ((laws_at mode rules values say.slot).start_alone at tags h say.value may.once))
