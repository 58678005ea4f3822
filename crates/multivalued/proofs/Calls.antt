-- What a call on a box does, by what may be given to it.
use Rattle.std.specs.Prelude.{◌≡◌, ℕ, ◌≤◌, Bool, true, false, ◌==◌, nat_le, if◌then◌else◌, List, [], ◌∷◌, ◌++◌, length, None, Result, Ok, Err, IfOk, refl}
use Rattle.std.proofs.Common.{sym, ◌∙◌, ap, ap₂, subst, inl, inr, arith}
use Rattle.std.proofs.lemmas.Bool.{and_parts, eqb-true, leb-true, ne_eqb}
use Rattle.ritas_base.specs.declared.bytes.Mem.{Mem}
use Rattle.ritas_base.specs.declared.slot.Slot.{Slot}
use Rattle.ritas_base.specs.declared.item.Say.{Say}
use Rattle.ritas_base.specs.Numbers.{Numbers, support_of}
use Rattle.ritas_base.specs.Slots.{within, has_count}
use Rattle.frame_codec.specs.Format.{Is}
use Rattle.frame_codec.specs.Grammar.{value}
use Rattle.frame_codec.specs.PartLaws.{vect_long}
use Rattle.layer_api.specs.Words.{Word, Ask, Hear, value_at, AllMet}
use Rattle.layer_api.specs.Calls.{IsCoin, WordDone}
use Rattle.layer_api.specs.Binary.{BinaryRules, Bench, BoxLaws, MayVote, MayBit}
use Rattle.layer_api.specs.FedLaws.{unasked}
use Rattle.layer_api.specs.PartLaws.{unheard}
use Rattle.layer_api.specs.Multi.{Scope, Desk, is_multi_slot, MayMulti, MayMultiHear, AreMulti}
use Rattle.layer_api.specs.MultiCalls.{ShowsMultiNear, MultiProposes, MultiHears}
use Rattle.multivalued.specs.Consensus.{vect_slot, bit_words, bench_of, multi_decision, multivalued}
use Rattle.multivalued.specs.Entries.{KeepsValues}
use Rattle.multivalued.specs.Tables.{IsTable, IsLong}
use Rattle.multivalued.specs.Laws.Inside.{bits_met}
use Rattle.multivalued.specs.Laws.Box.{multi_laws_law}
use Rattle.multivalued.specs.Parts.{IsMultiPart}
use Rattle.multivalued.specs.Holding.{BoxHolds, BoxHeard, StartsProposal, FollowsInit, FollowsVect, FollowsVote}
use Rattle.multivalued.specs.Opening.{part_opens}
use Rattle.multivalued.specs.Stands.{MultiStands, FollowsSlot, KeepsBox, MultiEnds, shown_decision, multi_shown, decided_shown, shows_multi}
use Rattle.multivalued.specs.declared.part.Part.{Part}
use Rattle.multivalued.specs.declared.table.Table.{Table}
use Rattle.multivalued.specs.declared.settling.Progress.{Progress}
use Rattle.multivalued.specs.declared.settling.Decision.TheVariants as decisions
use Rattle.multivalued.specs.declared.mvc.Mvc.{Mvc}
use Rattle.multivalued.proofs.HoldingLaws.{if_ok}
use Rattle.multivalued.proofs.Deciding.{decided_still}
use Rattle.multivalued.proofs.StepLaws.{words_are}

-- ---- slots and values

-- a slot of the instance that isn't of a step
plain_slot : (at : Scope) (s : Slot) (class : ℕ) → is_multi_slot at s ≡ true → s.class ≡ class → (class == 5) ≡ false
    → s ≡ record { class = class; a = at.a; attempt = at.attempt; bround = 0; step = 0; origin = s.origin }
plain_slot at s class e c other =
    let x = and_parts (within 3 5 s.class) _ e in
    let y = and_parts (s.a == at.a) _ x.1 in
    let z = and_parts (s.attempt == at.attempt) _ y.1 in
    let t = and_parts (has_count 200 s.class s.bround) _ z.1 in
    let f : (s.class == 5) ≡ false = ap (λ (k : ℕ). k == 5) c ∙ other in
    let bround : s.bround ≡ 0 = eqb-true s.bround 0 (sym (ap (λ (b : Bool). if b then within 1 200 s.bround else s.bround == 0) f) ∙ t.0) in
    let step : s.step ≡ 0 = eqb-true s.step 0 (sym (ap (λ (b : Bool). if b then within 1 3 s.step else s.step == 0) f) ∙ t.1) in
    same s.class s.a s.attempt s.bround s.step c (eqb-true s.a at.a y.0) (eqb-true s.attempt at.attempt z.0) bround step
  where
    same : (k a t r p : ℕ) → k ≡ class → a ≡ at.a → t ≡ at.attempt → r ≡ 0 → p ≡ 0
        → ◌≡◌ {A = Slot} (record { class = k; a = a; attempt = t; bround = r; step = p; origin = s.origin }) (record { class = class; a = at.a; attempt = at.attempt; bround = 0; step = 0; origin = s.origin })
    same k a t r p e f g h i = rw (e, f, g, h, i) refl

long_enough : (p : Numbers) (root : ℕ) (at : Scope) (k : ℕ) (v : List ℕ) → Is (value p root (vect_slot at k)) v → IsLong v
unfolding value
long_enough p root at k [] is = inl refl
long_enough p root at k (b ∷ bs) is = inr (vect_long p root (b ∷ bs) (ne_eqb (length (b ∷ bs)) 0 (λ e. omega (arith, e))) is)

-- a slot of the instance is of class 3, 4 or 5
pub classes : (at : Scope) (s : Slot) → is_multi_slot at s ≡ true → (3 ≤ s.class) × (s.class ≤ 5)
classes at s e =
    let x = and_parts (within 3 5 s.class) _ e in
    let y = and_parts (nat_le 3 s.class) _ x.0 in
    (leb-true 3 s.class y.0, leb-true s.class 5 y.1)

-- ---- what a slot delivered

module _ {B : Type 0} (stands : B → Bench → List Word → Type 0) (b : BinaryRules) (old new : Mvc B) (next : Progress) (before after : List Say) (at : Desk) (w : List Word) (s : Slot) (v : List ℕ)
    (may : MayMultiHear (multivalued b) at w s v) where
  abbrev Done : Slot → List ℕ → Type 0
  Done q x = BoxHeard stands b new next at w (Hear q x) before after

  pub by_init : s.class ≡ 3 → FollowsInit stands b old new next before after s.origin v → BoxHolds stands b old old.place at w → Done s v
  by_init three follows h =
      let e = plain_slot at.scope s 3 may.slot three refl in
      subst (λ (q : Slot). Done q v) (sym e) (follows at w h may.origin (ap (value_at w) (sym e) ∙ unheard w s may.first))

  pub by_vect : s.class ≡ 4 → FollowsVect stands b old new next before after s.origin v → BoxHolds stands b old old.place at w → Done s v
  by_vect four follows h =
      let e = plain_slot at.scope s 4 may.slot four refl in
      let long = long_enough at.scope.numbers at.scope.root at.scope s.origin v (subst (λ (q : Slot). Is (value at.scope.numbers at.scope.root q) v) e may.good) in
      subst (λ (q : Slot). Done q v) (sym e) (follows at w h long may.origin (ap (value_at w) (sym e) ∙ unheard w s may.first))

  -- a step's word is a vote of the binary instance
  is_vote : AreMulti (multivalued b) at w → s.class ≡ 5 → (vote : ℕ) × (v ≡ vote ∷ []) × MayVote b (bench_of at) (bit_words at.scope w) s vote
  is_vote met five =
      (subst (λ (u : List Word). AllMet (MayBit b (bench_of at)) u) (words_are stands b at w s v five) (bits_met b at.scope (λ i. at.coin) at.me (Hear s v ∷ w) (may, met))).0

  pub by_vote : (bits : Slot → Bool) (vote : ℕ) → AreMulti (multivalued b) at w → s.class ≡ 5 → IsCoin at.coin bits → ((x : ℕ) → v ≡ x ∷ [] → vote ≡ x)
      → FollowsVote stands b old new next before after bits s vote → BoxHolds stands b old old.place at w → Done s v
  by_vote bits vote met five coin read follows h =
      let m = is_vote met five in
      let same : vote ≡ m.0 = read m.0 m.1 in
      let whole : vote ∷ [] ≡ v = ap (λ (x : ℕ). x ∷ []) same ∙ sym m.1 in
      subst (λ (x : List ℕ). Done s x) whole (follows at w h coin (subst (λ (x : ℕ). MayVote b (bench_of at) (bit_words at.scope w) s x) (sym same) m.2))

-- ---- a word is put out

module _ {B : Type 0} (stands : B → Bench → List Word → Type 0) (b : BinaryRules) where
  abbrev Near : Desk → List Word → Word → Mvc B → Type 0
  Near at w c x = ShowsMultiNear (multivalued b) at w c (multi_shown x)

  -- where the progress stays, all is answered as before the call
  near : (x new : Mvc B) (at : Desk) (w : List Word) (c : Word) → MultiStands stands b x at w → new.part ≡ x.part → new.place ≡ x.place
      → KeepsValues x.table.entries.items new.table.entries.items → Near at w c new
  near x new at w c s part place values =
      let shows = (shows_multi stands b x at w s).1 in
      let decided = decided_still x.table.entries.items new.table.entries.items x.place.decided (multi_decision b at w) values s.holds.reached.decided in
      record {
        opens = λ q. inl (ap₂ (λ (p : Part) (n : Progress). part_opens p n q) part place ∙ shows.opens q);
        decision = inl (ap (λ (n : Progress). shown_decision new.table.entries.items n.decided) place ∙ decided_shown new.table.entries.items x.place.decided (multi_decision b at w) decided);
      }

  ok_at : (P : Progress → Type 0) (next : Result Progress Mem) (place : Progress) → next ≡ Ok place → IfOk next P → P place
  ok_at P next place e h = subst (λ (r : Result Progress Mem). IfOk r P) e h

  -- so far the box has come by the word, on the way to what is put out
  abbrev Follows : Mvc B → Mvc B → Word → (Desk → List Word → Type 0) → List Say → Progress → Type 0
  Follows x mid c may made place =
      (at : Desk) (w : List Word) → MultiStands stands b x at w → may at w → BoxHeard stands b mid place at w c [] made

  word_done : (x mid new : Mvc B) (c : Word) (may : Desk → List Word → Type 0) (next : Result Progress Mem) (made before after : List Say) (result : Result (Unit {0}) Mem)
      → ((at : Desk) (w : List Word) → may at w → MayMulti (multivalued b) at w c) → KeepsBox x mid → IfOk next (Follows x mid c may made) → MultiEnds mid new next made before after result
      → WordDone (MultiStands stands b) (multivalued b).says (λ at w d y. Near at w d y) (λ y. y.live) x new c may before after result
  word_done x mid new c may next made before after (Err e) meets keeps follows ends = record {
    out = ends.1;
    dead = ap (λ (y : Mvc B). y.live) ends.0;
    shows = λ at w s m. near x new at w c s
        (ap (λ (y : Mvc B). y.part) ends.0 ∙ keeps.part)
        (ap (λ (y : Mvc B). y.place) ends.0 ∙ keeps.place)
        (subst (λ (y : Mvc B). KeepsValues x.table.entries.items y.table.entries.items) (sym ends.0) keeps.values);
  }
  word_done x mid new c may next made before after (Ok u) meets keeps follows ends =
      let place = ends.0 in
      let heard = ok_at (Follows x mid c may made) next place ends.1 follows in
      record {
        grows = λ at w s m. subst (λ (y : Mvc B). MultiStands stands b y at (c ∷ w)) (sym ends.2) (record {
          met = (meets at w m, s.met);
          holds = let h = (heard at w s m).holds in record { part_is = h.part_is; known = h.known; reached = h.reached };
          live = keeps.live ∙ s.live;
        });
        made = λ at w s m. ends.3 ∙ ap (λ (ys : List Say). before ++ ys) (heard at w s m).made;
      }

  module _ (x mid new : Mvc B) (v : List ℕ) (next : Result Progress Mem) (none made before after : List Say) (result : Result (Unit {0}) Mem) (empty : none ≡ []) (keeps : KeepsBox x mid)
      (ends : MultiEnds mid new next made before after result) where
    -- a proposal
    pub proposes : IfOk next (λ place. StartsProposal stands b x mid place none made v) → MultiProposes (MultiStands stands b) (multivalued b) (λ y. y.live) multi_shown x new v before after result
    proposes starts =
        let may : Desk → List Word → Type 0 = λ at w. MayMulti (multivalued b) at w (Ask v) in
        word_done x mid new (Ask v) may next made before after result (λ at w m. m) keeps
        (if_ok next (λ place. StartsProposal stands b x mid place none made v) (Follows x mid (Ask v) may made)
        (λ place s at w h m. subst (λ (ys : List Say). BoxHeard stands b mid place at w (Ask v) ys made) empty (s at w h.holds (unasked w m.0))) starts)
        ends

    -- and what a slot delivered
    pub hears_slot : (bits : Slot → Bool) (s : Slot) → IfOk next (λ place. FollowsSlot stands b x mid place none made bits s v)
        → MultiHears (MultiStands stands b) (multivalued b) (λ y. y.live) multi_shown bits x new s v before after result
    hears_slot bits s follows =
        let may : Desk → List Word → Type 0 = λ at w. IsCoin at.coin bits × MayMulti (multivalued b) at w (Hear s v) in
        word_done x mid new (Hear s v) may next made before after result (λ at w m. m.1) keeps
        (if_ok next (λ place. FollowsSlot stands b x mid place none made bits s v) (Follows x mid (Hear s v) may made)
        (λ place f at w h m. subst (λ (ys : List Say). BoxHeard stands b mid place at w (Hear s v) ys made) empty (f at w h m.0 m.1)) follows)
        ends

-- ---- before any word

module _ {B : Type 0} (stands : B → Bench → List Word → Type 0) (b : BinaryRules) (laws : BoxLaws b) where
  no_round : (at : Bench) → b.round at [] ≡ 0
  no_round at = elim (laws.round_said at [] tt) [ inl z ↦ z | inr s ↦ absurd (let e : false ≡ true = s in cc) ]

  pub begins : (part : Part) (inner : B) (t : Table) (at : Desk) → IsMultiPart part at → IsTable at.scope.numbers.n (support_of at.scope.numbers) (λ k. None) (λ k. None) t → stands inner (bench_of at) []
      → MultiStands stands b (record { part = part; inner = inner; table = t; place = record { own = false; told = false; asked = false; round = 0; decided = decisions.NotYet }; live = true }) at []
  begins part inner t at is known stood = record {
    met = tt;
    holds = record {
      part_is = is;
      known = known;
      reached = record {
        owns = refl;
        told = refl;
        asked = refl;
        decided = (multi_laws_law b laws).decision_first at;
        round = sym (no_round (bench_of at));
        stood = stood;
      };
    };
    live = refl;
  }
