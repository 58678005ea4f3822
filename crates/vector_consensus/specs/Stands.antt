-- What a box stands for, and what its getters answer.
use Rattle.std.specs.Prelude.{◌≡◌, ℕ, suc, ◌<◌, ◌≤◌, Bool, true, false, ◌==◌, ◌&&◌, nat_lt, if◌then◌else◌, List, ◌++◌, length, Option, Some, None, is_some, Result, Ok, Err, refl}
use Rattle.std.specs.List.{slice_get}
use Rattle.std.proofs.Common.{sym, ◌∙◌, ap, ap₂, inl, inr, arith}
use Rattle.std.proofs.lemmas.Bool.{cases_Bool, cases_lt, lt-ltb, le-ltb}
use Rattle.ritas_base.specs.declared.bytes.Mem.{Mem}
use Rattle.ritas_base.specs.declared.slot.Slot.{Slot}
use Rattle.ritas_base.specs.declared.item.Say.{Say}
use Rattle.ritas_base.specs.Shortest.{not_there}
use Rattle.layer_api.specs.Words.{Word, Hear}
use Rattle.layer_api.specs.Calls.{IsCoin}
use Rattle.layer_api.specs.Part.{proposed}
use Rattle.layer_api.specs.Multi.{Desk, MultiRules, MultiLaws}
use Rattle.layer_api.specs.MultiCalls.{MultiShown, ShowsMulti}
use Rattle.layer_api.specs.Vectors.{MayVectorHear, is_slot_in, is_vector_slot}
use Rattle.layer_api.specs.VectorCalls.{VectorShown, ShowsVector}
use Rattle.std.specs.Option.{option_flatten}
use Rattle.vector_consensus.specs.Consensus.{try_desk, try_words, vector_opens, vectors}
use Rattle.vector_consensus.specs.Laws.Tries.{untold_words}
use Rattle.vector_consensus.specs.Laws.Box.{attempt_there, attempt_is}
use Rattle.vector_consensus.specs.Kept.{KeptProposals}
use Rattle.vector_consensus.specs.Begun.{there_is, vector_of_attempt, IsDecidingAttempt, AreAttemptsReached}
use Rattle.vector_consensus.specs.Holding.{AttemptsHold, AttemptsHeard, AreNear}
use Rattle.vector_consensus.specs.Opening.{attempt_opens, is_slot_allowed, attempts_open, attempt_few}
use Rattle.vector_consensus.specs.declared.going.Progress.{Progress}
use Rattle.vector_consensus.specs.declared.vc.Vc.{Vc}

-- the parts tell of the words, the getters' copies tell how far the attempts have come, and no call was without memory
pub record VectorStands {M : Type 0} (stands : M → Desk → List Word → Type 0) (m : MultiRules) (x : Vc M) (at : Desk) (w : List Word) : Type 0 where
  pub holds : AttemptsHold stands m x.part at w x.place.own x.table x.tries.items
  pub reached : AreAttemptsReached m at w (length x.tries.items) x.place.own x.place
  pub live : x.live ≡ true

-- what a slot delivered is heard by the table and the attempts, and so far these then have come
abbrev pub HearsSlot : {M : Type 0} → (M → Desk → List Word → Type 0) → MultiRules → (Slot → Bool) → Vc M → Slot → List ℕ → KeptProposals → List M → Progress → List Say → List Say → Type 0
HearsSlot stands m bits old s v table new next before after =
    (at : Desk) (w : List Word) → VectorStands stands m old at w → IsCoin at.coin bits → MayVectorHear (vectors m) at w s v
    → AttemptsHeard stands m old.part at w (Hear s v) next table new before after

-- the attempts that began before show what they showed, or what they show with the word
abbrev pub NearSlot : {M : Type 0} → (M → Desk → List Word → Type 0) → MultiRules → (M → MultiShown) → (Slot → Bool) → Vc M → Slot → List ℕ → List M → Type 0
NearSlot stands m shown bits old s v new =
    (at : Desk) (w : List Word) → VectorStands stands m old at w → IsCoin at.coin bits → MayVectorHear (vectors m) at w s v → AreNear shown m at w (Hear s v) old.tries.items new

-- the getters' copies stay
pub record KeepsCopies {M : Type 0} (old new : Vc M) : Type 0 where
  pub part : new.part ≡ old.part
  pub place : new.place ≡ old.place

-- what was said is put out and the progress is the new one, or nothing is put out and the box is live no more
abbrev pub VectorEnds : {M : Type 0} → Vc M → Vc M → Result Progress Mem → List Say → List Say → List Say → Result (Unit {0}) Mem → Type 0
VectorEnds old new next made before after (Ok u) = (place : Progress) × (next ≡ Ok place) × (new ≡ record old { place = place }) × (after ≡ before ++ made)
VectorEnds old new next made before after (Err e) = (new ≡ record old { live = false }) × (after ≡ before)

-- ---- the getters

-- the vector that the attempt there decided
abbrev pub vector_in : {M : Type 0} → (M → MultiShown) → Option ℕ → List M → Option (List ℕ)
vector_in shown None ts = None
vector_in shown (Some k) ts = vector_of_attempt shown (slice_get ts k)

-- an attempt's number is a byte
abbrev pub as_byte : Option ℕ → Option ℕ
as_byte None = None
as_byte (Some k) = if nat_lt k 256 then Some k else None

abbrev pub vector_shown : {M : Type 0} → (M → MultiShown) → Vc M → VectorShown
vector_shown shown x = record {
  opens = attempts_open shown x.part x.place x.tries.items;
  decision = vector_in shown x.place.decided x.tries.items;
  attempt = as_byte x.place.decided;
  spent = x.place.spent;
}

module _ {M : Type 0} (stands : M → Desk → List Word → Type 0) (m : MultiRules) (laws : MultiLaws m) (live : M → Bool) (shown : M → MultiShown)
    (shows : (b : M) (at : Desk) (w : List Word) → stands b at w → (live b ≡ true) × ShowsMulti m at w (shown b)) where
  -- an attempt that began shows what the rules say of its words
  pub shown_is : (x : Vc M) (at : Desk) (w : List Word) → VectorStands stands m x at w → (k : ℕ) (b : M) → slice_get x.tries.items k ≡ Some b
      → ShowsMulti m (try_desk at k) (try_words m at k w) (shown b)
  shown_is x at w h k b is = (shows b (try_desk at k) (try_words m at k w) (h.holds.each k b is)).1

  -- one that didn't begin takes nothing
  pub nothing_open : (x : Vc M) (at : Desk) (w : List Word) → VectorStands stands m x at w → (k : ℕ) → length x.tries.items ≤ k → k ≤ at.scope.numbers.f → (s : Slot)
      → m.opens (try_desk at k) (try_words m at k w) s ≡ false
  nothing_open x at w h k l most s =
      ap (λ (u : List Word). m.opens (try_desk at k) u s) (untold_words m laws at k w h.holds.met (h.holds.begun.unasked k l most)) ∙ laws.opens_first (try_desk at k) s

  try_opens : (x : Vc M) (at : Desk) (w : List Word) → VectorStands stands m x at w → (s : Slot) → s.attempt ≤ at.scope.numbers.f
      → (nat_lt s.attempt x.place.begun && attempt_opens shown (slice_get x.tries.items s.attempt) s) ≡ m.opens (try_desk at s.attempt) (try_words m at s.attempt w) s
  try_opens x at w h s most =
      ap (λ (n : ℕ). nat_lt s.attempt n && attempt_opens shown (slice_get x.tries.items s.attempt) s) h.reached.begun
      ∙ elim (cases_lt s.attempt (length x.tries.items)) [
        | inl less ↦
            let b = there_is x.tries.items s.attempt less in
            ap₂ (λ (t : Bool) (o : Option M). t && attempt_opens shown o s) (lt-ltb s.attempt (length x.tries.items) less) b.1
            ∙ (shown_is x at w h s.attempt b.0 b.1).opens s
        | inr past ↦
            ap (λ (t : Bool). t && attempt_opens shown (slice_get x.tries.items s.attempt) s) (le-ltb s.attempt (length x.tries.items) past)
            ∙ sym (nothing_open x at w h s.attempt past most s)
      ]

  opens_is : (x : Vc M) (at : Desk) (w : List Word) → VectorStands stands m x at w → (s : Slot) → attempts_open shown x.part x.place x.tries.items s ≡ vector_opens m at w s
  opens_is x at w h s =
      ap₂ (λ (l a : ℕ). is_slot_in l a s && is_slot_allowed shown x.place x.tries.items s) h.holds.part_is.last h.holds.part_is.a
      ∙ where_true (is_vector_slot at.scope s) _ _ (λ of. elim (cases_Bool (s.class == 2)) [
        | inl two ↦
            ap (λ (t : Bool). if t then x.place.own else nat_lt s.attempt x.place.begun && attempt_opens shown (slice_get x.tries.items s.attempt) s) two
            ∙ (h.holds.owns ∙ sym (ap (λ (t : Bool). if t then is_some (proposed w) else m.opens (try_desk at s.attempt) (try_words m at s.attempt w) s) two))
        | inr other ↦
            ap (λ (t : Bool). if t then x.place.own else nat_lt s.attempt x.place.begun && attempt_opens shown (slice_get x.tries.items s.attempt) s) other
            ∙ (try_opens x at w h s (attempt_few at.scope s of other)
            ∙ sym (ap (λ (t : Bool). if t then is_some (proposed w) else m.opens (try_desk at s.attempt) (try_words m at s.attempt w) s) other))
      ])
    where
      where_true : (t a b : Bool) → (t ≡ true → a ≡ b) → (t && a) ≡ (t && b)
      where_true true a b e = e refl
      where_true false a b e = refl

  decision_is : (x : Vc M) (at : Desk) (w : List Word) → VectorStands stands m x at w → vector_in shown x.place.decided x.tries.items ≡ (vectors m).decision at w
  decision_is x at w h = go x.place.decided h.reached.decided
    where
      go : (o : Option ℕ) → IsDecidingAttempt m at w (length x.tries.items) o → vector_in shown o x.tries.items ≡ (vectors m).decision at w
      go None d = sym d
      go (Some k) d =
          let b = there_is x.tries.items k d.0 in
          ap (vector_of_attempt shown) b.1 ∙ (ap option_flatten ((shown_is x at w h k b.0 b.1).decision ∙ d.1.1) ∙ sym d.1.2)

  pub attempt_at : (x : Vc M) (at : Desk) (w : List Word) → VectorStands stands m x at w → as_byte x.place.decided ≡ (vectors m).attempt at w
  attempt_at x at w h = go x.place.decided h.reached.decided
    where
      go : (o : Option ℕ) → IsDecidingAttempt m at w (length x.tries.items) o → as_byte o ≡ (vectors m).attempt at w
      go None d = sym (not_there ((vectors m).attempt at w) (attempt_there m at (suc at.scope.numbers.f) w ∙ ap is_some d))
      go (Some k) d =
          let l = d.0 in
          let few = h.holds.begun.few in
          let session = h.holds.part_is.session in
          let enough = session.enough in
          let most = session.most in
          let small : k < 256 = omega (arith, l, few, enough, most) in
          ap (λ (b : Bool). if b then Some k else None) (lt-ltb k 256 small)
          ∙ sym (attempt_is m at (suc at.scope.numbers.f) k w d.1.0 (omega (arith, l, few)) (h.holds.begun.failed k l) d.1.1)

  -- they answer what the rules say
  pub shows_vector : (x : Vc M) (at : Desk) (w : List Word) → VectorStands stands m x at w → (x.live ≡ true) × ShowsVector (vectors m) at w (vector_shown shown x)
  shows_vector x at w h = (h.live, record { opens = opens_is x at w h; decision = decision_is x at w h; attempt = attempt_at x at w h; spent = h.reached.spent })
