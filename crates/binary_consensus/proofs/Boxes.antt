-- A box stands for one word more.
use Rattle.std.proofs.Common.{◌≡◌, ℕ, zero, suc, ◌+◌, ◌-◌, ◌*◌, ◌/◌, ◌%◌, ◌<◌, ◌==◌, ◌&&◌, Bool, true, false, not, List, [], ◌∷◌, ◌++◌, length, Option, Some, None, is_some, is_none, option_map, if◌then◌else◌, inl, inr, refl, sym, ◌∙◌, ap, ap₂, subst, arith, append-nil}
use Rattle.std.specs.Option.{option_or}
use Rattle.std.proofs.lemmas.Bool.{cases_eq, both_ways}
use Rattle.ritas_base.specs.declared.slot.Slot.{Slot}
use Rattle.ritas_base.specs.declared.item.Say.{Say}
use Rattle.ritas_base.specs.Numbers.{Numbers, IsSession, wait_of}
use Rattle.ritas_base.specs.History.{replicas}
use Rattle.ritas_base.specs.Shortest.{option_or_none, option_or_older}
use Rattle.ritas_base.specs.Slots.{within}
use Rattle.layer_api.specs.Words.{Word, Ask, Hear, asked, is_heard, bit_byte}
use Rattle.layer_api.specs.Binary.{Bench, IsStepSlot, MayPropose, MayVote, vote_limit}
use Rattle.layer_api.specs.Calls.{IsCoin, WordTaken}
use Rattle.layer_api.specs.FedLaws.{some_if}
use Rattle.ritas_base.specs.Places.{listed}
use Rattle.binary_consensus.specs.Steps.{round_of, step_of, line_slot, heard, accepted}
use Rattle.binary_consensus.specs.Consensus.{proposed_vote, left, decides, next_vote, vote_said, decided_below, steps, steps_say_below, binary_decision, binary}
use Rattle.binary_consensus.specs.Laws.Stays.{steps_are, stays, unleft, next_none, said_down, silent, silent_above}
use Rattle.binary_consensus.specs.Counts.{byte_vote, row_votes, HeardRows, HearsOneVote}
use Rattle.binary_consensus.specs.Going.{own_step_slot, line_of, IsBinaryPart, AreRowsHeard, StandsAtStep, IsOver, IsHere, Passing, Done, LineGoesOn}
use Rattle.binary_consensus.specs.Stands.{BinaryStands}
use Rattle.binary_consensus.specs.declared.part.Part.{Part}
use Rattle.binary_consensus.specs.declared.place.Place.{Place}
use Rattle.binary_consensus.specs.declared.bin.Bin.{Bin}
use Rattle.binary_consensus.proofs.Turning.{rest, says_old, begins, begin, stay}
use Rattle.binary_consensus.proofs.RowCounts.{unheard_byte}
use Rattle.binary_consensus.proofs.Hearing.{unheard_row, heard_one_more}
use Rattle.binary_consensus.proofs.Moves.{own_is}

-- ---- a new box

listed_none : (ks : List ℕ) → listed {X = ℕ} (λ k. None) ks ≡ []
listed_none [] = refl
listed_none (k ∷ ks) = listed_none ks

decided_nothing : (at : Bench) (n : ℕ) → None ≡ decided_below at n []
decided_nothing at zero = refl
decided_nothing at (suc n) = ap₂ (λ (d : Option Bool) (l : Option (List ℕ)). option_or d (decides at.numbers n l)) (decided_nothing at n) (sym (unleft at n [] (silent at n)))

pub new_stands : (at : Bench) (b : Bin) → IsSession at.numbers → IsBinaryPart b.part b.line.numbers at → b.line.rows ≡ [] → b.place.said ≡ 0 → b.place.ended ≡ false
    → b.place.decided ≡ None → b.live ≡ true → BinaryStands b at []
new_stands at b session part votes said-is ended decided live = record {
  session = session;
  part = part;
  heard = λ unended. subst (λ (rs : List (List ℕ)). AreRowsHeard at rs []) (sym votes) (λ t k l m. ap byte_vote (unheard_byte 31 k));
  here = rw (said-is, ended) refl;
  decided = decided ∙ decided_nothing at steps;
  live = live;
}

-- ---- the proposal

-- what was proposed was asked
asked_some : (w : List Word) (v : ℕ) → proposed_vote w ≡ Some v → asked w ≡ 0 → ⊥
asked_some [] v q e = absurd cc
asked_some (Ask value ∷ w) v q e = omega (arith, e)
asked_some (Hear s value ∷ w) v q e = asked_some w v q e

said_asked : (at : Bench) (t : ℕ) (w : List Word) (v : ℕ) → vote_said at t w ≡ Some v → asked w ≡ 0 → ⊥
said_asked at zero w v q e = asked_some w v q e
said_asked at (suc t) w v q e = let d = said_down at t w v q in said_asked at t w d.0 d.1 e

here_asked : (at : Bench) (ended : Bool) (t : ℕ) (w : List Word) → IsHere at ended (suc t) w → asked w ≡ 0 → ⊥
here_asked at false t w h e = said_asked at t w h.value h.is_said e
here_asked at true t w h e = said_asked at t w h.value h.is_said e

-- a proposal comes once
pub proposed_before : (at : Bench) (ended : Bool) (n : ℕ) (w : List Word) → 0 < n → IsHere at ended n w → asked w ≡ 0 → ⊥
proposed_before at ended zero w l h e = omega (arith, l)
proposed_before at ended (suc t) w l h e = here_asked at ended t w h e

here_first : (at : Bench) (ended : Bool) (w : List Word) → IsHere at ended 0 w → w ≡ []
here_first at false w h = h
here_first at true w h = absurd h

pub proposes : (at : Bench) (old new : Bin) (w : List Word) (bit : Bool) (before after : List Say) → BinaryStands old at w → old.place.said ≡ 0
    → new.part ≡ old.part → new.line ≡ old.line → new.place.said ≡ 1 → new.place.ended ≡ false → new.place.decided ≡ None → new.live ≡ old.live
    → after ≡ before ++ record { slot = own_step_slot old.part 0; value = bit_byte bit ∷ [] } ∷ []
    → BinaryStands new at (Ask (bit_byte bit ∷ []) ∷ w) × (after ≡ before ++ steps_say_below at steps w (Ask (bit_byte bit ∷ [])))
proposes at old new w bit before after stands none part line said-is ended decided live pushed =
    let first : w ≡ [] = here_first at old.place.ended w (subst (λ (n : ℕ). IsHere at old.place.ended n w) none stands.here) in
    subst (λ (x : List Word). BinaryStands new at (Ask (bit_byte bit ∷ []) ∷ x) × (after ≡ before ++ steps_say_below at steps x (Ask (bit_byte bit ∷ [])))) (sym first) empty
  where
    c : Word
    c = Ask (bit_byte bit ∷ [])

    say : Say
    say = record { slot = line_slot at 0 at.me; value = bit_byte bit ∷ [] }

    passing : Passing at 0 (Ask (bit_byte bit ∷ [])) []
    passing = record { value = bit_byte bit; is_said = refl; not_left = unleft at 0 [] (silent at 0) }

    few : length (accepted at.numbers (heard at (Ask (bit_byte bit ∷ []) ∷ [])) 0) < wait_of at.numbers
    few =
        let e : length (listed {X = ℕ} (λ k. None) (replicas at.numbers.n)) ≡ 0 = ap (λ (vs : List ℕ). length vs) (listed_none (replicas at.numbers.n)) in
        let s = stands.session.enough in
        let n = stands.session.some in
        omega (arith, e, s, n)

    done : Done at 0 [] [] new.place (Ask (bit_byte bit ∷ [])) []
    done = stay at 0 [] (Ask (bit_byte bit ∷ [])) [] [] None 0 new.place said-is ended decided (omega arith) (begin at 0 [] (Ask (bit_byte bit ∷ [])) [] None passing refl) few

    nothing_out : (out : List Say) → [] ≡ [] ++ out → out ≡ []
    nothing_out out e = sym e

    says : steps_say_below at steps [] (Ask (bit_byte bit ∷ [])) ≡ record { slot = line_slot at 0 at.me; value = bit_byte bit ∷ [] } ∷ []
    says = done.says ∙ ap (λ (out : List Say). (let y : Say = record { slot = line_slot at 0 at.me; value = bit_byte bit ∷ [] } in y ∷ []) ++ out) (nothing_out done.out done.pushed)

    unheard : old.place.ended ≡ false → AreRowsHeard at old.line.rows w
    unheard = stands.heard

    is-first : w ≡ []
    is-first = here_first at old.place.ended w (subst (λ (n : ℕ). IsHere at old.place.ended n w) none stands.here)

    not_ended : (ended : Bool) → IsHere at ended 0 w → ended ≡ false
    not_ended false h = refl
    not_ended true h = absurd h

    heard-is : AreRowsHeard at new.line.rows (Ask (bit_byte bit ∷ []) ∷ [])
    heard-is =
        let unended = not_ended old.place.ended (subst (λ (n : ℕ). IsHere at old.place.ended n w) none stands.here) in
        let are : AreRowsHeard at old.line.rows [] = subst (λ (x : List Word). AreRowsHeard at old.line.rows x) is-first (stands.heard unended) in
        subst (λ (h : HeardRows). AreRowsHeard at h.rows (Ask (bit_byte bit ∷ []) ∷ [])) (sym line) (λ t k l m. are t k l m)

    empty : BinaryStands new at (Ask (bit_byte bit ∷ []) ∷ []) × (after ≡ before ++ steps_say_below at steps [] (Ask (bit_byte bit ∷ [])))
    empty = (
      record {
        session = stands.session;
        part = subst (λ (h : HeardRows). IsBinaryPart new.part h.numbers at) (sym line) (subst (λ (x : Part). IsBinaryPart x old.line.numbers at) (sym part) stands.part);
        heard = λ unended. heard-is;
        here = done.here;
        decided = done.decided;
        live = live ∙ stands.live;
      },
      pushed ∙ (ap (λ (s : Slot). before ++ (let y : Say = record { slot = s; value = bit_byte bit ∷ [] } in y ∷ [])) (own_is old.part old.line.numbers at 0 stands.part) ∙ ap (λ (ys : List Say). before ++ ys) (sym says)),
    )

pub takes_proposal : (old new : Bin) (bit : Bool) (before after : List Say) → old.place.said ≡ 0 → new.part ≡ old.part → new.line ≡ old.line → new.place.said ≡ 1
    → new.place.ended ≡ false → new.place.decided ≡ None → new.live ≡ old.live → after ≡ before ++ record { slot = own_step_slot old.part 0; value = bit_byte bit ∷ [] } ∷ []
    → WordTaken BinaryStands binary.says old new (Ask (bit_byte bit ∷ [])) (λ at w. MayPropose w) before after
takes_proposal old new bit before after none part line said-is ended decided live pushed = record {
  grows = λ at w stands may. (proposes at old new w bit before after stands none part line said-is ended decided live pushed).0;
  made = λ at w stands may. (proposes at old new w bit before after stands none part line said-is ended decided live pushed).1;
}

-- ---- a vote

-- a box that is over stays so, and says nothing
over_more : (at : Bench) (t : ℕ) (c : Word) (w : List Word) → IsOver at t w → (steps_say_below at steps w c ≡ []) × (binary_decision at (c ∷ w) ≡ binary_decision at w) × IsOver at t (c ∷ w)
over_more at t c w o =
    let s = stays at t c w o.value o.is_said in
    let left-is : left at t (c ∷ w) ≡ Some o.votes = option_or_older (left at t w) _ o.votes o.is_left in
    let leaves-are : left at t (c ∷ w) ≡ left at t w = left-is ∙ sym o.is_left in
    let next : decided_below at (suc t) (c ∷ w) ≡ decided_below at (suc t) w = ap₂ (λ (d : Option Bool) (l : Option (List ℕ)). option_or d (decides at.numbers t l)) s.1 leaves-are in
    let quiet : (steps_say_below at steps w c ≡ steps_say_below at (suc t) w c) × (binary_decision at (c ∷ w) ≡ decided_below at (suc t) (c ∷ w)) = elim o.ends [
      | inl f ↦
          let g : vote_said at (suc t) (c ∷ w) ≡ None =
          ap (λ (b : Bool). if b then None else option_map (next_vote at t) (left at t (c ∷ w))) (ap (λ (d : Option Bool). step_of t == 3 && is_some d) s.1 ∙ f) in
          let e = steps_are in
          let below = o.below in
          let r = rest at t c w g steps (omega (arith, e, below)) in
          (r.0, r.2)
      | inr e ↦ (ap (λ (m : ℕ). steps_say_below at m w c) (sym e), ap (λ (m : ℕ). decided_below at m (c ∷ w)) (sym e))
    ] in (
      quiet.0 ∙ says_old at t c w o.value o.is_said,
      quiet.1 ∙ (next ∙ sym o.is_decided),
      record {
        below = o.below;
        value = o.value;
        is_said = s.0;
        votes = o.votes;
        is_left = left-is;
        is_decided = quiet.1;
        ends = elim o.ends [ inl f ↦ inl (ap (λ (d : Option Bool). step_of t == 3 && is_some d) s.1 ∙ f) | inr e ↦ inr e ];
      },
    )

over_here : (at : Bench) (n : ℕ) (c : Word) (w : List Word) → IsHere at true n w → (steps_say_below at steps w c ≡ []) × (binary_decision at (c ∷ w) ≡ binary_decision at w) × IsHere at true n (c ∷ w)
over_here at zero c w h = absurd h
over_here at (suc t) c w h = over_more at t c w h

pub over_stands : (at : Bench) (b new : Bin) (c : Word) (w : List Word) (says : List Say) → new ≡ b → b.place.ended ≡ true → BinaryStands b at w
    → BinaryStands new at (c ∷ w) × (says ≡ says ++ steps_say_below at steps w c)
over_stands at b new c w says same ended stands =
    let h = over_here at b.place.said c w (subst (λ (e : Bool). IsHere at e b.place.said w) ended stands.here) in (
      subst (λ (x : Bin). BinaryStands x at (c ∷ w)) (sym same) (record {
        session = stands.session;
        part = stands.part;
        heard = λ unended. absurd (both_ways _ unended ended);
        here = subst (λ (e : Bool). IsHere at e b.place.said (c ∷ w)) (sym ended) h.2;
        decided = stands.decided ∙ sym h.1;
        live = stands.live;
      }),
      sym (append-nil says) ∙ ap (λ (ys : List Say). says ++ ys) (sym h.0),
    )

-- no vote comes before the proposal
pub no_early_vote : (at : Bench) (ended : Bool) (w : List Word) → IsHere at ended 0 w → asked w ≡ 1 → ⊥
no_early_vote at ended w h e =
    let z : asked [] ≡ 1 = subst (λ (x : List Word). asked x ≡ 1) (here_first at ended w h) e in
    omega (arith, z)

-- the slot of a vote is the step's at its origin
record IsOfStep (at : Bench) (s : Slot) (t : ℕ) : Type 0 where
  below : t < 600
  slot : s ≡ line_slot at t s.origin

slot_of_step : (at : Bench) (s : Slot) (t : ℕ) → IsStepSlot at s → line_of s ≡ Some t → IsOfStep at s t
slot_of_step at s t is e =
    let i = some_if (within 1 200 s.bround && within 1 3 s.step) (3 * (s.bround - 1) + (s.step - 1)) t e in
    let t-is : 3 * (s.bround - 1) + (s.step - 1) ≡ t = i.1 in
    let r1 = is.first_round in let r2 = is.last_round in let s1 = is.first_step in let s2 = is.last_step in
    let round : s.bround ≡ t / 3 + 1 = omega (arith, t-is, r1, s1, s2) in
    let step : s.step ≡ t % 3 + 1 = omega (arith, t-is, r1, s1, s2) in
    record {
      below = omega (arith, t-is, r1, r2, s1, s2);
      slot = same_fields s (record { class = 5; a = at.a; attempt = at.attempt; bround = round_of t; step = step_of t; origin = s.origin }) is.class is.number is.attempt round step refl;
    }
  where
    same_fields : (x y : Slot) → x.class ≡ y.class → x.a ≡ y.a → x.attempt ≡ y.attempt → x.bround ≡ y.bround → x.step ≡ y.step → x.origin ≡ y.origin → x ≡ y
    same_fields x y c a t r s o =
        ap (λ (k : ℕ). record { class = k; a = x.a; attempt = x.attempt; bround = x.bround; step = x.step; origin = x.origin }) c
        ∙ (ap (λ (k : ℕ). record { class = y.class; a = k; attempt = x.attempt; bround = x.bround; step = x.step; origin = x.origin }) a
        ∙ (ap (λ (k : ℕ). record { class = y.class; a = y.a; attempt = k; bround = x.bround; step = x.step; origin = x.origin }) t
        ∙ (ap (λ (k : ℕ). record { class = y.class; a = y.a; attempt = y.attempt; bround = k; step = x.step; origin = x.origin }) r
        ∙ (ap (λ (k : ℕ). record { class = y.class; a = y.a; attempt = y.attempt; bround = y.bround; step = k; origin = x.origin }) s
        ∙ ap (λ (k : ℕ). record { class = y.class; a = y.a; attempt = y.attempt; bround = y.bround; step = y.step; origin = k }) o))))

-- the votes heard with one more
heard_more : (at : Bench) (b : Bin) (w : List Word) (s : Slot) (t v : ℕ) (line : HeardRows) → BinaryStands b at w → b.place.ended ≡ false → MayVote binary at w s v
    → line_of s ≡ Some t → (s.origin < b.line.numbers.n → row_votes b.line.rows t s.origin ≡ None → v < vote_limit (step_of t) → HearsOneVote t s.origin v b.line line)
    → AreRowsHeard at line.rows (Hear s (v ∷ []) ∷ w) × (line.numbers ≡ b.line.numbers)
heard_more at b w s t v line stands unended may e hears =
    let is = slot_of_step at s t may.slot e in
    let slot = is.slot in
    let first = subst (λ (q : Slot). is_heard w q ≡ false) slot may.first in
    let free = unheard_row at b.line.rows w t s.origin (stands.heard unended) is.below may.origin first in
    let numbers = stands.part.numbers in
    let step : s.step ≡ step_of t = ap (λ (q : Slot). q.step) slot in
    let small : v < vote_limit (step_of t) = subst (λ (k : ℕ). v < vote_limit k) step may.value in
    let one = hears (subst (λ (p : Numbers). s.origin < p.n) (sym numbers) may.origin) free small in (
      subst (λ (q : Slot). AreRowsHeard at line.rows (Hear q (v ∷ []) ∷ w)) (sym slot) (heard_one_more at b.line line w t s.origin v (stands.heard unended) one first),
      one.numbers,
    )

-- above a step that is not left nothing is decided
stands_decision : (at : Bench) (t : ℕ) (w : List Word) → StandsAtStep at t w → (n : ℕ) → t < n → decided_below at n w ≡ decided_below at t w
stands_decision at t w s zero l = absurd (omega (arith, l))
stands_decision at t w s (suc n) l =
    elim (cases_eq n t) [
      | inl same ↦
          subst (λ (m : ℕ). decided_below at (suc m) w ≡ decided_below at t w) (sym same)
          (ap (λ (x : Option (List ℕ)). option_or (decided_below at t w) (decides at.numbers t x)) s.not_left ∙ option_or_none (decided_below at t w))
      | inr other ↦
          let none = unleft at n w (silent_above at (suc t) n w (next_none at t w s.not_left) (omega (arith, l, other))) in
          ap (λ (x : Option (List ℕ)). option_or (decided_below at n w) (decides at.numbers n x)) none
          ∙ (option_or_none (decided_below at n w) ∙ stands_decision at t w s n (omega (arith, l, other)))
    ]

pub vote_stands : (at : Bench) (b new : Bin) (w : List Word) (s : Slot) (t v : ℕ) (bits : Slot → Bool) (place : Place) (before after out : List Say)
    → BinaryStands b at w → b.place.ended ≡ false → (b.place.said ≡ 0 → ⊥) → IsCoin at.coin bits → MayVote binary at w s v → line_of s ≡ Some t
    → (s.origin < b.line.numbers.n → row_votes b.line.rows t s.origin ≡ None → v < vote_limit (step_of t) → HearsOneVote t s.origin v b.line new.line)
    → new.part ≡ b.part → new.live ≡ b.live → LineGoesOn b.part new.line bits b.place [] out new.place → after ≡ before ++ out
    → BinaryStands new at (Hear s (v ∷ []) ∷ w) × (after ≡ before ++ steps_say_below at steps w (Hear s (v ∷ [])))
vote_stands at b new w s t v bits place before after out stands unended some tosses may e hears part live goes pushed = go b.place.said refl stands.here
  where
    go : (n : ℕ) → b.place.said ≡ n → IsHere at b.place.ended b.place.said w
        → BinaryStands new at (Hear s (v ∷ []) ∷ w) × (after ≡ before ++ steps_say_below at steps w (Hear s (v ∷ [])))
    go zero q here = absurd (some q)
    go (suc start) q here =
        let heard = heard_more at b w s t v new.line stands unended may e hears in
        let at-start : StandsAtStep at start w = subst (λ (n : ℕ). IsHere at false n w) q (subst (λ (f : Bool). IsHere at f b.place.said w) unended here) in
        let begun = begins at start (Hear s (v ∷ [])) w at-start in
        let is : IsBinaryPart b.part new.line.numbers at = subst (λ (p : Numbers). IsBinaryPart b.part p at) (sym heard.1) stands.part in
        let all = steps_are in
        let below = at-start.below in
        let known : b.place.decided ≡ decided_below at start (Hear s (v ∷ []) ∷ w) =
        stands.decided ∙ (stands_decision at start w at-start steps (omega (arith, all, below)) ∙ sym (stays at start (Hear s (v ∷ [])) w at-start.value at-start.is_said).1) in
        let done = goes at (Hear s (v ∷ [])) w start is tosses heard.0 q below begun.0 known in (
          record {
            session = stands.session;
            part = subst (λ (x : Part). IsBinaryPart x new.line.numbers at) (sym part) is;
            heard = λ still. heard.0;
            here = done.here;
            decided = done.decided;
            live = live ∙ stands.live;
          },
          pushed ∙ (ap (λ (ys : List Say). before ++ ys) done.pushed ∙ ap (λ (ys : List Say). before ++ ys) (sym (done.says ∙ ap (λ (ys : List Say). ys ++ done.out) begun.1))),
        )

pub none_is : (o : Option Bool) (r : Bool) → is_some o ≡ not r → r ≡ is_none o
none_is None true e = refl
none_is None false e = absurd cc
none_is (Some b) true e = absurd cc
none_is (Some b) false e = refl
