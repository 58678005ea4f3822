-- The words of each round meet the conditions of its box.
use Rattle.std.specs.Prelude.{◌≡◌, ℕ, ◌<◌, Bool, true, false, not, ◌==◌, nat_lt, if◌then◌else◌, List, [], ◌∷◌, ◌++◌, Option, Some, None, refl}
use Rattle.std.specs.List.{AllByRecursion}
use Rattle.std.proofs.Common.{sym, ◌∙◌, ap, subst, arith}
use Rattle.std.proofs.lemmas.Bool.{and_parts, eqb-true, not-true}
use Rattle.ritas_base.specs.declared.slot.Slot.{Slot}
use Rattle.ritas_base.specs.declared.id.Id.{Id}
use Rattle.ritas_base.specs.Numbers.{Numbers, IsSession}
use Rattle.ritas_base.specs.Shortest.{option_or_older}
use Rattle.ritas_base.specs.Slots.{is_atomic}
use Rattle.frame_codec.specs.Limits.{longest_entry}
use Rattle.frame_codec.specs.Format.{Is, Plain}
use Rattle.frame_codec.specs.Grammar.{class2, ids, value}
use Rattle.frame_codec.specs.Values.{ids_bytes}
use Rattle.frame_codec.specs.IdLaws.{list_written}
use Rattle.layer_api.specs.Words.{Word, Ask, Hear}
use Rattle.layer_api.specs.Service.{Seat, MayHear, MayWord, AreProper}
use Rattle.layer_api.specs.Part.{passed}
use Rattle.layer_api.specs.Fed.{Play}
use Rattle.layer_api.specs.FedLaws.{Stays, shortest_at}
use Rattle.layer_api.specs.PartLaws.{part_heard, part_asked_still, Feeds, part_met}
use Rattle.ordered_rounds.specs.Box.{RoundRules, is_round_slot, MayRound, AreRound}
use Rattle.ordered_rounds.specs.Identifiers.{is_without}
use Rattle.ordered_rounds.specs.Rounds.{delivered_ids, pending, proposal, round_scope, round_desk, is_of_round, first_ids, begins_with, round_asked, log_below, round_ask, round_words, complete_of, round_opens, is_kept, rounds, ordered}
use Rattle.ordered_rounds.specs.Laws.Ordered.{kept_all, proposal_some, proposal_is}

-- ---- what a round is asked

-- it is asked once, and nothing before any word
pub round_stays : (seat : Seat) (before : List Word → Option (List Id)) → Stays (round_asked seat before)
round_stays seat before c w v q = option_or_older (round_asked seat before w) (begins_with seat (before (c ∷ w)) (c ∷ w)) v q

pub round_nothing : (seat : Seat) (before : List Word → Option (List Id)) → round_asked seat before [] ≡ None
round_nothing seat before = go (before [])
  where
    none_pending : (n : ℕ) (log : List Id) → first_ids n (pending [] log) ≡ None
    none_pending n log = refl

    go : (o : Option (List Id)) → begins_with seat o [] ≡ None
    go None = refl
    go (Some log) = none_pending seat.numbers.n log

-- identifiers of this session
abbrev pub AreOfSession : ℕ → List Id → Type 0
AreOfSession n xs = AllByRecursion (λ x. (x.origin < n) × (x.num < 1000000)) xs

-- a value of class 2 is an identifier list
class2_is : (p : Numbers) (root : ℕ) → is_atomic root ≡ true → class2 p root ≡ ids p.n
unfolding class2
class2_is p root atomic = ap (λ (b : Bool). if b then ids p.n else Plain 1 longest_entry) atomic

-- what is proposed first is a value of class 2
pub first_good : (p : Numbers) (root : ℕ) → is_atomic root ≡ true → IsSession p → (xs : List Id) (v : List ℕ) → AreOfSession p.n xs → first_ids p.n xs ≡ Some v
    → Is (class2 p root) v
first_good p root atomic session [] v all q = absurd cc
first_good p root atomic session (x ∷ xs) v all q =
    let least = session.some in
    let most = session.most in
    let same : ids_bytes (proposal p.n (x ∷ xs)) ≡ v = cc in
    subst (λ (u : List ℕ). Is (class2 p root) u) same
    (rw (class2_is p root atomic) (list_written p.n (proposal p.n (x ∷ xs)) (proposal_some p.n x xs least (omega (arith, most))) (proposal_is p.n (x ∷ xs) all)))

-- where a word meets its conditions, the numbers are those of a session, and the root service is that of the rounds
pub session_of : (v : RoundRules) (seat : Seat) (w : List Word) (c : Word) → MayWord (ordered v) seat w c → IsSession seat.numbers
session_of v seat w (Ask x) may = may.session
session_of v seat w (Hear s x) may = may.session

pub root_of : (v : RoundRules) (seat : Seat) (w : List Word) (c : Word) → MayWord (ordered v) seat w c → seat.mode.root ≡ v.root
root_of v seat w (Ask x) may = eqb-true seat.mode.root v.root may.served
root_of v seat w (Hear s x) may = eqb-true seat.mode.root v.root may.served

module _ (v : RoundRules) (seat : Seat) where
  -- identifiers that were delivered are of the session
  pub delivered_good : (w : List Word) → AreProper (ordered v) seat w → AreOfSession seat.numbers.n (delivered_ids w)
  delivered_good [] m = tt
  delivered_good (Ask x ∷ w) m = delivered_good w m.1
  delivered_good (Hear s x ∷ w) m = go (s.class == 1) (delivered_good w m.1)
    where
      go : (b : Bool) → AreOfSession seat.numbers.n (delivered_ids w)
          → AreOfSession seat.numbers.n (if b then record { origin = s.origin; num = s.a } ∷ delivered_ids w else delivered_ids w)
      go true ih = ((m.0.origin, m.0.number), ih)
      go false ih = ih

  -- so are those that are pending
  pub pending_good : (w : List Word) (log : List Id) → AreProper (ordered v) seat w → AreOfSession seat.numbers.n (pending w log)
  pending_good w log m = kept_all (λ y. (y.origin < seat.numbers.n) × (y.num < 1000000)) (is_without log) (delivered_ids w) (delivered_good w m)

module _ (v : RoundRules) (atomic : is_atomic v.root ≡ true) (seat : Seat) where
  -- what a round is asked is a value of class 2
  pub asked_good : (a : ℕ) (w : List Word) (x : List ℕ) → IsSession seat.numbers → AreProper (ordered v) seat w → round_ask v seat a w ≡ Some x
      → Is (class2 seat.numbers v.root) x
  asked_good a w x session m q =
      let t = shortest_at (AreProper (ordered v) seat) (λ c h g. g.1) (λ h. begins_with seat (log_below v seat a h) h) w x m q in
      go t.0 t.1 (log_below v seat a t.0) t.2
    where
      go : (h : List Word) → AreProper (ordered v) seat h → (o : Option (List Id)) → begins_with seat o h ≡ Some x → Is (class2 seat.numbers v.root) x
      go h m None q = absurd cc
      go h m (Some log) q = first_good seat.numbers v.root atomic session (pending h log) x (pending_good v seat h log m) q

  -- ---- the conditions of one word more

  -- a round that is asked by the next word is asked for the first time, and a value of class 2
  pub round_asks : (a : ℕ) (c : Word) (w : List Word) (x : List ℕ) → AreProper (ordered v) seat (c ∷ w) → round_ask v seat a w ≡ None
      → round_ask v seat a (c ∷ w) ≡ Some x → MayRound v (round_desk v seat a) (passed (is_of_round a) c ++ round_words v seat a w) (Ask x)
  round_asks a c w x m none now = (
    part_asked_still (round_ask v seat a) (is_of_round a) (round_stays seat (log_below v seat a)) (round_nothing seat (log_below v seat a)) c w none,
    asked_good a (c ∷ w) x (session_of v seat w c m.0) m now,
    refl,
  )

module _ (v : RoundRules) (seat : Seat) where
  -- a slot that isn't a command's is open in its round
  pub round_opened : (w : List Word) (s : Slot) → (s.class == 1) ≡ false → (ordered v).opens seat w s ≡ true → round_opens v seat w s ≡ true
  round_opened w s other e = sym (ap (λ (b : Bool). if b then true else round_opens v seat w s) other) ∙ e

  -- what a slot of a round delivered comes to the round's box, where the service may hear it
  pub round_hears : (a : ℕ) (s : Slot) (x : List ℕ) (w : List Word) → MayHear (ordered v) seat w s x → is_of_round a s ≡ true
      → MayRound v (round_desk v seat a) (round_words v seat a w) (Hear s x)
  round_hears a s x w h of =
      let u = and_parts (not (s.class == 1)) _ of in
      let same : s.a ≡ a = eqb-true s.a a u.1 in
      let o = and_parts (nat_lt s.a rounds) _ (round_opened w s (not-true (s.class == 1) u.0) h.is_open) in
      let t = and_parts (is_kept seat.mode.version (complete_of v seat rounds w) s.a) _ o.1 in
      let q = and_parts (is_round_slot v (round_scope v seat.numbers s.a) s) _ t.1 in
      record {
        slot = subst (λ (b : ℕ). is_round_slot v (round_scope v seat.numbers b) s ≡ true) same q.0;
        origin = h.origin;
        is_open = subst (λ (b : ℕ). v.opens (round_desk v seat b) (round_words v seat b w) s ≡ true) same q.1;
        first = part_heard (round_ask v seat a) (is_of_round a) w s h.first;
        good = subst (λ (r : ℕ). Is (value seat.numbers r s) x) (root_of v seat w (Hear s x) h) h.good;
        root = refl;
      }
  -- ---- all its words

module _ (v : RoundRules) (atomic : is_atomic v.root ≡ true) (seat : Seat) where
  -- the words of this seat, and those of its round
  abbrev words_here : Play
  words_here = record { said = λ i w. []; may = λ i w c. MayWord (ordered v) seat w c }

  abbrev words_inside : ℕ → Play
  words_inside a = record { said = λ i w. []; may = λ i w c. MayRound v (round_desk v seat a) w c }

  -- the words of the seat feed those of each of its rounds
  feeds_here : (a : ℕ) → Feeds words_here (words_inside a) (λ i. round_ask v seat a) (is_of_round a)
  feeds_here a = record {
    asks = λ i c w x m none now. round_asks v atomic seat a c w x m none now;
    hears = λ i s x w m of. round_hears v seat a s x w m.0 of;
  }

  -- a round's words met the conditions of its box
  pub round_met : (a : ℕ) (w : List Word) → AreProper (ordered v) seat w → AreRound v (round_desk v seat a) (round_words v seat a w)
  round_met a w m = part_met words_here (words_inside a) (λ i. round_ask v seat a) (is_of_round a) (feeds_here a) seat.me w m
