-- What a round appends was in the list that some correct replica proposed in the round; and each identifier of a log was appended
-- by a round, the first whose decision wants it.
use Rattle.std.specs.Prelude.{◌≡◌, ℕ, zero, suc, ◌<◌, Bool, true, false, not, ◌&&◌, ◌||◌, ◌==◌, List, [], ◌∷◌, Option, Some, refl}
use Rattle.std.proofs.Common.{sym, ◌∙◌, ap, ap₂, subst, inl, inr, arith}
use Rattle.std.proofs.lemmas.Bool.{and_parts, cases_Bool, both_ways}
use Rattle.ritas_base.specs.declared.slot.Slot.{Slot}
use Rattle.ritas_base.specs.declared.id.Id.{Id}
use Rattle.ritas_base.specs.declared.mode.Mode.{Mode}
use Rattle.ritas_base.specs.Numbers.{Numbers}
use Rattle.layer_api.specs.Runs.{ReplicaStep, calls_of, Has, IsEnough}
use Rattle.layer_api.specs.Words.{Word, Ask}
use Rattle.layer_api.specs.Service.{Seat, Instance, OfVector, Decision, has_id}
use Rattle.layer_api.specs.Fed.{IsFedRun}
use Rattle.layer_api.specs.PartLaws.{part_has}
use Rattle.layer_api.specs.OneLog.{Session, seat_at, service_play}
use Rattle.layer_api.specs.Proposals.{SaidList, IsAppendedBy}
use Rattle.ordered_rounds.specs.Box.{RoundRules, RoundLaws, OneRound, IsDecidedInside, WasInList}
use Rattle.ordered_rounds.specs.Identifiers.{passing_ids, is_without, append_ids}
use Rattle.ordered_rounds.specs.Rounds.{round_scope, round_desk, is_of_round, appended, log_below, complete_of, round_words, round_decides, rounds, ordered}
use Rattle.ordered_rounds.specs.Laws.WordsMeet.{round_stays, round_nothing}
use Rattle.ordered_rounds.specs.Laws.RoundRuns.{ask_round, round_run, round_fed, round_calls}
use Rattle.ordered_rounds.specs.Laws.OneLog.{completed_by, to_run}
use Rattle.ordered_rounds.specs.Laws.ListedIds.{kept_has, has_behind, append_still, append_has}
use Rattle.ordered_rounds.specs.Laws.LogsByRound.{log_earlier, log_complete}
use Rattle.ordered_rounds.specs.Laws.Proposed.{has_round, rounds_out}
use Rattle.ordered_rounds.specs.Appended.{WasProposed, AppendsProposed}

-- ---- what is appended

-- what is in a log that grew and wasn't before is among what was appended
grown : (xs log : List Id) (x : Id) → has_id (append_ids xs log) x ≡ true → has_id log x ≡ false → has_id xs x ≡ true
grown [] log x now none = absurd (both_ways (has_id log x) none now)
grown (y ∷ xs) log x now none =
    elim (cases_Bool (y.origin == x.origin && y.num == x.num)) [
      | inl here ↦ ap (λ (b : Bool). b || has_id xs x) here
      | inr other ↦
          let out : has_id (y ∷ log) x ≡ false = ap₂ (λ (b d : Bool). b || d) other none in
          ap (λ (b : Bool). b || has_id xs x) other ∙ grown xs (y ∷ log) x now out
    ]

-- who is wanted stands in the log afterwards
stands_then : (v : RoundRules) (p : Numbers) (decided : List ℕ) (old : List Id) (x : Id)
    → has_id (v.wanted p decided) x ≡ true → has_id (appended v p decided old) x ≡ true
stands_then v p decided old x h =
    let new = passing_ids (is_without old) (v.wanted p decided) in
    elim (cases_Bool (has_id old x)) [
      | inl there ↦ append_still new old x there
      | inr out ↦
          append_has new old x
          (kept_has (is_without old) (v.wanted p decided) x ∙ ap₂ (λ (a b : Bool). not a && b) out h)
    ]

module _ (v : RoundRules) (laws : RoundLaws v) (one : OneRound v) (p : Numbers) (mode : Mode) (is_correct : ℕ → Bool) (coins : ℕ → Slot → Bool)
    (enough : IsEnough p is_correct) (xs : List (ReplicaStep Word))
    (fed : IsFedRun (service_play (record { rules = ordered v; numbers = p; mode = mode; is_correct = is_correct; coins = coins })) is_correct xs) where
  abbrev group : Session
  group = record { rules = ordered v; numbers = p; mode = mode; is_correct = is_correct; coins = coins }

  abbrev seat : ℕ → Seat
  seat i = seat_at group i

  abbrev words : ℕ → List Word
  words i = calls_of i xs

  -- what an instance of a round decided
  abbrev inside : ℕ → ℕ → Instance → Option Decision
  inside a i = v.inside (round_desk v (seat i) a) (round_words v (seat i) a (words i))

  -- the run of a round
  abbrev pub run : ℕ → List (ReplicaStep Word)
  run a = round_run v laws p mode is_correct coins enough.session a xs

  -- what a round decided that wants an identifier
  pub record Wants (a i : ℕ) (x : Id) : Type 0 where
    pub decision : List ℕ
    pub decides : round_decides v (seat i) a (words i) ≡ Some decision
    pub wants : has_id (v.wanted p decision) x ≡ true

  -- an identifier that a round appends is one that its decision wants
  pub wanted_by : (a i : ℕ) (before after : List Id) (x : Id) → log_below v (seat i) a (words i) ≡ Some before
      → log_below v (seat i) (suc a) (words i) ≡ Some after → has_id after x ≡ true → has_id before x ≡ false → Wants a i x
  wanted_by a i before after x q r now none =
      let c = completed_by v laws one p mode is_correct coins enough xs fed a i after r in
      let wanted = v.wanted p c.vector in
      let old : c.old ≡ before = some_same c.old before (sym c.there ∙ q) in
      let new = passing_ids (is_without c.old) wanted in
      let is : has_id (append_ids new c.old) x ≡ true = ap (λ (l : List Id). has_id l x) c.whole ∙ now in
      let g = grown new c.old x is (ap (λ (l : List Id). has_id l x) old ∙ none) in
      record {
        decision = c.vector;
        decides = c.decides;
        wants = (and_parts (is_without c.old x) (has_id wanted x) (sym (kept_has (is_without c.old) wanted x) ∙ g)).1;
      }
    where
      some_same : (l m : List Id) → Some l ≡ Some m → l ≡ m
      some_same l m e = cc

  -- which was in a correct replica's list
  pub listed_by : (a i : ℕ) (x : Id) → is_correct i ≡ true → Wants a i x
      → WasInList v (round_scope v p a) is_correct coins (run a) x
  listed_by a i x ci b =
      one.listed (round_scope v p a) is_correct coins (run a) enough refl
      (round_fed v laws p mode is_correct coins enough.session a xs fed) i b.decision x ci
      (to_run v laws one p mode is_correct coins enough xs fed a i b.decision b.decides) b.wants

  pub was_proposed : (a i : ℕ) (before after : List Id) (x : Id) → is_correct i ≡ true
      → log_below v (seat i) a (words i) ≡ Some before → log_below v (seat i) (suc a) (words i) ≡ Some after
      → has_id after x ≡ true → has_id before x ≡ false → WasProposed v group xs a x
  was_proposed a i before after x ci q r now none =
      let k = listed_by a i x ci (wanted_by a i before after x q r now none) in
      record {
        who = k.who;
        list = k.list;
        correct = k.correct;
        asked = part_has (ask_round v laws p mode is_correct coins enough.session a k.who) (is_of_round a)
            (round_stays (seat k.who) (log_below v (seat k.who) a)) (round_nothing (seat k.who) (log_below v (seat k.who) a))
            (words k.who) k.list
            (subst (λ (w : List Word). Has w (Ask k.list)) (round_calls v laws p mode is_correct coins enough.session a k.who xs) k.asked);
        stands = k.stands;
      }

  -- ---- by which round

  -- the round by which an identifier came into the log
  pub record CameBy (n i : ℕ) (x : Id) : Type 0 where
    pub round : ℕ
    pub before : List Id
    pub after : List Id
    pub less : round < n
    pub old : log_below v (seat i) round (words i) ≡ Some before
    pub new : log_below v (seat i) (suc round) (words i) ≡ Some after
    pub now : has_id after x ≡ true
    pub none : has_id before x ≡ false

  pub came_by : (n i : ℕ) (log : List Id) (x : Id) → log_below v (seat i) n (words i) ≡ Some log → has_id log x ≡ true → CameBy n i x
  came_by zero i log x q here =
      absurd (let e : [] ≡ log = cc in both_ways (has_id log x) (ap (λ (l : List Id). has_id l x) (sym e)) here)
  came_by (suc n) i log x q here =
      let c = completed_by v laws one p mode is_correct coins enough xs fed n i log q in
      elim (cases_Bool (has_id c.old x)) [
        | inl there ↦
            let t = came_by n i c.old x c.there there in
            let l = t.less in
            record {
              round = t.round;
              before = t.before;
              after = t.after;
              less = omega (arith, l);
              old = t.old;
              new = t.new;
              now = t.now;
              none = t.none;
            }
        | inr out ↦
            record { round = n; before = c.old; after = log; less = omega arith; old = c.there; new = q; now = here; none = out }
      ]

  -- no earlier round's decision wants it
  pub not_earlier : (a b i : ℕ) (before : List Id) (x : Id) → b < a → log_below v (seat i) a (words i) ≡ Some before
      → has_id before x ≡ false
      → (decision : List ℕ) × (round_decides v (seat i) b (words i) ≡ Some decision) × (has_id (v.wanted p decision) x ≡ false)
  not_earlier a b i before x l q none =
      let e = log_earlier v (seat i) a (suc b) (words i) before (omega (arith, l)) q in
      let c = completed_by v laws one p mode is_correct coins enough xs fed b i e.old e.there in (
        c.vector,
        c.decides,
        elim (cases_Bool (has_id (v.wanted p c.vector) x)) [
          | inl wants ↦
              let now = stands_then v p c.vector c.old x wants in
              let there = has_behind e.part.0 e.old x (ap (λ (l : List Id). has_id l x) (sym c.whole) ∙ now) in
              absurd (both_ways (has_id before x) none (ap (λ (l : List Id). has_id l x) (sym e.part.1) ∙ there))
          | inr out ↦ out
        ],
      )

  -- ---- what its instance decided

  -- what a round decided, its instance did
  decided_inside : (a i : ℕ) (u : List ℕ) → round_decides v (seat i) a (words i) ≡ Some u
      → IsDecidedInside v (round_desk v (seat i) a) (round_words v (seat i) a (words i)) u
  decided_inside a i u q = laws.inside_decided (round_desk v (seat i) a) (round_words v (seat i) a (words i)) u q

  of_instance : (a i : ℕ) (d : Decision) → inside a i (v.rounds.instance a) ≡ Some d
      → (ordered v).decided (seat i) (words i) (v.rounds.instance a) ≡ Some d
  of_instance a i d q =
      subst (λ (b : ℕ). inside b i (v.rounds.instance a) ≡ Some d) (sym (laws.instance_of a)) q

  -- no earlier round's instance wants it
  first_by : (a b i : ℕ) (before : List Id) (x : Id) → b < a → log_below v (seat i) a (words i) ≡ Some before → has_id before x ≡ false
      → (d : Decision) × ((ordered v).decided (seat i) (words i) (v.rounds.instance b) ≡ Some d) × (v.rounds.wants p d x ≡ false)
  first_by a b i before x l q none =
      let e = not_earlier a b i before x l q none in
      let d = decided_inside b i e.0 e.1 in
      (d.decision, of_instance b i d.decision d.decides, d.wants x ∙ e.2)

  -- each identifier of a log was appended by a round
  pub was_appended : (i : ℕ) (x : Id) → is_correct i ≡ true → has_id ((ordered v).done (seat i) (words i)) x ≡ true
      → IsAppendedBy v.rounds p is_correct (SaidList (service_play group) xs) ((ordered v).decided (seat i) (words i))
      ((ordered v).completed (seat i) (words i)) x
  was_appended i x ci here =
      let t = came_by (complete_of v (seat i) rounds (words i)) i ((ordered v).done (seat i) (words i)) x
      (log_complete v (seat i) rounds (words i)) here in
      let w = wanted_by t.round i t.before t.after x t.old t.new t.now t.none in
      let d = decided_inside t.round i w.decision w.decides in
      let k = listed_by t.round i x ci w in
      let less = has_round v laws one p mode is_correct coins enough xs fed t.round i (v.rounds.instance t.round) d.decision d.decides in
      record {
        round = t.round;
        decision = d.decision;
        complete = t.less;
        decides = of_instance t.round i d.decision d.decides;
        wanted = d.wants x ∙ w.wants;
        first = λ b l. first_by t.round b i t.before x l t.old t.none;
        who = k.who;
        list = k.list;
        correct = k.correct;
        asked = rounds_out v laws one p mode is_correct coins enough xs fed t.round less k.who (OfVector t.round) k.list k.said;
        stands = k.stands;
      }

pub appends_proposed : (v : RoundRules) → RoundLaws v → OneRound v → AppendsProposed v
appends_proposed v laws one p mode is_correct coins steps run a i before after x ci q r now none =
    was_proposed v laws one p mode is_correct coins run.enough steps run.fed a i before after x ci q r now none
