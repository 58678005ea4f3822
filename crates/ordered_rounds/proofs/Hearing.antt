-- A value of atomic broadcast before any word, after an input, and as a command is heard.
use Rattle.std.specs.Prelude.{◌≡◌, ℕ, zero, suc, ◌<◌, ◌==◌, nat_lt, Bool, true, false, not, ◌&&◌, if◌then◌else◌, List, [], ◌∷◌, ◌++◌, Option, Some, None, is_some, unwrap_or, refl}
use Rattle.std.specs.List.{slice_get}
use Rattle.std.specs.declared.vec.Vec.{Vec}
use Rattle.std.proofs.Common.{sym, ◌∙◌, ap, ap₂, subst, arith}
use Rattle.std.proofs.lemmas.Bool.{and_right, eq-eqb}
use Rattle.ritas_base.specs.declared.id.Id.{Id}
use Rattle.ritas_base.specs.declared.slot.Slot.{Slot}
use Rattle.ritas_base.specs.declared.item.Say.{Say}
use Rattle.ritas_base.specs.Numbers.{Numbers, IsSession}
use Rattle.ritas_base.specs.SlotLaws.{right_command}
use Rattle.layer_api.specs.Service.{Seat, MayAsk, MayHear, has_id}
use Rattle.layer_api.specs.Words.{Word, Ask, Hear, is_heard}
use Rattle.layer_api.specs.Multi.{Desk}
use Rattle.ordered_rounds.specs.Box.{last_attempt, RoundRules, RoundLaws}
use Rattle.ordered_rounds.specs.BoxCalls.{RoundShown}
use Rattle.ordered_rounds.specs.Rounds.{says_input}
use Rattle.ordered_rounds.specs.Rounds.{delivered_ids, completes_with, round_desk, log_below, round_ask, round_words, complete_of, log_of, is_kept, rounds, ordered}
use Rattle.ordered_rounds.specs.Laws.WordsMeet.{round_nothing}
use Rattle.ordered_rounds.specs.Stepping.{current, log_now, heard_says}
use Rattle.ordered_rounds.specs.Laws.Stepping.{IsStill, no_ask}
use Rattle.ordered_rounds.specs.Ledger.{LedgerStands}
use Rattle.ordered_rounds.specs.Boxes.{box_at, Stood, BoxesStand}
use Rattle.ordered_rounds.specs.Waiting.{decision_in, Awaits, Knows}
use Rattle.ordered_rounds.specs.OrderedStands.{OrderedStands}
use Rattle.ordered_rounds.specs.Turning.{IsMidway, IsWaitKnown, IsNear}
use Rattle.ordered_rounds.specs.Laws.Getters.{AllShow}
use Rattle.ordered_rounds.specs.declared.boxes.Boxes.{Boxes}
use Rattle.ordered_rounds.specs.declared.ledger.Ledger.{Ledger}
use Rattle.ordered_rounds.specs.declared.ordered.Ordered.{Ordered}
use Rattle.ordered_rounds.proofs.Stepped.{delivered_heard}
use Rattle.ordered_rounds.proofs.Near.{shows_before}

-- ---- before any word

module _ (v : RoundRules) (laws : RoundLaws v) (seat : Seat) where
  never_completes : (before : Option (List Id)) (decided : Option (List ℕ)) → decided ≡ None → completes_with v seat before decided [] ≡ None
  never_completes None decided none = refl
  never_completes (Some log) decided none = ap (λ (d : Option (List ℕ)). completes_with v seat (Some log) d []) none

  none_below : (a : ℕ) → log_below v seat (suc a) [] ≡ None
  none_below a = never_completes (log_below v seat a []) (v.decision (round_desk v seat a) []) (laws.decision_first (round_desk v seat a))

  none_complete : (n : ℕ) → complete_of v seat n [] ≡ 0
  none_complete zero = refl
  none_complete (suc a) =
      ap (λ (o : Option (List Id)). if is_some o then suc a else complete_of v seat a []) (none_below a) ∙ none_complete a

  none_logged : (n : ℕ) → log_of v seat n [] ≡ []
  none_logged zero = refl
  none_logged (suc a) = ap (λ (o : Option (List Id)). unwrap_or o (log_of v seat a [])) (none_below a) ∙ none_logged a

-- ---- what it waits for

pub knows_awaits : {Z : Type 0} (v : RoundRules) (p : Numbers) (d : Option (List ℕ)) (o : Option (Vec Id Z)) → Knows v p d o → Awaits v p d o
knows_awaits v p d None k = tt
knows_awaits v p d (Some ids) k = k

module _ {V : Type 0} (stands : V → Desk → List Word → Type 0) (v : RoundRules) (laws : RoundLaws v) (live : V → Bool) (shown : V → RoundShown) (shows : AllShow stands v live shown) where
  none_stand : (b : Boxes V) (seat : Seat) (n : ℕ) → b.current ≡ None → b.older.items ≡ [] → BoxesStand stands v seat n (λ a. round_words v seat a []) b
  none_stand b seat n none older a zero e kept small = subst (λ (o : Option V). Stood stands o (round_desk v seat a) []) (sym none) refl
  none_stand b seat n none older a (suc k) e kept small =
      subst (λ (o : Option V). Stood stands o (round_desk v seat a) []) (sym (ap (λ (xs : List V). slice_get xs k) older)) refl

  pub begins : (x : Ordered V) (seat : Seat) → IsSession seat.numbers → x.place.numbers ≡ seat.numbers → x.place.version ≡ seat.mode.version → x.place.me ≡ seat.me → x.place.last ≡ last_attempt v seat.numbers → x.inputs ≡ 0 → x.live ≡ true
      → LedgerStands x.ledger [] [] → x.completed ≡ 0 → x.boxes.current ≡ None → x.boxes.older.items ≡ [] → x.waits ≡ None → OrderedStands stands v shown x seat []
  begins x seat session numbers version me last inputs alive ledger completed none older waits = record {
    seated = record { session = session; met = tt; numbers = numbers; version = version; me = me; last = last; inputs = inputs; live = alive };
    ledger = subst (λ (log : List Id). LedgerStands x.ledger [] log) (sym (none_logged v laws seat rounds)) ledger;
    completed = completed ∙ sym (none_complete v laws seat rounds);
    boxes = none_stand x.boxes seat (current v seat []) none older;
    begun =
        ap is_some none
        ∙ sym (and_right (nat_lt (current v seat []) rounds) _ (ap is_some (round_nothing seat (log_below v seat (current v seat [])))));
    waits = known x.waits waits;
  }
    where
      known : {Z : Type 0} (o : Option (Vec Id Z)) → o ≡ None → Knows v x.place.numbers (decision_in shown x.boxes.current) o
      known None e = ap (decision_in shown) none
      known (Some ids) e = absurd cc

  -- ---- where no round is asked and none becomes complete

  pub still_stands : (x : Ordered V) (seat : Seat) (w : List Word) (c : Word) → IsWaitKnown stands v shown x seat w c → IsStill v seat c w → OrderedStands stands v shown x seat (c ∷ w)
  still_stands x seat w c k still =
      let same = still.same in
      record {
        seated = k.mid.seated;
        ledger = subst (λ (log : List Id). LedgerStands x.ledger (delivered_ids (c ∷ w)) log) (sym still.log) k.mid.ledger;
        completed = k.mid.completed ∙ sym same;
        boxes = λ a j e few small.
            subst (λ (u : List Word). Stood stands (box_at x.boxes j) (round_desk v seat a) u) (sym (still.words a)) (k.mid.boxes a j (e ∙ same) (ap (λ (i : ℕ). is_kept seat.mode.version i a) (sym same) ∙ few) small);
        begun =
            k.mid.begun
            ∙ sym (ap₂ (λ (n : ℕ) (o : Option (List ℕ)). nat_lt n rounds && is_some o) same
            (ap (λ (n : ℕ). round_ask v seat n (c ∷ w)) same ∙ still.asks (current v seat w)));
        waits = k.knows;
      }

  -- ---- an input

  pub input_taken : (x y : Ordered V) (seat : Seat) (w : List Word) (u : List ℕ) → OrderedStands stands v shown x seat w → MayAsk (ordered v) seat w u
      → y ≡ record x { inputs = suc x.inputs } → OrderedStands stands v shown y seat (Ask u ∷ w)
  input_taken x y seat w u h may made =
      subst (λ (z : Ordered V). OrderedStands stands v shown z seat (Ask u ∷ w)) (sym made)
      (still_stands (record x { inputs = suc x.inputs }) seat w (Ask u) (record {
        mid = record {
          seated = record {
            session = h.seated.session;
            met = (may, h.seated.met);
            numbers = h.seated.numbers;
            version = h.seated.version;
            last = h.seated.last;
            me = h.seated.me;
            inputs = let i = h.seated.inputs in omega (arith, i);
            live = h.seated.live;
          };
          ledger = h.ledger;
          completed = h.completed;
          boxes = h.boxes;
          begun = h.begun;
          waits = knows_awaits v x.place.numbers (decision_in shown x.boxes.current) x.waits h.waits;
        };
        knows = h.waits;
      }) (no_ask v laws seat h.seated.session u w))

  pub input_says : (seat : Seat) (w : List Word) (u : List ℕ) → IsSession seat.numbers → (ordered v).says seat w (Ask u) ≡ says_input seat w (Ask u)
  input_says seat w u session = ap (λ (ys : List Say). says_input seat w (Ask u) ++ ys) ((no_ask v laws seat session u w).says)

  -- ---- a command

  module _ (x : Ordered V) (seat : Seat) (w : List Word) (s : Slot) (u : List ℕ) (h : OrderedStands stands v shown x seat w) (may : MayHear (ordered v) seat w s u) (one : s.class ≡ 1) where
    abbrev command : Id
    command = record { origin = s.origin; num = s.a }

    pub within : s.origin < 31
    within = let l = may.origin in let most = h.seated.session.most in omega (arith, l, most)

    pub is_new : has_id (delivered_ids w) command ≡ false
    is_new =
        delivered_heard v seat w h.seated.met command
        ∙ (ap (is_heard w) (sym (right_command seat.numbers seat.mode s may.right (eq-eqb s.class 1 one))) ∙ may.first)

    pub mid_command : (l : Ledger) → LedgerStands l (command ∷ delivered_ids w) (log_now v seat w) → IsMidway stands v shown (record x { ledger = l }) seat w (Hear s u)
    mid_command l stood = record {
      seated = record {
        session = h.seated.session;
        met = (may, h.seated.met);
        numbers = h.seated.numbers;
        version = h.seated.version;
        last = h.seated.last;
        me = h.seated.me;
        inputs = h.seated.inputs;
        live = h.seated.live;
      };
      ledger =
          subst (λ (b : Bool). LedgerStands l (if b then command ∷ delivered_ids w else delivered_ids w) (log_now v seat w)) (sym (eq-eqb s.class 1 one)) stood;
      completed = h.completed;
      boxes = λ a k e few small.
          subst (λ (b : Bool). Stood stands (box_at x.boxes k) (round_desk v seat a) ((if not b && s.a == a then Hear s u ∷ [] else []) ++ round_words v seat a w))
          (sym (eq-eqb s.class 1 one)) (h.boxes a k e few small);
      begun = h.begun;
      waits = knows_awaits v x.place.numbers (decision_in shown x.boxes.current) x.waits h.waits;
    }

    pub command_says : heard_says v seat w (Hear s u) ≡ []
    command_says = ap (λ (b : Bool). if b then [] else v.says (round_desk v seat s.a) (round_words v seat s.a w) (Hear s u)) (eq-eqb s.class 1 one)

    pub lost_command : (l : Ledger) → LedgerStands l (delivered_ids w) (log_now v seat w) → IsNear stands v shown (record x { ledger = l }) seat w (Hear s u)
    lost_command l stood =
        shows_before stands v laws live shown shows (record x { ledger = l }) seat w (Hear s u)
        (record {
          seated = record { session = h.seated.session; met = h.seated.met; numbers = h.seated.numbers; version = h.seated.version; me = h.seated.me; last = h.seated.last; inputs = h.seated.inputs; live = h.seated.live };
          ledger = stood;
          completed = h.completed;
          boxes = h.boxes;
          begun = h.begun;
          waits = h.waits;
        })
