-- The words that the services of correct replicas had are a run.
use Rattle.std.proofs.Common.{◌≡◌, ℕ, Bool, true, false, cond, Option, Some, None, List, [], ◌∷◌, length, refl, sym, ◌∙◌, ap, subst, inl, inr}
use Rattle.std.proofs.Math.Dec.{eqb}
use Rattle.std.proofs.lemmas.Bool.{cond-true, cond-false, eq-eqb, eqb-true}
use Rattle.ritas_base.specs.declared.event.Event.{Event}
use Rattle.ritas_base.specs.declared.slot.Slot.{Slot}
use Rattle.ritas_base.specs.declared.item.Item.{Item}
use Rattle.ritas_base.specs.History.{Take, started}
use Rattle.layer_api.specs.Runs.{ReplicaStep, calls_of}
use Rattle.layer_api.specs.Service.{said, MayAsk, MayHear, AreProper}
use Rattle.layer_api.specs.Words.{Word, Ask, Hear, HasSay, value_at}
use Rattle.layer_api.specs.Fed.{Play, IsFed, IsFedRun}
use Rattle.layer_api.specs.OneLog.{Session, service_play}
use Rattle.ritas_core.specs.Rules.{seat_of, out_at_slot}
use Rattle.ritas_core.specs.Parts.{Entry, Took, Given, Parts, parts, heard_at, taken_at, item_delivers}
use Rattle.ritas_core.specs.Checks.{IsHistory}
use Rattle.ritas_core.specs.Machine.{CoreState}
use Rattle.ritas_core.specs.PartsLaws.{newly_before, newly_after}
use Rattle.ritas_core.specs.HeardLaws.{heard_delivered}
use Rattle.world_model.specs.declared.audit.Audit.TheVariants as audits
use Rattle.world_model.specs.World.{Setting, rules_at, CallAt, call_of, handled_at, after_call, states_of, states_before}
use Rattle.world_model.specs.Audit.{calls_at, has_too_many, first_broken, is_forged, is_colliding}
use Rattle.world_model.proofs.Histories.{grew}
use Rattle.world_model.proofs.Inputs.{take_started}
use Rattle.world_model.proofs.Worlds.{layer_laws, IsAtCorrect, event_at, judged_holds, world_after}
use Rattle.world_model.proofs.Law.{AgreeAt, agree_at}
use Rattle.world_model.proofs.Said.{delivers_now, GrowsTo, delivers_after, started_said}
use Rattle.world_model.proofs.Below.{IsSoundOver}

-- ---- the run of the service
abbrev pub session_of : Setting → Session
session_of w = record { rules = w.service; numbers = w.numbers; mode = w.mode; is_correct = w.is_correct; coins = w.coin }

abbrev words_at : Setting → (ℕ → CoreState) → ℕ → List Word
words_at w states k = (parts (rules_at w k) (states k).history).words

-- the values of its service
abbrev play_of : Setting → Play
play_of w = service_play (session_of w)

-- the words that correct replicas had are those of a run
pub record WordsAt (w : Setting) (states : ℕ → CoreState) : Type 0 where
  pub steps : List (ReplicaStep Word)
  pub fed : IsFedRun (play_of w) w.is_correct steps
  pub same : (k : ℕ) → w.is_correct k ≡ true → calls_of k steps ≡ words_at w states k

words_stay : (w : Setting) (before now : ℕ → CoreState) → ((k : ℕ) → (now k).history ≡ (before k).history) → WordsAt w before → WordsAt w now
words_stay w before now same x = record {
  steps = x.steps;
  fed = x.fed;
  same = λ k good. x.same k good ∙ ap (λ (h : List Entry). (parts (rules_at w k) h).words) (sym (same k));
}

-- replica i alone has one entry more
record IsOneMore (before now : ℕ → CoreState) (i : ℕ) (e : Entry) : Type 0 where
  mine : (now i).history ≡ e ∷ (before i).history
  rest : (k : ℕ) → eqb i k ≡ false → (now k).history ≡ (before k).history

word_same : (w : Setting) (before now : ℕ → CoreState) (i k : ℕ) (c : Word) (cs : List Word) (b : Bool) → eqb i k ≡ b → cs ≡ words_at w before k →
    words_at w now i ≡ c ∷ words_at w before i → (eqb i k ≡ false → (now k).history ≡ (before k).history) → cond b (c ∷ cs) cs ≡ words_at w now k
word_same w before now i k c cs true here old mine rest =
    ap (λ (ws : List Word). c ∷ ws) old ∙ sym (subst (λ (j : ℕ). words_at w now j ≡ c ∷ words_at w before j) (eqb-true i k here) mine)
word_same w before now i k c cs false here old mine rest = old ∙ ap (λ (h : List Entry). (parts (rules_at w k) h).words) (sym (rest here))

word_more : (w : Setting) (before now : ℕ → CoreState) (i : ℕ) → w.is_correct i ≡ true → (e : Entry) (c : Word) → IsOneMore before now i e →
    (parts (rules_at w i) (e ∷ (before i).history)).words ≡ c ∷ words_at w before i →
    (x : WordsAt w before) → IsFed (play_of w) w.is_correct x.steps i c → WordsAt w now
word_more w before now i correct e c more is x fed = record {
  steps = record { who = i; call = c } ∷ x.steps;
  fed = (correct, fed, x.fed);
  same = λ k good. word_same w before now i k c (calls_of k x.steps) (eqb i k) refl (x.same k good)
      (ap (λ (h : List Entry). (parts (rules_at w i) h).words) more.mine ∙ is) (more.rest k);
}

-- ---- what is heard
-- what others heard there is the same
heard_same : (w : Setting) → IsSoundOver w → (before now : ℕ → CoreState) → AgreeAt w now → (i : ℕ) → w.is_correct i ≡ true → (e : Entry) → IsOneMore before now i e →
    (s : Slot) (v : List ℕ) → out_at_slot (rules_at w i).casts s (calls_at w before i s) ≡ None → out_at_slot (rules_at w i).casts s (calls_at w now i s) ≡ Some v →
    (j : ℕ) (u : List ℕ) → w.is_correct j ≡ true → out_at_slot (rules_at w j).casts s (calls_at w before j s) ≡ Some u → (b : Bool) → eqb i j ≡ b → u ≡ v
heard_same w sound before now all i correct e more s v none out j u good out_j true here =
    let there : out_at_slot (rules_at w j).casts s (calls_at w before j s) ≡ None =
    subst (λ (k : ℕ). out_at_slot (rules_at w k).casts s (calls_at w before k s) ≡ None) (eqb-true i j here) none in
    absurd (cc)
heard_same w sound before now all i correct e more s v none out j u good out_j false here =
    all.agree s j i u v good correct (ap (λ (h : List Entry). out_at_slot (rules_at w j).casts s ((parts (rules_at w j) h).calls s)) (more.rest j here) ∙ out_j) out

-- and a correct origin started it before
heard_started : (w : Setting) (before now : ℕ → CoreState) → AgreeAt w now → (i : ℕ) → w.is_correct i ≡ true → (item : Item) → IsOneMore before now i (Took item) →
    (v : List ℕ) → w.is_correct item.slot.origin ≡ true →
    out_at_slot (rules_at w i).casts item.slot (Take item ∷ calls_at w before i item.slot) ≡ Some v →
    out_at_slot (rules_at w i).casts item.slot (calls_at w now i item.slot) ≡ Some v →
    GrowsTo (Take item ∷ calls_at w before i item.slot) (calls_at w now i item.slot) →
    (b : Bool) → eqb i item.slot.origin ≡ b → started (calls_at w before item.slot.origin item.slot) ≡ Some v
heard_started w before now all i correct item more v good taken out grows true here =
    let s = item.slot in
    let is = eqb-true i s.origin here in
    subst (λ (k : ℕ). started (calls_at w before k s) ≡ Some v) is
    (take_started true item (calls_at w before i s) v (all.own s i grows.0 (Take item ∷ calls_at w before i s) v correct is grows.1 taken))
heard_started w before now all i correct item more v good taken out grows false here =
    let s = item.slot in
    ap (λ (h : List Entry). started ((parts (rules_at w s.origin) h).calls s)) (sym (more.rest s.origin here)) ∙ all.genuine s i v correct good out

-- ---- an entry more
given_more : (w : Setting) (before now : ℕ → CoreState) (i : ℕ) → w.is_correct i ≡ true → (v : List ℕ) → IsOneMore before now i (Given v) →
    AreProper w.service (seat_of (rules_at w i)) (Ask v ∷ words_at w before i) → WordsAt w before → WordsAt w now
given_more w before now i correct v more proper x =
    word_more w before now i correct (Given v) (Ask v) more refl x
    (subst (λ (ws : List Word). MayAsk w.service (seat_of (rules_at w i)) ws v) (sym (x.same i correct)) proper.0, tt)

heard_more : (w : Setting) → IsSoundOver w → (before now : ℕ → CoreState) → AgreeAt w now → (i : ℕ) → w.is_correct i ≡ true → (item : Item) →
    IsOneMore before now i (Took item) → (d : Option (List ℕ)) → item_delivers (rules_at w i) item (parts (rules_at w i) (before i).history) ≡ d →
    AreProper w.service (seat_of (rules_at w i)) (heard_at (rules_at w i) item.slot d (taken_at item (parts (rules_at w i) (before i).history))).words →
    WordsAt w before → WordsAt w now
heard_more w sound before now all i correct item more None delivers proper x = record {
  steps = x.steps;
  fed = x.fed;
  same = λ k right. words_kept k right (eqb i k) refl;
}
  where
    p : Parts
    p = parts (rules_at w i) (before i).history

    mine : words_at w now i ≡ words_at w before i
    mine =
        ap (λ (h : List Entry). (parts (rules_at w i) h).words) more.mine
        ∙ ap (λ (d : Option (List ℕ)). (heard_at (rules_at w i) item.slot d (taken_at item p)).words) delivers

    words_kept : (k : ℕ) → w.is_correct k ≡ true → (b : Bool) → eqb i k ≡ b → calls_of k x.steps ≡ words_at w now k
    words_kept k right true here = x.same k right ∙ sym (subst (λ (j : ℕ). words_at w now j ≡ words_at w before j) (eqb-true i k here) mine)
    words_kept k right false here = x.same k right ∙ ap (λ (h : List Entry). (parts (rules_at w k) h).words) (sym (more.rest k here))
heard_more w sound before now all i correct item more (Some v) delivers proper x =
    let s = item.slot in
    let r = rules_at w i in
    let laws = layer_laws w sound i correct in
    let h = (before i).history in
    let p = parts r h in
    let none = newly_before (out_at_slot r.casts s (p.calls s)) (out_at_slot r.casts s (Take item ∷ p.calls s)) v delivers in
    let taken = newly_after (out_at_slot r.casts s (p.calls s)) (out_at_slot r.casts s (Take item ∷ p.calls s)) v delivers in
    let out : out_at_slot r.casts s (calls_at w now i s) ≡ Some v =
    ap (λ (h : List Entry). out_at_slot r.casts s ((parts r h).calls s)) more.mine ∙ delivers_now r laws h item v delivers in
    let grows : GrowsTo (Take item ∷ calls_at w before i s) (calls_at w now i s) =
    subst (λ (h : List Entry). GrowsTo (Take item ∷ calls_at w before i s) ((parts r h).calls s)) (sym more.mine) (delivers_after r h item v delivers) in
    word_more w before now i correct (Took item) (Hear s v) more
    (ap (λ (d : Option (List ℕ)). (heard_at r s d (taken_at item p)).words) delivers) x (
      subst (λ (ws : List Word). MayHear w.service (seat_of r) ws s v) (sym (x.same i correct)) proper.0,
      record {
        same = λ j u right heard.
            heard_same w sound before now all i correct (Took item) more s v none out j u right
            (sym (heard_delivered (rules_at w j) (layer_laws w sound j right).layers (before j).history s) ∙ ap (λ (ws : List Word). value_at ws s) (sym (x.same j right)) ∙ heard)
            (eqb i j) refl;
        said = λ right.
            subst (λ (ws : List Word). HasSay (said w.service (seat_of (rules_at w s.origin)) ws) (record { slot = s; value = v })) (sym (x.same s.origin right))
            (started_said (rules_at w s.origin) (before s.origin).history s v
            (heard_started w before now all i correct item more v right taken out grows (eqb i s.origin) refl));
      },
    )

entry_more : (w : Setting) → IsSoundOver w → (before now : ℕ → CoreState) → AgreeAt w now → (i : ℕ) → w.is_correct i ≡ true → (e : Entry) →
    IsOneMore before now i e → IsHistory (rules_at w i) (e ∷ (before i).history) → WordsAt w before → WordsAt w now
entry_more w sound before now all i correct (Took item) more met x =
    let r = rules_at w i in
    let laws = layer_laws w sound i correct in
    let h = (before i).history in
    heard_more w sound before now all i correct item more (item_delivers r item (parts r h)) refl
    (laws.core.proper r laws.layers (Took item ∷ h) met) x
entry_more w sound before now all i correct (Given v) more met x =
    let r = rules_at w i in
    let laws = layer_laws w sound i correct in
    let h = (before i).history in
    given_more w before now i correct v more (laws.core.proper r laws.layers (Given v ∷ h) met) x

-- ---- an event more
abbrev with_state : (ℕ → CoreState) → ℕ → CoreState → ℕ → CoreState
with_state states i st k = cond (eqb i k) st (states k)

same_history : (states : ℕ → CoreState) (i : ℕ) (st : CoreState) → st.history ≡ (states i).history → (k : ℕ) (b : Bool) → eqb i k ≡ b →
    (cond b st (states k)).history ≡ (states k).history
same_history states i st same k true here = subst (λ (j : ℕ). st.history ≡ (states j).history) (eqb-true i k here) same
same_history states i st same k false here = refl

one_more : (states : ℕ → CoreState) (i : ℕ) (st : CoreState) (e : Entry) → st.history ≡ e ∷ (states i).history → IsOneMore states (with_state states i st) i e
one_more states i st e is = record {
  mine = ap (λ (x : CoreState). x.history) (cond-true (eqb i i) st (states i) (eq-eqb i i refl)) ∙ is;
  rest = λ k apart. ap (λ (x : CoreState). x.history) (cond-false (eqb i k) st (states k) apart);
}

words_called : (w : Setting) → IsSoundOver w → (states : ℕ → CoreState) (c : Option CallAt) → IsAtCorrect w c → AgreeAt w (after_call w states c) →
    ((k : ℕ) → w.is_correct k ≡ true → IsHistory (rules_at w k) (after_call w states c k).history) → WordsAt w states → WordsAt w (after_call w states c)
words_called w sound states None correct all met x = x
words_called w sound states (Some c) correct all met x =
    let i = c.at in
    let st = (handled_at w states c).state in
    let now = with_state states i st in
    elim (grew (rules_at w i) (w.keys i) (states i) c.call) [
      | inl same ↦ words_stay w states now (λ k. same_history states i st same k (eqb i k) refl) x
      | inr grown ↦
          let more = one_more states i st grown.0 grown.1 in
          entry_more w sound states now all i correct grown.0 more
          (subst (λ (h : List Entry). IsHistory (rules_at w i) h) more.mine (met i correct)) x
    ]

pub words_after : (w : Setting) → IsSoundOver w → has_too_many w ≡ false → (es : List Event) → first_broken w es ≡ audits.Holds → WordsAt w (states_of w es)
unfolding states_of first_broken
words_after w sound few [] holds = record { steps = []; fed = tt; same = λ k correct. refl }
words_after w sound few (e ∷ es) holds =
    let before = judged_holds (first_broken w es) (is_forged w es e) (is_colliding w (e ∷ es)) (length es) holds in
    let found = states_before w es in
    words_called w sound found (call_of w found e) (event_at w found e) (agree_at w sound few (e ∷ es) holds)
    (world_after w sound (e ∷ es) holds).met (words_stay w (states_of w es) found (λ k. refl) (words_after w sound few es before.0))
