-- The frames that players make are honest where they come, and none of them is forged.
use Rattle.std.proofs.Common.{◌≡◌, ◌≢◌, ℕ, zero, suc, ◌<◌, ◌^◌, ◌-◌, Bool, true, false, not, ◌&&◌, ◌==◌, cond, List, [], ◌∷◌, length, map, take, Option, None, Result, Ok, Err, refl, sym, ◌∙◌, ap, subst, inl, inr}
use Rattle.std.specs.Str.{bytes_eq}
use Rattle.ritas_base.specs.declared.item.Kind.{Kind}
use Rattle.ritas_base.specs.declared.item.Kind.TheVariants.{Init, Hashes, Column}
use Rattle.ritas_base.specs.declared.item.Item.{Item}
use Rattle.ritas_base.specs.declared.item.Msg.{Msg}
use Rattle.ritas_base.specs.HistoryLaws.{kind_eq_is}
use Rattle.ritas_base.specs.Messages.{reaches, item_of, kind_eq}
use Rattle.ritas_base.specs.Numbers.{Numbers}
use Rattle.ritas_base.specs.declared.mode.FrameVersion.{FrameVersion}
use Rattle.ritas_base.specs.declared.mode.Mode.{Mode}
use Rattle.frame_codec.specs.declared.fault.BodyFault.{BodyFault}
use Rattle.frame_codec.specs.declared.fault.BodyFault.TheVariants as faults
use Rattle.frame_codec.specs.Body.{IsInGrammar, spelling, body_answer, head_answer, kind_answer}
use Rattle.layer_api.specs.Runs.{Has}
use Rattle.keyed_channel.specs.KeyRow.{KeyRow}
use Rattle.keyed_channel.specs.Lengths.{head_length, tag_length}
use Rattle.keyed_channel.specs.Frames.{Opening, opening, sealed}
use Rattle.keyed_channel.specs.FramesLaws.{opened_is}
use Rattle.keyed_channel.specs.declared.frame.OpenFault.{OpenFault}
use Rattle.ritas_core.specs.Rules.{Rules}
use Rattle.ritas_core.specs.Parts.{Entry, parts}
use Rattle.ritas_core.specs.Order.{new_messages, sent_to}
use Rattle.ritas_core.specs.Checks.{IsHistory}
use Rattle.ritas_core.specs.Laws.{is_due}
use Rattle.ritas_core.specs.Machine.{CoreState}
use Rattle.replica.specs.Frames.{body_of, made_for}
use Rattle.replica.specs.Handling.{Frame}
use Rattle.world_model.specs.World.{Setting, rules_at}
use Rattle.world_model.specs.Audit.{has_made, is_forged_opening, is_forged_call}
use Rattle.world_model.specs.Players.{Cast, frames_shown_as, thrown}
use Rattle.world_model.specs.Forging.{IsFaceView}
use Rattle.world_model.proofs.Anywhere.{any_of, mapped_from}
use Rattle.world_model.proofs.HashedSteps.{bytes_itself}
use Rattle.world_model.proofs.Members.{has_passing}
use Rattle.world_model.proofs.Sent.{sealed_from, made_sent, new_due}
use Rattle.world_model.proofs.Worlds.{read_as, one_item}
use Rattle.world_model.proofs.Below.{IsFounded, founded_at}
use Rattle.world_model.proofs.Fair.{IsFair}
use Rattle.world_model.proofs.Honest.{IsHonest, IsOwn, due_honest}
use Rattle.world_model.proofs.Playing.{IsPlaying, IsHonestFrame}

-- what these bytes are at replica j, where they open, is from replica i, and brings an honest item
pub record ComesFrom (w : Setting) (hist : ℕ → List Entry) (i j : ℕ) (bytes : List ℕ) : Type 0 where
  pub honest : IsHonestFrame w hist j bytes
  pub sender : (o : Opening) → opening (w.keys j) bytes ≡ Ok o → o.from ≡ i

-- a frame that seals an honest message of another replica
pub seal_comes : (w : Setting) → IsFair w → (hist : ℕ → List Entry) (i j seq : ℕ) (m : Msg) (bytes : List ℕ) → i < w.numbers.n → j < w.numbers.n → i ≢ j → seq < 2 ^ 64
    → IsHonest w hist (item_of i m) → bytes ≡ sealed (w.keys i) j seq (body_of (w.keys i).me m) → ComesFrom w hist i j bytes
seal_comes w fair hist i j seq m bytes below there other fits honest seal =
    let sound = fair.sound.world in
    let me : (w.keys i).me ≡ i = (sound.channel.own i below).0 in
    let body : List ℕ = spelling (item_of i m) in
    let is : bytes ≡ sealed (w.keys i) j seq body = seal ∙ ap (λ (k : ℕ). sealed (w.keys i) j seq (spelling (item_of k m))) me in
    let said : (o : Opening) → opening (w.keys j) bytes ≡ Ok o → o ≡ record { from = i; seq = seq; body = body } =
    λ o e. sound.channel.opens i j seq body o below there other fits (ap (opening (w.keys j)) (sym is) ∙ e) in
    record {
      honest = λ o x e reads.
          let read : body_answer w.numbers w.mode i body ≡ Ok x = ap (λ (p : Opening). body_answer w.numbers w.mode p.from p.body) (sym (said o e)) ∙ reads in
          let one : read_as (item_of i m) ≡ read_as x = sym (sound.codec.read i (item_of i m) honest.grammar) ∙ read in
          subst (IsHonest w hist) (one_item (item_of i m) x one) honest;
      sender = λ o e. ap (λ (p : Opening). p.from) (said o e);
    }

-- ---- the frames of a correct replica
pub made_comes : (w : Setting) → IsFair w → (hist : ℕ → List Entry) (i j : ℕ) (st : CoreState) → i < w.numbers.n → j < w.numbers.n → i ≢ j → IsPlaying w hist i st → IsOwn w hist i st.history
    → (bytes : List ℕ) → Has (made_for (rules_at w i) (w.keys i) st.history j) bytes → ComesFrom w hist i j bytes
made_comes w fair hist i j st below there other plays own bytes made =
    let laws = founded_at w fair.sound i below in
    let f = made_sent (rules_at w i) laws (w.keys i) st.history plays.met j bytes made in
    seal_comes w fair hist i j f.seq f.message bytes below there other f.fits
    (due_honest w fair i laws hist st.history plays.met plays.took own f.message f.due f.good) f.is_seal

-- ---- the frames of a face
-- the frame seals, for j, what is shown of a message that is due after a history
pub record IsShownFrame (shown : Msg → Msg) (r : Rules) (k : KeyRow) (h : List Entry) (j : ℕ) (bytes : List ℕ) : Type 0 where
  pub message : Msg
  pub seq : ℕ
  pub fits : seq < 2 ^ 64
  pub due : is_due r (parts r h) message ≡ true
  pub good : IsInGrammar r.casts.numbers r.mode (item_of r.casts.me message)
  pub is_seal : bytes ≡ sealed k j seq (body_of k.me (shown message))

pub shown_sent : (shown : Msg → Msg) (r : Rules) → IsFounded r → (k : KeyRow) (h : List Entry) → IsHistory r h → (j : ℕ) (bytes : List ℕ) → Has (frames_shown_as shown r k h j) bytes →
    IsShownFrame shown r k h j bytes
shown_sent shown r laws k [] met j bytes here = elim here [ ]
shown_sent shown r laws k (e ∷ h) met j bytes here = elim (sealed_from k j (map shown (sent_to j (new_messages r h e))) (frames_shown_as shown r k h j) bytes here) [
  | inl a ↦
      let f = shown_sent shown r laws k h met.1 j bytes a in
      record { message = f.message; seq = f.seq; fits = f.fits; due = laws.core.due_stays r laws.layers h e f.message f.due; good = f.good; is_seal = f.is_seal }
  | inr s ↦
      let image = mapped_from shown (sent_to j (new_messages r h e)) s.message s.listed in
      let there = has_passing (λ (m : Msg). reaches m.to j) (new_messages r h e) image.element image.listed in
      record {
        message = image.element;
        seq = s.seq;
        fits = s.fits;
        due = new_due r laws h e image.element there.0;
        good = laws.core.sent r laws.layers h e met image.element there.0;
        is_seal = s.is_seal ∙ ap (λ (m : Msg). sealed k j s.seq (body_of k.me m)) (sym image.same);
      }
]

-- what a face shows of an honest message is honest
shown_honest : (w : Setting) (shown : Msg → Msg) → IsFaceView w shown → (hist : ℕ → List Entry) (i : ℕ) (m : Msg) → IsHonest w hist (item_of i m) → IsHonest w hist (item_of i (shown m))
shown_honest w shown shows hist i m honest = go (kind_eq m.kind Init) refl
  where
    go : (b : Bool) → kind_eq m.kind Init ≡ b → IsHonest w hist (item_of i (shown m))
    go true is =
        let kind : (shown m).kind ≡ Init = shows.kind m ∙ kind_eq_is m.kind Init is in
        record {
          grammar = shows.good i m honest.grammar;
          sender = honest.sender;
          hashes = λ k. absurd (let other : Init ≡ Hashes = sym kind ∙ k in cc);
          column = λ k. absurd (let other : Init ≡ Column = sym kind ∙ k in cc);
        }
    go false is =
        let none : m.kind ≢ Init = λ e. absurd (let t : kind_eq m.kind Init ≡ true = ap (λ (k : Kind). kind_eq k Init) e in cc) in
        subst (λ (x : Msg). IsHonest w hist (item_of i x)) (sym (shows.others m none)) honest

pub shown_comes : (w : Setting) → IsFair w → (c : Cast) → IsFaceView w c.shown → (hist : ℕ → List Entry) (i j : ℕ) (st : CoreState) → w.is_correct i ≡ false → i < w.numbers.n → j < w.numbers.n → i ≢ j
    → IsPlaying w hist i st → (bytes : List ℕ) → Has (frames_shown_as c.shown (rules_at w i) (w.keys i) st.history j) bytes → ComesFrom w hist i j bytes
shown_comes w fair c shows hist i j st faulty below there other plays bytes made =
    let laws = founded_at w fair.sound i below in
    let f = shown_sent c.shown (rules_at w i) laws (w.keys i) st.history plays.met j bytes made in
    let own : IsOwn w hist i st.history = λ correct. absurd cc in
    seal_comes w fair hist i j f.seq (c.shown f.message) bytes below there other f.fits
    (shown_honest w c.shown shows hist i f.message (due_honest w fair i laws hist st.history plays.met plays.took own f.message f.due f.good)) f.is_seal

-- ---- a frame that nobody made
none_either : (b : Bool) → ◌≡◌ {A = Option Kind} (cond b None None) None
none_either true = refl
none_either false = refl

no_kind : (p : Numbers) (mode : Mode) (xs : List ℕ) → head_answer p mode (255 ∷ xs) ≡ Err faults.Kind
unfolding head_answer
no_kind p mode xs = ap (kind_answer p mode (255 ∷ xs)) (none_either (length (255 ∷ xs) == 0))

no_kind_at_all : (p : Numbers) (mode : Mode) → head_answer p mode [] ≡ Err faults.Kind
unfolding head_answer
no_kind_at_all p mode = refl

no_item : (x : Item) → ◌≡◌ {A = Result Item BodyFault} (Err faults.Kind) (Ok x) → ⊥
no_item x e = absurd cc

unread_head : (p : Numbers) (mode : Mode) (from : ℕ) (bytes : List ℕ) (x : Item) → head_answer p mode bytes ≡ Err faults.Kind → body_answer p mode from bytes ≡ Ok x → ⊥
unfolding body_answer
unread_head p mode from bytes x none e = no_item x (rw none at e)

unread : (p : Numbers) (mode : Mode) (from n : ℕ) (rest : List ℕ) (x : Item) → body_answer p mode from (take n (255 ∷ rest)) ≡ Ok x → ⊥
unread p mode from zero rest x e = unread_head p mode from [] x (no_kind_at_all p mode) e
unread p mode from (suc n) rest x e = unread_head p mode from (255 ∷ take n rest) x (no_kind p mode (take n rest)) e

pub thrown_comes : (w : Setting) (hist : ℕ → List Entry) (version : FrameVersion) (from j : ℕ) (rest : List ℕ) → ComesFrom w hist from j (thrown version from j rest)
thrown_comes w hist version from j rest = record {
  honest = λ o x e reads.
      let parts = (opened_is (w.keys j) (thrown version from j rest) o e).parts in
      absurd (unread w.numbers w.mode from (length (thrown version from j rest) - tag_length - head_length) rest x
      (ap (λ (p : Opening). body_answer w.numbers w.mode p.from p.body) parts ∙ reads));
  sender = λ o e. ap (λ (p : Opening). p.from) (sym (opened_is (w.keys j) (thrown version from j rest) o e).parts);
}

-- ---- whether a frame is forged
pub unforged_made : (w : Setting) (states : ℕ → CoreState) (i j : ℕ) (bytes : List ℕ) → Has (made_for (rules_at w i) (w.keys i) (states i).history j) bytes
    → ((o : Opening) → opening (w.keys j) bytes ≡ Ok o → o.from ≡ i) → is_forged_call w states j (Frame bytes) ≡ false
unforged_made w states i j bytes made sender = go (opening (w.keys j) bytes) refl
  where
    and_not : (a : Bool) → (a && not true) ≡ false
    and_not true = refl
    and_not false = refl

    go : (o : Result Opening OpenFault) → opening (w.keys j) bytes ≡ o → is_forged_opening w states j bytes o ≡ false
    go (Err fault) e = refl
    go (Ok o) e =
        let has : has_made w states i j bytes ≡ true = any_of (bytes_eq bytes) (made_for (rules_at w i) (w.keys i) (states i).history j) bytes made (bytes_itself bytes) in
        let has_o : has_made w states o.from j bytes ≡ true = subst (λ (q : ℕ). has_made w states q j bytes ≡ true) (sym (sender o e)) has in
        ap (λ (b : Bool). w.is_correct o.from && not b) has_o ∙ and_not (w.is_correct o.from)

pub unforged_faulty : (w : Setting) (states : ℕ → CoreState) (i j : ℕ) (bytes : List ℕ) → w.is_correct i ≡ false
    → ((o : Opening) → opening (w.keys j) bytes ≡ Ok o → o.from ≡ i) → is_forged_call w states j (Frame bytes) ≡ false
unforged_faulty w states i j bytes faulty sender = go (opening (w.keys j) bytes) refl
  where
    go : (o : Result Opening OpenFault) → opening (w.keys j) bytes ≡ o → is_forged_opening w states j bytes o ≡ false
    go (Err fault) e = refl
    go (Ok o) e = ap (λ (b : Bool). b && not (has_made w states o.from j bytes)) (ap w.is_correct (sender o e) ∙ faulty)
