-- The frames that a face shows are those of its replica in the world of its letter, with each message as the face shows it.
use Rattle.std.proofs.Common.{◌≡◌, ◌≢◌, ℕ, ◌%◌, ◌^◌, ◌<◌, ◌==◌, true, false, not, ◌&&◌, if◌then◌else◌, Some, List, [], ◌∷◌, ◌++◌, length, map, reverse, refl, sym, ◌∙◌, ap, ap₂, subst, inl, inr, arith}
use Rattle.std.specs.List.{slice_get}
use Rattle.std.proofs.Math.Nat.{eq-or-lt_of_le}
use Rattle.std.proofs.lemmas.Bool.{cases_lt, ne_eqb}
use Rattle.std.proofs.lemmas.List.{length-append, length-reverse, reverse-append, map-id}
use Rattle.std.proofs.lemmas.Option.{slice_get_past}
use Rattle.ritas_base.specs.declared.item.Msg.{Msg}
use Rattle.ritas_base.specs.Messages.{reaches, item_of}
use Rattle.frame_codec.specs.Body.{IsInGrammar, spelling}
use Rattle.keyed_channel.specs.KeyRow.{KeyRow}
use Rattle.keyed_channel.specs.Frames.{sealed}
use Rattle.keyed_channel.specs.Laws.{OpenedFromPeer}
use Rattle.layer_api.specs.Broadcast.{BroadcastRules}
use Rattle.layer_api.specs.OneValue.{ValueLaws}
use Rattle.layer_api.specs.Runs.{Has}
use Rattle.layer_api.specs.Service.{ServiceRules, WordLaws}
use Rattle.ritas_core.specs.Rules.{Rules, route_of}
use Rattle.ritas_core.specs.Parts.{Entry}
use Rattle.ritas_core.specs.Order.{new_messages, sent_to}
use Rattle.ritas_core.specs.Checks.{IsHistory}
use Rattle.ritas_core.specs.Machine.{CoreState}
use Rattle.replica.specs.Frames.{body_of, sealed_onto, made_for}
use Rattle.world_model.specs.World.{Setting, rules_at, states_of}
use Rattle.world_model.specs.OneValueEach.{Codec}
use Rattle.world_model.specs.CoreLaws.{CoreLaws}
use Rattle.world_model.specs.EveryWorld.{IsWorld}
use Rattle.world_model.specs.Stands.{frames_from}
use Rattle.world_model.specs.Players.{Cast, Face, Step, AreSteps, frames_shown_as, player_frames, scene_of}
use Rattle.world_model.specs.FaceWorlds.{faces_world, IsLetter, told_to, IsShownAs, AreShownAs, ShownLaw, PlainLaw}
use Rattle.world_model.proofs.Below.{IsFounded}
use Rattle.world_model.proofs.Members.{has_passing}
use Rattle.world_model.proofs.Numbered.{get_before, get_last}
use Rattle.world_model.proofs.Conditions.{IsLaid, well_after}
use Rattle.world_model.proofs.EveryWorld.{values_at, forms_at}
use Rattle.world_model.proofs.FaceStates.{replica_there, face_law}

-- ---- the frames of a face, and those of its replica, are made of one history

face_frames : (w : Setting) (c : Cast) (face : ℕ → ℕ) (steps : List Step) → IsLetter c face → AreSteps w c steps → (i j : ℕ) → w.is_correct i ≡ false → i < w.numbers.n
    → player_frames w c (scene_of w c steps) (Face (face i)) j
    ≡ reverse (frames_shown_as c.shown (rules_at w i) (w.keys i) (states_of (faces_world w) (told_to w c face steps) i).history j)
face_frames w c face steps letter are i j faulty below =
    let s = scene_of w c steps in
    ap (λ (k : ℕ). reverse (frames_shown_as c.shown (rules_at w k) (w.keys k) (s.faces (face i)).history j)) (letter.number i)
    ∙ ap (λ (st : CoreState). reverse (frames_shown_as c.shown (rules_at w i) (w.keys i) st.history j)) (face_law w c face steps letter are i faulty below)

frames_there : (w : Setting) (states : ℕ → CoreState) (i j : ℕ) → w.is_correct i ≡ true → i ≢ j
    → frames_from w states i j ≡ reverse (made_for (rules_at w i) (w.keys i) (states i).history j)
frames_there w states i j right differ =
    let frames = reverse (made_for (rules_at w i) (w.keys i) (states i).history j) in
    ap (λ b. if b && not (i == j) then frames else []) right ∙ ap (λ b. if not b then frames else []) (ne_eqb i j differ)

-- ---- where each message is shown as it is

plain_made : (shown : Msg → Msg) → ((m : Msg) → shown m ≡ m) → (r : Rules) (k : KeyRow) (h : List Entry) (j : ℕ) → frames_shown_as shown r k h j ≡ made_for r k h j
plain_made shown plain r k [] j = refl
plain_made shown plain r k (e ∷ h) j =
    let ms = sent_to j (new_messages r h e) in
    let same : shown ≡ (λ m. m) = λ t m. plain m t in
    ap₂ (sealed_onto k j) (ap (λ (f : Msg → Msg). map f ms) same ∙ map-id ms) (plain_made shown plain r k h j)

pub plain_law : PlainLaw
plain_law w c face steps are letter plain i j faulty below differ =
    let states = states_of (faces_world w) (told_to w c face steps) in
    face_frames w c face steps letter are i j faulty below
    ∙ ap reverse (plain_made c.shown plain (rules_at w i) (w.keys i) (states i).history j)
    ∙ sym (frames_there (faces_world w) states i j (replica_there w i faulty below) differ)

-- ---- as many frames, each of one message

one_more : (w : Setting) (c : Cast) (i j : ℕ) (made shown : List (List ℕ)) (x y : List ℕ) → AreShownAs w c i j made shown → IsShownAs w c i j (length made) x y
    → AreShownAs w c i j (made ++ x ∷ []) (shown ++ y ∷ [])
one_more w c i j made shown x y are is = record {
  many = omega (arith, are.many, length-append shown (y ∷ []), length-append made (x ∷ []));
  each = λ m bytes there. elim (cases_lt m (length made)) [
    | inl within ↦
        let before = are.each m bytes (sym (get_before made x m within) ∙ there) in
        let also : m < length shown = omega (arith, are.many) in
        (before.0, get_before shown y m also ∙ before.1, before.2)
    | inr past ↦ elim (eq-or-lt_of_le past) [
      | inl same ↦
          let here : Some x ≡ Some bytes = sym (get_last made x) ∙ ap (slice_get (made ++ x ∷ [])) same ∙ there in
          let one : x ≡ bytes = cc in
          let last : slice_get (shown ++ y ∷ []) m ≡ Some y = ap (slice_get (shown ++ y ∷ [])) (sym same ∙ sym are.many) ∙ get_last shown y in
          let P : ℕ → List ℕ → Type 0 = λ n a. IsShownAs w c i j n a y in
          (y, last, subst (P m) one (subst (λ n. P n x) same is))
      | inr more ↦
          let none = slice_get_past (made ++ x ∷ []) m (omega (arith, more, length-append made (x ∷ []))) in
          absurd (cc (none, there))
    ]
  ];
}

-- frames of these messages more
onto_shown : (w : Setting) (c : Cast) (i j : ℕ) → (w.keys i).me ≡ i → (ms : List Msg) → ((m : Msg) → Has ms m → IsInGrammar w.numbers w.mode (item_of i m)) → (made shown : List (List ℕ))
    → AreShownAs w c i j (reverse made) (reverse shown) → AreShownAs w c i j (reverse (sealed_onto (w.keys i) j ms made)) (reverse (sealed_onto (w.keys i) j (map c.shown ms) shown))
onto_shown w c i j own [] good made shown are = are
onto_shown w c i j own (m ∷ ms) good made shown are =
    let k = w.keys i in
    let x = sealed k j (length made % 2 ^ 64) (body_of k.me m) in
    let y = sealed k j (length shown % 2 ^ 64) (body_of k.me (c.shown m)) in
    let frame : ℕ → ℕ → Msg → List ℕ = λ number me message. sealed k j (number % 2 ^ 64) (spelling (item_of me message)) in
    let is : IsShownAs w c i j (length (reverse made)) x y = record {
      message = m;
      good = good m (inl refl);
      made_is = ap₂ (λ number me. frame number me m) (sym (length-reverse made)) own;
      shown_is = ap₂ (λ number me. frame number me (c.shown m)) (sym (length-reverse shown) ∙ are.many) own;
    } in
    let P : List (List ℕ) → List (List ℕ) → Type 0 = AreShownAs w c i j in
    onto_shown w c i j own ms (λ q there. good q (inr there)) (x ∷ made) (y ∷ shown)
    (subst (P (reverse (x ∷ made))) (sym (reverse-append (y ∷ []) shown))
    (subst (λ xs. P xs (reverse shown ++ y ∷ [])) (sym (reverse-append (x ∷ []) made)) (one_more w c i j (reverse made) (reverse shown) x y are is)))

-- the frames of a history
made_shown : (w : Setting) (c : Cast) (i j : ℕ) → IsFounded (rules_at w i) → (w.keys i).me ≡ i → (h : List Entry) → IsHistory (rules_at w i) h
    → AreShownAs w c i j (reverse (made_for (rules_at w i) (w.keys i) h j)) (reverse (frames_shown_as c.shown (rules_at w i) (w.keys i) h j))
made_shown w c i j laws own [] met = record { many = refl; each = λ m bytes there. absurd (cc) }
made_shown w c i j laws own (e ∷ h) met =
    let r = rules_at w i in
    onto_shown w c i j own (sent_to j (new_messages r h e))
    (λ m there. laws.core.sent r laws.layers h e met m (has_passing (λ (x : Msg). reaches x.to j) (new_messages r h e) m there).0)
    (made_for r (w.keys i) h j) (frames_shown_as c.shown r (w.keys i) h j) (made_shown w c i j laws own h met.1)

-- ---- every world

-- what the replicas of such a world rest on
laid : (service : ServiceRules) (other : BroadcastRules) (w : Setting) → IsWorld service other w → ValueLaws other → WordLaws service → OpenedFromPeer → Codec w → CoreLaws → IsLaid w
laid service other w is values words opened codec core = record {
  founded = λ i below. record {
    layers = record {
      casts = λ s. subst (λ (x : BroadcastRules). ValueLaws x) (sym (is.casts s)) (values_at (route_of w.mode s) other values);
      words = subst (λ (x : ServiceRules). WordLaws x) (sym is.words) words;
      session = is.session;
      me = below;
      serves = subst (λ (x : ServiceRules). x.serves w.mode.root ≡ true) (sym is.words) is.serves;
      kinds = forms_at service other w is i;
    };
    core = core;
  };
  sender = λ i bytes o below opens. subst (λ (n : ℕ). o.from < n) (is.own i below).1 (opened (w.keys i) bytes o opens).0;
  codec = codec;
}

-- that of the letters has the same layers, numbers and keys
laid_there : (w : Setting) → IsLaid w → IsLaid (faces_world w)
laid_there w laid = record {
  founded = laid.founded;
  sender = laid.sender;
  codec = record { read = laid.codec.read; good = laid.codec.good };
}

pub shown_law : (service : ServiceRules) (other : BroadcastRules) → ValueLaws other → WordLaws service → OpenedFromPeer → ((w : Setting) → IsWorld service other w → Codec w) → CoreLaws
    → ShownLaw service other
shown_law service other values words opened codec core w c face steps play letter i j faulty below to_below differ =
    let es = told_to w c face steps in
    let states = states_of (faces_world w) es in
    let all = laid service other w play.kind values words opened (codec w play.kind) core in
    let P : List (List ℕ) → List (List ℕ) → Type 0 = AreShownAs w c i j in
    let h = (states i).history in
    subst (P (frames_from (faces_world w) states i j)) (sym (face_frames w c face steps letter play.steps_are i j faulty below))
    (subst (λ xs. P xs (reverse (frames_shown_as c.shown (rules_at w i) (w.keys i) h j))) (sym (frames_there (faces_world w) states i j (replica_there w i faulty below) differ))
    (made_shown w c i j (all.founded i below) (play.kind.own i below).0 h (well_after (faces_world w) (laid_there w all) es i below).met))
