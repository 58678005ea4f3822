-- What each outcome of holding an item is, as the abstract core has it.
use Rattle.std.proofs.Common.{◌≡◌, ℕ, ◌+◌, ◌<◌, ◌≤◌, Bool, true, false, not, cond, Option, Some, None, if◌then◌else◌, Ok, Err, List, [], ◌∷◌, ◌++◌, length, refl, sym, ◌∙◌, ap, subst, inl, arith}
use Rattle.std.proofs.Math.Dec.{leb}
use Rattle.std.proofs.lemmas.Bool.{leb-true, leb-false, le-leb}
use Rattle.std.proofs.lemmas.List.{length-set}
use Rattle.ritas_base.specs.declared.item.Item.{Item}
use Rattle.ritas_base.specs.declared.item.Msg.{Msg}
use Rattle.ooc_buffers.specs.Lists.{HeldItem, held_of_peer, held_bytes, most_held_bytes, bytes_if_full, with_item_held}
use Rattle.ritas_core.specs.declared.answer.Answer.TheVariants as answers
use Rattle.ritas_core.specs.declared.fault.CoreFault.TheVariants as faults
use Rattle.ritas_core.specs.declared.verdict.Verdict.TheVariants as verdicts
use Rattle.ritas_core.specs.declared.kernel.Core.{Core}
use Rattle.ritas_core.specs.Rules.{Rules}
use Rattle.ritas_core.specs.Parts.{Entry, parts}
use Rattle.ritas_core.specs.Checks.{body_length, has_room, verdict_on, IsGood}
use Rattle.ritas_core.specs.Machine.{CoreState, Frame, with_entry, stays, gives_item}
use Rattle.ritas_core.specs.Stands.{Meaning, LayersShow, CoreStands, Waits}
use Rattle.ritas_core.specs.CoreCalls.{rules_in, IsLive, Judged, DoesJudged}
use Rattle.ritas_core.proofs.Goodness.{good_with_kept}
use Rattle.ritas_core.proofs.Items.{with_items}
use Rattle.ritas_core.proofs.Waiting.{each_with}
use Rattle.ritas_core.proofs.Verdicts.{hold_waits}
use Rattle.ritas_core.proofs.CallSteps.{nothing_more, frame_moves, moves_by}

-- there is room where no fault says otherwise
room_by : (b : Bool) (bytes len : ℕ) (P : ℕ → Type 0) → leb (bytes + len) most_held_bytes ≡ b → ((x : ℕ) → P x → ⊥) →
    ((x : ℕ) → (x ≡ bytes) × (most_held_bytes < x + len) → P x) → bytes + len ≤ most_held_bytes
room_by true bytes len P test never full = leb-true (bytes + len) most_held_bytes test
room_by false bytes len P test never full = absurd (never bytes (full bytes (refl, leb-false (bytes + len) most_held_bytes test)))

pub room_from : (bytes len : ℕ) (P : ℕ → Type 0) → ((x : ℕ) → P x → ⊥) → ((x : ℕ) → (x ≡ bytes) × (most_held_bytes < x + len) → P x) → bytes + len ≤ most_held_bytes
room_from bytes len P never full = room_by (leb (bytes + len) most_held_bytes) bytes len P refl never full

-- too many bytes are held where the look-up says so
full_by : (b : Bool) (held len bytes : ℕ) → leb (held + len) most_held_bytes ≡ b → Some bytes ≡ (if b then None else Some held) →
    (bytes ≡ held) × (most_held_bytes < bytes + len)
full_by true held len bytes test is = absurd (cc)
full_by false held len bytes test is =
    let same : bytes ≡ held = cc in
    (same, subst (λ (x : ℕ). most_held_bytes < x + len) (sym same) (leb-false (held + len) most_held_bytes test))

pub full_from : (held len bytes : ℕ) → Some bytes ≡ bytes_if_full held len → (bytes ≡ held) × (most_held_bytes < bytes + len)
full_from held len bytes is = full_by (leb (held + len) most_held_bytes) held len bytes refl is

no_room : (b : Bool) (x y : ℕ) → leb x y ≡ b → y < x → b ≡ false
no_room true x y test above = let h : x ≤ y = leb-true x y test in absurd (omega arith)
no_room false x y test above = refl

module _ {S E C T : Type 0} (m : Meaning S E C T) where
  -- held items that are as they were
  stays_held : (old : Core S E C T) (h : List (List HeldItem)) (r : Rules) (st : CoreState) → h ≡ old.held → CoreStands m old r st →
      CoreStands m (record old { held = h }) r st
  stays_held old h r st same stands =
      with_items m old old.inbox h r st st.inbox st.held stands.inbox (same ∙ stands.held) stands.peers stands.good_inbox stands.good_held stands.waiting stands

  module _ (old : Core S E C T) (item : Item) (len : ℕ) (h : List (List HeldItem)) (sent : List Msg)
      (counted : IsGood (rules_in m old) item → len ≡ body_length item) where
    -- the verdict, by whether there is room
    verdict_held : (st : CoreState) (b : Bool) → IsLive m old st → IsGood (rules_in m old) item →
        Judged (rules_in m old) (parts (rules_in m old) st.history) st.held item verdicts.Hold →
        leb (held_bytes old.held item.from + len) most_held_bytes ≡ b →
        verdict_on (rules_in m old) (parts (rules_in m old) st.history) st.held item
        ≡ cond b verdicts.Hold (verdicts.Refuse (faults.HeldFull (held_bytes st.held item.from)))
    verdict_held st b is good judged room =
        let told : has_room st.held item ≡ b =
        ap (λ (n : ℕ). leb (held_bytes st.held item.from + n) most_held_bytes) (sym (counted good))
        ∙ ap (λ (hs : List (List HeldItem)). leb (held_bytes hs item.from + len) most_held_bytes) (sym is.stands.held)
        ∙ room in
        judged ∙ ap (λ (x : Bool). cond x verdicts.Hold (verdicts.Refuse (faults.HeldFull (held_bytes st.held item.from)))) told

    pub hold_does : h ≡ with_item_held old.held item len → held_bytes old.held item.from + len ≤ most_held_bytes →
        DoesJudged m old (record old { held = h }) verdicts.Hold item sent sent (Ok answers.Held)
    hold_does holds room st is good judged =
        let r = rules_in m old in
        let s = is.stands in
        moves_by m old (record old { held = h }) (Frame item) sent sent (Ok answers.Held) r st (gives_item r st item st.inbox verdicts.Hold)
        (frame_moves r st item verdicts.Hold is.live (verdict_held st true is good judged (le-leb _ _ room)))
        refl (nothing_more sent sent refl)
        (record {
          rules = s.rules;
          own = s.own;
          kinds = s.kinds;
          session = s.session;
          me = s.me;
          serves = s.serves;
          live = s.live ∙ ap not is.live;
          history = s.history;
          whole = s.history;
          layers = λ _. s.layers is.live;
          lost = λ _. refl;
          shows = subst (λ (o : Option Entry). LayersShow m old.layers r (parts r st.history) (parts r (with_entry o st.history))) (s.lost is.live) s.shows;
          outputs = λ _. s.outputs is.live;
          shows_outputs = λ low q. inl (s.outputs is.live low q);
          inbox = s.inbox;
          held = holds
              ∙ ap (λ (hs : List (List HeldItem)). with_item_held hs item len) s.held
              ∙ ap (λ (n : ℕ). with_item_held st.held item n) (counted good);
          peers = length-set st.held item.from (held_of_peer st.held item.from ++ record { item = item; len = body_length item } ∷ []) ∙ s.peers;
          good_inbox = s.good_inbox;
          good_held = good_with_kept r st.held item (body_length item) s.good_held good;
          waiting = each_with (Waits r (parts r st.history)) st.held item (body_length item) s.waiting
              (hold_waits r (parts r st.history) st.held item (verdict_held st true is good judged (le-leb _ _ room)));
        })

    pub full_does : (bytes : ℕ) → h ≡ old.held → bytes ≡ held_bytes old.held item.from → most_held_bytes < bytes + len →
        DoesJudged m old (record old { held = h }) verdicts.Hold item sent sent (Err (faults.HeldFull bytes))
    full_does bytes same is_bytes above st is good judged =
        let r = rules_in m old in
        let full : most_held_bytes < held_bytes old.held item.from + len = subst (λ (x : ℕ). most_held_bytes < x + len) is_bytes above in
        let kept : bytes ≡ held_bytes st.held item.from = is_bytes ∙ ap (λ (hs : List (List HeldItem)). held_bytes hs item.from) is.stands.held in
        moves_by m old (record old { held = h }) (Frame item) sent sent (Err (faults.HeldFull bytes)) r st
        (stays st st.inbox (Err (faults.HeldFull bytes)))
        (frame_moves r st item (verdicts.Refuse (faults.HeldFull bytes)) is.live
        (verdict_held st false is good judged (no_room _ (held_bytes old.held item.from + len) most_held_bytes refl full)
        ∙ ap (λ (x : ℕ). verdicts.Refuse (faults.HeldFull x)) (sym kept)))
        refl (nothing_more sent sent refl) (stays_held old h r st same is.stands)

    pub mem_does : h ≡ old.held → held_bytes old.held item.from + len ≤ most_held_bytes →
        DoesJudged m old (record old { held = h }) verdicts.Hold item sent sent (Err faults.Mem)
    mem_does same room st is good judged = record {
      out = refl;
      live = is.live;
      state = inl (verdict_held st true is good judged (le-leb _ _ room), stays_held old h (rules_in m old) st same is.stands);
    }

  -- each sender is one of the peers
  pub held_for : (old : Core S E C T) (item : Item) (st : CoreState) → IsLive m old st → IsGood (rules_in m old) item → length old.held ≤ item.from → ⊥
  held_for old item st is good out =
      let n : length old.held ≡ old.layers.params.n = ap length is.stands.held ∙ is.stands.peers in
      let below : item.from < old.layers.params.n = good.sender in
      absurd (omega arith)
