-- A word is taken, from what is heard to what is put out.
use Rattle.std.specs.Prelude.{◌≡◌, ℕ, suc, ◌+◌, ◌<◌, Bool, false, List, [], ◌∷◌, ◌++◌, Result, Ok, Err, OnOk, OnErr}
use Rattle.std.proofs.Common.{sym, ◌∙◌, ap, ap₂, subst, arith, append_assoc}
use Rattle.ritas_base.specs.declared.bytes.Mem.{Mem}
use Rattle.ritas_base.specs.declared.slot.Slot.{Slot}
use Rattle.ritas_base.specs.declared.item.Say.{Say}
use Rattle.ritas_base.specs.Slots.{command_slot}
use Rattle.layer_api.specs.Service.{Seat, MayHear}
use Rattle.layer_api.specs.ServiceCalls.{Heeds, Inputs}
use Rattle.layer_api.specs.Words.{Word, Hear, asked}
use Rattle.layer_api.specs.Calls.{IsCoin}
use Rattle.layer_api.specs.Multi.{Desk}
use Rattle.ordered_rounds.specs.Box.{RoundRules, RoundLaws}
use Rattle.ordered_rounds.specs.BoxCalls.{RoundShown}
use Rattle.ordered_rounds.specs.Rounds.{rounds_say_below, rounds, ordered}
use Rattle.ordered_rounds.specs.Stepping.{heard_says}
use Rattle.ordered_rounds.specs.Waiting.{decision_in, LearnsWanted}
use Rattle.ordered_rounds.specs.OrderedGetters.{ordered_shown}
use Rattle.ordered_rounds.specs.OrderedStands.{OrderedStands, OrderedEnds}
use Rattle.ordered_rounds.specs.Turning.{IsMidway, IsWaitKnown, Turned, TookWord, IsNear, TakesWord, LosesWord}
use Rattle.ordered_rounds.specs.Laws.Getters.{AllShow}
use Rattle.ordered_rounds.specs.declared.ordered.Ordered.{Ordered}
use Rattle.ordered_rounds.proofs.Near.{shows_after}
use Rattle.ordered_rounds.proofs.Hearing.{knows_awaits, input_taken, input_says}

at_ok : {T E : Type 0} (r : Result T E) (x : T) (P : Type 0) → r ≡ Ok x → OnOk r P → P
at_ok (Ok y) x P e p = p
at_ok (Err y) x P e p = absurd cc

raised : (n k : ℕ) → n ≡ k → k < 1000000 → Prim.Native.Nat.min (n + 1) 4294967295 ≡ suc n
raised n k e l = omega (arith, e, l)

module _ {V : Type 0} (stands : V → Desk → List Word → Type 0) (v : RoundRules) (laws : RoundLaws v) (live : V → Bool) (shown : V → RoundShown) (shows : AllShow stands v live shown) where
  -- what the current round waits for is learnt
  pub learned : (x y : Ordered V) (seat : Seat) (w : List Word) (c : Word) → IsMidway stands v shown x seat w c
      → y ≡ record x { waits = y.waits } → LearnsWanted v shown x.place.numbers x.boxes.current x.waits y.waits → IsWaitKnown stands v shown y seat w c
  learned x y seat w c m made learns =
      let knows = learns m.waits in
      subst (λ (z : Ordered V). IsWaitKnown stands v shown z seat w c) (sym made) (record {
        mid = record {
          seated = record { session = m.seated.session; met = m.seated.met; numbers = m.seated.numbers; version = m.seated.version; me = m.seated.me; last = m.seated.last; inputs = m.seated.inputs; live = m.seated.live };
          ledger = m.ledger;
          completed = m.completed;
          boxes = m.boxes;
          begun = m.begun;
          waits = knows_awaits v x.place.numbers (decision_in shown x.boxes.current) y.waits knows;
        };
        knows = knows;
      })

  -- ---- what is said

  pub took : (x : Ordered V) (seat : Seat) (w : List Word) (c : Word) (said before after : List Say) → Turned stands v shown x seat w c before after
      → before ≡ said ++ heard_says v seat w c → TookWord stands v shown x seat w c said after
  took x seat w c said before after t e = record {
    now = t.now;
    made =
        t.made
        ∙ (ap (λ (ys : List Say). ys ++ t.more) e
        ∙ (append_assoc said (heard_says v seat w c) t.more ∙ ap (λ (ys : List Say). said ++ ys) (sym t.says)));
  }

  -- ---- an input

  pub input_done : (x y : Ordered V) (u : List ℕ) (me : ℕ) (before after : List Say) → me ≡ x.place.me → y ≡ record x { inputs = y.inputs } → y.inputs ≡ Prim.Native.Nat.min (x.inputs + 1) 4294967295
      → after ≡ before ++ record { slot = command_slot me x.inputs; value = u } ∷ []
      → Inputs (OrderedStands stands v shown) (ordered v) (λ s. s.live) (ordered_shown shown) x y u before after (Ok tt)
  input_done x y u me before after mine made count put = record {
    grows = λ seat w h may.
        input_taken stands v laws live shown shows x y seat w u h may
        (made ∙ ap (λ (i : ℕ). record x { inputs = i }) (count ∙ raised x.inputs (asked w) h.seated.inputs may.number));
    made = λ seat w h may.
        put
        ∙ (ap₂ (λ (m i : ℕ). before ++ record { slot = command_slot m i; value = u } ∷ []) (mine ∙ h.seated.me) h.seated.inputs
        ∙ ap (λ (ys : List Say). before ++ ys) (sym (input_says stands v laws live shown shows seat w u h.seated.session)));
  }

  -- ---- what a slot delivered

  pub heard_done : (bits : Slot → Bool) (x mid new : Ordered V) (s : Slot) (u : List ℕ) (taken : Result (Unit {0}) Mem) (none made before after : List Say) (result : Result (Unit {0}) Mem)
      → none ≡ [] → OnOk taken (TakesWord stands v shown bits x mid s u none made) → OnErr taken (LosesWord stands v shown bits x mid s u)
      → OrderedEnds mid new taken made before after result
      → Heeds (OrderedStands stands v shown) (ordered v) (λ y. y.live) (ordered_shown shown) bits x new s u before after result
  heard_done bits x mid new s u taken none made before after (Ok t) empty takes loses ends =
      let done = at_ok taken t (TakesWord stands v shown bits x mid s u none made) ends.0 takes in
      record {
        grows = λ seat w h may. subst (λ (y : Ordered V). OrderedStands stands v shown y seat (Hear s u ∷ w)) (sym ends.1) (done seat w h may.0 may.1).now;
        made = λ seat w h may.
            ends.2 ∙ ap (λ (ys : List Say). before ++ ys)
            ((done seat w h may.0 may.1).made ∙ ap (λ (ys : List Say). ys ++ rounds_say_below v seat rounds w (Hear s u)) empty);
      }
  heard_done bits x mid new s u taken none made before after (Err e) empty takes loses ends = record {
    out = ends.1;
    dead = ap (λ (y : Ordered V). y.live) ends.0;
    shows = λ seat w h may. subst (λ (y : Ordered V). IsNear stands v shown y seat w (Hear s u)) (sym ends.0) (near taken takes loses seat w h may.0 may.1);
  }
    where
      near : (r : Result (Unit {0}) Mem) → OnOk r (TakesWord stands v shown bits x mid s u none made) → OnErr r (LosesWord stands v shown bits x mid s u)
          → (seat : Seat) (w : List Word) → OrderedStands stands v shown x seat w → IsCoin seat.coin bits → MayHear (ordered v) seat w s u
          → IsNear stands v shown (record mid { live = false }) seat w (Hear s u)
      near (Ok t) takes loses seat w h coin may =
          shows_after stands v laws live shown shows mid seat w (Hear s u) (takes seat w h coin may).now
      near (Err e) takes loses seat w h coin may = loses seat w h coin may
