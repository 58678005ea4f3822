-- A call on a correct replica leaves all players' items honest, and forges nothing where it brings honest ones.
use Rattle.std.proofs.Common.{◌≡◌, ℕ, Bool, true, false, not, ◌&&◌, ◌||◌, ◌==◌, List, Option, Some, None, refl, sym, ◌∙◌, ap, subst, if◌then◌else◌}
use Rattle.std.specs.Str.{bytes_eq}
use Rattle.std.proofs.lemmas.Bool.{eq-eqb, eqb-true}
use Rattle.ritas_base.specs.declared.slot.Slot.{Slot}
use Rattle.ritas_base.specs.declared.item.Item.{Item}
use Rattle.ritas_base.specs.declared.item.Kind.TheVariants.{Column}
use Rattle.ritas_base.specs.History.{replicas}
use Rattle.ritas_base.specs.HistoryLaws.{is_value_is, kind_eq_is}
use Rattle.ritas_base.specs.Messages.{kind_eq}
use Rattle.frame_codec.specs.Values.{column_row}
use Rattle.layer_api.specs.Entries.{is_claim, is_valid_for, sent}
use Rattle.layer_api.specs.Runs.{Has}
use Rattle.keyed_channel.specs.Keyed.{tags_of}
use Rattle.ritas_core.specs.Parts.{Entry}
use Rattle.ritas_core.specs.Machine.{CoreState}
use Rattle.world_model.specs.World.{Setting, CallAt, handled_at, after_call}
use Rattle.world_model.specs.Audit.{is_forged_call, newest_item, calls_at, place_in, given_by, is_among, is_made_up, is_forged_item, taken_by, is_forged_at}
use Rattle.world_model.specs.Players.{Cast, Face, IsPlayer}
use Rattle.world_model.proofs.Anywhere.{all_fail, any_of}
use Rattle.world_model.proofs.HashedSteps.{bytes_itself}
use Rattle.world_model.proofs.Histories.{newest_taken, newest_none}
use Rattle.world_model.proofs.Worlds.{histories_of}
use Rattle.world_model.proofs.Below.{founded_at}
use Rattle.world_model.proofs.Fair.{IsFair}
use Rattle.world_model.proofs.Honest.{given_in, IsHonest, Grows, IsOwn}
use Rattle.world_model.proofs.Playing.{IsPlaying, playing_later, GrewBy, AsBefore, ByItem, ByInput, IsNext, IsHonestCall, next_call, grown}

-- all players' items are honest
pub record AreSafe (w : Setting) (c : Cast) (states : ℕ → CoreState) (faces : ℕ → CoreState) : Type 0 where
  pub correct : (i : ℕ) → w.is_correct i ≡ true → IsPlaying w (histories_of states) i (states i)
  pub face : (a : ℕ) → IsPlayer w c (Face a) → IsPlaying w (histories_of states) (c.number a) (faces a)

-- ---- a call on a correct replica
-- at each replica
grows_at : (w : Setting) (states : ℕ → CoreState) (x : CallAt) → GrewBy w (histories_of states) (states x.at).history (handled_at w states x).state.history
    → (k : ℕ) (b : Bool) → (x.at == k) ≡ b → (s : Slot) (entry : List ℕ) → Has (given_in w k (states k).history s) entry
    → Has (given_in w k (if b then (handled_at w states x).state else states k).history s) entry
grows_at w states x grew k true here s entry there =
    let P : ℕ → Type 0 = λ q. Has (given_in w q (states q).history s) entry → Has (given_in w q (handled_at w states x).state.history s) entry in
    subst P (eqb-true x.at k here) (grown w (histories_of states) x.at (states x.at).history (handled_at w states x).state.history grew s entry) there
grows_at w states x grew k false here s entry there = there

own_at : (w : Setting) (states : ℕ → CoreState) (x : CallAt) (b : Bool) → (x.at == x.at) ≡ b → b ≡ true → (s : Slot) (entry : List ℕ)
    → Has (given_in w x.at (handled_at w states x).state.history s) entry → Has (given_in w x.at (if b then (handled_at w states x).state else states x.at).history s) entry
own_at w states x true here is s entry there = there
own_at w states x false here is s entry there = absurd cc

plays_at : (w : Setting) (states : ℕ → CoreState) (x : CallAt) (later : ℕ → List Entry) → IsPlaying w later x.at (handled_at w states x).state → (k : ℕ) (b : Bool) → (x.at == k) ≡ b
    → IsPlaying w later k (states k) → IsPlaying w later k (if b then (handled_at w states x).state else states k)
plays_at w states x later new k true here old = subst (λ (q : ℕ). IsPlaying w later q (handled_at w states x).state) (eqb-true x.at k here) new
plays_at w states x later new k false here old = old

pub called_safe : (w : Setting) (c : Cast) (states faces : ℕ → CoreState) → IsFair w → AreSafe w c states faces → (x : CallAt) → w.is_correct x.at ≡ true
    → IsHonestCall w (histories_of states) x.at x.call → AreSafe w c (after_call w states (Some x)) faces
called_safe w c states faces fair safe x correct honest =
    let hist : ℕ → List Entry = histories_of states in
    let later : ℕ → List Entry = histories_of (after_call w states (Some x)) in
    let next : IsNext w hist x.at (states x.at) (handled_at w states x).state =
    next_call w fair x.at (founded_at w fair.sound x.at (fair.sound.world.within x.at correct)) hist (states x.at) (safe.correct x.at correct) x.call honest in
    let grows : Grows w hist later = λ i s entry good there. grows_at w states x next.grew i (x.at == i) refl s entry there in
    let own : IsOwn w later x.at (handled_at w states x).state.history = λ good s entry there. own_at w states x (x.at == x.at) refl (eq-eqb x.at x.at refl) s entry there in
    record {
      correct = λ i good. plays_at w states x later (next.plays later grows own) i (x.at == i) refl (playing_later w hist later grows i (states i) (safe.correct i good));
      face = λ a plays. playing_later w hist later grows (c.number a) (faces a) (safe.face a plays);
    }

-- ---- nothing that is honest is made up
among_given : (entries : List (List ℕ)) (o : Option (List ℕ)) (entry : List ℕ) → o ≡ Some entry → Has entries entry → is_among entries o ≡ true
among_given entries o entry is there =
    ap (is_among entries) is ∙ any_of (bytes_eq entry) entries entry there (bytes_itself entry)

claimed_row : (w : Setting) (states : ℕ → CoreState) (j : ℕ) (x : Item) (echoer : ℕ) → is_claim (place_in w j x.slot) (tags_of (w.keys j)) (calls_at w states j x.slot) x echoer ≡ true
    → (x.kind ≡ Column) × ((entry : List ℕ) × (column_row x.value echoer ≡ Some entry))
claimed_row w states j x echoer e = go (kind_eq x.kind Column) refl (sent (place_in w j x.slot) (calls_at w states j x.slot)) e
  where
    go : (b : Bool) → kind_eq x.kind Column ≡ b → (o : Option (List ℕ)) → (b && is_valid_for (place_in w j x.slot) (tags_of (w.keys j)) o x.value echoer) ≡ true
        → (x.kind ≡ Column) × ((entry : List ℕ) × (column_row x.value echoer ≡ Some entry))
    go false is o f = absurd cc
    go true is None f = absurd cc
    go true is (Some m) f = (kind_eq_is x.kind Column is, (_, is_value_is _ (column_row x.value echoer) f))

not_made : (a b d : Bool) → (a ≡ true → b ≡ true → d ≡ true) → (a && (b && not d)) ≡ false
not_made true true true f = refl
not_made true true false f = sym (f refl refl)
not_made true false d f = refl
not_made false b d f = refl

pub not_made_up : (w : Setting) (states : ℕ → CoreState) (j : ℕ) (x : Item) → IsHonest w (histories_of states) x → (echoer : ℕ) → is_made_up w states j x echoer ≡ false
not_made_up w states j x honest echoer =
    not_made (w.is_correct echoer) (is_claim (place_in w j x.slot) (tags_of (w.keys j)) (calls_at w states j x.slot) x echoer)
    (is_among (given_by w states echoer x.slot) (column_row x.value echoer))
    (λ correct claim.
    let row = claimed_row w states j x echoer claim in
    among_given (given_by w states echoer x.slot) (column_row x.value echoer) row.1.0 row.1.1 (honest.column row.0 echoer row.1.0 correct row.1.1))

item_honest : (w : Setting) (states : ℕ → CoreState) (j : ℕ) (before after : List Entry) → GrewBy w (histories_of states) before after → is_forged_item w states j (newest_item before after) ≡ false
item_honest w states j before after (AsBefore e) = ap (λ (h : List Entry). is_forged_item w states j (newest_item before h)) e ∙ ap (is_forged_item w states j) (newest_none before)
item_honest w states j before after (ByItem x honest e) =
    ap (λ (h : List Entry). is_forged_item w states j (newest_item before h)) e
    ∙ (ap (is_forged_item w states j) (newest_taken before x)
    ∙ all_fail (is_made_up w states j x) (replicas w.numbers.n) (λ echoer there. not_made_up w states j x honest echoer))
item_honest w states j before after (ByInput v e) = ap (λ (h : List Entry). is_forged_item w states j (newest_item before h)) e

or_false : (a b : Bool) → a ≡ false → b ≡ false → (a || b) ≡ false
or_false a b e f = rw (e, f) refl

-- a call that brings honest items, and no frame that is forged, forges nothing
pub call_forges_nothing : (w : Setting) (c : Cast) (states faces : ℕ → CoreState) → IsFair w → AreSafe w c states faces → (x : CallAt) → w.is_correct x.at ≡ true
    → IsHonestCall w (histories_of states) x.at x.call → is_forged_call w states x.at x.call ≡ false → is_forged_at w states (Some x) ≡ false
call_forges_nothing w c states faces fair safe x correct honest made =
    let hist : ℕ → List Entry = histories_of states in
    let next : IsNext w hist x.at (states x.at) (handled_at w states x).state =
    next_call w fair x.at (founded_at w fair.sound x.at (fair.sound.world.within x.at correct)) hist (states x.at) (safe.correct x.at correct) x.call honest in
    or_false (is_forged_call w states x.at x.call) (is_forged_item w states x.at (taken_by w states x)) made
    (item_honest w states x.at (states x.at).history (handled_at w states x).state.history next.grew)
