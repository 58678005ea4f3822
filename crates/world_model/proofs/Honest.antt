-- Items whose entries of correct echoers were given by these.
use Rattle.std.proofs.Common.{◌≡◌, ℕ, ◌<◌, Bool, true, false, cond, List, ◌∷◌, Option, Some, None, refl, sym, ◌∙◌, subst}
use Rattle.ritas_base.specs.declared.item.Kind.TheVariants.{Send, Hashes, Column}
use Rattle.ritas_base.specs.declared.item.Item.{Item}
use Rattle.ritas_base.specs.declared.item.Msg.{Msg}
use Rattle.ritas_base.specs.declared.slot.Slot.{Slot}
use Rattle.ritas_base.specs.History.{Call, Take, told}
use Rattle.ritas_base.specs.HistoryLaws.{first_stays}
use Rattle.ritas_base.specs.SlotOrder.{is_slot}
use Rattle.ritas_base.specs.Messages.{Place, item_of}
use Rattle.frame_codec.specs.Body.{IsInGrammar}
use Rattle.frame_codec.specs.Values.{column_row}
use Rattle.layer_api.specs.Entries.{given, entries_for, entry_in, sent}
use Rattle.layer_api.specs.HasLaws.{has_listed}
use Rattle.layer_api.specs.OneValue.{AreGoodCalls, IsOfSlot}
use Rattle.layer_api.specs.Runs.{Has}
use Rattle.keyed_channel.specs.Keyed.{tags_of}
use Rattle.ritas_core.specs.Rules.{Rules, due_at_slot}
use Rattle.ritas_core.specs.Parts.{Entry, Took, Given, parts}
use Rattle.ritas_core.specs.Checks.{IsHistory}
use Rattle.ritas_core.specs.Laws.{is_due}
use Rattle.world_model.specs.World.{Setting, rules_at}
use Rattle.world_model.specs.Audit.{place_in}
use Rattle.world_model.proofs.Below.{IsFounded}
use Rattle.world_model.proofs.Fair.{IsFair}
use Rattle.world_model.proofs.Prints.{sent_taken, sent_given}
use Rattle.world_model.proofs.Took.{AllTook, took_called, good_taken}

-- the entries that replica i gave at a slot, by its history
abbrev pub given_in : Setting → ℕ → List Entry → Slot → List (List ℕ)
given_in w i h s = given (place_in w i s) (tags_of (w.keys i)) ((parts (rules_at w i) h).calls s)

-- where the correct replicas have these histories: HASHES of a correct one carry entries that it gave, and a column has,
-- of correct echoers, entries that these gave
pub record IsHonest (w : Setting) (hist : ℕ → List Entry) (x : Item) : Type 0 where
  pub grammar : IsInGrammar w.numbers w.mode x
  pub sender : x.from < w.numbers.n
  pub hashes : x.kind ≡ Hashes → w.is_correct x.from ≡ true → (k : ℕ) → k < w.numbers.n → Has (given_in w x.from (hist x.from) x.slot) (entry_in k x.value)
  pub column : x.kind ≡ Column → (echoer : ℕ) (entry : List ℕ) → w.is_correct echoer ≡ true → column_row x.value echoer ≡ Some entry
      → Has (given_in w echoer (hist echoer) x.slot) entry

-- what was given stays given
abbrev pub Grows : Setting → (ℕ → List Entry) → (ℕ → List Entry) → Type 0
Grows w before after = (i : ℕ) (s : Slot) (entry : List ℕ) → w.is_correct i ≡ true → Has (given_in w i (before i) s) entry → Has (given_in w i (after i) s) entry

pub honest_later : (w : Setting) (before after : ℕ → List Entry) → Grows w before after → (x : Item) → IsHonest w before x → IsHonest w after x
honest_later w before after grows x honest = record {
  grammar = honest.grammar;
  sender = honest.sender;
  hashes = λ kind correct k lt. grows x.from x.slot (entry_in k x.value) correct (honest.hashes kind correct k lt);
  column = λ kind echoer entry correct row. grows echoer x.slot entry correct (honest.column kind echoer entry correct row);
}

-- ---- what was sent stays
sent_if : (at : Place) (c : Call) (h : List Call) (v : List ℕ) (b : Bool) → sent at h ≡ Some v → sent at (cond b (c ∷ h) h) ≡ Some v
sent_if at c h v true e = first_stays (told at.slot.origin Send) c h v e
sent_if at c h v false e = e

sent_stays : (r : Rules) (at : Place) (e : Entry) (h : List Entry) (s : Slot) (v : List ℕ) → sent at ((parts r h).calls s) ≡ Some v → sent at ((parts r (e ∷ h)).calls s) ≡ Some v
sent_stays r at (Took x) h s v is = sent_taken r at h x s ∙ sent_if at (Take x) ((parts r h).calls s) v (is_slot x.slot s) is
sent_stays r at (Given u) h s v is = sent_given r at h u s ∙ is

pub given_grows : (w : Setting) (i : ℕ) (e : Entry) (h : List Entry) (s : Slot) (entry : List ℕ) → Has (given_in w i h s) entry → Has (given_in w i (e ∷ h) s) entry
given_grows w i e h s entry there = go (sent (place_in w i s) ((parts (rules_at w i) h).calls s)) refl there
  where
    go : (o : Option (List ℕ)) → sent (place_in w i s) ((parts (rules_at w i) h).calls s) ≡ o → Has (entries_for (place_in w i s) (tags_of (w.keys i)) o) entry → Has (given_in w i (e ∷ h) s) entry
    go None is here = absurd here
    go (Some v) is here =
        subst (λ (o : Option (List ℕ)). Has (entries_for (place_in w i s) (tags_of (w.keys i)) o) entry) (sym (sent_stays (rules_at w i) (place_in w i s) e h s v is)) here

-- ---- what is due
-- what replica i gave is among what it is known to have given
abbrev pub IsOwn : Setting → (ℕ → List Entry) → ℕ → List Entry → Type 0
IsOwn w hist i h = w.is_correct i ≡ true → (s : Slot) (entry : List ℕ) → Has (given_in w i h s) entry → Has (given_in w i (hist i) s) entry

-- what is due at a replica that took honest items is honest
pub due_honest : (w : Setting) → IsFair w → (i : ℕ) → IsFounded (rules_at w i) → (hist : ℕ → List Entry) (h : List Entry) → IsHistory (rules_at w i) h → AllTook (IsHonest w hist) h → IsOwn w hist i h
    → (m : Msg) → is_due (rules_at w i) (parts (rules_at w i) h) m ≡ true → IsInGrammar w.numbers w.mode (item_of i m) → IsHonest w hist (item_of i m)
due_honest w fair i laws hist h met took own m due grammar =
    let r = rules_at w i in
    let calls = (parts r h).calls m.slot in
    let listed : Has (due_at_slot r.casts m.slot calls) m = has_listed (due_at_slot r.casts m.slot calls) m due in
    let good : AreGoodCalls w.numbers w.mode m.slot calls = laws.core.calls r laws.layers h met m.slot in
    let of_slot : IsOfSlot (w.at_slot m.slot) w.numbers w.mode m.slot =
    record { session = laws.layers.session; slot = grammar.slot; form = laws.layers.kinds.forms m.slot grammar.slot } in
    record {
      grammar = grammar;
      sender = laws.layers.me;
      hashes = λ kind correct k lt. own correct m.slot (entry_in k m.value) ((fair.sound.world.entries m.slot).hashes (place_in w i m.slot) (tags_of (w.keys i)) calls m (fair.whole i) listed kind k lt);
      column = λ kind echoer entry correct row.
          let from = (fair.sound.world.entries m.slot).columns (place_in w i m.slot) (tags_of (w.keys i)) w.mode calls m of_slot good listed kind echoer entry row in
          let honest = took_called (IsHonest w hist) r h took m.slot from.item from.taken in
          let here = (good_taken w.numbers w.mode m.slot calls from.item good from.taken).0 in
          let gave = honest.hashes from.kind (subst (λ (j : ℕ). w.is_correct j ≡ true) (sym from.from) correct) from.verifier from.within in
          let at_slot = subst (λ (s : Slot). Has (given_in w from.item.from (hist from.item.from) s) (entry_in from.verifier from.item.value)) here gave in
          let at_echoer = subst (λ (j : ℕ). Has (given_in w j (hist j) m.slot) (entry_in from.verifier from.item.value)) from.from at_slot in
          subst (λ (e : List ℕ). Has (given_in w echoer (hist echoer) m.slot) e) (sym from.same) at_echoer;
    }
