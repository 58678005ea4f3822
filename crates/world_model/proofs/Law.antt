-- The law of one value at each slot of a world.
use Rattle.std.proofs.Common.{◌≡◌, ℕ, ◌<◌, Bool, true, false, cond, Some, List, ◌++◌, count_by, refl, sym, ◌∙◌, ap, subst, arith}
use Rattle.std.proofs.lemmas.Bool.{ltb-false}
use Rattle.ritas_base.specs.declared.event.Event.{Event}
use Rattle.ritas_base.specs.declared.slot.Slot.{Slot}
use Rattle.ritas_base.specs.Numbers.{wait_of}
use Rattle.ritas_base.specs.History.{started, replicas}
use Rattle.ritas_base.specs.History.{Call}
use Rattle.layer_api.specs.Entries.{Print}
use Rattle.layer_api.specs.Runs.{calls_of, Has, IsEnough}
use Rattle.layer_api.specs.OneValue.{SameDigests, IsClear}
use Rattle.ritas_base.specs.Slots.{command_slot}
use Rattle.keyed_channel.specs.Keyed.{tags_of}
use Rattle.ritas_core.specs.Rules.{place_at, out_at_slot}
use Rattle.ritas_core.specs.Machine.{CoreState}
use Rattle.world_model.specs.declared.audit.Audit.{Audit}
use Rattle.world_model.specs.declared.audit.Audit.TheVariants as audits
use Rattle.world_model.specs.World.{Setting, rules_at, states_of}
use Rattle.world_model.specs.Audit.{calls_at, first_broken, has_too_many, prints_at, is_colliding, audit_of}
use Rattle.world_model.specs.OneValueEach.{history_of, delivered, OneValueEach, WorldLaw}
use Rattle.world_model.proofs.Runs.{group_at, RunAt, calls_after}
use Rattle.world_model.proofs.Earlier.{RunTo, run_back}
use Rattle.world_model.proofs.Prints.{print_there, none_apart}
use Rattle.world_model.proofs.Took.{met_printed}
use Rattle.world_model.proofs.Worlds.{layer_laws, histories_of, world_after, none_collide_after}
use Rattle.world_model.proofs.Inputs.{input_started}
use Rattle.world_model.specs.CoreLaws.{CoreLaws}
use Rattle.world_model.proofs.Below.{IsSoundOver}

-- ---- the audit
pub audit_parts : (b : Bool) (rest : Audit) → cond b audits.TooManyFaulty rest ≡ audits.Holds → (b ≡ false) × (rest ≡ audits.Holds)
audit_parts true rest e = absurd (cc)
audit_parts false rest e = (refl, e)

pub enough_of : (w : Setting) → IsSoundOver w → has_too_many w ≡ false → IsEnough w.numbers w.is_correct
enough_of w sound few =
    let least = ltb-false (count_by w.is_correct (replicas w.numbers.n)) (wait_of w.numbers) few in
    record { session = sound.world.session; within = sound.world.within; many = omega arith }

-- ---- a slot
-- nothing that correct replicas hashed collides
met_here : (w : Setting) (sound : IsSoundOver w) (es : List Event) → first_broken w es ≡ audits.Holds → (s : Slot) (x : RunAt w (calls_after w (histories_of (states_of w es))) s) (i : ℕ) (a : Print) → w.is_correct i ≡ true → i < w.numbers.n →
    Has ((w.at_slot s).met (place_at (rules_at w i).casts s) (tags_of (w.keys i)) (calls_of i x.steps)) a → Has (prints_at w (states_of w es)) a
met_here w sound es holds s x i a correct below here =
    print_there w (states_of w es) i a correct below
    (met_printed (rules_at w i) (layer_laws w sound i correct) (history_of w es i) ((world_after w sound es holds).met i correct) s (sound.world.entries s) a
    (subst (λ (cs : List Call). Has ((w.at_slot s).met (place_at (rules_at w i).casts s) (tags_of (w.keys i)) cs) a) (x.same i correct) here))

clear_at : (w : Setting) → IsSoundOver w → (es : List Event) → first_broken w es ≡ audits.Holds → is_colliding w es ≡ false → (s : Slot) (x : RunAt w (calls_after w (histories_of (states_of w es))) s) → IsClear (group_at w s) x.steps
clear_at w sound es holds none s x i j a c left right here there =
    none_apart (prints_at w (states_of w es)) none a c
    (met_here w sound es holds s x i a left (sound.world.within i left) here) (met_here w sound es holds s x j c right (sound.world.within j right) there)

-- what was delivered is what the run's calls deliver
run_delivers : (w : Setting) (es : List Event) (s : Slot) (x : RunAt w (calls_after w (histories_of (states_of w es))) s) (i : ℕ) (v : List ℕ) →
    w.is_correct i ≡ true → delivered w es i s ≡ Some v → out_at_slot (rules_at w i).casts s (calls_of i x.steps) ≡ Some v
run_delivers w es s x i v correct out = ap (out_at_slot (rules_at w i).casts s) (x.same i correct) ∙ out

-- ---- after events
-- what correct replicas deliver at a slot is one value, and a correct origin started it, before it delivered it itself
pub record AgreeAt (w : Setting) (states : ℕ → CoreState) : Type 0 where
  pub agree : (s : Slot) (i j : ℕ) (v u : List ℕ) → w.is_correct i ≡ true → w.is_correct j ≡ true
      → out_at_slot (rules_at w i).casts s (calls_at w states i s) ≡ Some v → out_at_slot (rules_at w j).casts s (calls_at w states j s) ≡ Some u → v ≡ u
  pub genuine : (s : Slot) (i : ℕ) (v : List ℕ) → w.is_correct i ≡ true → w.is_correct s.origin ≡ true
      → out_at_slot (rules_at w i).casts s (calls_at w states i s) ≡ Some v → started (calls_at w states s.origin s) ≡ Some v
  pub own : (s : Slot) (i : ℕ) (later calls : List Call) (v : List ℕ) → w.is_correct i ≡ true → i ≡ s.origin
      → calls_at w states i s ≡ later ++ calls → out_at_slot (rules_at w i).casts s calls ≡ Some v → started calls ≡ Some v

run_own : (w : Setting) (sound : IsSoundOver w) → IsEnough w.numbers w.is_correct → (s : Slot) (i : ℕ) (calls : List Call) (v : List ℕ) → w.is_correct i ≡ true →
    i ≡ s.origin → (x : RunTo (group_at w s) i calls) → out_at_slot (rules_at w i).casts s calls ≡ Some v → started calls ≡ Some v
run_own w sound enough s i calls v correct is x out =
    let start = (sound.world.one_value s).genuine w.numbers s w.is_correct (λ k. tags_of (w.keys k)) x.steps enough (λ j k m. refl) x.run x.clear i v correct
    (subst (λ (k : ℕ). w.is_correct k ≡ true) is correct) (ap (out_at_slot (rules_at w i).casts s) x.mine ∙ out) in
    ap started (sym x.mine) ∙ (subst (λ (k : ℕ). started (calls_of k x.steps) ≡ Some v) (sym is) start)

pub agree_at : (w : Setting) → IsSoundOver w → has_too_many w ≡ false → (es : List Event) → first_broken w es ≡ audits.Holds → AgreeAt w (states_of w es)
agree_at w sound few es holds =
    let enough = enough_of w sound few in
    let world = world_after w sound es holds in
    let clear = none_collide_after w es holds in
    let digests : SameDigests (λ i. tags_of (w.keys i)) = λ i j m. refl in
    record {
      agree = λ s i j v u left right out_i out_j.
          let x = world.run s in
          (sound.world.one_value s).agree w.numbers s w.is_correct (λ i. tags_of (w.keys i)) x.steps enough digests x.run (clear_at w sound es holds clear s x)
          i j v u left right (run_delivers w es s x i v left out_i) (run_delivers w es s x j u right out_j);
      genuine = λ s i v correct good out.
          let x = world.run s in
          let start = (sound.world.one_value s).genuine w.numbers s w.is_correct (λ i. tags_of (w.keys i)) x.steps enough digests x.run
          (clear_at w sound es holds clear s x) i v correct good (run_delivers w es s x i v correct out) in
          ap started (sym (x.same s.origin good)) ∙ start;
      own = λ s i later calls v correct is whole out.
          let x = world.run s in
          let all : RunTo (group_at w s) i (later ++ calls) =
          record { steps = x.steps; run = x.run; clear = clear_at w sound es holds clear s x; mine = x.same i correct ∙ whole } in
          run_own w sound enough s i calls v correct is (run_back (group_at w s) (sound.world.entries s) i later calls all) out;
    }

-- of one world
pub law_of : (w : Setting) (es : List Event) → IsSoundOver w → audit_of w es ≡ audits.Holds → OneValueEach w es
law_of w es sound holds =
    let audit = audit_parts (has_too_many w) (first_broken w es) holds in
    let world = world_after w sound es audit.1 in
    let all = agree_at w sound audit.0 es audit.1 in
    record {
      agree = all.agree;
      genuine = all.genuine;
      inputs = λ origin num i v correct good out.
          input_started (rules_at w origin) (layer_laws w sound origin good) (history_of w es origin) (world.met origin good) num v
          (all.genuine (command_slot origin num) i v correct good out);
      said = λ s i correct. sound.core.started (rules_at w i) (layer_laws w sound i correct).layers (history_of w es i) (world.met i correct) s;
    }

-- and of every world
pub world_law : CoreLaws → WorldLaw
world_law core w es sound holds = law_of w es (record { world = sound; core = core }) holds
