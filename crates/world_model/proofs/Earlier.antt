-- The steps of a slot up to an earlier call of a replica: they are a run, too, and what correct replicas met by then is
-- among what they met afterwards.
use Rattle.std.proofs.Common.{◌≡◌, ℕ, Bool, true, false, cond, List, [], ◌∷◌, ◌++◌}
use Rattle.std.proofs.Math.Dec.{eqb}
use Rattle.ritas_base.specs.Messages.{Place}
use Rattle.ritas_base.specs.History.{Call}
use Rattle.ritas_base.specs.Tags.{Tags}
use Rattle.layer_api.specs.Runs.{ReplicaStep, calls_of, Has}
use Rattle.layer_api.specs.Broadcast.{BroadcastRules}
use Rattle.layer_api.specs.Entries.{Print}
use Rattle.layer_api.specs.EntryLaws.{EntryLaws}
use Rattle.layer_api.specs.OneValue.{Group, place_of, IsRun, IsClear}

-- ---- what was hashed stays
met_stays : (r : BroadcastRules) → EntryLaws r → (at : Place) (tags : Tags) (b : Bool) (c : Call) (h : List Call) (a : Print) → Has (r.met at tags h) a → Has (r.met at tags (cond b (c ∷ h) h)) a
met_stays r laws at tags true c h a here = laws.met_stays at tags h c a here
met_stays r laws at tags false c h a here = here

clear_before : (g : Group) → EntryLaws g.rules → (x : ReplicaStep Call) (xs : List (ReplicaStep Call)) → IsClear g (x ∷ xs) → IsClear g xs
clear_before g laws x xs clear i j a c left right here there =
    clear i j a c left right (met_stays g.rules laws (place_of g i) (g.tags i) (eqb x.who i) x.call (calls_of i xs) a here)
    (met_stays g.rules laws (place_of g j) (g.tags j) (eqb x.who j) x.call (calls_of j xs) c there)

-- ---- a run up to some calls of replica i
pub record RunTo (g : Group) (i : ℕ) (own : List Call) : Type 0 where
  pub steps : List (ReplicaStep Call)
  pub run : IsRun g steps
  pub clear : IsClear g steps
  pub mine : calls_of i steps ≡ own

tail_is : (a c : Call) (xs ys : List Call) → a ∷ xs ≡ c ∷ ys → xs ≡ ys
tail_is a c xs ys e = cc

step_back : (g : Group) → EntryLaws g.rules → (i : ℕ) (c : Call) (own : List Call) (x : ReplicaStep Call) (xs : List (ReplicaStep Call)) → IsRun g (x ∷ xs) → IsClear g (x ∷ xs) → (b : Bool) →
    (calls_of i xs ≡ c ∷ own → RunTo g i own) → cond b (x.call ∷ calls_of i xs) (calls_of i xs) ≡ c ∷ own → RunTo g i own
step_back g laws i c own x xs run clear true older e =
    record { steps = xs; run = run.2; clear = clear_before g laws x xs clear; mine = tail_is x.call c (calls_of i xs) own e }
step_back g laws i c own x xs run clear false older e = older e

one_back : (g : Group) → EntryLaws g.rules → (i : ℕ) (c : Call) (own : List Call) (steps : List (ReplicaStep Call)) → IsRun g steps → IsClear g steps → calls_of i steps ≡ c ∷ own → RunTo g i own
one_back g laws i c own [] run clear e = absurd (cc)
one_back g laws i c own (x ∷ xs) run clear e = step_back g laws i c own x xs run clear (eqb x.who i) (one_back g laws i c own xs run.2 (clear_before g laws x xs clear)) e

-- without the later of its calls
pub run_back : (g : Group) → EntryLaws g.rules → (i : ℕ) (later own : List Call) → RunTo g i (later ++ own) → RunTo g i own
run_back g laws i [] own x = x
run_back g laws i (c ∷ later) own x = run_back g laws i later own (one_back g laws i c (later ++ own) x.steps x.run x.clear x.mine)
