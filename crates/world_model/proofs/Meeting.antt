-- What a replica meets at a message, print by print.
use Rattle.std.proofs.Common.{◌≡◌, ℕ, zero, suc, ◌+◌, add-one, ◌<◌, ◌≤◌, Bool, true, false, Result, Ok, Err, List, [], ◌∷◌, ◌++◌, map, refl, sym, ◌∙◌, ap, ap₂, subst, inl, inr, arith}
use Rattle.std.specs.List.{list_any}
use Rattle.std.specs.Result.{IfOk}
use Rattle.std.proofs.Math.Nat.{eq-or-lt_of_le}
use Rattle.ritas_base.specs.declared.slot.Slot.{Slot}
use Rattle.ritas_base.specs.History.{replicas}
use Rattle.layer_api.specs.Runs.{Has}
use Rattle.layer_api.specs.HasLaws.{has_either, has_left, has_right, map_has}
use Rattle.layer_api.specs.Entries.{Print, OfMessage, OfEntry}
use Rattle.keyed_channel.specs.KeyRow.{KeyRow}
use Rattle.keyed_channel.specs.Keyed.{tags_of}
use Rattle.world_model.specs.declared.hashed.Hashed.{Hashed}
use Rattle.world_model.specs.Hashed.{HashedStand, Clash, Adds, Meets, print_of, both_of, prints_with}
use Rattle.world_model.specs.Audit.{clashes, collide}
use Rattle.world_model.proofs.Anywhere.{some_of, any_of, mapped_from, has_number, number_below}
use Rattle.world_model.proofs.HashedSteps.{clash_collides}

-- ---- the same prints

-- each of these is one of those
abbrev pub Within : List Print → List Print → Type 0
Within xs ys = (p : Print) → Has xs p → Has ys p

pub collide_within : (xs ys : List Print) → Within xs ys → collide xs ≡ true → collide ys ≡ true
collide_within xs ys within e =
    let one = some_of (λ a. list_any (clashes a) xs) xs e in
    let other = some_of (clashes one.element) xs one.passes in
    any_of (λ a. list_any (clashes a) ys) ys one.element (within one.element one.listed)
    (any_of (clashes one.element) ys other.element (within other.element other.listed) other.passes)

pub stand_within : (h : Hashed) (xs ys : List Print) → Within xs ys → Within ys xs → HashedStand h xs → HashedStand h ys
stand_within h xs ys to back stand = record {
  messages = λ m d here. stand.messages m d (back (OfMessage m d) here);
  no_other_message = λ m d is. to (OfMessage m d) (stand.no_other_message m d is);
  right = stand.right;
  digests = stand.digests;
  no_other_digest = stand.no_other_digest;
  one_message = stand.one_message;
  entries = λ x e here. stand.entries x e (back (OfEntry x e) here);
  no_other_entry = λ x e is. to (OfEntry x e) (stand.no_other_entry x e is);
}

within_both : (xs ys old : List Print) → Within xs ys → Within (xs ++ old) (ys ++ old)
within_both xs ys old within p here = elim (has_either xs old p here) [
  | inl new ↦ has_left ys old p (within p new)
  | inr before ↦ has_right ys old p before
]

-- more prints, as those, are met
pub meets_within : (h : Hashed) (xs ys old : List Print) → Within xs ys → Within ys xs → (clash : Bool) → Meets h xs old clash → Meets h ys old clash
meets_within h xs ys old to back true meets = collide_within (xs ++ old) (ys ++ old) (within_both xs ys old to) meets
meets_within h xs ys old to back false meets = stand_within h (xs ++ old) (ys ++ old) (within_both xs ys old to) (within_both ys xs old back) meets

-- ---- two entries

-- what the code adds is the print of an entry
is_print : (k : KeyRow) (s : Slot) (d : List ℕ) (echoer verifier e v : ℕ) (entry : List ℕ) → e ≡ echoer → v ≡ verifier → entry ≡ (tags_of k).entry s e v d →
    OfEntry (record { slot = s; echoer = e; verifier = v; digest = d }) entry ≡ print_of k s d echoer verifier
is_print k s d echoer verifier e v entry same_e same_v is =
    ap (λ (x : List ℕ). OfEntry (record { slot = s; echoer = e; verifier = v; digest = d }) x) is ∙ ap₂ (λ x y. print_of k s d x y) same_e same_v

pub first_clashes : (n : Hashed) (k : KeyRow) (s : Slot) (d : List ℕ) (other me : ℕ) (entry : List ℕ) (clash : Bool) (prints : List Print) → me ≡ k.me → entry ≡ (tags_of k).entry s me other d →
    clash ≡ true → Adds n (OfEntry (record { slot = s; echoer = me; verifier = other; digest = d }) entry) prints clash → Meets n (both_of k s d other) prints true
first_clashes n k s d other me entry clash prints own is clashed adds =
    let q = print_of k s d k.me other in
    let p = print_of k s d other k.me in
    let P : Bool → Type 0 = λ b. Adds n (OfEntry (record { slot = s; echoer = me; verifier = other; digest = d }) entry) prints b in
    let clashing : Clash q prints = subst (λ (x : Print). Clash x prints) (is_print k s d k.me other me other entry own refl is) (subst P clashed adds) in
    clash_collides q prints (p ∷ q ∷ prints) (inr (inl refl)) (λ x there. inr (inr there)) clashing

second_either : (n : Hashed) (p q : Print) (prints : List Print) (clash : Bool) → Adds n p (q ∷ prints) clash → Meets n (p ∷ q ∷ []) prints clash
second_either n p q prints true clash = clash_collides p (q ∷ prints) (p ∷ q ∷ prints) (inl refl) (λ x there. inr there) clash
second_either n p q prints false stand = stand

pub second_adds : (mid n : Hashed) (k : KeyRow) (s : Slot) (d : List ℕ) (other me : ℕ) (given got : List ℕ) (first clash : Bool) (prints : List Print) → me ≡ k.me → given ≡ (tags_of k).entry s me other d →
    got ≡ (tags_of k).entry s other me d → first ≡ false →
    Adds mid (OfEntry (record { slot = s; echoer = me; verifier = other; digest = d }) given) prints first →
    ((ps : List Print) → HashedStand mid ps → Adds n (OfEntry (record { slot = s; echoer = other; verifier = me; digest = d }) got) ps clash) → Meets n (both_of k s d other) prints clash
second_adds mid n k s d other me given got first clash prints own given_is got_is fine one two =
    let q = print_of k s d k.me other in
    let p = print_of k s d other k.me in
    let P : Bool → Type 0 = λ b. Adds mid (OfEntry (record { slot = s; echoer = me; verifier = other; digest = d }) given) prints b in
    let stand : HashedStand mid (q ∷ prints) = subst (λ (x : Print). HashedStand mid (x ∷ prints)) (is_print k s d k.me other me other given own refl given_is) (subst P fine one) in
    second_either n p q prints clash (subst (λ (x : Print). Adds n x (q ∷ prints) clash) (is_print k s d other k.me other me got refl own got_is) (two (q ∷ prints) stand))

pub if_ok : {X E : Type 0} (P Q : X → Type 0) → ((x : X) → P x → Q x) → (result : Result X E) → IfOk result P → IfOk result Q
if_ok P Q more (Ok x) holds = more x holds
if_ok P Q more (Err e) holds = holds

-- ---- all of them

-- the message, and the entries with the replicas below n
abbrev pub met_below : KeyRow → Slot → List ℕ → ℕ → List Print
met_below k s m zero = OfMessage m ((tags_of k).digest m) ∷ []
met_below k s m (suc n) = both_of k s ((tags_of k).digest m) n ++ met_below k s m n

given_with : (k : KeyRow) (s : Slot) (m : List ℕ) (v : ℕ) → v < k.n → Has (prints_with k s m) (print_of k s ((tags_of k).digest m) k.me v)
given_with k s m v below =
    inr (has_left (map (λ verifier. print_of k s ((tags_of k).digest m) k.me verifier) (replicas k.n)) (map (λ echoer. print_of k s ((tags_of k).digest m) echoer k.me) (replicas k.n))
    (print_of k s ((tags_of k).digest m) k.me v) (map_has (λ verifier. print_of k s ((tags_of k).digest m) k.me verifier) (replicas k.n) v (has_number 0 k.n v (omega arith) (omega arith))))

got_with : (k : KeyRow) (s : Slot) (m : List ℕ) (e : ℕ) → e < k.n → Has (prints_with k s m) (print_of k s ((tags_of k).digest m) e k.me)
got_with k s m e below =
    inr (has_right (map (λ verifier. print_of k s ((tags_of k).digest m) k.me verifier) (replicas k.n)) (map (λ echoer. print_of k s ((tags_of k).digest m) echoer k.me) (replicas k.n))
    (print_of k s ((tags_of k).digest m) e k.me) (map_has (λ echoer. print_of k s ((tags_of k).digest m) echoer k.me) (replicas k.n) e (has_number 0 k.n e (omega arith) (omega arith))))

pub below_within : (k : KeyRow) (s : Slot) (m : List ℕ) (n : ℕ) → n ≤ k.n → Within (met_below k s m n) (prints_with k s m)
below_within k s m zero few p (inl e) = inl e
below_within k s m zero few p (inr there) = elim there [ ]
below_within k s m (suc n) few p (inl e) = subst (λ (x : Print). Has (prints_with k s m) x) e (got_with k s m n (omega arith))
below_within k s m (suc n) few p (inr (inl e)) = subst (λ (x : Print). Has (prints_with k s m) x) e (given_with k s m n (omega arith))
below_within k s m (suc n) few p (inr (inr there)) = below_within k s m n (omega arith) p there

got_below : (k : KeyRow) (s : Slot) (m : List ℕ) (n e : ℕ) → e < n → Has (met_below k s m n) (print_of k s ((tags_of k).digest m) e k.me)
got_below k s m zero e below = absurd (omega arith)
got_below k s m (suc n) e below = elim (eq-or-lt_of_le (below_is n e below)) [
  | inl same ↦ inl (ap (λ x. print_of k s ((tags_of k).digest m) x k.me) (sym same))
  | inr less ↦ inr (inr (got_below k s m n e less))
]
  where
    below_is : (n e : ℕ) → e < suc n → e ≤ n
    below_is n e less = omega arith

given_below : (k : KeyRow) (s : Slot) (m : List ℕ) (n v : ℕ) → v < n → Has (met_below k s m n) (print_of k s ((tags_of k).digest m) k.me v)
given_below k s m zero v below = absurd (omega arith)
given_below k s m (suc n) v below = elim (eq-or-lt_of_le (below_is n v below)) [
  | inl same ↦ inr (inl (ap (λ x. print_of k s ((tags_of k).digest m) k.me x) (sym same)))
  | inr less ↦ inr (inr (given_below k s m n v less))
]
  where
    below_is : (n v : ℕ) → v < suc n → v ≤ n
    below_is n v less = omega arith

message_below : (k : KeyRow) (s : Slot) (m : List ℕ) (n : ℕ) → Has (met_below k s m n) (OfMessage m ((tags_of k).digest m))
message_below k s m zero = inl refl
message_below k s m (suc n) = inr (inr (message_below k s m n))

pub with_within : (k : KeyRow) (s : Slot) (m : List ℕ) → Within (prints_with k s m) (met_below k s m k.n)
with_within k s m p (inl e) = subst (λ (x : Print). Has (met_below k s m k.n) x) e (message_below k s m k.n)
with_within k s m p (inr there) =
    let digest = (tags_of k).digest m in
    elim (has_either (map (λ verifier. print_of k s digest k.me verifier) (replicas k.n)) (map (λ echoer. print_of k s digest echoer k.me) (replicas k.n)) p there) [
      | inl given ↦
          let is = mapped_from (λ verifier. print_of k s digest k.me verifier) (replicas k.n) p given in
          let below = number_below 0 k.n is.element is.listed in
          subst (λ (x : Print). Has (met_below k s m k.n) x) is.same (given_below k s m k.n is.element (omega arith))
      | inr got ↦
          let is = mapped_from (λ echoer. print_of k s digest echoer k.me) (replicas k.n) p got in
          let below = number_below 0 k.n is.element is.listed in
          subst (λ (x : Print). Has (met_below k s m k.n) x) is.same (got_below k s m k.n is.element (omega arith))
    ]

-- ---- as the code has it

-- the message clashes
pub message_clashes : (k : KeyRow) (s : Slot) (m : List ℕ) (prints : List Print) → Clash (OfMessage m ((tags_of k).digest m)) prints → collide (prints_with k s m ++ prints) ≡ true
message_clashes k s m prints clash =
    clash_collides (OfMessage m ((tags_of k).digest m)) prints (prints_with k s m ++ prints) (inl refl) (λ x there. has_right (prints_with k s m) prints x there) clash

-- entries with one of the replicas clash
pub both_clash : (mid h : Hashed) (k : KeyRow) (s : Slot) (m d : List ℕ) (n : ℕ) (clash : Bool) (prints : List Print) → n < k.n → d ≡ (tags_of k).digest m → clash ≡ true →
    HashedStand mid (met_below k s m n ++ prints) → ((ps : List Print) → HashedStand mid ps → Meets h (both_of k s d n) ps clash) → Meets h (prints_with k s m) prints true
both_clash mid h k s m d n clash prints below is clashed stand adds =
    let P : Bool → Type 0 = λ b. Meets h (both_of k s d n) (met_below k s m n ++ prints) b in
    let clashing : collide (both_of k s ((tags_of k).digest m) n ++ (met_below k s m n ++ prints)) ≡ true =
    subst (λ (x : List ℕ). collide (both_of k s x n ++ (met_below k s m n ++ prints)) ≡ true) is (subst P clashed (adds (met_below k s m n ++ prints) stand)) in
    collide_within (met_below k s m (suc n) ++ prints) (prints_with k s m ++ prints)
    (within_both (met_below k s m (suc n)) (prints_with k s m) prints (below_within k s m (suc n) (omega arith))) clashing

-- entries with one replica more
pub more_met : (mid h : Hashed) (k : KeyRow) (s : Slot) (m d : List ℕ) (n : ℕ) (clash : Bool) (prints : List Print) → d ≡ (tags_of k).digest m → clash ≡ false →
    HashedStand mid (met_below k s m n ++ prints) → ((ps : List Print) → HashedStand mid ps → Meets h (both_of k s d n) ps clash) → HashedStand h (met_below k s m (n + 1) ++ prints)
more_met mid h k s m d n clash prints is fine stand adds =
    let P : Bool → Type 0 = λ b. Meets h (both_of k s d n) (met_below k s m n ++ prints) b in
    let now : HashedStand h (both_of k s ((tags_of k).digest m) n ++ (met_below k s m n ++ prints)) =
    subst (λ (x : List ℕ). HashedStand h (both_of k s x n ++ (met_below k s m n ++ prints))) is (subst P fine (adds (met_below k s m n ++ prints) stand)) in
    subst (λ (x : ℕ). HashedStand h (met_below k s m x ++ prints)) (sym (add-one n)) now

-- all are in the maps
pub all_met : (h : Hashed) (k : KeyRow) (s : Slot) (m : List ℕ) (n : ℕ) (prints : List Print) → n ≡ k.n → HashedStand h (met_below k s m n ++ prints) → Meets h (prints_with k s m) prints false
all_met h k s m n prints all stand =
    stand_within h (met_below k s m k.n ++ prints) (prints_with k s m ++ prints)
    (within_both (met_below k s m k.n) (prints_with k s m) prints (below_within k s m k.n (omega arith)))
    (within_both (prints_with k s m) (met_below k s m k.n) prints (with_within k s m))
    (subst (λ (x : ℕ). HashedStand h (met_below k s m x ++ prints)) all stand)
