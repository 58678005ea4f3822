-- The logs of commands of correct replicas, from their identifier logs and one value at each slot.
use Rattle.std.specs.Prelude.{◌≡◌, ℕ, zero, suc, ◌+◌, ◌-◌, ◌<◌, ◌≤◌, ◌==◌, Bool, true, false, cond, if◌then◌else◌, count_by, List, [], ◌∷◌, ◌++◌, Option, Some, None, is_some, unwrap_or, refl}
use Rattle.std.specs.List.{range_with_len}
use Rattle.std.proofs.Common.{sym, ◌∙◌, ap, subst, inl, inr, arith}
use Rattle.std.proofs.lemmas.Bool.{ltb-true, false_from_ne_true}
use Rattle.std.proofs.lemmas.List.Sums.{sum_by_push}
use Rattle.std.proofs.lemmas.List.FromFn.{length-range_with_len}
use Rattle.ritas_base.specs.declared.event.Event.{Event}
use Rattle.ritas_base.specs.declared.id.Id.{Id}
use Rattle.ritas_base.specs.Slots.{command_slot}
use Rattle.ritas_base.specs.SlotLaws.{right_is}
use Rattle.ritas_base.specs.History.{replicas}
use Rattle.ritas_base.specs.RangeLaws.{range_more}
use Rattle.ritas_base.specs.Quorums.{meet_two}
use Rattle.layer_api.specs.Service.{AreHeard, AreProper, AreDistinct, MayHear, MayWord, IsPart}
use Rattle.layer_api.specs.Words.{Word, is_heard, value_at}
use Rattle.layer_api.specs.FedLaws.{heard_met}
use Rattle.layer_api.specs.PartLaws.{heard_is}
use Rattle.command_log.specs.Rows.{Row, row_of, is_same_command, is_origin, count_origins, entries_of_log, IsIn, HasRow}
use Rattle.command_log.specs.Laws.{chain_part, own_is, own_confirmed, one_from, IsOriginOf, origin_is}
use Rattle.ritas_core.specs.Rules.{seat_of}
use Rattle.ritas_core.specs.HeardLaws.{heard_delivered}
use Rattle.world_model.specs.declared.audit.Audit.TheVariants.{Holds}
use Rattle.world_model.specs.World.{Setting, rules_at}
use Rattle.world_model.specs.Audit.{has_too_many, first_broken, audit_of}
use Rattle.ritas_core.specs.Parts.{Entry, Took, Given}
use Rattle.world_model.specs.OneValueEach.{count_inputs, input_at, history_of, OneValueEach}
use Rattle.world_model.specs.Agree.{words_of, identifier_log, command_delivered, rows_at, own_rows_at, OneIsPart, HasInput, IsSubmitted, IsConfirmed}
use Rattle.world_model.proofs.Worlds.{layer_laws, world_after}
use Rattle.world_model.proofs.Law.{audit_parts, enough_of}
use Rattle.world_model.proofs.Below.{IsSoundOver}

in_more : (x : Id) (more xs : List Id) → IsIn x xs → IsIn x (more ++ xs)
in_more x [] xs here = here
in_more x (y ∷ more) xs here = inr (in_more x more xs here)

in_part : (x : Id) (xs ys : List Id) → IsPart xs ys → IsIn x xs → IsIn x ys
in_part x xs ys part here = subst (λ (zs : List Id). IsIn x zs) part.1 (in_more x part.0 xs here)

pub heard_in : (words : List Word) (x : Id) (xs : List Id) → AreHeard words xs → IsIn x xs → is_heard words (command_slot x.origin x.num) ≡ true
heard_in words x [] all here = absurd here
heard_in words x (y ∷ ys) all (inl e) = subst (λ (z : Id). is_heard words (command_slot z.origin z.num) ≡ true) e all.0
heard_in words x (y ∷ ys) all (inr there) = heard_in words x ys all.1 there

pub some_is : (o : Option (List ℕ)) → is_some o ≡ true → (v : List ℕ) × (o ≡ Some v)
some_is None is = absurd (cc)
some_is (Some v) is = (v, refl)

-- an input of a number is an input
input_has : (h : List Entry) (k : ℕ) (v : List ℕ) → input_at h k ≡ Some v → HasInput h v
input_has [] k v is = absurd (cc)
input_has (Given u ∷ h) k v is = go (λ e. input_has h k v e) (count_inputs h == k) is
  where
    some : Some u ≡ Some v → u ≡ v
    some e = cc

    go : (input_at h k ≡ Some v → HasInput h v) → (b : Bool) → (if b then Some u else input_at h k) ≡ Some v → HasInput (Given u ∷ h) v
    go older true e = inl (some e)
    go older false e = inr (older e)
input_has (Took x ∷ h) k v is = input_has h k v is

-- of a test that no number from n on passes as many pass below a greater number
count_from : (p : ℕ → Bool) (n more : ℕ) → ((k : ℕ) → n ≤ k → p k ≡ false) → (m : ℕ) → more + n ≡ m → count_by p (replicas m) ≡ count_by p (replicas n)
count_from p n zero none m is = let same : m ≡ n = omega (arith, is) in ap (λ (k : ℕ). count_by p (replicas k)) same
count_from p n (suc more) none zero is = absurd (omega (arith, is))
count_from p n (suc more) none (suc m) is =
    let rest = count_from p n more none m (omega (arith, is)) in
    ap (count_by p) (range_more 0 m m (omega arith))
    ∙ (sum_by_push (λ k. cond {A = ℕ} (p k) 1 0) (range_with_len 0 m) m
    ∙ (ap (λ (b : Bool). count_by p (replicas m) + cond {A = ℕ} b 1 0) (none m (omega (arith, is))) ∙ omega (arith, rest)))

count_all : (p : ℕ → Bool) (n : ℕ) → n ≤ 31 → ((k : ℕ) → n ≤ k → p k ≡ false) → count_origins p ≡ count_by p (replicas n)
unfolding count_origins
count_all p n few none = count_from p n (256 - n) none 256 (omega (arith, few))

module _ (w : Setting) (es : List Event) (sound : IsSoundOver w) (holds : audit_of w es ≡ Holds) (values : OneValueEach w es) where
  proper : (i : ℕ) → w.is_correct i ≡ true → AreProper w.service (seat_of (rules_at w i)) (words_of w es i)
  proper i correct =
      let audit = audit_parts (has_too_many w) (first_broken w es) holds in
      sound.core.proper (rules_at w i) (layer_laws w sound i correct).layers (history_of w es i) ((world_after w sound es audit.1).met i correct)

  pub ids_distinct : (i : ℕ) → w.is_correct i ≡ true → AreDistinct (identifier_log w es i)
  ids_distinct i correct = sound.world.words.done_once (seat_of (rules_at w i)) (words_of w es i) (proper i correct)

  -- the command of an identifier in the log was delivered
  has_command : (i : ℕ) → w.is_correct i ≡ true → (x : Id) → IsIn x (identifier_log w es i) → (v : List ℕ) × (command_delivered w es i x ≡ Some v)
  has_command i correct x here =
      let s = command_slot x.origin x.num in
      let all = sound.world.words.done_heard (seat_of (rules_at w i)) (words_of w es i) (proper i correct) in
      let heard = heard_in (words_of w es i) x (identifier_log w es i) all here in
      let v = some_is (value_at (words_of w es i) s) (sym (heard_is (words_of w es i) s) ∙ heard) in
      (v.0, sym (heard_delivered (rules_at w i) (layer_laws w sound i correct).layers (history_of w es i) s) ∙ v.1)

  -- and is the same at each replica
  same_command : (i j : ℕ) → w.is_correct i ≡ true → w.is_correct j ≡ true → (x : Id) → IsIn x (identifier_log w es i) → IsIn x (identifier_log w es j)
      → command_delivered w es i x ≡ command_delivered w es j x
  same_command i j left right x here there =
      let v = has_command i left x here in
      let u = has_command j right x there in
      v.1 ∙ (ap (λ (c : List ℕ). Some c) (values.agree (command_slot x.origin x.num) i j v.0 u.0 left right v.1 u.1) ∙ sym u.1)

  rows_part : (i j : ℕ) → w.is_correct i ≡ true → w.is_correct j ≡ true → IsPart (identifier_log w es i) (identifier_log w es j)
      → IsPart (rows_at w es i) (rows_at w es j)
  rows_part i j left right part =
      chain_part w.start w.numbers.f (command_delivered w es i) (command_delivered w es j) (identifier_log w es i) (identifier_log w es j) part
      (λ x here. same_command i j left right x here (in_part x (identifier_log w es i) (identifier_log w es j) part here))

  -- of two replicas' rows one is a part of the other, as of their identifier logs
  pub rows_one : (i j : ℕ) → w.is_correct i ≡ true → w.is_correct j ≡ true → OneIsPart (identifier_log w es i) (identifier_log w es j)
      → OneIsPart (rows_at w es i) (rows_at w es j)
  rows_one i j left right (inl part) = inl (rows_part i j left right part)
  rows_one i j left right (inr part) = inr (rows_part j i right left part)

  -- a row of a correct origin was submitted there
  pub row_submitted : (i : ℕ) (r : Row) → w.is_correct i ≡ true → w.is_correct r.id.origin ≡ true → HasRow (own_rows_at w es i) r
      → IsSubmitted w es r
  row_submitted i r correct good here =
      let x = own_is w.start w.numbers.f (command_delivered w es i) (identifier_log w es i) r here in
      let same : x.id ≡ r.id = ap (λ (q : Row). q.id) x.row in
      let v = has_command i correct x.id x.listed in
      let of : command_delivered w es i r.id ≡ Some v.0 = ap (command_delivered w es i) (sym same) ∙ v.1 in
      let row : row_of (record { id = x.id; command = v.0 }) ≡ r =
      ap (λ o. row_of (record { id = x.id; command = unwrap_or o [] })) (sym v.1) ∙ x.row in
      record {
        command = v.0;
        given = values.inputs r.id.origin r.id.num i v.0 correct good of;
        row = subst (λ (y : Id). row_of (record { id = y; command = v.0 }) ≡ r) same row;
      }

  -- an identifier in the log is of a replica
  of_replica : (i : ℕ) → w.is_correct i ≡ true → (x : Id) → IsIn x (identifier_log w es i) → x.origin < w.numbers.n
  of_replica i correct x here =
      let s = command_slot x.origin x.num in
      let all = sound.world.words.done_heard (seat_of (rules_at w i)) (words_of w es i) (proper i correct) in
      let heard = heard_in (words_of w es i) x (identifier_log w es i) all here in
      let v = some_is (value_at (words_of w es i) s) (sym (heard_is (words_of w es i) s) ∙ heard) in
      let met : MayHear w.service (seat_of (rules_at w i)) _ s v.0 = (heard_met (MayWord w.service (seat_of (rules_at w i))) (words_of w es i) s v.0 (proper i correct) v.1).1 in
      ltb-true x.origin w.numbers.n (right_is w.numbers w.mode s met.right).origin

  -- an origin of a command that is correct had it as an input
  origin_given : (i : ℕ) (r : Row) → w.is_correct i ≡ true → (k : ℕ) → w.is_correct k ≡ true → IsOriginOf (command_delivered w es i) (identifier_log w es i) r k → IsConfirmed w es r
  origin_given i r correct k good origin =
      let v = has_command i correct origin.id origin.listed in
      let there : w.is_correct origin.id.origin ≡ true = ap w.is_correct origin.origin ∙ good in
      let same : is_same_command (row_of (record { id = origin.id; command = v.0 })) r ≡ true =
      ap (λ o. is_same_command (row_of (record { id = origin.id; command = unwrap_or o [] })) r) (sym v.1) ∙ origin.same in
      let one = one_from (row_of (record { id = origin.id; command = v.0 })) r same in
      record {
        at = origin.id.origin;
        correct = there;
        command = v.0;
        given = input_has (history_of w es origin.id.origin) origin.id.num v.0 (values.inputs origin.id.origin origin.id.num i v.0 correct there v.1);
        client = one.client;
        request = one.request;
        payload = one.payload;
      }

  -- of the origins of a row's command one is correct, and had it as an input
  pub row_confirmed_at : (i : ℕ) (r : Row) → w.is_correct i ≡ true → HasRow (own_rows_at w es i) r → IsConfirmed w es r
  row_confirmed_at i r correct here =
      let n = w.numbers.n in
      let entries = entries_of_log (command_delivered w es i) (identifier_log w es i) in
      let enough = enough_of w sound (audit_parts (has_too_many w) (first_broken w es) holds).0 in
      let many = own_confirmed w.start w.numbers.f entries r here in
      let from : (k : ℕ) → is_origin entries r k ≡ true → IsOriginOf (command_delivered w es i) (identifier_log w es i) r k = origin_is (command_delivered w es i) (identifier_log w es i) r in
      let below : (k : ℕ) → n ≤ k → is_origin entries r k ≡ false =
      λ k far. false_from_ne_true (is_origin entries r k) (λ is.
      let o = from k is in let small = of_replica i correct o.id o.listed in absurd (omega (arith, far, small, o.origin))) in
      let all = count_all (is_origin entries r) n enough.session.most below in
      let both = meet_two (is_origin entries r) w.is_correct (replicas n) (omega (arith, many, all, enough.many, length-range_with_len 0 n)) in
      origin_given i r correct both.member both.second (from both.member both.first)
