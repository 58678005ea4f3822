-- The law of a round by lists: decisions are equal, and each identifier that one of them has was in the list of some correct replica.
use Rattle.std.specs.Prelude.{◌≡◌, ℕ, zero, suc, ◌+◌, ◌<◌, ◌≤◌, ◌^◌, Bool, true, ◌==◌, ◌&&◌, nat_le, if◌then◌else◌, List, [], ◌∷◌, take, length, count_by, Option, Some, None, is_some, unwrap_or, refl}
use Rattle.std.specs.List.{AllByRecursion}
use Rattle.std.proofs.Common.{sym, ◌∙◌, ap, subst, inl, inr, arith}
use Rattle.std.proofs.lemmas.Bool.{or_cases, or_left, or_right, both_ways}
use Rattle.std.proofs.lemmas.List.FromFn.{length-range_with_len}
use Rattle.ritas_base.specs.declared.slot.Slot.{Slot}
use Rattle.ritas_base.specs.declared.item.Say.{Say}
use Rattle.ritas_base.specs.declared.id.Id.{Id}
use Rattle.ritas_base.specs.declared.root_service.RootService.TheVariants.{Direct}
use Rattle.ritas_base.specs.RootServices.{root_number}
use Rattle.ritas_base.specs.Numbers.{wait_of}
use Rattle.ritas_base.specs.History.{replicas}
use Rattle.ritas_base.specs.Quorums.{meet_two}
use Rattle.frame_codec.specs.Limits.{most_ids}
use Rattle.frame_codec.specs.IdLaws.{list_again}
use Rattle.frame_codec.specs.Values.{ids_bytes, ids_of, is_passed}
use Rattle.layer_api.specs.Runs.{ReplicaStep, calls_of, Has, IsEnough}
use Rattle.layer_api.specs.Words.{Word, Ask, HasSay, value_at}
use Rattle.layer_api.specs.Part.{proposed, newly}
use Rattle.layer_api.specs.Service.{Instance, OfBit, OfValue, OfVector, Decision, Bit, Value, has_id}
use Rattle.layer_api.specs.DecisionLaws.{if_so}
use Rattle.layer_api.specs.Fed.{IsFedRun}
use Rattle.layer_api.specs.FedLaws.{some_if, shortest_at, value_stays, proposed_has, heard_said, say_later, met}
use Rattle.layer_api.specs.PartLaws.{part_has}
use Rattle.layer_api.specs.Multi.{Scope, Desk, desk_at, MultiRules, MultiLaws, OneDecision, multi_play}
use Rattle.layer_api.specs.RoundLists.{prop_slot, props, present}
use Rattle.layer_api.specs.RoundListLaws.{present_counted}
use Rattle.ordered_rounds.specs.Identifiers.{in_order}
use Rattle.layer_api.specs.Proposals.{Proposal, SaidProposal, IsProposed, proposal_slot, backers}
use Rattle.layer_api.specs.ProposalLaws.{part_said, proposed_as}
use Rattle.ordered_rounds.specs.Rounds.{backed}
use Rattle.ordered_rounds.specs.Box.{AreRound, round_play, WasInList, OneRound}
use Rattle.ordered_rounds.specs.Laws.ListedIds.{in_order_has, backed_many}
use Rattle.direct_atomic.specs.Lists.{least_backed, lists_at, inner_asked, is_inner, inner_scope, inner_desk, inner_words, inner_decides, list_inside, lists}
use Rattle.direct_atomic.specs.Laws.Inner.{list_play, ask_inner, ask_stays, ask_nothing, lists_range, least_range, inside_run, inside_fed, inside_calls, prop_said, InRange}
use Rattle.direct_atomic.specs.Laws.Box.{decided_by, no_ids}

-- ---- lists

-- what is in the front of a list is in it
front_is : (k : ℕ) (xs : List Id) (z : Id) → has_id (take k xs) z ≡ true → has_id xs z ≡ true
front_is zero xs z h = absurd cc
front_is (suc k) [] z h = h
front_is (suc k) (x ∷ xs) z h =
    elim (or_cases (x.origin == z.origin && x.num == z.num) (has_id (take k xs) z) h) [
      | inl e ↦ or_left (x.origin == z.origin && x.num == z.num) (has_id xs z) e
      | inr e ↦ or_right (x.origin == z.origin && x.num == z.num) (has_id xs z) (front_is k xs z e)
    ]

small : (n : ℕ) (xs : List Id) → AllByRecursion (InRange n) xs → AllByRecursion (λ x. x.num < 2 ^ 32) xs
small n [] all = tt
small n (x ∷ xs) all = let l = all.0.1 in (omega (arith, l), small n xs all.1)

-- ---- a run

module _ (m : MultiRules) (laws : MultiLaws m) (one : OneDecision m) (at : Scope) (is_correct : ℕ → Bool) (coins : ℕ → Slot → Bool) (xs : List (ReplicaStep Word))
    (enough : IsEnough at.numbers is_correct) (has : at.root ≡ root_number Direct) (fed : IsFedRun (round_play (lists m) at coins) is_correct xs) where
  abbrev here : ℕ → Desk
  here i = desk_at at coins i

  abbrev run : List (ReplicaStep Word)
  run = inside_run m laws at enough.session has coins xs

  -- what is said in the round
  abbrev saying : Proposal
  saying = SaidProposal (round_play (lists m) at coins) xs

  -- what the instance decided, it decided in its run
  to_run : (i : ℕ) (d : Option (List ℕ)) → inner_decides m (here i) (calls_of i xs) ≡ Some d → m.decision (desk_at (inner_scope at) coins i) (calls_of i run) ≡ Some d
  to_run i d q =
      subst (λ (w : List Word). m.decision (inner_desk (here i)) w ≡ Some d) (sym (inside_calls m laws at enough.session has coins i xs)) q

  -- decisions are equal
  pub agree : (i j : ℕ) (v u : List ℕ) → is_correct i ≡ true → is_correct j ≡ true
      → (lists m).decision (here i) (calls_of i xs) ≡ Some v → (lists m).decision (here j) (calls_of j xs) ≡ Some u → v ≡ u
  agree i j v u ci cj q r =
      let x = decided_by (inner_decides m (here i) (calls_of i xs)) v q in
      let y = decided_by (inner_decides m (here j) (calls_of j xs)) u r in
      let same = one.agree (inner_scope at) is_correct coins run enough (inside_fed m laws at enough.session has coins is_correct xs fed) i j x.0 y.0 ci cj
      (to_run i x.0 x.1) (to_run j y.0 y.1) in
      sym x.2 ∙ (ap (λ (d : Option (List ℕ)). unwrap_or d []) same ∙ y.2)

  -- ---- whose identifiers they are

  record IsOlder (i : ℕ) (g : List Word) : Type 0 where
    met : AreRound (lists m) (here i) g
    value : (s : Slot) (v : List ℕ) → value_at g s ≡ Some v → value_at (calls_of i xs) s ≡ Some v

  older_less : (i : ℕ) (c : Word) (h : List Word) → IsOlder i (c ∷ h) → IsOlder i h
  older_less i c h o = record { met = o.met.1; value = λ s v q. o.value s v (value_stays c h s v q) }

  older_all : (i : ℕ) → IsOlder i (calls_of i xs)
  older_all i = record { met = met (list_play m laws at enough.session has coins) is_correct xs fed i; value = λ s v q. q }

  -- the list that was heard of a correct replica it said, and it had proposed it
  heard_of : (i k : ℕ) (v : List ℕ) → is_correct k ≡ true → value_at (calls_of i xs) (prop_slot at k) ≡ Some v
      → saying k (OfVector at.a) v
  heard_of i k v ck q =
      heard_said (list_play m laws at enough.session has coins) is_correct
      (λ j c w y h. say_later ((lists m).says (here j) w c) _ y h) xs fed i (prop_slot at k) v q ck

  said_asked : (k : ℕ) (v : List ℕ) → saying k (OfVector at.a) v → Has (calls_of k xs) (Ask v)
  said_asked k v s =
      proposed_has (calls_of k xs) v
      (prop_said m laws at enough.session has coins k (calls_of k xs) v (older_all k).met s)

  -- of f + 1 lists that name an identifier one is a correct replica's
  backed_correct : (i : ℕ) (g : List Word) (x : Id) → IsOlder i g → at.numbers.f + 1 ≤ backers (present (props at g)) x → WasInList (lists m) at is_correct coins xs x
  backed_correct i g x o l =
      let t : List ℕ → Bool = λ e. has_id (ids_of e) x in
      let count = present_counted t (λ k. value_at g (prop_slot at k)) (replicas at.numbers.n) in
      let many = enough.many in
      let size : length (replicas at.numbers.n) ≡ at.numbers.n = length-range_with_len 0 at.numbers.n in
      let k = meet_two (λ j. is_passed t (value_at g (prop_slot at j))) is_correct (replicas at.numbers.n) (omega (arith, count, many, l, size)) in
      let e = entry (value_at g (prop_slot at k.member)) k.first in
      let said = heard_of i k.member e.0 k.second (o.value (prop_slot at k.member) e.0 e.1) in
      record {
        who = k.member;
        list = e.0;
        correct = k.second;
        asked = said_asked k.member e.0 said;
        said = said;
        stands = e.2;
      }
    where
      entry : (o : Option (List ℕ)) → is_passed (λ e. has_id (ids_of e) x) o ≡ true → (e : List ℕ) × (o ≡ Some e) × (has_id (ids_of e) x ≡ true)
      entry None q = absurd cc
      entry (Some e) q = (e, refl, q)

  -- so is each identifier of what a replica proposed to the instance
  asked_listed : (j : ℕ) (v : List ℕ) (x : Id) → inner_asked at (calls_of j xs) ≡ Some v → has_id (ids_of v) x ≡ true → WasInList (lists m) at is_correct coins xs x
  asked_listed j v x q h =
      let g = shortest_at (IsOlder j) (older_less j) (lists_at at) (calls_of j xs) v (older_all j) q in
      let es = present (props at g.0) in
      let s = some_if (is_some (proposed g.0) && nat_le (wait_of at.numbers) (count_by is_some (props at g.0))) (ids_bytes (least_backed at.numbers es)) v g.2 in
      let range = least_range at.numbers es (lists_range m laws at enough.session has coins j g.0 g.1.met) in
      let again = list_again (least_backed at.numbers es) (small at.numbers.n (least_backed at.numbers es) range) in
      let is : has_id (least_backed at.numbers es) x ≡ true = ap (λ (ys : List Id). has_id ys x) (sym again ∙ ap ids_of s.1) ∙ h in
      let b = front_is most_ids (backed at.numbers es) x is in
      backed_correct j g.0 x g.1 (backed_many at.numbers es x b)

  -- and each that a decision wants
  pub listed : (i : ℕ) (v : List ℕ) (x : Id) → is_correct i ≡ true → (lists m).decision (here i) (calls_of i xs) ≡ Some v
      → has_id (in_order (ids_of v)) x ≡ true → WasInList (lists m) at is_correct coins xs x
  listed i v x ci q h =
      let y = decided_by (inner_decides m (here i) (calls_of i xs)) v q in
      go y.0 y.1 (ap (λ (u : List ℕ). has_id (ids_of u) x) y.2 ∙ (sym (in_order_has (ids_of v) x) ∙ h))
    where
      go : (d : Option (List ℕ)) → inner_decides m (here i) (calls_of i xs) ≡ Some d → has_id (ids_of (unwrap_or d [])) x ≡ true → WasInList (lists m) at is_correct coins xs x
      go None e none = absurd (both_ways (has_id (ids_of []) x) (no_ids x) none)
      go (Some u) e is =
          let j = one.valid (inner_scope at) is_correct coins run enough (inside_fed m laws at enough.session has coins is_correct xs fed) i u ci (to_run i (Some u) e) in
          let a = part_has (ask_inner m laws at enough.session has coins j.0) is_inner (ask_stays at) (ask_nothing at) (calls_of j.0 xs) u
          (subst (λ (w : List Word). Has w (Ask u)) (inside_calls m laws at enough.session has coins j.0 xs) j.2) in
          asked_listed j.0 u x a is

  -- ---- the instances inside

  to_inside : (b : Bool) (i : ℕ) (x : Instance) (d : Decision) → (if b then m.inside (inner_desk (here i)) (inner_words at (calls_of i xs)) x else None) ≡ Some d
      → m.inside (desk_at (inner_scope at) coins i) (calls_of i run) x ≡ Some d
  to_inside b i x d q =
      subst (λ (w : List Word). m.inside (inner_desk (here i)) w x ≡ Some d) (sym (inside_calls m laws at enough.session has coins i xs)) (if_so b _ d q)

  same_inner : (b : Bool) (i j : ℕ) (x : Instance) (d e : Decision) → is_correct i ≡ true → is_correct j ≡ true
      → (if b then m.inside (inner_desk (here i)) (inner_words at (calls_of i xs)) x else None) ≡ Some d
      → (if b then m.inside (inner_desk (here j)) (inner_words at (calls_of j xs)) x else None) ≡ Some e → d ≡ e
  same_inner b i j x d e ci cj q r =
      one.insides (inner_scope at) is_correct coins run enough (inside_fed m laws at enough.session has coins is_correct xs fed) i j x d e ci cj
      (to_inside b i x d q) (to_inside b j x e r)

  pub same_inside : (i j : ℕ) (x : Instance) (d e : Decision) → is_correct i ≡ true → is_correct j ≡ true
      → list_inside m (here i) (calls_of i xs) x ≡ Some d → list_inside m (here j) (calls_of j xs) x ≡ Some e → d ≡ e
  same_inside i j (OfBit a k) d e ci cj q r = same_inner (a == at.a && k == 0) i j (OfBit a k) d e ci cj q r
  same_inside i j (OfValue a k) d e ci cj q r = same_inner (a == at.a && k == 0) i j (OfValue a k) d e ci cj q r
  same_inside i j (OfVector a) d e ci cj q r = absurd cc

  -- ---- what was proposed to them

  -- what a replica said in the instance, it said
  inner_out : (j : ℕ) (x : Instance) (v : List ℕ) → SaidProposal (multi_play m (inner_scope at) coins) run j x v → saying j x v
  inner_out j x v h =
      let y : Say = record { slot = proposal_slot x j; value = v } in
      part_said (inner_asked at) is_inner ((lists m).says (here j)) (m.says (inner_desk (here j)))
      (λ c w z s. say_later (newly (prop_slot at j) (proposed w) (proposed (c ∷ w))) _ z s)
      (calls_of j xs) y
      (subst (λ (w : List Word). HasSay ((multi_play m (inner_scope at) coins).said j w) y)
      (inside_calls m laws at enough.session has coins j xs) h)

  -- so what is decided in it was proposed
  run_proposed : (i : ℕ) → is_correct i ≡ true → IsProposed is_correct saying (m.inside (desk_at (inner_scope at) coins i) (calls_of i run))
  run_proposed i ci =
      proposed_as is_correct (SaidProposal (multi_play m (inner_scope at) coins) run) saying
      (λ j x v cj h. inner_out j x v h) _
      (one.proposed (inner_scope at) is_correct coins run enough
      (inside_fed m laws at enough.session has coins is_correct xs fed) i ci)

  pub inside_proposed : (i : ℕ) → is_correct i ≡ true → IsProposed is_correct saying (list_inside m (here i) (calls_of i xs))
  inside_proposed i ci = record {
    bits = λ a k b q. (run_proposed i ci).bits a k b (to_inside (a == at.a && k == 0) i (OfBit a k) (Bit b) q);
    values = λ a k v q. (run_proposed i ci).values a k v (to_inside (a == at.a && k == 0) i (OfValue a k) (Value v) q);
    entries = λ a k v e ck q r. absurd cc;
  }

-- the law, over every run
pub one_list : (m : MultiRules) → MultiLaws m → OneDecision m → OneRound (lists m)
one_list m laws one = record {
  agree = λ at is_correct coins steps enough has fed i j v u ci cj q r. agree m laws one at is_correct coins steps enough has fed i j v u ci cj q r;
  vectors = λ at is_correct coins steps enough has fed i j x y ci cj q r. absurd cc;
  unspent = λ at is_correct coins steps enough has fed i ci q. cc;
  listed = λ at is_correct coins steps enough has fed i v x ci q h. listed m laws one at is_correct coins steps enough has fed i v x ci q h;
  insides = λ at is_correct coins steps enough has fed i j x d e ci cj q r. same_inside m laws one at is_correct coins steps enough has fed i j x d e ci cj q r;
  proposed = λ at is_correct coins steps enough has fed i ci. inside_proposed m laws one at is_correct coins steps enough has fed i ci;
}
