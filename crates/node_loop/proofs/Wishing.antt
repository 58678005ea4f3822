-- Keepers of the replicas that are here: whose peers are to be asked, the least first, and one that is marked or isn't any more.
use Rattle.std.proofs.Common.{◌≡◌, ℕ, zero, suc, ◌+◌, ◌<◌, ◌≤◌, Bool, true, false, ◌&&◌, ◌==◌, nat_lt, List, [], ◌∷◌, ◌++◌, length, filter, replicate, Option, Some, None, refl, sym, ◌∙◌, ap, ap₂, subst, arith, inl, inr, slice_index_or, slice_set, if◌then◌else◌, get_or-set_other, get_or-set_same}
use Rattle.std.specs.List.{slice_get, flat_map, range_with_len, All}
use Rattle.std.specs.Option.{MatchOption, is_some}
use Rattle.std.proofs.lemmas.Bool.{cases_Bool, cases_eq, cond-true, cond-false, both_ways, lt-ltb, eq-eqb, ne_eqb, false_from_ne_true}
use Rattle.std.proofs.lemmas.Bool.Decides.{eqb_tells}
use Rattle.std.proofs.lemmas.List.{length-set, length-replicate, length-append, get_or-replicate}
use Rattle.std.proofs.lemmas.List.Elements.{All-push}
use Rattle.std.proofs.lemmas.Option.{slice_get-get_or, slice_get_within, get_or_from_slice_get, same_Some}
use Rattle.ritas_base.specs.declared.event.Event.{Event}
use Rattle.ritas_base.specs.declared.mode.FrameVersion.{FrameVersion}
use Rattle.keyed_channel.specs.KeyRow.{KeyRow}
use Rattle.keyed_channel.specs.Notes.{again_note}
use Rattle.link_resume.specs.Lists.{Keepings, kept_for, most_kept}
use Rattle.ritas_core.specs.Machine.{CoreState}
use Rattle.ritas_core.specs.Rules.{Rules}
use Rattle.ritas_core.specs.Stands.{Meaning}
use Rattle.replica.specs.Replica.{ReplicaStands}
use Rattle.replica.specs.declared.replica.Replica.{Replica}
use Rattle.world_model.specs.World.{Setting, rules_at, states_of}
use Rattle.world_model.specs.Stands.{IsReplica}
use Rattle.world_model.proofs.Left.{get_set_same, get_set_other}
use Rattle.node_loop.specs.declared.house.House.{House}
use Rattle.node_loop.specs.declared.output.More.TheVariants as mores
use Rattle.node_loop.specs.declared.peers.Keeper.{Keeper}
use Rattle.node_loop.specs.declared.peers.Early.{Early}
use Rattle.node_loop.specs.declared.peers.Pending.{Pending}
use Rattle.node_loop.specs.declared.peers.Pair.{Pair}
use Rattle.node_loop.specs.Waiting.{Waiting, nobody}
use Rattle.node_loop.specs.Peers.{Peers, no_peers, is_pair, with_mark, asked_from}
use Rattle.node_loop.specs.PeersStanding.{AreKept, ArePending, IsKeeper}
use Rattle.node_loop.specs.Deeds.{sends}
use Rattle.node_loop.specs.Resending.{peers_due, due, asks_for_more}
use Rattle.node_loop.specs.Serving.{here}
use Rattle.node_loop.specs.Served.{AreHere}
use Rattle.node_loop.specs.Standing.{HouseStands, IsMore, is_before_other}
use Rattle.node_loop.specs.WaitersStanding.{IsWaiting}
use Rattle.node_loop.proofs.Busy.{Least, least_more}
use Rattle.node_loop.proofs.Keepers.{pair_of}
use Rattle.node_loop.proofs.Heres.{as_here}
use Rattle.node_loop.proofs.Seating.{at_place, place_in, read_replica, number_read}

-- ---- the keeper at a place

-- what was read there
pub seen_there : {X : Type 0} (xs : List X) (place : ℕ) (x d : X) → place < length xs → x ≡ slice_index_or xs place d → slice_get xs place ≡ Some x
seen_there xs place x d within is = slice_get-get_or xs place d within ∙ ap (λ y. Some y) (sym is)

pub keeper_at : {S E C : Type 0} (m : Meaning S E C KeyRow) (w : Setting) (es : List Event) (numbers : List ℕ) (house : House S E C) (ws : Waiting) (p : Peers) (ks : List Keeper) (place at : ℕ) (keeper d : Keeper)
    → HouseStands m w es numbers house ws p → ks ≡ house.keepers.items → slice_get numbers place ≡ Some at → place < length ks → keeper ≡ slice_index_or ks place d
    → IsKeeper w.mode.version w.numbers.n at keeper p
keeper_at m w es numbers house ws p ks place at keeper d stands same number within is =
    stands.keepers place at keeper number (ap (λ (xs : List Keeper). slice_get xs place) (sym same) ∙ seen_there ks place keeper d within is)

-- a place of a number is one of a keeper and of a replica
pub in_house : {S E C : Type 0} (m : Meaning S E C KeyRow) (w : Setting) (es : List Event) (numbers : List ℕ) (house : House S E C) (ws : Waiting) (p : Peers) (ks : List Keeper) (place at : ℕ)
    → HouseStands m w es numbers house ws p → ks ≡ house.keepers.items → slice_get numbers place ≡ Some at → length ks ≤ place → ⊥
in_house m w es numbers house ws p ks place at stands same number past =
    let within : place < length numbers = slice_get_within numbers place at number in
    let many = stands.many in
    let long = ap length same in
    omega arith

-- ---- the least that has a peer to ask

-- whether it has one
abbrev pub wishes : Setting → List Event → Peers → ℕ → Bool
wishes w es p i = nat_lt 0 (length (peers_due w es p i))

wish_read : (at : ℕ) (xs : List Pair) (o : Option ℕ) → MatchOption o (xs ≡ []) (λ j. (more : List Pair) × (xs ≡ record { at = at; peer = j } ∷ more)) → is_some o ≡ nat_lt 0 (length xs)
wish_read at xs None is = sym (ap (λ (ys : List Pair). nat_lt 0 (length ys)) is)
wish_read at xs (Some j) is = sym (ap (λ (ys : List Pair). nat_lt 0 (length ys)) is.1 ∙ lt-ltb 0 (length (pair_of at j ∷ is.0)) (omega arith))

pub lesser_is : (at number : ℕ) (xs : List Pair) (o least : Option ℕ) (some less : Bool) → MatchOption o (xs ≡ []) (λ j. (more : List Pair) × (xs ≡ record { at = at; peer = j } ∷ more))
    → some ≡ is_some o → less ≡ is_before_other number least
    → (if some && less then Some number else least) ≡ (if nat_lt 0 (length xs) && is_before_other number least then Some number else least)
lesser_is at number xs o least some less is some_is less_is =
    ap₂ (λ (a b : Bool). if a && b then Some number else least) (some_is ∙ wish_read at xs o is) less_is

pub least_wishing_next : {S E C : Type 0} (m : Meaning S E C KeyRow) (w : Setting) (es : List Event) (numbers : List ℕ) (reps xs : List (Replica S E C)) (k : ℕ) (rep : Replica S E C) (p : Peers)
    (number : ℕ) (least result : Option ℕ)
    → AreHere m w es numbers reps → xs ≡ reps → k < length xs → rep ≡ slice_index_or xs k rep
    → ((v : Setting) (states : ℕ → CoreState) (i : ℕ) → IsReplica m v states i rep → number ≡ (v.keys i).me)
    → ((at : ℕ) → slice_get numbers k ≡ Some at → result ≡ (if wishes w es p at && is_before_other number least then Some number else least))
    → Least (wishes w es p) numbers k least → Least (wishes w es p) numbers (k + 1) result
least_wishing_next m w es numbers reps xs k rep p number least result stand same within is has did so_far =
    let x = slice_index_or numbers k 0 in
    let mine : number ≡ x = number_read m w es numbers reps xs k rep number stand same within is has in
    let many = stand.many in
    let long = ap length same in
    let placed : slice_get numbers k ≡ Some x = slice_get-get_or numbers k 0 (omega arith) in
    let Q : Option ℕ → Type 0 = λ o. Least (wishes w es p) numbers (k + 1) o in
    subst Q (sym (did x placed ∙ ap (λ (j : ℕ). if wishes w es p x && is_before_other j least then Some j else least) mine))
    (least_more (wishes w es p) numbers k least so_far)

-- ---- all that are to be asked

none_from : (xs : List Pair) → nat_lt 0 (length xs) ≡ false → xs ≡ []
none_from [] none = refl
none_from (x ∷ xs) none = absurd (both_ways (nat_lt 0 (length (x ∷ xs))) none (lt-ltb 0 (length (x ∷ xs)) (omega arith)))

passed_over : (p : ℕ → Bool) (f : ℕ → List Pair) (x : ℕ) (xs : List ℕ) → (p x ≡ true → f x ≡ []) → flat_map f (filter p (x ∷ xs)) ≡ flat_map f (filter p xs)
passed_over p f x xs none = elim (cases_Bool (p x)) [
  | inl passes ↦
      ap (flat_map f) (cond-true (p x) (x ∷ filter p xs) (filter p xs) passes) ∙ ap (λ (ys : List Pair). ys ++ flat_map f (filter p xs)) (none passes)
  | inr fails ↦ ap (flat_map f) (cond-false (p x) (x ∷ filter p xs) (filter p xs) fails)
]

all_empty : (p : ℕ → Bool) (f : ℕ → List Pair) (a n : ℕ) → ((k : ℕ) → a ≤ k → k < a + n → p k ≡ true → f k ≡ []) → flat_map f (filter p (range_with_len a n)) ≡ []
all_empty p f a zero none = refl
all_empty p f a (suc n) none =
    passed_over p f a (range_with_len (a + 1) n) (none a (omega arith) (omega arith))
    ∙ all_empty p f (a + 1) n (λ k from below. none k (omega arith) (omega arith))

-- those of the first that has some are in front
first_has : (p : ℕ → Bool) (f : ℕ → List Pair) (a n i : ℕ) → a ≤ i → i < a + n → p i ≡ true → ((k : ℕ) → a ≤ k → k < i → p k ≡ true → f k ≡ [])
    → (more : List Pair) × (flat_map f (filter p (range_with_len a n)) ≡ f i ++ more)
first_has p f a zero i from below passes none = absurd (omega arith)
first_has p f a (suc n) i from below passes none = elim (cases_eq a i) [
  | inl same ↦
      let xs = range_with_len (a + 1) n in
      (flat_map f (filter p xs), ap (λ (x : ℕ). flat_map f (filter p (x ∷ xs))) same ∙ ap (flat_map f) (cond-true (p i) (i ∷ filter p xs) (filter p xs) passes))
  | inr other ↦
      let after = first_has p f (a + 1) n i (omega arith) (omega arith) passes (λ k above under. none k (omega arith) under) in
      (after.0, passed_over p f a (range_with_len (a + 1) n) (none a (omega arith) (omega arith)) ∙ after.1)
]

pub least_wishing_is : {S E C : Type 0} (m : Meaning S E C KeyRow) (w : Setting) (es : List Event) (numbers : List ℕ) (reps xs : List (Replica S E C)) (k : ℕ) (p : Peers) (least : Option ℕ)
    → AreHere m w es numbers reps → xs ≡ reps → k ≤ length xs → length xs ≤ k → Least (wishes w es p) numbers k least
    → MatchOption least (due w es (here w) p ≡ []) (λ i. (more : List Pair) × (w.is_correct i ≡ true)
    × (wishes w es p i ≡ true) × (due w es (here w) p ≡ peers_due w es p i ++ more))
least_wishing_is m w es numbers reps xs k p None stand same below above none =
    all_empty w.is_correct (peers_due w es p) 0 w.numbers.n (λ j from under right.
    let many = stand.many in
    let long = ap length same in
    let found = place_in m w es numbers reps j stand right in
    let within = found.within in
    none_from (peers_due w es p j) (ap (wishes w es p) (sym found.is) ∙ none found.place (omega arith)))
least_wishing_is m w es numbers reps xs k p (Some i) stand same below above is =
    let many = stand.many in
    let long = ap length same in
    let place_within = is.within in
    let here_it_is = at_place m w es numbers reps is.place stand (omega arith) in
    let right : w.is_correct i ≡ true = ap w.is_correct (sym is.is) ∙ here_it_is.is.correct in
    let found = first_has w.is_correct (peers_due w es p) 0 w.numbers.n i (omega arith) (let within = stand.kind.within i right in omega arith) right (λ j from before correct.
    none_from (peers_due w es p j) (false_from_ne_true (wishes w es p j) (λ yes.
    let found = place_in m w es numbers reps j stand correct in
    let within = found.within in
    let at_least = is.no_less found.place (omega arith) (ap (wishes w es p) found.is ∙ yes) in
    let same_number = found.is in
    absurd (omega arith)))) in
    (found.0, right, is.passes, found.1)

-- the first pair of all
pub due_first : (w : Setting) (es : List Event) (p : Peers) (i j : ℕ) (mine more : List Pair) → peers_due w es p i ≡ record { at = i; peer = j } ∷ mine → due w es (here w) p ≡ peers_due w es p i ++ more
    → (rest : List Pair) × (due w es (here w) p ≡ record { at = i; peer = j } ∷ rest)
due_first w es p i j mine more first all = (mine ++ more, all ∙ ap (λ (xs : List Pair). xs ++ more) first)

pub not_none : (xs : List Pair) → nat_lt 0 (length xs) ≡ true → xs ≡ [] → ⊥
not_none xs some none = both_ways (nat_lt 0 (length xs)) (ap (λ (ys : List Pair). nat_lt 0 (length ys)) none) some

-- the note that asks a peer
pub again_is : (w : Setting) (at peer seq : ℕ) (bytes : List ℕ) (k : KeyRow) (keeper : Keeper) (p : Peers) → k ≡ w.keys at → bytes ≡ again_note k peer seq
    → seq ≡ asked_from keeper.version (slice_index_or keeper.marks.items peer None) → IsKeeper w.mode.version w.numbers.n at keeper p → peer < w.numbers.n
    → IsMore w at (mores.Note peer bytes) (asks_for_more w.mode.version at peer p)
again_is w at peer seq bytes k keeper p same is from keeps below =
    let number : seq ≡ asked_from w.mode.version (p.marks at peer) = from ∙ ap₂ asked_from keeps.version_is (keeps.marked.each peer below) in
    let said : bytes ≡ again_note (w.keys at) peer (asked_from w.mode.version (p.marks at peer)) =
    is ∙ ap₂ (λ (x : KeyRow) (n : ℕ). again_note x peer n) same number in
    (ap (λ (b : List ℕ). sends at peer b ∷ []) (sym said), refl)

-- ---- a mark is set, or is none any more

is_other_pair : (i peer a b : ℕ) → (a ≡ i → ⊥) → is_pair i peer a b ≡ false
is_other_pair i peer a b other = ap (λ (t : Bool). t && b == peer) (ne_eqb a i other)

is_other_peer : (i peer j : ℕ) → (j ≡ peer → ⊥) → is_pair i peer i j ≡ false
is_other_peer i peer j other = ap₂ (λ (s t : Bool). s && t) (eq-eqb i i refl) (ne_eqb j peer other)

is_that_pair : (i j : ℕ) → is_pair i j i j ≡ true
is_that_pair i j = ap₂ (λ (s t : Bool). s && t) (eq-eqb i i refl) (eq-eqb j j refl)

-- the keeper of a replica with another mark for a peer
pub marked_there : (version : FrameVersion) (n i peer : ℕ) (mark : Option Early) (old new : Keeper) (p : Peers) → IsKeeper version n i old p → new ≡ record old { marks = new.marks }
    → new.marks.items ≡ slice_set old.marks.items peer mark → IsKeeper version n i new (with_mark i peer mark p)
marked_there version n i peer mark old new p is rest set = record {
  version_is = ap (λ (k : Keeper). k.version) rest ∙ is.version_is;
  kept = subst (λ (k : Keepings). AreKept version n i k p.keeping) (sym (ap (λ (k : Keeper). k.resume) rest)) is.kept;
  marked = record {
    many = ap length set ∙ (length-set old.marks.items peer mark ∙ is.marked.many);
    each = λ j within. ap (λ (marks : List (Option Early)). slice_index_or marks j None) set ∙ elim (cases_eq j peer) [
      | inl one ↦
          let many = is.marked.many in
          let lt : peer < length old.marks.items = omega arith in
          ap (λ (k : ℕ). slice_index_or (slice_set old.marks.items peer mark) k None) one
          ∙ (get_or-set_same old.marks.items peer mark None lt
          ∙ sym (ap (λ (b : Bool). if b then mark else p.marks i j) (ap (is_pair i peer i) one ∙ is_that_pair i peer)))
      | inr other ↦
          get_or-set_other old.marks.items peer j mark None other
          ∙ (is.marked.each j within ∙ sym (ap (λ (b : Bool). if b then mark else p.marks i j) (is_other_peer i peer j other)))
    ];
  };
  pending = subst (λ (l : List (Option Pending)). ArePending n i l p.pending) (sym (ap (λ (k : Keeper). k.pending.items) rest)) is.pending;
}

-- that of another replica is as it was
pub marked_elsewhere : (version : FrameVersion) (n i k peer : ℕ) (mark : Option Early) (keeper : Keeper) (p : Peers) → (k ≡ i → ⊥) → IsKeeper version n k keeper p
    → IsKeeper version n k keeper (with_mark i peer mark p)
marked_elsewhere version n i k peer mark keeper p other is = record {
  version_is = is.version_is;
  kept = is.kept;
  marked = record {
    many = is.marked.many;
    each = λ j within. is.marked.each j within ∙ sym (ap (λ (b : Bool). if b then mark else p.marks k j) (is_other_pair i peer k j other));
  };
  pending = is.pending;
}

-- one keeper is another, and what is kept and marked for the other replicas stays
pub keeper_set : {S E C : Type 0} (m : Meaning S E C KeyRow) (w : Setting) (es : List Event) (numbers : List ℕ) (old now : House S E C) (ws : Waiting) (p q : Peers) (place at : ℕ) (before new : Keeper)
    → HouseStands m w es numbers old ws p → slice_get numbers place ≡ Some at → slice_get old.keepers.items place ≡ Some before
    → AreHere m w es numbers now.replicas.items → IsWaiting now.waiting ws → now.keepers.items ≡ slice_set old.keepers.items place new
    → IsKeeper w.mode.version w.numbers.n at new q → ((i : ℕ) (keeper : Keeper) → (i ≡ at → ⊥) → IsKeeper w.mode.version w.numbers.n i keeper p → IsKeeper w.mode.version w.numbers.n i keeper q)
    → HouseStands m w es numbers now ws q
keeper_set m w es numbers old now ws p q place at before new stands number there now_here waits set is others = record {
  here = now_here;
  waiting = waits;
  many = ap length set ∙ (length-set old.keepers.items place new ∙ stands.many);
  keepers = λ k i keeper numbered seen. elim (eqb_tells place k) [
    | inl same ↦
        let one : at ≡ i = same_Some at i (sym number ∙ ap (slice_get numbers) same.1 ∙ numbered) in
        let is_new : new ≡ keeper = same_Some new keeper
        (sym (get_set_same old.keepers.items place before new there) ∙ ap (slice_get (slice_set old.keepers.items place new)) same.1
        ∙ ap (λ (ks : List Keeper). slice_get ks k) (sym set) ∙ seen) in
        let P : ℕ → Type 0 = λ x. IsKeeper w.mode.version w.numbers.n x new q in
        let Q : Keeper → Type 0 = λ x. IsKeeper w.mode.version w.numbers.n i x q in
        subst Q is_new (subst P one is)
    | inr other ↦
        others i keeper (λ one. other.1 (stands.here.apart place k at number (numbered ∙ ap (λ x. Some x) one)))
        (stands.keepers k i keeper numbered
        (sym (get_set_other old.keepers.items place k new (λ h. other.1 (sym h))) ∙ ap (λ (ks : List Keeper). slice_get ks k) (sym set) ∙ seen))
  ];
}

-- ---- keepers of replicas for whose peers nothing is kept

pub record IsFresh (version : FrameVersion) (n : ℕ) (keeper : Keeper) : Type 0 where
  pub version_is : keeper.version ≡ version
  pub kept : keeper.resume ≡ record { limit = most_kept version; lists = replicate n [] }
  pub marks : keeper.marks.items ≡ replicate n None
  pub pending : keeper.pending.items ≡ replicate n None

fresh_keeper : (version : FrameVersion) (n i : ℕ) (keeper : Keeper) → IsFresh version n keeper → IsKeeper version n i keeper no_peers
fresh_keeper version n i keeper is = record {
  version_is = is.version_is;
  kept = record {
    limit = ap (λ (k : Keepings). k.limit) is.kept;
    many = ap (λ (k : Keepings). length k.lists) is.kept ∙ length-replicate n [];
    each = λ j within. ap (λ (k : Keepings). kept_for k.lists j) is.kept ∙ get_or-replicate n j [] [] within;
  };
  marked = record {
    many = ap length is.marks ∙ length-replicate n None;
    each = λ j within. ap (λ (marks : List (Option Early)). slice_index_or marks j None) is.marks ∙ get_or-replicate n j None None within;
  };
  pending = record {
    many = ap length is.pending ∙ length-replicate n None;
    each = λ j within. ap (λ (pending : List (Option Pending)). slice_index_or pending j None) is.pending ∙ get_or-replicate n j None None within;
  };
}

-- so many of them, one for each replica so far
pub record AreFresh (version : FrameVersion) (n count : ℕ) (ks : List Keeper) : Type 0 where
  pub many : length ks ≡ count
  pub each : All (IsFresh version n) ks

pub fresh_first : (version : FrameVersion) (n : ℕ) (ks : List Keeper) → ks ≡ [] → AreFresh version n 0 ks
fresh_first version n ks none = record {
  many = ap length none;
  each = subst (All (IsFresh version n)) (sym none) (λ k d within. absurd (omega arith));
}

pub fresh_next : {S E C : Type 0} (m : Meaning S E C KeyRow) (w : Setting) (es : List Event) (numbers : List ℕ) (reps : List (Replica S E C)) (k : ℕ) (rep : Replica S E C) (version : FrameVersion)
    (count : ℕ) (keeper : Keeper) (ks now : List Keeper)
    → AreHere m w es numbers reps → k < length reps → rep ≡ slice_index_or reps k rep
    → ((r : Rules) (row : KeyRow) (st : CoreState) → ReplicaStands w.start m rep r row st → count ≡ row.n)
    → ((i : ℕ) → IsReplica m w (states_of w es) i rep → version ≡ w.mode.version)
    → AreFresh w.mode.version w.numbers.n k ks → IsFresh version count keeper → now ≡ ks ++ keeper ∷ [] → AreFresh w.mode.version w.numbers.n (k + 1) now
fresh_next m w es numbers reps k rep version count keeper ks now stand within is has of before fresh more =
    let there = read_replica m w es numbers reps reps k rep stand refl within is in
    let i = slice_index_or numbers k 0 in
    let n : count ≡ w.numbers.n = has (rules_at w i) (w.keys i) (states_of w es i) there.stands ∙ (stand.kind.own i (stand.kind.within i there.correct)).1 in
    let v : version ≡ w.mode.version = of i there in
    let many = before.many in
    let long : length (ks ++ keeper ∷ []) ≡ length ks + 1 = length-append ks (keeper ∷ []) in
    record {
      many = ap length more ∙ (omega arith);
      each = subst (All (IsFresh w.mode.version w.numbers.n)) (sym more) (All-push (IsFresh w.mode.version w.numbers.n) ks keeper before.each
          (subst (λ (x : FrameVersion). IsFresh x w.numbers.n keeper) v (subst (λ (x : ℕ). IsFresh version x keeper) n fresh)));
    }

pub new_house : {S E C : Type 0} (m : Meaning S E C KeyRow) (w : Setting) (es : List Event) (numbers : List ℕ) (house : House S E C) (reps : List (Replica S E C)) (k : ℕ)
    → AreHere m w es numbers reps → house.replicas.items ≡ reps → IsWaiting house.waiting nobody → k ≡ length reps → AreFresh w.mode.version w.numbers.n k house.keepers.items
    → HouseStands m w es numbers house nobody no_peers
new_house m w es numbers house reps k stand same waits all fresh = record {
  here = as_here m w es numbers reps house.replicas.items same stand;
  waiting = waits;
  many = fresh.many ∙ (all ∙ stand.many);
  keepers = λ j i keeper numbered seen.
      fresh_keeper w.mode.version w.numbers.n i keeper
      (subst (IsFresh w.mode.version w.numbers.n) (get_or_from_slice_get house.keepers.items j keeper keeper seen) (fresh.each j keeper (slice_get_within house.keepers.items j keeper seen)));
}
