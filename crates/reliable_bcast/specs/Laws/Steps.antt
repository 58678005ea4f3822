-- What a call does to the state is what it does to the calls that the state stands for.
use Rattle.std.specs.Prelude.{◌≡◌, ℕ, ◌<◌, Bool, true, false, not, ◌&&◌, ◌||◌, List, [], ◌∷◌, ◌++◌, Option, Some, None, is_some, is_none, nat_le, cond, count_by, length, refl, replicate}
use Rattle.std.proofs.Common.{sym, ◌∙◌, ap, subst, inl, inr, arith, set, get_or}
use Rattle.std.specs.List.{find}
use Rattle.std.specs.Option.{option_or}
use Rattle.std.proofs.lemmas.List.FromFn.{fill_by_all}
use Rattle.std.proofs.lemmas.List.{length-replicate, get_or-replicate}
use Rattle.std.proofs.lemmas.Bool.{cases_Bool, both_ways, or_from, or_left, or_right, lt-leb, lt-ltb}
use Rattle.ritas_base.specs.declared.item.Kind.{Kind}
use Rattle.ritas_base.specs.declared.item.Kind.TheVariants as kinds
use Rattle.ritas_base.specs.declared.item.Kind.TheVariants.{Init, Echo, Ready}
use Rattle.ritas_base.specs.declared.item.Item.{Item}
use Rattle.ritas_base.specs.declared.item.Msg.{Msg}
use Rattle.ritas_base.specs.declared.slot.Slot.{Slot}
use Rattle.ritas_base.specs.Numbers.{Numbers, quorum_of, ready_of, deliver_of}
use Rattle.ritas_base.specs.Shortest.{at_shortest, at_shortest_none, option_or_none}
use Rattle.ritas_base.specs.History.{Call, Start, Take, told, start_of, first, started, firsts, is_value, voters, values}
use Rattle.ritas_base.specs.HistoryLaws.{told_mine, told_not_this, firsts_same, firsts_at, firsts_vote, length-firsts, voters_same, voters_kept, voters_none, first_fails, find_none, find_newest}
use Rattle.ritas_base.specs.Messages.{Place, kind_eq, has, without, to_all}
use Rattle.ritas_base.specs.MessagesLaws.{gained, gained_none, gained_if, message, has_append, to_all_itself, to_all_other_kind, without_append, without_of_kind}
use Rattle.ritas_base.specs.Tags.{Tags}
use Rattle.layer_api.specs.Broadcast.{MayTake, news, is_of_origin}
use Rattle.reliable_bcast.specs.declared.rb.Rb.{Rb}
use Rattle.reliable_bcast.specs.Bracha.{bracha, is_reliable, is_backed, is_carried, some_backed, some_carried, ready_value, out_by_value, due_by_value}
use Rattle.reliable_bcast.specs.State.{state_of, after_item, says_item, counts_item}
use Rattle.ritas_base.specs.Places.{is_awaited}

-- ---- the value at the shortest prefix with one that passes

abbrev shortest : (List Call → List ℕ → Bool) → List Call → Option (List ℕ)
shortest P h = at_shortest (λ b. find (P b) (values b)) h

-- what comes behind does not matter, or the first is not there
or_same : {A : Type 0} (o a b : Option A) → (o ≡ None → a ≡ b) → option_or o a ≡ option_or o b
or_same None a b h = h refl
or_same (Some x) a b h = refl

-- a call that changes no test
shortest_quiet : (P : List Call → List ℕ → Bool) (h : List Call) (c : Call)
    → ((w : List ℕ) → P (c ∷ h) w ≡ P h w)
    → (find (P h) (values h) ≡ None → (w : List ℕ) → P h w ≡ false)
    → shortest P (c ∷ h) ≡ shortest P h
shortest_quiet P h c same unvoted =
    or_same (shortest P h) (find (P (c ∷ h)) (values (c ∷ h))) None
    (λ none. find_none (P (c ∷ h)) (values (c ∷ h)) (λ w. same w ∙ unvoted (at_shortest_none (λ b. find (P b) (values b)) h none) w))
    ∙ option_or_none (shortest P h)

-- a call that changes the test at its own value alone
shortest_vote : (P : List Call → List ℕ → Bool) (h : List Call) (i : Item)
    → ((w : List ℕ) → (w ≡ i.value → ⊥) → P (Take i ∷ h) w ≡ P h w)
    → shortest P (Take i ∷ h) ≡ option_or (shortest P h) (cond (P (Take i ∷ h) i.value) (Some i.value) None)
shortest_vote P h i same =
    or_same (shortest P h) (find (P (Take i ∷ h)) (values (Take i ∷ h))) (cond (P (Take i ∷ h) i.value) (Some i.value) None)
    (λ none. find_newest (P h) (P (Take i ∷ h)) i.value same (values h) (at_shortest_none (λ b. find (P b) (values b)) h none))

-- tests on two lists of votes
abbrev pub backing : Numbers → List (Option (List ℕ)) → List (Option (List ℕ)) → List ℕ → Bool
backing p es rs m = nat_le (quorum_of p) (count_by (is_value m) es) || nat_le (ready_of p) (count_by (is_value m) rs)

abbrev pub carrying : Numbers → List (Option (List ℕ)) → List ℕ → Bool
carrying p rs m = nat_le (deliver_of p) (count_by (is_value m) rs)

-- where no value of an item is backed, none is
pub unvoted_backed : (p : Numbers) (h : List Call) → some_backed p h ≡ None → (m : List ℕ) → is_backed p h m ≡ false
unvoted_backed p h none m =
    elim (cases_Bool (is_backed p h m)) [
      | inl passes ↦
          let nobody : (kind : Kind) (k : ℕ) → first h k kind ≡ Some m → ⊥ = λ kind k e. both_ways (is_backed p h m) (first_fails (is_backed p h) h none k kind m e) passes in
          or_from _ _
          (ap (nat_le (quorum_of p)) (voters_none p.n h Echo m (nobody Echo)) ∙ lt-leb (quorum_of p) 0 (omega arith))
          (ap (nat_le (ready_of p)) (voters_none p.n h Ready m (nobody Ready)) ∙ lt-leb (ready_of p) 0 (omega arith))
      | inr false_it_is ↦ false_it_is
    ]

pub unvoted_carried : (p : Numbers) (h : List Call) → some_carried p h ≡ None → (m : List ℕ) → is_carried p h m ≡ false
unvoted_carried p h none m =
    elim (cases_Bool (is_carried p h m)) [
      | inl passes ↦
          let nobody : (k : ℕ) → first h k Ready ≡ Some m → ⊥ = λ k e. both_ways (is_carried p h m) (first_fails (is_carried p h) h none k Ready m e) passes in
          ap (nat_le (deliver_of p)) (voters_none p.n h Ready m nobody) ∙ lt-leb (deliver_of p) 0 (omega arith)
      | inr false_it_is ↦ false_it_is
    ]

-- an item changes the tests at its own value alone
pub backed_kept : (p : Numbers) (h : List Call) (i : Item) (w : List ℕ) → (w ≡ i.value → ⊥) → is_backed p (Take i ∷ h) w ≡ is_backed p h w
backed_kept p h i w ne =
    ap (λ (x : ℕ). nat_le (quorum_of p) x || nat_le (ready_of p) (voters p.n (Take i ∷ h) Ready w)) (voters_kept p.n h Echo i w ne)
    ∙ ap (λ (x : ℕ). nat_le (quorum_of p) (voters p.n h Echo w) || nat_le (ready_of p) x) (voters_kept p.n h Ready i w ne)

pub carried_kept : (p : Numbers) (h : List Call) (i : Item) (w : List ℕ) → (w ≡ i.value → ⊥) → is_carried p (Take i ∷ h) w ≡ is_carried p h w
carried_kept p h i w ne = ap (nat_le (deliver_of p)) (voters_kept p.n h Ready i w ne)

-- a call that gives no vote changes no test
pub backed_same : (p : Numbers) (h : List Call) (c : Call) → ((k : ℕ) → told k Echo c ≡ None) → ((k : ℕ) → told k Ready c ≡ None)
    → (w : List ℕ) → is_backed p (c ∷ h) w ≡ is_backed p h w
backed_same p h c echo ready w =
    ap (λ (x : ℕ). nat_le (quorum_of p) x || nat_le (ready_of p) (voters p.n (c ∷ h) Ready w)) (voters_same p.n h Echo c echo w)
    ∙ ap (λ (x : ℕ). nat_le (quorum_of p) (voters p.n h Echo w) || nat_le (ready_of p) x) (voters_same p.n h Ready c ready w)

pub carried_same : (p : Numbers) (h : List Call) (c : Call) → ((k : ℕ) → told k Ready c ≡ None) → (w : List ℕ) → is_carried p (c ∷ h) w ≡ is_carried p h w
carried_same p h c ready w = ap (nat_le (deliver_of p)) (voters_same p.n h Ready c ready w)

pub ready_quiet : (p : Numbers) (h : List Call) (c : Call) → ((k : ℕ) → told k Echo c ≡ None) → ((k : ℕ) → told k Ready c ≡ None)
    → ready_value p (c ∷ h) ≡ ready_value p h
ready_quiet p h c echo ready = shortest_quiet (is_backed p) h c (backed_same p h c echo ready) (unvoted_backed p h)

pub out_quiet : (at : Place) (h : List Call) (c : Call) → ((k : ℕ) → told k Ready c ≡ None) → out_by_value at (c ∷ h) ≡ out_by_value at h
out_quiet at h c ready = shortest_quiet (is_carried at.numbers) h c (carried_same at.numbers h c ready) (unvoted_carried at.numbers h)

-- an ECHO that is the first of its sender
pub ready_echo : (p : Numbers) (h : List Call) (i : Item) → i.kind ≡ Echo → first h i.from Echo ≡ None → i.from < p.n
    → ready_value p (Take i ∷ h) ≡ option_or (ready_value p h) (cond (backing p (set (firsts p.n h Echo) i.from (Some i.value)) (firsts p.n h Ready) i.value) (Some i.value) None)
ready_echo p h i kind new within =
    let es = firsts_vote p.n h Echo i (ap (λ k. kind_eq k Echo) kind) new within in
    let rs = firsts_same p.n h Ready (Take i) (λ k. told_not_this k Ready i (ap (λ k. kind_eq k Ready) kind)) in
    shortest_vote (is_backed p) h i (backed_kept p h i)
    ∙ (ap (λ x. option_or (ready_value p h) (cond (backing p x (firsts p.n (Take i ∷ h) Ready) i.value) (Some i.value) None)) es
    ∙ ap (λ x. option_or (ready_value p h) (cond (backing p (set (firsts p.n h Echo) i.from (Some i.value)) x i.value) (Some i.value) None)) rs)

pub ready_ready : (p : Numbers) (h : List Call) (i : Item) → i.kind ≡ Ready → first h i.from Ready ≡ None → i.from < p.n
    → ready_value p (Take i ∷ h) ≡ option_or (ready_value p h) (cond (backing p (firsts p.n h Echo) (set (firsts p.n h Ready) i.from (Some i.value)) i.value) (Some i.value) None)
ready_ready p h i kind new within =
    let rs = firsts_vote p.n h Ready i (ap (λ k. kind_eq k Ready) kind) new within in
    let es = firsts_same p.n h Echo (Take i) (λ k. told_not_this k Echo i (ap (λ k. kind_eq k Echo) kind)) in
    shortest_vote (is_backed p) h i (backed_kept p h i)
    ∙ (ap (λ x. option_or (ready_value p h) (cond (backing p x (firsts p.n (Take i ∷ h) Ready) i.value) (Some i.value) None)) es
    ∙ ap (λ x. option_or (ready_value p h) (cond (backing p (firsts p.n h Echo) x i.value) (Some i.value) None)) rs)

pub out_ready : (at : Place) (h : List Call) (i : Item) → i.kind ≡ Ready → first h i.from Ready ≡ None → i.from < at.numbers.n
    → out_by_value at (Take i ∷ h) ≡ option_or (out_by_value at h) (cond (carrying at.numbers (set (firsts at.numbers.n h Ready) i.from (Some i.value)) i.value) (Some i.value) None)
out_ready at h i kind new within =
    let p = at.numbers in
    let rs = firsts_vote p.n h Ready i (ap (λ k. kind_eq k Ready) kind) new within in
    shortest_vote (is_carried p) h i (carried_kept p h i)
    ∙ ap (λ x. option_or (out_by_value at h) (cond (carrying p x i.value) (Some i.value) None)) rs

-- ---- what is newly due

abbrev parts : Slot → Option (List ℕ) → Option (List ℕ) → Option (List ℕ) → List Msg
parts s a b c = to_all s Init a ++ to_all s Echo b ++ to_all s Ready c

has_parts : (s : Slot) (a b c : Option (List ℕ)) (m : Msg) → has (parts s a b c) m ≡ ((has (to_all s Init a) m || has (to_all s Echo b) m) || has (to_all s Ready c) m)
has_parts s a b c m =
    has_append (to_all s Init a ++ to_all s Echo b) (to_all s Ready c) m
    ∙ ap (λ t. t || has (to_all s Ready c) m) (has_append (to_all s Init a) (to_all s Echo b) m)

none_of : (s : Slot) (kind : Kind) (o : Option (List ℕ)) (m : Msg) → o ≡ None → has (to_all s kind o) m ≡ false
none_of s kind o m e = ap (λ x. has (to_all s kind x) m) e

joined : (x x' y y' z z' : List Msg) → x ≡ x' → y ≡ y' → z ≡ z' → x ++ y ++ z ≡ x' ++ y' ++ z'
joined x x' y y' z z' p q r = cc

-- what is new is what each kind gained
without_parts : (s : Slot) (a a' b b' c c' : Option (List ℕ))
    → without (parts s a b c) (parts s (option_or a a') (option_or b b') (option_or c c')) ≡ parts s (gained a a') (gained b b') (gained c c')
without_parts s a a' b b' c c' =
    let before = parts s a b c in
    let xs = to_all s Init (option_or a a') in
    let ys = to_all s Echo (option_or b b') in
    let zs = to_all s Ready (option_or c c') in
    let at : (m : Msg) → has before m ≡ ((has (to_all s Init a) m || has (to_all s Echo b) m) || has (to_all s Ready c) m) = has_parts s a b c in
    without_append before (xs ++ ys) zs
    ∙ (ap (λ l. l ++ without before zs) (without_append before xs ys)
    ∙ joined _ _ _ _ _ _
    (without_of_kind s Init before a a'
    (λ m e. at (message s Init m) ∙ or_left _ _ (or_left _ _ (to_all_itself s Init a m e)))
    (λ m e. at (message s Init m) ∙ or_from _ _ (or_from _ _ (none_of s Init a (message s Init m) e) (to_all_other_kind s Echo b (message s Init m) refl)) (to_all_other_kind s Ready c (message s Init m) refl)))
    (without_of_kind s Echo before b b'
    (λ m e. at (message s Echo m) ∙ or_left _ _ (or_right _ _ (to_all_itself s Echo b m e)))
    (λ m e. at (message s Echo m) ∙ or_from _ _ (or_from _ _ (to_all_other_kind s Init a (message s Echo m) refl) (none_of s Echo b (message s Echo m) e)) (to_all_other_kind s Ready c (message s Echo m) refl)))
    (without_of_kind s Ready before c c'
    (λ m e. at (message s Ready m) ∙ or_right _ _ (to_all_itself s Ready c m e))
    (λ m e. at (message s Ready m) ∙ or_from _ _ (or_from _ _ (to_all_other_kind s Init a (message s Ready m) refl) (to_all_other_kind s Echo b (message s Ready m) refl)) (none_of s Ready c (message s Ready m) e))))

same_parts : (s : Slot) (a a' b b' c c' : Option (List ℕ)) → a ≡ a' → b ≡ b' → c ≡ c' → parts s a b c ≡ parts s a' b' c'
same_parts s a a' b b' c c' p q r = cc

-- r is what READY gained
due_more : (at : Place) (tags : Tags) (h : List Call) (c : Call) (r : Option (List ℕ)) → ready_value at.numbers (c ∷ h) ≡ option_or (ready_value at.numbers h) r
    → news bracha at tags h c ≡ parts at.slot (gained (started h) (start_of c)) (gained (first h at.slot.origin Init) (told at.slot.origin Init c)) (gained (ready_value at.numbers h) r)
due_more at tags h c r e =
    ap (without (due_by_value at h)) (same_parts at.slot _ _ _ _ _ _ refl refl e)
    ∙ without_parts at.slot (started h) (start_of c) (first h at.slot.origin Init) (told at.slot.origin Init c) (ready_value at.numbers h) r

-- ---- one call

-- the state after a call, and what is put out by it
pub record IsValueStep (at : Place) (tags : Tags) (h : List Call) (c : Call) (after : Rb) (put : List Msg) : Type 0 where
  pub state : after ≡ state_of at (c ∷ h)
  pub said : put ≡ news bracha at tags h c

same_box : (at : Place) (e e' r r' : Bool) (es es' rs rs' : List (Option (List ℕ))) (d d' : Option (List ℕ))
    → e ≡ e' → r ≡ r' → es ≡ es' → rs ≡ rs' → d ≡ d'
    → ◌≡◌ {A = Rb} (record { params = at.numbers; slot = at.slot; echoed = e; readied = r; echoes = es; readies = rs; delivered = d; live = true })
    (record { params = at.numbers; slot = at.slot; echoed = e'; readied = r'; echoes = es'; readies = rs'; delivered = d'; live = true })
same_box at e e' r r' es es' rs rs' d d' p q s t u = cc

pub is_some_or : {A : Type 0} (o : Option A) (b : Bool) (m : A) → is_some (option_or o (cond b (Some m) None)) ≡ (is_some o || b)
is_some_or None true m = refl
is_some_or None false m = refl
is_some_or (Some x) b m = refl

pub is_some_or_some : {A : Type 0} (o : Option A) (m : A) → is_some (option_or o (Some m)) ≡ true
is_some_or_some None m = refl
is_some_or_some (Some x) m = refl

step_init : (at : Place) (tags : Tags) (h : List Call) (i : Item) → i.kind ≡ Init → i.from ≡ at.slot.origin → first h i.from Init ≡ None
    → IsValueStep at tags h (Take i) (after_item Init (state_of at h) i) (says_item Init (state_of at h) i)
step_init at tags h i kind mine new =
    let p = at.numbers in
    let quiet : (k : Kind) → kind_eq i.kind k ≡ false → (j : ℕ) → told j k (Take i) ≡ None = λ k e j. told_not_this j k i e in
    let echo = quiet Echo (ap (λ k. kind_eq k Echo) kind) in
    let ready = quiet Ready (ap (λ k. kind_eq k Ready) kind) in
    let now : told at.slot.origin Init (Take i) ≡ Some i.value = ap (λ k. told k Init (Take i)) (sym mine) ∙ told_mine Init i (ap (λ k. kind_eq k Init) kind) in
    let was : first h at.slot.origin Init ≡ None = ap (λ k. first h k Init) (sym mine) ∙ new in
    let none : ready_value p (Take i ∷ h) ≡ ready_value p h = ready_quiet p h (Take i) echo ready in
    record {
      state = same_box at _ _ _ _ _ _ _ _ _ _
          (sym (ap is_some (ap (option_or (first h at.slot.origin Init)) now) ∙ is_some_or_some (first h at.slot.origin Init) i.value))
          (ap is_some (sym none))
          (sym (firsts_same p.n h Echo (Take i) echo))
          (sym (firsts_same p.n h Ready (Take i) ready))
          (sym (out_quiet at h (Take i) ready));
      said = sym (due_more at tags h (Take i) None (none ∙ sym (option_or_none (ready_value p h)))
          ∙ same_parts at.slot _ None _ (Some i.value) _ None (gained_none (started h))
          (ap (λ o. gained o (told at.slot.origin Init (Take i))) was ∙ now) (gained_none (ready_value p h)));
    }

step_echo : (at : Place) (tags : Tags) (h : List Call) (i : Item) → i.kind ≡ Echo → i.from < at.numbers.n → first h i.from Echo ≡ None
    → IsValueStep at tags h (Take i) (after_item Echo (state_of at h) i) (says_item Echo (state_of at h) i)
step_echo at tags h i kind within new =
    let p = at.numbers in
    let init : told at.slot.origin Init (Take i) ≡ None = told_not_this at.slot.origin Init i (ap (λ k. kind_eq k Init) kind) in
    let ready : (j : ℕ) → told j Ready (Take i) ≡ None = λ j. told_not_this j Ready i (ap (λ k. kind_eq k Ready) kind) in
    let more = ready_echo p h i kind new within in
    record {
      state = same_box at _ _ _ _ _ _ _ _ _ _
          (sym (ap is_some (ap (option_or (first h at.slot.origin Init)) init ∙ option_or_none (first h at.slot.origin Init))))
          (sym (ap is_some more ∙ is_some_or (ready_value p h) _ i.value))
          (sym (firsts_vote p.n h Echo i (ap (λ k. kind_eq k Echo) kind) new within))
          (sym (firsts_same p.n h Ready (Take i) ready))
          (sym (out_quiet at h (Take i) ready));
      said = sym (due_more at tags h (Take i) _ more
          ∙ same_parts at.slot _ None _ None _ _ (gained_none (started h))
          (ap (gained (first h at.slot.origin Init)) init ∙ gained_none (first h at.slot.origin Init)) (gained_if (ready_value p h) _ i.value));
    }

step_ready : (at : Place) (tags : Tags) (h : List Call) (i : Item) → i.kind ≡ Ready → i.from < at.numbers.n → first h i.from Ready ≡ None
    → IsValueStep at tags h (Take i) (after_item Ready (state_of at h) i) (says_item Ready (state_of at h) i)
step_ready at tags h i kind within new =
    let p = at.numbers in
    let init : told at.slot.origin Init (Take i) ≡ None = told_not_this at.slot.origin Init i (ap (λ k. kind_eq k Init) kind) in
    let echo : (j : ℕ) → told j Echo (Take i) ≡ None = λ j. told_not_this j Echo i (ap (λ k. kind_eq k Echo) kind) in
    let more = ready_ready p h i kind new within in
    record {
      state = same_box at _ _ _ _ _ _ _ _ _ _
          (sym (ap is_some (ap (option_or (first h at.slot.origin Init)) init ∙ option_or_none (first h at.slot.origin Init))))
          (sym (ap is_some more ∙ is_some_or (ready_value p h) _ i.value))
          (sym (firsts_same p.n h Echo (Take i) echo))
          (sym (firsts_vote p.n h Ready i (ap (λ k. kind_eq k Ready) kind) new within))
          (sym (out_ready at h i kind new within));
      said = sym (due_more at tags h (Take i) _ more
          ∙ same_parts at.slot _ None _ None _ _ (gained_none (started h))
          (ap (gained (first h at.slot.origin Init)) init ∙ gained_none (first h at.slot.origin Init)) (gained_if (ready_value p h) _ i.value));
    }

-- a start that is the first changes nothing that is kept, and INIT is new
pub step_start : (at : Place) (tags : Tags) (h : List Call) (m : List ℕ) → started h ≡ None → IsValueStep at tags h (Start m) (state_of at h) (to_all at.slot Init (Some m))
step_start at tags h m new =
    let p = at.numbers in
    let none : ready_value p (Start m ∷ h) ≡ ready_value p h = ready_quiet p h (Start m) (λ j. refl) (λ j. refl) in
    record {
      state = same_box at _ _ _ _ _ _ _ _ _ _
          (sym (ap is_some (option_or_none (first h at.slot.origin Init))))
          (ap is_some (sym none))
          (sym (firsts_same p.n h Echo (Start m) (λ j. refl)))
          (sym (firsts_same p.n h Ready (Start m) (λ j. refl)))
          (sym (out_quiet at h (Start m) (λ j. refl)));
      said = sym (due_more at tags h (Start m) None (none ∙ sym (option_or_none (ready_value p h)))
          ∙ same_parts at.slot _ (Some m) _ None _ None (ap (λ o. gained o (Some m)) new) (gained_none (first h at.slot.origin Init)) (gained_none (ready_value p h)));
    }

-- ---- an item, as the state and as the calls tell it

pub awaited_is : (n : ℕ) (h : List Call) (kind : Kind) (k : ℕ) → k < n → is_awaited (firsts n h kind) k ≡ is_none (first h k kind)
awaited_is n h kind k lt =
    let inside : k < length (firsts n h kind) = subst (λ (x : ℕ). k < x) (sym (length-firsts n h kind)) lt in
    ap (λ (t : Bool). t && is_none (get_or (firsts n h kind) k None)) (lt-ltb k (length (firsts n h kind)) inside)
    ∙ ap is_none (firsts_at n h kind k lt)

is_none_is : {A : Type 0} (o : Option A) → is_none o ≡ not (is_some o)
is_none_is None = refl
is_none_is (Some x) = refl

counts_kind : (at : Place) (h : List Call) (kind : Kind) (k : ℕ) → is_reliable kind ≡ true → k < at.numbers.n → (kind ≡ Init → k ≡ at.slot.origin)
    → counts_item kind (state_of at h) k ≡ not (is_some (first h k kind))
counts_kind at h kinds.Init k reliable within mine = ap (λ x. not (is_some (first h x Init))) (sym (mine refl))
counts_kind at h kinds.Echo k reliable within mine = awaited_is at.numbers.n h Echo k within ∙ is_none_is (first h k Echo)
counts_kind at h kinds.Ready k reliable within mine = awaited_is at.numbers.n h Ready k within ∙ is_none_is (first h k Ready)
counts_kind at h kinds.Send k reliable within mine = absurd (cc)
counts_kind at h kinds.Hashes k reliable within mine = absurd (cc)
counts_kind at h kinds.Column k reliable within mine = absurd (cc)
counts_kind at h kinds.Want k reliable within mine = absurd (cc)
counts_kind at h kinds.Value k reliable within mine = absurd (cc)

from_origin : (at : Place) (tags : Tags) (h : List Call) (i : Item) → MayTake bracha at tags h i → i.kind ≡ Init → i.from ≡ at.slot.origin
from_origin at tags h i may e = may.origin (ap (λ (k : Kind). is_of_origin k) e)

-- an item counts exactly where it repeats none
pub counts_is : (at : Place) (tags : Tags) (h : List Call) (i : Item) → MayTake bracha at tags h i
    → counts_item i.kind (state_of at h) i.from ≡ not (bracha.repeats at tags h i)
counts_is at tags h i may = counts_kind at h i.kind i.from may.kind may.sender (from_origin at tags h i may)

step_kind : (at : Place) (tags : Tags) (h : List Call) (i : Item) (kind : Kind) → i.kind ≡ kind → is_reliable kind ≡ true → MayTake bracha at tags h i → first h i.from kind ≡ None
    → IsValueStep at tags h (Take i) (after_item kind (state_of at h) i) (says_item kind (state_of at h) i)
step_kind at tags h i kinds.Init e reliable may new = step_init at tags h i e (from_origin at tags h i may e) new
step_kind at tags h i kinds.Echo e reliable may new = step_echo at tags h i e may.sender new
step_kind at tags h i kinds.Ready e reliable may new = step_ready at tags h i e may.sender new
step_kind at tags h i kinds.Send e reliable may new = absurd (cc)
step_kind at tags h i kinds.Hashes e reliable may new = absurd (cc)
step_kind at tags h i kinds.Column e reliable may new = absurd (cc)
step_kind at tags h i kinds.Want e reliable may new = absurd (cc)
step_kind at tags h i kinds.Value e reliable may new = absurd (cc)

pub from_not : {A : Type 0} (o : Option A) (b : Bool) → b ≡ not (is_some o) → b ≡ true → o ≡ None
from_not None b e t = refl
from_not (Some x) b e t = absurd (both_ways b e t)

-- an item that counts
pub step_take : (at : Place) (tags : Tags) (h : List Call) (i : Item) → MayTake bracha at tags h i → counts_item i.kind (state_of at h) i.from ≡ true
    → IsValueStep at tags h (Take i) (after_item i.kind (state_of at h) i) (says_item i.kind (state_of at h) i)
step_take at tags h i may counts =
    step_kind at tags h i i.kind refl may.kind may (from_not (first h i.from i.kind) _ (counts_is at tags h i may) counts)

pub nobody_yet : (n : ℕ) (kind : Kind) → replicate n None ≡ firsts n [] kind
nobody_yet n kind =
    let nobody : Option (List ℕ) = None in
    fill_by_all (λ k. first [] k kind) (replicate n nobody) n nobody (length-replicate n nobody) (λ k lt. get_or-replicate n k nobody nobody lt)

-- no votes yet, and no calls
pub new_box : (at : Place)
    → record { params = at.numbers; slot = at.slot; echoed = false; readied = false; echoes = replicate at.numbers.n None; readies = replicate at.numbers.n None; delivered = None; live = true } ≡ state_of at []
new_box at =
    same_box at false false false false _ _ _ _ None None refl refl (nobody_yet at.numbers.n Echo) (nobody_yet at.numbers.n Ready) refl
