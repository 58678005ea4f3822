-- What a call does to what is kept is what it does to the calls, in reliable broadcast by digests.
use Rattle.std.specs.Prelude.{◌≡◌, ℕ, zero, suc, ◌+◌, ◌<◌, ◌≤◌, ◌==◌, Bool, true, false, not, ◌&&◌, ◌||◌, List, [], ◌∷◌, ◌++◌, Option, Some, None, is_some, is_none, nat_le, nat_lt, cond, length, if◌then◌else◌, slice_set, refl}
use Rattle.std.proofs.Common.{sym, ◌∙◌, ap, subst, inl, inr, arith, get_or}
use Rattle.std.specs.List.{range_with_len}
use Rattle.std.specs.Option.{option_or}
use Rattle.std.specs.Str.{bytes_eq}
use Rattle.std.proofs.lemmas.Bool.{cases_Bool, cases_eq, both_ways, cond-true, cond-false, eq-eqb, ne_eqb, lt-ltb, or_right, le-leb}
use Rattle.std.proofs.lemmas.List.{append-nil, map-set}
use Rattle.std.proofs.lemmas.Slice.Eq.{bytes_eq-Decides}
use Rattle.ritas_base.specs.declared.item.Kind.{Kind}
use Rattle.ritas_base.specs.declared.item.Kind.TheVariants.{Init, Echo, Ready, Want, Value}
use Rattle.ritas_base.specs.declared.item.Item.{Item}
use Rattle.ritas_base.specs.declared.item.Msg.{Msg}
use Rattle.ritas_base.specs.declared.slot.Slot.{Slot}
use Rattle.ritas_base.specs.Numbers.{Numbers, quorum_of, ready_of}
use Rattle.ritas_base.specs.Members.{has_member}
use Rattle.ritas_base.specs.Shortest.{at_shortest_none, option_or_none}
use Rattle.ritas_base.specs.History.{Call, Start, Take, told, first, started, firsts, voters, is_value, replicas}
use Rattle.ritas_base.specs.HistoryLaws.{told_mine, told_not_this, told_not_by, firsts_same, firsts_at, firsts_vote, length-firsts}
use Rattle.ritas_base.specs.Messages.{Place, kind_eq, to_all}
use Rattle.ritas_base.specs.MessagesLaws.{gained, gained_none, gained_if}
use Rattle.ritas_base.specs.Tags.{Tags}
use Rattle.layer_api.specs.Broadcast.{news}
use Rattle.layer_api.specs.ReplicaLaws.{range_has, replica_below}
use Rattle.reliable_bcast.specs.declared.digest_rb.Known.{Known}
use Rattle.reliable_bcast.specs.declared.digest_rb.DigestRb.{DigestRb}
use Rattle.reliable_bcast.specs.Bracha.{is_backed, some_backed, ready_value, out_by_value as carried_of}
use Rattle.reliable_bcast.specs.VoteRows.{without_value, without_values, dropped_if, kept_value}
use Rattle.reliable_bcast.specs.Laws.Voted.{out_voted}
use Rattle.reliable_bcast.specs.Laws.Steps.{backing, carrying, unvoted_backed, is_some_or, is_some_or_some, ready_quiet, ready_echo, ready_ready, out_quiet, out_ready}
use Rattle.reliable_bcast.specs.Digests.{brings, brought_by, if_digest, known, known_of, to_one, value_for, by_digest, echo_of}
use Rattle.reliable_bcast.specs.Laws.DigestNews.{ones, gain, gain_for, digest_parts, news_is, gained_or, gained_echo, no_ones, ones_alike, same_parts}
use Rattle.reliable_bcast.specs.Laws.DigestQuiet.{known_same, newly_wanted, want_gain, no_want, no_gain, no_echo, no_ready, start_news}
use Rattle.reliable_bcast.specs.DigestState.{value_with_digest, KeepsDigests, with_known, answer_for, answers_to, answers, has_backing, has_carriers, settled_by_digest, ready_message, want_message, echoed_by, readied_by, wanted_by, after_ready, want_answer}

-- ---- known values

value_append : (ks : List Known) (k : Known) (e : List ℕ) → value_with_digest (ks ++ k ∷ []) e ≡ option_or (value_with_digest ks e) (if bytes_eq k.digest e then Some k.value else None)
value_append [] k e = refl
value_append (x ∷ ks) k e = go (bytes_eq x.digest e) (value_append ks k e)
  where
    go : (b : Bool) → value_with_digest (ks ++ k ∷ []) e ≡ option_or (value_with_digest ks e) (if bytes_eq k.digest e then Some k.value else None)
        → (if b then Some x.value else value_with_digest (ks ++ k ∷ []) e) ≡ option_or (if b then Some x.value else value_with_digest ks e) (if bytes_eq k.digest e then Some k.value else None)
    go true ih = refl
    go false ih = ih

there_already : (o : Option (List ℕ)) (b : Bool) (m : List ℕ) → (b ≡ true → is_some o ≡ true) → o ≡ option_or o (if b then Some m else None)
there_already None true m there = absurd (both_ways false refl (there refl))
there_already None false m there = refl
there_already (Some v) b m there = refl

pub value_with : (ks : List Known) (d m e : List ℕ) → value_with_digest (with_known ks d m) e ≡ option_or (value_with_digest ks e) (if bytes_eq d e then Some m else None)
value_with ks d m e = go (is_some (value_with_digest ks d)) refl
  where
    go : (b : Bool) → is_some (value_with_digest ks d) ≡ b
        → value_with_digest (if b then ks else ks ++ record { digest = d; value = m } ∷ []) e ≡ option_or (value_with_digest ks e) (if bytes_eq d e then Some m else None)
    go true some = there_already (value_with_digest ks e) (bytes_eq d e) m (λ t. ap (λ (x : List ℕ). is_some (value_with_digest ks x)) (sym ((bytes_eq-Decides d e).0 t)) ∙ some)
    go false none = value_append ks (record { digest = d; value = m }) e

-- one that brings a value
pub known_more : (at : Place) (tags : Tags) (h : List Call) (c : Call) (m : List ℕ) → brought_by at h c ≡ Some m
    → (d : List ℕ) → known at tags (c ∷ h) d ≡ option_or (known at tags h d) (if bytes_eq (tags.digest m) d then Some m else None)
known_more at tags h c m is d = ap (λ (o : Option (List ℕ)). option_or (known at tags h d) (if_digest tags d o)) is

pub brings_none : (at : Place) (h : List Call) (i : Item) → kind_eq i.kind Init ≡ false → kind_eq i.kind Value ≡ false → brought_by at h (Take i) ≡ None
brings_none at h i init value =
    cond-false (brings at h i) (Some i.value) None
    (ap (λ (b : Bool). (b && (i.from == at.slot.origin && is_none (first h i.from Init))) || (kind_eq i.kind Value && is_none (first h i.from Value))) init
    ∙ ap (λ (b : Bool). b && is_none (first h i.from Value)) value)

pub brings_init : (at : Place) (h : List Call) (i : Item) → i.kind ≡ Init → i.from ≡ at.slot.origin → first h i.from Init ≡ None → brought_by at h (Take i) ≡ Some i.value
brings_init at h i kind mine new =
    cond-true (brings at h i) (Some i.value) None
    (ap (λ (b : Bool). (b && (i.from == at.slot.origin && is_none (first h i.from Init))) || (kind_eq i.kind Value && is_none (first h i.from Value))) (ap (λ (k : Kind). kind_eq k Init) kind)
    ∙ (ap (λ (b : Bool). (b && is_none (first h i.from Init)) || (kind_eq i.kind Value && is_none (first h i.from Value))) (eq-eqb i.from at.slot.origin mine)
    ∙ ap (λ (o : Option (List ℕ)). is_none o || (kind_eq i.kind Value && is_none (first h i.from Value))) new))

or_second : (a b : Bool) → a ≡ false → b ≡ true → (a || b) ≡ true
or_second a b p q = ap (λ (x : Bool). x || b) p ∙ q

pub brings_value : (at : Place) (h : List Call) (i : Item) → i.kind ≡ Value → first h i.from Value ≡ None → brought_by at h (Take i) ≡ Some i.value
brings_value at h i kind new =
    cond-true (brings at h i) (Some i.value) None
    (or_second _ _
    (ap (λ (k : Kind). kind_eq k Init && (i.from == at.slot.origin && is_none (first h i.from Init))) kind)
    (ap (λ (k : Kind). kind_eq k Value && is_none (first h i.from Value)) kind ∙ ap is_none new))

-- ---- answers

none_either : (b : Bool) → (let o : Option (List ℕ) = if b then None else None in o) ≡ None
none_either true = refl
none_either false = refl

-- where a value with this digest is brought, those who asked for it are answered, if none was known
abbrev answer_now : Bool → Bool → Option (List ℕ) → List ℕ → List ℕ → Option (List ℕ)
answer_now some mine o d m = if some then None else (if not mine && is_value d o then Some m else None)

pub gain_of : (at : Place) (tags : Tags) (h : List Call) (c : Call) (d m : List ℕ) (k : ℕ)
    → ((e : List ℕ) → known at tags (c ∷ h) e ≡ option_or (known at tags h e) (if bytes_eq d e then Some m else None)) → told k Want c ≡ None
    → gain_for at tags h c k ≡ answer_now (is_some (known at tags h d)) (k == at.me) (first h k Want) d m
gain_of at tags h c d m k more quiet =
    ap (λ (o : Option (List ℕ)). gained (value_for at tags h k) (if k == at.me then None else known_of at tags (c ∷ h) o))
    (ap (option_or (first h k Want)) quiet ∙ option_or_none (first h k Want))
    ∙ go (k == at.me) (first h k Want)
  where
    met : (known_d : Option (List ℕ)) → gained known_d (Some m) ≡ (if is_some known_d then None else Some m)
    met None = refl
    met (Some v) = refl

    by_digest_of : (e : List ℕ) (b : Bool) → bytes_eq d e ≡ b
        → gained (known at tags h e) (if b then Some m else None) ≡ (if is_some (known at tags h d) then None else (if bytes_eq e d then Some m else None))
    by_digest_of e true is =
        let same : d ≡ e = (bytes_eq-Decides d e).0 is in
        let back : bytes_eq e d ≡ true = (bytes_eq-Decides e d).1 (sym same) in
        ap (λ (x : List ℕ). gained (known at tags h x) (Some m)) (sym same)
        ∙ (met (known at tags h d) ∙ ap (λ (b : Bool). if is_some (known at tags h d) then None else (if b then Some m else None)) (sym back))
    by_digest_of e false other =
        let back : bytes_eq e d ≡ false =
        elim (cases_Bool (bytes_eq e d)) [
          | inl t ↦ absurd (both_ways (bytes_eq d e) other ((bytes_eq-Decides d e).1 (sym ((bytes_eq-Decides e d).0 t))))
          | inr f ↦ f
        ] in
        gained_none (known at tags h e)
        ∙ (sym (none_either (is_some (known at tags h d))) ∙ ap (λ (b : Bool). if is_some (known at tags h d) then None else (if b then Some m else None)) (sym back))

    go : (mine : Bool) (o : Option (List ℕ))
        → gained (if mine then None else known_of at tags h o) (if mine then None else known_of at tags (c ∷ h) o) ≡ answer_now (is_some (known at tags h d)) mine o d m
    go true o = sym (none_either (is_some (known at tags h d)))
    go false None = sym (none_either (is_some (known at tags h d)))
    go false (Some e) =
        ap (gained (known at tags h e)) (more e) ∙ (gained_or (known at tags h e) (if bytes_eq d e then Some m else None) ∙ by_digest_of e (bytes_eq d e) refl)

-- what a replica keeps says who asked
asked_is : (b : DigestRb) (at : Place) (tags : Tags) (h : List Call) (d m : List ℕ) (k : ℕ) → KeepsDigests b at tags h → k < at.numbers.n
    → answer_for b d m k ≡ (if not (k == at.me) && is_value d (first h k Want) then Some m else None)
asked_is b at tags h d m k keeps lt =
    let ws = firsts at.numbers.n h Want in
    let inside : k < length ws = subst (λ (x : ℕ). k < x) (sym (length-firsts at.numbers.n h Want)) lt in
    ap (λ (l : List (Option (List ℕ))). if not (k == b.me) && (nat_lt k (length l) && is_value d (get_or l k None)) then Some m else None) keeps.wants
    ∙ (ap (λ (x : ℕ). if not (k == x) && (nat_lt k (length ws) && is_value d (get_or ws k None)) then Some m else None) keeps.me
    ∙ (ap (λ (t : Bool). if not (k == at.me) && (t && is_value d (get_or ws k None)) then Some m else None) (lt-ltb k (length ws) inside)
    ∙ ap (λ (o : Option (List ℕ)). if not (k == at.me) && is_value d o then Some m else None) (firsts_at at.numbers.n h Want k lt)))

pub answers_are : (b : DigestRb) (at : Place) (tags : Tags) (h : List Call) (c : Call) (d m : List ℕ) → KeepsDigests b at tags h
    → ((e : List ℕ) → known at tags (c ∷ h) e ≡ option_or (known at tags h e) (if bytes_eq d e then Some m else None)) → ((k : ℕ) → told k Want c ≡ None)
    → ones at.slot (gain_for at tags h c) (replicas at.numbers.n) ≡ answers b d m
answers_are b at tags h c d m keeps more quiet =
    ones_alike at.slot (gain_for at tags h c) (λ k. answer_now (is_some (known at tags h d)) (k == at.me) (first h k Want) d m) (replicas at.numbers.n)
    (λ k there. gain_of at tags h c d m k more (quiet k))
    ∙ (go (is_some (known at tags h d)) ∙ ap (λ (t : Bool). if t then [] else answers_to b d m) (ap is_some (sym (keeps.values d))))
  where
    go : (some : Bool) → ones at.slot (λ k. answer_now some (k == at.me) (first h k Want) d m) (replicas at.numbers.n) ≡ (if some then [] else answers_to b d m)
    go true = no_ones at.slot (λ k. None) (replicas at.numbers.n) (λ k. refl)
    go false =
        ones_alike at.slot (λ k. if not (k == at.me) && is_value d (first h k Want) then Some m else None) (answer_for b d m) (replicas at.numbers.n)
        (λ k there. sym (asked_is b at tags h d m k keeps (replica_below at.numbers.n k there)))
        ∙ (ap (λ (s : Slot). ones s (answer_for b d m) (replicas at.numbers.n)) (sym keeps.slot)
        ∙ ap (λ (p : Numbers). ones b.slot (answer_for b d m) (replicas p.n)) (sym keeps.params))

-- ---- votes of which the digests are dropped once one is carried

-- nothing new
kept_still : (votes : List (Option (List ℕ))) (full full' : Option (List ℕ)) (all all' : List (Option (List ℕ))) → votes ≡ dropped_if (is_some full) all → full' ≡ full → all' ≡ all
    → votes ≡ dropped_if (is_some full') all'
kept_still votes full full' all all' kept same calls =
    kept ∙ (ap (λ (o : Option (List ℕ)). dropped_if (is_some o) all) (sym same) ∙ ap (dropped_if (is_some full')) (sym calls))

-- a vote more
kept_vote : (dropped : Bool) (votes all : List (Option (List ℕ))) (k : ℕ) (v : List ℕ) → votes ≡ dropped_if dropped all
    → slice_set votes k (Some (kept_value dropped v)) ≡ dropped_if dropped (slice_set all k (Some v))
kept_vote true votes all k v kept = ap (λ (l : List (Option (List ℕ))). slice_set l k (Some [])) kept ∙ sym (map-set without_value all k (Some v))
kept_vote false votes all k v kept = ap (λ (l : List (Option (List ℕ))). slice_set l k (Some v)) kept

-- a digest that is carried now
kept_carried : (full : Option (List ℕ)) (carries : Bool) (v : List ℕ) (votes all : List (Option (List ℕ))) → votes ≡ dropped_if (is_some full) all
    → dropped_if (is_none full && carries) votes ≡ dropped_if (is_some (option_or full (if carries then Some v else None))) all
kept_carried None true v votes all kept = ap without_values kept
kept_carried None false v votes all kept = kept
kept_carried (Some d) carries v votes all kept = kept

-- none are dropped yet
kept_whole : (full : Option (List ℕ)) (votes all : List (Option (List ℕ))) → full ≡ None → votes ≡ dropped_if (is_some full) all → votes ≡ all
kept_whole full votes all none kept = kept ∙ ap (λ (o : Option (List ℕ)). dropped_if (is_some o) all) none

-- READY is said of what is carried
carried_ready : (at : Place) (h : List Call) (d : List ℕ) → carried_of at h ≡ Some d → is_some (ready_value at.numbers h) ≡ true
carried_ready at h d carried = go (ready_value at.numbers h) refl
  where
    p : Numbers
    p = at.numbers

    enough : is_backed p h d ≡ true
    enough =
        let votes = out_voted at h d carried in
        or_right (nat_le (quorum_of p) (voters p.n h Echo d)) (nat_le (ready_of p) (voters p.n h Ready d))
        (le-leb (ready_of p) (voters p.n h Ready d) (omega (arith, votes)))

    go : (o : Option (List ℕ)) → ready_value p h ≡ o → is_some o ≡ true
    go None none = absurd (both_ways (is_backed p h d) (unvoted_backed p h (at_shortest_none (some_backed p) h none) d) enough)
    go (Some v) some = refl

-- a count matters where no digest is carried yet
or_open : (full : Option (List ℕ)) (r x y : Bool) → ((d : List ℕ) → full ≡ Some d → r ≡ true) → (full ≡ None → x ≡ y) → (r || x) ≡ (r || y)
or_open None r x y done alike = ap (λ (b : Bool). r || b) (alike refl)
or_open (Some d) r x y done alike = ap (λ (b : Bool). b || x) (done d refl) ∙ sym (ap (λ (b : Bool). b || y) (done d refl))

not_open : (full : Option (List ℕ)) (r x y : Bool) → ((d : List ℕ) → full ≡ Some d → r ≡ true) → (full ≡ None → x ≡ y) → (not r && x) ≡ (not r && y)
not_open None r x y done alike = ap (λ (b : Bool). not r && b) (alike refl)
not_open (Some d) r x y done alike = ap (λ (b : Bool). not b && x) (done d refl) ∙ sym (ap (λ (b : Bool). not b && y) (done d refl))

none_open : (full : Option (List ℕ)) (x y : Bool) → (full ≡ None → x ≡ y) → (is_none full && x) ≡ (is_none full && y)
none_open None x y alike = alike refl
none_open (Some d) x y alike = refl

full_open : (full : Option (List ℕ)) (v : List ℕ) (x y : Bool) → (full ≡ None → x ≡ y) → option_or full (if x then Some v else None) ≡ option_or full (if y then Some v else None)
full_open None v x y alike = ap (λ (b : Bool). if b then Some v else None) (alike refl)
full_open (Some d) v x y alike = refl

-- ---- one call

pub record IsStep (at : Place) (tags : Tags) (h : List Call) (c : Call) (after : DigestRb) (put : List Msg) : Type 0 where
  pub keeps : KeepsDigests after at tags (c ∷ h)
  pub said : put ≡ news by_digest at tags h c

some_or_none : {A : Type 0} (o more : Option A) → more ≡ None → is_some (option_or o more) ≡ is_some o
some_or_none o more none = ap (λ x. is_some (option_or o x)) none ∙ ap is_some (option_or_none o)

no_start : (at : Place) (tags : Tags) (h : List Call) (i : Item) → gain at tags h (Take i) Init ≡ None
no_start at tags h i = gained_or (started h) None ∙ gained_none (started h)

-- an item of a kind tells nothing of another
quiet : (i : Item) (kind : Kind) → kind_eq i.kind kind ≡ false → (j : ℕ) → told j kind (Take i) ≡ None
quiet i kind e j = told_not_this j kind i e

pub step_init : (b : DigestRb) (at : Place) (tags : Tags) (h : List Call) (i : Item) (new : DigestRb) (d : List ℕ) → KeepsDigests b at tags h → i.kind ≡ Init → i.from ≡ at.slot.origin → first h i.from Init ≡ None
    → d ≡ tags.digest i.value → new ≡ record b { inited = true; values = new.values } → new.values.items ≡ with_known b.values.items d i.value
    → IsStep at tags h (Take i) new (to_all b.slot Echo (Some d) ++ answers b d i.value)
step_init b at tags h i new d keeps kind mine none digest state values =
    let p = at.numbers in
    let off : (k : Kind) → kind_eq i.kind k ≡ false → (j : ℕ) → told j k (Take i) ≡ None = quiet i in
    let echo = off Echo (ap (λ k. kind_eq k Echo) kind) in
    let ready = off Ready (ap (λ k. kind_eq k Ready) kind) in
    let want = off Want (ap (λ k. kind_eq k Want) kind) in
    let value = off Value (ap (λ k. kind_eq k Value) kind) in
    let now : told at.slot.origin Init (Take i) ≡ Some i.value = ap (λ k. told k Init (Take i)) (sym mine) ∙ told_mine Init i (ap (λ k. kind_eq k Init) kind) in
    let was : first h at.slot.origin Init ≡ None = ap (λ k. first h k Init) (sym mine) ∙ none in
    let more : (e : List ℕ) → known at tags (Take i ∷ h) e ≡ option_or (known at tags h e) (if bytes_eq d e then Some i.value else None) =
    λ e. known_more at tags h (Take i) i.value (brings_init at h i kind mine none) e ∙ ap (λ (x : List ℕ). option_or (known at tags h e) (if bytes_eq x e then Some i.value else None)) (sym digest) in
    record {
      keeps = record {
        small = keeps.small;
        params = ap (λ (x : DigestRb). x.params) state ∙ keeps.params;
        me = ap (λ (x : DigestRb). x.me) state ∙ keeps.me;
        slot = ap (λ (x : DigestRb). x.slot) state ∙ keeps.slot;
        inited = ap (λ (x : DigestRb). x.inited) state ∙ sym (ap (λ (o : Option (List ℕ)). is_some (option_or (first h at.slot.origin Init) o)) now ∙ is_some_or_some (first h at.slot.origin Init) i.value);
        readied = ap (λ (x : DigestRb). x.readied) state ∙ (keeps.readied ∙ ap is_some (sym (ready_quiet p h (Take i) echo ready)));
        echoes = ap (λ (x : DigestRb). x.echoes) state ∙ kept_still b.echoes b.full new.full _ _ keeps.echoes (ap (λ (x : DigestRb). x.full) state) (firsts_same p.n h Echo (Take i) echo);
        readies = ap (λ (x : DigestRb). x.readies) state ∙ kept_still b.readies b.full new.full _ _ keeps.readies (ap (λ (x : DigestRb). x.full) state) (firsts_same p.n h Ready (Take i) ready);
        wants = ap (λ (x : DigestRb). x.wants) state ∙ (keeps.wants ∙ sym (firsts_same p.n h Want (Take i) want));
        given = λ k lt. ap (λ (x : DigestRb). has_member x.given k) state ∙ (keeps.given k lt ∙ sym (some_or_none (first h k Value) (told k Value (Take i)) (value k)));
        values = λ e.
            ap (λ (l : List Known). value_with_digest l e) values
            ∙ (value_with b.values.items d i.value e ∙ (ap (λ (o : Option (List ℕ)). option_or o (if bytes_eq d e then Some i.value else None)) (keeps.values e) ∙ sym (more e)));
        full = ap (λ (x : DigestRb). x.full) state ∙ (keeps.full ∙ sym (out_quiet at h (Take i) ready));
        live = ap (λ (x : DigestRb). x.live) state ∙ keeps.live;
      };
      said =
          sym (news_is at tags h (Take i)
          ∙ (same_parts at.slot _ None _ (Some d) _ None _ None _ (answers b d i.value)
          (no_start at tags h i)
          (gained_echo tags.digest (first h at.slot.origin Init) (told at.slot.origin Init (Take i))
          ∙ (ap (λ (o : Option (List ℕ)). gained (echo_of tags.digest o) (echo_of tags.digest (told at.slot.origin Init (Take i)))) was
          ∙ (ap (echo_of tags.digest) now ∙ ap (λ (x : List ℕ). Some x) (sym digest))))
          (no_ready at tags h (Take i) (ready_quiet p h (Take i) echo ready))
          (no_want at tags h (Take i) (out_quiet at h (Take i) ready))
          (answers_are b at tags h (Take i) d i.value keeps more want)
          ∙ ap (λ (s : Slot). to_all s Echo (Some d) ++ [] ++ [] ++ answers b d i.value) (sym keeps.slot)));
    }

told_value : (i : Item) (k : ℕ) → i.kind ≡ Value → is_some (told k Value (Take i)) ≡ (k == i.from)
told_value i k kind =
    elim (cases_eq i.from k) [
      | inl same ↦
          ap (λ (j : ℕ). is_some (told j Value (Take i))) (sym same)
          ∙ (ap is_some (told_mine Value i (ap (λ k. kind_eq k Value) kind)) ∙ sym (eq-eqb k i.from (sym same)))
      | inr other ↦ ap is_some (told_not_by k Value i other) ∙ sym (ne_eqb k i.from (λ e. other (sym e)))
    ]

is_some_either : {A : Type 0} (o u : Option A) → is_some (option_or o u) ≡ (is_some o || is_some u)
is_some_either None u = refl
is_some_either (Some x) u = refl

pub step_value : (b : DigestRb) (at : Place) (tags : Tags) (h : List Call) (i : Item) (new : DigestRb) (d : List ℕ) → KeepsDigests b at tags h → i.kind ≡ Value → first h i.from Value ≡ None
    → d ≡ tags.digest i.value → new ≡ record b { given = new.given; values = new.values } → new.values.items ≡ with_known b.values.items d i.value
    → ((k : ℕ) → has_member new.given k ≡ (has_member b.given k || (k == i.from)))
    → IsStep at tags h (Take i) new (answers b d i.value)
step_value b at tags h i new d keeps kind none digest state values given =
    let p = at.numbers in
    let off : (k : Kind) → kind_eq i.kind k ≡ false → (j : ℕ) → told j k (Take i) ≡ None = quiet i in
    let init = off Init (ap (λ k. kind_eq k Init) kind) in
    let echo = off Echo (ap (λ k. kind_eq k Echo) kind) in
    let ready = off Ready (ap (λ k. kind_eq k Ready) kind) in
    let want = off Want (ap (λ k. kind_eq k Want) kind) in
    let more : (e : List ℕ) → known at tags (Take i ∷ h) e ≡ option_or (known at tags h e) (if bytes_eq d e then Some i.value else None) =
    λ e. known_more at tags h (Take i) i.value (brings_value at h i kind none) e ∙ ap (λ (x : List ℕ). option_or (known at tags h e) (if bytes_eq x e then Some i.value else None)) (sym digest) in
    record {
      keeps = record {
        small = keeps.small;
        params = ap (λ (x : DigestRb). x.params) state ∙ keeps.params;
        me = ap (λ (x : DigestRb). x.me) state ∙ keeps.me;
        slot = ap (λ (x : DigestRb). x.slot) state ∙ keeps.slot;
        inited = ap (λ (x : DigestRb). x.inited) state ∙ (keeps.inited ∙ sym (some_or_none (first h at.slot.origin Init) (told at.slot.origin Init (Take i)) (init at.slot.origin)));
        readied = ap (λ (x : DigestRb). x.readied) state ∙ (keeps.readied ∙ ap is_some (sym (ready_quiet p h (Take i) echo ready)));
        echoes = ap (λ (x : DigestRb). x.echoes) state ∙ kept_still b.echoes b.full new.full _ _ keeps.echoes (ap (λ (x : DigestRb). x.full) state) (firsts_same p.n h Echo (Take i) echo);
        readies = ap (λ (x : DigestRb). x.readies) state ∙ kept_still b.readies b.full new.full _ _ keeps.readies (ap (λ (x : DigestRb). x.full) state) (firsts_same p.n h Ready (Take i) ready);
        wants = ap (λ (x : DigestRb). x.wants) state ∙ (keeps.wants ∙ sym (firsts_same p.n h Want (Take i) want));
        given = λ k lt.
            given k
            ∙ (ap (λ (x : Bool). x || (k == i.from)) (keeps.given k lt)
            ∙ (ap (λ (x : Bool). is_some (first h k Value) || x) (sym (told_value i k kind)) ∙ sym (is_some_either (first h k Value) (told k Value (Take i)))));
        values = λ e.
            ap (λ (l : List Known). value_with_digest l e) values
            ∙ (value_with b.values.items d i.value e ∙ (ap (λ (o : Option (List ℕ)). option_or o (if bytes_eq d e then Some i.value else None)) (keeps.values e) ∙ sym (more e)));
        full = ap (λ (x : DigestRb). x.full) state ∙ (keeps.full ∙ sym (out_quiet at h (Take i) ready));
        live = ap (λ (x : DigestRb). x.live) state ∙ keeps.live;
      };
      said =
          sym (news_is at tags h (Take i)
          ∙ same_parts at.slot _ None _ None _ None _ None _ (answers b d i.value)
          (no_start at tags h i) (no_echo at tags h (Take i) (init at.slot.origin))
          (no_ready at tags h (Take i) (ready_quiet p h (Take i) echo ready))
          (no_want at tags h (Take i) (out_quiet at h (Take i) ready))
          (answers_are b at tags h (Take i) d i.value keeps more want));
    }

-- ---- votes

-- READY that is backed by these votes
backed_by : (b : DigestRb) (at : Place) (tags : Tags) (h : List Call) (d : List ℕ) (es rs es' rs' : List (Option (List ℕ))) → KeepsDigests b at tags h → es ≡ es' → rs ≡ rs'
    → backing b.params es rs d ≡ backing at.numbers es' rs' d
backed_by b at tags h d es rs es' rs' keeps p q =
    ap (λ (x : Numbers). backing x es rs d) keeps.params
    ∙ (ap (λ (l : List (Option (List ℕ))). backing at.numbers l rs d) p ∙ ap (λ (l : List (Option (List ℕ))). backing at.numbers es' l d) q)

ready_gain : (at : Place) (tags : Tags) (h : List Call) (c : Call) (v : List ℕ) (backed : Bool) → ready_value at.numbers (c ∷ h) ≡ option_or (ready_value at.numbers h) (cond backed (Some v) None)
    → gain at tags h c Ready ≡ (if not (is_some (ready_value at.numbers h)) && backed then Some v else None)
ready_gain at tags h c v backed more =
    ap (gained (ready_value at.numbers h)) more ∙ (gained_or (ready_value at.numbers h) (cond backed (Some v) None) ∙ gained_if (ready_value at.numbers h) backed v)

voted : (ws : List (Option (List ℕ))) (us : List (Option (List ℕ))) (k : ℕ) (v : List ℕ) → ws ≡ us → slice_set ws k (Some v) ≡ slice_set us k (Some v)
voted ws us k v e = ap (λ (l : List (Option (List ℕ))). slice_set l k (Some v)) e

-- what an ECHO, a READY and a WANT leave as it is
only_ready : (s : Slot) (r : Option (List ℕ)) → digest_parts s None None r None [] ≡ to_all s Ready r
only_ready s r = append-nil (to_all s Ready r ++ []) ∙ append-nil (to_all s Ready r)

pub step_echo : (b : DigestRb) (at : Place) (tags : Tags) (h : List Call) (i : Item) → KeepsDigests b at tags h → i.kind ≡ Echo → i.from < at.numbers.n → first h i.from Echo ≡ None
    → IsStep at tags h (Take i) (settled_by_digest (echoed_by b i) i.value) (ready_message (echoed_by b i) i.value)
step_echo b at tags h i keeps kind within none =
    let p = at.numbers in
    let v = i.value in
    let init = quiet i Init (ap (λ k. kind_eq k Init) kind) in
    let ready = quiet i Ready (ap (λ k. kind_eq k Ready) kind) in
    let want = quiet i Want (ap (λ k. kind_eq k Want) kind) in
    let value = quiet i Value (ap (λ k. kind_eq k Value) kind) in
    let same = known_same at tags h (Take i) (brings_none at h i (ap (λ k. kind_eq k Init) kind) (ap (λ k. kind_eq k Value) kind)) in
    let more = ready_echo p h i kind none within in
    let votes = kept_vote (is_some b.full) b.echoes (firsts p.n h Echo) i.from v keeps.echoes in
    let test : Bool = backing p (slice_set (firsts p.n h Echo) i.from (Some v)) (firsts p.n h Ready) v in
    let backed : b.full ≡ None → has_backing (echoed_by b i) v ≡ test =
    λ none. backed_by b at tags h v _ _ _ _ keeps (kept_whole b.full _ _ none votes) (kept_whole b.full b.readies _ none keeps.readies) in
    let done : (d : List ℕ) → b.full ≡ Some d → is_some (ready_value p h) ≡ true = λ d is. carried_ready at h d (sym keeps.full ∙ is) in
    record {
      keeps = record {
        small = keeps.small;
        params = keeps.params;
        me = keeps.me;
        slot = keeps.slot;
        inited = keeps.inited ∙ sym (some_or_none (first h at.slot.origin Init) (told at.slot.origin Init (Take i)) (init at.slot.origin));
        readied =
            ap (λ (x : Bool). x || has_backing (echoed_by b i) v) keeps.readied
            ∙ (or_open b.full (is_some (ready_value p h)) (has_backing (echoed_by b i) v) test done backed ∙ (sym (is_some_or (ready_value p h) test v) ∙ ap is_some (sym more)));
        echoes = kept_still _ b.full b.full _ _ votes refl (firsts_vote p.n h Echo i (ap (λ k. kind_eq k Echo) kind) none within);
        readies = kept_still b.readies b.full b.full _ _ keeps.readies refl (firsts_same p.n h Ready (Take i) ready);
        wants = keeps.wants ∙ sym (firsts_same p.n h Want (Take i) want);
        given = λ k lt. keeps.given k lt ∙ sym (some_or_none (first h k Value) (told k Value (Take i)) (value k));
        values = λ e. keeps.values e ∙ sym (same e);
        full = keeps.full ∙ sym (out_quiet at h (Take i) ready);
        live = keeps.live;
      };
      said =
          ap (λ (x : Bool). to_all b.slot Ready (if not x && has_backing (echoed_by b i) v then Some v else None)) keeps.readied
          ∙ (ap (λ (x : Bool). to_all b.slot Ready (if x then Some v else None)) (not_open b.full (is_some (ready_value p h)) (has_backing (echoed_by b i) v) test done backed)
          ∙ (ap (λ (s : Slot). to_all s Ready (if not (is_some (ready_value p h)) && test then Some v else None)) keeps.slot
          ∙ sym (news_is at tags h (Take i)
          ∙ (same_parts at.slot _ None _ None _ (if not (is_some (ready_value p h)) && test then Some v else None) _ None _ []
          (no_start at tags h i) (no_echo at tags h (Take i) (init at.slot.origin)) (ready_gain at tags h (Take i) v test more)
          (no_want at tags h (Take i) (out_quiet at h (Take i) ready))
          (no_ones at.slot (gain_for at tags h (Take i)) (replicas p.n) (λ k. no_gain at tags h (Take i) k same (want k)))
          ∙ only_ready at.slot (if not (is_some (ready_value p h)) && test then Some v else None)))));
    }

-- WANT of what is carried now
wants_now : (at : Place) (tags : Tags) (h : List Call) (v : List ℕ) (was : Option (List ℕ)) (carries : Bool)
    → newly_wanted at tags h (is_none was) (option_or was (cond carries (Some v) None)) ≡ (if (is_none was && carries) && is_none (known at tags h v) then Some v else None)
wants_now at tags h v None true = go (known at tags h v)
  where
    go : (o : Option (List ℕ)) → (if is_some o then None else Some v) ≡ (if is_none o then Some v else None)
    go None = refl
    go (Some x) = refl
wants_now at tags h v None false = refl
wants_now at tags h v (Some d) carries = refl

two_said : (s : Slot) (r w : Option (List ℕ)) → digest_parts s None None r w [] ≡ to_all s Ready r ++ to_all s Want w
two_said s r w = append-nil (to_all s Ready r ++ to_all s Want w)

pub step_ready : (b : DigestRb) (at : Place) (tags : Tags) (h : List Call) (i : Item) → KeepsDigests b at tags h → i.kind ≡ Ready → i.from < at.numbers.n → first h i.from Ready ≡ None
    → IsStep at tags h (Take i) (after_ready b i) (ready_message (readied_by b i) i.value ++ want_message (settled_by_digest (readied_by b i) i.value) i.value)
step_ready b at tags h i keeps kind within none =
    let p = at.numbers in
    let v = i.value in
    let init = quiet i Init (ap (λ k. kind_eq k Init) kind) in
    let echo = quiet i Echo (ap (λ k. kind_eq k Echo) kind) in
    let want = quiet i Want (ap (λ k. kind_eq k Want) kind) in
    let value = quiet i Value (ap (λ k. kind_eq k Value) kind) in
    let same = known_same at tags h (Take i) (brings_none at h i (ap (λ k. kind_eq k Init) kind) (ap (λ k. kind_eq k Value) kind)) in
    let more = ready_ready p h i kind none within in
    let out = out_ready at h i kind none within in
    let test : Bool = backing p (firsts p.n h Echo) (slice_set (firsts p.n h Ready) i.from (Some v)) v in
    let test2 : Bool = carrying p (slice_set (firsts p.n h Ready) i.from (Some v)) v in
    let votes = kept_vote (is_some b.full) b.readies (firsts p.n h Ready) i.from v keeps.readies in
    let x : Bool = has_carriers (settled_by_digest (readied_by b i) v) v in
    let backed : b.full ≡ None → has_backing (readied_by b i) v ≡ test =
    λ none. backed_by b at tags h v _ _ _ _ keeps (kept_whole b.full b.echoes _ none keeps.echoes) (kept_whole b.full _ _ none votes) in
    let carries : b.full ≡ None → x ≡ test2 =
    λ none. ap (λ (q : Numbers). carrying q (readied_by b i).readies v) keeps.params ∙ ap (λ (l : List (Option (List ℕ))). carrying p l v) (kept_whole b.full _ _ none votes) in
    let done : (d : List ℕ) → b.full ≡ Some d → is_some (ready_value p h) ≡ true = λ d is. carried_ready at h d (sym keeps.full ∙ is) in
    let r : Option (List ℕ) = if not (is_some (ready_value p h)) && test then Some v else None in
    let w : Option (List ℕ) = if (is_none (carried_of at h) && test2) && is_none (known at tags h v) then Some v else None in
    record {
      keeps = record {
        small = keeps.small;
        params = keeps.params;
        me = keeps.me;
        slot = keeps.slot;
        inited = keeps.inited ∙ sym (some_or_none (first h at.slot.origin Init) (told at.slot.origin Init (Take i)) (init at.slot.origin));
        readied =
            ap (λ (r : Bool). r || has_backing (readied_by b i) v) keeps.readied
            ∙ (or_open b.full (is_some (ready_value p h)) (has_backing (readied_by b i) v) test done backed ∙ (sym (is_some_or (ready_value p h) test v) ∙ ap is_some (sym more)));
        echoes = kept_carried b.full x v b.echoes _ (kept_still b.echoes b.full b.full _ _ keeps.echoes refl (firsts_same p.n h Echo (Take i) echo));
        readies = kept_carried b.full x v _ _ (kept_still _ b.full b.full _ _ votes refl (firsts_vote p.n h Ready i (ap (λ k. kind_eq k Ready) kind) none within));
        wants = keeps.wants ∙ sym (firsts_same p.n h Want (Take i) want);
        given = λ k lt. keeps.given k lt ∙ sym (some_or_none (first h k Value) (told k Value (Take i)) (value k));
        values = λ e. keeps.values e ∙ sym (same e);
        full =
            full_open b.full v x test2 carries
            ∙ (ap (λ (o : Option (List ℕ)). option_or o (if test2 then Some v else None)) keeps.full ∙ sym out);
        live = keeps.live;
      };
      said =
          said_two b.slot at.slot (not b.readied && has_backing (readied_by b i) v) (not (is_some (ready_value p h)) && test) (is_none b.full && x) (is_none (carried_of at h) && test2)
          (value_with_digest b.values.items v) (known at tags h v) v keeps.slot
          (ap (λ (r : Bool). not r && has_backing (readied_by b i) v) keeps.readied ∙ not_open b.full (is_some (ready_value p h)) (has_backing (readied_by b i) v) test done backed)
          (none_open b.full x test2 carries ∙ ap (λ (o : Option (List ℕ)). is_none o && test2) keeps.full) (keeps.values v)
          ∙ sym (news_is at tags h (Take i)
          ∙ (same_parts at.slot _ None _ None _ r _ w _ []
          (no_start at tags h i) (no_echo at tags h (Take i) (init at.slot.origin)) (ready_gain at tags h (Take i) v test more)
          (want_gain at tags h (Take i)
          ∙ (ap (newly_wanted at tags (Take i ∷ h) (is_none (carried_of at h))) out
          ∙ (wants_now at tags (Take i ∷ h) v (carried_of at h) test2
          ∙ ap (λ (o : Option (List ℕ)). if (is_none (carried_of at h) && test2) && is_none o then Some v else None) (same v))))
          (no_ones at.slot (gain_for at tags h (Take i)) (replicas p.n) (λ k. no_gain at tags h (Take i) k same (want k)))
          ∙ two_said at.slot r w));
    }
  where
    said_two : (s s' : Slot) (r r' w w' : Bool) (o o' : Option (List ℕ)) (v : List ℕ) → s ≡ s' → r ≡ r' → w ≡ w' → o ≡ o'
        → to_all s Ready (if r then Some v else None) ++ to_all s Want (if w && is_none o then Some v else None)
        ≡ to_all s' Ready (if r' then Some v else None) ++ to_all s' Want (if w' && is_none o' then Some v else None)
    said_two s s' r r' w w' o o' v a b c d = cc

-- ---- WANT

ones_single : (s : Slot) (o : ℕ → Option (List ℕ)) (k from n : ℕ) → from ≤ k → k < from + n → ((j : ℕ) → (j ≡ k → ⊥) → o j ≡ None) → ones s o (range_with_len from n) ≡ to_one s k (o k)
ones_single s o k from zero low high other = absurd (omega (arith, low, high))
ones_single s o k from (suc n) low high other =
    elim (cases_eq from k) [
      | inl same ↦
          ap (λ (l : List Msg). to_one s from (o from) ++ l)
          (ones_alike s o (λ j. None) (range_with_len (from + 1) n)
          (λ j there. let above = (range_has (from + 1) n j there).0 in other j (λ e. omega (arith, above, same, e)))
          ∙ no_ones s (λ j. None) (range_with_len (from + 1) n) (λ j. refl))
          ∙ (append-nil (to_one s from (o from)) ∙ ap (λ (j : ℕ). to_one s j (o j)) same)
      | inr differ ↦
          ap (λ (x : Option (List ℕ)). to_one s from x ++ ones s o (range_with_len (from + 1) n)) (other from differ)
          ∙ ones_single s o k (from + 1) n (omega (arith, low, differ)) (omega (arith, high)) other
    ]

pub step_want : (b : DigestRb) (at : Place) (tags : Tags) (h : List Call) (i : Item) → KeepsDigests b at tags h → i.kind ≡ Want → i.from < at.numbers.n → first h i.from Want ≡ None
    → IsStep at tags h (Take i) (wanted_by b i) (want_answer b i)
step_want b at tags h i keeps kind within none =
    let p = at.numbers in
    let v = i.value in
    let init = quiet i Init (ap (λ k. kind_eq k Init) kind) in
    let echo = quiet i Echo (ap (λ k. kind_eq k Echo) kind) in
    let ready = quiet i Ready (ap (λ k. kind_eq k Ready) kind) in
    let value = quiet i Value (ap (λ k. kind_eq k Value) kind) in
    let same = known_same at tags h (Take i) (brings_none at h i (ap (λ k. kind_eq k Init) kind) (ap (λ k. kind_eq k Value) kind)) in
    let mine : told i.from Want (Take i) ≡ Some v = told_mine Want i (ap (λ k. kind_eq k Want) kind) in
    let now : gain_for at tags h (Take i) i.from ≡ (if i.from == at.me then None else known at tags h v) =
    ap (λ (o : Option (List ℕ)). gained (if i.from == at.me then None else known_of at tags h o) (if i.from == at.me then None else known_of at tags (Take i ∷ h) (option_or o (told i.from Want (Take i))))) none
    ∙ (ap (λ (o : Option (List ℕ)). gained (if i.from == at.me then None else None) (if i.from == at.me then None else known_of at tags (Take i ∷ h) o)) mine
    ∙ gained_now (i.from == at.me) (known at tags (Take i ∷ h) v) (known at tags h v) (same v)) in
    record {
      keeps = record {
        small = keeps.small;
        params = keeps.params;
        me = keeps.me;
        slot = keeps.slot;
        inited = keeps.inited ∙ sym (some_or_none (first h at.slot.origin Init) (told at.slot.origin Init (Take i)) (init at.slot.origin));
        readied = keeps.readied ∙ ap is_some (sym (ready_quiet p h (Take i) echo ready));
        echoes = kept_still b.echoes b.full b.full _ _ keeps.echoes refl (firsts_same p.n h Echo (Take i) echo);
        readies = kept_still b.readies b.full b.full _ _ keeps.readies refl (firsts_same p.n h Ready (Take i) ready);
        wants = voted b.wants (firsts p.n h Want) i.from v keeps.wants ∙ sym (firsts_vote p.n h Want i (ap (λ k. kind_eq k Want) kind) none within);
        given = λ k lt. keeps.given k lt ∙ sym (some_or_none (first h k Value) (told k Value (Take i)) (value k));
        values = λ e. keeps.values e ∙ sym (same e);
        full = keeps.full ∙ sym (out_quiet at h (Take i) ready);
        live = keeps.live;
      };
      said =
          ap (λ (s : Slot). to_one s i.from (if i.from == b.me then None else value_with_digest b.values.items v)) keeps.slot
          ∙ (ap (λ (x : ℕ). to_one at.slot i.from (if i.from == x then None else value_with_digest b.values.items v)) keeps.me
          ∙ (ap (λ (o : Option (List ℕ)). to_one at.slot i.from (if i.from == at.me then None else o)) (keeps.values v)
          ∙ (ap (to_one at.slot i.from) (sym now)
          ∙ sym (news_is at tags h (Take i)
          ∙ same_parts at.slot _ None _ None _ None _ None _ (to_one at.slot i.from (gain_for at tags h (Take i) i.from))
          (no_start at tags h i) (no_echo at tags h (Take i) (init at.slot.origin)) (no_ready at tags h (Take i) (ready_quiet p h (Take i) echo ready))
          (no_want at tags h (Take i) (out_quiet at h (Take i) ready))
          (ones_single at.slot (gain_for at tags h (Take i)) i.from 0 p.n (omega arith) (omega (arith, within))
          (λ j other. no_gain at tags h (Take i) j same (told_not_by j Want i (λ e. other (sym e)))))))));
    }
  where
    gained_now : (mine : Bool) (now was : Option (List ℕ)) → now ≡ was → gained (if mine then None else None) (if mine then None else now) ≡ (if mine then None else was)
    gained_now true now was e = refl
    gained_now false now was e = e

-- ---- the start

pub step_start : (b : DigestRb) (at : Place) (tags : Tags) (h : List Call) (m : List ℕ) → KeepsDigests b at tags h → started h ≡ None → IsStep at tags h (Start m) b (to_all b.slot Init (Some m))
step_start b at tags h m keeps none =
    let p = at.numbers in
    let same = known_same at tags h (Start m) refl in
    record {
      keeps = record {
        small = keeps.small;
        params = keeps.params;
        me = keeps.me;
        slot = keeps.slot;
        inited = keeps.inited ∙ sym (some_or_none (first h at.slot.origin Init) None refl);
        readied = keeps.readied ∙ ap is_some (sym (ready_quiet p h (Start m) (λ j. refl) (λ j. refl)));
        echoes = kept_still b.echoes b.full b.full _ _ keeps.echoes refl (firsts_same p.n h Echo (Start m) (λ j. refl));
        readies = kept_still b.readies b.full b.full _ _ keeps.readies refl (firsts_same p.n h Ready (Start m) (λ j. refl));
        wants = keeps.wants ∙ sym (firsts_same p.n h Want (Start m) (λ j. refl));
        given = λ k lt. keeps.given k lt ∙ sym (some_or_none (first h k Value) None refl);
        values = λ e. keeps.values e ∙ sym (same e);
        full = keeps.full ∙ sym (out_quiet at h (Start m) (λ j. refl));
        live = keeps.live;
      };
      said = ap (λ (s : Slot). to_all s Init (Some m)) keeps.slot ∙ sym (start_news at tags h m none);
    }
