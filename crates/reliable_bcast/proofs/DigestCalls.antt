-- What the calls on the state promise, for all calls that the state stands for, in reliable broadcast by digests.
use Rattle.std.proofs.Common.{◌≡◌, ◌∙◌, ap, subst, sym, ◌++◌, [], ◌∷◌, List, ℕ, zero, suc, get_or, ◌<◌, Bool, true, false, Some, None, inl, inr, refl, arith, ◌⊎◌}
use Rattle.std.specs.Prelude.{Option, Result, Ok, Err, OnOk, OnErr, is_err, is_some, is_none, length, nat_lt, ◌&&◌}
use Rattle.std.proofs.lemmas.List.{length-append, length-map}
use Rattle.std.proofs.lemmas.Bool.{both_ways}
use Rattle.ritas_base.specs.declared.bytes.Mem.{Mem}
use Rattle.ritas_base.specs.declared.item.Kind.{Kind}
use Rattle.ritas_base.specs.declared.item.Kind.TheVariants as kinds
use Rattle.ritas_base.specs.declared.item.Kind.TheVariants.{Init, Echo, Ready, Want, Value}
use Rattle.ritas_base.specs.declared.item.Item.{Item}
use Rattle.ritas_base.specs.declared.item.Msg.{Msg}
use Rattle.ritas_base.specs.declared.slot.Slot.{Slot}
use Rattle.ritas_base.specs.Numbers.{Numbers}
use Rattle.ritas_base.specs.Members.{has_member}
use Rattle.ritas_base.specs.Messages.{Place, to_all}
use Rattle.ritas_base.specs.Shortest.{not_there}
use Rattle.ritas_base.specs.History.{Call, Take, first, firsts}
use Rattle.ritas_base.specs.Tags.{Tags}
use Rattle.frame_codec.specs.Body.{is_of_form}
use Rattle.layer_api.specs.declared.broadcast.Heard.{Heard}
use Rattle.layer_api.specs.declared.broadcast.Heard.TheVariants.{Took, Repeat}
use Rattle.frame_codec.specs.Format.{Is}
use Rattle.frame_codec.specs.Grammar.{carries_digest, digest}
use Rattle.layer_api.specs.Broadcast.{Tagging, IsTagger, MayTake, IsPayload, is_of_origin}
use Rattle.layer_api.specs.BroadcastCalls.{Started, Takes}
use Rattle.reliable_bcast.specs.declared.digest_rb.Known.{Known}
use Rattle.reliable_bcast.specs.declared.digest_rb.DigestRb.{DigestRb}
use Rattle.reliable_bcast.specs.Laws.Steps.{awaited_is, nobody_yet}
use Rattle.ritas_base.specs.Places.{is_awaited}
use Rattle.reliable_bcast.specs.Digests.{out_by_digest, by_digest}
use Rattle.reliable_bcast.specs.VoteRows.{without_value, without_values, dropped_if}
use Rattle.reliable_bcast.specs.Laws.DigestShown.{shows_out}
use Rattle.reliable_bcast.specs.DigestState.{value_with_digest, value_for_full, delivered_of, digest_shown, KeepsDigests, IsNew, IsSameState, DigestsUnchanged, AfterInit, AfterValue, settled_by_digest, ready_message, want_message, echoed_by, readied_by, want_answer, after_ready, HearsInit, HearsEcho, HearsReady, HearsWant, HearsValue, HearsByDigest}
use Rattle.reliable_bcast.proofs.DigestSteps.{IsStep, step_start, step_init, step_value, step_echo, step_ready, step_want}

abbrev pub is_live : DigestRb → Bool
is_live b = b.live

abbrev TakesAs : Tagging → DigestRb → DigestRb → Item → List Msg → List Msg → Result Heard Mem → Type 0
TakesAs t old new i before after r = Takes KeepsDigests by_digest is_live digest_shown t old new i before after r

-- for all calls at which the item may be taken
abbrev ForAll : Tagging → DigestRb → Item → (Place → Tags → List Call → Type 0) → Type 0
ForAll t old i P = (at : Place) (tags : Tags) (h : List Call) → KeepsDigests old at tags h → IsTagger at tags t → MayTake by_digest at tags h i → P at tags h

abbrev IsFirst : Item → Place → Tags → List Call → Type 0
IsFirst i at tags h = first h i.from i.kind ≡ None

-- an item that is taken
took : (t : Tagging) (old new : DigestRb) (i : Item) (before after put : List Msg) → ForAll t old i (λ at tags h. IsStep at tags h (Take i) new put) → ForAll t old i (IsFirst i)
    → after ≡ before ++ put → TakesAs t old new i before after (Ok Took)
took t old new i before after put steps firsts said =
    record {
      grows = λ at tags h keeps tagger may. (steps at tags h keeps tagger may).keeps;
      made = λ at tags h keeps tagger may. said ∙ ap (λ (l : List Msg). before ++ l) (steps at tags h keeps tagger may).said;
      counts = λ at tags h keeps tagger may. ap is_some (firsts at tags h keeps tagger may);
    }

-- one that repeats another
again : (t : Tagging) (old new : DigestRb) (i : Item) (before after : List Msg) → DigestsUnchanged old new before after
    → ForAll t old i (λ at tags h. is_some (first h i.from i.kind) ≡ true) → TakesAs t old new i before after (Ok Repeat)
again t old new i before after same there =
    record {
      same = λ at tags h keeps. subst (λ (b : DigestRb). KeepsDigests b at tags h) (sym same.state) keeps;
      out = same.out;
      counts = there;
    }

-- want of memory
half : (t : Tagging) (old new : DigestRb) (i : Item) (before after : List Msg) (e : Mem) → after ≡ before → ForAll t old i (IsFirst i)
    → ForAll t old i (λ at tags h. (delivered_of new ≡ out_by_digest at tags h) ⊎ (delivered_of new ≡ out_by_digest at tags (Take i ∷ h)))
    → TakesAs t old (record new { live = false }) i before after (Err e)
half t old new i before after e out firsts near =
    record {
      dies = record {
        out = out;
        dead = refl;
        shows = λ at tags h keeps tagger may. record { out = near at tags h keeps tagger may; ready = λ x. inl refl };
      };
      counts = λ at tags h keeps tagger may. ap is_some (firsts at tags h keeps tagger may);
    }

of_kind : (h : List Call) (i : Item) (kind : Kind) → i.kind ≡ kind → first h i.from i.kind ≡ first h i.from kind
of_kind h i kind e = ap (λ (k : Kind). first h i.from k) e

there : (o : Option (List ℕ)) → is_none o ≡ false → is_some o ≡ true
there None e = absurd (cc)
there (Some v) e = refl

missing : (o : Option (List ℕ)) → is_none o ≡ true → o ≡ None
missing None e = refl
missing (Some v) e = absurd (cc)

-- ---- INIT

mine : (at : Place) (tags : Tags) (h : List Call) (i : Item) → MayTake by_digest at tags h i → i.kind ≡ Init → i.from ≡ at.slot.origin
mine at tags h i may e = may.origin (ap (λ (k : Kind). is_of_origin k) e)

init_first : (t : Tagging) (old : DigestRb) (i : Item) → i.kind ≡ Init → (b : Bool) → old.inited ≡ b → ForAll t old i (λ at tags h. is_some (first h i.from Init) ≡ b)
init_first t old i kind b is = λ at tags h keeps tagger may.
    ap (λ (k : ℕ). is_some (first h k Init)) (mine at tags h i may kind) ∙ (sym keeps.inited ∙ is)

init_step : (t : Tagging) (old new : DigestRb) (i : Item) → i.kind ≡ Init → old.inited ≡ false → AfterInit t old new i → ForAll t old i (λ at tags h. KeepsDigests new at tags (Take i ∷ h))
init_step t old new i kind is after = λ at tags h keeps tagger may.
    (step_init old at tags h i new (t.tags.digest i.value) keeps kind (mine at tags h i may kind) (not_there (first h i.from Init) (init_first t old i kind false is at tags h keeps tagger may))
    (sym (tagger.alike.digest i.value)) after.state after.values).keeps

heard_init : (t : Tagging) (old new : DigestRb) (i : Item) (before after : List Msg) (r : Result Heard Mem) → i.kind ≡ Init → is_err r ≡ false
    → HearsInit t old new i before after r → TakesAs t old new i before after r
heard_init t old new i before after (Ok Took) kind e hears =
    let none = init_first t old i kind false hears.0 in
    took t old new i before after _
    (λ at tags h keeps tagger may.
    step_init old at tags h i new (t.tags.digest i.value) keeps kind (mine at tags h i may kind) (not_there (first h i.from Init) (none at tags h keeps tagger may))
    (sym (tagger.alike.digest i.value)) hears.1.state hears.1.values)
    (λ at tags h keeps tagger may. of_kind h i Init kind ∙ not_there (first h i.from Init) (none at tags h keeps tagger may))
    hears.2
heard_init t old new i before after (Ok Repeat) kind e hears =
    again t old new i before after hears.1 (λ at tags h keeps tagger may. ap is_some (of_kind h i Init kind) ∙ init_first t old i kind true hears.0 at tags h keeps tagger may)
heard_init t old new i before after (Err x) kind e hears = absurd (cc)

-- what is the same delivers the same
same_out : (old new : DigestRb) → IsSameState old new → delivered_of new ≡ delivered_of old
same_out old new same =
    ap (λ (o : Option (List ℕ)). value_for_full new.values.items o) (ap (λ (b : DigestRb). b.full) same.state) ∙ ap (λ (ks : List Known). value_for_full ks old.full) same.values

half_init : (t : Tagging) (old new : DigestRb) (i : Item) (before after : List Msg) (r : Result Heard Mem) → i.kind ≡ Init → is_err r ≡ true
    → HearsInit t old new i before after r → TakesAs t old (record new { live = false }) i before after r
half_init t old new i before after (Ok Took) kind e hears = absurd (cc)
half_init t old new i before after (Ok Repeat) kind e hears = absurd (cc)
half_init t old new i before after (Err x) kind e hears =
    let none = init_first t old i kind false hears.0 in
    half t old new i before after x hears.1 (λ at tags h keeps tagger may. of_kind h i Init kind ∙ not_there (first h i.from Init) (none at tags h keeps tagger may))
    (λ at tags h keeps tagger may.
    elim hears.2 [
      | inl same ↦ inl (same_out old new same ∙ shows_out old at tags h keeps)
      | inr more ↦ inr (shows_out new at tags (Take i ∷ h) (init_step t old new i kind hears.0 more at tags h keeps tagger may))
    ])

-- ---- VALUE

value_first : (t : Tagging) (old : DigestRb) (i : Item) (b : Bool) → has_member old.given i.from ≡ b → ForAll t old i (λ at tags h. is_some (first h i.from Value) ≡ b)
value_first t old i b is = λ at tags h keeps tagger may. sym (keeps.given i.from may.sender) ∙ is

value_step : (t : Tagging) (old new : DigestRb) (i : Item) → i.kind ≡ Value → has_member old.given i.from ≡ false → AfterValue t old new i → ForAll t old i (λ at tags h. KeepsDigests new at tags (Take i ∷ h))
value_step t old new i kind is after = λ at tags h keeps tagger may.
    (step_value old at tags h i new (t.tags.digest i.value) keeps kind (not_there (first h i.from Value) (value_first t old i false is at tags h keeps tagger may))
    (sym (tagger.alike.digest i.value)) after.state after.values after.given).keeps

heard_value : (t : Tagging) (old new : DigestRb) (i : Item) (before after : List Msg) (r : Result Heard Mem) → i.kind ≡ Value → is_err r ≡ false
    → HearsValue t old new i before after r → TakesAs t old new i before after r
heard_value t old new i before after (Ok Took) kind e hears =
    let none = value_first t old i false hears.0 in
    took t old new i before after _
    (λ at tags h keeps tagger may.
    step_value old at tags h i new (t.tags.digest i.value) keeps kind (not_there (first h i.from Value) (none at tags h keeps tagger may))
    (sym (tagger.alike.digest i.value)) hears.1.state hears.1.values hears.1.given)
    (λ at tags h keeps tagger may. of_kind h i Value kind ∙ not_there (first h i.from Value) (none at tags h keeps tagger may))
    hears.2
heard_value t old new i before after (Ok Repeat) kind e hears =
    again t old new i before after hears.1
    (λ at tags h keeps tagger may.
    let most = keeps.small in
    let within = may.sender in
    let fits : i.from < 32 = omega (arith, most, within) in
    ap is_some (of_kind h i Value kind) ∙ value_first t old i true (hears.0 fits) at tags h keeps tagger may)
heard_value t old new i before after (Err x) kind e hears = absurd (cc)

half_value : (t : Tagging) (old new : DigestRb) (i : Item) (before after : List Msg) (r : Result Heard Mem) → i.kind ≡ Value → is_err r ≡ true
    → HearsValue t old new i before after r → TakesAs t old (record new { live = false }) i before after r
half_value t old new i before after (Ok Took) kind e hears = absurd (cc)
half_value t old new i before after (Ok Repeat) kind e hears = absurd (cc)
half_value t old new i before after (Err x) kind e hears =
    let none = value_first t old i false hears.0 in
    half t old new i before after x hears.1 (λ at tags h keeps tagger may. of_kind h i Value kind ∙ not_there (first h i.from Value) (none at tags h keeps tagger may))
    (λ at tags h keeps tagger may.
    elim hears.2 [
      | inl same ↦ inl (same_out old new same ∙ shows_out old at tags h keeps)
      | inr more ↦ inr (shows_out new at tags (Take i ∷ h) (value_step t old new i kind hears.0 more at tags h keeps tagger may))
    ])

-- ---- votes

awaits : (n : ℕ) (h : List Call) (kind : Kind) (ws : List (Option (List ℕ))) (k : ℕ) (b : Bool) → ws ≡ firsts n h kind → k < n → is_awaited ws k ≡ b → is_none (first h k kind) ≡ b
awaits n h kind ws k b kept lt is = sym (awaited_is n h kind k lt) ∙ (ap (λ (l : List (Option (List ℕ))). is_awaited l k) (sym kept) ∙ is)

-- so do votes of which the digests are dropped
awaits_kept : (n : ℕ) (h : List Call) (kind : Kind) (ws : List (Option (List ℕ))) (dropped : Bool) (k : ℕ) (b : Bool) → ws ≡ dropped_if dropped (firsts n h kind) → k < n → is_awaited ws k ≡ b
    → is_none (first h k kind) ≡ b
awaits_kept n h kind ws dropped k b kept lt is =
    awaits n h kind (firsts n h kind) k b refl lt (sym (alike dropped) ∙ (ap (λ (l : List (Option (List ℕ))). is_awaited l k) (sym kept) ∙ is))
  where
    same_place : (votes : List (Option (List ℕ))) (k : ℕ) → is_none (get_or (without_values votes) k None) ≡ is_none (get_or votes k None)
    same_place [] k = refl
    same_place (None ∷ votes) zero = refl
    same_place (Some v ∷ votes) zero = refl
    same_place (o ∷ votes) (suc k) = same_place votes k

    alike : (dropped : Bool) → is_awaited (dropped_if dropped (firsts n h kind)) k ≡ is_awaited (firsts n h kind) k
    alike true =
        ap (λ (m : ℕ). nat_lt k m && is_none (get_or (without_values (firsts n h kind)) k None)) (length-map (firsts n h kind) without_value)
        ∙ ap (λ (t : Bool). nat_lt k (length (firsts n h kind)) && t) (same_place (firsts n h kind) k)
    alike false = refl

length_of : (v : List ℕ) → Is digest v → length v ≡ 32
unfolding digest
length_of v (front, rest, parts, len, ok, nil) = ap length parts ∙ (length-append front rest ∙ (let none = ap length nil in omega (arith, len, none)))

-- a vote brings a digest
whole_digest : (at : Place) (tags : Tags) (h : List Call) (i : Item) (kind : Kind) → i.kind ≡ kind → carries_digest 3 kind ≡ true → MayTake by_digest at tags h i → length i.value ≡ 32
whole_digest at tags h i kinds.Echo is carries may = length_of i.value (subst (λ (k : Kind). IsPayload 3 at.numbers.n k i.value) is may.payload)
whole_digest at tags h i kinds.Ready is carries may = length_of i.value (subst (λ (k : Kind). IsPayload 3 at.numbers.n k i.value) is may.payload)
whole_digest at tags h i kinds.Want is carries may = length_of i.value (subst (λ (k : Kind). IsPayload 3 at.numbers.n k i.value) is may.payload)
whole_digest at tags h i kinds.Init is carries may = absurd (cc)
whole_digest at tags h i kinds.Send is carries may = absurd (cc)
whole_digest at tags h i kinds.Hashes is carries may = absurd (cc)
whole_digest at tags h i kinds.Column is carries may = absurd (cc)
whole_digest at tags h i kinds.Value is carries may = absurd (cc)

heard_echo : (t : Tagging) (old new : DigestRb) (i : Item) (before after : List Msg) (r : Result Heard Mem) → i.kind ≡ Echo → is_err r ≡ false
    → HearsEcho old new i before after r → TakesAs t old new i before after r
heard_echo t old new i before after (Ok Took) kind e hears =
    let none : ForAll t old i (λ at tags h. first h i.from Echo ≡ None) =
    λ at tags h keeps tagger may. missing (first h i.from Echo) (awaits_kept at.numbers.n h Echo old.echoes (is_some old.full) i.from true keeps.echoes may.sender hears.0) in
    took t old new i before after (ready_message (echoed_by old i) i.value)
    (λ at tags h keeps tagger may.
    subst (λ (b : DigestRb). IsStep at tags h (Take i) b (ready_message (echoed_by old i) i.value)) (sym hears.1) (step_echo old at tags h i keeps kind may.sender (none at tags h keeps tagger may)))
    (λ at tags h keeps tagger may. of_kind h i Echo kind ∙ none at tags h keeps tagger may) hears.2
heard_echo t old new i before after (Ok Repeat) kind e hears =
    again t old new i before after hears.1
    (λ at tags h keeps tagger may. ap is_some (of_kind h i Echo kind) ∙ there (first h i.from Echo) (awaits_kept at.numbers.n h Echo old.echoes (is_some old.full) i.from false keeps.echoes may.sender (hears.0 (whole_digest at tags h i Echo kind refl may))))
heard_echo t old new i before after (Err x) kind e hears = absurd (cc)

half_echo : (t : Tagging) (old new : DigestRb) (i : Item) (before after : List Msg) (r : Result Heard Mem) → i.kind ≡ Echo → is_err r ≡ true
    → HearsEcho old new i before after r → TakesAs t old (record new { live = false }) i before after r
half_echo t old new i before after (Ok Took) kind e hears = absurd (cc)
half_echo t old new i before after (Ok Repeat) kind e hears = absurd (cc)
half_echo t old new i before after (Err x) kind e hears =
    half t old new i before after x hears.1
    (λ at tags h keeps tagger may. of_kind h i Echo kind ∙ missing (first h i.from Echo) (awaits_kept at.numbers.n h Echo old.echoes (is_some old.full) i.from true keeps.echoes may.sender hears.0))
    (λ at tags h keeps tagger may. inl (hears.2 ∙ shows_out old at tags h keeps))

ready_first : (t : Tagging) (old : DigestRb) (i : Item) → is_awaited old.readies i.from ≡ true → ForAll t old i (λ at tags h. first h i.from Ready ≡ None)
ready_first t old i is = λ at tags h keeps tagger may. missing (first h i.from Ready) (awaits_kept at.numbers.n h Ready old.readies (is_some old.full) i.from true keeps.readies may.sender is)

heard_ready : (t : Tagging) (old new : DigestRb) (i : Item) (before after : List Msg) (r : Result Heard Mem) → i.kind ≡ Ready → is_err r ≡ false
    → HearsReady old new i before after r → TakesAs t old new i before after r
heard_ready t old new i before after (Ok Took) kind e hears =
    let none = ready_first t old i hears.0 in
    took t old new i before after (ready_message (readied_by old i) i.value ++ want_message (settled_by_digest (readied_by old i) i.value) i.value)
    (λ at tags h keeps tagger may.
    subst (λ (b : DigestRb). IsStep at tags h (Take i) b (ready_message (readied_by old i) i.value ++ want_message (settled_by_digest (readied_by old i) i.value) i.value)) (sym hears.1) (step_ready old at tags h i keeps kind may.sender (none at tags h keeps tagger may)))
    (λ at tags h keeps tagger may. of_kind h i Ready kind ∙ none at tags h keeps tagger may) hears.2
heard_ready t old new i before after (Ok Repeat) kind e hears =
    again t old new i before after hears.1
    (λ at tags h keeps tagger may. ap is_some (of_kind h i Ready kind) ∙ there (first h i.from Ready) (awaits_kept at.numbers.n h Ready old.readies (is_some old.full) i.from false keeps.readies may.sender (hears.0 (whole_digest at tags h i Ready kind refl may))))
heard_ready t old new i before after (Err x) kind e hears = absurd (cc)

half_ready : (t : Tagging) (old new : DigestRb) (i : Item) (before after : List Msg) (r : Result Heard Mem) → i.kind ≡ Ready → is_err r ≡ true
    → HearsReady old new i before after r → TakesAs t old (record new { live = false }) i before after r
half_ready t old new i before after (Ok Took) kind e hears = absurd (cc)
half_ready t old new i before after (Ok Repeat) kind e hears = absurd (cc)
half_ready t old new i before after (Err x) kind e hears =
    let none = ready_first t old i hears.0 in
    half t old new i before after x hears.1 (λ at tags h keeps tagger may. of_kind h i Ready kind ∙ none at tags h keeps tagger may)
    (λ at tags h keeps tagger may.
    elim hears.2 [
      | inl same ↦ inl (same ∙ shows_out old at tags h keeps)
      | inr more ↦ inr (more ∙ shows_out (after_ready old i) at tags (Take i ∷ h) (step_ready old at tags h i keeps kind may.sender (none at tags h keeps tagger may)).keeps)
    ])

want_first : (t : Tagging) (old : DigestRb) (i : Item) → is_awaited old.wants i.from ≡ true → ForAll t old i (λ at tags h. first h i.from Want ≡ None)
want_first t old i is = λ at tags h keeps tagger may. missing (first h i.from Want) (awaits at.numbers.n h Want old.wants i.from true keeps.wants may.sender is)

heard_want : (t : Tagging) (old new : DigestRb) (i : Item) (before after : List Msg) (r : Result Heard Mem) → i.kind ≡ Want → is_err r ≡ false
    → HearsWant old new i before after r → TakesAs t old new i before after r
heard_want t old new i before after (Ok Took) kind e hears =
    let none = want_first t old i hears.0 in
    took t old new i before after (want_answer old i)
    (λ at tags h keeps tagger may.
    subst (λ (b : DigestRb). IsStep at tags h (Take i) b (want_answer old i)) (sym hears.1) (step_want old at tags h i keeps kind may.sender (none at tags h keeps tagger may)))
    (λ at tags h keeps tagger may. of_kind h i Want kind ∙ none at tags h keeps tagger may) hears.2
heard_want t old new i before after (Ok Repeat) kind e hears =
    again t old new i before after hears.1
    (λ at tags h keeps tagger may. ap is_some (of_kind h i Want kind) ∙ there (first h i.from Want) (awaits at.numbers.n h Want old.wants i.from false keeps.wants may.sender (hears.0 (whole_digest at tags h i Want kind refl may))))
heard_want t old new i before after (Err x) kind e hears = absurd (cc)

half_want : (t : Tagging) (old new : DigestRb) (i : Item) (before after : List Msg) (r : Result Heard Mem) → i.kind ≡ Want → is_err r ≡ true
    → HearsWant old new i before after r → TakesAs t old (record new { live = false }) i before after r
half_want t old new i before after (Ok Took) kind e hears = absurd (cc)
half_want t old new i before after (Ok Repeat) kind e hears = absurd (cc)
half_want t old new i before after (Err x) kind e hears =
    half t old new i before after x hears.1 (λ at tags h keeps tagger may. of_kind h i Want kind ∙ want_first t old i hears.0 at tags h keeps tagger may)
    (λ at tags h keeps tagger may. inl (hears.2 ∙ shows_out old at tags h keeps))

-- ---- every kind

other_kind : (t : Tagging) (old new : DigestRb) (i : Item) (before after : List Msg) (r : Result Heard Mem) → is_of_form 3 i.kind ≡ false
    → (r ≡ Ok Repeat) × DigestsUnchanged old new before after → TakesAs t old new i before after r
other_kind t old new i before after r other hears =
    subst (λ (q : Result Heard Mem). TakesAs t old new i before after q) (sym hears.0)
    (again t old new i before after hears.1 (λ at tags h keeps tagger may. absurd (both_ways (is_of_form 3 i.kind) other may.kind)))

pub heard_well : (t : Tagging) (old new : DigestRb) (i : Item) (before after : List Msg) (r : Result Heard Mem) → is_err r ≡ false
    → HearsByDigest i.kind t old new i before after r → TakesAs t old new i before after r
heard_well t old new i before after r e hears = go i.kind refl hears
  where
    go : (kind : Kind) → i.kind ≡ kind → HearsByDigest kind t old new i before after r → TakesAs t old new i before after r
    go kinds.Init kind h = heard_init t old new i before after r kind e h
    go kinds.Echo kind h = heard_echo t old new i before after r kind e h
    go kinds.Ready kind h = heard_ready t old new i before after r kind e h
    go kinds.Send kind h = other_kind t old new i before after r (ap (λ (k : Kind). is_of_form 3 k) kind) h
    go kinds.Hashes kind h = other_kind t old new i before after r (ap (λ (k : Kind). is_of_form 3 k) kind) h
    go kinds.Column kind h = other_kind t old new i before after r (ap (λ (k : Kind). is_of_form 3 k) kind) h
    go kinds.Want kind h = heard_want t old new i before after r kind e h
    go kinds.Value kind h = heard_value t old new i before after r kind e h

pub heard_half : (t : Tagging) (old new : DigestRb) (i : Item) (before after : List Msg) (r : Result Heard Mem) → is_err r ≡ true
    → HearsByDigest i.kind t old new i before after r → TakesAs t old (record new { live = false }) i before after r
heard_half t old new i before after r e hears = go i.kind refl hears
  where
    not_other : (r ≡ Ok Repeat) → TakesAs t old (record new { live = false }) i before after r
    not_other same = absurd (both_ways (is_err r) (ap is_err same) e)

    go : (kind : Kind) → i.kind ≡ kind → HearsByDigest kind t old new i before after r → TakesAs t old (record new { live = false }) i before after r
    go kinds.Init kind h = half_init t old new i before after r kind e h
    go kinds.Echo kind h = half_echo t old new i before after r kind e h
    go kinds.Ready kind h = half_ready t old new i before after r kind e h
    go kinds.Send kind h = not_other h.0
    go kinds.Hashes kind h = not_other h.0
    go kinds.Column kind h = not_other h.0
    go kinds.Want kind h = half_want t old new i before after r kind e h
    go kinds.Value kind h = half_value t old new i before after r kind e h

-- ---- the start

pub started_well : (t : Tagging) (old : DigestRb) (value : List ℕ) (before after : List Msg) (r : Result (Unit {0}) Mem) → is_err r ≡ false
    → OnOk r (after ≡ before ++ to_all old.slot Init (Some value)) → Started KeepsDigests by_digest is_live digest_shown t old old value before after r
started_well t old value before after (Ok u) e said =
    record {
      grows = λ at tags h keeps tagger may. (step_start old at tags h value keeps may.once).keeps;
      made = λ at tags h keeps tagger may. said ∙ ap (λ (l : List Msg). before ++ l) (step_start old at tags h value keeps may.once).said;
    }
started_well t old value before after (Err x) e said = absurd (cc)

pub started_half : (t : Tagging) (old : DigestRb) (value : List ℕ) (before after : List Msg) (r : Result (Unit {0}) Mem) → is_err r ≡ true
    → OnErr r (after ≡ before) → Started KeepsDigests by_digest is_live digest_shown t old (record old { live = false }) value before after r
started_half t old value before after (Ok u) e out = absurd (cc)
started_half t old value before after (Err x) e out =
    record {
      out = out;
      dead = refl;
      shows = λ at tags h keeps tagger may. record { out = inl (shows_out old at tags h keeps); ready = λ i. inl refl };
    }

-- ---- before any call

pub new_keeps : (p : Numbers) (me : ℕ) (s : Slot) (b : DigestRb) → IsNew p me s b → (tags : Tags) → KeepsDigests b (record { numbers = p; me = me; slot = s }) tags []
new_keeps p me s b new tags =
    record {
      small = new.small;
      params = new.params;
      me = new.me;
      slot = new.slot;
      inited = new.inited;
      readied = new.readied;
      echoes = (new.echoes ∙ nobody_yet p.n Echo) ∙ sym (ap (λ (o : Option (List ℕ)). dropped_if (is_some o) (firsts p.n [] Echo)) new.full);
      readies = (new.readies ∙ nobody_yet p.n Ready) ∙ sym (ap (λ (o : Option (List ℕ)). dropped_if (is_some o) (firsts p.n [] Ready)) new.full);
      wants = new.wants ∙ nobody_yet p.n Want;
      given = λ k lt. new.given k;
      values = λ d. ap (λ (ks : List Known). value_with_digest ks d) new.values;
      full = new.full;
      live = new.live;
    }
