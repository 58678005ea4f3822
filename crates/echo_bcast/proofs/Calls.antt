-- What the calls on the state promise, for all calls that the state stands for.
use Rattle.std.specs.Prelude.{◌≡◌, ℕ, ◌<◌, Bool, true, false, not, ◌&&◌, ◌||◌, List, [], ◌∷◌, ◌++◌, length, Option, Some, None, is_some, is_none, nat_lt, Result, Ok, Err, OnOk, OnErr, is_err, replicate, refl}
use Rattle.std.proofs.Common.{sym, ◌∙◌, ap, subst, inl, get_or}
use Rattle.std.proofs.lemmas.List.{append-nil, length-replicate, get_or-replicate}
use Rattle.std.proofs.lemmas.List.FromFn.{fill_by_all}
use Rattle.std.proofs.lemmas.Bool.{both_ways, cond-true, lt-ltb}
use Rattle.ritas_base.specs.declared.bytes.Mem.{Mem}
use Rattle.ritas_base.specs.declared.item.Kind.{Kind}
use Rattle.ritas_base.specs.declared.item.Kind.TheVariants as kinds
use Rattle.ritas_base.specs.declared.item.Kind.TheVariants.{Send, Hashes, Column}
use Rattle.ritas_base.specs.declared.item.Item.{Item}
use Rattle.ritas_base.specs.declared.item.Msg.{Msg}
use Rattle.ritas_base.specs.declared.slot.Slot.{Slot}
use Rattle.ritas_base.specs.Numbers.{Numbers, IsSession}
use Rattle.ritas_base.specs.Members.{has_member}
use Rattle.ritas_base.specs.History.{Call, Start, Take, first, firsts}
use Rattle.ritas_base.specs.HistoryLaws.{firsts_at, length-firsts}
use Rattle.ritas_base.specs.Messages.{Place, kind_eq, to_all}
use Rattle.ritas_base.specs.Tags.{Tags}
use Rattle.layer_api.specs.declared.broadcast.Heard.{Heard}
use Rattle.layer_api.specs.declared.broadcast.Heard.TheVariants.{Took, Repeat}
use Rattle.layer_api.specs.Broadcast.{Tagging, MayTake, is_of_origin, is_for_origin, IsPayload}
use Rattle.ritas_base.specs.Shortest.{not_there}
use Rattle.frame_codec.specs.Format.{Is}
use Rattle.frame_codec.specs.Grammar.{column}
use Rattle.layer_api.specs.BroadcastCalls.{CastShown, ShowsCastNear, Started, Takes}
use Rattle.layer_api.specs.Entries.{sent}
use Rattle.echo_bcast.specs.declared.eb.Eb.{Eb}
use Rattle.echo_bcast.specs.Matrix.{echo, hashes_in, columns_of, has_news, repeats_one, is_of_echo}
use Rattle.ritas_base.specs.Places.{is_awaited}
use Rattle.echo_bcast.specs.State.{KeepsMatrix, matrix_shown, MatrixUnchanged, HearsSend, HearsHashes, HearsColumn, HearsColumnOk, HearsMatrix}
use Rattle.echo_bcast.specs.Laws.Once.{repeats_other}
use Rattle.echo_bcast.specs.Laws.Getters.{some_as, shows_cast}
use Rattle.echo_bcast.specs.Laws.News.{news_start}
use Rattle.echo_bcast.proofs.News.{news_send, news_column, news_hashes}
use Rattle.echo_bcast.proofs.Steps.{kept_start, kept_send, kept_hashes, kept_column, message_is, none_as, sent_as_kept, news_is}

abbrev pub is_live : Eb → Bool
is_live b = b.live

abbrev TakesAs : Tagging → Eb → Eb → Item → List Msg → List Msg → Result Heard Mem → Type 0
TakesAs t old new x before after r = Takes KeepsMatrix echo is_live matrix_shown t old new x before after r

-- what shows as before the call
shows_before : (old new : Eb) (at : Place) (tags : Tags) (h : List Call) (c : Call) → KeepsMatrix old at tags h → matrix_shown new ≡ matrix_shown old
    → ShowsCastNear echo at tags h c (matrix_shown new)
shows_before old new at tags h c keeps same =
    let was = shows_cast old at tags h keeps in
    record {
      out = inl (ap (λ (s : CastShown). s.out) same ∙ was.out);
      ready = λ i. inl (ap (λ (s : CastShown). s.ready i) same ∙ was.ready i);
    }

-- ---- repeats, by kind

repeats_kind : (at : Place) (tags : Tags) (h : List Call) (x : Item) (kind : Kind) → x.kind ≡ kind → kind_eq kind Column ≡ false → repeats_one at tags h x ≡ is_some (first h x.from kind)
repeats_kind at tags h x kind same other =
    repeats_other at tags h x (ap (λ (k : Kind). kind_eq k Column) same ∙ other) ∙ ap (λ (k : Kind). is_some (first h x.from k)) same

repeats_column : (at : Place) (tags : Tags) (h : List Call) (x : Item) → x.kind ≡ Column → repeats_one at tags h x ≡ (is_some (sent at h) && not (has_news at tags h x))
repeats_column at tags h x same =
    cond-true (kind_eq x.kind Column) (is_some (sent at h) && not (has_news at tags h x)) (is_some (first h x.from x.kind)) (ap (λ (k : Kind). kind_eq k Column) same)

-- ---- SEND

from_origin : (at : Place) (tags : Tags) (h : List Call) (x : Item) → x.kind ≡ Send → MayTake echo at tags h x → x.from ≡ at.slot.origin
from_origin at tags h x kind may = may.origin (ap (λ (k : Kind). is_of_origin k) kind)

repeats_send : (at : Place) (tags : Tags) (h : List Call) (x : Item) → x.kind ≡ Send → MayTake echo at tags h x → repeats_one at tags h x ≡ is_some (sent at h)
repeats_send at tags h x kind may = repeats_kind at tags h x Send kind refl ∙ ap (λ (k : ℕ). is_some (first h k Send)) (from_origin at tags h x kind may)

unsent : (b : Eb) (at : Place) (tags : Tags) (h : List Call) → b.sent ≡ None → KeepsMatrix b at tags h → sent at h ≡ None
unsent b at tags h none keeps = none_as tags (sent at h) (sym keeps.sent_is ∙ none)

heard_send : (t : Tagging) (old new : Eb) (x : Item) (before after : List Msg) (r : Result Heard Mem) → x.kind ≡ Send → is_err r ≡ false
    → HearsSend t old new x before after r → TakesAs t old new x before after r
heard_send t old new x before after (Ok Took) kind e hears =
    record {
      grows = λ at tags h keeps tagger may.
          subst (λ (b : Eb). KeepsMatrix b at tags (Take x ∷ h)) (sym hears.1)
          (kept_send old at tags h x (t.tags.digest x.value) keeps kind (from_origin at tags h x kind may) (unsent old at tags h hears.0 keeps) (sym (tagger.alike.digest x.value)));
      made = λ at tags h keeps tagger may.
          hears.2
          ∙ ap (λ (l : List Msg). before ++ l)
          (message_is old at tags h t x.value keeps tagger ∙ sym (news_send at tags h x kind (from_origin at tags h x kind may) (unsent old at tags h hears.0 keeps)));
      counts = λ at tags h keeps tagger may. repeats_send at tags h x kind may ∙ ap is_some (unsent old at tags h hears.0 keeps);
    }
heard_send t old new x before after (Ok Repeat) kind e hears =
    record {
      same = λ at tags h keeps. subst (λ (b : Eb). KeepsMatrix b at tags h) (sym hears.1.0) keeps;
      out = hears.1.1;
      counts = λ at tags h keeps tagger may.
          repeats_send at tags h x kind may ∙ (sym (some_as tags (sent at h)) ∙ (ap is_some (sym keeps.sent_is) ∙ hears.0));
    }
heard_send t old new x before after (Err y) kind e hears = absurd (cc)

half_send : (t : Tagging) (old new : Eb) (x : Item) (before after : List Msg) (r : Result Heard Mem) → x.kind ≡ Send → is_err r ≡ true
    → HearsSend t old new x before after r → TakesAs t old (record new { live = false }) x before after r
half_send t old new x before after (Ok Took) kind e hears = absurd (cc)
half_send t old new x before after (Ok Repeat) kind e hears = absurd (cc)
half_send t old new x before after (Err y) kind e hears =
    record {
      dies = record {
        out = hears.1.1;
        dead = refl;
        shows = λ at tags h keeps tagger may. shows_before old new at tags h (Take x) keeps (ap (λ (b : Eb). matrix_shown b) hears.1.0);
      };
      counts = λ at tags h keeps tagger may. repeats_send at tags h x kind may ∙ ap is_some (unsent old at tags h hears.0 keeps);
    }

-- ---- HASHES

is_none_is : {A : Type 0} (o : Option A) → is_none o ≡ not (is_some o)
is_none_is None = refl
is_none_is (Some x) = refl

awaited_is : (b : Eb) (at : Place) (tags : Tags) (h : List Call) (k : ℕ) → KeepsMatrix b at tags h → k < at.numbers.n → is_awaited b.hashes k ≡ not (is_some (first h k Hashes))
awaited_is b at tags h k keeps lt =
    let n = at.numbers.n in
    let hs = hashes_in at h in
    let inside : k < length hs = subst (λ (m : ℕ). k < m) (sym (length-firsts n h Hashes)) lt in
    ap (λ (l : List (Option (List ℕ))). is_awaited l k) keeps.hashes
    ∙ (ap (λ (y : Bool). y && is_none (get_or hs k None)) (lt-ltb k (length hs) inside)
    ∙ (ap is_none (firsts_at n h Hashes k lt) ∙ is_none_is (first h k Hashes)))

opposite : (b d : Bool) → b ≡ not d → (e : Bool) → b ≡ e → d ≡ not e
opposite true true p e q = absurd (cc)
opposite true false p e q = ap not q
opposite false true p e q = ap not q
opposite false false p e q = absurd (cc)

repeats_hashes : (b : Eb) (at : Place) (tags : Tags) (h : List Call) (x : Item) (awaits : Bool) → x.kind ≡ Hashes → KeepsMatrix b at tags h → MayTake echo at tags h x
    → is_awaited b.hashes x.from ≡ awaits → repeats_one at tags h x ≡ not awaits
repeats_hashes b at tags h x awaits kind keeps may is =
    repeats_kind at tags h x Hashes kind refl
    ∙ opposite (is_awaited b.hashes x.from) (is_some (first h x.from Hashes)) (awaited_is b at tags h x.from keeps may.sender) awaits is

new_hashes : (b : Eb) (at : Place) (tags : Tags) (h : List Call) (x : Item) → KeepsMatrix b at tags h → MayTake echo at tags h x
    → is_awaited b.hashes x.from ≡ true → first h x.from Hashes ≡ None
new_hashes b at tags h x keeps may is =
    not_there (first h x.from Hashes) (opposite (is_awaited b.hashes x.from) (is_some (first h x.from Hashes)) (awaited_is b at tags h x.from keeps may.sender) true is)

columns_are : (b c : Eb) (at : Place) (tags : Tags) (h : List Call) (x : Item) → KeepsMatrix b at tags h → KeepsMatrix c at tags (Take x ∷ h)
    → columns_of b.params b.slot c.hashes ≡ columns_of at.numbers at.slot (hashes_in at (Take x ∷ h))
columns_are b c at tags h x keeps kept =
    ap (λ (p : Numbers). columns_of p b.slot c.hashes) keeps.params
    ∙ (ap (λ (s : Slot). columns_of at.numbers s c.hashes) keeps.slot ∙ ap (columns_of at.numbers at.slot) kept.hashes)

heard_hashes : (t : Tagging) (old new : Eb) (x : Item) (before after : List Msg) (r : Result Heard Mem) → x.kind ≡ Hashes → is_err r ≡ false
    → HearsHashes old new x before after r → TakesAs t old new x before after r
heard_hashes t old new x before after (Ok Took) kind e hears =
    let kept : (at : Place) (tags : Tags) (h : List Call) → KeepsMatrix old at tags h → MayTake echo at tags h x → KeepsMatrix new at tags (Take x ∷ h) =
    λ at tags h keeps may. kept_hashes old new at tags h x keeps kind may.sender (new_hashes old at tags h x keeps may hears.0) hears.1 hears.2 in
    record {
      grows = λ at tags h keeps tagger may. kept at tags h keeps may;
      made = λ at tags h keeps tagger may.
          let session = keeps.session in
          hears.3 (ap length keeps.hashes ∙ (length-firsts at.numbers.n h Hashes ∙ ap (λ (p : Numbers). p.n) (sym keeps.params)))
          ∙ ap (λ (l : List Msg). before ++ l)
          (columns_are old new at tags h x keeps (kept at tags h keeps may)
          ∙ sym (news_hashes at tags h x session.most (may.receiver (ap (λ (k : Kind). is_for_origin k) kind)) kind may.sender (new_hashes old at tags h x keeps may hears.0)));
      counts = λ at tags h keeps tagger may. repeats_hashes old at tags h x true kind keeps may hears.0;
    }
heard_hashes t old new x before after (Ok Repeat) kind e hears =
    record {
      same = λ at tags h keeps. subst (λ (b : Eb). KeepsMatrix b at tags h) (sym hears.1.0) keeps;
      out = hears.1.1;
      counts = λ at tags h keeps tagger may. repeats_hashes old at tags h x false kind keeps may hears.0;
    }
heard_hashes t old new x before after (Err y) kind e hears = absurd (cc)

half_hashes : (t : Tagging) (old new : Eb) (x : Item) (before after : List Msg) (r : Result Heard Mem) → x.kind ≡ Hashes → is_err r ≡ true
    → HearsHashes old new x before after r → TakesAs t old (record new { live = false }) x before after r
half_hashes t old new x before after (Ok Took) kind e hears = absurd (cc)
half_hashes t old new x before after (Ok Repeat) kind e hears = absurd (cc)
half_hashes t old new x before after (Err y) kind e hears =
    record {
      dies = record {
        out = hears.2;
        dead = refl;
        shows = λ at tags h keeps tagger may. shows_before old new at tags h (Take x) keeps (ap (λ (b : Eb). matrix_shown b) hears.1);
      };
      counts = λ at tags h keeps tagger may. repeats_hashes old at tags h x true kind keeps may hears.0;
    }

-- ---- columns

-- a column that may be taken comes after its SEND
after_send : (at : Place) (tags : Tags) (h : List Call) (x : Item) → x.kind ≡ Column → MayTake echo at tags h x → is_some (sent at h) ≡ true
after_send at tags h x kind may = ap (λ (k : Kind). not (kind_eq k Column) || is_some (sent at h)) (sym kind) ∙ may.in_time

column_payload : (at : Place) (tags : Tags) (h : List Call) (x : Item) → x.kind ≡ Column → MayTake echo at tags h x → Is (column at.numbers.n) x.value
column_payload at tags h x kind may = subst (λ (k : Kind). IsPayload 2 at.numbers.n k x.value) kind may.payload

heard_column : (t : Tagging) (old new : Eb) (x : Item) (before after : List Msg) (heard : Heard) → x.kind ≡ Column
    → HearsColumn t old new x before after heard → TakesAs t old new x before after (Ok heard)
heard_column t old new x before after Took kind hears =
    record {
      grows = λ at tags h keeps tagger may.
          kept_column old at tags h t x keeps tagger kind (sent_as_kept old at tags h keeps (after_send at tags h x kind may)) new hears.1 hears.2;
      made = λ at tags h keeps tagger may. hears.3 ∙ (sym (append-nil before) ∙ ap (λ (l : List Msg). before ++ l) (sym (news_column at tags h x kind)));
      counts = λ at tags h keeps tagger may.
          let there = after_send at tags h x kind may in
          repeats_column at tags h x kind
          ∙ (ap (λ (b : Bool). b && not (has_news at tags h x)) there
          ∙ ap not (sym (news_is old at tags h t x keeps tagger kind (sent_as_kept old at tags h keeps there)) ∙ hears.0));
    }
heard_column t old new x before after Repeat kind hears =
    record {
      same = λ at tags h keeps. subst (λ (b : Eb). KeepsMatrix b at tags h) (sym hears.1.0) keeps;
      out = hears.1.1;
      counts = λ at tags h keeps tagger may.
          let there = after_send at tags h x kind may in
          repeats_column at tags h x kind
          ∙ (ap (λ (b : Bool). b && not (has_news at tags h x)) there
          ∙ ap not (sym (news_is old at tags h t x keeps tagger kind (sent_as_kept old at tags h keeps there)) ∙ hears.0 at.numbers.n (column_payload at tags h x kind may)));
    }

-- ---- every kind

other_kind : (t : Tagging) (old new : Eb) (x : Item) (before after : List Msg) (r : Result Heard Mem) → is_of_echo x.kind ≡ false
    → (r ≡ Ok Repeat) × MatrixUnchanged old new before after → TakesAs t old new x before after r
other_kind t old new x before after r other hears =
    subst (λ (q : Result Heard Mem). TakesAs t old new x before after q) (sym hears.0)
    (record {
      same = λ at tags h keeps. subst (λ (b : Eb). KeepsMatrix b at tags h) (sym hears.1.0) keeps;
      out = hears.1.1;
      counts = λ at tags h keeps tagger may. absurd (both_ways (is_of_echo x.kind) other may.kind);
    })

pub heard_well : (t : Tagging) (old new : Eb) (x : Item) (before after : List Msg) (r : Result Heard Mem) → is_err r ≡ false
    → HearsMatrix x.kind t old new x before after r → TakesAs t old new x before after r
heard_well t old new x before after r e hears = go x.kind refl hears
  where
    column_well : (q : Result Heard Mem) → x.kind ≡ Column → HearsColumnOk t old new x before after q → TakesAs t old new x before after q
    column_well (Ok heard) kind h = heard_column t old new x before after heard kind h
    column_well (Err y) kind h = absurd h

    go : (kind : Kind) → x.kind ≡ kind → HearsMatrix kind t old new x before after r → TakesAs t old new x before after r
    go kinds.Init kind h = other_kind t old new x before after r (ap (λ (k : Kind). is_of_echo k) kind) h
    go kinds.Echo kind h = other_kind t old new x before after r (ap (λ (k : Kind). is_of_echo k) kind) h
    go kinds.Ready kind h = other_kind t old new x before after r (ap (λ (k : Kind). is_of_echo k) kind) h
    go kinds.Send kind h = heard_send t old new x before after r kind e h
    go kinds.Hashes kind h = heard_hashes t old new x before after r kind e h
    go kinds.Column kind h = column_well r kind h
    go kinds.Want kind h = other_kind t old new x before after r (ap (λ (k : Kind). is_of_echo k) kind) h
    go kinds.Value kind h = other_kind t old new x before after r (ap (λ (k : Kind). is_of_echo k) kind) h

pub heard_half : (t : Tagging) (old new : Eb) (x : Item) (before after : List Msg) (r : Result Heard Mem) → is_err r ≡ true
    → HearsMatrix x.kind t old new x before after r → TakesAs t old (record new { live = false }) x before after r
heard_half t old new x before after r e hears = go x.kind refl hears
  where
    not_other : (r ≡ Ok Repeat) → TakesAs t old (record new { live = false }) x before after r
    not_other same = absurd (both_ways (is_err r) (ap is_err same) e)

    column_half : (q : Result Heard Mem) → is_err q ≡ true → HearsColumnOk t old new x before after q → TakesAs t old (record new { live = false }) x before after q
    column_half (Ok heard) f h = absurd (cc)
    column_half (Err y) f h = absurd h

    go : (kind : Kind) → x.kind ≡ kind → HearsMatrix kind t old new x before after r → TakesAs t old (record new { live = false }) x before after r
    go kinds.Init kind h = not_other h.0
    go kinds.Echo kind h = not_other h.0
    go kinds.Ready kind h = not_other h.0
    go kinds.Send kind h = half_send t old new x before after r kind e h
    go kinds.Hashes kind h = half_hashes t old new x before after r kind e h
    go kinds.Column kind h = column_half r e h
    go kinds.Want kind h = not_other h.0
    go kinds.Value kind h = not_other h.0

-- ---- the start

pub started_well : (t : Tagging) (old : Eb) (value : List ℕ) (before after : List Msg) (r : Result (Unit {0}) Mem) → is_err r ≡ false
    → OnOk r (after ≡ before ++ to_all old.slot Send (Some value)) → Started KeepsMatrix echo is_live matrix_shown t old old value before after r
started_well t old value before after (Ok u) e said =
    record {
      grows = λ at tags h keeps tagger may. kept_start old at tags h value keeps;
      made = λ at tags h keeps tagger may.
          said ∙ ap (λ (l : List Msg). before ++ l) (ap (λ (s : Slot). to_all s Send (Some value)) keeps.slot ∙ sym (news_start at tags h value may.once));
    }
started_well t old value before after (Err x) e said = absurd (cc)

pub started_half : (t : Tagging) (old : Eb) (value : List ℕ) (before after : List Msg) (r : Result (Unit {0}) Mem) → is_err r ≡ true
    → OnErr r (after ≡ before) → Started KeepsMatrix echo is_live matrix_shown t old (record old { live = false }) value before after r
started_half t old value before after (Ok u) e out = absurd (cc)
started_half t old value before after (Err x) e out =
    record { out = out; dead = refl; shows = λ at tags h keeps tagger may. shows_before old old at tags h (Start value) keeps refl }

-- ---- the value before any call

nobody_yet : (n : ℕ) → replicate n None ≡ firsts n [] Hashes
nobody_yet n =
    let nobody : Option (List ℕ) = None in
    fill_by_all (λ k. first [] k Hashes) (replicate n nobody) n nobody (length-replicate n nobody) (λ k lt. get_or-replicate n k nobody nobody lt)

and_false : (b : Bool) → false ≡ (b && false)
and_false true = refl
and_false false = refl

pub new_keeps : (p : Numbers) (me : ℕ) (slot : Slot) (b : Eb) → me < p.n → (b.params ≡ p) × (b.slot ≡ slot) × (b.sent ≡ None) × (b.live ≡ true)
    → (b.hashes ≡ replicate p.n None) × ((k : ℕ) → has_member b.good k ≡ false) → IsSession p
    → (tags : Tags) → KeepsMatrix b (record { numbers = p; me = me; slot = slot }) tags []
new_keeps p me slot b below same nobody session tags =
    record {
      session = session;
      me_below = below;
      params = same.0;
      slot = same.1;
      sent_is = same.2;
      hashes = nobody.0 ∙ nobody_yet p.n;
      good = λ k. nobody.1 k ∙ and_false (nat_lt k p.n);
      live = same.3;
    }
