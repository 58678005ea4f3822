-- What is kept after each call, and what a replica's tagger says.
use Rattle.std.specs.Prelude.{◌≡◌, ℕ, ◌<◌, ◌≤◌, Bool, true, false, not, ◌&&◌, ◌||◌, List, [], ◌∷◌, Option, Some, None, is_some, nat_lt, slice_set, refl}
use Rattle.std.proofs.Common.{sym, ◌∙◌, ap, subst, inl, inr, arith}
use Rattle.std.proofs.lemmas.Bool.{lt-ltb, le-ltb, cases_lt}
use Rattle.ritas_base.specs.declared.item.Kind.{Kind}
use Rattle.ritas_base.specs.declared.item.Kind.TheVariants.{Send, Hashes, Column}
use Rattle.ritas_base.specs.declared.item.To.TheVariants.{One}
use Rattle.ritas_base.specs.declared.item.Item.{Item}
use Rattle.ritas_base.specs.declared.item.Msg.{Msg}
use Rattle.ritas_base.specs.declared.slot.Slot.{Slot}
use Rattle.ritas_base.specs.Numbers.{Numbers}
use Rattle.ritas_base.specs.Members.{has_member}
use Rattle.ritas_base.specs.Shortest.{option_or_none}
use Rattle.ritas_base.specs.History.{Call, Start, Take, first, is_value}
use Rattle.ritas_base.specs.HistoryLaws.{told_not_this, firsts_same, firsts_vote}
use Rattle.ritas_base.specs.Messages.{Place, kind_eq}
use Rattle.ritas_base.specs.Tags.{Tags}
use Rattle.layer_api.specs.Broadcast.{Tagging, IsTagger}
use Rattle.layer_api.specs.Entries.{sent, entry_of, entries_of, is_claim, is_valid_for}
use Rattle.frame_codec.specs.Values.{column_row}
use Rattle.echo_bcast.specs.declared.eb.Eb.{Eb}
use Rattle.echo_bcast.specs.declared.eb.Sent.{Sent}
use Rattle.echo_bcast.specs.Matrix.{hashes_bytes, hashes_for, is_good, has_news}
use Rattle.echo_bcast.specs.State.{KeepsMatrix, sent_kept_as, tagged, hashes_message, has_valid_entry, adds_to, JoinsSet, is_news, JoinsGood}
use Rattle.echo_bcast.proofs.ListMembers.{any_replica_same, map_replicas_same}
use Rattle.echo_bcast.proofs.News.{sent_kept, sent_now}

-- ---- what is kept of a call that brings no column

-- an item that isn't a column makes no echoer good
pub good_kept : (at : Place) (tags : Tags) (h : List Call) (x : Item) (k : ℕ) → kind_eq x.kind Column ≡ false → is_good at tags (Take x ∷ h) k ≡ is_good at tags h k
good_kept at tags h x k other = ap (λ (b : Bool). (b && is_valid_for at tags (sent at h) x.value k) || is_good at tags h k) other

pub none_as : (tags : Tags) (o : Option (List ℕ)) → sent_kept_as tags o ≡ None → o ≡ None
none_as tags None e = refl
none_as tags (Some m) e = absurd (cc)

pub kept_start : (b : Eb) (at : Place) (tags : Tags) (h : List Call) (v : List ℕ) → KeepsMatrix b at tags h → KeepsMatrix b at tags (Start v ∷ h)
kept_start b at tags h v keeps =
    record {
      session = keeps.session;
      me_below = keeps.me_below;
      params = keeps.params;
      slot = keeps.slot;
      sent_is = keeps.sent_is ∙ ap (sent_kept_as tags) (sym (option_or_none (sent at h)));
      hashes = keeps.hashes ∙ sym (firsts_same at.numbers.n h Hashes (Start v) (λ j. refl));
      good = keeps.good;
      live = keeps.live;
    }

pub kept_send : (b : Eb) (at : Place) (tags : Tags) (h : List Call) (x : Item) (d : List ℕ) → KeepsMatrix b at tags h → x.kind ≡ Send → x.from ≡ at.slot.origin → sent at h ≡ None
    → d ≡ tags.digest x.value → KeepsMatrix (record b { sent = Some (record { value = x.value; digest = d }) }) at tags (Take x ∷ h)
kept_send b at tags h x d keeps kind mine new same =
    record {
      session = keeps.session;
      me_below = keeps.me_below;
      params = keeps.params;
      slot = keeps.slot;
      sent_is = ap (λ (e : List ℕ). Some (record { value = x.value; digest = e })) same ∙ ap (sent_kept_as tags) (sym (sent_now at x h kind mine new));
      hashes = keeps.hashes ∙ sym (firsts_same at.numbers.n h Hashes (Take x) (λ j. told_not_this j Hashes x (ap (λ (k : Kind). kind_eq k Hashes) kind)));
      good = λ k. keeps.good k ∙ ap (λ (g : Bool). nat_lt k at.numbers.n && g) (sym (good_kept at tags h x k (ap (λ (q : Kind). kind_eq q Column) kind)));
      live = keeps.live;
    }

pub kept_hashes : (b c : Eb) (at : Place) (tags : Tags) (h : List Call) (x : Item) → KeepsMatrix b at tags h → x.kind ≡ Hashes → x.from < at.numbers.n → first h x.from Hashes ≡ None
    → c ≡ record b { hashes = c.hashes } → c.hashes ≡ slice_set b.hashes x.from (Some x.value) → KeepsMatrix c at tags (Take x ∷ h)
kept_hashes b c at tags h x keeps kind within new same set_now =
    record {
      session = keeps.session;
      me_below = keeps.me_below;
      params = ap (λ (y : Eb). y.params) same ∙ keeps.params;
      slot = ap (λ (y : Eb). y.slot) same ∙ keeps.slot;
      sent_is = ap (λ (y : Eb). y.sent) same ∙ keeps.sent_is ∙ ap (sent_kept_as tags) (sym (sent_kept at x h (ap (λ (k : Kind). kind_eq k Send) kind)));
      hashes =
          set_now ∙ ap (λ (l : List (Option (List ℕ))). slice_set l x.from (Some x.value)) keeps.hashes
          ∙ sym (firsts_vote at.numbers.n h Hashes x (ap (λ (k : Kind). kind_eq k Hashes) kind) new within);
      good = λ k.
          ap (λ (y : Eb). has_member y.good k) same ∙ keeps.good k
          ∙ ap (λ (g : Bool). nat_lt k at.numbers.n && g) (sym (good_kept at tags h x k (ap (λ (q : Kind). kind_eq q Column) kind)));
      live = ap (λ (y : Eb). y.live) same ∙ keeps.live;
    }

-- ---- what a tagger says

-- the entries of the replica's tagger are its own
entry_mine : (at : Place) (tags : Tags) (t : Tagging) (k : ℕ) (d : List ℕ) → IsTagger at tags t → at.me < 31 → k < 31
    → t.tags.entry at.slot t.me k d ≡ tags.entry at.slot at.me k d
entry_mine at tags t k d tagger me_fits fits =
    ap (λ (m : ℕ). t.tags.entry at.slot m k d) tagger.own ∙ sym (tagger.alike.entry at.slot at.me k d (inl refl) me_fits fits)

entry_for_me : (at : Place) (tags : Tags) (t : Tagging) (k : ℕ) (d : List ℕ) → IsTagger at tags t → at.me < 31 → k < 31
    → t.tags.entry at.slot k t.me d ≡ tags.entry at.slot k at.me d
entry_for_me at tags t k d tagger me_fits fits =
    ap (λ (m : ℕ). t.tags.entry at.slot k m d) tagger.own ∙ sym (tagger.alike.entry at.slot k at.me d (inr refl) fits me_fits)

tagged_is : (at : Place) (tags : Tags) (t : Tagging) (m : List ℕ) → IsTagger at tags t → at.me < 31 → at.numbers.n ≤ 31
    → tagged t at.slot at.numbers.n (t.tags.digest m) ≡ entries_of at tags m
tagged_is at tags t m tagger me_fits most =
    ap (tagged t at.slot at.numbers.n) (sym (tagger.alike.digest m))
    ∙ map_replicas_same (λ k. t.tags.entry at.slot t.me k (tags.digest m)) (λ k. entry_of at tags at.me k m) at.numbers.n
    (λ k lt. entry_mine at tags t k (tags.digest m) tagger me_fits (omega (arith, lt, most)))

pub message_is : (b : Eb) (at : Place) (tags : Tags) (h : List Call) (t : Tagging) (m : List ℕ) → KeepsMatrix b at tags h → IsTagger at tags t
    → hashes_message t b m ∷ [] ≡ hashes_for at tags (Some m)
message_is b at tags h t m keeps tagger =
    let session = keeps.session in
    let me_fits : at.me < 31 = (let below = keeps.me_below in let most = session.most in omega (arith, below, most)) in
    ap (λ (s : Slot). message s b.params.n (tagged t s b.params.n (t.tags.digest m))) keeps.slot
    ∙ (ap (λ (p : Numbers). message at.slot p.n (tagged t at.slot p.n (t.tags.digest m))) keeps.params
    ∙ ap (message at.slot at.numbers.n) (tagged_is at tags t m tagger me_fits session.most))
  where
    message : Slot → ℕ → List (List ℕ) → List Msg
    message s n es = record { to = One s.origin; kind = Hashes; slot = s; value = hashes_bytes es } ∷ []

-- ---- a column

-- a tagger finds an entry valid where the item claims its echoer
tagged_claims : (at : Place) (tags : Tags) (h : List Call) (t : Tagging) (x : Item) (m : List ℕ) (k : ℕ) → IsTagger at tags t → at.me < 31 → at.numbers.n ≤ 31
    → x.kind ≡ Column → sent at h ≡ Some m → k < at.numbers.n → has_valid_entry t at.slot (tags.digest m) x.value k ≡ is_claim at tags h x k
tagged_claims at tags h t x m k tagger me_fits most kind was lt =
    ap (λ (e : List ℕ). is_value e (column_row x.value k)) (entry_for_me at tags t k (tags.digest m) tagger me_fits (omega (arith, lt, most)))
    ∙ sym (ap (λ (o : Option (List ℕ)). kind_eq x.kind Column && is_valid_for at tags o x.value k) was
    ∙ ap (λ (q : Kind). kind_eq q Column && is_valid_for at tags (Some m) x.value k) kind)

-- what the state has of a message that was sent
pub record IsSentAs (b : Eb) (at : Place) (tags : Tags) (h : List Call) : Type 0 where
  pub message : List ℕ
  pub was_sent : sent at h ≡ Some message
  pub kept : b.sent ≡ Some (record { value = message; digest = tags.digest message })

pub sent_as_kept : (b : Eb) (at : Place) (tags : Tags) (h : List Call) → KeepsMatrix b at tags h → is_some (sent at h) ≡ true → IsSentAs b at tags h
sent_as_kept b at tags h keeps there = go (sent at h) refl there
  where
    go : (o : Option (List ℕ)) → sent at h ≡ o → is_some o ≡ true → IsSentAs b at tags h
    go None e q = absurd (cc)
    go (Some m) e q = record { message = m; was_sent = e; kept = keeps.sent_is ∙ ap (sent_kept_as tags) e }

module _ (b : Eb) (at : Place) (tags : Tags) (h : List Call) (t : Tagging) (x : Item) (keeps : KeepsMatrix b at tags h) (tagger : IsTagger at tags t) (kind : x.kind ≡ Column) (has : IsSentAs b at tags h) where
  me_fits : at.me < 31
  me_fits = let below = keeps.me_below in let session = keeps.session in let most = session.most in omega (arith, below, most)

  -- as the state judges it
  claims : (k : ℕ) → k < at.numbers.n → has_valid_entry t b.slot (tags.digest has.message) x.value k ≡ is_claim at tags h x k
  claims k lt =
      let session = keeps.session in
      ap (λ (s : Slot). has_valid_entry t s (tags.digest has.message) x.value k) keeps.slot
      ∙ tagged_claims at tags h t x has.message k tagger me_fits session.most kind has.was_sent lt

  good_below : (k : ℕ) → k < at.numbers.n → has_member b.good k ≡ is_good at tags h k
  good_below k lt = keeps.good k ∙ ap (λ (y : Bool). y && is_good at tags h k) (lt-ltb k at.numbers.n lt)

  -- it is news to the state where it is by the calls
  pub news_is : is_news t b b.sent x.value ≡ has_news at tags h x
  news_is =
      ap (λ (o : Option Sent). is_news t b o x.value) has.kept
      ∙ (ap (λ (p : Numbers). adds_to t b.slot p.n (tags.digest has.message) x.value b.good) keeps.params
      ∙ any_replica_same (λ k. has_valid_entry t b.slot (tags.digest has.message) x.value k && not (has_member b.good k))
      (λ k. is_claim at tags h x k && not (is_good at tags h k)) at.numbers.n
      (λ k lt. ap (λ (y : Bool). y && not (has_member b.good k)) (claims k lt) ∙ ap (λ (y : Bool). is_claim at tags h x k && not y) (good_below k lt)))

  joins : (new : ℕ) → JoinsGood t b b.sent x.value new → JoinsSet t b.slot at.numbers.n (tags.digest has.message) x.value b.good new
  joins new j =
      subst (λ (p : Numbers). JoinsSet t b.slot p.n (tags.digest has.message) x.value b.good new) keeps.params (subst (λ (o : Option Sent). JoinsGood t b o x.value new) has.kept j)

  both : (g l c : Bool) → ((l && g) || (l && c)) ≡ (l && (c || g))
  both true true true = refl
  both true true false = refl
  both true false c = refl
  both false true true = refl
  both false true false = refl
  both false false c = refl

  -- what is good after it
  good_now : (new : ℕ) → JoinsGood t b b.sent x.value new → (k : ℕ) → has_member new k ≡ (nat_lt k at.numbers.n && is_good at tags (Take x ∷ h) k)
  good_now new j k =
      let n = at.numbers.n in
      joins new j k ∙ (ap (λ (y : Bool). y || (nat_lt k n && has_valid_entry t b.slot (tags.digest has.message) x.value k)) (keeps.good k)
      ∙ (elim (cases_lt k n) [
        | inl lt ↦ ap (λ (y : Bool). (nat_lt k n && is_good at tags h k) || (nat_lt k n && y)) (claims k lt) ∙ both (is_good at tags h k) (nat_lt k n) (is_claim at tags h x k)
        | inr ge ↦
            let none = le-ltb k n ge in
            ap (λ (y : Bool). (y && is_good at tags h k) || (y && has_valid_entry t b.slot (tags.digest has.message) x.value k)) none
            ∙ sym (ap (λ (y : Bool). y && is_good at tags (Take x ∷ h) k) none)
      ]))

  pub kept_column : (new : Eb) → new ≡ record b { good = new.good } → JoinsGood t b b.sent x.value new.good → KeepsMatrix new at tags (Take x ∷ h)
  kept_column new same j =
      record {
        session = keeps.session;
        me_below = keeps.me_below;
        params = ap (λ (y : Eb). y.params) same ∙ keeps.params;
        slot = ap (λ (y : Eb). y.slot) same ∙ keeps.slot;
        sent_is = ap (λ (y : Eb). y.sent) same ∙ keeps.sent_is ∙ ap (sent_kept_as tags) (sym (sent_kept at x h (ap (λ (k : Kind). kind_eq k Send) kind)));
        hashes =
            ap (λ (y : Eb). y.hashes) same ∙ keeps.hashes
            ∙ sym (firsts_same at.numbers.n h Hashes (Take x) (λ k. told_not_this k Hashes x (ap (λ (q : Kind). kind_eq q Hashes) kind)));
        good = good_now new.good j;
        live = ap (λ (y : Eb). y.live) same ∙ keeps.live;
      }
