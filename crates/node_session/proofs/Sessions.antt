-- What is true of a session.
use Rattle.std.proofs.Common.{◌≡◌, ℕ, ◌<◌, ◌≤◌, ◌^◌, ◌==◌, Bool, true, false, List, [], ◌∷◌, ◌++◌, length, reverse, refl, sym, ◌∙◌, ap, subst, arith, map, lit≤}
use Rattle.std.specs.List.{All, AllByRecursion}
use Rattle.std.proofs.lemmas.List.{append-nil, reverse-append}
use Rattle.ritas_base.specs.declared.event.Event.{Event}
use Rattle.ritas_base.specs.declared.event.Event.TheVariants as events
use Rattle.ritas_base.specs.Members.{has_member}
use Rattle.ritas_base.specs.Numbers.{Numbers}
use Rattle.std.specs.Int.{bit_at}
use Rattle.std.proofs.lemmas.Nat.Bits.{bit_at-pow_other}
use Rattle.std.proofs.lemmas.Bool.{eqb-true, eq-eqb, both_ways}
use Rattle.layer_api.specs.Broadcast.{BroadcastRules}
use Rattle.layer_api.specs.Service.{ServiceRules}
use Rattle.command_log.specs.Rows.{Start, AreOnce, alone}
use Rattle.ritas_core.specs.Rules.{HasForm}
use Rattle.outside.specs.declared.link.LinkItem.{LinkItem}
use Rattle.schedule_file.specs.ReadHeader.{heading}
use Rattle.schedule_file.specs.Spelling.{IsHeading, IsEvent, IsSized, MayStand, AreHeaderKeys}
use Rattle.schedule_file.specs.declared.header.Header.{Header}
use Rattle.ritas_base.specs.declared.mode.FrameVersion.{FrameVersion}
use Rattle.schedule_file.specs.declared.header.HeaderKeys.{HeaderKeys}
use Rattle.schedule_file.specs.declared.header.HeaderKeys.TheVariants.{Master, Row}
use Rattle.schedule_replay.specs.Layers.{setting_by, keys_with}
use Rattle.schedule_replay.proofs.Deals.{member_within}
use Rattle.replica.specs.CommandRows.{most_base}
use Rattle.replica.specs.declared.replica.Replica.{Replica}
use Rattle.keyed_channel.specs.KeyRow.{KeyRow}
use Rattle.ritas_core.specs.Stands.{Meaning}
use Rattle.world_model.specs.World.{Setting}
use Rattle.world_model.specs.MadeOrder.{all_made}
use Rattle.world_model.specs.EveryWorld.{IsWorld, AgreementLaw}
use Rattle.world_model.specs.RowsFit.{AreOfCommands}
use Rattle.node_loop.specs.declared.limits.Limits.{Limits}
use Rattle.node_loop.specs.declared.end.ServeEnd.{ServeEnd}
use Rattle.node_loop.specs.Deeds.{Deed, firsts_in}
use Rattle.node_loop.specs.Laws.{sent_as, ActsAreDeeds, DeedsAreBehind, FramesAreMade, AllSent, AreOpen, ResendsAreOpen, AcksAreEarned, RepliesAreTrue, EventsFit, IsServed}
use Rattle.node_loop.specs.Outs.{Outs, Tells}
use Rattle.node_loop.specs.PieceLaws.{HasSoundBase, PiecesAreOfLogs}
use Rattle.node_loop.specs.Queries.{QueriesFit}
use Rattle.node_loop.specs.Served.{MayBegin, Serves}
use Rattle.node_loop.specs.Serving.{Serving, begin, so_far, Round, wants}
use Rattle.node_loop.specs.Told.{AreGroups, after_groups, before_newest, told_from, newest_calls, sooner, deeds_from}
use Rattle.node_session.specs.declared.session.Session.{Session}
use Rattle.node_session.specs.Session.{IsTrueSession, ServesSession}
use Rattle.node_session.specs.Opening.{HasBegun, HasFailed, Closes, is_reason}
use Rattle.node_session.proofs.Composing.{not_begun}
use Rattle.node_session.proofs.Ending.{same_failed, ended, tape_on, link_on, end_on}

-- ---- the world of a header

own_row : (keys : HeaderKeys) (version : FrameVersion) (session n i : ℕ) → ((keys_with keys version session n i).me ≡ i) × ((keys_with keys version session n i).n ≡ n)
own_row (Master master) version session n i = (refl, refl)
own_row (Row me row coin) version session n i = (refl, refl)

pub is_world : (service : ServiceRules) (other : BroadcastRules) (h : Header) → IsHeading (heading h) → service.serves h.mode.root ≡ true → HasForm h.mode other
    → IsWorld service other (setting_by service other h)
is_world service other h is serves form = record {
  session = is.numbers;
  within = member_within h is;
  words = refl;
  casts = λ s. refl;
  serves = serves;
  form = form;
  own = λ i below. own_row h.keys h.mode.version h.session h.p.n i;
}

-- in a session by itself the logs begin with no rows
pub sound_base : (w : Setting) → w.start ≡ alone → HasSoundBase w
sound_base w is = record {
  once = subst (λ (s : Start). AreOnce s.base) (sym is) tt;
  rows = subst (λ (s : Start). AreOfCommands w.numbers.n s.base) (sym is) (λ r none. absurd none);
  room = subst (λ (s : Start). length s.base ≤ most_base) (sym is) (lit≤ tt);
}

-- ---- the events

alone_member : (me i : ℕ) → has_member (2 ^ me) i ≡ true → i ≡ me
unfolding has_member
alone_member me i member = go (i == me) refl
  where
    go : (b : Bool) → (i == me) ≡ b → i ≡ me
    go true same = eqb-true i me same
    go false other =
        let apart : i ≡ me → ⊥ = λ e. both_ways (i == me) other (eq-eqb i me e) in
        absurd (omega (arith, eqb-true (bit_at (2 ^ me) i) 1 member, bit_at-pow_other me i apart))

at_me : (me mask i : ℕ) → mask ≡ 2 ^ me → has_member mask i ≡ true → i ≡ me
at_me me mask i is member = alone_member me i (subst (λ (m : ℕ). has_member m i ≡ true) is member)

-- an event of a correct replica may stand behind the header
stands : (n mask : ℕ) (keys : HeaderKeys) (w : Setting) → AreHeaderKeys n mask keys → ((i : ℕ) → w.is_correct i ≡ true → i < n) → ((i : ℕ) → w.is_correct i ≡ true → has_member mask i ≡ true)
    → (e : Event) → IsServed w e → MayStand keys n e
stands n mask (Master master) w are within correct (events.Frame to bytes) fits = within to fits.0
stands n mask (Master master) w are within correct (events.Input at bytes) fits = within at fits.0
stands n mask (Master master) w are within correct (events.Turn at) fits = within at fits
stands n mask (Row me row coin) w are within correct (events.Frame to bytes) fits = (within to fits.0, at_me me mask to are.1 (correct to fits.0))
stands n mask (Row me row coin) w are within correct (events.Input at bytes) fits = (within at fits.0, at_me me mask at are.1 (correct at fits.0))
stands n mask (Row me row coin) w are within correct (events.Turn at) fits = (within at fits, at_me me mask at are.1 (correct at fits))
stands n mask keys w are within correct (events.Pass from to m) none = absurd none
stands n mask keys w are within correct (events.Sealed from to body) none = absurd none

sized : (w : Setting) (e : Event) → IsServed w e → IsSized e
sized w (events.Frame to bytes) fits = fits.1
sized w (events.Input at bytes) fits = fits.1
sized w (events.Turn at) fits = tt
sized w (events.Pass from to m) none = absurd none
sized w (events.Sealed from to body) none = absurd none

all_stand : (h : Header) (w : Setting) → IsHeading (heading h) → ((i : ℕ) → w.is_correct i ≡ true → i < h.p.n) → ((i : ℕ) → w.is_correct i ≡ true → has_member h.correct i ≡ true)
    → (es : List Event) → AllByRecursion (IsServed w) es → AllByRecursion (IsEvent (heading h)) es
all_stand h w is within correct [] all = tt
all_stand h w is within correct (e ∷ es) all =
    ((stands h.p.n h.correct h.keys w is.keys within correct e all.0, sized w e all.0), all_stand h w is within correct es all.1)

push_all : {X : Type 0} (P : X → Type 0) (xs : List X) (x : X) → AllByRecursion P xs → P x → AllByRecursion P (xs ++ x ∷ [])
push_all P [] x all one = (one, tt)
push_all P (y ∷ xs) x all one = (all.0, push_all P xs x all.1 one)

append_all : {X : Type 0} (P : X → Type 0) (xs ys : List X) → AllByRecursion P xs → AllByRecursion P ys → AllByRecursion P (xs ++ ys)
append_all P [] ys first second = second
append_all P (x ∷ xs) ys first second = (first.0, append_all P xs ys first.1 second)

pub all_back : {X : Type 0} (P : X → Type 0) (xs : List X) → AllByRecursion P xs → AllByRecursion P (reverse xs)
all_back P [] all = tt
all_back {X = X} P (x ∷ xs) all =
    subst (λ (l : List X). AllByRecursion P l) (sym (reverse-append (x ∷ []) xs)) (push_all P (reverse xs) x (all_back P xs all.1) all.0)

-- ---- what is true

module _ (h : Header) (w : Setting) (is : IsHeading (heading h)) (service : ServiceRules) (other : BroadcastRules) (kind : IsWorld service other w)
    (base : HasSoundBase w) (numbers : w.numbers ≡ h.p) (correct : (i : ℕ) → w.is_correct i ≡ true → has_member h.correct i ≡ true)
    (done : ActsAreDeeds) (behind : DeedsAreBehind) (made : FramesAreMade) (kept : ResendsAreOpen) (earned : AcksAreEarned) (fit : EventsFit) (replied : RepliesAreTrue service other) (pieces : PiecesAreOfLogs service other) (agreed : AgreementLaw service other) where
  -- of serving that began after the past events, whose frames went out earlier
  pub is_true : (past : List Event) (limits : Limits) (start : Serving) (earlier : List Deed) (groups : List (List Round)) → start.events ≡ []
      → All MayBegin start.left → all_made w past ≡ reverse (firsts_in earlier) → AllSent w start.peers earlier → AreOpen w earlier
      → AllByRecursion (IsServed w) past → AreGroups w past limits start groups → QueriesFit w past start groups
      → IsTrueSession h w (so_far past (after_groups w past start groups)) earlier (deeds_from w past start [] groups) (told_from w past start groups)
  is_true past limits start earlier groups no_events firsts first_made sent again served are queries =
      let s = after_groups w past start groups in
      let deeds = deeds_from w past start [] groups in
      let all_deeds : deeds_from w past start earlier groups ≡ deeds ++ earlier = behind w past start earlier groups in
      let within : (i : ℕ) → w.is_correct i ≡ true → i < h.p.n = λ i right. subst (λ (p : Numbers). i < p.n) numbers (kind.within i right) in
      let fits : AllByRecursion (IsServed w) s.events =
      fit w past limits start groups firsts (subst (λ (es : List Event). AllByRecursion (IsServed w) es) (sym no_events) tt) are in
      let all : AllByRecursion (IsServed w) (so_far past s) = append_all (IsServed w) s.events past fits served in
      let frames : all_made w (so_far past start) ≡ [] ++ reverse (firsts_in earlier) = ap (λ (es : List Event). all_made w (es ++ past)) no_events ∙ first_made in
      record {
        file = λ size. record {
          text = refl;
          header = is;
          each = all_back (IsEvent (heading h)) (so_far past s) (all_stand h w is within correct (so_far past s) all);
          size = size;
        };
        calls = done w past start groups;
        frames = ap (map sent_as) (made w past start [] earlier groups frames ∙ ap (λ (ds : List Deed). reverse (firsts_in ds)) all_deeds);
        resends = subst (AreOpen w) all_deeds (kept w past limits start earlier groups are sent again);
        acknowledged = earned w past start [] groups tt;
        replies = replied w past start groups kind base.once;
        pieces = pieces w past start groups kind base queries;
        agree = λ holds. agreed w (so_far past s) kind holds;
      }

  pub is_session : (limits : Limits) (first : List LinkItem) (groups : List (List Round)) → All MayBegin first → AreGroups w [] limits (begin first) groups
      → QueriesFit w [] (begin first) groups
      → IsTrueSession h w (after_groups w [] (begin first) groups).events [] (deeds_from w [] (begin first) [] groups) (told_from w [] (begin first) groups)
  unfolding all_made
  is_session limits first groups firsts are queries =
      subst (λ (es : List Event). IsTrueSession h w es [] (deeds_from w [] (begin first) [] groups) (told_from w [] (begin first) groups))
      (append-nil (after_groups w [] (begin first) groups).events)
      (is_true [] limits (begin first) [] groups refl firsts refl (record { each = λ i j. tt }) tt tt are queries)

-- ---- the session as a whole

module _ (x : Session) (first : List LinkItem) (w : Setting) (tells : Tells)
    (session : (groups : List (List Round)) → AreGroups w [] x.limits (begin first) groups → QueriesFit w [] (begin first) groups
    → IsTrueSession x.header w (after_groups w [] (begin first) groups).events [] (deeds_from w [] (begin first) [] groups) (told_from w [] (begin first) groups)) where
  -- it ended before it was served
  pub fails : (base now : Outs) (end : ServeEnd) → HasFailed (heading x.header) x.plan tells base now end → ServesSession x first w tells base now end
  fails base now end failed = record {
    groups = [];
    are = tt;
    so = not_begun x.header x.plan tells base now [] (begin first) [] [] (wants w [] x.limits (begin first)) end failed;
    true_of = session [] tt tt;
    tape_later = failed.tape_later;
    link_later = failed.link_later;
  }

  module _ {S E C : Type 0} (m : Meaning S E C KeyRow) (numbers : List ℕ) (here : List (Replica S E C)) (base mid now last : Outs) (begun : HasBegun (heading x.header) x.plan tells base mid) where
    pub serves : (end result : ServeEnd) → Serves m w [] numbers here tells mid now end x.limits first → last.told ≡ now.told → last.link_faults ≡ now.link_faults
        → (is_reason end ≡ true → Closes tells.tape now.taken last.taken now.tape_faults last.tape_faults end result)
        → (is_reason end ≡ false → (result ≡ end) × (last ≡ now)) → ServesSession x first w tells base last result
    serves end result run same same_count closed kept =
        let earlier = (before_newest w [] (begin first) run.groups).events in
        let s = after_groups w [] (begin first) run.groups in
        let old = sooner w [] (begin first) run.groups in
        let new = newest_calls w [] (begin first) run.groups in
        let rule = wants w [] x.limits s in
        record {
          groups = run.groups;
          are = run.are;
          so = ended x w tells m numbers here base mid now last begun earlier s old new rule end result run.so same same_count closed kept;
          true_of = session run.groups run.are run.queries;
          tape_later = omega (arith, begun.tape_stands, tape_on x w tells m numbers here base mid now last begun earlier s old new rule end run.so, end_on x w tells m numbers here base mid now last begun end result (is_reason end) refl closed kept);
          link_later = omega (arith, same_failed begun.link_stands, link_on x w tells m numbers here base mid now last begun earlier s old new rule end run.so, same_failed same_count);
        }
