-- What a link in memory keeps, with one call more.
use Rattle.std.proofs.Common.{◌≡◌, ℕ, ◌<◌, ◌^◌, List, [], ◌∷◌, ◌++◌, length, reverse, drop, Contains, All, refl, ap, inl, inr, arith}
use Rattle.std.proofs.lemmas.List.{reverse-append}
use Rattle.std.proofs.lemmas.List.Elements.{All-head, Contains-append_cases, Contains-push_cases}
use Rattle.outside.specs.declared.link.LinkItem.{LinkItem}
use Rattle.outside.specs.declared.link.LinkItem.TheVariants as item
use Rattle.outside.specs.declared.link.LinkPlan.{LinkPlan}
use Rattle.outside.specs.declared.link.Sent.{Sent}
use Rattle.outside.specs.declared.course.Did.{Did}
use Rattle.outside.specs.declared.course.Did.TheVariants.{Start, Next, Now, Send, Reply}
use Rattle.outside.specs.Links.{LinkAct, Starts, Gives, GivesNow, Sends, Replies, bytes_of}
use Rattle.outside.specs.MemoryLink.{IsShort, first_of, rest_of}
use Rattle.outside.specs.Courses.{CourseState, told_of, Fits}

snoc : {A : Type 0} (xs : List A) (x : A) → reverse (xs ++ x ∷ []) ≡ x ∷ reverse xs
snoc xs x = reverse-append xs (x ∷ [])

-- ---- what is told

pub told_start : (items : List LinkItem) (dids dids2 : List Did) (plans plans2 : List LinkPlan) (frames replies : List Sent) (plan : LinkPlan) → dids2 ≡ dids ++ Start ∷ [] → plans2 ≡ plans ++ plan ∷ [] → told_of items dids2 plans2 frames replies ≡ Starts plan ∷ told_of items dids plans frames replies
unfolding told_of
told_start items dids dids2 plans plans2 frames replies plan did put = rw (did, put, snoc dids Start, snoc plans plan) refl

pub told_next : (items : List LinkItem) (at : ℕ) (dids dids2 : List Did) (plans : List LinkPlan) (frames replies : List Sent) → dids2 ≡ dids ++ Next at ∷ [] → told_of items dids2 plans frames replies ≡ Gives (first_of (drop at items)) ∷ told_of items dids plans frames replies
unfolding told_of
told_next items at dids dids2 plans frames replies did = rw (did, snoc dids (Next at)) refl

pub told_now : (items : List LinkItem) (at : ℕ) (dids dids2 : List Did) (plans : List LinkPlan) (frames replies : List Sent) → dids2 ≡ dids ++ Now at ∷ [] → told_of items dids2 plans frames replies ≡ GivesNow (first_of (drop at items)) ∷ told_of items dids plans frames replies
unfolding told_of
told_now items at dids dids2 plans frames replies did = rw (did, snoc dids (Now at)) refl

pub told_send : (items : List LinkItem) (dids dids2 : List Did) (plans : List LinkPlan) (frames frames2 replies : List Sent) (sent : Sent) → dids2 ≡ dids ++ Send ∷ [] → frames2 ≡ frames ++ sent ∷ [] → told_of items dids2 plans frames2 replies ≡ Sends sent ∷ told_of items dids plans frames replies
unfolding told_of
told_send items dids dids2 plans frames frames2 replies sent did put = rw (did, put, snoc dids Send, snoc frames sent) refl

pub told_reply : (items : List LinkItem) (dids dids2 : List Did) (plans : List LinkPlan) (frames replies replies2 : List Sent) (sent : Sent) → dids2 ≡ dids ++ Reply ∷ [] → replies2 ≡ replies ++ sent ∷ [] → told_of items dids2 plans frames replies2 ≡ Replies sent ∷ told_of items dids plans frames replies
unfolding told_of
told_reply items dids dids2 plans frames replies replies2 sent did put = rw (did, put, snoc dids Reply, snoc replies sent) refl

pub state_more : (f : List LinkItem → List LinkItem) (left left2 : List LinkItem) (told told2 : List LinkAct) (act : LinkAct) (s : CourseState) → left2 ≡ f left → told2 ≡ act ∷ told → ◌≡◌ {A = CourseState} (record { left = left; told = told }) s → ◌≡◌ {A = CourseState} (record { left = left2; told = told2 }) (record { left = f s.left; told = act ∷ s.told })
state_more f left left2 told told2 act s moved more is = rw (moved, more) (ap (λ (t : CourseState). record { left = f t.left; told = act ∷ t.told }) is)

-- ---- what is shown

pub fits_start : (items : List LinkItem) (at : ℕ) (dids dids2 : List Did) (plans plans2 : List LinkPlan) (frames replies : List Sent) (plan : LinkPlan) → dids2 ≡ dids ++ Start ∷ [] → plans2 ≡ plans ++ plan ∷ [] → Fits items at dids plans frames replies → Fits items at dids2 plans2 frames replies
fits_start items at dids dids2 plans plans2 frames replies plan did put f =
    let more = told_start items dids dids2 plans plans2 frames replies plan did put in
    record {
      short = f.short;
      ended = rw more f.ended;
      plans_told = rw (more, put, snoc plans plan) (ap (λ (x : List LinkPlan). plan ∷ x) f.plans_told);
      frames_told = rw more f.frames_told;
      replies_told = rw more f.replies_told;
    }

pub fits_send : (items : List LinkItem) (at : ℕ) (dids dids2 : List Did) (plans : List LinkPlan) (frames frames2 replies : List Sent) (sent : Sent) → dids2 ≡ dids ++ Send ∷ [] → frames2 ≡ frames ++ sent ∷ [] → Fits items at dids plans frames replies → Fits items at dids2 plans frames2 replies
fits_send items at dids dids2 plans frames frames2 replies sent did put f =
    let more = told_send items dids dids2 plans frames frames2 replies sent did put in
    record {
      short = f.short;
      ended = rw more f.ended;
      plans_told = rw more f.plans_told;
      frames_told = rw (more, put, snoc frames sent) (ap (λ (x : List Sent). sent ∷ x) f.frames_told);
      replies_told = rw more f.replies_told;
    }

pub fits_reply : (items : List LinkItem) (at : ℕ) (dids dids2 : List Did) (plans : List LinkPlan) (frames replies replies2 : List Sent) (sent : Sent) → dids2 ≡ dids ++ Reply ∷ [] → replies2 ≡ replies ++ sent ∷ [] → Fits items at dids plans frames replies → Fits items at dids2 plans frames replies2
fits_reply items at dids dids2 plans frames replies replies2 sent did put f =
    let more = told_reply items dids dids2 plans frames replies replies2 sent did put in
    record {
      short = f.short;
      ended = rw more f.ended;
      plans_told = rw more f.plans_told;
      frames_told = rw more f.frames_told;
      replies_told = rw (more, put, snoc replies sent) (ap (λ (x : List Sent). sent ∷ x) f.replies_told);
    }

-- ---- the next item

pub first_short : (left : List LinkItem) → All IsShort left → length (bytes_of (first_of left)) < 2 ^ 16
first_short [] all = omega arith
first_short (x ∷ left) all = All-head IsShort x left all

is_first : (x y : LinkItem) (P : Type 0) → (x ≡ y → P) → Contains (x ∷ []) y → P
is_first x y P first one = elim (Contains-push_cases [] x y one) [ inl none ↦ absurd (omega (arith, none.1)) | inr e ↦ first e ]

contains_cons : (x y : LinkItem) (given : List LinkItem) (P : Type 0) → (x ≡ y → P) → (Contains given y → P) → Contains (x ∷ given) y → P
contains_cons x y given P first later has = elim (Contains-append_cases (x ∷ []) given y has) [ inl one ↦ is_first x y P first one | inr more ↦ later more ]

pub ended_more : (left given : List LinkItem) → (Contains given item.End → first_of left ≡ item.End) → Contains (first_of left ∷ given) item.End → first_of (rest_of left) ≡ item.End
ended_more [] given ended has = refl
ended_more (item.End ∷ left) given ended has = refl
ended_more (item.Frame to bytes ∷ left) given ended has = contains_cons _ _ given _ (λ e. absurd cc) (λ h. absurd cc (ended h)) has
ended_more (item.Client at conn bytes ∷ left) given ended has = contains_cons _ _ given _ (λ e. absurd cc) (λ h. absurd cc (ended h)) has
ended_more (item.Reply from bytes ∷ left) given ended has = contains_cons _ _ given _ (λ e. absurd cc) (λ h. absurd cc (ended h)) has
ended_more (item.Up at peer ∷ left) given ended has = contains_cons _ _ given _ (λ e. absurd cc) (λ h. absurd cc (ended h)) has
ended_more (item.Down at peer ∷ left) given ended has = contains_cons _ _ given _ (λ e. absurd cc) (λ h. absurd cc (ended h)) has
ended_more (item.Left at conn ∷ left) given ended has = contains_cons _ _ given _ (λ e. absurd cc) (λ h. absurd cc (ended h)) has

pub fits_next : (items : List LinkItem) (at at2 : ℕ) (dids dids2 : List Did) (plans : List LinkPlan) (frames replies : List Sent) → dids2 ≡ dids ++ Next at ∷ [] → drop at2 items ≡ rest_of (drop at items) → Fits items at dids plans frames replies → Fits items at2 dids2 plans frames replies
fits_next items at at2 dids dids2 plans frames replies did moved f =
    let more = told_next items at dids dids2 plans frames replies did in
    record {
      short = f.short;
      ended = rw (more, moved) (ended_more (drop at items) _ f.ended);
      plans_told = rw more f.plans_told;
      frames_told = rw more f.frames_told;
      replies_told = rw more f.replies_told;
    }

-- ---- the next item, by a call that never waits

pub fits_now : (items : List LinkItem) (at at2 : ℕ) (dids dids2 : List Did) (plans : List LinkPlan) (frames replies : List Sent) → dids2 ≡ dids ++ Now at ∷ [] → drop at2 items ≡ rest_of (drop at items) → Fits items at dids plans frames replies → Fits items at2 dids2 plans frames replies
fits_now items at at2 dids dids2 plans frames replies did moved f =
    let more = told_now items at dids dids2 plans frames replies did in
    record {
      short = f.short;
      ended = rw (more, moved) (ended_more (drop at items) _ f.ended);
      plans_told = rw more f.plans_told;
      frames_told = rw more f.frames_told;
      replies_told = rw more f.replies_told;
    }
