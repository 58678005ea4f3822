-- The deeds of rounds, as if each were delivered by itself; and what holds of these and of the deeds of a group alike.
use Rattle.std.proofs.Common.{Bool, true, false, List, [], ◌∷◌, ◌++◌, map}
use Rattle.std.specs.List.{AllByRecursion}
use Rattle.ritas_base.specs.declared.event.Event.{Event}
use Rattle.outside.specs.declared.link.LinkItem.{LinkItem}
use Rattle.outside.specs.declared.link.Sent.{Sent}
use Rattle.world_model.specs.World.{Setting}
use Rattle.world_model.specs.MadeOrder.{MadeFrame}
use Rattle.node_loop.specs.Deeds.{Deed, Came, Made, Replied, pushed}
use Rattle.node_loop.specs.Serving.{Serving, so_far, frames_made_by, Round, Began, Turned, Closed, Reminded, Took, outcome, brought, after_from}
use Rattle.node_loop.specs.Told.{came_in, with_deeds, newest_deeds}

-- the item that the link gave for a round, if it is one
abbrev pub came : Round → List Deed → List Deed
came (Began item) ds = ds
came (Turned i) ds = ds
came (Closed i epoch) ds = ds
came (Reminded i j) ds = ds
came (Took item) ds = Came false item ∷ ds

-- with what a round adds behind its item
abbrev pub round_deeds : Setting → List Event → Round → Serving → List Deed → List Deed
round_deeds w past x s ds = with_deeds (frames_made_by w (so_far past s) (outcome w past x s).event) (brought w past x s).deeds (outcome w past x s).replies ds

-- each round's item goes in front of what goes out of it
abbrev pub in_order : Setting → List Event → Serving → List Deed → List Round → List Deed
in_order w past start ds [] = ds
in_order w past start ds (x ∷ xs) = round_deeds w past x (after_from w past start xs) (came x (in_order w past start ds xs))

-- ---- items that come sooner

-- A relation that stays where one deed more goes in front of both lists, whichever call gave an item, and where an item comes before a deed of
-- this kind in place of behind it.
pub record StaysWhere (Kind : Deed → Type 0) (R : List Deed → List Deed → Type 0) : Type 0 where
  pub itself : (ds : List Deed) → R ds ds
  pub through : (a b c : List Deed) → R a b → R b c → R a c
  pub behind : (d : Deed) (a b : List Deed) → R a b → R (d ∷ a) (d ∷ b)
  pub either_call : (now later : Bool) (item : LinkItem) (ds : List Deed) → R (Came now item ∷ ds) (Came later item ∷ ds)
  pub sooner : (now : Bool) (item : LinkItem) (d : Deed) (ds : List Deed) → Kind d → R (Came now item ∷ d ∷ ds) (d ∷ Came now item ∷ ds)

-- what goes to peers of these rounds besides their frames is of a kind
abbrev pub AreOfKind : (Deed → Type 0) → Setting → List Event → Serving → List Round → Type 0
AreOfKind Kind w past start [] = Unit {0}
AreOfKind Kind w past start (x ∷ xs) = AllByRecursion Kind (brought w past x (after_from w past start xs)).deeds × AreOfKind Kind w past start xs

-- of all but the newest
abbrev pub AreOfKindBefore : (Deed → Type 0) → Setting → List Event → Serving → List Round → Type 0
AreOfKindBefore Kind w past start [] = Unit {0}
AreOfKindBefore Kind w past start (x ∷ xs) = AreOfKind Kind w past start xs

-- where all are, these are
of_kind_before : (Kind : Deed → Type 0) (w : Setting) (past : List Event) (start : Serving) (xs : List Round) → AreOfKind Kind w past start xs
    → AreOfKindBefore Kind w past start xs
of_kind_before Kind w past start [] all = tt
of_kind_before Kind w past start (x ∷ xs) all = all.1

-- where frames that go out for the first time and replies are of the kind
module _ (Kind : Deed → Type 0) (R : List Deed → List Deed → Type 0) (stays : StaysWhere Kind R) (made : (f : MadeFrame) → Kind (Made f)) (replied : (sent : Sent) → Kind (Replied sent)) where
  all_behind : (xs a b : List Deed) → R a b → R (pushed xs a) (pushed xs b)
  all_behind [] a b r = r
  all_behind (x ∷ xs) a b r = all_behind xs (x ∷ a) (x ∷ b) (stays.behind x a b r)

  all_sooner : (now : Bool) (item : LinkItem) (xs ds : List Deed) → AllByRecursion Kind xs → R (Came now item ∷ pushed xs ds) (pushed xs (Came now item ∷ ds))
  all_sooner now item [] ds all = stays.itself (Came now item ∷ ds)
  all_sooner now item (x ∷ xs) ds all =
      stays.through (Came now item ∷ pushed xs (x ∷ ds)) (pushed xs (Came now item ∷ x ∷ ds)) (pushed xs (x ∷ Came now item ∷ ds))
      (all_sooner now item xs (x ∷ ds) all.1) (all_behind xs (Came now item ∷ x ∷ ds) (x ∷ Came now item ∷ ds) (stays.sooner now item x ds all.0))

  all_made : (fs : List MadeFrame) → AllByRecursion Kind (map Made fs)
  all_made [] = tt
  all_made (f ∷ fs) = (made f, all_made fs)

  all_replied : (rs : List Sent) → AllByRecursion Kind (map Replied rs)
  all_replied [] = tt
  all_replied (r ∷ rs) = (replied r, all_replied rs)

  with_behind : (fs : List MadeFrame) (more : List Deed) (rs : List Sent) (a b : List Deed) → R a b → R (with_deeds fs more rs a) (with_deeds fs more rs b)
  with_behind fs more rs a b r =
      all_behind (map Replied rs) (pushed more (pushed (map Made fs) a)) (pushed more (pushed (map Made fs) b))
      (all_behind more (pushed (map Made fs) a) (pushed (map Made fs) b) (all_behind (map Made fs) a b r))

  with_sooner : (now : Bool) (item : LinkItem) (fs : List MadeFrame) (more : List Deed) (rs : List Sent) (ds : List Deed) → AllByRecursion Kind more
      → R (Came now item ∷ with_deeds fs more rs ds) (with_deeds fs more rs (Came now item ∷ ds))
  with_sooner now item fs more rs ds all =
      let it = Came now item in
      let sent = pushed (map Made fs) ds in
      let first = all_sooner now item (map Made fs) ds (all_made fs) in
      let second = stays.through (it ∷ pushed more sent) (pushed more (it ∷ sent)) (pushed more (pushed (map Made fs) (it ∷ ds)))
      (all_sooner now item more sent all) (all_behind more (it ∷ sent) (pushed (map Made fs) (it ∷ ds)) first) in
      stays.through (it ∷ with_deeds fs more rs ds) (pushed (map Replied rs) (it ∷ pushed more sent)) (with_deeds fs more rs (it ∷ ds))
      (all_sooner now item (map Replied rs) (pushed more sent) (all_replied rs))
      (all_behind (map Replied rs) (it ∷ pushed more sent) (pushed more (pushed (map Made fs) (it ∷ ds))) second)

  round_behind : (w : Setting) (past : List Event) (x : Round) (s : Serving) (a b : List Deed) → R a b → R (round_deeds w past x s a) (round_deeds w past x s b)
  round_behind w past x s a b r = with_behind (frames_made_by w (so_far past s) (outcome w past x s).event) (brought w past x s).deeds (outcome w past x s).replies a b r

  -- an item comes before these rounds in place of behind them
  rounds_sooner : (w : Setting) (past : List Event) (start : Serving) (now later : Bool) (item : LinkItem) (ds : List Deed) (xs : List Round) → AreOfKind Kind w past start xs
      → R (Came now item ∷ newest_deeds w past start ds xs) (newest_deeds w past start (Came later item ∷ ds) xs)
  rounds_sooner w past start now later item ds [] all = stays.either_call now later item ds
  rounds_sooner w past start now later item ds (x ∷ xs) all =
      let s = after_from w past start xs in
      let it = Came now item in
      let below = newest_deeds w past start ds xs in
      stays.through (it ∷ round_deeds w past x s below) (round_deeds w past x s (it ∷ below)) (round_deeds w past x s (newest_deeds w past start (Came later item ∷ ds) xs))
      (with_sooner now item (frames_made_by w (so_far past s) (outcome w past x s).event) (brought w past x s).deeds (outcome w past x s).replies below all.0)
      (round_behind w past x s (it ∷ below) (newest_deeds w past start (Came later item ∷ ds) xs) (rounds_sooner w past start now later item ds xs all.1))

  -- the item of the newest round comes before all that is behind it
  newest_sooner : (w : Setting) (past : List Event) (start : Serving) (a ds : List Deed) (x : Round) (xs : List Round) → AreOfKind Kind w past start xs
      → R a (newest_deeds w past start (came_in xs ++ ds) xs) → R (came x a) (newest_deeds w past start (came_in (x ∷ xs) ++ ds) xs)
  newest_sooner w past start a ds (Began item) xs all r = r
  newest_sooner w past start a ds (Turned i) xs all r = r
  newest_sooner w past start a ds (Closed i epoch) xs all r = r
  newest_sooner w past start a ds (Reminded i j) xs all r = r
  newest_sooner w past start a ds (Took item) [] all r =
      stays.behind (Came false item) a ds r
  newest_sooner w past start a ds (Took item) (y ∷ xs) all r =
      let base = came_in (y ∷ xs) ++ ds in
      let below = newest_deeds w past start base (y ∷ xs) in
      stays.through (Came false item ∷ a) (Came false item ∷ below) (newest_deeds w past start (Came true item ∷ base) (y ∷ xs))
      (stays.behind (Came false item) a below r) (rounds_sooner w past start false true item base (y ∷ xs) all)

  -- the items of a group come before what goes out of it
  pub together : (w : Setting) (past : List Event) (start : Serving) (ds : List Deed) (group : List Round) → AreOfKindBefore Kind w past start group
      → R (in_order w past start ds group) (newest_deeds w past start (came_in group ++ ds) group)
  together w past start ds [] all = stays.itself ds
  together w past start ds (x ∷ group) all =
      let below = in_order w past start ds group in
      round_behind w past x (after_from w past start group) (came x below) (newest_deeds w past start (came_in (x ∷ group) ++ ds) group)
      (newest_sooner w past start below ds x group all (together w past start ds group (of_kind_before Kind w past start group all)))

-- ---- deeds of any kind

abbrev pub OfAnyKind : Deed → Type 0
OfAnyKind d = Unit {0}

any_deeds : (ds : List Deed) → AllByRecursion OfAnyKind ds
any_deeds [] = tt
any_deeds (d ∷ ds) = (tt, any_deeds ds)

any_rounds : (w : Setting) (past : List Event) (start : Serving) (xs : List Round) → AreOfKind OfAnyKind w past start xs
any_rounds w past start [] = tt
any_rounds w past start (x ∷ xs) = (any_deeds (brought w past x (after_from w past start xs)).deeds, any_rounds w past start xs)

any_before : (w : Setting) (past : List Event) (start : Serving) (xs : List Round) → AreOfKindBefore OfAnyKind w past start xs
any_before w past start [] = tt
any_before w past start (x ∷ xs) = any_rounds w past start xs

pub any_together : (R : List Deed → List Deed → Type 0) → StaysWhere OfAnyKind R → (w : Setting) (past : List Event) (start : Serving) (ds : List Deed) (group : List Round)
    → R (in_order w past start ds group) (newest_deeds w past start (came_in group ++ ds) group)
any_together R stays w past start ds group = together OfAnyKind R stays (λ f. tt) (λ sent. tt) w past start ds group (any_before w past start group)
