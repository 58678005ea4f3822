-- More rounds only add to the events, and more groups to the calls of the link. The rounds of groups are what the rules say.
use Rattle.std.proofs.Common.{◌≡◌, ℕ, List, [], ◌∷◌, ◌++◌, Option, Some, None, refl, sym, ◌∙◌, ap, subst, append_assoc}
use Rattle.ritas_base.specs.declared.event.Event.{Event}
use Rattle.layer_api.specs.Service.{IsPart}
use Rattle.world_model.specs.World.{Setting}
use Rattle.node_loop.specs.declared.limits.Limits.{Limits}
use Rattle.node_loop.specs.Serving.{Serving, onto, Round, Began, Turned, Closed, Reminded, Took, outcome, round_does, after_from, wants, IsWanted, AreWantedFrom}
use Rattle.node_loop.specs.Told.{after_groups, all_rounds, given_in, news_from, told_from}
use Rattle.node_loop.specs.Laws.{RoundsGrow, GroupsGrow, GroupsAreRounds}

part_front : {X : Type 0} (front xs ys : List X) → IsPart xs ys → IsPart xs (front ++ ys)
part_front front xs ys part = (front ++ part.0, append_assoc front part.0 xs ∙ ap (λ (l : List _). front ++ l) part.1)

-- ---- the events

part_onto : (o : Option Event) (xs ys : List Event) → IsPart xs ys → IsPart xs (onto o ys)
part_onto None xs ys part = part
part_onto (Some e) xs ys part = part_front (e ∷ []) xs ys part

grown_round : (w : Setting) (past : List Event) (x : Round) (es : List Event) (s : Serving) → IsPart es s.events → IsPart es (round_does w past x s).events
grown_round w past (Began item) es s part = part_onto (outcome w past (Began item) s).event es s.events part
grown_round w past (Turned i) es s part = part_onto (outcome w past (Turned i) s).event es s.events part
grown_round w past (Closed i epoch) es s part = part_onto (outcome w past (Closed i epoch) s).event es s.events part
grown_round w past (Reminded i j) es s part = part
grown_round w past (Took item) es s part = part_onto (outcome w past (Took item) s).event es s.events part

grown_more : (w : Setting) (past : List Event) (start : Serving) (more xs : List Round)
    → IsPart (after_from w past start xs).events (after_from w past start (more ++ xs)).events
grown_more w past start [] xs = ([], refl)
grown_more w past start (x ∷ more) xs =
    grown_round w past x (after_from w past start xs).events (after_from w past start (more ++ xs)) (grown_more w past start more xs)

pub rounds_grow : RoundsGrow
rounds_grow w past start xs ys part =
    subst (λ (zs : List Round). IsPart (after_from w past start xs).events (after_from w past start zs).events) part.1 (grown_more w past start part.0 xs)

-- ---- the link's calls

told_more : (w : Setting) (past : List Event) (start : Serving) (more xs : List (List Round)) → IsPart (told_from w past start xs) (told_from w past start (more ++ xs))
told_more w past start [] xs = ([], refl)
told_more w past start (group ∷ more) xs =
    let told = told_from w past start xs in
    let below = told_from w past start (more ++ xs) in
    part_front (news_from w past (after_groups w past start (more ++ xs)) group) told (given_in group ++ below)
    (part_front (given_in group) told below (told_more w past start more xs))

pub groups_grow : GroupsGrow
groups_grow w past start xs ys part =
    subst (λ (zs : List (List Round)). IsPart (told_from w past start xs) (told_from w past start zs)) part.1 (told_more w past start part.0 xs)

-- ---- the rounds of groups

after_more : (w : Setting) (past : List Event) (start : Serving) (more xs : List Round)
    → after_from w past start (more ++ xs) ≡ after_from w past (after_from w past start xs) more
after_more w past start [] xs = refl
after_more w past start (x ∷ more) xs = ap (λ (s : Serving). round_does w past x s) (after_more w past start more xs)

wanted_more : (w : Setting) (past : List Event) (limits : Limits) (start : Serving) (more xs : List Round)
    → AreWantedFrom w past limits (after_from w past start xs) more → AreWantedFrom w past limits start xs
    → AreWantedFrom w past limits start (more ++ xs)
wanted_more w past limits start [] xs new old = old
wanted_more w past limits start (x ∷ more) xs new old = (
  subst (λ (s : Serving). IsWanted (wants w past limits s) x) (sym (after_more w past start more xs)) new.0,
  wanted_more w past limits start more xs new.1 old,
)

pub groups_are_rounds : GroupsAreRounds
groups_are_rounds w past limits start [] are = (tt, refl)
groups_are_rounds w past limits start (group ∷ older) are =
    let below = groups_are_rounds w past limits start older are.2 in
    let rounds = all_rounds older in
    let wanted : AreWantedFrom w past limits (after_from w past start rounds) group =
    subst (λ (s : Serving). AreWantedFrom w past limits s group) (sym below.1) are.0.wanted in (
      wanted_more w past limits start group rounds wanted below.0,
      after_more w past start group rounds ∙ ap (λ (s : Serving). after_from w past s group) below.1,
    )
