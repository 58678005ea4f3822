use Rattle.std.proofs.Common.{◌≡◌, drop}
use Rattle.std.proofs.lemmas.List.Elements.{All-drop}
use Rattle.outside.specs.MemoryLink.{IsShort, first_of, rest_of}
use Rattle.outside.proofs.Coursing.{fits_now, told_now, state_more, first_short}
use Rattle.outside.proofs.course.Course.gave_now.Goals as goal

pub invariant_of-self-2 : goal.invariant_of-self-2
invariant_of-self-2 c =
    let at = c.self.inside.at in
    let items = c.self.inside.items.items in
    let moved : drop c.place_after-self-inside.result items ≡ rest_of (drop at items) = rw c.deref-2.ensures.value at c.place_after-self-inside.ensures in
    fits_now _ _ _ _ _ _ _ _ c.in_ok-push.ensures.items moved c.self.invariant

pub returns-clause-ok : goal.returns-clause-ok
returns-clause-ok c =
    let at = c.self.inside.at in
    let items = c.self.inside.items.items in
    let moved : drop c.place_after-self-inside.result items ≡ rest_of (drop at items) = rw c.deref-2.ensures.value at c.place_after-self-inside.ensures in
    let given : c.in_ok-given.given ≡ first_of (drop at items) = rw c.deref.ensures.value at c.in_ok-given.ensures in
    rw given (state_more rest_of _ _ _ _ _ _ moved (told_now _ _ _ _ _ _ _ c.in_ok-push.ensures.items) c.self.view_is)

pub returns-clause-size : goal.returns-clause-size
returns-clause-size c =
    let at = c.self.inside.at in
    let items = c.self.inside.items.items in
    let given : c.in_ok-given.given ≡ first_of (drop at items) = rw c.deref.ensures.value at c.in_ok-given.ensures in
    rw given (first_short (drop at items) (All-drop IsShort at items c.self.invariant.short))
