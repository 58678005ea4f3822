use Rattle.std.proofs.Common.{◌≡◌, ◌≢◌, ◌<◌, ◌^◌, Bool, true, List, ◌++◌, length, Some, subst, ℕ, ◌+◌, [], ◌∷◌, Err, ap, ◌∙◌, arith, Option}
use Rattle.std.proofs.lemmas.Result.{err_from_is_err_and}
use Rattle.std.specs.Option.{IfSome}
use Rattle.outside.specs.Links.{LinkAct, now_given, bytes_of}
use Rattle.outside.specs.declared.link.LinkItem.{LinkItem}
use Rattle.outside.specs.declared.link.LinkItem.TheVariants as items
use Rattle.node_loop.specs.declared.end.Fault.{Fault}
use Rattle.node_loop.specs.Serving.{after_from, Asks, Took, IsGiven}
use Rattle.node_loop.specs.Told.{after_groups, sooner}
use Rattle.node_loop.proofs.Rounding.{none_told, next_failed, next_ask, wants_now, item_wanted}
use Rattle.node_loop.proofs.Gathering.{gathers_still, gathers_more, may_join, calls_with_item, more_short, more_fails, over_where}
use Rattle.node_loop.proofs.server.Server.take_more.Goals as goal

-- what was told is of what it gave
given_so : (tells : Bool) (told old : List LinkAct) (given which : Option LinkItem) → given ≡ which → (tells ≡ true → told ≡ now_given given ++ old) → tells ≡ true → told ≡ now_given which ++ old
given_so tells told old given which is told_so t = told_so t ∙ ap (λ (o : Option LinkItem). now_given o ++ old) is

-- an item that it gave goes on, and is short
given_item : (given : Option LinkItem) (item : LinkItem) → given ≡ Some item → IfSome given (λ item. item ≢ items.End) → IfSome given (λ item. length (bytes_of item) < 2 ^ 16) → IsGiven item
given_item given item is goes size = record {
  goes_on = subst (λ (o : Option LinkItem). IfSome o (λ item. item ≢ items.End)) is goes;
  short = subst (λ (o : Option LinkItem). IfSome o (λ item. length (bytes_of item) < 2 ^ 16)) is size;
}

-- the link failed, or memory ran out in it
pub returns-in_err-next_now-clause-gathers : goal.returns-in_err-next_now-clause-gathers
returns-in_err-next_now-clause-gathers g c = λ o many run goes lt is.
    let pace = c.args.self.now.pace in
    let s₀ = after_groups o.world o.past o.start run.older in
    let fault = err_from_is_err_and c.from_residual.result c.from_residual.ensures.1 in
    rw fault.1
    (λ end is_end. more_fails _ o.world o.past o.numbers _ o.base pace.limits o.start _ _ _ pace.taken [] many run _ fault.0 end (omega (arith, lt))
    (next_failed (Option LinkItem) _ o.base _ s₀.events (sooner o.world o.past o.start (run.newest ∷ run.older)) _ _ _ fault.0 fault.2 run.agrees c.in_err-next_now.ensures.err
    c.in_err-next_now.ensures.cause.later c.in_err-next_now.ensures.count) run.kept is_end)

-- nothing is there
pub returns-in-None-clause-gathers : goal.returns-in-None-clause-gathers
returns-in-None-clause-gathers g c = λ o many run goes lt is.
    let pace = c.args.self.now.pace in
    let s₀ = after_groups o.world o.past o.start run.older in
    let s = after_from o.world o.past s₀ run.newest in
    let same = wants_now o.world o.past pace.limits s pace.taken run.rest run.items ∙ next_ask _ is in
    let it = gathers_still _ o.world o.past o.numbers _ o.base pace.limits o.start _ _ _ pace.taken [] many run _
    (none_told _ o.base _ s₀.events (sooner o.world o.past o.start (run.newest ∷ run.older)) _ _ run.agrees (given_so _ _ _ _ _ c.in-None.is c.in_ok-next_now.ensures.ok) c.in_ok-next_now.ensures.count) run.kept
    (over_where _ o.world o.past o.numbers _ o.base pace.limits o.start _ _ _ pace.taken [] many run Asks same (λ i turn. absurd (cc))) in
    record { many = many; within = omega (arith, lt); run = it.0; over = it.1 }

-- it joins

pub returns-in_ok-join_item-in-Some-clause-gathers : goal.returns-in_ok-join_item-in-Some-clause-gathers
returns-in_ok-join_item-in-Some-clause-gathers g c = λ o many run goes lt is.
    let pace = c.args.self.now.pace in
    let item = c.in-Some.item in
    let s₀ = after_groups o.world o.past o.start run.older in
    let s = after_from o.world o.past s₀ run.newest in
    let want = item_wanted o.world o.past pace.limits s pace.taken run.rest run.items item is
    (given_item _ _ c.in-Some.is c.in_ok-next_now.ensures.open c.in_ok-next_now.ensures.size) in
    let fits = c.in_ok-join_item-in-Some.ensures.fits o.world o.past o.numbers s₀ run.newest run.under in
    let under = c.in_ok-join_item-in-Some.ensures.joins o.world o.past o.numbers s₀ run.newest run.under (may_join (Took item) c.args.self.now.group.now tt goes run.newest) in
    gathers_more _ o.world o.past o.numbers _ o.base pace.limits o.start _ _ _ pace.taken [] many run _ _ _ (pace.taken + 1) [] (Took item) want fits run.rest (ap (λ (n : ℕ). n + 1) run.items)
    (calls_with_item _ o.world o.past o.numbers _ o.base pace.limits o.start _ _ _ pace.taken [] many run _ _ item (given_so _ _ _ _ _ c.in-Some.is c.in_ok-next_now.ensures.ok) c.in_ok-next_now.ensures.count) run.kept under

pub returns-in_err-join_item-in-Some-clause-gathers : goal.returns-in_err-join_item-in-Some-clause-gathers
returns-in_err-join_item-in-Some-clause-gathers g c = λ o many run goes lt is.
    let pace = c.args.self.now.pace in
    let item = c.in-Some.item in
    let s = after_from o.world o.past (after_groups o.world o.past o.start run.older) run.newest in
    let want = item_wanted o.world o.past pace.limits s pace.taken run.rest run.items item is
    (given_item _ _ c.in-Some.is c.in_ok-next_now.ensures.open c.in_ok-next_now.ensures.size) in
    let fits = c.in_err-join_item-in-Some.ensures.fits o.world o.past o.numbers (after_groups o.world o.past o.start run.older) run.newest run.under in
    let fault = err_from_is_err_and c.from_residual-in_err-join_item-in-Some.result c.from_residual-in_err-join_item-in-Some.ensures.1 in
    rw (fault.1 ∙ ap (λ (x : Fault). Err x) fault.2)
    (λ end is_end. rw is_end (more_short _ o.world o.past o.numbers _ o.base pace.limits o.start _ _ _ pace.taken [] many run _ _ (Took item) lt tt goes want fits
    (calls_with_item _ o.world o.past o.numbers _ o.base pace.limits o.start _ _ _ pace.taken [] many run _ _ item (given_so _ _ _ _ _ c.in-Some.is c.in_ok-next_now.ensures.ok) c.in_ok-next_now.ensures.count) run.kept))
