use Rattle.std.proofs.Common.{◌≡◌, ◌++◌, subst, OnOk, List}
use Rattle.ooc_buffers.specs.Lists.{HeldItem, released, remaining}
use Rattle.ooc_buffers.proofs.held.Held.release.Goals as goal

pub returns-clause-moved : goal.returns-clause-moved
returns-clause-moved g c = λ t right computes goes rights.
    subst (λ (h : List (List HeldItem)). OnOk c.open.result (c.open.new.inbox.items ≡ c.args.inbox.now.items ++ released t h)) c.refresh.ensures
    (c.open.ensures.moved t right computes goes (rw c.refresh.ensures rights))

pub returns-clause-kept : goal.returns-clause-kept
returns-clause-kept g c = λ t right computes goes rights.
    subst (λ (h : List (List HeldItem)). OnOk c.open.result (c.open.new.self ≡ remaining t h)) c.refresh.ensures
    (c.open.ensures.kept t right computes goes (rw c.refresh.ensures rights))
