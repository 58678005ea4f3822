use Rattle.std.proofs.Common.{◌≡◌, ◌∙◌, ℕ, ◌++◌, List, true, sym, ap, inr}
use Rattle.std.specs.Prelude.{Option, Result, Ok, Err, is_err, ◌⊎◌}
use Rattle.ritas_base.specs.declared.bytes.Mem.{Mem}
use Rattle.ritas_base.specs.declared.item.Item.{Item}
use Rattle.ritas_base.specs.declared.item.Msg.{Msg}
use Rattle.ritas_base.specs.Places.{is_awaited}
use Rattle.layer_api.specs.declared.broadcast.Heard.{Heard}
use Rattle.reliable_bcast.specs.declared.digest_rb.DigestRb.{DigestRb}
use Rattle.reliable_bcast.specs.DigestState.{HearsReady, delivered_of, after_ready}
use Rattle.reliable_bcast.proofs.DigestValues.{ready_step}
use Rattle.reliable_bcast.proofs.digest_rb.DigestRb.ready.Goals as goal

for_want : (old new : DigestRb) (i : Item) (before after : List Msg) (r : Result Heard Mem) → is_err r ≡ true → is_awaited old.readies i.from ≡ true → after ≡ before
    → (delivered_of new ≡ delivered_of old) ⊎ (delivered_of new ≡ delivered_of (after_ready old i)) → HearsReady old new i before after r
for_want old new i before after (Ok heard) e awaited out shows = absurd (cc)
for_want old new i before after (Err x) e awaited out shows = (awaited, out, shows)

pub returns : goal.returns
returns c =
    let old : DigestRb = c.args.self.now in
    let step = ready_step old c.args.item.now (record old { readies = c.add.new.self }) c.settle.new.self c.carry.new.self c.in-Some.digest.now c.is_none.result c.new-said.result.items c.settle.new.out.items c.carry.new.out.items
    c.in-Some.ensures c.is_none.ensures (ap (λ (votes : List (Option (List ℕ))). record old { readies = votes }) c.in_ok-add.ensures.ok) c.in_ok-settle.ensures.ok c.in_ok-carry.ensures.ok c.new-said.ensures.items in
    (sym c.awaits.ensures ∙ c.if-not-awaits.false, step.0, c.in_ok-append.ensures.items ∙ ap (λ (l : List Msg). c.args.out.now.items ++ l) step.1)

pub returns-in_err-append : goal.returns-in_err-append
returns-in_err-append c =
    let old : DigestRb = c.args.self.now in
    let step = ready_step old c.args.item.now (record old { readies = c.add.new.self }) c.settle.new.self c.carry.new.self c.in-Some.digest.now c.is_none.result c.new-said.result.items c.settle.new.out.items c.carry.new.out.items
    c.in-Some.ensures c.is_none.ensures (ap (λ (votes : List (Option (List ℕ))). record old { readies = votes }) c.in_ok-add.ensures.ok) c.in_ok-settle.ensures.ok c.in_ok-carry.ensures.ok c.new-said.ensures.items in
    for_want old c.carry.new.self c.args.item.now c.args.out.now.items c.append.new.self.items c.from_residual-in_err-append.result c.from_residual-in_err-append.ensures.0
    (sym c.awaits.ensures ∙ c.if-not-awaits.false) c.in_err-append.ensures.items (inr (ap delivered_of step.0))
