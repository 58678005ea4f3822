use Rattle.std.proofs.Common.{arith, sym, ◌∙◌}
use Rattle.std.proofs.lemmas.Iterator.Adapters.{YieldsList-from_vec}
use Rattle.std.proofs.lemmas.Iterator.Consumers.{YieldsList-turn, YieldsList-end}
use Rattle.std.proofs.lemmas.List.{map-id}
use Rattle.world_model.proofs.Firsts.{none_first, within_rows, keys_of, version_of, first_by, same_first}
use Rattle.world_model.proofs.first.first_replicas.Goals as goal

pub loop-coin-init : goal.loop-coin-init
loop-coin-init g c = none_first _ c.args.p c.args.mode c.args.correct c.args.keys.now c.new-places.result.items c.new-places.ensures.items

pub bounds-keys-len : goal.bounds-keys-len
bounds-keys-len g c =
    let made = c.into_iter-coin-iterator.ensures.into_iter_gives in
    let t = YieldsList-turn (YieldsList-from_vec {s = c.into_iter-coin-iterator.result} c.args.coins.items made.0 (made.1 ∙ c.args.coins.ok.0))
    c.loop-coin.yielded c.loop-coin.coin-iterator c.loop-coin.yielded_by c.next.result c.next.new.self c.in-Some.coin c.in-Some.is c.next.ensures.steps in
    within_rows _ c.args.p c.args.mode c.args.correct c.args.keys.now c.args.coins.items c.loop-coin.yielded c.loop-coin.places.items c.len.result
    (c.len.ensures ∙ c.loop-coin.places.ok.0) c.loop-coin.invariant c.requires.rows t.0

pub offset_bounds-keys-len : goal.offset_bounds-keys-len
offset_bounds-keys-len g c =
    let within = bounds-keys-len g c in
    omega (arith, within)

pub first_replica-requires-clause-made_for : goal.first_replica-requires-clause-made_for
first_replica-requires-clause-made_for g c =
    let made = c.into_iter-coin-iterator.ensures.into_iter_gives in
    let t = YieldsList-turn (YieldsList-from_vec {s = c.into_iter-coin-iterator.result} c.args.coins.items made.0 (made.1 ∙ c.args.coins.ok.0))
    c.loop-coin.yielded c.loop-coin.coin-iterator c.loop-coin.yielded_by c.next.result c.next.new.self c.in-Some.coin c.in-Some.is c.next.ensures.steps in
    let within = within_rows _ c.args.p c.args.mode c.args.correct c.args.keys.now c.args.coins.items c.loop-coin.yielded c.loop-coin.places.items c.len.result
    (c.len.ensures ∙ c.loop-coin.places.ok.0) c.loop-coin.invariant c.requires.rows t.0 in
    keys_of c.args.p.n c.args.keys.now c.len.result c.index-keys-len.result c.requires.own within c.index-keys-len.is

pub first_replica-requires-clause-version : goal.first_replica-requires-clause-version
first_replica-requires-clause-version g c =
    let made = c.into_iter-coin-iterator.ensures.into_iter_gives in
    let t = YieldsList-turn (YieldsList-from_vec {s = c.into_iter-coin-iterator.result} c.args.coins.items made.0 (made.1 ∙ c.args.coins.ok.0))
    c.loop-coin.yielded c.loop-coin.coin-iterator c.loop-coin.yielded_by c.next.result c.next.new.self c.in-Some.coin c.in-Some.is c.next.ensures.steps in
    let within = within_rows _ c.args.p c.args.mode c.args.correct c.args.keys.now c.args.coins.items c.loop-coin.yielded c.loop-coin.places.items c.len.result
    (c.len.ensures ∙ c.loop-coin.places.ok.0) c.loop-coin.invariant c.requires.rows t.0 in
    version_of c.args.mode.version c.args.keys.now c.len.result c.index-keys-len.result c.requires.version within c.index-keys-len.is

pub loop-coin-preserved : goal.loop-coin-preserved
loop-coin-preserved g c =
    let made = c.into_iter-coin-iterator.ensures.into_iter_gives in
    let t = YieldsList-turn (YieldsList-from_vec {s = c.into_iter-coin-iterator.result} c.args.coins.items made.0 (made.1 ∙ c.args.coins.ok.0))
    c.loop-coin.yielded c.loop-coin.coin-iterator c.loop-coin.yielded_by c.next.result c.next.new.self c.in-Some.coin c.in-Some.is c.next.ensures.steps in
    let within = within_rows _ c.args.p c.args.mode c.args.correct c.args.keys.now c.args.coins.items c.loop-coin.yielded c.loop-coin.places.items c.len.result
    (c.len.ensures ∙ c.loop-coin.places.ok.0) c.loop-coin.invariant c.requires.rows t.0 in
    first_by _ c.args.p c.args.mode c.args.correct c.args.keys.now c.loop-coin.yielded c.loop-coin.places.items c.push.new.self.items c.len.result c.index-keys-len.result c.in-Some.coin c.in_ok-first_replica.field-0
    c.loop-coin.invariant (c.len.ensures ∙ c.loop-coin.places.ok.0) within c.index-keys-len.is c.in_ok-first_replica.ensures c.in_ok-push.ensures.items

pub returns : goal.returns
returns g c =
    let made = c.into_iter-coin-iterator.ensures.into_iter_gives in
    let t = YieldsList-end (YieldsList-from_vec {s = c.into_iter-coin-iterator.result} c.args.coins.items made.0 (made.1 ∙ c.args.coins.ok.0))
    c.loop-coin.yielded c.loop-coin.coin-iterator c.loop-coin.yielded_by c.next.result c.next.new.self c.in-None.is c.next.ensures.steps in
    same_first _ c.args.p c.args.mode c.args.correct c.args.keys.now c.loop-coin.yielded c.args.coins.items c.loop-coin.places.items (sym (map-id c.loop-coin.yielded) ∙ t.0) c.loop-coin.invariant
