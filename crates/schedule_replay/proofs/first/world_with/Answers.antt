use Rattle.std.proofs.Common.{List, map, length, sym, ◌∙◌, ap, subst}
use Rattle.std.specs.List.{range_with_len}
use Rattle.std.proofs.lemmas.List.FromFn.{length-map-range_with_len}
use Rattle.std.proofs.lemmas.Result.{IfOk-weaker}
use Rattle.keyed_channel.specs.KeyRow.{KeyRow}
use Rattle.keyed_channel.specs.Keyed.{CoinSeed}
use Rattle.world_model.specs.Stands.{IsWorldOf, AreKeys, AreOfVersion}
use Rattle.schedule_replay.specs.Layers.{dealt_to, coin_to, setting_with, layers_by}
use Rattle.schedule_replay.proofs.KeysInOrder.{own_keys, version_keys, world_dealt}
use Rattle.schedule_replay.proofs.first.world_with.Goals as goal

pub new-requires-clause-rows : goal.new-requires-clause-rows
new-requires-clause-rows g c = ap length c.in_ok-keys.ensures ∙ length-map-range_with_len (dealt_to c.args.header.now) 0 c.args.header.now.p.n

pub new-requires-clause-tosses : goal.new-requires-clause-tosses
new-requires-clause-tosses g c = ap length c.in_ok-coins.ensures ∙ length-map-range_with_len (coin_to c.args.header.now) 0 c.args.header.now.p.n

pub new-requires-clause-own : goal.new-requires-clause-own
new-requires-clause-own g c = subst (AreKeys c.args.header.now.p.n) (sym c.in_ok-keys.ensures) (own_keys c.args.header.now)

pub new-requires-clause-version : goal.new-requires-clause-version
new-requires-clause-version g c = subst (AreOfVersion c.args.header.now.mode.version) (sym c.in_ok-keys.ensures) (version_keys c.args.header.now)

pub returns : goal.returns
returns g c = λ is_correct same.
    let h = c.args.header.now in
    let service = g.S.Service.rules in
    let other = g.E.Broadcast.rules in
    let m = layers_by g.S.Service.stands service g.S.Service.shown g.E.Broadcast.stands other g.E.Broadcast.shown in
    let w = setting_with is_correct service other h in
    let keys : List KeyRow = map (dealt_to h) (range_with_len 0 h.p.n) in
    let with_coins = subst (λ (coins : List CoinSeed). IsWorldOf m h.p h.mode c.args.correct keys coins w) (sym c.in_ok-coins.ensures)
    (world_dealt g.S.Service.stands service g.S.Service.shown g.E.Broadcast.stands other g.E.Broadcast.shown h is_correct c.args.correct same) in
    let world = subst (λ (rows : List KeyRow). IsWorldOf m h.p h.mode c.args.correct rows c.in_ok-coins.coins.items w) (sym c.in_ok-keys.ensures) with_coins in
    IfOk-weaker c.new.result _ _ (λ made is. is w world) c.new.ensures
