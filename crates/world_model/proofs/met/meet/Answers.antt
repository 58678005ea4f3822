use Rattle.std.proofs.Common.{◌≡◌, ◌<◌, List, [], ◌∷◌, ◌++◌, sym, ◌∙◌, ap, ap₂, subst, arith}
use Rattle.std.proofs.lemmas.List.FromFn.{map-range_with_len_more}
use Rattle.keyed_channel.specs.KeyRow.{KeyRow}
use Rattle.world_model.specs.declared.met.EntryPair.{EntryPair}
use Rattle.world_model.specs.Met.{pair_of}
use Rattle.world_model.specs.Hashed.{IsMetAt, met_in}
use Rattle.world_model.proofs.met.meet.Goals as goal

pub loop-other-preserved : goal.loop-other-preserved
loop-other-preserved c = λ w seats are many.
    let n : c.keys.result.now.n ≡ c.args.keys.now.n = ap (λ (k : KeyRow). k.n) c.keys.ensures in
    let below : c.loop-other.other < w.numbers.n = omega (arith, c.loop-other-test.true, c.n-n.ensures.value, n, many) in
    let table = c.met_in-met.ensures ∙ ap (λ o. met_in o c.loop-other.other) c.of_slot-here.ensures in
    let is_met = subst (λ o. IsMetAt w c.loop-other.other c.args.slot o) (sym table) (are c.loop-other.other c.args.slot) in
    c.in_ok-push.ensures.items
    ∙ ap₂ (λ (xs : List EntryPair) (x : EntryPair). xs ++ x ∷ []) (c.loop-other.invariant w seats are many) (c.pair_with.ensures w seats is_met below)
    ∙ sym (map-range_with_len_more (pair_of c.args.keys.now c.args.slot c.args.digest) 0 c.loop-other.other c.loop-other.other (omega arith))
