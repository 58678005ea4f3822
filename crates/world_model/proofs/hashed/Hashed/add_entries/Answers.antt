use Rattle.std.proofs.Common.{◌<◌, sym, ◌∙◌, ap, arith}
use Rattle.std.specs.Option.{option_copied}
use Rattle.keyed_channel.specs.Keyed.{tags_of}
use Rattle.world_model.specs.Met.{MetEntries}
use Rattle.world_model.proofs.Meeting.{both_clash, more_met, all_met}
use Rattle.world_model.proofs.Pairs.{met_pair, met_pair_there}
use Rattle.world_model.proofs.hashed.Hashed.add_entries.Goals as goal

pub returns-in_default : goal.returns-in_default
returns-in_default c = λ m is prints stand.
    let below : c.loop-other.other < c.args.keys.now.n = omega (arith, c.loop-other-test.true, c.n-other-end.ensures.value) in
    absurd (met_pair_there c.args.keys.now c.args.slot ((tags_of c.args.keys.now).digest m) c.args.met.now c.loop-other.other below is
    (sym c.pair.ensures ∙ ap option_copied c.in_default.is))

pub returns-then-branch : goal.returns-then-branch
returns-then-branch c = λ m is prints stand.
    let k = c.args.keys.now in
    let digest = c.digest-digest.ensures ∙ ap (λ (x : MetEntries). x.digest) is in
    let pair = met_pair k c.args.slot m c.digest-digest.result.now c.args.met.now c.loop-other.other c.in-Some.pair.now digest is (sym c.pair.ensures ∙ ap option_copied c.in-Some.is) in
    both_clash c.loop-other.self _ k c.args.slot m c.digest-digest.result.now c.loop-other.other c.in_ok-add_both.field-0 prints
    (omega (arith, c.loop-other-test.true, c.n-other-end.ensures.value)) digest c.if-branch.true
    (c.loop-other.invariant m is prints stand) (c.in_ok-add_both.ensures k c.me.ensures.value pair)

pub loop-other-preserved : goal.loop-other-preserved
loop-other-preserved c = λ m is prints stand.
    let k = c.args.keys.now in
    let digest = c.digest-digest.ensures ∙ ap (λ (x : MetEntries). x.digest) is in
    let pair = met_pair k c.args.slot m c.digest-digest.result.now c.args.met.now c.loop-other.other c.in-Some.pair.now digest is (sym c.pair.ensures ∙ ap option_copied c.in-Some.is) in
    more_met c.loop-other.self c.add_both.new.self k c.args.slot m c.digest-digest.result.now c.loop-other.other c.in_ok-add_both.field-0 prints
    digest c.if-branch.false (c.loop-other.invariant m is prints stand) (c.in_ok-add_both.ensures k c.me.ensures.value pair)

pub returns : goal.returns
returns c = λ m is prints stand.
    all_met c.loop-other.self c.args.keys.now c.args.slot m c.loop-other.other prints (omega (arith, c.loop-other-test.false, c.loop-other.auto.other-end, c.n-other-end.ensures.value)) (c.loop-other.invariant m is prints stand)
