use Rattle.std.proofs.Common.{◌≡◌, List, Err, slice_index_or, refl, ◌∙◌, ap, subst, arith}
use Rattle.ritas_base.specs.declared.item.Item.{Item}
use Rattle.ritas_base.specs.declared.item.Msg.{Msg}
use Rattle.ooc_buffers.specs.Lists.{held_bytes}
use Rattle.ritas_core.specs.declared.fault.CoreFault.TheVariants as faults
use Rattle.ritas_core.specs.declared.verdict.Verdict.TheVariants as verdicts
use Rattle.ritas_core.specs.Checks.{body_length, IsGood}
use Rattle.ritas_core.specs.CoreCalls.{DoesJudged}
use Rattle.ritas_core.specs.Stands.{Meaning, meaning, rules_of}
use Rattle.ritas_core.proofs.HoldOutcomes.{full_from, full_does}
use Rattle.ritas_core.proofs.kernel.Core.copy_front.Goals as goal

pub returns-in-Some-full_for : goal.returns-in-Some-full_for
returns-in-Some-full_for g c = λ item rest there.
    let b = g.E.Broadcast in
    let m : Meaning g.row.S.Denot g.row.E.Denot g.row.C.Denot g.row.T.Denot =
    meaning g.S.Service.stands g.S.Service.rules g.S.Service.shown b.stands b.rules b.shown g.C.Coin.bits g.T.Tagger.me g.T.Tagger.tags in
    let old = c.args.self.now in
    let x = c.in-Some.item.now in
    let bytes = c.in-Some-full_for.bytes in
    let same : x ≡ item = c.in-Some.ensures.lookup ∙ ap (λ (xs : List Item). slice_index_or xs 0 x) there in
    let counted : IsGood (rules_of m old.layers) x → c.length_of.result ≡ body_length x = λ good.
    let short = c.spelled.ensures.short old.layers.params old.layers.mode x good.in_grammar in
    c.length_of.ensures (omega (arith, short)) in
    let full = full_from (held_bytes old.held x.from) c.length_of.result bytes c.in-Some-full_for.ensures in
    subst (λ (y : Item). (sent : List Msg) → DoesJudged m old old verdicts.Hold y sent sent (Err (faults.HeldFull bytes))) same
    (λ sent. full_does m old x c.length_of.result old.held sent counted bytes refl full.0 full.1)
