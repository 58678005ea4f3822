use Rattle.std.proofs.Common.{◌≤◌, length, Err, refl, ap, ◌∙◌, arith}
use Rattle.ritas.specs.Statuses.{text_limit}
use Rattle.ritas.proofs.Answering.{text_job, of_text}
use Rattle.ritas.proofs.Counts.{text_counts, text_taken}
use Rattle.ritas.proofs.Texts.{same_fault}
use Rattle.ritas.proofs.configs.do_read.Goals as goal

pub do_text-requires-clause-within : goal.do_text-requires-clause-within
unfolding text_limit
do_text-requires-clause-within g c =
    let within : length c.in-Ok.text.items ≤ text_limit = c.in-Ok.ensures.within in
    let same = ap length c.as_slice.ensures.value in
    omega (arith, within, same)

pub returns-in-Ok-clause-answers : goal.returns-in-Ok-clause-answers
returns-in-Ok-clause-answers g c = λ tells.
    of_text _ g.K.Sink.taken c.args.output.now c.do_text.new.output _ _ _ _ _ c.do_text.result c.args.job _ _ (c.as_slice.ensures.value ∙ c.in-Ok.ensures.whole tells) c.do_text.ensures.answers

pub returns-in-Err-clause-answers : goal.returns-in-Err-clause-answers
unfolding text_limit
returns-in-Err-clause-answers g c = λ tells.
    text_job _ g.K.Sink.taken c.args.output.now c.refuse_text.new.output _ _ _ _ _ c.refuse_text.result (g.S.Source.left c.args.input.now) c.args.job c.in-Err.fault
    (λ failed memory long. (c.in-Err.ensures.too_long tells (λ e. failed (same_fault _ _ e)) (λ e. memory (same_fault _ _ e))).0 (ap Err long)) c.refuse_text.ensures.refuses ((refl, c.refuse_text.ensures.others.1), refl)

pub returns-in-Ok-clause-taken : goal.returns-in-Ok-clause-taken
unfolding text_limit
returns-in-Ok-clause-taken g c = λ tells. record { most = c.in-Ok.ensures.taken tells; all = λ within four eight. c.in-Ok.ensures.end tells }

pub returns-in-Err-clause-taken : goal.returns-in-Err-clause-taken
unfolding text_limit
returns-in-Err-clause-taken g c = λ tells.
    text_taken _ g.K.Sink.taken c.args.output.now c.refuse_text.new.output c.refuse_text.result (g.S.Source.left c.args.input.now) _ c.in-Err.fault
    (λ failed memory long. (c.in-Err.ensures.too_long tells (λ e. failed (same_fault _ _ e)) (λ e. memory (same_fault _ _ e))).0 (ap Err long)) c.refuse_text.ensures.refuses
    (c.in-Err.ensures.taken tells)

pub returns-in-Err-clause-input_counts : goal.returns-in-Err-clause-input_counts
returns-in-Err-clause-input_counts g c = text_counts _ _ c.refuse_text.result c.in-Err.fault c.refuse_text.ensures.input c.in-Err.ensures.counts
