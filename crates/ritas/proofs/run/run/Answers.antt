use Rattle.std.proofs.Common.{◌≤◌, [], Err, map, ap, sym, ◌∙◌, inl, inr, refl, arith, string_bytes}
use Rattle.std.specs.Prelude.{codes}
use Rattle.ritas_base.specs.declared.what.What.TheVariants.{Vectors}
use Rattle.cluster_config.specs.declared.job.Job.TheVariants.{Replay, Drive, Node, Cluster}
use Rattle.cluster_config.specs.Cluster.{cluster_text}
use Rattle.cluster_config.specs.Node.{node_text}
use Rattle.node_session.specs.Configs.{node_session, cluster_session, first_item}
use Rattle.ritas.proofs.Answering.{idle_job, of_job}
use Rattle.ritas.proofs.Served.{has_served}
use Rattle.ritas.proofs.Lived.{has_lived, without_journal}
use Rattle.cluster_config.specs.Drive.{planned}
use Rattle.schedule_file.specs.Schedule.{file_of}
use Rattle.schedule_file.specs.Spelling.{IsFile}
use Rattle.schedule_file.specs.ReadHeader.{heading}
use Rattle.schedule_file.specs.declared.fault.FileFault.TheVariants.{Header}
use Rattle.ritas.proofs.Asked.{asked_there, asked_none, asked_low, own_low}
use Rattle.ritas.proofs.Headers.{header_of}
use Rattle.ritas.specs.Statuses.{status_of, text_limit, input_line}
use Rattle.ritas.proofs.Jobs.{one_job, only_memory, named_none}
use Rattle.ritas.proofs.Texts.{untouched}
use Rattle.schedule_replay.specs.Replay.{text, asked_of}
use Rattle.ritas.proofs.Statuses.{file_or_fault, fault_above_1}
use Rattle.ritas.proofs.run.run.Goals as goal

pub returns-in-Ok-clause-wanting : goal.returns-in-Ok-clause-wanting
returns-in-Ok-clause-wanting g c = λ what asks other eight.
    c.work.ensures.wanting what (one_job (map string_bytes c.args.words.now.items) c.in-Ok.job (Replay what) c.in-Ok.ensures.job asks) other eight

pub returns-in-Ok-clause-to_its_end : goal.returns-in-Ok-clause-to_its_end
returns-in-Ok-clause-to_its_end g c = λ asks tells low.
    c.work.ensures.replayed asks.0 (one_job (map string_bytes c.args.words.now.items) c.in-Ok.job (Replay asks.0) c.in-Ok.ensures.job asks.1) tells low

pub returns-in-Ok-clause-every : goal.returns-in-Ok-clause-every
returns-in-Ok-clause-every g c = λ what asks tells h es is there.
    let bytes = g.S.Source.left c.args.input.now in
    let same = one_job (map string_bytes c.args.words.now.items) c.in-Ok.job (Replay what) c.in-Ok.ensures.job asks in
    (c.work.ensures.answers what same tells).replayed h es (asked_there what h es (file_of bytes) (c.file_laws.ensures.only bytes (heading h) es is) there)

pub returns-in-Ok-clause-without : goal.returns-in-Ok-clause-without
returns-in-Ok-clause-without g c = λ what asks tells h es is none.
    let bytes = g.S.Source.left c.args.input.now in
    let same = one_job (map string_bytes c.args.words.now.items) c.in-Ok.job (Replay what) c.in-Ok.ensures.job asks in
    (c.work.ensures.answers what same tells).refused (Header 15) (asked_none what h es (file_of bytes) (c.file_laws.ensures.only bytes (heading h) es is) none)

pub returns-in-Ok-clause-only : goal.returns-in-Ok-clause-only
returns-in-Ok-clause-only g c = λ what asks tells fits low.
    let bytes = g.S.Source.left c.args.input.now in
    let same = one_job (map string_bytes c.args.words.now.items) c.in-Ok.job (Replay what) c.in-Ok.ensures.job asks in
    let answers = c.work.ensures.answers what same tells in
    elim (file_or_fault (file_of bytes)) [
      | inl x ↦
          let is = c.file_laws.ensures.found bytes x.0.0 x.0.1 fits x.1 in
          let h = header_of x.0.0 is.header in
          let file : IsFile bytes (heading h.0) x.0.1 = rw h.1 is in
          let read = c.file_laws.ensures.only bytes (heading h.0) x.0.1 file in
          let there = asked_low _ g.K.Sink.taken c.args.output.now c.work.new.output what c.work.result (file_of bytes) h.0 x.0.1 answers read low in
          let replies = answers.replayed h.0 x.0.1 (asked_there what h.0 x.0.1 (file_of bytes) read there) in
          (h.0, x.0.1, file, there, replies.answer (own_low c.work.result low))
      | inr e ↦ absurd (omega (arith, (answers.refused e.0 (ap (asked_of what) e.1)).answer (own_low c.work.result low), low, fault_above_1 e.0))
    ]

pub returns-in-Ok-clause-agree : goal.returns-in-Ok-clause-agree
returns-in-Ok-clause-agree g c = λ asks tells fits none h es is.
    let bytes = g.S.Source.left c.args.input.now in
    let same = one_job (map string_bytes c.args.words.now.items) c.in-Ok.job (Replay asks.0) c.in-Ok.ensures.job asks.1 in
    let read = c.file_laws.ensures.only bytes (heading h) es is in
    let low : c.work.result ≤ 1 = omega (arith, none) in
    let there = asked_low _ g.K.Sink.taken c.args.output.now c.work.new.output asks.0 c.work.result (file_of bytes) h es (c.work.ensures.answers asks.0 same tells) read low in
    c.work.ensures.agree asks.0 same tells none h es (asked_there asks.0 h es (file_of bytes) read there)

pub returns-in-Ok-clause-vectors : goal.returns-in-Ok-clause-vectors
returns-in-Ok-clause-vectors g c = λ asks tells fits low h es is.
    let bytes = g.S.Source.left c.args.input.now in
    let same = one_job (map string_bytes c.args.words.now.items) c.in-Ok.job (Replay Vectors) c.in-Ok.ensures.job asks in
    let answers = c.work.ensures.answers Vectors same tells in
    let read = c.file_laws.ensures.only bytes (heading h) es is in
    let there = asked_low _ g.K.Sink.taken c.args.output.now c.work.new.output Vectors c.work.result (file_of bytes) h es answers read low in
    let asked = asked_there Vectors h es (file_of bytes) read there in
    record {
      whole = λ told. (answers.replayed h es asked).whole told (own_low c.work.result low);
      agree = λ zero. c.work.ensures.vectors Vectors same refl tells zero h es asked;
    }

pub returns-in-Ok-clause-taken : goal.returns-in-Ok-clause-taken
returns-in-Ok-clause-taken g c = λ job asks other tells.
    let same = one_job (map string_bytes c.args.words.now.items) c.in-Ok.job job c.in-Ok.ensures.job asks in
    c.work.ensures.taken (λ what is. other what (sym same ∙ is)) tells

pub returns-in-Ok-clause-planned : goal.returns-in-Ok-clause-planned
returns-in-Ok-clause-planned g c = λ what asks tells p is within.
    let text = g.S.Source.left c.args.input.now in
    let same = one_job (map string_bytes c.args.words.now.items) c.in-Ok.job (Drive what) c.in-Ok.ensures.job asks in
    ((of_job _ g.K.Sink.taken c.args.output.now c.work.new.output _ _ _ _ _ c.work.result text c.in-Ok.job _ same (c.work.ensures.configured tells)).right
    within p (c.config_laws.ensures.drive.only text (planned p) is)).0

pub returns-in-Ok-clause-node : goal.returns-in-Ok-clause-node
returns-in-Ok-clause-node g c = λ asks tells config is within none zero.
    let text = g.S.Source.left c.args.input.now in
    let same = one_job (map string_bytes c.args.words.now.items) c.in-Ok.job Node c.in-Ok.ensures.job asks in
    let plain = without_journal config _ g.K.Sink.taken c.args.output.now c.work.new.output _ _ _ _ _ c.work.result zero none
    ((of_job _ g.K.Sink.taken c.args.output.now c.work.new.output _ _ _ _ _ c.work.result text c.in-Ok.job _ same (c.work.ensures.configured tells)).right
    within config (c.config_laws.ensures.node.only text (node_text config) is)) in
    (has_served (node_session config) [] _ _ _ _ c.work.result plain.0 zero, plain.1)

pub returns-in-Ok-clause-journal : goal.returns-in-Ok-clause-journal
returns-in-Ok-clause-journal g c = λ asks tells config is within kept zero.
    let text = g.S.Source.left c.args.input.now in
    let same = one_job (map string_bytes c.args.words.now.items) c.in-Ok.job Node c.in-Ok.ensures.job asks in
    has_lived config _ g.K.Sink.taken c.args.output.now c.work.new.output _ _ _ _ _ c.work.result zero kept
    ((of_job _ g.K.Sink.taken c.args.output.now c.work.new.output _ _ _ _ _ c.work.result text c.in-Ok.job _ same (c.work.ensures.configured tells)).right
    within config (c.config_laws.ensures.node.only text (node_text config) is))

pub returns-in-Ok-clause-cluster : goal.returns-in-Ok-clause-cluster
returns-in-Ok-clause-cluster g c = λ asks tells config is within zero.
    let text = g.S.Source.left c.args.input.now in
    let same = one_job (map string_bytes c.args.words.now.items) c.in-Ok.job Cluster c.in-Ok.ensures.job asks in
    has_served (cluster_session config) (map first_item config.requests) _ _ _ _ c.work.result
    ((of_job _ g.K.Sink.taken c.args.output.now c.work.new.output _ _ _ _ _ c.work.result text c.in-Ok.job _ same (c.work.ensures.configured tells)).right
    within config (c.config_laws.ensures.cluster.only text (cluster_text config) is)) zero

pub returns-in-Ok-clause-configured : goal.returns-in-Ok-clause-configured
returns-in-Ok-clause-configured g c = λ job asks tells.
    let text = g.S.Source.left c.args.input.now in
    let same = one_job (map string_bytes c.args.words.now.items) c.in-Ok.job job c.in-Ok.ensures.job asks in
    of_job _ g.K.Sink.taken c.args.output.now c.work.new.output _ _ _ _ _ c.work.result text c.in-Ok.job job same (c.work.ensures.configured tells)

pub returns-in-Err-clause-configured : goal.returns-in-Err-clause-configured
returns-in-Err-clause-configured g c = λ job asks tells.
    let short = c.refuse_words.ensures.memory (only_memory c.in-Err.fault (λ usage. named_none (map string_bytes c.args.words.now.items) job (c.in-Err.ensures.usage (ap Err usage)) asks)) in
    idle_job _ g.K.Sink.taken c.args.output.now c.refuse_words.new.output _ _ _ _ _ c.refuse_words.result (g.S.Source.left c.args.input.now) job (inr short.0) short.1 (refl, λ six. omega (arith, short.0, six)) refl

pub returns-in-Err-clause-every : goal.returns-in-Err-clause-every
returns-in-Err-clause-every g c = λ what asks tells h es is there.
    let short = c.refuse_words.ensures.memory (only_memory c.in-Err.fault (λ usage. named_none (map string_bytes c.args.words.now.items) (Replay what) (c.in-Err.ensures.usage (ap Err usage)) asks)) in
    untouched g.K.Sink.tells g.K.Sink.taken c.args.output.now c.refuse_words.new.output c.refuse_words.result (status_of h es) (text what h es) short.0 short.1

pub returns-in-Err-clause-without : goal.returns-in-Err-clause-without
returns-in-Err-clause-without g c = λ what asks tells h es is none.
    let short = c.refuse_words.ensures.memory (only_memory c.in-Err.fault (λ usage. named_none (map string_bytes c.args.words.now.items) (Replay what) (c.in-Err.ensures.usage (ap Err usage)) asks)) in
    untouched g.K.Sink.tells g.K.Sink.taken c.args.output.now c.refuse_words.new.output c.refuse_words.result 3 (input_line (codes "header") 15) short.0 short.1

pub returns-in-Err-clause-taken : goal.returns-in-Err-clause-taken
unfolding text_limit
returns-in-Err-clause-taken g c = λ job asks other tells.
    let short = c.refuse_words.ensures.memory (only_memory c.in-Err.fault (λ usage. named_none (map string_bytes c.args.words.now.items) job (c.in-Err.ensures.usage (ap Err usage)) asks)) in
    record { most = omega arith; all = λ within four eight. absurd (eight short.0) }
