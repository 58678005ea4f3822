use Rattle.std.proofs.Common.{Ok, Err, refl}
use Rattle.ritas.proofs.Answering.{reads_job, fits_config, done_job, done_quiet, done_plan, fault_job}
use Rattle.ritas.proofs.configs.do_text.Goals as goal

pub do_config-requires : goal.do_config-requires
do_config-requires g c =
    let said = c.in-Ok.ensures in
    record {
      fits = fits_config c.args.job c.args.text.now c.in-Ok.config
          (reads_job c.args.job c.args.text.now (Ok c.in-Ok.config) c.requires.job said.drive said.keys said.node said.cluster said.submit said.watch)
          (c.config_ranges.ensures.node c.args.text.now) (c.config_ranges.ensures.cluster c.args.text.now);
    }

pub returns-in-Ok-clause-answers : goal.returns-in-Ok-clause-answers
returns-in-Ok-clause-answers g c =
    let said = c.in-Ok.ensures in
    done_job _ g.K.Sink.taken c.args.output.now c.do_config.new.output _ _ _ _ _ c.do_config.result c.args.text.now c.args.job c.in-Ok.config
    (reads_job c.args.job c.args.text.now (Ok c.in-Ok.config) c.requires.job said.drive said.keys said.node said.cluster said.submit said.watch) c.requires.within c.do_config.ensures.answers

pub returns-in-Ok-clause-unlinked : goal.returns-in-Ok-clause-unlinked
returns-in-Ok-clause-unlinked g c =
    let said = c.in-Ok.ensures in
    done_quiet _ g.K.Sink.taken c.args.output.now c.do_config.new.output _ _ _ _ _ c.do_config.result c.args.text.now c.args.job c.in-Ok.config
    (reads_job c.args.job c.args.text.now (Ok c.in-Ok.config) c.requires.job said.drive said.keys said.node said.cluster said.submit said.watch) c.do_config.ensures.answers

pub returns-in-Ok-clause-undriven : goal.returns-in-Ok-clause-undriven
returns-in-Ok-clause-undriven g c = λ what is.
    done_plan _ g.K.Sink.taken c.args.output.now c.do_config.new.output _ _ _ _ _ c.do_config.result c.args.text.now what c.in-Ok.config (c.in-Ok.ensures.drive what is)
    (rw is at c.do_config.ensures.answers)

pub returns-in-Err-clause-answers : goal.returns-in-Err-clause-answers
returns-in-Err-clause-answers g c =
    let said = c.in-Err.ensures in
    fault_job _ g.K.Sink.taken c.args.output.now c.refuse_config.new.output _ _ _ _ _ c.refuse_config.result c.args.text.now c.args.job c.in-Err.fault
    (reads_job c.args.job c.args.text.now (Err c.in-Err.fault) c.requires.job said.drive said.keys said.node said.cluster said.submit said.watch) c.requires.within c.refuse_config.ensures.refuses ((refl, c.refuse_config.ensures.others.2), refl)
