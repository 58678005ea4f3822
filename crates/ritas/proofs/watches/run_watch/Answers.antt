use Rattle.ritas.specs.Configs.{Watched}
use Rattle.ritas.proofs.Counts.{watch_counts}
use Rattle.ritas.proofs.watches.run_watch.Goals as goal

pub returns-clause-answers : goal.returns-clause-answers
returns-clause-answers g c = Watched c.watch-end.result c.watch-end.new.observer.rows c.watch-end.ensures.watches c.write_watched.ensures.replies

pub returns-clause-runs : goal.returns-clause-runs
returns-clause-runs g c = record {
  ends = c.write_watched.ensures.ends;
  link_counts = watch_counts _ _ c.write_watched.result c.watch-end.result c.write_watched.ensures.link c.write_watched.ensures.memory c.watch-end.ensures.watches.cause;
  words_are_right = c.write_watched.ensures.others.0;
}
