use Rattle.outside.specs.WritingLaws.{writes_then}
use Rattle.schedule_file.proofs.writer.write_both.Goals as goal

pub returns : goal.returns
returns g c = writes_then _ _ _ _ _ _ _ _ _ _ c.in_ok-write_all.ensures c.write_all-3.ensures
