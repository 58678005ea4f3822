use Rattle.std.proofs.Common.{length}
use Rattle.outside.specs.WritingLaws.{writes_then, fails_as}
use Rattle.record_file.specs.Records.{front_text}
use Rattle.record_file.proofs.writing.write_record.Goals as goal

pub returns-in_err-write_front : goal.returns-in_err-write_front
returns-in_err-write_front g c =
    fails_as (front_text c.args.form.now (length c.args.bytes.now)) c.args.bytes.now _ _ _ _ _ _ _ c.from_residual.ensures.0 c.in_err-write_front.ensures

pub returns : goal.returns
returns g c =
    writes_then (front_text c.args.form.now (length c.args.bytes.now)) c.args.bytes.now _ _ _ _ _ _ _ _ c.in_ok-write_front.ensures c.write_all.ensures
