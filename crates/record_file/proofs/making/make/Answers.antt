use Rattle.outside.specs.DisksLaws.{leaves_then}
use Rattle.outside.specs.FaultsLaws.{counted_stops, counted_then}
use Rattle.record_file.specs.Making.{OpensEmpty}
use Rattle.record_file.proofs.making.make.Goals as goal

pub returns-clause-made : goal.returns-clause-made
returns-clause-made g c = λ tells form is_form long unmade short rests.
    let told = g.D.Disk.told in
    let first = c.in_ok-clear.ensures.cleared tells form c.args.head.now is_form unmade short rests in
    let second = c.write_head.ensures.made tells form is_form long first.rests in
    record {
      images = second.images;
      since = leaves_then (OpensEmpty form c.args.head.now) (told c.args.disk.now) (told c.clear.new.disk) (told c.write_head.new.disk) first.since second.since;
    }

pub returns-in_err-clear-clause-counts : goal.returns-in_err-clear-clause-counts
returns-in_err-clear-clause-counts g c = counted_stops _ _ c.from_residual.result c.from_residual.ensures.0 c.in_err-clear.ensures.counts

pub returns-clause-counts : goal.returns-clause-counts
returns-clause-counts g c = counted_then _ _ _ c.write_head.result c.in_ok-clear.ensures.counts c.write_head.ensures.counts
