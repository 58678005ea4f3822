use Rattle.std.proofs.Common.{◌≡◌, true, List, Result, Ok, Err, OnOk, OnErr, arith, ◌∙◌, refl, length}
use Rattle.std.proofs.lemmas.Result.{IfOk-from_err}
use Rattle.outside.specs.FaultsLaws.{rose_after, counted_stops, counted_then}
use Rattle.ritas_base.specs.Bytes.{IsBytes}
use Rattle.outside.specs.Disks.{DiskState, LeavesOnly, LeavesTorn, disk_state_of, at_rest, bytes_written, after_write, after_sync}
use Rattle.outside.specs.DisksLaws.{failed_leaves, wrote_leaves, synced_leaves, synced_state}
use Rattle.outside.specs.declared.source.Failed.{Failed}
use Rattle.outside.proofs.disk.put.Goals as goal

whole : (r : Result (Unit {0}) Failed) (at : _) (bytes : _) (old mid new : List DiskState) → mid ≡ after_write at bytes old
    → OnOk r (new ≡ after_sync mid) → OnOk r (disk_state_of new ≡ at_rest (bytes_written at bytes (disk_state_of old).seen))
whole (Ok x) at bytes old mid new wrote synced = synced_state at bytes old mid new wrote synced
whole (Err e) at bytes old mid new wrote synced = tt

since : (r : Result (Unit {0}) Failed) (at : _) (bytes : _) (old mid new : List DiskState) → IsBytes bytes → mid ≡ after_write at bytes old
    → OnOk r (new ≡ after_sync mid) → OnErr r (new ≡ mid) → LeavesOnly (LeavesTorn (record { at = at; count = length bytes }) (disk_state_of old)) old new
since (Ok x) at bytes old mid new fits wrote synced same = synced_leaves at bytes old mid new fits wrote synced
since (Err e) at bytes old mid new fits wrote synced same = wrote_leaves at bytes old new fits (same ∙ wrote)

pub returns-in_err-write_at : goal.returns-in_err-write_at
returns-in_err-write_at g c = record {
  whole = λ _. IfOk-from_err c.from_residual.result _ c.from_residual.ensures.0;
  since = λ tells. failed_leaves _ _ _ (c.in_err-write_at.ensures.err tells);
  later = c.in_err-write_at.ensures.cause.later;
  cause = λ _. c.in_err-write_at.ensures.cause.cause refl;
  counts = counted_stops _ _ c.from_residual.result c.from_residual.ensures.0 c.in_err-write_at.ensures.counts;
}

pub returns : goal.returns
returns g c =
    let told = g.D.Disk.told in
    let wrote = λ (tells : g.D.Disk.tells ≡ true). c.in_ok-write_at.ensures.written tells in
    record {
      whole = λ tells. whole c.sync.result c.args.at c.args.bytes.now (told c.args.disk.now) (told c.write_at.new.self) (told c.sync.new.self) (wrote tells) (c.sync.ensures.synced tells);
      since = λ tells. since c.sync.result c.args.at c.args.bytes.now (told c.args.disk.now) (told c.write_at.new.self) (told c.sync.new.self) (λ i. omega (arith, c.type_inv.bytes i)) (wrote tells) (c.sync.ensures.synced tells) (c.sync.ensures.err tells);
      later = omega (arith, c.in_ok-write_at.ensures.cause.later, c.sync.ensures.cause.later);
      cause = λ failed. rose_after _ _ _ c.in_ok-write_at.ensures.cause.later (c.sync.ensures.cause.cause failed);
      counts = counted_then _ _ _ c.sync.result c.in_ok-write_at.ensures.counts c.sync.ensures.counts;
    }
