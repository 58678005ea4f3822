use Rattle.std.proofs.Common.{◌∙◌, ap, cond, Some}
use Rattle.std.specs.Ordering.{nat_cmp}
use Rattle.std.specs.Cmp.Lexicographic.{slice_cmp}
use Rattle.std.specs.BTreeMap.{get_by}
use Rattle.std.specs.Str.{bytes_eq}
use Rattle.command_log.specs.ByteKeys.{put_at_bytes}
use Rattle.command_log.proofs.Kept.{put_in}
use Rattle.command_log.proofs.waiting.put.Goals as goal

pub returns-clause-ok : goal.returns-clause-ok
returns-clause-ok c =
    put_in c.args.payloads.now c.insert.new.self c.args.payload.now c.args.origins
    (λ v. put_at_bytes (λ k. k.items) c.args.payloads.now c.insert.new.self c.in_ok-from_slice.field-0 c.args.origins c.in_ok-insert.ensures.updates v
    ∙ ap (λ bs. cond (bytes_eq bs v) (Some c.args.origins) (get_by (λ k. slice_cmp nat_cmp v k.items) c.args.payloads.now)) c.in_ok-from_slice.ensures.items)
