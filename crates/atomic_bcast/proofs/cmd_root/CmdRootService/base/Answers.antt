use Rattle.std.proofs.Common.{◌≡◌, ◌∙◌, rules}
use Rattle.std.specs.Prelude.{slice_index}
use Rattle.atomic_bcast.specs.CmdRootGetters.{base_known}
use Rattle.atomic_bcast.proofs.cmd_root.CmdRootService.base.Goals as goal

pub returns-clause-rules : goal.returns-clause-rules
returns-clause-rules c = λ seat w stands within.
    let kept : c.unwrap_or.result ≡ slice_index c.args.self.now.bases c.args.origin = search rules in
    kept ∙ base_known c.args.self.now seat w c.args.origin stands within
