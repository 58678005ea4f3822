use Rattle.std.proofs.Common.{refl}
use Rattle.atomic_bcast.specs.CmdRootGetters.{shows_as_before}
use Rattle.layer_api.specs.Words.{Ask}
use Rattle.atomic_bcast.proofs.cmd_root.CmdRootService.input.Goals as goal

pub returns-in-Err : goal.returns-in-Err
returns-in-Err c = record {
  out = c.in-Err.ensures.err;
  dead = refl;
  shows = λ seat w stands may. shows_as_before c.args.self.now seat w (Ask c.args.value.now) stands;
}
