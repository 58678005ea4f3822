use Rattle.std.proofs.Common.{◌≡◌, map, take}
use Rattle.cluster_config.specs.Views.{viewed_request}
use Rattle.cluster_config.proofs.views.RequestViews.copy.Given as goal

abbrev pub invariant-loop-view : goal.invariant-loop-view
invariant-loop-view l = l.requests ≡ map viewed_request (take l.view-index l.view-items)
