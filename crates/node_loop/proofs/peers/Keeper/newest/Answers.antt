use Rattle.std.proofs.Common.{◌≡◌, List, [], ◌∷◌, unwrap_or, refl, ap, ◌∙◌}
use Rattle.link_resume.specs.declared.kept.Kept.{Kept}
use Rattle.link_resume.specs.Lists.{kept_for, last_number}
use Rattle.node_loop.specs.Resending.{newest_in}
use Rattle.node_loop.proofs.peers.Keeper.newest.Goals as goal

by_last : (ks : List Kept) → unwrap_or (last_number ks) 0 ≡ newest_in ks
by_last [] = refl
by_last (k ∷ ks) = refl

pub returns : goal.returns
returns c = c.unwrap_or.ensures ∙ (ap (λ o. unwrap_or o 0) c.newest.ensures ∙ by_last (kept_for c.args.self.now.resume.lists c.args.peer))
