use Rattle.std.proofs.Common.{◌≡◌, List, [], ◌∷◌, refl, sym, ap, ◌∙◌}
use Rattle.std.proofs.Math.Bool.{not, not-not}
use Rattle.std.specs.Option.{is_none}
use Rattle.link_resume.specs.declared.kept.Kept.{Kept}
use Rattle.link_resume.specs.Lists.{batch, last_number}
use Rattle.node_loop.specs.Resending.{has_none}
use Rattle.node_loop.proofs.peers.Keeper.is_taken.Goals as goal

-- a batch of one frame has one, where there is one
one_or_none : (ks : List Kept) → is_none (last_number (batch 0 ks)) ≡ has_none ks
one_or_none [] = refl
one_or_none (k ∷ ks) = refl

pub returns : goal.returns
returns c = sym (not-not c.is_none.result) ∙ (ap not (sym c.is_none.ensures) ∙ (ap is_none c.last_of_batch.ensures ∙ one_or_none _))
