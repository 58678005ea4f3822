use Rattle.std.proofs.Common.{◌≡◌, ℕ, List, [], ◌∷◌, Option, Some, None, refl, sym, ap, ◌∙◌}
use Rattle.link_resume.specs.declared.kept.Kept.{Kept}
use Rattle.link_resume.specs.Lists.{last_number}
use Rattle.node_loop.specs.declared.peers.Pending.{Pending}
use Rattle.node_loop.specs.Resending.{grown, reached}
use Rattle.node_loop.proofs.peers.Keeper.reached.Goals as goal

-- by the number of the last one
abbrev up_to : Option ℕ → ℕ → ℕ → Option ℕ → Option Pending
up_to after end most None = None
up_to after end most (Some last) = Some (record { after = after; last = last; end = end; most = most })

by_last : (after : Option ℕ) (end most : ℕ) (ks : List Kept) → up_to after end most (last_number ks) ≡ reached after end most ks
by_last after end most [] = refl
by_last after end most (k ∷ ks) = refl

pub returns-in-Some : goal.returns-in-Some
returns-in-Some c =
    ap (λ (most : ℕ). Some (record { after = c.args.after; last = c.in-Some.last; end = c.args.end; most = most })) c.grown.ensures
    ∙ (ap (up_to c.args.after c.args.end (grown c.args.most)) (sym c.in-Some.is ∙ c.last_of_batch.ensures)
    ∙ by_last c.args.after c.args.end (grown c.args.most) _)

pub returns-in-None : goal.returns-in-None
returns-in-None c =
    ap (up_to c.args.after c.args.end (grown c.args.most)) (sym c.in-None.is ∙ c.last_of_batch.ensures)
    ∙ by_last c.args.after c.args.end (grown c.args.most) _
