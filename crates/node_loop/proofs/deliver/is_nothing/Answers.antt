use Rattle.std.proofs.Common.{◌≡◌, ◌==◌, Bool, List, [], ◌∷◌, length, true, false, not, Option, Some, None, is_some, Bor, sym, ap, ◌∙◌, arith}
use Rattle.std.specs.Option.{MatchOption}
use Rattle.std.proofs.lemmas.Bool.{ne_eqb}
use Rattle.link_resume.specs.declared.kept.Kept.{Kept}
use Rattle.node_loop.specs.declared.output.Part.{Part}
use Rattle.node_loop.specs.Resending.{part_of}
use Rattle.link_resume.specs.Lists.{kept_for}
use Rattle.node_loop.proofs.deliver.is_nothing.Goals as goal

pub returns-in-All : goal.returns-in-All
returns-in-All c = record {
  nothing =
      ap (λ (n : _). n == 0) c.count.ensures
      ∙ sym (ap (λ (part : Part). length (part_of part (kept_for c.args.resume.now.lists c.args.peer)) == 0) c.in-All.is);
}

not_empty : (k : Kept) (rest : List Kept) → (length (k ∷ rest) == 0) ≡ false
not_empty k rest = ne_eqb (length (k ∷ rest)) 0 (λ e. omega (arith, e))

-- nothing comes next just where there is nothing
by_next : (o : Option (Bor Kept)) (none : Bool) (xs rest : List Kept) → MatchOption o (xs ≡ []) (λ k. xs ≡ k.now ∷ rest)
    → is_some o ≡ not none → none ≡ (length xs == 0)
by_next None true xs rest is so = sym (ap (λ (l : List Kept). length l == 0) is)
by_next None false xs rest is so = absurd cc
by_next (Some k) true xs rest is so = absurd cc
by_next (Some k) false xs rest is so = sym (ap (λ (l : List Kept). length l == 0) is ∙ not_empty k.now rest)

pub returns-in-Batch : goal.returns-in-Batch
returns-in-Batch c = record {
  nothing =
      by_next c.next_frame.result c.is_none.result _ _ c.next_frame.ensures c.is_none.ensures
      ∙ (ap (λ (l : List Kept). length l == 0) c.batch-batch.ensures
      ∙ sym (ap (λ (part : Part). length (part_of part (kept_for c.args.resume.now.lists c.args.peer)) == 0) c.in-Batch.is));
}
