use Rattle.std.proofs.Common.{List, ℕ, ◌++◌, refl, ap, ◌∙◌, subst}
use Rattle.std.proofs.lemmas.Result.{err_from_is_err_and}
use Rattle.outside.specs.Writing.{TookFront}
use Rattle.node_loop.proofs.Pieces.{piece_went, piece_stopped}
use Rattle.node_loop.proofs.past.hand_on.Goals as goal

pub returns-in_err-write_all-clause-front : goal.returns-in_err-write_all-clause-front
returns-in_err-write_all-clause-front g c =
    let failed = err_from_is_err_and c.from_residual.result c.from_residual.ensures.1 in
    let wrote = c.in_err-write_all.ensures in
    let old = g.K.Sink.taken c.args.tape.now in
    let new = g.K.Sink.taken c.write_all.new.sink in
    rw failed.1 (
      wrote.counts.rises refl,
      wrote.later,
      λ t base text took. piece_stopped base old new text c.args.piece.now.taken took (subst (λ (l : List ℕ). TookFront old new l) c.taken.ensures (wrote.front t)),
    )

pub returns-clause-whole : goal.returns-clause-whole
returns-clause-whole g c =
    let wrote = c.in_ok-write_all.ensures in
    let old = g.K.Sink.taken c.args.tape.now in (
      wrote.counts.stands,
      λ t base text took. piece_went base old _ text c.args.piece.now.taken took (wrote.whole t ∙ ap (λ (l : List ℕ). old ++ l) c.taken.ensures),
    )
