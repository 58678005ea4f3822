use Rattle.std.proofs.Common.{◌≡◌, List, ℕ, ◌++◌, [], take, length, refl, ap, ◌∙◌, subst, arith}
use Rattle.std.proofs.lemmas.Result.{err_from_is_err_and, on_ok_weaker}
use Rattle.outside.specs.Faults.{count_after}
use Rattle.outside.specs.Memory.{BufferState}
use Rattle.outside.specs.Writing.{TookFront}
use Rattle.outside.specs.WritingLaws.{front_more}
use Rattle.node_loop.proofs.Pieces.{piece_went, piece_stopped, more_went, more_stopped, front_kept, both_on_ok, on_err}
use Rattle.node_loop.proofs.past.join.Goals as goal

-- what a piece had before an event is what it is cut back to
cut_back : (piece held all : List ℕ) (count : ℕ) → count ≡ length piece → all ≡ held → take (length piece) held ≡ piece → take count all ≡ piece
cut_back piece held all count many same kept = ap (λ (n : ℕ). take n all) many ∙ (ap (λ (l : List ℕ). take (length piece) l) same ∙ kept)

pub returns-in_err-write_all-clause-front : goal.returns-in_err-write_all-clause-front
returns-in_err-write_all-clause-front g c =
    let failed = err_from_is_err_and c.from_residual.result c.from_residual.ensures.1 in
    let wrote = c.in_err-write_all.ensures in
    let piece = c.args.piece.now.taken in
    let old = g.K.Sink.taken c.args.tape.now in
    let new = g.K.Sink.taken c.write_all.new.sink in
    let held = c.event.new.sink.taken in
    let cut = cut_back piece held c.taken.result.now c.len-before.result c.len-before.ensures c.taken.ensures (front_kept piece held _ (c.event.ensures.front refl)).1 in
    rw failed.1 (
      wrote.counts.rises refl,
      wrote.later,
      λ t base text took. front_more base new text _ (piece_stopped base old new text piece took (subst (λ (l : List ℕ). TookFront old new l) cut (wrote.front t))),
    )

pub returns : goal.returns
returns g c =
    let first = c.in_ok-write_all.ensures in
    let last = c.event-2.ensures in
    let piece = c.args.piece.now.taken in
    let old = g.K.Sink.taken c.args.tape.now in
    let mid = g.K.Sink.taken c.write_all.new.sink in
    let new = g.K.Sink.taken c.event-2.new.sink in
    let held = c.event.new.sink.taken in
    let cut = cut_back piece held c.taken.result.now c.len-before.result c.len-before.ensures c.taken.ensures (front_kept piece held _ (c.event.ensures.front refl)).1 in
    let none : c.clear.new.self.taken ≡ [] = ap (λ (b : BufferState). b.taken) c.clear.ensures in
    let still = first.counts.stands in
    record {
      whole = rw none
          (both_on_ok c.event-2.result _ _ _ (on_ok_weaker c.event-2.result (λ same. same ∙ still) last.counts.stands)
          (λ t. on_ok_weaker c.event-2.result
          (λ went base text took. more_went base mid new text _ (piece_went base old mid text piece took (first.whole t ∙ ap (λ (l : List ℕ). old ++ l) cut)) went) (last.whole t)));
      front = on_err c.event-2.result _
          (λ failed. (
            last.counts.rises failed ∙ ap count_after still,
            omega (arith, still, last.later),
            λ t base text took. more_stopped base mid new text _ (piece_went base old mid text piece took (first.whole t ∙ ap (λ (l : List ℕ). old ++ l) cut)) (last.front t),
          ));
    }
