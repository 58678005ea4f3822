use Rattle.std.proofs.Common.{◌≡◌, [], ◌+◌, ◌++◌, true, false, get_or, take, drop}
use Rattle.std.specs.List.{concat}
use Rattle.outside.specs.WritingLaws.{writes_then, fails_as}
use Rattle.schedule_file.proofs.KeyRows.{each_more, each_cut}
use Rattle.schedule_file.proofs.writer.write_each.Goals as goal

pub returns-in_err-write_all : goal.returns-in_err-write_all
returns-in_err-write_all g c =
    let keys = c.args.keys.now in
    let i = c.loop-key.key-index in
    let front = concat (take i keys) in
    let key = get_or keys i [] in
    rw (each_cut keys i c.loop-key-test.true)
    (fails_as (front ++ key) (concat (drop (i + 1) keys)) _ _ _ _ _ _ _ c.from_residual.ensures.0 (writes_then {G = true ≡ true} front key _ _ _ _ _ _ _ _ c.loop-key.invariant c.in_err-write_all.ensures))

pub loop-key-preserved : goal.loop-key-preserved
loop-key-preserved g c =
    let keys = c.args.keys.now in
    let i = c.loop-key.key-index in
    rw (each_more keys i c.loop-key-test.true) (writes_then {G = false ≡ true} (concat (take i keys)) (get_or keys i []) _ _ _ _ _ _ _ _ c.loop-key.invariant c.in_ok-write_all.ensures)
