use Rattle.std.proofs.Common.{◌≡◌, ◌≤◌, ℕ, ◌+◌, List, ◌++◌, length, take, drop, sym, ap, ◌∙◌, arith, rules, length-append, length-take}
use Rattle.std.proofs.Math.Seq.{take-add}
use Rattle.outside.specs.Disks.{disk_state_of}
use Rattle.record_file.proofs.reading.read_file.Goals as goal

read_on : (seen file piece new : List ℕ) (at k : ℕ) → at ≡ length file → file ≡ take (length file) seen → take k piece ≡ take k (drop at seen) → k ≤ length piece → new ≡ file ++ take k piece
    → new ≡ take (length new) seen
read_on seen file piece new at k is front bytes le e =
    let long : length new ≡ length file + k = ap length e ∙ omega (arith, length-append file (take k piece), length-take k piece, le) in
    let more : take k piece ≡ take k (drop (length file) seen) = bytes ∙ ap (λ (x : ℕ). take k (drop x seen)) is in
    e ∙ ap (λ (x : List ℕ). x ++ take k piece) front ∙ ap (λ (x : List ℕ). take (length file) seen ++ x) more ∙ sym (take-add (length file) k seen) ∙ ap (λ (x : ℕ). take x seen) (sym long)

pub loop-piece-preserved : goal.loop-piece-preserved
loop-piece-preserved g c =
    let inv = c.loop-piece.invariant in
    record {
      same = λ tells. c.in_ok-came.ensures.same tells ∙ inv.same tells;
      stands = c.in_ok-came.ensures.counts ∙ inv.stands;
      front = λ tells.
          let seen = (disk_state_of (g.D.Disk.told c.args.disk.now)).seen in
          read_on seen c.loop-piece.file.items c.read.new.buf _ _ c.in_ok-came.came (search rules) (inv.front tells)
          (rw (inv.same tells) at (c.in_ok-came.ensures.bytes tells)) (omega (arith, c.in_ok-came.ensures.count)) (search rules);
    }
