use Rattle.std.proofs.Common.{◌≡◌, ℕ, ◌+◌, ◌-◌, ◌<◌, ap, List, ◌++◌, length, map, take, drop, get_or, replicate, bit_xor, arith}
use Rattle.std.proofs.Math.ListN.{set}
use Rattle.std.proofs.lemmas.List.{length-append, length-map, length-take, length-drop, length-replicate}
use Rattle.std.proofs.lemmas.List.Edits.{map_over_more}
use Rattle.std.proofs.lemmas.Grind.{get_or_default_zero}
use Rattle.keyed_channel.proofs.tags.padded.Goals as goal

-- one byte more is changed
one_more : (f : ℕ → ℕ) (xs ys : List ℕ) (i : ℕ) → length xs ≡ 64 → i < 64 → ys ≡ map f (take i xs) ++ drop i xs
    → set ys i (f (get_or ys i 0)) ≡ map f (take (i + 1) xs) ++ drop (i + 1) xs
one_more f xs ys i long lt is =
    let within : i < length ys =
    omega (arith, ap length is, length-append (map f (take i xs)) (drop i xs), length-map (take i xs) f, length-take i xs, length-drop i xs) in
    map_over_more f xs ys i (get_or ys i 0) (omega arith) is (let e : get_or ys i (get_or ys i 0) ≡ get_or ys i 0 = get_or_default_zero ys i _ within in cc)

pub loop-x-preserved : goal.loop-x-preserved
loop-x-preserved c =
    let key = c.args.key.now in
    let long : length c.block_of-block.result ≡ 64 =
    omega (arith, ap length c.block_of-block.ensures, length-append key (replicate (64 - length key) 0), length-replicate {A = ℕ} (64 - length key) 0) in
    one_more (λ x. bit_xor x c.args.byte) _ _ _ long c.loop-x-test.true c.loop-x.invariant
