use Rattle.std.proofs.Common.{◌≡◌, ◌+◌, ◌<◌, ◌++◌, ◌∷◌, [], ℕ, List, length, take, drop, get_or, replicate, ap, ◌∙◌, sym, append_assoc, arith, length-append, rules}
use Rattle.std.proofs.lemmas.List.{take_at, drop_more, get_or-replicate}
use Rattle.record_file.proofs.making.with_gate.Goals as goal

-- behind a front, zeros begin with one
with_zero : (front head zeros : List ℕ) → front ≡ head → get_or zeros (length head) 0 ≡ 0 → length head < length zeros → take (length head + 1) (front ++ drop (length head) zeros) ≡ head ++ 0 ∷ []
with_zero front head zeros is zero lt =
    let n = length head in
    let rest = drop (n + 1) zeros in
    let behind : drop n zeros ≡ 0 ∷ rest = drop_more zeros n 0 lt ∙ ap (λ (x : ℕ). x ∷ rest) zero in
    ap (λ (x : List ℕ). take (n + 1) (x ++ drop n zeros)) is ∙ ap (λ (x : List ℕ). take (n + 1) (head ++ x)) behind
    ∙ ap (take (n + 1)) (sym (append_assoc head (0 ∷ []) rest)) ∙ take_at (head ++ 0 ∷ []) rest (n + 1) (omega (arith, length-append head (0 ∷ [])))

pub returns : goal.returns
returns c =
    let head = c.args.head.now in
    with_zero c.copy_from_slice.new.self head (replicate 256 0) (search rules) (get_or-replicate 256 (length head) 0 0 c.requires) c.requires
