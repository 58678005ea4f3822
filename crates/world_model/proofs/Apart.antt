-- Two different correct replicas of a world whose replicas agree are never apart.
use Rattle.std.proofs.Common.{◌≡◌, List, [], ◌∷◌, ◌++◌, length, sym, inl, inr, arith}
use Rattle.std.proofs.lemmas.List.{length-append}
use Rattle.layer_api.specs.Service.{IsPart}
use Rattle.world_model.specs.Agree.{rows_at, identifier_log}
use Rattle.world_model.specs.Apart.{NoTwoValues, NoTwoRows, NoTwoIdentifierLogs, NoTwoOutcomes, NoTwoDecisions, NoTwoVectors}
use Rattle.world_model.proofs.Positions.{one_row}

-- a part that is as long is the whole
none_more : {X : Type 0} (more xs ys : List X) → more ++ xs ≡ ys → length xs ≡ length ys → xs ≡ ys
none_more [] xs ys e long = e
none_more (x ∷ more) xs ys e long =
    let longer : length (x ∷ more ++ xs) ≡ length ys = cc in
    absurd (omega (arith, length-append more xs, longer, long))

pub whole_part : {X : Type 0} (xs ys : List X) → IsPart xs ys → length xs ≡ length ys → xs ≡ ys
whole_part xs ys part long = none_more part.0 xs ys part.1 long

pub no_two_values : NoTwoValues
no_two_values w es agree i j two s v u differ out_i out_j = differ (agree.values.agree s i j v u two.first two.second out_i out_j)

pub no_two_rows : NoTwoRows
no_two_rows w es agree i j two position r q here there =
    one_row (rows_at w es i) (rows_at w es j) (agree.logs i j two.first two.second) position r q here there

pub no_two_identifier_logs : NoTwoIdentifierLogs
no_two_identifier_logs w es agree i j two long = elim (agree.identifiers i j two.first two.second) [
  | inl part ↦ whole_part (identifier_log w es i) (identifier_log w es j) part long
  | inr part ↦ sym (whole_part (identifier_log w es j) (identifier_log w es i) part (sym long))
]

pub no_two_outcomes : NoTwoOutcomes
no_two_outcomes w es agree i j two d e differ out_i out_j = differ (agree.outcomes i j d e two.first two.second out_i out_j)

pub no_two_decisions : NoTwoDecisions
no_two_decisions w es agree i j two x d e differ out_i out_j = differ (agree.decisions i j x d e two.first two.second out_i out_j)

pub no_two_vectors : NoTwoVectors
no_two_vectors w es agree i j two x y differ round out_i out_j = differ (agree.last_vectors i j x y two.first two.second out_i out_j round)
