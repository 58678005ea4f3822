-- Tokens and places of pairs are apart.
use Rattle.std.proofs.Common.{arith}
use Rattle.std.proofs.lemmas.Nat.{mod-mul-add}
use Rattle.std.proofs.lemmas.Bool.Decides.{nat_tests}
use Rattle.tcp_link.specs.Limits.{most_conns}
use Rattle.tcp_link.specs.Tokens.{TokenLaw, PairLaw}

pub tokens_apart : TokenLaw
tokens_apart serial place serial' place' low low' = (
  mod-mul-add serial most_conns place low,
  λ same. (omega arith, omega arith),
  omega arith,
)

pub pairs_apart : PairLaw
pairs_apart at peer at' peer' place is is' = (grind (arith, nat_tests), grind (arith, nat_tests))
