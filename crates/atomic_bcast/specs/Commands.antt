-- The service of commands alone: each input is broadcast at the origin's next number, and nothing is decided.
use Rattle.std.specs.Prelude.{ℕ, ◌+◌, Bool, false, not, ◌==◌, ◌||◌, List, [], length, unwrap_or, None}
use Rattle.std.specs.List.{find, range_with_len}
use Rattle.layer_api.specs.Service.{ServiceRules, Carries, Undecided}
use Rattle.layer_api.specs.Words.{Word, is_heard, asked}
use Rattle.ritas_base.specs.Slots.{command_slot}
use Rattle.ordered_rounds.specs.Rounds.{says_input}

-- whether the origin's command of this number was delivered
abbrev pub is_heard_from : List Word → ℕ → ℕ → Bool
is_heard_from w origin num = is_heard w (command_slot origin num)

-- and whether it wasn't
abbrev pub is_missing : List Word → ℕ → ℕ → Bool
is_missing w origin num = not (is_heard_from w origin num)

-- the least number of an origin at which nothing was delivered: it is at most as great as there are words
unfoldable pub base_of : List Word → ℕ → ℕ
base_of w origin = unwrap_or (find (is_missing w origin) (range_with_len 0 (length w + 1))) (length w)

abbrev pub commands : ServiceRules
commands = record {
  serves = λ root. root == 1 || root == 2;
  purpose = Carries;
  says = says_input;
  opens = λ seat w s. s.class == 1;
  completed = λ seat w. 0;
  base = λ seat w origin. base_of w origin;
  next_number = λ seat w. asked w;
  given = λ seat w. false;
  done = λ seat w. [];
  outcome = λ seat w. Undecided;
  last = λ seat w. None;
  decided = λ seat w x. None;
}
