-- What the getters of the service of commands answer.
use Rattle.std.specs.Prelude.{◌≡◌, ℕ, ◌<◌, nat_lt, false, ◌==◌, List, [], slice_index, refl, None}
use Rattle.std.proofs.Common.{sym, ◌∙◌, inl, arith}
use Rattle.std.proofs.lemmas.Bool.{or_left, or_from, lt-ltb, le-ltb}
use Rattle.layer_api.specs.Service.{Seat, Undecided, IsBase}
use Rattle.layer_api.specs.Words.{Word}
use Rattle.layer_api.specs.ServiceCalls.{ServiceShown, Shows, ShowsNear}
use Rattle.atomic_bcast.specs.Commands.{is_heard_from, base_of, commands}
use Rattle.atomic_bcast.specs.Laws.Commands.{base_from}
use Rattle.ordered_rounds.specs.Early.{has_early}
use Rattle.atomic_bcast.specs.CmdRoot.{CommandsStand}
use Rattle.atomic_bcast.specs.declared.cmd_root.CmdRoot.{CmdRoot}

-- by the inputs so far, and the bases
abbrev pub shown_with : ℕ → List ℕ → ServiceShown
shown_with inputs bases = record {
  opens = λ q. q.class == 1;
  completed = 0;
  base = λ o. slice_index bases o;
  next_number = inputs;
  given = false;
  done = [];
  outcome = Undecided;
  last = None;
}

abbrev pub commands_shown : CmdRoot → ServiceShown
commands_shown s = shown_with s.inputs s.bases

below_itself : (k : ℕ) → nat_lt k k ≡ false
below_itself k = le-ltb k k (omega arith)

-- the base that a value keeps
pub base_known : (s : CmdRoot) (seat : Seat) (w : List Word) (o : ℕ) → CommandsStand s seat w → o < seat.numbers.n → slice_index s.bases o ≡ base_of w o
base_known s seat w o stands within =
    let base : ℕ = slice_index s.bases o in
    let is : IsBase (is_heard_from w o) base = record {
      missing = sym (stands.heard o base within) ∙ or_from _ _ (below_itself base) (stands.tight.missing o within);
      below = λ k before. sym (stands.heard o k within) ∙ or_left (nat_lt k base) (has_early s.early o k) (lt-ltb k base before);
    } in
    sym (base_from w o base is)

pub shows_rules : (s : CmdRoot) (seat : Seat) (w : List Word) → CommandsStand s seat w → Shows commands seat w (commands_shown s)
shows_rules s seat w stands = record {
  opens = λ q. refl;
  completed = refl;
  base = λ o within. base_known s seat w o stands within;
  next_number = stands.inputs;
  given = refl;
  done = refl;
  outcome = refl;
  last = refl;
}

-- where what is kept stays, all is answered as before the call
pub shows_as_before : (s : CmdRoot) (seat : Seat) (w : List Word) (c : Word) → CommandsStand s seat w → ShowsNear commands seat w c (commands_shown s)
shows_as_before s seat w c stands = record {
  opens = λ q. inl refl;
  completed = inl refl;
  base = λ o within. inl (base_known s seat w o stands within);
  next_number = inl stands.inputs;
  given = inl refl;
  done_before = ([], refl);
  done_after = ([], refl);
  outcome = inl refl;
  last = inl refl;
}
