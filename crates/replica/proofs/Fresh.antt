-- What a replica stands for before any call.
use Rattle.std.proofs.Common.{◌≡◌, ℕ, zero, suc, ◌≤◌, ◌%◌, ◌^◌, false, List, [], length, inl, refl, sym, ◌∙◌, ap, subst}
use Rattle.std.specs.Prelude.{slice_index, replicate}
use Rattle.keyed_channel.specs.KeyRow.{KeyRow}
use Rattle.ooc_buffers.specs.Lists.{HeldItem}
use Rattle.ritas_core.specs.Rules.{Rules, seat_of}
use Rattle.ritas_core.specs.Machine.{first_state}
use Rattle.ritas_core.specs.Shown.{tagger_of}
use Rattle.ritas_core.specs.Stands.{Meaning, CoreStands}
use Rattle.replica.specs.declared.replica.Replica.{Replica}
use Rattle.replica.specs.Stands.{peers}
use Rattle.replica.specs.Replica.{ReplicaStands}
use Rattle.replica.specs.CommandRows.{command_of, most_base}
use Rattle.command_log.specs.Rows.{Start, entries_of_log}
use Rattle.command_log.specs.Rows.{CommandEntry as Command}
use Rattle.command_log.specs.Standing.{StandsFor}
use Rattle.replica.proofs.Counting.{sum_none}

pub zeros : (n j : ℕ) → slice_index (replicate n 0) j ≡ 0
zeros zero j = refl
zeros (suc n) zero = refl
zeros (suc n) (suc j) = zeros n j

-- nothing is counted, its log begins so and has no more, and it isn't stopped
pub record IsFresh {S E C : Type 0} (s : Start) (rep : Replica S E C) : Type 0 where
  pub going : rep.stopped ≡ false
  pub each : (j : ℕ) → slice_index rep.counts j ≡ 0
  pub all : rep.sent ≡ 0
  pub start : rep.log.start ≡ s
  pub room : length s.base ≤ most_base
  pub log : StandsFor rep.log []
  pub fed : rep.fed ≡ 0

pub fresh_stands : {S E C : Type 0} (s : Start) (m : Meaning S E C KeyRow) (rep : Replica S E C) (r : Rules) (k : KeyRow) (held : List (List HeldItem)) →
    r.service.done (seat_of r) [] ≡ [] → IsFresh s rep → rep.log.f ≡ r.casts.numbers.f → tagger_of rep.core ≡ k → k.me ≡ r.casts.me → k.n ≡ r.casts.numbers.n → CoreStands m rep.core r (first_state held)
    → ReplicaStands s m rep r k (first_state held)
fresh_stands s m rep r k held none fresh f keys own many stands = record {
  keys = keys;
  own = own;
  many = many;
  state = inl (record {
    going = fresh.going;
    core = stands;
    counted = record {
      each = record { each = λ j below. fresh.each j };
      all = fresh.all ∙ sym (ap (λ x. x % 2 ^ 64) (sum_none (peers k)));
    };
    log = record { f = f; start = fresh.start; room = fresh.room; stands = subst (λ (es : List Command). StandsFor rep.log es) (ap (entries_of_log (command_of r [])) (sym none)) fresh.log; count = fresh.fed ∙ ap length (sym none) };
  });
}
