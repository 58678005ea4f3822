-- What a log over the chain of the epochs before is, in the world of an epoch.
use Rattle.std.specs.Prelude.{◌≡◌, ℕ, List, ◌∷◌, ◌++◌, refl}
use Rattle.std.proofs.Common.{sym, ◌∙◌, ap, append-nil}
use Rattle.ritas_base.specs.declared.event.Event.{Event}
use Rattle.command_log.specs.Rows.{CommandEntry, Row, Start, is_closed, alone, chained_on, has_ended, own_rows, rows_over, rows_of, entries_of_log}
use Rattle.command_log.specs.Fresh.{fresh}
use Rattle.world_model.specs.World.{Setting, states_of}
use Rattle.world_model.specs.Audit.{first_broken}
use Rattle.world_model.specs.Agree.{identifier_log, command_delivered, rows_at, own_rows_at}
use Rattle.epoch_chain.specs.Chain.{chain_of}
use Rattle.epoch_chain.specs.Epochs.{LogIsChain, OverIsClosed}
use Rattle.epoch_world.specs.Worlds.{world_over, ServedIsSame, ServedAudit, ServedIsChain, ServedEnds}

-- ---- where logs begin is no matter of states

pub served_is_same : ServedIsSame
unfolding states_of
served_is_same w base es i = refl

pub served_audit : ServedAudit
unfolding states_of first_broken
served_audit w base es = refl

-- the commands of a replica's identifier log
abbrev entries_of : Setting → List Event → ℕ → List CommandEntry
entries_of w es i = entries_of_log (command_delivered w es i) (identifier_log w es i)

entries_same : (w : Setting) (base : List Row) (es : List Event) (i : ℕ) → entries_of (world_over w base) es i ≡ entries_of w es i
unfolding states_of
entries_same w base es i = refl

-- ---- logs

-- the log of a session by itself has its own rows alone
pub own_alone : (w : Setting) (es : List Event) (i : ℕ) → w.start ≡ alone → rows_at w es i ≡ own_rows_at w es i
own_alone w es i by_itself = ap (λ (s : Start). own_rows_at w es i ++ s.base) by_itself ∙ append-nil (own_rows_at w es i)

rows_alone : (w : Setting) (es : List Event) (i : ℕ) → w.start ≡ alone → rows_at w es i ≡ rows_of w.numbers.f (entries_of w es i)
rows_alone w es i by_itself = own_alone w es i by_itself ∙ ap (λ (s : Start). own_rows s w.numbers.f (entries_of w es i)) by_itself

pub served_is_chain : LogIsChain → ServedIsChain
served_is_chain law w es i earlier by_itself =
    ap (λ (entries : List CommandEntry). rows_over (chained_on (chain_of earlier)) w.numbers.f entries) (entries_same w (chain_of earlier) es i)
    ∙ (law earlier w.numbers.f (entries_of w es i) ∙ ap (λ (rows : List Row). chain_of (rows ∷ earlier)) (sym (rows_alone w es i by_itself)))

pub served_ends : OverIsClosed → ServedEnds
served_ends law w es i earlier by_itself =
    let s = chained_on (chain_of earlier) in
    ap (λ (entries : List CommandEntry). has_ended s (own_rows s w.numbers.f entries)) (entries_same w (chain_of earlier) es i)
    ∙ (law earlier w.numbers.f (entries_of w es i) ∙ ap (λ (rows : List Row). is_closed (fresh (chain_of earlier) rows)) (sym (rows_alone w es i by_itself)))
