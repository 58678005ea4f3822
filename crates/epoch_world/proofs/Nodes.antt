-- What nodes have that serve epochs one after the other.
use Rattle.std.specs.Prelude.{ℕ, List, ◌∷◌, length, refl}
use Rattle.std.proofs.Common.{sym, ◌∙◌, subst, inl}
use Rattle.ritas_base.specs.declared.event.Event.{Event}
use Rattle.command_log.specs.Rows.{Row}
use Rattle.world_model.specs.Agree.{rows_at}
use Rattle.epoch_chain.specs.Chain.{chain_of}
use Rattle.epoch_chain.specs.Epochs.{OneIsPart, IsLog, IsView, MarkedIsClosed, LogIsChain, OverIsClosed}
use Rattle.epoch_world.specs.Worlds.{Worlds, epochs_of, ServesEpoch, served_world, WorldChainsAgree, ServedAgree, ServedIsKept, ServedCloses}
use Rattle.epoch_world.proofs.Chains.{worlds_are_marked}
use Rattle.epoch_world.proofs.Served.{served_is_chain, served_ends}

module _ (ws : Worlds) (earlier : List (List Row)) (es : List Event) (i : ℕ) (is : ServesEpoch ws earlier es i) where
  -- the log of the session by itself
  abbrev rows : List Row
  rows = rows_at (ws.setting (length earlier)) es i

  pub its_log : IsLog (epochs_of ws) (length earlier) rows
  its_log = record { replica = i; correct = is.correct; part = is.part }

  pub its_view : IsView (epochs_of ws) (rows ∷ earlier)
  its_view = (inl its_log, is.kept)

pub served_agree : LogIsChain → WorldChainsAgree → ServedAgree
served_agree law agree ws by_itself agreed a b es fs i j x y =
    let v = ws.setting (length a) in
    let w = ws.setting (length b) in
    let mine = served_is_chain law v es i a (by_itself (length a)) in
    let its = served_is_chain law w fs j b (by_itself (length b)) in
    let one = agree ws agreed (rows_at v es i ∷ a) (rows_at w fs j ∷ b) (its_view ws a es i x) (its_view ws b fs j y) in
    subst (λ (rows : List Row). OneIsPart rows (rows_at (served_world ws b) fs j)) (sym mine)
    (subst (λ (rows : List Row). OneIsPart (chain_of (rows_at v es i ∷ a)) rows) (sym its) one)

pub served_is_kept : OverIsClosed → ServedIsKept
served_is_kept law ws by_itself earlier es i is ended =
    let w = ws.setting (length earlier) in (
      record {
        log = rows_at w es i;
        stands = its_log ws earlier es i is;
        closed = sym (served_ends law w es i earlier (by_itself (length earlier))) ∙ ended;
        same = inl refl;
      },
      is.kept,
    )

pub served_closes : OverIsClosed → MarkedIsClosed → ServedCloses
served_closes law closes ws by_itself agreed number earlier es i is closed =
    let w = ws.setting (length earlier) in
    served_ends law w es i earlier (by_itself (length earlier))
    ∙ closes (epochs_of ws) (worlds_are_marked ws by_itself agreed number) (rows_at w es i) earlier (its_log ws earlier es i is) is.kept closed
