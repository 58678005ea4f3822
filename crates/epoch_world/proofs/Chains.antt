-- What agreement in each world gives the chains.
use Rattle.std.specs.Prelude.{◌≡◌, ℕ, true, List}
use Rattle.std.proofs.Common.{sym, ◌∙◌, subst}
use Rattle.std.proofs.lemmas.Bool.{eqb-true}
use Rattle.command_log.specs.Rows.{Row, HasRow, closing_client}
use Rattle.world_model.specs.Agree.{IsConfirmed}
use Rattle.epoch_chain.specs.Epochs.{ChainsAgree, ChainsOnce, RowsAreOfEpochs}
use Rattle.epoch_world.specs.Worlds.{Worlds, AreAlone, AreAgreed, epochs_of, WorldChainsAgree, WorldChainsOnce, WorldChainsConfirmed, WorldsAreMarked}
use Rattle.epoch_world.proofs.Served.{own_alone}

pub world_chains_agree : ChainsAgree → WorldChainsAgree
world_chains_agree law ws agreed a b x y = law (epochs_of ws) (λ k i j right there. (agreed k).logs i j right there) a b x y

pub world_chains_once : ChainsOnce → WorldChainsOnce
world_chains_once law ws a x = law a

-- a row of a correct replica's log was confirmed in the world of its epoch
row_confirmed : (ws : Worlds) → AreAlone ws → AreAgreed ws → (k i : ℕ) (r : Row) → (epochs_of ws).is_correct k i ≡ true → HasRow ((epochs_of ws).log k i) r
    → IsConfirmed (ws.setting k) (ws.events k) r
row_confirmed ws by_itself agreed k i r correct has =
    (agreed k).confirmed i r correct (subst (λ (rows : List Row). HasRow rows r) (own_alone (ws.setting k) (ws.events k) i (by_itself k)) has)

pub world_chains_confirmed : RowsAreOfEpochs → WorldChainsConfirmed
world_chains_confirmed law ws by_itself agreed a r x has =
    let i = law (epochs_of ws) a r x has in
    record { epoch = i.epoch; within = i.within; confirmed = row_confirmed ws by_itself agreed i.epoch i.replica r i.correct i.has }

pub worlds_are_marked : WorldsAreMarked
worlds_are_marked ws by_itself agreed number k i r correct has is =
    let c = row_confirmed ws by_itself agreed k i r correct has in
    sym c.request ∙ number k c.at c.command c.correct c.given (c.client ∙ eqb-true r.client closing_client is)
