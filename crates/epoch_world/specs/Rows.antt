-- Worked rows: the logs of epochs, and logs over the rows of the epochs before.
use Rattle.std.specs.Prelude.{◌≡◌, ℕ, true, false, ◌==◌, if◌then◌else◌, [], ◌∷◌, refl}
use Rattle.command_log.specs.Rows.{Row, count_origins, closing_client, has_ended}
use Rattle.world_model.specs.World.{Setting, states_of}
use Rattle.world_model.specs.Agree.{rows_at, own_rows_at}
use Rattle.world_model.specs.Rows.{silent, world_of}
use Rattle.epoch_world.specs.Worlds.{Worlds, epochs_of, world_over, served_world}

abbrev row : ℕ → ℕ → Row
row client request = record { id = record { origin = 0; num = 0 }; client = client; request = request; payload = [] }

abbrev close : ℕ → Row
close epoch = row closing_client epoch

-- a world in which an empty command has two origins before any event; it is read as one of client 0 with the request 0
abbrev logging : Setting
logging = record (world_of 3) { service = record silent { done = λ seat w. record { origin = 0; num = 0 } ∷ record { origin = 1; num = 0 } ∷ [] } }

-- ---- epochs of worlds

-- in epoch 0 three replicas are correct, and their logs are empty; from then on one is, and each log has a row
abbrev two : Worlds
two = record { setting = λ k. if k == 0 then world_of 3 else record logging { is_correct = λ i. i == 0 }; events = λ k. [] }

first_epoch : (epochs_of two).is_correct 0 2 ≡ true
first_epoch = refl

next_epoch : (epochs_of two).is_correct 1 2 ≡ false
next_epoch = refl

first_log : (epochs_of two).log 0 2 ≡ []
unfolding states_of
first_log = refl

next_log : (epochs_of two).log 1 0 ≡ row 0 0 ∷ []
unfolding states_of count_origins
next_log = refl

-- ---- a log over other rows

-- has its own above them
above : rows_at (world_over logging (close 0 ∷ row 7 1 ∷ [])) [] 2 ≡ row 0 0 ∷ close 0 ∷ row 7 1 ∷ []
unfolding states_of count_origins
above = refl

its_own : own_rows_at (world_over logging (close 0 ∷ row 7 1 ∷ [])) [] 2 ≡ row 0 0 ∷ []
unfolding states_of count_origins
its_own = refl

-- and none of a client and request that have one there
not_again : rows_at (world_over logging (close 0 ∷ row 0 0 ∷ [])) [] 2 ≡ close 0 ∷ row 0 0 ∷ []
unfolding states_of count_origins
not_again = refl

-- a closing row of theirs doesn't end it
goes_on : has_ended (world_over logging (close 0 ∷ [])).start (own_rows_at (world_over logging (close 0 ∷ [])) [] 2) ≡ false
unfolding states_of count_origins
goes_on = refl

-- in epoch 1 of these worlds, behind what closed epoch 0
served : rows_at (served_world two ((row 8 1 ∷ close 0 ∷ row 7 1 ∷ []) ∷ [])) [] 0 ≡ row 0 0 ∷ close 0 ∷ row 7 1 ∷ []
unfolding states_of count_origins
served = refl
