-- What the parts of a core were called with after a history, and what an entry makes due. Each list has the newest first.
use Rattle.std.specs.Prelude.{ℕ, Option, Some, None, List, [], ◌∷◌, ◌++◌}
use Rattle.ritas_base.specs.declared.slot.Slot.{Slot}
use Rattle.ritas_base.specs.declared.item.Item.{Item}
use Rattle.ritas_base.specs.declared.item.Msg.{Msg}
use Rattle.ritas_base.specs.History.{Call, Take}
use Rattle.layer_api.specs.Words.{Word, Ask, Hear}
use Rattle.ritas_core.specs.Rules.{Rules, seat_of}
use Rattle.ritas_core.specs.Casts.{called, started_all, news_at, start_news, delivered_by}

-- an entry of a replica's history: an item that it took, or an input that it was given
pub data Entry : Type 0 where
  Took : Item → Entry
  Given : List ℕ → Entry

-- the words that the service had, and the calls that the broadcast of each slot had
pub record Parts : Type 0 where
  pub words : List Word
  pub calls : Slot → List Call

abbrev pub no_parts : Parts
no_parts = record { words = []; calls = λ s. [] }

-- the service gets a word, and what it newly says is started
abbrev pub service_told : Rules → Word → Parts → Parts
service_told r c p = record { words = c ∷ p.words; calls = started_all (r.service.says (seat_of r) p.words c) p.calls }

abbrev pub told_news : Rules → Word → Parts → List Msg
told_news r c p = start_news r.casts (r.service.says (seat_of r) p.words c) p.calls

-- the service hears what a slot newly delivers, if it does
abbrev pub heard_at : Rules → Slot → Option (List ℕ) → Parts → Parts
heard_at r s None p = p
heard_at r s (Some value) p = service_told r (Hear s value) p

abbrev pub heard_news : Rules → Slot → Option (List ℕ) → Parts → List Msg
heard_news r s None p = []
heard_news r s (Some value) p = told_news r (Hear s value) p

-- the broadcast of its slot takes an item
abbrev pub taken_at : Item → Parts → Parts
taken_at item p = record { words = p.words; calls = called p.calls item.slot (Take item) }

-- what an item's slot delivers by it
abbrev pub item_delivers : Rules → Item → Parts → Option (List ℕ)
item_delivers r item p = delivered_by r.casts item.slot (p.calls item.slot) (Take item)

-- the parts after an entry: an item goes to its slot's broadcast, and what that delivers to the service
abbrev pub parts_after : Rules → Entry → Parts → Parts
parts_after r (Took item) p = heard_at r item.slot (item_delivers r item p) (taken_at item p)
parts_after r (Given value) p = service_told r (Ask value) p

-- what becomes due by an entry, call by call
abbrev pub made_by : Rules → Entry → Parts → List Msg
made_by r (Took item) p = news_at r.casts item.slot (p.calls item.slot) (Take item) ++ heard_news r item.slot (item_delivers r item p) (taken_at item p)
made_by r (Given value) p = told_news r (Ask value) p

-- the parts after a history
abbrev pub parts : Rules → List Entry → Parts
parts r [] = no_parts
parts r (e ∷ h) = parts_after r e (parts r h)
