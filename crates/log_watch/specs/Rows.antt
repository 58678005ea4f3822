-- Worked rows: four nodes, of which one may be faulty, and row 0 of the log: command 0 of replica 0, request 1 of
-- client 7, "hi".
use Rattle.std.specs.Prelude.{◌≡◌, ℕ, true, false, List, [], ◌∷◌, codes, length, None, refl}
use Rattle.ritas_base.specs.Numbers.{Numbers}
use Rattle.outside.specs.Links.{Starts, Sends, Gives}
use Rattle.outside.specs.declared.link.LinkItem.{LinkItem}
use Rattle.outside.specs.declared.link.LinkItem.TheVariants as items
use Rattle.outside.specs.declared.link.LinkPlan.TheVariants as plans
use Rattle.client_port.specs.Messages.{four_bytes_at}
use Rattle.observer.specs.Reading.{two_at, row_left, front_left, form_fault}
use Rattle.observer.specs.Watching.{backed, entered_given, piece_fault}
use Rattle.log_watch.specs.Watching.{log_after, asked_next, watching_acts, reaches}

abbrev four : Numbers
four = record { n = 4; f = 1 }

abbrev nodes : List (List ℕ)
nodes = codes "a" ∷ codes "b" ∷ codes "c" ∷ codes "d" ∷ []

-- a query for a position below 256
abbrev query : ℕ → List ℕ
query position = 76 ∷ 0 ∷ 0 ∷ 0 ∷ position ∷ []

-- node k gives row 0, with this last byte
abbrev gives : ℕ → ℕ → LinkItem
gives k last =
    items.Reply k (3 ∷ 0 ∷ 0 ∷ 0 ∷ 0 ∷ 1 ∷ 0 ∷ 0 ∷ 0 ∷ 0 ∷ 0 ∷ 0 ∷ 0 ∷ 0 ∷ 7 ∷ 0 ∷ 0 ∷ 0 ∷ 1 ∷ 0 ∷ 2 ∷ 104 ∷ last ∷ [])

-- each node is asked for position 0; the newest call stands first
is_begun : watching_acts four nodes [] ≡
    Sends (record { at = 0; to = 3; bytes = query 0 })
    ∷ Sends (record { at = 0; to = 2; bytes = query 0 })
    ∷ Sends (record { at = 0; to = 1; bytes = query 0 })
    ∷ Sends (record { at = 0; to = 0; bytes = query 0 })
    ∷ Starts (plans.Client nodes)
    ∷ []
is_begun = refl

-- the node that gave a piece is asked again, for the log's length
is_asked_again : watching_acts four nodes (gives 0 105 ∷ []) ≡
    Sends (record { at = 0; to = 0; bytes = query 0 }) ∷ Gives (gives 0 105) ∷ watching_acts four nodes []
unfolding piece_fault form_fault front_left row_left four_bytes_at two_at backed entered_given
is_asked_again = refl

-- the second node's piece enters the row
second_enters : length (log_after four (gives 2 105 ∷ gives 0 105 ∷ [])) ≡ 1
unfolding piece_fault form_fault front_left row_left four_bytes_at two_at backed entered_given
second_enters = refl

-- so with one row that is wanted it ends, and with two it goes on, and asks for position 1
one_is_enough : reaches four 1 (gives 0 105 ∷ []) (gives 2 105) ≡ true
unfolding piece_fault form_fault front_left row_left four_bytes_at two_at backed entered_given
one_is_enough = refl

two_are_wanted : reaches four 2 (gives 0 105 ∷ []) (gives 2 105) ≡ false
unfolding piece_fault form_fault front_left row_left four_bytes_at two_at backed entered_given
two_are_wanted = refl

asks_for_one : watching_acts four nodes (gives 2 105 ∷ gives 0 105 ∷ []) ≡
    Sends (record { at = 0; to = 2; bytes = query 1 })
    ∷ Gives (gives 2 105)
    ∷ watching_acts four nodes (gives 0 105 ∷ [])
unfolding piece_fault form_fault front_left row_left four_bytes_at two_at backed entered_given
asks_for_one = refl

-- a reply that is refused is followed by no query: another row of the same node, and what is no piece
change_is_refused : asked_next four (gives 0 105 ∷ []) (gives 0 106) ≡ None
unfolding piece_fault form_fault front_left row_left four_bytes_at two_at backed entered_given
change_is_refused = refl

no_piece : asked_next four [] (items.Reply 0 (codes "x")) ≡ None
unfolding piece_fault form_fault front_left row_left four_bytes_at two_at backed entered_given
no_piece = refl

-- and so is any other item
other_item : asked_next four [] (items.Down 0 2) ≡ None
other_item = refl
