-- What a plan means: its header, its players, and between which of them frames go.
use Rattle.std.specs.Prelude.{ℕ, ◌+◌, ◌-◌, ◌*◌, ◌/◌, ◌%◌, ◌^◌, ◌==◌, ◌&&◌, ◌||◌, Bool, true, false, not, nat_lt, List, [], ◌∷◌, filter, if◌then◌else◌}
use Rattle.std.specs.List.{flat_map}
use Rattle.ritas_base.specs.History.{replicas}
use Rattle.ritas_base.specs.declared.item.Msg.{Msg}
use Rattle.ritas_base.specs.declared.plan.Plan.{Plan}
use Rattle.ritas_base.specs.declared.plan.Attack.{Attack}
use Rattle.ritas_base.specs.declared.plan.Attack.TheVariants.{Absent, TwoFace, Flip}
use Rattle.schedule_file.specs.declared.header.Header.{Header}
use Rattle.schedule_file.specs.declared.header.HeaderKeys.TheVariants.{Master}
use Rattle.world_model.specs.declared.player.Player.{Player}
use Rattle.world_model.specs.declared.player.Player.TheVariants.{Correct, Face}
use Rattle.world_model.specs.Players.{Cast, number_of}
use Rattle.schedule_plan.specs.Flips.{flipped}

abbrev pub is_absent : Attack → Bool
is_absent Absent = true
is_absent _ = false

-- how many replicas are correct: the first ones
abbrev pub correct_of : Plan → ℕ
correct_of p = if is_absent p.attack then p.p.n else p.p.n - p.p.f

abbrev pub is_correct_in : Plan → ℕ → Bool
is_correct_in p i = nat_lt i (correct_of p)

-- the header of the schedule that a plan means
abbrev pub header_of : Plan → Header
header_of p = record { session = p.session; p = p.p; mode = p.mode; correct = 2 ^ correct_of p - 1; keys = Master p.master }

-- ---- players

-- the faces of a faulty replica: A, which is the only one where bits are exchanged, and B
abbrev pub face_a : ℕ → ℕ
face_a i = 2 * i

abbrev pub face_b : ℕ → ℕ
face_b i = 2 * i + 1

abbrev pub faces_of : Attack → ℕ → List Player
faces_of Flip i = Face (face_a i) ∷ []
faces_of TwoFace i = Face (face_a i) ∷ Face (face_b i) ∷ []
faces_of _ i = []

-- what a face shows of a message that its replica sends
abbrev pub face_shown : Attack → Msg → Msg
face_shown Flip m = flipped m
face_shown _ m = m

abbrev pub cast_of : Attack → Cast
cast_of attack = record { number = λ a. a / 2; shown = face_shown attack }

abbrev pub players_at : Plan → ℕ → List Player
players_at p i = if is_correct_in p i then Correct i ∷ [] else faces_of p.attack i

-- by replica number, then face A before B
abbrev pub players_of : Plan → List Player
players_of p = flat_map (players_at p) (replicas p.p.n)

-- ---- links

abbrev pub is_two_faced : Attack → Bool
is_two_faced TwoFace = true
is_two_faced _ = false

-- whether a player is of letter A, where faces have letters: so are the correct replicas below half of n - f, rounded up
abbrev pub is_of_a : Plan → Player → Bool
is_of_a p (Correct i) = nat_lt i ((p.p.n - p.p.f + 1) / 2)
is_of_a p (Face a) = a % 2 == 0

abbrev pub same_letter : Plan → Player → Player → Bool
same_letter p (Correct i) (Correct j) = true
same_letter p x y = if is_of_a p x then is_of_a p y else not (is_of_a p y)

-- whether frames go from one player to the other
abbrev pub are_linked : Plan → Player → Player → Bool
are_linked p x y = not (number_of (cast_of p.attack) x == number_of (cast_of p.attack) y) && (not (is_two_faced p.attack) || same_letter p x y)

-- the players whose frames come to y
abbrev pub linked_to : Plan → Player → List Player
linked_to p y = filter (λ x. are_linked p x y) (players_of p)

-- the players that frames of x go to
abbrev pub linked_from : Plan → Player → List Player
linked_from p x = filter (λ y. are_linked p x y) (players_of p)
