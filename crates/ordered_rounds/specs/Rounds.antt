-- Atomic broadcast by the words so far, the newest first, over any rounds: commands are broadcast, and in each round it is
-- decided which identifiers are appended to the identifier log.
use Rattle.std.specs.Prelude.{ℕ, zero, suc, ◌+◌, ◌/◌, Bool, true, false, not, ◌==◌, ◌&&◌, ◌||◌, nat_le, nat_lt, if◌then◌else◌, List, [], ◌∷◌, ◌++◌, length, Option, Some, None, is_some, unwrap_or}
use Rattle.std.specs.List.{find, range_with_len}
use Rattle.std.specs.Option.{option_or}
use Rattle.ritas_base.specs.declared.slot.Slot.{Slot}
use Rattle.ritas_base.specs.declared.item.Say.{Say}
use Rattle.ritas_base.specs.declared.id.Id.{Id}
use Rattle.ritas_base.specs.Limits.{number_limit}
use Rattle.ritas_base.specs.Numbers.{Numbers}
use Rattle.ritas_base.specs.Shortest.{at_shortest}
use Rattle.ritas_base.specs.Slots.{command_slot}
use Rattle.ritas_base.specs.Versions.{has_past}
use Rattle.ritas_base.specs.declared.mode.FrameVersion.{FrameVersion}
use Rattle.frame_codec.specs.Limits.{most_ids}
use Rattle.frame_codec.specs.Values.{ids_bytes, ids_of}
use Rattle.layer_api.specs.Words.{Word, Ask, Hear, is_heard, asked}
use Rattle.layer_api.specs.Service.{ServiceRules, Seat, Orders, Instance, Decision, Spent, Undecided, Decided, LastVector}
use Rattle.layer_api.specs.Proposals.{backers}
use Rattle.layer_api.specs.Part.{part_of, part_words, says_in}
use Rattle.layer_api.specs.Multi.{Scope, Desk}
use Rattle.layer_api.specs.Windows.{rounds_kept}
use Rattle.ordered_rounds.specs.Identifiers.{in_order, passing_ids, is_without, all_pass, first_of_each, append_ids}
use Rattle.ordered_rounds.specs.Box.{RoundRules, is_round_slot, instance_round}

-- ---- commands

-- an input is said at the replica's next number
abbrev pub says_input : Seat → List Word → Word → List Say
says_input seat w (Ask v) = record { slot = command_slot seat.me (asked w); value = v } ∷ []
says_input seat w (Hear s v) = []

-- the identifiers of the commands that were delivered
abbrev pub delivered_ids : List Word → List Id
delivered_ids [] = []
delivered_ids (Ask v ∷ w) = delivered_ids w
delivered_ids (Hear s v ∷ w) = if s.class == 1 then record { origin = s.origin; num = s.a } ∷ delivered_ids w else delivered_ids w

-- those that aren't in the log
abbrev pub pending : List Word → List Id → List Id
pending w log = passing_ids (is_without log) (delivered_ids w)

-- of each origin's the least floor(most_ids / n), in ascending order
abbrev pub proposal : ℕ → List Id → List Id
proposal n ids = first_of_each (most_ids / n) [] (in_order ids)

-- whether an identifier's command is delivered
abbrev pub has_command : List Word → Id → Bool
has_command w x = is_heard w (command_slot x.origin x.num)

-- ---- what several lists name

-- the identifiers of some lists
abbrev pub entry_ids : List (List ℕ) → List Id
entry_ids [] = []
entry_ids (e ∷ es) = ids_of e ++ entry_ids es

-- those that stand in f + 1 lists at least, ascending
abbrev pub backed : Numbers → List (List ℕ) → List Id
backed p es = passing_ids (λ x. nat_le (p.f + 1) (backers es x)) (in_order (entry_ids es))

-- ---- rounds

abbrev pub is_of_round : ℕ → Slot → Bool
is_of_round a s = not (s.class == 1) && s.a == a

-- a round begins, where the rounds before it are complete with this log, with what is pending
abbrev pub first_ids : ℕ → List Id → Option (List ℕ)
first_ids n [] = None
first_ids n (x ∷ xs) = Some (ids_bytes (proposal n (x ∷ xs)))

abbrev pub begins_with : Seat → Option (List Id) → List Word → Option (List ℕ)
begins_with seat None h = None
begins_with seat (Some log) h = first_ids seat.numbers.n (pending h log)

-- it does so at the shortest prefix where they are and something is
abbrev pub round_asked : Seat → (List Word → Option (List Id)) → List Word → Option (List ℕ)
round_asked seat before w = at_shortest (λ h. begins_with seat (before h) h) w

abbrev pub round_words_by : Seat → ℕ → (List Word → Option (List Id)) → List Word → List Word
round_words_by seat a before w = part_words (round_asked seat before) (is_of_round a) w

module _ (v : RoundRules) where
  abbrev pub round_scope : Numbers → ℕ → Scope
  round_scope p a = record { numbers = p; root = v.root; a = a; attempt = 0 }

  abbrev pub round_desk : Seat → ℕ → Desk
  round_desk seat a = record { scope = round_scope seat.numbers a; me = seat.me; coin = seat.coin }

  -- the log with those of the decision's identifiers appended that it hasn't
  abbrev pub appended : Numbers → List ℕ → List Id → List Id
  appended p decided log = append_ids (passing_ids (is_without log) (v.wanted p decided)) log

  -- a round is complete where it is decided and each command that this wants is delivered
  abbrev pub completes_with : Seat → Option (List Id) → Option (List ℕ) → List Word → Option (List Id)
  completes_with seat None decided h = None
  completes_with seat (Some log) None h = None
  completes_with seat (Some log) (Some decided) h =
      if all_pass (has_command h) (v.wanted seat.numbers decided) then Some (appended seat.numbers decided log) else None

module _ (v : RoundRules) (seat : Seat) where
  abbrev pub completes_at : ℕ → (List Word → Option (List Id)) → List Word → Option (List Id)
  completes_at a before h = completes_with v seat (before h) (v.decision (round_desk v seat a) (round_words_by seat a before h)) h

  -- the log after the rounds below this one, where they are complete: each is so from the shortest prefix on
  abbrev pub log_below : ℕ → List Word → Option (List Id)
  log_below zero w = Some []
  log_below (suc a) w = at_shortest (completes_at a (log_below a)) w

  -- what a round is asked, its words, and what it decided
  abbrev pub round_ask : ℕ → List Word → Option (List ℕ)
  round_ask a w = round_asked seat (log_below a) w

  abbrev pub round_words : ℕ → List Word → List Word
  round_words a w = round_words_by seat a (log_below a) w

  abbrev pub round_decides : ℕ → List Word → Option (List ℕ)
  round_decides a w = v.decision (round_desk v seat a) (round_words a w)

  -- of so many rounds, how many are complete, and the log after those
  abbrev pub complete_of : ℕ → List Word → ℕ
  complete_of zero w = 0
  complete_of (suc a) w = if is_some (log_below (suc a) w) then suc a else complete_of a w

  abbrev pub log_of : ℕ → List Word → List Id
  log_of zero w = []
  log_of (suc a) w = unwrap_or (log_below (suc a) w) (log_of a w)

  -- what a word newly says in the rounds below one, in their order
  abbrev pub rounds_say_below : ℕ → List Word → Word → List Say
  rounds_say_below zero w c = []
  rounds_say_below (suc a) w c =
      rounds_say_below a w c ++ says_in (v.says (round_desk v seat a)) (part_of (round_ask a) (is_of_round a) w c) (round_words a w)

-- rounds
unfoldable pub rounds : ℕ
rounds = number_limit

-- the least number of an origin that isn't in the log
abbrev pub least_without : List Id → ℕ → ℕ
least_without log origin = unwrap_or (find (λ k. is_without log (record { origin = origin; num = k })) (range_with_len 0 (length log + 1))) (length log)

-- whether a round is kept where so many are complete: where there is a past, the current round and the two before it are,
-- and where there is none, each is
abbrev pub is_kept : FrameVersion → ℕ → ℕ → Bool
is_kept version completed a = not (has_past version) || nat_le completed (a + rounds_kept)

-- whether items of a round's slot may be taken: the round is kept, and its instance takes them
abbrev pub round_opens : RoundRules → Seat → List Word → Slot → Bool
round_opens v seat w s =
    nat_lt s.a rounds && (is_kept seat.mode.version (complete_of v seat rounds w) s.a
    && (is_round_slot v (round_scope v seat.numbers s.a) s && v.opens (round_desk v seat s.a) (round_words v seat s.a w) s))

-- the vector of a round, where one is decided
abbrev pub vector_of_round : RoundRules → Seat → ℕ → List Word → Option LastVector
vector_of_round v seat a w = v.vector (round_desk v seat a) (round_words v seat a w)

-- that of the last of so many complete rounds
abbrev pub last_complete : RoundRules → Seat → ℕ → List Word → Option LastVector
last_complete v seat zero w = None
last_complete v seat (suc a) w = vector_of_round v seat a w

-- the last vector: that of the round that isn't complete, or else of the last complete one
abbrev pub last_vector : RoundRules → Seat → List Word → Option LastVector
last_vector v seat w =
    let a = complete_of v seat rounds w in option_or (vector_of_round v seat a w) (last_complete v seat a w)

-- what an instance decided, in its round
abbrev pub inside_of : RoundRules → Seat → List Word → Instance → Option Decision
inside_of v seat w x = v.inside (round_desk v seat (instance_round x)) (round_words v seat (instance_round x) w) x

-- atomic broadcast over these rounds
abbrev pub ordered : RoundRules → ServiceRules
ordered v = record {
  serves = λ root. root == v.root;
  purpose = Orders v.rounds;
  says = λ seat w c. says_input seat w c ++ rounds_say_below v seat rounds w c;
  opens = λ seat w s. if s.class == 1 then true else round_opens v seat w s;
  completed = λ seat w. complete_of v seat rounds w;
  base = λ seat w origin. least_without (log_of v seat rounds w) origin;
  next_number = λ seat w. asked w;
  given = λ seat w. false;
  done = λ seat w. log_of v seat rounds w;
  outcome = λ seat w.
      let a = complete_of v seat rounds w in if v.spent (round_desk v seat a) (round_words v seat a w) then Decided Spent else Undecided;
  last = λ seat w. last_vector v seat w;
  decided = λ seat w x. inside_of v seat w x;
}
