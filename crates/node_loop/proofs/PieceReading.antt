-- A piece of a served log is read as one of that log.
use Rattle.std.proofs.Common.{◌≡◌, ℕ, zero, suc, ◌-◌, ◌<◌, ◌≤◌, ◌⊎◌, nat_le, Bool, true, false, List, [], ◌∷◌, ◌++◌, length, drop, reverse, refl, sym, subst, inl, inr, arith, length-append, length-drop, if◌then◌else◌}
use Rattle.std.specs.List.{AllByRecursion}
use Rattle.std.proofs.lemmas.Bool.{leb-true}
use Rattle.std.proofs.lemmas.List.{reverse-append, length-reverse}
use Rattle.ritas_base.specs.declared.event.Event.{Event}
use Rattle.outside.specs.Links.{replies_in}
use Rattle.layer_api.specs.Broadcast.{BroadcastRules}
use Rattle.layer_api.specs.Service.{ServiceRules}
use Rattle.command_log.specs.Index.{HaveFourBytes}
use Rattle.command_log.specs.Rows.{Row, HasRow}
use Rattle.command_log.specs.Pieces.{Piece, row_size, rows_bytes, piece_front, most_rows, longest_log_piece, rows_within, piece_of_log, piece_bytes, IsOfLog}
use Rattle.observer.specs.Reading.{IsPieceRow, ArePieceRows, IsPiece}
use Rattle.observer.specs.Laws.{PieceIsOfLog, PieceIsRead}
use Rattle.observer.proofs.Parts.{part_trans}
use Rattle.world_model.specs.World.{Setting}
use Rattle.world_model.specs.EveryWorld.{IsWorld, LogsGrow}
use Rattle.world_model.specs.Agree.{rows_at}
use Rattle.world_model.specs.RowsFit.{RowsAreOfCommands, RowsFit}
use Rattle.replica.specs.CommandRows.{most_base}
use Rattle.node_loop.specs.PieceLaws.{IsPieceRead, HasSoundBase}
use Rattle.node_loop.specs.Queries.{RoundFits, RoundsFit, QueriesFit}
use Rattle.node_loop.specs.Serving.{Serving, so_far, Round}
use Rattle.node_loop.specs.Told.{after_groups, told_from}
use Rattle.node_loop.proofs.Querying.{fits_asked}
use Rattle.node_loop.proofs.Replying.{HoldsOfReplies, AreSuch, AreAllSuch, replies_hold}

-- ---- rows of a list

has_either : (xs ys : List Row) (r : Row) → HasRow (xs ++ ys) r → HasRow xs r ⊎ HasRow ys r
has_either [] ys r here = inr here
has_either (x ∷ xs) ys r (inl same) = inl (inl same)
has_either (x ∷ xs) ys r (inr there) = elim (has_either xs ys r there) [ inl left ↦ inl (inr left) | inr right ↦ inr right ]

has_reversed : (xs : List Row) (r : Row) → HasRow (reverse xs) r → HasRow xs r
has_reversed [] r here = here
has_reversed (x ∷ xs) r here =
    elim (has_either (reverse xs) (x ∷ []) r (subst (λ (l : List Row). HasRow l r) (reverse-append (x ∷ []) xs) here)) [
      | inl before ↦ inr (has_reversed xs r before)
      | inr last ↦ elim last [ inl same ↦ inl same | inr none ↦ absurd none ]
    ]

has_behind : (k : ℕ) (xs : List Row) (r : Row) → HasRow (drop k xs) r → HasRow xs r
has_behind zero xs r here = here
has_behind (suc k) [] r here = here
has_behind (suc k) (x ∷ xs) r here = inr (has_behind k xs r here)

-- ---- the rows of a piece

record IsWithin (most room : ℕ) (xs rs : List Row) : Type 0 where
  few : length rs ≤ most
  size : length (rows_bytes rs) ≤ room
  long : length rs ≤ length xs

is_within : (most room : ℕ) (xs : List Row) → IsWithin most room xs (rows_within most room xs)
is_within zero room xs = record { few = omega arith; size = omega arith; long = omega arith }
is_within (suc most) room [] = record { few = omega arith; size = omega arith; long = omega arith }
is_within (suc most) room (x ∷ xs) = go (nat_le (row_size x) room) refl (is_within most (room - row_size x) xs)
  where
    go : (b : Bool) → nat_le (row_size x) room ≡ b → IsWithin most (room - row_size x) xs (rows_within most (room - row_size x) xs)
        → IsWithin (suc most) room (x ∷ xs) (if b then x ∷ rows_within most (room - row_size x) xs else [])
    go true fits rest =
        let least = leb-true (row_size x) room fits in
        let few = rest.few in
        let size = rest.size in
        let long = rest.long in
        let whole = length-append x.payload (rows_bytes (rows_within most (room - row_size x) xs)) in
        record { few = omega (arith, few); size = omega (arith, least, size, whole); long = omega (arith, long) }
    go false fits rest = record { few = omega arith; size = omega arith; long = omega arith }

all_within : (n most room : ℕ) (xs : List Row) → ((r : Row) → HasRow xs r → IsPieceRow n r) → ArePieceRows n (rows_within most room xs)
all_within n zero room xs each = tt
all_within n (suc most) room [] each = tt
all_within n (suc most) room (x ∷ xs) each =
    go (nat_le (row_size x) room) (each x (inl refl)) (all_within n most (room - row_size x) xs (λ r there. each r (inr there)))
  where
    go : (b : Bool) → IsPieceRow n x → ArePieceRows n (rows_within most (room - row_size x) xs)
        → ArePieceRows n (if b then x ∷ rows_within most (room - row_size x) xs else [])
    go true first rest = (first, rest)
    go false first rest = tt

-- ---- a piece of a log

is_piece : (n base_len : ℕ) (log : List Row) (position : ℕ) → base_len ≤ most_base → RowsAreOfCommands n base_len log → HaveFourBytes log → position < 4294967296
    → IsPiece n (piece_of_log log position)
is_piece n base_len log position room of_commands four small =
    let xs = drop position (reverse log) in
    let rows = is_within most_rows (longest_log_piece - piece_front) xs in
    let few = rows.few in
    let size = rows.size in
    let long = rows.long in
    let many = of_commands.few in
    let behind = length-drop position (reverse log) in
    let whole = length-reverse log in
    record {
      position = small;
      few = few;
      below = omega (arith, small, long, many, room, behind, whole);
      rows = all_within n most_rows (longest_log_piece - piece_front) xs (λ r here.
          let there = has_reversed log r (has_behind position (reverse log) r here) in
          let of = of_commands.each r there in
          record { origin = of.origin; num = of.num; client = (four r there).0; request = (four r there).1; payload = of.payload });
      short = omega (arith, size);
    }

-- ---- the replies

module _ (service : ServiceRules) (other : BroadcastRules) (grow : LogsGrow service other) (fit : RowsFit service other) (of_log : PieceIsOfLog) (read : PieceIsRead)
    (w : Setting) (world : IsWorld service other w) (base : HasSoundBase w) where
  piece_read : (es : List Event) (at to position : ℕ) → w.is_correct at ≡ true → (position < 4294967296) × HaveFourBytes (rows_at w es at)
      → IsPieceRead w es (record { at = at; to = to; bytes = piece_bytes (piece_of_log (rows_at w es at) position) })
  piece_read es at to position correct fits = λ form.
      let log = rows_at w es at in
      let p = piece_of_log log position in
      let reads = read w.numbers.n (piece_bytes p) p (record { piece = is_piece w.numbers.n (length w.start.base) log position base.room (fit w es at world correct base.rows) fits.1 fits.0; text = refl }) in
      (reads.0, record { moment = log; earlier = ([], refl); rows = subst (λ (q : Piece). IsOfLog log q) (sym reads.1) (of_log log position) })

  read_ones : HoldsOfReplies w (RoundFits w) (IsPieceRead w)
  read_ones = record {
    position = λ es at to client request position is. λ form. absurd (cc);
    refusal = λ es at to client request code. λ form. absurd (cc);
    piece = λ es at to bytes position fits correct is.
        piece_read es at to position correct (fits_asked w es at bytes position is fits correct);
    stays = λ e es x holds. λ form.
        let was = holds form in (
          was.0,
          record {
            moment = was.1.moment;
            earlier = part_trans was.1.moment (rows_at w es x.at) (rows_at w (e ∷ es) x.at) was.1.earlier (grow w (e ∷ []) es x.at world);
            rows = was.1.rows;
          },
        );
  }

  fit_rounds : (past : List Event) (start : Serving) (rounds : List Round) → RoundsFit w past start rounds → AreSuch w (RoundFits w) past start rounds
  fit_rounds past start [] fits = tt
  fit_rounds past start (x ∷ rounds) fits = (fits.0, fit_rounds past start rounds fits.1)

  fit_groups : (past : List Event) (start : Serving) (groups : List (List Round)) → QueriesFit w past start groups → AreAllSuch w (RoundFits w) past start groups
  fit_groups past start [] fits = tt
  fit_groups past start (group ∷ older) fits = (fit_rounds past (after_groups w past start older) group fits.0, fit_groups past start older fits.1)

  pub pieces_of_logs : (past : List Event) (start : Serving) (groups : List (List Round)) → QueriesFit w past start groups
      → AllByRecursion (IsPieceRead w (so_far past (after_groups w past start groups))) (replies_in (told_from w past start groups))
  pieces_of_logs past start groups fits = replies_hold w base.once (RoundFits w) (IsPieceRead w) read_ones past start groups (fit_groups past start groups fits)
