-- What a node took over up to a closing row is what the chain got of the epoch.
use Rattle.std.specs.Prelude.{◌≡◌, ℕ, ◌<◌, Bool, true, false, ◌==◌, ◌&&◌, ◌||◌, if◌then◌else◌, List, [], ◌∷◌, ◌++◌, length, refl, ◌⊎◌}
use Rattle.std.proofs.Common.{sym, ◌∙◌, ap, ap₂, subst, inl, inr, append_assoc, arith}
use Rattle.std.proofs.lemmas.Bool.{cases_lt, and_parts, and_from, or_cases, or_left, or_right, both_ways, eqb-true, eq-eqb}
use Rattle.std.proofs.lemmas.List.{length-append}
use Rattle.layer_api.specs.Service.{IsPart}
use Rattle.command_log.specs.Rows.{Row, has_row, HasRow, closing_client, closes, is_closed}
use Rattle.command_log.specs.Fresh.{fresh, closed_part}
use Rattle.command_log.specs.ChainLaws.{closed_part_closes, fresh_covers}
use Rattle.epoch_chain.specs.Chain.{chain_after, chain_of}
use Rattle.epoch_chain.specs.Epochs.{Epochs, IsLog, IsKept, AreKept, MarkedIsClosed, TakenOverIsKept}
use Rattle.epoch_chain.proofs.Parts.{part_itself, part_of_part, parts_of_one, has_in_part}
use Rattle.epoch_chain.proofs.Closing.{closed_in_log, closed_more, closed_equal, closed_again, chain_grows}
use Rattle.epoch_chain.proofs.Chains.{kept_one, kept_after, newest, below, kept_is_view, rows_are_of_epochs}

-- ---- lists with the same end

longer : {X : Type 0} (x : X) (xs rest : List X) → rest ≡ x ∷ xs ++ rest → ⊥
longer x xs rest e =
    let lengths = ap length e in
    let sum = length-append xs rest in
    absurd (omega (arith, lengths, sum))

same_front : {X : Type 0} (xs ys rest : List X) → xs ++ rest ≡ ys ++ rest → xs ≡ ys
same_front [] [] rest e = refl
same_front [] (y ∷ ys) rest e = absurd (longer y ys rest e)
same_front (x ∷ xs) [] rest e = absurd (longer x xs rest (sym e))
same_front (x ∷ xs) (y ∷ ys) rest e =
    let first : x ≡ y = cc in
    let tails : xs ++ rest ≡ ys ++ rest = cc in
    ap₂ (λ (z : _) (zs : List _). z ∷ zs) first (same_front xs ys rest tails)

part_of_front : {X : Type 0} (xs ys rest : List X) → IsPart (xs ++ rest) (ys ++ rest) → IsPart xs ys
part_of_front xs ys rest part = (part.0, same_front (part.0 ++ xs) ys rest (append_assoc part.0 xs rest ∙ part.1))

-- a list with more isn't a part of itself
no_part : {X : Type 0} (x : X) (xs rest : List X) → IsPart (x ∷ xs ++ rest) rest → ⊥
no_part x xs rest part =
    let lengths = ap length part.1 in
    let sum = length-append part.0 (x ∷ xs ++ rest) in
    let inner = length-append xs rest in
    absurd (omega (arith, lengths, sum, inner))

-- ---- closing rows

closed_by : (rs : List Row) (r : Row) → HasRow rs r → closes r ≡ true → is_closed rs ≡ true
closed_by [] r here is = absurd here
closed_by (q ∷ rs) r (inl same) is = or_left (closes q) (is_closed rs) (ap closes same ∙ is)
closed_by (q ∷ rs) r (inr there) is = or_right (closes q) (is_closed rs) (closed_by rs r there is)

-- a row that closes
record HasClosing (rs : List Row) : Type 0 where
  pub row : Row
  pub has : HasRow rs row
  pub is : closes row ≡ true

closing_of : (rs : List Row) → is_closed rs ≡ true → HasClosing rs
closing_of [] closed = absurd (both_ways false refl closed)
closing_of (r ∷ rs) closed =
    elim (or_cases (closes r) (is_closed rs) closed) [
      | inl is ↦ record { row = r; has = inl refl; is = is }
      | inr there ↦ let q = closing_of rs there in record { row = q.row; has = inr q.has; is = q.is }
    ]

-- ---- what a chain has

-- a client and a request that have a row
record HasRequest (rs : List Row) (client request : ℕ) : Type 0 where
  pub row : Row
  pub has : HasRow rs row
  pub of_client : row.client ≡ client
  pub of_request : row.request ≡ request

request_in : (rs : List Row) (client request : ℕ) → has_row rs client request ≡ true → HasRequest rs client request
request_in [] client request has = absurd (both_ways false refl has)
request_in (r ∷ rs) client request has =
    elim (or_cases (r.client == client && r.request == request) (has_row rs client request) has) [
      | inl here ↦
          let parts = and_parts (r.client == client) (r.request == request) here in
          record { row = r; has = inl refl; of_client = eqb-true r.client client parts.0; of_request = eqb-true r.request request parts.1 }
      | inr there ↦ let q = request_in rs client request there in record { row = q.row; has = inr q.has; of_client = q.of_client; of_request = q.of_request }
    ]

request_in_two : (xs ys : List Row) (client request : ℕ) → has_row (xs ++ ys) client request ≡ true
    → (has_row xs client request ≡ true) ⊎ (has_row ys client request ≡ true)
request_in_two [] ys client request has = inr has
request_in_two (x ∷ xs) ys client request has =
    elim (or_cases (x.client == client && x.request == request) (has_row (xs ++ ys) client request) has) [
      | inl here ↦ inl (or_left (x.client == client && x.request == request) (has_row xs client request) here)
      | inr there ↦ elim (request_in_two xs ys client request there) [
        | inl first ↦ inl (or_right (x.client == client && x.request == request) (has_row xs client request) first)
        | inr second ↦ inr second
      ]
    ]

-- a row's own client and request have one
has_its_row : (rs : List Row) (q : Row) → HasRow rs q → has_row rs q.client q.request ≡ true
has_its_row [] q here = absurd here
has_its_row (r ∷ rs) q (inl same) =
    ap (λ (x : Row). has_row (r ∷ rs) x.client x.request) (sym same)
    ∙ or_left (r.client == r.client && r.request == r.request) (has_row rs r.client r.request)
    (and_from (r.client == r.client) (r.request == r.request) (eq-eqb _ _ refl) (eq-eqb _ _ refl))
has_its_row (r ∷ rs) q (inr there) = or_right (r.client == q.client && r.request == q.request) (has_row rs q.client q.request) (has_its_row rs q there)

-- where closing rows have the numbers of their epochs, a log with one gives the chain one
pub marked_is_closed : MarkedIsClosed
marked_is_closed e marked log earlier stands kept closed =
    go (request_in_two new chain q.row.client q.row.request (fresh_covers chain log q.row.client q.row.request (has_its_row log q.row q.has)))
  where
    chain : List Row
    chain = chain_of earlier

    new : List Row
    new = fresh (chain_of earlier) log

    q : HasClosing log
    q = closing_of log closed

    go : (has_row new q.row.client q.row.request ≡ true) ⊎ (has_row chain q.row.client q.row.request ≡ true) → is_closed new ≡ true
    go (inl now) = let p = request_in new q.row.client q.row.request now in closed_by new p.row p.has (ap (λ (c : ℕ). c == closing_client) p.of_client ∙ q.is)
    go (inr before) =
        let p = request_in chain q.row.client q.row.request before in
        let i = rows_are_of_epochs e earlier p.row (kept_is_view e earlier kept) p.has in
        let in_log = has_in_part log (e.log (length earlier) stands.replica) stands.part q.row q.has in
        let here = marked (length earlier) stands.replica q.row stands.correct in_log q.is in
        let there = marked i.epoch i.replica p.row i.correct i.has (ap (λ (c : ℕ). c == closing_client) p.of_client ∙ q.is) in
        let same = p.of_request in
        let within = i.within in
        absurd (omega (arith, here, there, same, within))

-- ---- an epoch inside a view

-- what a view keeps of epoch k
record KeptAt (e : Epochs) (b : List (List Row)) (k : ℕ) : Type 0 where
  pub rows : List Row
  pub older : List (List Row)
  pub lengths : length older ≡ k
  pub part : IsPart (chain_of (rows ∷ older)) (chain_of b)
  pub keeps : AreKept e older
  pub kept : IsKept e (length older) (chain_of older) rows

kept_at : (e : Epochs) (b : List (List Row)) (k : ℕ) → AreKept e b → k < length b → KeptAt e b k
kept_at e [] k x within = absurd (omega (arith, within))
kept_at e (ys ∷ b) k x within =
    elim (cases_lt k (length b)) [
      | inl deeper ↦
          let i = kept_at e b k x.1 deeper in
          record {
            rows = i.rows;
            older = i.older;
            lengths = i.lengths;
            part = part_of_part (chain_of (i.rows ∷ i.older)) (chain_of b) (chain_of (ys ∷ b)) i.part (chain_grows (chain_of b) ys);
            keeps = i.keeps;
            kept = i.kept;
          }
      | inr few ↦ record { rows = ys; older = b; lengths = omega (arith, within, few); part = part_itself (chain_of (ys ∷ b)); keeps = x.1; kept = x.0 }
    ]

-- ---- what was taken over

-- rows that close, and are a part of what the chain got of a log, are all of that
taken : (e : Epochs) (k : ℕ) (chain log : List Row) (r : Row) (rows : List Row) → IsLog e k log → closes r ≡ true → is_closed rows ≡ false
    → IsPart (r ∷ rows) (closed_part (fresh chain log)) → IsKept e k chain (r ∷ rows)
taken e k chain log r rows stands is none part =
    let closed : is_closed (r ∷ rows) ≡ true = or_left (closes r) (is_closed rows) is in
    let whole : closed_part (r ∷ rows) ≡ r ∷ rows = ap (λ (b : Bool). if b then closed_part rows else r ∷ rows) none in
    let same = sym whole ∙ (sym (closed_equal (r ∷ rows) (closed_part (fresh chain log)) part closed) ∙ closed_again (fresh chain log)) in
    let here = has_in_part (r ∷ rows) (closed_part (fresh chain log)) part r (inl refl) in
    record {
      log = log;
      stands = stands;
      closed = closed_by (fresh chain log) r (has_in_part (closed_part (fresh chain log)) (fresh chain log) (closed_in_log (fresh chain log)) r here) is;
      same = inr same;
    }

-- rows of which the first closes, with others behind them that are closed, close twice
twice : (r : Row) (rows new : List Row) → is_closed rows ≡ false → is_closed new ≡ true → IsPart new (r ∷ rows) → IsPart (r ∷ rows) new
twice r rows new none closed part = go part.0 part.1
  where
    go : (more : List Row) → more ++ new ≡ r ∷ rows → IsPart (r ∷ rows) new
    go [] same = ([], sym same)
    go (m ∷ more) same =
        let tail : more ++ new ≡ rows = cc in
        absurd (both_ways (is_closed rows) none (ap is_closed (sym tail) ∙ closed_more more new closed))

pub taken_over_is_kept : TakenOverIsKept
taken_over_is_kept e alike [] earlier r rows view kept is none part =
    absurd (no_part r rows (chain_of earlier) (part_of_part (r ∷ rows ++ chain_of earlier) [] (chain_of earlier) part (below e alike [] earlier view kept (omega arith))))
taken_over_is_kept e alike (ys ∷ b) earlier r rows view kept is none part =
    elim (cases_lt (length earlier) (length b)) [
      | inl deeper ↦
          let i = kept_at e b (length earlier) view.1 deeper in
          let before : chain_of i.older ≡ chain_of earlier = kept_one e alike i.older earlier i.keeps kept i.lengths in
          let stands = subst (λ (k : ℕ). IsLog e k i.kept.log) i.lengths i.kept.stands in
          let after : chain_of (i.rows ∷ i.older) ≡ chain_after (chain_of earlier) i.kept.log =
          kept_after e (length i.older) (chain_of i.older) i.rows i.kept ∙ ap (λ (c : List Row). chain_after c i.kept.log) before in
          let new : List Row = closed_part (fresh (chain_of earlier) i.kept.log) in
          let closed = closed_part_closes (fresh (chain_of earlier) i.kept.log)
          ∙ (ap (λ (c : List Row). is_closed (fresh c i.kept.log)) (sym before) ∙ i.kept.closed) in
          let its : IsPart (new ++ chain_of earlier) (chain_of (ys ∷ b)) =
          subst (λ (l : List Row). IsPart l (chain_of (ys ∷ b))) after (part_of_part (chain_of (i.rows ∷ i.older)) (chain_of b) (chain_of (ys ∷ b)) i.part (chain_grows (chain_of b) ys)) in
          elim (parts_of_one (r ∷ rows ++ chain_of earlier) (new ++ chain_of earlier) (chain_of (ys ∷ b)) part its) [
            | inl mine ↦ taken e (length earlier) (chain_of earlier) i.kept.log r rows stands is none (part_of_front (r ∷ rows) new (chain_of earlier) mine)
            | inr other ↦
                taken e (length earlier) (chain_of earlier) i.kept.log r rows stands is none
                (twice r rows new none closed (part_of_front new (r ∷ rows) (chain_of earlier) other))
          ]
      | inr few ↦ elim (cases_lt (length b) (length earlier)) [
        | inl fewer ↦
            absurd (no_part r rows (chain_of earlier)
            (part_of_part (r ∷ rows ++ chain_of earlier) (chain_of (ys ∷ b)) (chain_of earlier) part (below e alike (ys ∷ b) earlier view kept (omega (arith, fewer)))))
        | inr many ↦
            let lengths : length b ≡ length earlier = omega (arith, few, many) in
            let before : chain_of b ≡ chain_of earlier = kept_one e alike b earlier view.1 kept lengths in
            let mine = newest e (length b) (chain_of b) ys view.0 in
            let stands = subst (λ (k : ℕ). IsLog e k mine.log) lengths mine.stands in
            let after : chain_of (ys ∷ b) ≡ chain_after (chain_of earlier) mine.log = mine.after ∙ ap (λ (c : List Row). chain_after c mine.log) before in
            taken e (length earlier) (chain_of earlier) mine.log r rows stands is none
            (part_of_front (r ∷ rows) (closed_part (fresh (chain_of earlier) mine.log)) (chain_of earlier)
            (subst (λ (l : List Row). IsPart (r ∷ rows ++ chain_of earlier) l) after part))
      ]
    ]
