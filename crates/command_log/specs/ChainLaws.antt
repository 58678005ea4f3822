-- The rows of a log over a base are those that the chain gets of the log of a session by itself: the fresh ones, up to the first that
-- closes.
use Rattle.std.specs.Prelude.{◌≡◌, ℕ, Bool, true, false, ◌==◌, ◌&&◌, ◌||◌, if◌then◌else◌, List, [], ◌∷◌, ◌++◌, refl}
use Rattle.std.proofs.Common.{sym, ◌∙◌, ap, ap₂, inl, inr, append-nil}
use Rattle.std.proofs.lemmas.Bool.{cases_Bool, both_ways, false_from_ne_true, or_cases, or_parts, or_left, or_right, eqb-true, and_parts}
use Rattle.command_log.specs.Rows.{CommandEntry, Row, Start, has_row, row_of, closes, is_closed, alone, chained_on, has_ended, is_entered, rows_with, own_rows, rows_of}
use Rattle.command_log.specs.Fresh.{with_fresh, fresh, closed_part}
use Rattle.command_log.specs.Laws.{has_its, Enters, enters, enters_from, by_entry, ended_stays}

-- ---- up to the first that closes

-- rows of which none closes stay whole
pub open_whole : (rs : List Row) → is_closed rs ≡ false → closed_part rs ≡ rs
open_whole [] none = refl
open_whole (r ∷ rs) none = ap (λ (b : Bool). if b then closed_part rs else r ∷ rs) (or_parts (closes r) (is_closed rs) none).1

-- and where one closes, one of those up to it does
pub closed_part_closes : (rs : List Row) → is_closed (closed_part rs) ≡ is_closed rs
closed_part_closes [] = refl
closed_part_closes (r ∷ rs) = go (closed_part_closes rs) (is_closed rs) refl
  where
    go : is_closed (closed_part rs) ≡ is_closed rs → (b : Bool) → is_closed rs ≡ b → is_closed (if b then closed_part rs else r ∷ rs) ≡ (closes r || is_closed rs)
    go before true closed = before ∙ closed ∙ sym (or_right (closes r) (is_closed rs) closed)
    go before false none = refl

-- ---- fresh rows

-- a property of the rows with one more: of those of before, where it is left out, and of these with it
pub by_fresh : (P : List Row → Type 0) (chain new : List Row) (r : Row) → (has_row (new ++ chain) r.client r.request ≡ true → P new)
    → (has_row (new ++ chain) r.client r.request ≡ false → P (r ∷ new)) → P (with_fresh chain new r)
by_fresh P chain new r stays more = go (has_row (new ++ chain) r.client r.request) refl
  where
    go : (b : Bool) → has_row (new ++ chain) r.client r.request ≡ b → P (if b then new else r ∷ new)
    go true has = stays has
    go false none = more none

-- a client and a request that have a row have one in the chain or among the fresh rows
pub fresh_covers : (chain rs : List Row) (client request : ℕ) → has_row rs client request ≡ true → has_row (fresh chain rs ++ chain) client request ≡ true
fresh_covers chain [] client request has = absurd (both_ways false refl has)
fresh_covers chain (r ∷ rs) client request has =
    by_fresh (λ (new : List Row). has_row (new ++ chain) client request ≡ true) chain (fresh chain rs) r
    (λ old. elim (or_cases (r.client == client && r.request == request) (has_row rs client request) has) [
      | inl here ↦
          let parts = and_parts (r.client == client) (r.request == request) here in
          sym (ap₂ (has_row (fresh chain rs ++ chain)) (eqb-true r.client client parts.0) (eqb-true r.request request parts.1)) ∙ old
      | inr there ↦ fresh_covers chain rs client request there
    ])
    (λ none. elim (or_cases (r.client == client && r.request == request) (has_row rs client request) has) [
      | inl here ↦ or_left (r.client == client && r.request == request) (has_row (fresh chain rs ++ chain) client request) here
      | inr there ↦
          or_right (r.client == client && r.request == request) (has_row (fresh chain rs ++ chain) client request) (fresh_covers chain rs client request there)
    ])

-- ---- a log over a base

module _ (base : List Row) (f : ℕ) (e : CommandEntry) (es : List CommandEntry) (own rows : List Row) (before : own ≡ closed_part (fresh base rows)) where
  abbrev s : Start
  s = chained_on base

  abbrev new : List Row
  new = fresh base rows

  -- an epoch that is closed gets no more rows, and neither does the closed part
  when_closed : is_closed new ≡ true → rows_with s f e es own ≡ closed_part (fresh base (rows_with alone f e es rows))
  when_closed closed =
      ended_stays s f e es own (ap is_closed before ∙ closed_part_closes new ∙ closed)
      ∙ (before
      ∙ by_entry (λ (qs : List Row). closed_part new ≡ closed_part (fresh base qs)) alone f e es rows refl
      (λ it. by_fresh (λ (qs : List Row). closed_part new ≡ closed_part qs) base new (row_of e) (λ has. refl)
      (λ none. sym (ap (λ (b : Bool). if b then closed_part new else row_of e ∷ new) closed))))

  module _ (unclosed : is_closed new ≡ false) where
    -- all fresh rows are in the log
    whole : own ≡ new
    whole = before ∙ open_whole new unclosed

    lasts : is_closed own ≡ false
    lasts = ap is_closed whole ∙ unclosed

    -- what a session by itself enters, the log enters where it is fresh
    when_entered : Enters alone f e es rows → rows_with s f e es own ≡ closed_part (fresh base (row_of e ∷ rows))
    when_entered it =
        by_fresh (λ (qs : List Row). rows_with s f e es own ≡ closed_part qs) base new (row_of e) (λ has. left_out has ∙ before) taken
      where
        left_out : has_its e (new ++ base) ≡ true → rows_with s f e es own ≡ own
        left_out has =
            by_entry (λ (qs : List Row). qs ≡ own) s f e es own refl
            (λ now. absurd (both_ways (has_its e (own ++ base)) now.none (ap (λ (qs : List Row). has_its e (qs ++ base)) whole ∙ has)))

        taken : has_its e (new ++ base) ≡ false → rows_with s f e es own ≡ closed_part (row_of e ∷ new)
        taken none =
            let is =
            enters_from s f e es own
            (record { lasts = lasts; none = ap (λ (qs : List Row). has_its e (qs ++ base)) whole ∙ none; confirmed = it.confirmed }) in
            ap (λ (b : Bool). if b then row_of e ∷ own else own) is
            ∙ (ap (λ (qs : List Row). row_of e ∷ qs) whole
            ∙ sym (ap (λ (b : Bool). if b then closed_part new else row_of e ∷ new) unclosed))

    -- and it enters nothing else
    when_left : is_entered alone f e es rows ≡ false → rows_with s f e es own ≡ own
    when_left isnt =
        by_entry (λ (qs : List Row). qs ≡ own) s f e es own refl
        (λ now. absurd (both_ways (is_entered alone f e es rows) isnt
        (enters_from alone f e es rows (record { lasts = refl; none = none now; confirmed = now.confirmed }))))
      where
        none : Enters s f e es own → has_its e (rows ++ []) ≡ false
        none now =
            ap (has_its e) (append-nil rows)
            ∙ false_from_ne_true (has_its e rows) (λ has.
            both_ways (has_its e (own ++ base)) now.none
            (ap (λ (qs : List Row). has_its e (qs ++ base)) whole ∙ fresh_covers base rows (row_of e).client (row_of e).request has))

    when_open : rows_with s f e es own ≡ closed_part (fresh base (rows_with alone f e es rows))
    when_open =
        elim (cases_Bool (is_entered alone f e es rows)) [
          | inl is ↦
              when_entered (enters alone f e es rows is)
              ∙ sym (ap (λ (b : Bool). closed_part (fresh base (if b then row_of e ∷ rows else rows))) is)
          | inr isnt ↦ when_left isnt ∙ (before ∙ sym (ap (λ (b : Bool). closed_part (fresh base (if b then row_of e ∷ rows else rows))) isnt))
        ]

  pub gets_next : rows_with s f e es own ≡ closed_part (fresh base (rows_with alone f e es rows))
  gets_next = elim (cases_Bool (is_closed new)) [ inl closed ↦ when_closed closed | inr unclosed ↦ when_open unclosed ]

of_base : (base : List Row) (f : ℕ) (es : List CommandEntry) → own_rows (chained_on base) f es ≡ closed_part (fresh base (rows_of f es))
of_base base f [] = refl
of_base base f (e ∷ es) = gets_next base f e es (own_rows (chained_on base) f es) (rows_of f es) (of_base base f es)

-- so the rows above the base are what the chain gets
pub of_log : (s : Start) (f : ℕ) (es : List CommandEntry) → s.chained ≡ true → own_rows s f es ≡ closed_part (fresh s.base (rows_of f es))
of_log s f es chained =
    let same : s ≡ chained_on s.base = ap (λ (b : Bool). record { base = s.base; chained = b }) chained in
    ap (λ (t : Start). own_rows t f es) same ∙ of_base s.base f es

-- and the log is over exactly where one of the fresh rows closes
pub over_of_log : (s : Start) (f : ℕ) (es : List CommandEntry) → s.chained ≡ true → has_ended s (own_rows s f es) ≡ is_closed (fresh s.base (rows_of f es))
over_of_log s f es chained =
    ap (λ (b : Bool). b && is_closed (own_rows s f es)) chained ∙ (ap is_closed (of_log s f es chained) ∙ closed_part_closes (fresh s.base (rows_of f es)))
